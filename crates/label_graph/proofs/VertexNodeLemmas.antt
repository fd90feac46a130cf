-- The nodes of a store after a vertex more or less, and what a vertex's rows tell.
use Rattle.std.proofs.Common.{◌≡◌, ℕ, zero, suc, ◌-◌, ◌<◌, Bool, true, false, ◌||◌, cond, Option, Some, None, List, [], ◌∷◌, ◌++◌, map}
use Rattle.std.proofs.Common.{length, get_or, take, refl, sym, ap, ◌∙◌, subst, arith}
use Rattle.std.specs.Prelude.{◌==◌, IsPermutation, option_map, is_some, nat_eq, nat_lt, slice_get, slice_set, position, swap_remove}
use Rattle.std.specs.Prelude.{unwrap_or}
use Rattle.std.specs.List.{list_any}
use Rattle.std.specs.Cmp.{unsigned_Decides}
use Rattle.std.specs.Map.{lookup, keys_of, values_of}
use Rattle.std.specs.Option.{option_map_or}
use Rattle.std.proofs.lemmas.Bool.{eq-eqb, eqb-true, true≢false, lt-ltb}
use Rattle.std.proofs.lemmas.List.{get_or_default}
use Rattle.std.proofs.lemmas.List.Sorted.{IsPermutation-map, IsPermutation-sym, IsPermutation-to_front, IsPermutation-swap_remove}
use Rattle.std.proofs.lemmas.Map.Made.{is_some-lookup, lookup_key_same}
use Rattle.std.proofs.lemmas.Option.{none-some, same_Some, unwrap_or-slice_get}
use Rattle.indexmap.specs.IndexMap.{swap_remove_entry}
use Rattle.indexmap.proofs.MapLemmas.{Found-position, Missing-position}
use Rattle.flux_model.specs.Graph.{triple_cmp, has_incident_triple}
use Rattle.flux_model.specs.declared.graph.Vertex.{Vertex}
use Rattle.flux_model.specs.declared.graph.Triple.{Triple}
use Rattle.label_graph.specs.declared.link.Link.{Link}
use Rattle.label_graph.specs.declared.link.Node.{Node}
use Rattle.label_graph.specs.declared.link.Places.{Places}
use Rattle.label_graph.specs.declared.link.RowEntry.{RowEntry}
use Rattle.label_graph.specs.declared.names.Name.{Name}
use Rattle.label_graph.specs.Places.{Row, ArePlaced, link_eq, vertex_of, outs_of, ins_of, outs, ins, out_link, in_link}
use Rattle.flux_model.specs.Members.{In}
use Rattle.flux_model.proofs.MemberLemmas.{any_in, in_any}
use Rattle.label_graph.specs.Store.{triple_of, kept_graph}
use Rattle.label_graph.proofs.LinkLemmas.{same_placed}
use Rattle.label_graph.proofs.PlaceLemmas.{link_same, link_refl, option_map_some, IsSome-mapped}
use Rattle.label_graph.proofs.SortedLemmas.{any_sorted}
use Rattle.label_graph.proofs.StoreLemmas.{triple_total, any_vertex}
use Rattle.graph_traits.proofs.NumberLemmas.{triple_exact}

-- ---- a node taken away

-- a list with its last element at i, whatever it has for an empty list
swap_default : {X : Type 0} (xs : List X) (i : ℕ) (d e : X) → i < length xs → swap_remove xs i d ≡ swap_remove xs i e
swap_default {X} xs i d e lt = ap (λ (x : X). take (length xs - 1) (slice_set xs i x)) (get_or_default xs (length xs - 1) d e (omega (arith, lt)))

entry_at : {R : Type 0} (es : List (ℕ × Node R)) (i : ℕ) (node : Node R) → slice_get (values_of es) i ≡ Some node →
    (k : ℕ) × (slice_get es i ≡ Some (k, node)) × (slice_get (keys_of es) i ≡ Some k)
entry_at {R} [] i node e = absurd (none-some node e)
entry_at {R} (x ∷ xs) zero node e = (x.0, ap Some (ap (λ (n : Node R). (x.0, n)) (same_Some x.1 node e)), refl)
entry_at {R} (x ∷ xs) (suc i) node e = entry_at xs i node e

-- a node that is taken away leaves the other nodes
pub taken : {R : Type 0} (id : ℕ) (es : List (ℕ × Node R)) (node : Node R) → lookup (nat_eq id) es ≡ Some node →
    IsPermutation es ((id, node) ∷ swap_remove_entry (nat_eq id) es)
taken {R} id [] node e = absurd (none-some node e)
taken {R} id (x ∷ xs) node e = by (position (nat_eq id) (keys_of (x ∷ xs))) refl
  where
    by : (o : Option ℕ) → position (nat_eq id) (keys_of (x ∷ xs)) ≡ o →
        IsPermutation (x ∷ xs) ((id, node) ∷ option_map_or (λ i. swap_remove (x ∷ xs) i x) (position (nat_eq id) (keys_of (x ∷ xs)))
        (x ∷ xs))
    by None p = absurd (none-some node (sym (Missing-position (nat_eq id) (x ∷ xs) p).value ∙ e))
    by (Some i) p =
        let f = Found-position (nat_eq id) (x ∷ xs) i p in
        let at = entry_at (x ∷ xs) i node (sym f.value ∙ e) in
        let key : id ≡ at.0 = lookup_key_same unsigned_Decides id (x ∷ xs) at.0 (f.key ∙ at.2) in
        let here : get_or (x ∷ xs) i (at.0, node) ≡ (at.0, node) =
        sym (unwrap_or-slice_get (x ∷ xs) i (at.0, node)) ∙ ap (λ (o : Option (ℕ × Node R)). unwrap_or o (at.0, node)) at.1 in
        let moved : IsPermutation (x ∷ xs) ((at.0, node) ∷ swap_remove (x ∷ xs) i (at.0, node)) = IsPermutation-swap_remove (x ∷ xs) i (at.0, node) f.within (sym here) in
        let P : List (ℕ × Node R) → Type 0 = λ ys. IsPermutation (x ∷ xs) ((at.0, node) ∷ ys) in
        let Q : ℕ → Type 0 = λ k. IsPermutation (x ∷ xs) ((k, node) ∷ swap_remove (x ∷ xs) i x) in
        let R : Option ℕ → Type 0 = λ o. IsPermutation (x ∷ xs) ((id, node) ∷ option_map_or (λ i. swap_remove (x ∷ xs) i x) o (x ∷ xs)) in
        subst R (sym p) (subst Q (sym key) (subst P (swap_default (x ∷ xs) i (at.0, node) x f.within) moved))

module _ {R : Type 0} (id : ℕ) (es fs : List (ℕ × Node R)) (set : (q : ℕ) → lookup (nat_eq q) fs ≡ cond (nat_eq id q) None (lookup (nat_eq q) es)) where
  -- no vertex has the id of the one that is gone
  pub none_left : list_any (λ (w : Vertex). w.id == id) (map vertex_of fs) ≡ false
  none_left = any_vertex fs id ∙ (sym (is_some-lookup (nat_eq id) fs) ∙ (ap is_some (set id) ∙ ap (λ (b : Bool). is_some (cond b None (lookup (nat_eq id) es))) (eq-eqb id id refl)))

  -- rows of a vertex that had none
  pub rows_left : {X : Type 0} (rows : Option (Node R) → X) (none : X) → rows None ≡ none → rows (lookup (nat_eq id) es) ≡ none → (q : ℕ) →
      rows (lookup (nat_eq q) fs) ≡ rows (lookup (nat_eq q) es)
  rows_left rows nil none empty q = by (nat_eq id q) refl
    where
      by : (b : Bool) → nat_eq id q ≡ b → rows (lookup (nat_eq q) fs) ≡ rows (lookup (nat_eq q) es)
      by true e =
          let P : ℕ → Type 0 = λ k. rows (lookup (nat_eq k) es) ≡ nil in
          ap rows (set q) ∙ (ap (λ (b : Bool). rows (cond b None (lookup (nat_eq q) es))) e ∙ (none ∙ sym (subst P (eqb-true id q e) empty)))
      by false e = ap rows (set q) ∙ ap (λ (b : Bool). rows (cond b None (lookup (nat_eq q) es))) e

module _ (id : ℕ) (es fs : List (ℕ × Node Row)) (set : (q : ℕ) → lookup (nat_eq q) fs ≡ cond (nat_eq id q) None (lookup (nat_eq q) es)) where
  -- rows and places belong together after a node without entries went
  pub placed_left : (places : List (Link × Places ℕ)) → outs es id ≡ [] → ins es id ≡ [] → ArePlaced es places → ArePlaced fs places
  placed_left places os is h = same_placed es fs places places (rows_left id es fs set outs_of [] refl os) (rows_left id es fs set ins_of [] refl is) (λ q. refl) h

-- ---- a node put in

-- the vertices of the nodes with one put behind them
pub pushed_first : {R : Type 0} (es : List (ℕ × Node R)) (x : ℕ × Node R) (fs : List (ℕ × Node R)) → fs ≡ es ++ x ∷ [] →
    IsPermutation (map vertex_of (x ∷ es)) (map vertex_of fs)
pushed_first {R} es x fs e =
    let P : List (ℕ × Node R) → Type 0 = λ l. IsPermutation (map vertex_of (x ∷ es)) (map vertex_of l) in
    subst P (sym e) (IsPermutation-map vertex_of (x ∷ es) (es ++ x ∷ []) (IsPermutation-sym (es ++ x ∷ []) (x ∷ es) (IsPermutation-to_front es x)))

module _ {R : Type 0} (id : ℕ) (node : Node R) (es fs : List (ℕ × Node R)) (set : (q : ℕ) →
    lookup (nat_eq q) fs ≡ cond (nat_eq id q) (Some node) (lookup (nat_eq q) es)) (free : lookup (nat_eq id) es ≡ None) where
  -- rows of a vertex that has none
  pub rows_more : {X : Type 0} (rows : Option (Node R) → X) (none : X) → rows None ≡ none → rows (Some node) ≡ none → (q : ℕ) →
      rows (lookup (nat_eq q) fs) ≡ rows (lookup (nat_eq q) es)
  rows_more rows nil none empty q = by (nat_eq id q) refl
    where
      by : (b : Bool) → nat_eq id q ≡ b → rows (lookup (nat_eq q) fs) ≡ rows (lookup (nat_eq q) es)
      by true e =
          let P : ℕ → Type 0 = λ k. rows (lookup (nat_eq k) es) ≡ nil in
          ap rows (set q) ∙ (ap (λ (b : Bool). rows (cond b (Some node) (lookup (nat_eq q) es))) e ∙ (empty ∙ sym (subst P (eqb-true id q e) (ap rows free ∙ none))))
      by false e = ap rows (set q) ∙ ap (λ (b : Bool). rows (cond b (Some node) (lookup (nat_eq q) es))) e

module _ (id : ℕ) (node : Node Row) (es fs : List (ℕ × Node Row)) (set : (q : ℕ) → lookup (nat_eq q) fs ≡ cond (nat_eq id q) (Some node) (lookup (nat_eq q) es)) (free : lookup (nat_eq id) es ≡ None) where
  -- rows and places belong together after a node without entries came
  pub placed_more : (places : List (Link × Places ℕ)) → node.outs.items ≡ [] → node.ins.items ≡ [] → ArePlaced es places → ArePlaced fs places
  placed_more places os is h = same_placed es fs places places (rows_more id node es fs set free outs_of [] refl os) (rows_more id node es fs set free ins_of [] refl is) (λ q. refl) h

-- ---- rows and triples

no_entries : (row : List RowEntry) → nat_lt 0 (length row) ≡ false → row ≡ []
no_entries [] e = refl
no_entries (t ∷ row) e = absurd (true≢false (sym (lt-ltb 0 (length (t ∷ row)) (omega arith)) ∙ e))

first_entry : (row : List RowEntry) → nat_lt 0 (length row) ≡ true → (t : RowEntry) × (slice_get row 0 ≡ Some t)
first_entry [] e = absurd (true≢false (sym e))
first_entry (t ∷ row) e = (t, refl)

pub or_false : (a b : Bool) → a || b ≡ false → (a ≡ false) × (b ≡ false)
or_false true b e = absurd (true≢false e)
or_false false b e = (refl, e)

-- rows without entries are empty
pub empty_rows : (outs_row ins_row : List RowEntry) → nat_lt 0 (length outs_row) || nat_lt 0 (length ins_row) ≡ false →
    (outs_row ≡ []) × (ins_row ≡ [])
empty_rows outs_row ins_row e = let p = or_false (nat_lt 0 (length outs_row)) (nat_lt 0 (length ins_row)) e in (no_entries outs_row p.0, no_entries ins_row p.1)

abbrev pub is_end : ℕ → Link → Bool
is_end id k = k.src == id || k.dst == id

module _ (id : ℕ) where
  links_end : (names : List (Option Name)) (ls : List Link) → list_any (λ (t : Triple). t.src == id || t.dst == id) (map (triple_of names) ls) ≡ list_any (is_end id) ls
  links_end names [] = refl
  links_end names (l ∷ ls) = ap (λ (b : Bool). is_end id l || b) (links_end names ls)

  -- whether a triple of a graph ends at the vertex, by its links
  pub incident_links : (names : List (Option Name)) (vertices : List Vertex) (links : List Link) → has_incident_triple (kept_graph names vertices links) id ≡ list_any (is_end id) links
  incident_links names vertices links =
      any_sorted triple_cmp triple_total (λ (t : Triple). t.src == id || t.dst == id)
      (λ x y e. ap (λ (t : Triple). t.src == id || t.dst == id) (triple_exact x y e)) (map (triple_of names) links)
      ∙ links_end names links

module _ (nodes : List (ℕ × Node Row)) (places : List (Link × Places ℕ)) (h : ArePlaced nodes places) (id : ℕ) where
  -- a triple of a place is among the links
  among : (k : Link) → is_some (lookup (link_eq k) places) ≡ true → In (keys_of places) k
  among k e =
      let l = in_any (link_eq k) (keys_of places) (sym (is_some-lookup (link_eq k) places) ∙ e) in
      let P : Link → Type 0 = λ z. In (keys_of places) z in
      subst P (sym (link_same k l.0 l.2)) l.1

  out_among : (t : RowEntry) → slice_get (outs nodes id) 0 ≡ Some t → In (keys_of places) (out_link id t)
  out_among t e =
      let place = h.outs.there (id, 0) (out_link id t) (ap (option_map (out_link id)) e) in
      among (out_link id t) (IsSome-mapped (λ (p : Places ℕ). (id, p.out_at)) (lookup (link_eq (out_link id t)) places) (id, 0) place)

  in_among : (t : RowEntry) → slice_get (ins nodes id) 0 ≡ Some t → In (keys_of places) (in_link id t)
  in_among t e =
      let place = h.ins.there (id, 0) (in_link id t) (ap (option_map (in_link id)) e) in
      among (in_link id t) (IsSome-mapped (λ (p : Places ℕ). (id, p.in_at)) (lookup (link_eq (in_link id t)) places) (id, 0) place)

  true_left : (a b : Bool) → a ≡ true → a || b ≡ true
  true_left true b e = refl
  true_left false b e = absurd (true≢false (sym e))

  true_right : (a b : Bool) → b ≡ true → a || b ≡ true
  true_right true b e = refl
  true_right false b e = e

  busy : nat_lt 0 (length (outs nodes id)) || nat_lt 0 (length (ins nodes id)) ≡ true → list_any (is_end id) (keys_of places) ≡ true
  busy e = by (nat_lt 0 (length (outs nodes id))) refl e
    where
      by : (b : Bool) → nat_lt 0 (length (outs nodes id)) ≡ b → b || nat_lt 0 (length (ins nodes id)) ≡ true →
          list_any (is_end id) (keys_of places) ≡ true
      by true f g =
          let t = first_entry (outs nodes id) f in
          any_in (is_end id) (keys_of places) (out_link id t.0) (out_among t.0 t.1) (true_left (id == id) (t.0.other == id) (eq-eqb id id refl))
      by false f g =
          let t = first_entry (ins nodes id) g in
          any_in (is_end id) (keys_of places) (in_link id t.0) (in_among t.0 t.1) (true_right (t.0.other == id) (id == id) (eq-eqb id id refl))

  -- a link that is among them has an entry in the rows of both of its ends
  some_place : (k : Link) → In (keys_of places) k → (p : Places ℕ) × (lookup (link_eq k) places ≡ Some p)
  some_place k i = by (lookup (link_eq k) places) refl
    where
      by : (o : Option (Places ℕ)) → lookup (link_eq k) places ≡ o → (p : Places ℕ) × (lookup (link_eq k) places ≡ Some p)
      by None e = absurd (true≢false (sym (any_in (link_eq k) (keys_of places) k i (link_refl k)) ∙ (sym (is_some-lookup (link_eq k) places) ∙ ap is_some e)))
      by (Some p) e = (p, e)

  not_idle : (row : List RowEntry) (i : ℕ) (t : RowEntry) → slice_get row i ≡ Some t → row ≡ [] → ⊥
  not_idle row i t e empty = let P : List RowEntry → Type 0 = λ l. slice_get l i ≡ Some t in none-some t (subst P empty e)

  idle : outs nodes id ≡ [] → ins nodes id ≡ [] → list_any (is_end id) (keys_of places) ≡ false
  idle os is = by (list_any (is_end id) (keys_of places)) refl
    where
      clash : (k : Link) → In (keys_of places) k → (b : Bool) → (k.src == id) ≡ b → b || (k.dst == id) ≡ true → ⊥
      clash k i true f g =
          let p = some_place k i in
          let at = h.outs.back k (k.src, p.0.out_at) (ap (option_map (λ (q : Places ℕ). (k.src, q.out_at))) p.1) in
          let t = option_map_some (out_link k.src) (slice_get (outs nodes k.src) p.0.out_at) k at in
          let P : ℕ → Type 0 = λ v. outs nodes v ≡ [] in
          not_idle (outs nodes k.src) p.0.out_at t.0 t.1 (subst P (sym (eqb-true k.src id f)) os)
      clash k i false f g =
          let p = some_place k i in
          let at = h.ins.back k (k.dst, p.0.in_at) (ap (option_map (λ (q : Places ℕ). (k.dst, q.in_at))) p.1) in
          let t = option_map_some (in_link k.dst) (slice_get (ins nodes k.dst) p.0.in_at) k at in
          let P : ℕ → Type 0 = λ v. ins nodes v ≡ [] in
          not_idle (ins nodes k.dst) p.0.in_at t.0 t.1 (subst P (sym (eqb-true k.dst id g)) is)

      by : (b : Bool) → list_any (is_end id) (keys_of places) ≡ b → list_any (is_end id) (keys_of places) ≡ false
      by true e = let k = in_any (is_end id) (keys_of places) e in absurd (clash k.0 k.1 (k.0.src == id) refl k.2)
      by false e = e

  -- whether a triple of the graph ends at the vertex
  pub incident_is : (names : List (Option Name)) (vertices : List Vertex) →
      has_incident_triple (kept_graph names vertices (keys_of places)) id
      ≡ nat_lt 0 (length (outs nodes id)) || nat_lt 0 (length (ins nodes id))
  incident_is names vertices =
      incident_links id names vertices (keys_of places) ∙ by (nat_lt 0 (length (outs nodes id)) || nat_lt 0 (length (ins nodes id))) refl
    where
      by : (b : Bool) → nat_lt 0 (length (outs nodes id)) || nat_lt 0 (length (ins nodes id)) ≡ b →
          list_any (is_end id) (keys_of places) ≡ nat_lt 0 (length (outs nodes id)) || nat_lt 0 (length (ins nodes id))
      by true e = busy e ∙ sym e
      by false e = let r = empty_rows (outs nodes id) (ins nodes id) e in idle r.0 r.1 ∙ sym e
