-- Counts against limits.
use Rattle.std.proofs.Common.{◌≡◌, ℕ, ◌+◌, Bool, true, false, ◌||◌, Option, Some, None, List, [], ◌∷◌, map, length, Ok, Err, refl, sym, ap}
use Rattle.std.proofs.Common.{◌∙◌, subst, inl, inr}
use Rattle.std.specs.Prelude.{is_some, nat_le, nat_lt, MatchOption, count_by, if◌then◌else◌}
use Rattle.std.specs.List.{list_any, AllByRecursion, IsDistinct}
use Rattle.std.specs.Map.{lookup, keys_of}
use Rattle.std.proofs.lemmas.Map.Made.{is_some-lookup}
use Rattle.std.proofs.lemmas.List.{length-map}
use Rattle.flux_model.specs.Members.{In, AreOnce}
use Rattle.flux_model.proofs.MemberLemmas.{in_any, mapped_in}
use Rattle.label_graph.proofs.CountLemmas.{names_counted}
use Rattle.flux_model.specs.Graph.{Graph, triple_cmp, name_count, add_edge, has_both_ends, has_triple, with_triple}
use Rattle.flux_model.specs.declared.limits.Limits.{Limits}
use Rattle.flux_model.specs.declared.code.Code.TheVariants as code
use Rattle.flux_model.specs.declared.graph.Vertex.{Vertex}
use Rattle.flux_model.specs.declared.graph.Triple.{Triple}
use Rattle.label_graph.specs.declared.link.Link.{Link}
use Rattle.label_graph.specs.declared.names.Name.{Name}
use Rattle.label_graph.specs.Names.{slot, text_at, IsTable, IsUnknown}
use Rattle.label_graph.specs.Places.{link_eq}
use Rattle.label_graph.specs.Sorted.{sorted}
use Rattle.label_graph.specs.Store.{triple_of, kept_graph, IsNamed}
use Rattle.label_graph.specs.Known.{known_stands}
use Rattle.label_graph.proofs.PlaceLemmas.{link_same, link_refl}
use Rattle.label_graph.proofs.SortedLemmas.{length_sorted}
use Rattle.label_graph.proofs.StoreLemmas.{known_label, has_triple_found, has_triple_unknown, triple_tells, triple_total}
use Rattle.graph_traits.proofs.NumberLemmas.{triple_exact}

-- ---- the answers of the definition, case by case

-- an end that is no vertex is refused first
pub add_edge_apart : (limits : Limits) (g : Graph) (t : Triple) → has_both_ends g t ≡ false → add_edge limits g t ≡ Err code.NoVertex
add_edge_apart limits g t e = rw e refl

-- then a triple that stands
pub add_edge_stands : (limits : Limits) (g : Graph) (t : Triple) → has_both_ends g t ≡ true → has_triple g t ≡ true →
    add_edge limits g t ≡ Err code.Exists
add_edge_stands limits g t e f = rw (e, f) refl

-- then one for which a limit leaves no room
pub add_edge_full : (limits : Limits) (g : Graph) (t : Triple) → has_both_ends g t ≡ true → has_triple g t ≡ false →
    nat_le limits.edges (length g.triples) || nat_lt limits.labels (name_count g (t.label ∷ [])) ≡ true →
    add_edge limits g t ≡ Err code.Full
add_edge_full limits g t e f n = rw (e, f, n) refl

-- any other is put in
pub add_edge_done : (limits : Limits) (g : Graph) (t : Triple) → has_both_ends g t ≡ true → has_triple g t ≡ false →
    nat_le limits.edges (length g.triples) || nat_lt limits.labels (name_count g (t.label ∷ [])) ≡ false →
    add_edge limits g t ≡ Ok (with_triple g t)
add_edge_done limits g t e f n = rw (e, f, n) refl

-- ---- by the number of the label

-- whether a triple stands, by the number of its label if it has one
pub known_triple : {W : Type 0} (names : List (Option Name)) (vertices : List Vertex) (places : List (Link × W)) (t : Triple) (known : Option ℕ) →
    IsNamed names vertices (keys_of places) → IsTable names →
    MatchOption known (IsUnknown names t.label) (λ n. text_at names n ≡ Some t.label) → has_triple (kept_graph names vertices (keys_of places)) t ≡ known_stands places known t.src t.dst
known_triple names vertices places t None h tab found = has_triple_unknown names vertices (keys_of places) h t found
known_triple names vertices places t (Some n) h tab found =
    let k : Link = record { src = t.src; label = n; dst = t.dst } in
    has_triple_found names vertices (keys_of places) h tab k t.label found ∙ sym (is_some-lookup (link_eq k) places)

-- what is not some is none
pub none_from : {X : Type 0} (o : Option X) → is_some o ≡ false → o ≡ None
none_from None e = refl
none_from (Some x) e = cc

-- a new triple has no place
pub absent_link : {W : Type 0} (names : List (Option Name)) (vertices : List Vertex) (places : List (Link × W)) (k : Link) (text : List ℕ) →
    IsNamed names vertices (keys_of places) → IsTable names →
    MatchOption (slot names k.label) (IsUnknown names text) (λ x. x.text ≡ text) → has_triple (kept_graph names vertices (keys_of places)) (record { src = k.src; label = text; dst = k.dst }) ≡ false →
    lookup (link_eq k) places ≡ None
absent_link names vertices places k text h tab was absent = none_from (lookup (link_eq k) places) (is_some-lookup (link_eq k) places ∙ by (list_any (link_eq k) (keys_of places)) refl)
  where
    by : (b : Bool) → list_any (link_eq k) (keys_of places) ≡ b → list_any (link_eq k) (keys_of places) ≡ false
    by true e =
        let l = in_any (link_eq k) (keys_of places) e in
        let w = known_label names vertices (keys_of places) h l.0 l.1 in
        let same : k ≡ l.0 = link_same k l.0 l.2 in
        let P : Link → Type 0 = λ z. slot names z.label ≡ Some w.0 in
        let at : slot names k.label ≡ Some w.0 = subst P (sym same) w.1 in
        let Q : Option Name → Type 0 = λ o. MatchOption o (IsUnknown names text) (λ z. z.text ≡ text) in
        let label : w.0.text ≡ text = subst Q at was in
        let T : Option Name → Type 0 = λ o. text_at names k.label ≡ text_at names k.label in
        let found : text_at names k.label ≡ Some text = ap text_part at ∙ ap Some label in
        let has = has_triple_found names vertices (keys_of places) h tab k text found in
        let x : true ≡ false = sym e ∙ (sym has ∙ absent) in cc
      where
        text_part : Option Name → Option (List ℕ)
        text_part None = None
        text_part (Some x) = Some x.text
    by false e = e

-- ---- how many

apart_head : (l : Link) (ls : List Link) → IsDistinct link_eq (l ∷ ls) → In ls l → ⊥
unfolding IsDistinct
apart_head l ls d i = go ls d.0 i
  where
    go : (ms : List Link) → AllByRecursion (λ m. link_eq l m ≡ false) ms → In ms l → ⊥
    go [] a j = j
    go (m ∷ ms) a (inl e) = let P : Link → Type 0 = λ z. link_eq l z ≡ false in let q : link_eq l l ≡ false = subst P (sym e) a.0 in let r = link_refl l in cc
    go (m ∷ ms) a (inr j) = go ms a.1 j

distinct_tail : (l : Link) (ls : List Link) → IsDistinct link_eq (l ∷ ls) → IsDistinct link_eq ls
unfolding IsDistinct
distinct_tail l ls d = d.1

-- how many label names there would be, by the table and whether the label has a number
pub name_count_is : (names : List (Option Name)) (vertices : List Vertex) (links : List Link) (text : List ℕ) (known : Option ℕ) →
    IsNamed names vertices links → IsTable names →
    MatchOption known (IsUnknown names text) (λ n. text_at names n ≡ Some text) → name_count (kept_graph names vertices links) (text ∷ []) ≡ count_by is_some names + (if is_some known then 0 else 1)
name_count_is names vertices links text known h tab found = names_counted names vertices links h tab text known found

-- the graph has as many triples as there are links
pub triple_count : (names : List (Option Name)) (vertices : List Vertex) (links : List Link) → IsNamed names vertices links →
    IsTable names → IsDistinct link_eq links → length (sorted triple_cmp (map (triple_of names) links)) ≡ length links
triple_count names vertices links h tab apart =
    length_sorted triple_cmp triple_total triple_exact (map (triple_of names) links) (each links (λ l i. i) apart) ∙ length-map links (triple_of names)
  where
    each : (ls : List Link) → ((l : Link) → In ls l → In links l) → IsDistinct link_eq ls → AreOnce (map (triple_of names) ls)
    each [] f d = tt
    each (l ∷ ls) f d = (
      λ i.
          let m = mapped_in (triple_of names) ls (triple_of names l) i in
          let x = known_label names vertices links h m.0 (f m.0 (inr m.1)) in
          let same : l ≡ m.0 = triple_tells names vertices links h tab l m.0 (f l (inl refl)) x.0 x.1 m.2 in
          let P : Link → Type 0 = λ z. In ls z in
          apart_head l ls d (subst P (sym same) m.1),
      each ls (λ m i. f m (inr i)) (distinct_tail l ls d),
    )

-- whether a limit leaves no room, by the counts that the store has
pub full_is : (limits : Limits) (names : List (Option Name)) (vertices : List Vertex) (links : List Link) (text : List ℕ) (known : Option ℕ)
    (count : ℕ) (name : ℕ) → IsNamed names vertices links → IsTable names → IsDistinct link_eq links →
    MatchOption known (IsUnknown names text) (λ n. text_at names n ≡ Some text) → count ≡ length links → name ≡ count_by is_some names →
    nat_le limits.edges (length (sorted triple_cmp (map (triple_of names) links))) || nat_lt limits.labels (name_count (kept_graph names vertices links) (text ∷ [])) ≡ nat_le limits.edges count || nat_lt limits.labels (name + (if is_some known then 0 else 1))
full_is limits names vertices links text known count name h tab apart found c n =
    ap (λ (m : ℕ). nat_le limits.edges m || nat_lt limits.labels (name_count (kept_graph names vertices links) (text ∷ []))) (triple_count names vertices links h tab apart ∙ sym c)
    ∙ ap (λ (m : ℕ). nat_le limits.edges count || nat_lt limits.labels m) (name_count_is names vertices links text known h tab found ∙ ap (λ (m : ℕ). m + (if is_some known then 0 else 1)) (sym n))
