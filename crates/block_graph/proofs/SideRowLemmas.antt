-- The rows of one side list the triples of their ends, each once.
use Rattle.std.proofs.Common.{◌≡◌, ℕ, Bool, true, false, Option, Some, None, List, map, length, refl, sym, ap, ◌∙◌, subst}
use Rattle.std.specs.Prelude.{◌==◌, nat_eq, option_map, IsSome, IsTrue, is_some, IsPermutation, count_by}
use Rattle.std.specs.Map.{lookup, keys_of}
use Rattle.std.specs.List.{list_any}
use Rattle.std.proofs.lemmas.Map.Made.{is_some-lookup}
use Rattle.std.proofs.lemmas.Bool.{true≢false}
use Rattle.std.proofs.lemmas.Option.{none-some, same_Some}
use Rattle.flux_model.specs.Graph.{has_vertex}
use Rattle.flux_model.specs.declared.graph.Triple.{Triple}
use Rattle.graph_traits.specs.Rows.{triples_from, triples_to}
use Rattle.label_graph.specs.declared.link.Link.{Link}
use Rattle.label_graph.specs.declared.link.RowEntry.{RowEntry}
use Rattle.label_graph.specs.declared.link.Node.{Node}
use Rattle.label_graph.specs.declared.link.Places.{Places}
use Rattle.label_graph.specs.declared.names.Name.{Name}
use Rattle.label_graph.specs.Names.{slot, IsTable}
use Rattle.label_graph.specs.Places.{link_eq, vertex_of}
use Rattle.flux_model.specs.Members.{In, AreOnce}
use Rattle.label_graph.specs.Store.{triple_of, kept_graph, IsNamed}
use Rattle.label_graph.proofs.PlaceLemmas.{link_same, link_refl, IsSome-mapped}
use Rattle.flux_model.proofs.MemberLemmas.{in_any, any_in}
use Rattle.label_graph.proofs.StoreLemmas.{has_vertex_of}
use Rattle.label_graph.proofs.RowLemmas.{AreRowsOf, out_side, in_side, entry_named, row_of, row_length_of}
use Rattle.block_graph.specs.declared.block.Block.{Block}
use Rattle.block_graph.specs.declared.chain.Chain.{Chain}
use Rattle.block_graph.specs.declared.row.Place.{Place}
use Rattle.block_graph.specs.Blocks.{block_at, owner_of, next_at, entry_of, entry_at, seen_of, seen_at, row_link}
use Rattle.block_graph.specs.Chains.{chain_at, keys_from}
use Rattle.block_graph.specs.Places.{link_at, side_of, place_in, ArePlaced}
use Rattle.block_graph.specs.Rows.{row_of as row_at}
use Rattle.block_graph.specs.Walks.{entries_from, IsAmongEntries}
use Rattle.block_graph.proofs.ChainLemmas.{to_in}
use Rattle.block_graph.proofs.RowsLemmas.{owner_some}
use Rattle.block_graph.proofs.PullLemmas.{link_row, seen_block, seen_entry, vertex_stands}
use Rattle.block_graph.proofs.SideLemmas.{side_back, side_here}
use Rattle.block_graph.proofs.WalkLemmas.{entry_place, place_entry, once_from}

-- the entry of a triple that is seen
entry_seen : (o : Option Block) (i : ℕ) (s : Bool) (k : Link) → seen_of i o ≡ Some (s, k) → (t : RowEntry) × (entry_of i o ≡ Some t) × (row_link (row_at s k) t ≡ k)
entry_seen None i s k e = absurd (none-some (s, k) e)
entry_seen (Some x) i s k e = by (entry_of i (Some x)) refl e
  where
    by : (o : Option RowEntry) → entry_of i (Some x) ≡ o → option_map {U = Bool × Link} (λ (t : RowEntry). (x.incoming, row_link (x.incoming, x.vertex) t)) (entry_of i (Some x)) ≡ Some (s, k) →
        (t : RowEntry) × (entry_of i (Some x) ≡ Some t) × (row_link (row_at s k) t ≡ k)
    by None p f = absurd (none-some (s, k) (sym (ap (option_map {U = Bool × Link} (λ (t : RowEntry). (x.incoming, row_link (x.incoming, x.vertex) t))) p) ∙ f))
    by (Some t) p f =
        let q = same_Some (x.incoming, row_link (x.incoming, x.vertex) t) (s, k) (sym (ap (option_map {U = Bool × Link} (λ (t : RowEntry). (x.incoming, row_link (x.incoming, x.vertex) t))) p) ∙ f) in
        let own = link_row x.incoming x.vertex t s k (ap (λ (z : Bool × Link). z.0) q) (ap (λ (z : Bool × Link). z.1) q) in
        (t, p, sym (ap (λ (r : Bool × ℕ). row_link r t) own) ∙ ap (λ (z : Bool × Link). z.1) q)

some_value : {X : Type 0} (o : Option X) → is_some o ≡ true → (x : X) × (o ≡ Some x)
some_value None e = absurd (true≢false (sym e))
some_value (Some x) e = (x, refl)

pair_parts : (a b c d : ℕ) → ◌≡◌ {A = ℕ × ℕ} (a, b) (c, d) → (a ≡ c) × (b ≡ d)
pair_parts a b c d e = (ap (λ (z : ℕ × ℕ). z.0) e, ap (λ (z : ℕ × ℕ). z.1) e)

module _ (nodes : List (ℕ × Node Chain)) (slots : List (Option Block)) (places : List (Link × Places Place)) (h : ArePlaced nodes slots places) where
  -- the entries of a row
  abbrev pub row_entries : Bool × ℕ → List RowEntry
  row_entries r = entries_from slots (chain_at nodes r).blocks (chain_at nodes r).first

  pub seen_in : (r : Bool × ℕ) (b k : ℕ) (t : RowEntry) → In (keys_from (next_at slots) (chain_at nodes r).blocks (chain_at nodes r).first) b → entry_at slots (b, k) ≡ Some t → seen_at slots (b, k) ≡ Some (r.0, row_link r t)
  seen_in r b k t i e =
      let x = owner_some (block_at slots b) r ((h.rows.row r).stands b i) in
      seen_entry r (block_at slots b) k x.0 t x.1 x.2 e

  link_in : (r : Bool × ℕ) (b k : ℕ) (t : RowEntry) → In (keys_from (next_at slots) (chain_at nodes r).blocks (chain_at nodes r).first) b → entry_at slots (b, k) ≡ Some t → link_at r.0 slots (b, k) ≡ Some (row_link r t)
  link_in r b k t i e = ap (side_of r.0) (seen_in r b k t i e) ∙ side_here r.0 (row_link r t)

  pub row_stands : (r : Bool × ℕ) (t : RowEntry) → In (row_entries r) t → In (keys_of places) (row_link r t)
  row_stands r t i =
      let p = entry_place slots (chain_at nodes r).blocks (chain_at nodes r).first t i in
      let place = (h.placed r.0).there (p.0, p.1) (row_link r t) (link_in r p.0 p.1 t p.2 p.3) in
      let some = IsSome-mapped (place_in r.0) (lookup (link_eq (row_link r t)) places) (p.0, p.1) place in
      let l = in_any (link_eq (row_link r t)) (keys_of places) (sym (is_some-lookup (link_eq (row_link r t)) places) ∙ some) in
      let P : Link → Type 0 = λ z. In (keys_of places) z in
      subst P (sym (link_same (row_link r t) l.0 l.2)) l.1

  row_once : (r : Bool × ℕ) → AreOnce (row_entries r)
  row_once r = once_from slots (chain_at nodes r).blocks (chain_at nodes r).first (h.rows.row r).once
      (λ b c i j t p q d e.
      let x = (h.placed r.0).there (b, i) (row_link r t) (link_in r b i t p d) in
      let y = (h.placed r.0).there (c, j) (row_link r t) (link_in r c j t q e) in
      pair_parts b i c j (same_Some {A = ℕ × ℕ} (b, i) (c, j) (sym x ∙ y)))

  place_seen : (s : Bool) (k : Link) → In (keys_of places) k → (p : ℕ × ℕ) × (seen_at slots p ≡ Some (s, k))
  place_seen s k i =
      let has : list_any (link_eq k) (keys_of places) ≡ true = any_in (link_eq k) (keys_of places) k i (link_refl k) in
      let p = some_value (lookup (link_eq k) places) (is_some-lookup (link_eq k) places ∙ has) in
      let back = (h.placed s).back k (place_in s p.0) (ap (option_map (place_in s)) p.1) in
      (place_in s p.0, side_back s (seen_at slots (place_in s p.0)) k back)

  pub row_found : (s : Bool) (k : Link) → In (keys_of places) k → (t : RowEntry) × In (row_entries (row_at s k)) t × (row_link (row_at s k) t ≡ k)
  row_found s k i =
      let p = place_seen s k i in
      let x = seen_block (block_at slots p.0.0) p.0.1 s k p.1 in
      let t = entry_seen (block_at slots p.0.0) p.0.1 s k p.1 in
      let r = h.rows.row (row_at s k) in (
        t.0,
        place_entry slots (chain_at nodes (row_at s k)).blocks (chain_at nodes (row_at s k)).first p.0.0 p.0.1 t.0
            (to_in (keys_from (next_at slots) (chain_at nodes (row_at s k)).blocks (chain_at nodes (row_at s k)).first) p.0.0 (r.all p.0.0 (ap owner_of x.1 ∙ ap Some x.2))) t.1,
        t.2,
      )

  pub out_rows : AreRowsOf (λ v t. row_link (false, v) t) (λ (k : Link). k.src) (λ v. row_entries (false, v)) (keys_of places)
  out_rows = record { once = λ v. row_once (false, v); stands = λ v t i. row_stands (false, v) t i; found = row_found false }

  pub in_rows : AreRowsOf (λ v t. row_link (true, v) t) (λ (k : Link). k.dst) (λ v. row_entries (true, v)) (keys_of places)
  in_rows = record { once = λ v. row_once (true, v); stands = λ v t i. row_stands (true, v) t i; found = row_found true }

  pub among_row : (r : Bool × ℕ) (t : RowEntry) → IsAmongEntries slots (chain_at nodes r) t → In (row_entries r) t
  among_row r t a = place_entry slots (chain_at nodes r).blocks (chain_at nodes r).first a.0 a.1 t (to_in (keys_from (next_at slots) (chain_at nodes r).blocks (chain_at nodes r).first) a.0 a.2) a.3

  -- the other end of an entry is a vertex
  pub end_stands : (r : Bool × ℕ) (t : RowEntry) → In (row_entries r) t → IsSome (lookup (nat_eq t.other) nodes)
  end_stands r t i = by r.0 r.1 (row_stands r t i)
    where
      by : (s : Bool) (v : ℕ) → In (keys_of places) (row_link (s, v) t) → IsSome (lookup (nat_eq t.other) nodes)
      by true v j = let p = place_seen false (row_link (true, v) t) j in vertex_stands nodes slots h.rows p.0 false (row_link (true, v) t) p.1 (false, t.other) refl
      by false v j = let p = place_seen true (row_link (false, v) t) j in vertex_stands nodes slots h.rows p.0 true (row_link (false, v) t) p.1 (true, t.other) refl

  module _ (names : List (Option Name)) (n : IsNamed names (map vertex_of nodes) (keys_of places)) where
    pub end_vertex : (r : Bool × ℕ) (t : RowEntry) → In (row_entries r) t → IsTrue (has_vertex (kept_graph names (map vertex_of nodes) (keys_of places)) t.other)
    end_vertex r t i = has_vertex_of names nodes (keys_of places) t.other ∙ end_stands r t i

    pub label_named : (r : Bool × ℕ) (t : RowEntry) → In (row_entries r) t → IsSome (slot names t.label)
    label_named r t i = by r.0 r.1 i
      where
        by : (s : Bool) (v : ℕ) → In (row_entries (s, v)) t → IsSome (slot names t.label)
        by true v j = entry_named (λ v t. row_link (true, v) t) (λ (k : Link). k.dst) (λ (t : Triple). t.dst) in_side (λ v. row_entries (true, v)) (keys_of places) in_rows names (map vertex_of nodes) n v t j
        by false v j = entry_named (λ v t. row_link (false, v) t) (λ (k : Link). k.src) (λ (t : Triple). t.src) out_side (λ v. row_entries (false, v)) (keys_of places) out_rows names (map vertex_of nodes) n v t j

    pub out_row_is : IsTable names → (v : ℕ) → IsPermutation (map (λ (t : RowEntry). triple_of names (row_link (false, v) t)) (row_entries (false, v))) (triples_from (kept_graph names (map vertex_of nodes) (keys_of places)) v)
    out_row_is = row_of (λ v t. row_link (false, v) t) (λ (k : Link). k.src) (λ (t : Triple). t.src) out_side (λ v. row_entries (false, v)) (keys_of places) out_rows names (map vertex_of nodes) n

    pub in_row_is : IsTable names → (v : ℕ) → IsPermutation (map (λ (t : RowEntry). triple_of names (row_link (true, v) t)) (row_entries (true, v))) (triples_to (kept_graph names (map vertex_of nodes) (keys_of places)) v)
    in_row_is = row_of (λ v t. row_link (true, v) t) (λ (k : Link). k.dst) (λ (t : Triple). t.dst) in_side (λ v. row_entries (true, v)) (keys_of places) in_rows names (map vertex_of nodes) n

    pub out_degree_is : IsTable names → (v : ℕ) → length (row_entries (false, v)) ≡ count_by (λ (t : Triple). t.src == v) (kept_graph names (map vertex_of nodes) (keys_of places)).triples
    out_degree_is = row_length_of (λ v t. row_link (false, v) t) (λ (k : Link). k.src) (λ (t : Triple). t.src) out_side (λ v. row_entries (false, v)) (keys_of places) out_rows names (map vertex_of nodes) n

    pub in_degree_is : IsTable names → (v : ℕ) → length (row_entries (true, v)) ≡ count_by (λ (t : Triple). t.dst == v) (kept_graph names (map vertex_of nodes) (keys_of places)).triples
    in_degree_is = row_length_of (λ v t. row_link (true, v) t) (λ (k : Link). k.dst) (λ (t : Triple). t.dst) in_side (λ v. row_entries (true, v)) (keys_of places) in_rows names (map vertex_of nodes) n
