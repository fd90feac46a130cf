-- A row gives each triple of its vertex once.
use Rattle.std.proofs.Common.{◌≡◌, ℕ, ◌<◌, true, Option, Some, None, List, map, length, refl, sym, ap, ◌∙◌, subst, get_or}
use Rattle.std.specs.Prelude.{◌==◌, IsPermutation, IsSome, IsTrue, count_by, slice_get, option_map, nat_eq, is_some}
use Rattle.std.specs.List.{filter, list_any}
use Rattle.std.specs.Map.{lookup, keys_of}
use Rattle.std.proofs.lemmas.Bool.{eqb-true, eq-eqb}
use Rattle.std.proofs.lemmas.Option.{some_pair_parts, slice_get_read, slice_get_within}
use Rattle.std.proofs.lemmas.Map.Made.{is_some-lookup}
use Rattle.std.proofs.lemmas.List.{length-map}
use Rattle.std.proofs.lemmas.List.Sums.{length-filter}
use Rattle.std.proofs.lemmas.List.Sorted.{length_permutation}
use Rattle.flux_model.specs.Graph.{triple_cmp, has_vertex}
use Rattle.flux_model.specs.declared.graph.Triple.{Triple}
use Rattle.flux_model.specs.declared.graph.Vertex.{Vertex}
use Rattle.label_graph.specs.declared.link.Link.{Link}
use Rattle.label_graph.specs.declared.link.RowEntry.{RowEntry}
use Rattle.label_graph.specs.declared.link.Places.{Places}
use Rattle.label_graph.specs.declared.link.Node.{Node}
use Rattle.label_graph.specs.declared.names.Name.{Name}
use Rattle.label_graph.specs.Names.{slot, IsTable}
use Rattle.label_graph.specs.Places.{Row, AreInverse, ArePlaced, link_at, vertex_of, outs, outs_of, ins, ins_of, out_link, in_link, link_eq}
use Rattle.graph_traits.specs.Rows.{triples_from, triples_to}
use Rattle.flux_model.specs.Members.{In, AreOnce}
use Rattle.flux_model.proofs.MemberLemmas.{in_any, any_in, mapped_in, in_mapped, in_filter, filter_in, once_permutation, once_by_place, in_by_place, once_mapped, place_of}
use Rattle.flux_laws.proofs.AscendingLemmas.{filter-ascending}
use Rattle.flux_laws.proofs.SameMembersLemmas.{ascending_once}
use Rattle.label_graph.specs.Sorted.{sorted}
use Rattle.label_graph.specs.Store.{triple_of, kept_graph, row_from, IsNamed}
use Rattle.label_graph.proofs.NodeLemmas.{stands_out, stands_in}
use Rattle.label_graph.proofs.PlaceLemmas.{link_same, link_refl, IsSome-mapped, option_map_some}
use Rattle.label_graph.proofs.SortedLemmas.{in_sorted, sorted_in, sorted_ascending}
use Rattle.label_graph.proofs.StoreLemmas.{triple_total, triple_tells, known_label, has_vertex_of}
use Rattle.graph_traits.proofs.NumberLemmas.{triple_exact}

-- ---- a side of the rows

-- of the rows of one side: the link of an entry in the row of a vertex, and the end of a link and of a triple that the row belongs to
pub record IsSide (link : ℕ → RowEntry → Link) (owner : Link → ℕ) (owner_of : Triple → ℕ) : Type 0 where
  pub at : (v : ℕ) (t : RowEntry) → owner (link v t) ≡ v
  pub label : (v : ℕ) (t : RowEntry) → (link v t).label ≡ t.label
  pub entry : (v : ℕ) (s t : RowEntry) → link v s ≡ link v t → s ≡ t
  pub triple : (names : List (Option Name)) (k : Link) → owner_of (triple_of names k) ≡ owner k

entry_is : (a b c d : ℕ) → a ≡ c → b ≡ d → ◌≡◌ {A = RowEntry} (record { label = a; other = b }) (record { label = c; other = d })
entry_is a b c d p q = cc

pub out_side : IsSide out_link (λ (k : Link). k.src) (λ (t : Triple). t.src)
out_side = record {
  at = λ v t. refl;
  label = λ v t. refl;
  entry = λ v s t e. entry_is s.label s.other t.label t.other (ap (λ (k : Link). k.label) e) (ap (λ (k : Link). k.dst) e);
  triple = λ names k. refl;
}

pub in_side : IsSide in_link (λ (k : Link). k.dst) (λ (t : Triple). t.dst)
in_side = record {
  at = λ v t. refl;
  label = λ v t. refl;
  entry = λ v s t e. entry_is s.label s.other t.label t.other (ap (λ (k : Link). k.label) e) (ap (λ (k : Link). k.src) e);
  triple = λ names k. refl;
}

-- rows of one side that list the links of their ends, each once
pub record AreRowsOf (link : ℕ → RowEntry → Link) (owner : Link → ℕ) (rows : ℕ → List RowEntry) (links : List Link) : Type 0 where
  pub once : (v : ℕ) → AreOnce (rows v)
  pub stands : (v : ℕ) (t : RowEntry) → In (rows v) t → In links (link v t)
  pub found : (k : Link) → In links k → (t : RowEntry) × In (rows (owner k)) t × (link (owner k) t ≡ k)

module _ (link : ℕ → RowEntry → Link) (owner : Link → ℕ) (owner_of : Triple → ℕ) (side : IsSide link owner owner_of) (rows : ℕ → List RowEntry) (links : List Link) (h : AreRowsOf link owner rows links)
    (names : List (Option Name)) (vertices : List Vertex) (n : IsNamed names vertices links) where
  pub entry_named : (v : ℕ) (t : RowEntry) → In (rows v) t → IsSome (slot names t.label)
  entry_named v t i =
      let x = known_label names vertices links n (link v t) (h.stands v t i) in
      let P : ℕ → Type 0 = λ m. slot names m ≡ Some x.0 in
      let s : slot names t.label ≡ Some x.0 = subst P (side.label v t) x.1 in rw s refl

  entries_tell : IsTable names → (v : ℕ) (a b : RowEntry) → In (rows v) a → In (rows v) b → triple_of names (link v a) ≡ triple_of names (link v b) → a ≡ b
  entries_tell tab v a b i j e =
      let x = known_label names vertices links n (link v b) (h.stands v b j) in
      side.entry v a b (triple_tells names vertices links n tab (link v a) (link v b) (h.stands v a i) x.0 x.1 e)

  from_row : (v : ℕ) (z : Triple) → In (map (λ t. triple_of names (link v t)) (rows v)) z → In (filter (λ s. owner_of s == v) (sorted triple_cmp (map (triple_of names) links))) z
  from_row v z i =
      let t = mapped_in (λ t. triple_of names (link v t)) (rows v) z i in
      let P : Triple → Type 0 = λ w. In (filter (λ s. owner_of s == v) (sorted triple_cmp (map (triple_of names) links))) w in
      subst P (sym t.2) (in_filter (λ s. owner_of s == v) (sorted triple_cmp (map (triple_of names) links)) (triple_of names (link v t.0))
      (in_sorted triple_cmp triple_total (map (triple_of names) links) (λ a b p q e. triple_exact a b e) (triple_of names (link v t.0))
      (in_mapped (triple_of names) links (link v t.0) (h.stands v t.0 t.1)))
      (eq-eqb (owner_of (triple_of names (link v t.0))) v (side.triple names (link v t.0) ∙ side.at v t.0)))

  to_row : (v : ℕ) (z : Triple) → In (filter (λ s. owner_of s == v) (sorted triple_cmp (map (triple_of names) links))) z → In (map (λ t. triple_of names (link v t)) (rows v)) z
  to_row v z i =
      let f = filter_in (λ s. owner_of s == v) (sorted triple_cmp (map (triple_of names) links)) z i in
      let k = mapped_in (triple_of names) links z (sorted_in triple_cmp triple_total (map (triple_of names) links) z f.0) in
      let own : owner k.0 ≡ v = sym (side.triple names k.0) ∙ (ap owner_of (sym k.2) ∙ eqb-true (owner_of z) v f.1) in
      let t = h.found k.0 k.1 in
      let P : ℕ → Type 0 = λ w. In (map (λ t. triple_of names (link w t)) (rows w)) z in
      let Q : Triple → Type 0 = λ w. In (map (λ t. triple_of names (link (owner k.0) t)) (rows (owner k.0))) w in
      subst P own (subst Q (ap (triple_of names) t.2 ∙ sym k.2)
      (in_mapped (λ t. triple_of names (link (owner k.0) t)) (rows (owner k.0)) t.0 t.1))

  -- a row has the triples of its vertex, each once
  pub row_of : IsTable names → (v : ℕ) → IsPermutation (map (λ t. triple_of names (link v t)) (rows v)) (filter (λ s. owner_of s == v) (sorted triple_cmp (map (triple_of names) links)))
  row_of tab v = once_permutation (map (λ t. triple_of names (link v t)) (rows v)) (filter (λ s. owner_of s == v) (sorted triple_cmp (map (triple_of names) links)))
      (once_mapped (λ t. triple_of names (link v t)) (rows v) (h.once v) (entries_tell tab v))
      (ascending_once triple_cmp triple_total (filter (λ s. owner_of s == v) (sorted triple_cmp (map (triple_of names) links)))
      (filter-ascending triple_cmp triple_total (λ s. owner_of s == v) (sorted triple_cmp (map (triple_of names) links))
      (sorted_ascending triple_cmp triple_total (map (triple_of names) links))))
      (from_row v) (to_row v)

  pub row_length_of : IsTable names → (v : ℕ) → length (rows v) ≡ count_by (λ s. owner_of s == v) (sorted triple_cmp (map (triple_of names) links))
  row_length_of tab v =
      sym (length-map (rows v) (λ t. triple_of names (link v t)))
      ∙ (sym (length_permutation (map (λ t. triple_of names (link v t)) (rows v)) (filter (λ s. owner_of s == v) (sorted triple_cmp (map (triple_of names) links))) (row_of tab v))
      ∙ length-filter (λ s. owner_of s == v) (sorted triple_cmp (map (triple_of names) links)))

-- ---- rows that a look-up of places reads backwards

some_place : (o : Option (Places ℕ)) → is_some o ≡ true → (p : Places ℕ) × (o ≡ Some p)
some_place None e = cc
some_place (Some p) e = (p, refl)

module _ (link : ℕ → RowEntry → Link) (owner : Link → ℕ) (owner_of : Triple → ℕ) (side : IsSide link owner owner_of) (number : Places ℕ → ℕ) (rows : ℕ → List RowEntry)
    (places : List (Link × Places ℕ)) (h : AreInverse (link_at link rows) (λ k. option_map (λ (p : Places ℕ). (owner k, number p)) (lookup (link_eq k) places))) where
  entries_once : (v : ℕ) → AreOnce (rows v)
  entries_once v = once_by_place (rows v) (λ i j t p q.
      let a = h.there (v, i) (link v t) (ap (option_map (link v)) p) in
      let b = h.there (v, j) (link v t) (ap (option_map (link v)) q) in
      let e : Some (v, i) ≡ Some (v, j) = sym a ∙ b in
      let r : (v ≡ v) × (i ≡ j) = some_pair_parts v v i j e in r.1)

  link_stands : (v i : ℕ) (t : RowEntry) → slice_get (rows v) i ≡ Some t → In (keys_of places) (link v t)
  link_stands v i t e =
      let place = h.there (v, i) (link v t) (ap (option_map (link v)) e) in
      let some = IsSome-mapped (λ (p : Places ℕ). (owner (link v t), number p)) (lookup (link_eq (link v t)) places) (v, i) place in
      let l = in_any (link_eq (link v t)) (keys_of places) (sym (is_some-lookup (link_eq (link v t)) places) ∙ some) in
      let P : Link → Type 0 = λ z. In (keys_of places) z in
      subst P (sym (link_same (link v t) l.0 l.2)) l.1

  entry_stands : (k : Link) → In (keys_of places) k → (i : ℕ) × (t : RowEntry) × (slice_get (rows (owner k)) i ≡ Some t) × (link (owner k) t ≡ k)
  entry_stands k i =
      let has : list_any (link_eq k) (keys_of places) ≡ true = any_in (link_eq k) (keys_of places) k i (link_refl k) in
      let p = some_place (lookup (link_eq k) places) (is_some-lookup (link_eq k) places ∙ has) in
      let back = h.back k (owner k, number p.0) (ap (option_map (λ (p : Places ℕ). (owner k, number p))) p.1) in
      let t = option_map_some (link (owner k)) (slice_get (rows (owner k)) (number p.0)) k back in
      (number p.0, t.0, t.1, t.2)

  rows_of : AreRowsOf link owner rows (keys_of places)
  rows_of = record {
    once = entries_once;
    stands = λ v t i. (let p = place_of (rows v) t i in link_stands v p.0 t p.1);
    found = λ k i. (let t = entry_stands k i in (t.1, in_by_place (rows (owner k)) t.0 t.1 t.2, t.3));
  }

  module _ (names : List (Option Name)) (vertices : List Vertex) (n : IsNamed names vertices (keys_of places)) where
    entry_known : (v i : ℕ) (t : RowEntry) → slice_get (rows v) i ≡ Some t → IsSome (slot names t.label)
    entry_known v i t e = entry_named link owner owner_of side rows (keys_of places) rows_of names vertices n v t (in_by_place (rows v) i t e)

    row_is : IsTable names → (v : ℕ) → IsPermutation (map (λ t. triple_of names (link v t)) (rows v)) (filter (λ s. owner_of s == v) (sorted triple_cmp (map (triple_of names) (keys_of places))))
    row_is = row_of link owner owner_of side rows (keys_of places) rows_of names vertices n

    row_length : IsTable names → (v : ℕ) → length (rows v) ≡ count_by (λ s. owner_of s == v) (sorted triple_cmp (map (triple_of names) (keys_of places)))
    row_length = row_length_of link owner owner_of side rows (keys_of places) rows_of names vertices n

-- ---- an entry that was read

module _ (nodes : List (ℕ × Node Row)) (v : ℕ) (p : Node Row) (e : lookup (nat_eq v) nodes ≡ Some p) (row : List RowEntry) (i : ℕ) (t : RowEntry) (within : i < length row) (read : t ≡ get_or row i t) where
  -- an entry that was read of the list of a node is that of its out row
  pub out_entry : row ≡ p.outs.items → slice_get (outs nodes v) i ≡ Some t
  out_entry r = ap (λ (o : Option (Node Row)). slice_get (outs_of o) i) e ∙ (ap (λ (l : List RowEntry). slice_get l i) (sym r) ∙ slice_get_read row (length row) i t refl within read)

  -- an entry that was read of the list of a node is that of its in row
  pub in_entry : row ≡ p.ins.items → slice_get (ins nodes v) i ≡ Some t
  in_entry r = ap (λ (o : Option (Node Row)). slice_get (ins_of o) i) e ∙ (ap (λ (l : List RowEntry). slice_get l i) (sym r) ∙ slice_get_read row (length row) i t refl within read)

-- ---- both sides of a store

module _ (names : List (Option Name)) (nodes : List (ℕ × Node Row)) (places : List (Link × Places ℕ)) (h : ArePlaced nodes places)
    (n : IsNamed names (map vertex_of nodes) (keys_of places)) where
  -- the out row of a vertex has the triples that begin there, each once
  pub out_row_is : IsTable names → (v : ℕ) → IsPermutation (row_from names (out_link v) (outs nodes v) 0) (triples_from (kept_graph names (map vertex_of nodes) (keys_of places)) v)
  out_row_is = row_is out_link (λ (k : Link). k.src) (λ (t : Triple). t.src) out_side (λ (p : Places ℕ). p.out_at) (outs nodes) places h.outs names (map vertex_of nodes) n

  -- the in row of a vertex has the triples that end there, each once
  pub in_row_is : IsTable names → (v : ℕ) → IsPermutation (row_from names (in_link v) (ins nodes v) 0) (triples_to (kept_graph names (map vertex_of nodes) (keys_of places)) v)
  in_row_is = row_is in_link (λ (k : Link). k.dst) (λ (t : Triple). t.dst) in_side (λ (p : Places ℕ). p.in_at) (ins nodes) places h.ins names (map vertex_of nodes) n

  -- the out row is as long as the triples that begin at the vertex are many
  pub out_degree_is : IsTable names → (v : ℕ) → length (outs nodes v) ≡ count_by (λ (t : Triple). t.src == v) (kept_graph names (map vertex_of nodes) (keys_of places)).triples
  out_degree_is = row_length out_link (λ (k : Link). k.src) (λ (t : Triple). t.src) out_side (λ (p : Places ℕ). p.out_at) (outs nodes) places h.outs names (map vertex_of nodes) n

  -- the in row is as long as the triples that end at the vertex are many
  pub in_degree_is : IsTable names → (v : ℕ) → length (ins nodes v) ≡ count_by (λ (t : Triple). t.dst == v) (kept_graph names (map vertex_of nodes) (keys_of places)).triples
  in_degree_is = row_length in_link (λ (k : Link). k.dst) (λ (t : Triple). t.dst) in_side (λ (p : Places ℕ). p.in_at) (ins nodes) places h.ins names (map vertex_of nodes) n

  -- the label of an entry is a name, and its other end a vertex
  pub out_known : (v i : ℕ) (t : RowEntry) → slice_get (outs nodes v) i ≡ Some t → IsSome (slot names t.label)
  out_known = entry_known out_link (λ (k : Link). k.src) (λ (t : Triple). t.src) out_side (λ (p : Places ℕ). p.out_at) (outs nodes) places h.outs names (map vertex_of nodes) n

  -- the label of an entry of an in row is a name
  pub in_known : (v i : ℕ) (t : RowEntry) → slice_get (ins nodes v) i ≡ Some t → IsSome (slot names t.label)
  in_known = entry_known in_link (λ (k : Link). k.dst) (λ (t : Triple). t.dst) in_side (λ (p : Places ℕ). p.in_at) (ins nodes) places h.ins names (map vertex_of nodes) n

  -- the other end of an entry of an out row is a vertex
  pub out_end : (v i : ℕ) (t : RowEntry) → slice_get (outs nodes v) i ≡ Some t → IsTrue (has_vertex (kept_graph names (map vertex_of nodes) (keys_of places)) t.other)
  out_end v i t e =
      let k = link_stands out_link (λ (k : Link). k.src) (λ (t : Triple). t.src) out_side (λ (p : Places ℕ). p.out_at) (outs nodes) places h.outs v i t e in
      let s = entry_stands in_link (λ (k : Link). k.dst) (λ (t : Triple). t.dst) in_side (λ (p : Places ℕ). p.in_at) (ins nodes) places h.ins (out_link v t) k in
      has_vertex_of names nodes (keys_of places) t.other ∙ stands_in (lookup (nat_eq t.other) nodes) s.0 (slice_get_within (ins nodes t.other) s.0 s.1 s.2)

  -- the other end of an entry of an in row is a vertex
  pub in_end : (v i : ℕ) (t : RowEntry) → slice_get (ins nodes v) i ≡ Some t → IsTrue (has_vertex (kept_graph names (map vertex_of nodes) (keys_of places)) t.other)
  in_end v i t e =
      let k = link_stands in_link (λ (k : Link). k.dst) (λ (t : Triple). t.dst) in_side (λ (p : Places ℕ). p.in_at) (ins nodes) places h.ins v i t e in
      let s = entry_stands out_link (λ (k : Link). k.src) (λ (t : Triple). t.src) out_side (λ (p : Places ℕ). p.out_at) (outs nodes) places h.outs (in_link v t) k in
      has_vertex_of names nodes (keys_of places) t.other ∙ stands_out (lookup (nat_eq t.other) nodes) s.0 (slice_get_within (outs nodes t.other) s.0 s.1 s.2)
