-- The joints that a graph vertex has on a tree edge are the ends of its row that fit.
use Rattle.std.proofs.Common.{◌≡◌, ◌≢◌, ℕ, ◌≤◌, Bool, true, false, cond, ◌&&◌, ◌==◌, List, length, inl, inr, refl, sym, ap, ◌∙◌, arith}
use Rattle.std.specs.Prelude.{◌⊎◌, Some, filter, count_by, IsPermutation}
use Rattle.std.specs.List.{filter_map}
use Rattle.std.specs.Str.{bytes_eq}
use Rattle.std.proofs.lemmas.Bool.{and_parts, or_cases, eqb-true}
use Rattle.std.proofs.lemmas.List.{length-map}
use Rattle.std.proofs.lemmas.List.Sums.{length-filter, count_by-le-length}
use Rattle.std.proofs.lemmas.List.Sorted.{sum_by-IsPermutation}
use Rattle.flux_model.specs.Graph.{Graph}
use Rattle.flux_model.specs.Pattern.{PatternGraph, fits}
use Rattle.flux_model.specs.Tree.{QueryTree, link_at, edge_at, BelongsTo}
use Rattle.flux_model.specs.States.{Joint, joint_of}
use Rattle.flux_model.specs.declared.graph.Triple.{Triple}
use Rattle.flux_model.specs.declared.pattern.PatternEdge.{PatternEdge}
use Rattle.flux_model.specs.declared.tree.TreeLink.{TreeLink}
use Rattle.query_tree.specs.Depth.{depth}
use Rattle.query_tree.proofs.CallerLemmas.{depth-below}
use Rattle.graph_rows.specs.Branches.{ends, row_along}
use Rattle.graph_rows.specs.Directions.{whole_row, other_end, ends_of, direction_to}
use Rattle.graph_rows.specs.declared.branch.Branch.{Branch}
use Rattle.graph_rows.specs.declared.direction.Direction.{Direction}
use Rattle.graph_rows.specs.declared.direction.Direction.TheVariants.{Out, In}
use Rattle.graph_rows.specs.declared.graph_row.GraphRow.{GraphRow}
use Rattle.graph_rows.proofs.CountLemmas.{count_same, passes, passes-cond, count-filter_map, count-filter, count-ends_of, head_one, tail_one}

-- ---- the ends of a row

-- those that pass a test are as many in any order of the row
pub count_row : (p : ℕ → Bool) (b : Branch) (g : Graph) (v : ℕ) (row : GraphRow) → row ≡ row_along b v → (ts : List Triple) → IsPermutation ts (whole_row row.direction g row.vertex)
    → count_by p (ends_of row.direction row.label.now ts) ≡ count_by p (ends b g v)
count_row p b g v row is ts all =
    let us = whole_row row.direction g row.vertex in
    count-ends_of p row.direction row.label.now ts
    ∙ sym (sum_by-IsPermutation (λ (t : Triple). cond (bytes_eq row.label.now t.label && p (other_end row.direction t)) 1 0) ts us all)
    ∙ sym (count-ends_of p row.direction row.label.now us)
    ∙ ap (λ (r : GraphRow). count_by p (ends_of r.direction r.label.now (whole_row r.direction g r.vertex))) is

-- a row has no more ends than the graph has triples
pub ends_few : (g : Graph) (direction : Direction) (label : List ℕ) (v : ℕ) → length (ends_of direction label (whole_row direction g v)) ≤ length g.triples
ends_few g direction label v =
    let p : Triple → Bool = λ t. bytes_eq label t.label in
    let row = whole_row direction g v in
    omega (arith, length-map (filter p row) (other_end direction), length-filter p row, count_by-le-length p row, row_few direction)
  where
    row_few : (d : Direction) → length (whole_row d g v) ≤ length g.triples
    row_few Out = let p : Triple → Bool = λ t. t.src == v in omega (arith, length-filter p g.triples, count_by-le-length p g.triples)
    row_few In = let p : Triple → Bool = λ t. t.dst == v in omega (arith, length-filter p g.triples, count_by-le-length p g.triples)

-- ---- the joints of a vertex

module _ (q : PatternGraph) (t : QueryTree) (belongs : BelongsTo q t) (u : ℕ) (l : TreeLink) (link : link_at t u ≡ Some l) where
  -- a vertex is not its own parent
  pub apart : u ≢ l.parent
  apart same = absurd (omega (arith, depth-below t belongs.tree u l link, ap (depth t) same))

  -- the parent is the tail where u is the head
  pub ends_down : ((edge_at q l.edge).head == u) ≡ true → ((edge_at q l.edge).tail ≡ l.parent) × ((edge_at q l.edge).head ≡ u)
  ends_down down = by (or_cases (e.tail == u && e.head == l.parent) (e.tail == l.parent && e.head == u) (belongs.links u l link).between)
    where
      e : PatternEdge
      e = edge_at q l.edge

      by : ((e.tail == u && e.head == l.parent) ≡ true) ⊎ ((e.tail == l.parent && e.head == u) ≡ true) → (e.tail ≡ l.parent) × (e.head ≡ u)
      by (inl h) = absurd (apart (sym (eqb-true e.head u down) ∙ eqb-true e.head l.parent (and_parts _ _ h).1))
      by (inr h) = (eqb-true e.tail l.parent (and_parts _ _ h).0, eqb-true e.head u (and_parts _ _ h).1)

  -- the parent is the head where u is not
  pub ends_up : ((edge_at q l.edge).head == u) ≡ false → ((edge_at q l.edge).tail ≡ u) × ((edge_at q l.edge).head ≡ l.parent)
  ends_up up = by (or_cases (e.tail == u && e.head == l.parent) (e.tail == l.parent && e.head == u) (belongs.links u l link).between)
    where
      e : PatternEdge
      e = edge_at q l.edge

      by : ((e.tail == u && e.head == l.parent) ≡ true) ⊎ ((e.tail == l.parent && e.head == u) ≡ true) → (e.tail ≡ u) × (e.head ≡ l.parent)
      by (inl h) = (eqb-true e.tail u (and_parts _ _ h).0, eqb-true e.head l.parent (and_parts _ _ h).1)
      by (inr h) = let there = (and_parts (e.tail == l.parent) (e.head == u) h).1 in let bad : true ≡ false = sym there ∙ up in absurd cc

  module _ (g : Graph) (v : ℕ) (P : ℕ → Bool) (fit : fits q l.parent g v ≡ true) where
    abbrev from_v : Joint → Bool
    from_v e = e.above == v && P e.below

    abbrev leads : ℕ → Bool
    leads other = fits q u g other && P other

    abbrev is_end : ℕ → List ℕ → Bool
    is_end other label = bytes_eq (edge_at q l.edge).label label && leads other

    one_down : ((edge_at q l.edge).head == u) ≡ true → (s : Triple) → passes from_v (joint_of q t g u s) ≡ (s.src == v && is_end s.dst s.label)
    one_down down s =
        let e = edge_at q l.edge in
        let both = ends_down down in
        let tail : (s.src == v) ≡ true → fits q e.tail g s.src ≡ true = λ same. (λ i. fits q (both.0 i) g (eqb-true s.src v same i)) ∙ fit in
        rw (link, down)
        (passes-cond from_v (bytes_eq e.label s.label && fits q e.tail g s.src && fits q e.head g s.dst) (record { above = s.src; below = s.dst })
        ∙ head_one (bytes_eq e.label s.label) (fits q e.tail g s.src) (fits q e.head g s.dst) (s.src == v) (P s.dst) tail
        ∙ ap (λ h. s.src == v && (bytes_eq e.label s.label && (fits q h g s.dst && P s.dst))) both.1)

    one_up : ((edge_at q l.edge).head == u) ≡ false → (s : Triple) → passes from_v (joint_of q t g u s) ≡ (s.dst == v && is_end s.src s.label)
    one_up up s =
        let e = edge_at q l.edge in
        let both = ends_up up in
        let head : (s.dst == v) ≡ true → fits q e.head g s.dst ≡ true = λ same. (λ i. fits q (both.1 i) g (eqb-true s.dst v same i)) ∙ fit in
        rw (link, up)
        (passes-cond from_v (bytes_eq e.label s.label && fits q e.tail g s.src && fits q e.head g s.dst) (record { above = s.dst; below = s.src })
        ∙ tail_one (bytes_eq e.label s.label) (fits q e.tail g s.src) (fits q e.head g s.dst) (s.dst == v) (P s.src) head
        ∙ ap (λ h. s.dst == v && (bytes_eq e.label s.label && (fits q h g s.src && P s.src))) both.0)

    -- of a vertex that fits the parent, as many joints lead to some vertices as ends of its row that fit
    pub joints_of_row : count_by from_v (filter_map (joint_of q t g u) g.triples)
        ≡ count_by leads (ends_of (direction_to (edge_at q l.edge) u) (edge_at q l.edge).label (whole_row (direction_to (edge_at q l.edge) u) g v))
    joints_of_row = count-filter_map from_v (joint_of q t g u) g.triples ∙ by ((edge_at q l.edge).head == u) refl
      where
        by : (b : Bool) → ((edge_at q l.edge).head == u) ≡ b
            → count_by (λ s. passes from_v (joint_of q t g u s)) g.triples ≡ count_by leads (ends_of (cond b Out In) (edge_at q l.edge).label (whole_row (cond b Out In) g v))
        by true down =
            count_same (λ s. passes from_v (joint_of q t g u s)) (λ s. s.src == v && is_end s.dst s.label) g.triples (one_down down)
            ∙ sym (count-filter (λ (s : Triple). is_end s.dst s.label) (λ s. s.src == v) g.triples)
            ∙ sym (count-ends_of leads Out (edge_at q l.edge).label (whole_row Out g v))
        by false up =
            count_same (λ s. passes from_v (joint_of q t g u s)) (λ s. s.dst == v && is_end s.src s.label) g.triples (one_up up)
            ∙ sym (count-filter (λ (s : Triple). is_end s.src s.label) (λ s. s.dst == v) g.triples)
            ∙ sym (count-ends_of leads In (edge_at q l.edge).label (whole_row In g v))
