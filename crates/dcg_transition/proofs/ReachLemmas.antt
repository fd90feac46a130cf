-- The rows of one pattern vertex, from those of its parent.
use Rattle.std.proofs.Common.{◌≡◌, ℕ, zero, suc, ◌+◌, ◌-◌, ◌^◌, ◌<◌, ◌≤◌, Bool, true, false, cond, ◌==◌, ◌&&◌, nat_lt, List, [], ◌∷◌, map, length, take, inl, inr, refl, sym, ap, subst, ◌∙◌, arith}
use Rattle.std.specs.Prelude.{◌⊎◌, None, Some, count_by, nat_eq, slice_index, slice_index_or, replicate}
use Rattle.std.specs.Option.{is_some}
use Rattle.std.specs.List.{sum_by, list_any, IsDistinct}
use Rattle.std.specs.Str.{bytes_eq}
use Rattle.std.proofs.lemmas.Bool.{and_parts, eqb-true, eq-eqb, lt-ltb, cases_eq}
use Rattle.std.proofs.lemmas.List.{take_all}
use Rattle.std.proofs.lemmas.List.Sums.{sum_by-take-le, sum_by_more, count_by-le-length}
use Rattle.std.proofs.lemmas.List.FromFn.{get_or-map-range_with_len}
use Rattle.flux_model.specs.Graph.{Graph, has_vertex}
use Rattle.flux_model.specs.Labels.{is_within}
use Rattle.flux_model.specs.declared.graph.Vertex.{Vertex}
use Rattle.flux_model.specs.Pattern.{PatternGraph, vertex_count, fits, fits_labels}
use Rattle.flux_model.specs.Tree.{QueryTree, link_at, edge_at, children, BelongsTo}
use Rattle.flux_model.specs.States.{Joint, Joined, joined, joint_of, reaches}
use Rattle.flux_model.specs.Exact.{Row, StateRows, row_at, in_count}
use Rattle.flux_model.specs.declared.graph.Triple.{Triple}
use Rattle.flux_model.specs.declared.pattern.PatternEdge.{PatternEdge}
use Rattle.flux_model.specs.declared.limits.Limits.{Limits}
use Rattle.flux_model.specs.declared.tree.TreeLink.{TreeLink}
use Rattle.graph_traits.specs.WithinLimits.{IsWithinLimits}
use Rattle.query_tree.specs.Depth.{depth}
use Rattle.query_tree.proofs.CallerLemmas.{link_within, depth-below}
use Rattle.flux_model.specs.Members.{In}
use Rattle.flux_model.proofs.MemberLemmas.{in_any, any_in, filter_map_in}
use Rattle.dcg_store.proofs.ListLemmas.{some_counted}
use Rattle.dcg_store.proofs.StateLemmas.{fits_of_reaches}
use Rattle.dcg_store.proofs.BoundLemmas.{length-filter_map}
use Rattle.graph_rows.specs.Directions.{whole_row, ends_of, direction_to}
use Rattle.graph_rows.specs.Branches.{joins}
use Rattle.dcg_transition.specs.Filled.{begun, ins_at, AreBegun, HasMoreIns, counted_row}
use Rattle.dcg_transition.specs.Levels.{is_before, IsReached}
use Rattle.graph_rows.specs.Branches.{IsBranchOf, ends}
use Rattle.dcg_transition.specs.Tallies.{joins_from}
use Rattle.graph_rows.specs.declared.branch.Branch.{Branch}
use Rattle.dcg_transition.proofs.CallerLemmas.{reaches-below}
use Rattle.graph_rows.proofs.CountLemmas.{count_same}
use Rattle.graph_rows.proofs.JointLemmas.{ends_few, ends_down, ends_up, joints_of_row}
use Rattle.graph_rows.proofs.SumLemmas.{sum_alike, sum_of_joints}
use Rattle.dcg_transition.proofs.BegunLemmas.{ins_of, more_twice}
use Rattle.dcg_transition.proofs.LevelLemmas.{before_other, before_here, before_not, before_less}

-- ---- rows of which no out counter is raised

abbrev pub no_child : ℕ → Bool
no_child c = false

abbrev nothing : ℕ → ℕ
nothing c = 0

zeros : (cs : List ℕ) → map nothing cs ≡ replicate (length cs) 0
zeros [] = refl
zeros (c ∷ cs) = ap (λ (ns : List ℕ). 0 ∷ ns) (zeros cs)

begun_cases : (width n : ℕ) (b : Bool) → nat_lt 0 n ≡ b → begun width n ≡ cond b (Some (record { ins = n; outs = replicate width 0 })) None
begun_cases width zero true h = absurd (let bad : false ≡ true = h in cc)
begun_cases width zero false h = refl
begun_cases width (suc k) true h = refl
begun_cases width (suc k) false h = absurd (let bad : true ≡ false = sym (lt-ltb 0 (suc k) (omega arith)) ∙ h in cc)

-- as many counters of 0 as children
pub begun_row : (j : Joined) (u v n : ℕ) → n ≡ in_count j u v → nat_lt 0 n ≡ reaches j u v → begun (length (children j.tree u)) n ≡ counted_row no_child j u v
begun_row j u v n is reached =
    begun_cases (length (children j.tree u)) n (reaches j u v) reached
    ∙ (λ i. cond (reaches j u v) (Some (record { ins = is i; outs = sym (zeros (children j.tree u)) i })) None)

some_if : (b : Bool) (row : Row) → is_some (cond b (Some row) None) ≡ b
some_if true row = refl
some_if false row = refl

-- ---- what is in a list of joints

kept_some : (b : Bool) (x y : Joint) → cond b (Some x) None ≡ Some y → (b ≡ true) × (x ≡ y)
kept_some true x y h = (refl, cc)
kept_some false x y h = let bad : None ≡ Some y = h in absurd cc

pub implied : (b x : Bool) → (x ≡ true → b ≡ true) → (b && x) ≡ x
implied b true h = ap (λ c. c && true) (h refl)
implied true false h = refl
implied false false h = refl

-- ---- a vertex that hangs by a link

module _ (q : PatternGraph) (t : QueryTree) (belongs : BelongsTo q t) (u : ℕ) (l : TreeLink) (link : link_at t u ≡ Some l) (g : Graph) where
  abbrev over : Joined
  over = joined q t g

  joint_fits : (s : Triple) (e : Joint) → joint_of q t g u s ≡ Some e → fits q u g e.below ≡ true
  joint_fits s e h = by ((edge_at q l.edge).head == u) refl
    where
      edge : PatternEdge
      edge = edge_at q l.edge

      by : (b : Bool) → ((edge_at q l.edge).head == u) ≡ b → fits q u g e.below ≡ true
      by true down =
          let kept = kept_some (bytes_eq (edge_at q l.edge).label s.label && fits q (edge_at q l.edge).tail g s.src && fits q (edge_at q l.edge).head g s.dst) (record { above = s.src; below = s.dst }) e (rw (link, down) at h) in
          (λ i. fits q (sym (ends_down q t belongs u l link down).1 i) g (sym kept.1 i).below) ∙ (and_parts _ _ kept.0).1
      by false up =
          let kept = kept_some (bytes_eq (edge_at q l.edge).label s.label && fits q (edge_at q l.edge).tail g s.src && fits q (edge_at q l.edge).head g s.dst) (record { above = s.dst; below = s.src }) e (rw (link, up) at h) in
          (λ i. fits q (sym (ends_up q t belongs u l link up).0 i) g (sym kept.1 i).below) ∙ (and_parts _ _ (and_parts _ _ kept.0).0).1

  -- v is reached where a joint from a vertex that the parent reaches leads to it
  pub reaches_step : (v : ℕ) → reaches over u v ≡ list_any (λ e. e.below == v && reaches over l.parent e.above) (over.joints u)
  reaches_step v =
      reaches-below over belongs.tree u v l link
      ∙ implied (over.fits u v) (list_any test (over.joints u)) fit
    where
      test : Joint → Bool
      test e = e.below == v && reaches over l.parent e.above

      fit : list_any (λ e. e.below == v && reaches over l.parent e.above) (over.joints u) ≡ true → over.fits u v ≡ true
      fit any =
          let e = in_any (λ e. e.below == v && reaches over l.parent e.above) (over.joints u) any in
          let s = filter_map_in (joint_of q t g u) g.triples e.0 e.1 in
          ap (fits q u g) (sym (eqb-true e.0.below v (and_parts _ _ e.2).0)) ∙ joint_fits s.0 e.0 s.2

  pub in_count_link : (v : ℕ) → in_count over u v ≡ count_by (λ e. e.below == v && reaches over l.parent e.above) (over.joints u)
  in_count_link v = rw link refl

  pub counted_in : (v : ℕ) → nat_lt 0 (in_count over u v) ≡ reaches over u v
  counted_in v =
      ap (nat_lt 0) (in_count_link v) ∙ some_counted (λ e. e.below == v && reaches over l.parent e.above) (over.joints u) ∙ sym (reaches_step v)

  pub in_count_few : (v : ℕ) → in_count over u v ≤ length g.triples
  in_count_few v =
      omega (arith, in_count_link v, count_by-le-length (λ (e : Joint). e.below == v && reaches over l.parent e.above) (over.joints u), length-filter_map (joint_of q t g u) g.triples)

in_at : (vs : List ℕ) (i : ℕ) → i < length vs → In vs (slice_index vs i)
in_at [] i within = absurd (omega (arith, within))
in_at (v ∷ vs) zero within = inl refl
in_at (v ∷ vs) (suc i) within = inr (in_at vs i (omega (arith, within)))

pub any_at : (vs : List ℕ) (i : ℕ) → i < length vs → list_any (nat_eq (slice_index vs i)) vs ≡ true
any_at vs i within = any_in (nat_eq (slice_index vs i)) vs (slice_index vs i) (in_at vs i within) (eq-eqb (slice_index vs i) (slice_index vs i) refl)

pub vertex_of_fits : (q : PatternGraph) (u : ℕ) (g : Graph) (v : ℕ) → fits q u g v ≡ true → has_vertex g v ≡ true
vertex_of_fits q u g v fit =
    let w = in_any (λ (x : Vertex). x.id == v && is_within (slice_index_or q.labels u []) x.labels) g.vertices (and_parts _ _ fit).1 in
    any_in (λ (x : Vertex). x.id == v) g.vertices w.0 w.1 (and_parts (w.0.id == v) (is_within (slice_index_or q.labels u []) w.0.labels) w.2).0

-- ---- while the rows of a branch's child are made

module _ (q : PatternGraph) (t : QueryTree) (belongs : BelongsTo q t) (b : Branch) (branch : IsBranchOf q t b) (g : Graph) (old : StateRows)
    (reached : IsReached (joined q t g) (is_before t (depth t b.child) b.child) old) where
  abbrev to_child : Joined
  to_child = joined q t g

  -- the parent's rows are there, and b.child's are not
  pub parent_row : (v : ℕ) → row_at old b.link.parent v ≡ counted_row no_child to_child b.link.parent v
  parent_row v =
      reached.rows b.link.parent v
      ∙ ap (λ s. cond s (counted_row no_child to_child b.link.parent v) None) (before_less t (depth t b.child) b.child b.link.parent (omega (arith, depth-below t belongs.tree b.child b.link branch.link)))

  pub no_row : (v : ℕ) → row_at old b.child v ≡ None
  no_row v = reached.rows b.child v ∙ ap (λ s. cond s (counted_row no_child to_child b.child v) None) (before_not t (depth t b.child) b.child refl)

  pub no_ins : (v : ℕ) → ins_at old b.child v ≡ 0
  no_ins v = ap ins_of (no_row v)

  pub begins : AreBegun old b.child
  begins v = no_row v ∙ ap (begun (slice_index old.children b.child)) (sym (no_ins v))

  parent_reaches : (v : ℕ) → is_some (row_at old b.link.parent v) ≡ reaches to_child b.link.parent v
  parent_reaches v = ap is_some (parent_row v) ∙ some_if (reaches to_child b.link.parent v) (record { ins = in_count to_child b.link.parent v; outs = map nothing (children t b.link.parent) })

  row_joints : (v w : ℕ) → fits q b.link.parent g v ≡ true → count_by (joins g b.labels.now w) (ends b g v) ≡ count_by (λ e. e.above == v && e.below == w) (to_child.joints b.child)
  row_joints v w fit =
      (λ i. count_by (joins g (branch.labels i) w) (ends_of (branch.direction i) (branch.label i) (whole_row (branch.direction i) g v)))
      ∙ count_same (joins g (slice_index_or q.labels b.child []) w) (λ x. fits q b.child g x && x == w)
      (ends_of (direction_to (edge_at q b.link.edge) b.child) (edge_at q b.link.edge).label (whole_row (direction_to (edge_at q b.link.edge) b.child) g v))
      (λ x. ap (λ s. (s && fits_labels g (slice_index_or q.labels b.child []) x) && x == w) (sym inside))
      ∙ sym (joints_of_row q t belongs b.child b.link branch.link g v (λ x. x == w) fit)
    where
      inside : nat_lt b.child (vertex_count q) ≡ true
      inside = lt-ltb b.child (vertex_count q) (omega (arith, link_within t b.child b.link branch.link, belongs.vertices))

  from_joints : (w v : ℕ) → joins_from old b g w v ≡ cond (reaches to_child b.link.parent v) (count_by (λ e. e.above == v && e.below == w) (to_child.joints b.child)) 0
  from_joints w v = ap (λ s. cond s (count_by (joins g b.labels.now w) (ends b g v)) 0) (parent_reaches v) ∙ by (reaches to_child b.link.parent v) refl
    where
      by : (s : Bool) → reaches to_child b.link.parent v ≡ s → cond s (count_by (joins g b.labels.now w) (ends b g v)) 0 ≡ cond s (count_by (λ e. e.above == v && e.below == w) (to_child.joints b.child)) 0
      by true r = row_joints v w (fits_of_reaches to_child (length t.links) b.link.parent v r)
      by false r = refl

  -- the vertices that have a row with the parent are those that it reaches
  pub in_rows : (vs : List ℕ) → ((v : ℕ) → list_any (nat_eq v) vs ≡ is_some (row_at old b.link.parent v)) → (v : ℕ) → reaches to_child b.link.parent v ≡ true → list_any (nat_eq v) vs ≡ true
  in_rows vs rows v h = rows v ∙ (parent_reaches v ∙ h)

  -- and they are vertices of the graph
  pub row_stands : (v : ℕ) → is_some (row_at old b.link.parent v) ≡ true → has_vertex g v ≡ true
  row_stands v some = vertex_of_fits q b.link.parent g v (fits_of_reaches to_child (length t.links) b.link.parent v (sym (parent_reaches v) ∙ some))

  module _ (limits : Limits) (held : IsWithinLimits limits g) (listed : List ℕ) (distinct : IsDistinct nat_eq listed) (inside : (v : ℕ) → reaches to_child b.link.parent v ≡ true → list_any (nat_eq v) listed ≡ true) where
    -- from all that the parent reaches as many joints lead in as there are
    from_listed : (w : ℕ) → sum_by (joins_from old b g w) listed ≡ in_count to_child b.child w
    from_listed w =
        sum_alike (joins_from old b g w) (λ v. cond (reaches to_child b.link.parent v) (count_by (λ e. e.above == v && e.below == w) (to_child.joints b.child)) 0) listed (from_joints w)
        ∙ sum_of_joints (reaches to_child b.link.parent) w listed distinct inside (to_child.joints b.child)
        ∙ sym (in_count_link q t belongs b.child b.link branch.link g w)

    -- no in counter comes to its bound
    pub room : (i v w : ℕ) (d : StateRows) → HasMoreIns b.child (λ x. sum_by (joins_from old b g x) (take i listed)) old d
        → ins_at d b.child w + count_by (joins g b.labels.now w) (ends b g v) < 2 ^ 32 - 1
    room i v w d grown =
        omega (
          arith,
          grown.ins w,
          no_ins w,
          sum_by-take-le (joins_from old b g w) listed i,
          from_listed w,
          in_count_few q t belongs b.child b.link branch.link g w,
          count_by-le-length (joins g b.labels.now w) (ends b g v),
          ends_few g b.direction b.label.now v,
          held.within.triples,
          held.fair.edges.1,
        )

    -- one vertex further
    pub one_further : (i : ℕ) (mid new : StateRows) → i < length listed → is_some (row_at old b.link.parent (slice_index listed i)) ≡ true → HasMoreIns b.child (λ x. sum_by (joins_from old b g x) (take i listed)) old mid
        → HasMoreIns b.child (λ w. count_by (joins g b.labels.now w) (ends b g (slice_index listed i))) mid new → HasMoreIns b.child (λ x. sum_by (joins_from old b g x) (take (i + 1) listed)) old new
    one_further i mid new within some so_far next =
        more_twice b.child (λ x. sum_by (joins_from old b g x) (take i listed)) (λ w. count_by (joins g b.labels.now w) (ends b g (slice_index listed i)))
        (λ x. sum_by (joins_from old b g x) (take (i + 1) listed)) old mid new so_far next
        (λ w.
        let here = ap (λ s. cond s (count_by (joins g b.labels.now w) (ends b g (slice_index listed i))) 0) some in
        omega (arith, sum_by_more (joins_from old b g w) listed i 0 within, here))

    -- all vertices
    pub vertex_reached : (i : ℕ) (new : StateRows) → length listed ≤ i → HasMoreIns b.child (λ x. sum_by (joins_from old b g x) (take i listed)) old new
        → IsReached to_child (is_before t (depth t b.child) (b.child + 1)) new
    vertex_reached i new end grown = record {
      whole = grown.beside.whole ∙ reached.whole;
      children = grown.beside.children ∙ reached.children;
      rows = rows;
    }
      where
        all : (v : ℕ) → ins_at new b.child v ≡ in_count to_child b.child v
        all v =
            let whole = ap (sum_by (joins_from old b g v)) (take_all i listed end) in
            omega (arith, grown.ins v, no_ins v, whole, from_listed v)

        width : slice_index new.children b.child ≡ length (children t b.child)
        width =
            ap (λ (ns : List ℕ). slice_index ns b.child) (grown.beside.children ∙ reached.children)
            ∙ get_or-map-range_with_len (λ c. length (children t c)) 0 (length t.links) b.child b.child 0 (link_within t b.child b.link branch.link) (omega arith)

        own : (v : ℕ) → row_at new b.child v ≡ counted_row no_child to_child b.child v
        own v =
            grown.begun v ∙ (λ i. begun (width i) (ins_at new b.child v))
            ∙ begun_row to_child b.child v (ins_at new b.child v) (all v) (ap (nat_lt 0) (all v) ∙ counted_in q t belongs b.child b.link branch.link g v)

        rows : (x v : ℕ) → row_at new x v ≡ cond (is_before t (depth t b.child) (b.child + 1) x) (counted_row no_child to_child x v) None
        rows x v = by (cases_eq x b.child)
          where
            by : (x ≡ b.child) ⊎ (x ≡ b.child → ⊥) → row_at new x v ≡ cond (is_before t (depth t b.child) (b.child + 1) x) (counted_row no_child to_child x v) None
            by (inl same) =
                subst (λ z. row_at new z v ≡ cond (is_before t (depth t b.child) (b.child + 1) z) (counted_row no_child to_child z v) None) (sym same)
                (own v ∙ sym (ap (λ s. cond s (counted_row no_child to_child b.child v) None) (before_here t (depth t b.child) b.child refl)))
            by (inr other) =
                grown.beside.others x v other ∙ reached.rows x v ∙ sym (ap (λ s. cond s (counted_row no_child to_child x v) None) (before_other t (depth t b.child) b.child x other))
