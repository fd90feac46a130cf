-- The walks of a view at their first places, and the layers that it stands for.
use Rattle.std.proofs.Common.{◌≡◌, ◌≢◌, ℕ, ◌+◌, ◌*◌, ◌<◌, ◌≤◌, Bool, true, false, cond, ◌&&◌, ◌||◌, ◌==◌, nat_lt, List, [], ◌∷◌, ◌++◌, length, refl, sym, ap, subst, ◌∙◌, arith}
use Rattle.std.specs.Prelude.{Option, None, Some, filter, count_by, IsTrue, IfSome, IsPermutation, slice_index_or}
use Rattle.std.specs.List.{filter_map, list_any}
use Rattle.std.specs.Str.{bytes_eq}
use Rattle.std.proofs.lemmas.Bool.{ne_eqb, lt-ltb, and_parts, and_from}
use Rattle.std.proofs.lemmas.List.{length-map, length-append}
use Rattle.std.proofs.lemmas.List.Sums.{length-filter, count_by-le-length}
use Rattle.std.proofs.lemmas.List.Sorted.{length_permutation}
use Rattle.flux_model.specs.Costs.{degree}
use Rattle.flux_model.specs.Graph.{Graph, triple_cmp, has_vertex, has_triple, with_triple}
use Rattle.flux_model.specs.Labels.{is_within}
use Rattle.flux_model.specs.Pattern.{PatternGraph, vertex_count, fits, fits_labels}
use Rattle.flux_model.specs.States.{Joint, joint_of}
use Rattle.flux_model.specs.Tree.{QueryTree, link_at, edge_at}
use Rattle.flux_model.specs.declared.graph.Triple.{Triple}
use Rattle.flux_model.specs.declared.graph.Vertex.{Vertex}
use Rattle.query_tree.proofs.CallerLemmas.{linked, parent_within}
use Rattle.graph_traits.specs.declared.spot.Spot.{Spot}
use Rattle.graph_rows.specs.Directions.{whole_row, near_end, other_end, ends_of, direction_to}
use Rattle.graph_rows.specs.declared.direction.Direction.{Direction}
use Rattle.graph_rows.specs.declared.direction.Direction.TheVariants.{Out, In}
use Rattle.dcg_moves.specs.Agree.{times}
use Rattle.dcg_moves.specs.Between.{seen_by}
use Rattle.dcg_moves.specs.Layers.{parent_by, above_of, below_of}
use Rattle.dcg_moves.specs.Update.{view}
use Rattle.dcg_moves.specs.declared.place.JointPlace.{JointPlace}
use Rattle.dcg_updates.specs.Joints.{link_of}
use Rattle.dcg_updates.specs.Plans.{Plan, plan_at, IsPlaceIn, is_in_row, other_in, keeps, fitting, further_for, further_cost, row_from, row_left, left_from, cost_from}
use Rattle.dcg_updates.specs.Changed.{small_of, large_of, update_of, IsChangeOf}
use Rattle.dcg_updates.specs.Sights.{done_of, sight_before, sight_of, sees}
use Rattle.dcg_updates.specs.Views.{up_plan, down_plan, IsPlaceAt}
use Rattle.dcg_updates.specs.declared.sight.Change.{Change}
use Rattle.dcg_updates.specs.declared.sight.Change.TheVariants.{Added, Taken}
use Rattle.dcg_updates.specs.declared.sight.Sight.{Sight}
use Rattle.dcg_updates.specs.declared.sight.Sight.TheVariants.{AtHand, Without, With}
use Rattle.dcg_updates.proofs.PermutationLemmas.{bit, count-put, perm_from_times}
use Rattle.dcg_updates.proofs.RowJointLemmas.{leads, joints_up, joints_down, count_above, count_below}
use Rattle.dcg_updates.proofs.SightLemmas.{count_left, count_seen, IsNew}

-- ---- vertices

-- what fits is a vertex
pub member_stands : (q : PatternGraph) (u : ℕ) (g : Graph) (v : ℕ) → fits q u g v ≡ true → has_vertex g v ≡ true
member_stands q u g v member = walk g.vertices (and_parts (nat_lt u (vertex_count q)) (fits_labels g (slice_index_or q.labels u []) v) member).1
  where
    walk : (vs : List Vertex) → list_any (λ (x : Vertex). x.id == v && is_within (slice_index_or q.labels u []) x.labels) vs ≡ true → list_any (λ (x : Vertex). x.id == v) vs ≡ true
    walk [] h = h
    walk (x ∷ xs) h = by (x.id == v) (is_within (slice_index_or q.labels u []) x.labels) h (walk xs)
      where
        by : (a b : Bool) → (a && b || list_any (λ (y : Vertex). y.id == v && is_within (slice_index_or q.labels u []) y.labels) xs) ≡ true
            → (list_any (λ (y : Vertex). y.id == v && is_within (slice_index_or q.labels u []) y.labels) xs ≡ true → list_any (λ (y : Vertex). y.id == v) xs ≡ true)
            → (a || list_any (λ (y : Vertex). y.id == v) xs) ≡ true
        by true b h rest = refl
        by false b h rest = rest h

-- a vertex with the labels fits
pub fits_from : (q : PatternGraph) (u : ℕ) (g : Graph) (v : ℕ) → u < vertex_count q → fits_labels g (slice_index_or q.labels u []) v ≡ true → fits q u g v ≡ true
fits_from q u g v low h = and_from (nat_lt u (vertex_count q)) (fits_labels g (slice_index_or q.labels u []) v) (lt-ltb u (vertex_count q) low) h

-- ---- what a tree edge sees

module _ (t : QueryTree) (g : Graph) (e : Triple) (next u : ℕ) (apart : u ≢ t.root) where
  -- the triples that are seen, by the layers and by the sight
  pub seen_is : (change : Change) → seen_by (small_of change g e) (large_of change g e) (done_of t change next) u ≡ sees (sight_of change next u) g e
  seen_is change = by change (nat_lt u next) refl
    where
      other : (u == t.root) ≡ false
      other = ne_eqb u t.root apart

      by : (change : Change) (b : Bool) → nat_lt u next ≡ b → seen_by (small_of change g e) (large_of change g e) (done_of t change next) u ≡ sees (sight_of change next u) g e
      by Added true low = rw (low, other) refl
      by Added false low = rw low refl
      by Taken true low = rw (low, other) refl
      by Taken false low = rw low refl

new_of : (q : PatternGraph) (t : QueryTree) (g : Graph) (e : Triple) (change : Change) (b : Bool) → IsChangeOf q t g e change → IsNew (cond b AtHand (sight_before change)) g e
new_of q t g e Added true v = tt
new_of q t g e Added false v = tt
new_of q t g e Taken true v = tt
new_of q t g e Taken false v = v.stands

-- ---- how much a row has

near_few : (d : Direction) (v : ℕ) (ts : List Triple) → count_by (λ s. near_end d s == v) ts ≤ count_by (λ (s : Triple). s.src == v) ts + count_by (λ (s : Triple). s.dst == v) ts
near_few Out v ts = omega arith
near_few In v ts = omega arith

row_length : (d : Direction) (g : Graph) (v : ℕ) → length (whole_row d g v) ≡ count_by (λ s. near_end d s == v) g.triples
row_length Out g v = length-filter (λ (s : Triple). s.src == v) g.triples
row_length In g v = length-filter (λ (s : Triple). s.dst == v) g.triples

further_few : (d : Direction) (label : List ℕ) (v : ℕ) (e : Triple) → further_cost (other_in d label v e) ≤ bit (near_end d e == v)
further_few d label v e = by (near_end d e == v) (bytes_eq label e.label)
  where
    by : (a b : Bool) → further_cost (cond (a && b) (Some (other_end d e)) None) ≤ bit a
    by true true = omega arith
    by true false = omega arith
    by false b = omega arith

near_more : (d : Direction) (g : Graph) (e : Triple) (v : ℕ) → has_triple g e ≡ false → count_by (λ s. near_end d s == v) g.triples + bit (near_end d e == v) ≤ degree (with_triple g e) v
near_more d g e v new =
    let a = count-put triple_cmp (λ s. near_end d s == v) e g.triples new in
    let b = near_few d v (with_triple g e).triples in
    omega (arith, a, b)

room : (q : PatternGraph) (t : QueryTree) (g : Graph) (e : Triple) (change : Change) (b : Bool) (d : Direction) (label : List ℕ) (v : ℕ) → IsChangeOf q t g e change →
    length (whole_row d g v) + further_cost (further_for (cond b AtHand (sight_before change)) (other_in d label v e)) ≤ degree (large_of change g e) v
room q t g e Added true d label v is = omega (arith, row_length d g v, near_few d v g.triples)
room q t g e Added false d label v is = omega (arith, row_length d g v, near_few d v g.triples)
room q t g e Taken true d label v is = omega (arith, row_length d g v, near_more d g e v is.stands)
room q t g e Taken false d label v is = omega (arith, row_length d g v, near_more d g e v is.stands, further_few d label v e)

length_left : (outs ins : ℕ → Spot → List Triple) (g : Graph) (p : Plan) (c : JointPlace) → c.given ≡ false → IsPermutation (row_from outs ins p c.at) (whole_row p.direction g p.vertex) →
    length (left_from outs ins g p c) ≤ length (whole_row p.direction g p.vertex) + further_cost p.further
length_left outs ins g p c start all =
    let row = row_from outs ins p c.at in
    let here : left_from outs ins g p c ≡ row_left outs ins g p c.at ++ fitting g p.labels p.further = rw start refl in
    let ends = ends_of p.direction p.label row in
    let by_label : Triple → Bool = λ s. bytes_eq p.label s.label in
    omega (
      arith,
      ap length here,
      length-append (row_left outs ins g p c.at) (fitting g p.labels p.further),
      length-filter (keeps g p) ends,
      count_by-le-length (keeps g p) ends,
      length-map (filter by_label row) (other_end p.direction),
      length-filter by_label row,
      count_by-le-length by_label row,
      length_permutation row (whole_row p.direction g p.vertex) all,
      one p.further,
    )
  where
    one : (o : Option ℕ) → length (fitting g p.labels o) ≤ further_cost o
    one None = omega arith
    one (Some w) = by (fits_labels g p.labels w)
      where
        by : (b : Bool) → length (cond b (w ∷ []) []) ≤ 1
        by true = omega arith
        by false = omega arith

cost_first : (outs ins : ℕ → Spot → List Triple) (g : Graph) (p : Plan) (c : JointPlace) → c.given ≡ false → IsPermutation (row_from outs ins p c.at) (whole_row p.direction g p.vertex) →
    cost_from outs ins p c ≡ 2 * length (whole_row p.direction g p.vertex) + 1 + further_cost p.further
cost_first outs ins g p c start all =
    let row = row_from outs ins p c.at in
    let here : cost_from outs ins p c ≡ 2 * length row + 1 + further_cost p.further = rw start refl in
    omega (arith, here, length_permutation row (whole_row p.direction g p.vertex) all)

-- ---- a walk at its first place

module _ (q : PatternGraph) (t : QueryTree) (g : Graph) (e : Triple) (change : Change) (next : ℕ) (is : IsChangeOf q t g e change) (u : ℕ) (inside : u < length t.links) (apart : u ≢ t.root) where
  -- a lower vertex has a link
  pub link_stands : link_at t u ≡ Some (link_of t u)
  link_stands = let l = linked t is.belongs.tree u inside apart in let same : link_of t u ≡ l.0 = rw l.1 refl in l.1 ∙ ap Some (sym same)

  parent_inside : (link_of t u).parent < vertex_count q
  parent_inside = omega (arith, parent_within t is.belongs.tree u (link_of t u) link_stands, is.belongs.vertices)

  vertex_inside : u < vertex_count q
  vertex_inside = omega (arith, inside, is.belongs.vertices)

  parent_same : parent_by t.root (link_at t u) ≡ (link_of t u).parent
  parent_same = ap (parent_by t.root) link_stands

  parent_fits : (v : ℕ) → fits q (parent_by t.root (link_at t u)) (large_of change g e) v ≡ true → fits q (link_of t u).parent (large_of change g e) v ≡ true
  parent_fits v fit = subst (λ k. fits q k (large_of change g e) v ≡ true) parent_same fit

  -- ---- to whichever end of the tree edge

  module _ (outs ins : ℕ → Spot → List Triple) (v : ℕ) (c : JointPlace) (start : c.given ≡ false) (end : ℕ) (p : Plan) (made : p ≡ plan_at q t e (sight_of change next u) u end v) (all : IsPermutation (row_from outs ins p c.at) (whole_row p.direction g p.vertex)) where
    abbrev walk : Plan
    walk = plan_at q t e (sight_of change next u) u end v

    rows : IsPermutation (row_from outs ins walk c.at) (whole_row walk.direction g v)
    rows = subst (λ (k : Plan). IsPermutation (row_from outs ins k c.at) (whole_row k.direction g k.vertex)) made all

    -- it has no more ends than the graph with the triple has turns there
    pub few_ends : length (left_from outs ins g (plan_at q t e (sight_of change next u) u end v) c) ≤ degree (large_of change g e) v
    few_ends = omega (arith, length_left outs ins g walk c start rows, room q t g e change (nat_lt u next) walk.direction walk.label v is)

    -- and costs twice as many steps
    pub few_steps : cost_from outs ins (plan_at q t e (sight_of change next u) u end v) c ≤ 2 * degree (large_of change g e) v + 1
    few_steps = omega (arith, cost_first outs ins g walk c start rows, room q t g e change (nat_lt u next) walk.direction walk.label v is)

    -- ends with the labels are ends that fit
    fit_counts : (w : ℕ) (ts : List Triple) → end < vertex_count q →
        count_by (leads walk.direction walk.label v (λ o. fits_labels g (slice_index_or q.labels end []) o && o == w)) ts
        ≡ count_by (leads walk.direction walk.label v (λ o. fits q end (large_of change g e) o && o == w)) ts
    fit_counts w ts low =
        sym (ap (λ b. count_by (leads walk.direction walk.label v (λ o. (b && fits_labels g (slice_index_or q.labels end []) o) && o == w)) ts) (lt-ltb end (vertex_count q) low))

    -- each end is left as often as triples lead to it that the tree edge sees
    counted : (w : ℕ) → end < vertex_count q →
        times w (left_from outs ins g walk c) ≡ count_by (leads walk.direction walk.label v (λ o. fits q end (large_of change g e) o && o == w)) (sees (sight_of change next u) g e)
    counted w low =
        count_left outs ins g walk c w start rows
        ∙ count_seen (sight_of change next u) g walk.direction walk.label (slice_index_or q.labels end []) v e w (new_of q t g e change (nat_lt u next) is)
        ∙ fit_counts w (sees (sight_of change next u) g e) low

  -- ---- to the parent

  module _ (v : ℕ) (p : Plan) (made : p ≡ up_plan q t e change next u v) (fit : fits q u (large_of change g e) v ≡ true) where
    -- v is a vertex
    pub stands_up : IsTrue (has_vertex g p.vertex)
    stands_up = subst (λ (k : Plan). IsTrue (has_vertex g k.vertex)) (sym made) (member_stands q u (large_of change g e) v fit)

    -- the walk's place is one of the view
    pub place_up : (is_out is_in : ℕ → Spot → Type 0) (c : JointPlace) → IsPlaceIn is_out is_in p c → IsPlaceAt t g is_out is_in (up_plan q t e change next u v) u v c
    place_up is_out is_in c place = record {
      inside = inside;
      apart = apart;
      stands = member_stands q u (large_of change g e) v fit;
      place = subst (λ (k : Plan). IsPlaceIn is_out is_in k c) made place;
    }

    -- what is left is each joint that leads to v, once
    pub all_up : (outs ins : ℕ → Spot → List Triple) (c : JointPlace) → c.given ≡ false → IsPermutation (row_from outs ins p c.at) (whole_row p.direction g p.vertex) →
        IsPermutation (left_from outs ins g (up_plan q t e change next u v) c) (above_of (view (update_of q t g e change) (done_of t change next)) u v)
    all_up outs ins c start all =
        perm_from_times (left_from outs ins g (up_plan q t e change next u v) c) (above_of (view (update_of q t g e change) (done_of t change next)) u v) (λ w.
        counted outs ins v c start (link_of t u).parent p made all w parent_inside
        ∙ sym (joints_up q t is.belongs u (link_of t u) link_stands (large_of change g e) v (λ o. o == w) (sees (sight_of change next u) g e) fit)
        ∙ ap (λ ts. count_by (λ (j : Joint). j.below == v && j.above == w) (filter_map (joint_of q t (large_of change g e) u) ts)) (sym (seen_is t g e next u apart change))
        ∙ sym (count_above v w (filter_map (joint_of q t (large_of change g e) u) (seen_by (small_of change g e) (large_of change g e) (done_of t change next) u))))

  -- ---- to the child

  module _ (v : ℕ) (p : Plan) (made : p ≡ down_plan q t e change next u v) (fit : fits q (parent_by t.root (link_at t u)) (large_of change g e) v ≡ true) where
    -- v is a vertex
    pub stands_down : IsTrue (has_vertex g p.vertex)
    stands_down = subst (λ (k : Plan). IsTrue (has_vertex g k.vertex)) (sym made) (member_stands q (parent_by t.root (link_at t u)) (large_of change g e) v fit)

    -- the walk's place is one of the view
    pub place_down : (is_out is_in : ℕ → Spot → Type 0) (c : JointPlace) → IsPlaceIn is_out is_in p c → IsPlaceAt t g is_out is_in (down_plan q t e change next u v) u v c
    place_down is_out is_in c place = record {
      inside = inside;
      apart = apart;
      stands = member_stands q (parent_by t.root (link_at t u)) (large_of change g e) v fit;
      place = subst (λ (k : Plan). IsPlaceIn is_out is_in k c) made place;
    }

    -- what is left is each joint that leads on from v, once
    pub all_down : (outs ins : ℕ → Spot → List Triple) (c : JointPlace) → c.given ≡ false → IsPermutation (row_from outs ins p c.at) (whole_row p.direction g p.vertex) →
        IsPermutation (left_from outs ins g (down_plan q t e change next u v) c) (below_of (view (update_of q t g e change) (done_of t change next)) u v)
    all_down outs ins c start all =
        perm_from_times (left_from outs ins g (down_plan q t e change next u v) c) (below_of (view (update_of q t g e change) (done_of t change next)) u v) (λ w.
        counted outs ins v c start u p made all w vertex_inside
        ∙ sym (joints_down q t is.belongs u (link_of t u) link_stands (large_of change g e) v (λ o. o == w) (sees (sight_of change next u) g e) (parent_fits v fit))
        ∙ ap (λ ts. count_by (λ (j : Joint). j.above == v && j.below == w) (filter_map (joint_of q t (large_of change g e) u) ts)) (sym (seen_is t g e next u apart change))
        ∙ sym (count_below v w (filter_map (joint_of q t (large_of change g e) u) (seen_by (small_of change g e) (large_of change g e) (done_of t change next) u))))

  -- ---- the ends that a walk gives

  -- to the parent they are members of its layer
  pub members_up : (labels : List (List ℕ)) (o : Option (ℕ × JointPlace)) → labels ≡ slice_index_or q.labels (link_of t u).parent [] → IfSome o (λ x. fits_labels g labels x.0 ≡ true)
      → IfSome o (λ x. fits q (parent_by t.root (link_at t u)) (large_of change g e) x.0 ≡ true)
  members_up labels None same h = tt
  members_up labels (Some x) same h =
      let F : List (List ℕ) → Type 0 = λ ls. fits_labels g ls x.0 ≡ true in
      let M : ℕ → Type 0 = λ k. fits q k (large_of change g e) x.0 ≡ true in
      subst M (sym parent_same) (fits_from q (link_of t u).parent (large_of change g e) x.0 parent_inside (subst F same h))

-- ---- the end behind a row is a vertex

further_stands : (q : PatternGraph) (t : QueryTree) (g : Graph) (e : Triple) (change : Change) → IsChangeOf q t g e change → (s : Sight) (d : Direction) (label : List ℕ) (v : ℕ) → IfSome (further_for s (other_in d label v e)) (λ w. IsTrue (has_vertex g w))
further_stands q t g e change is s d label v = by s (is_in_row d label v e)
  where
    ends : (has_vertex g e.src ≡ true) × (has_vertex g e.dst ≡ true)
    ends = and_parts (has_vertex g e.src) (has_vertex g e.dst) is.ends

    far : (d : Direction) → has_vertex g (other_end d e) ≡ true
    far Out = ends.1
    far In = ends.0

    by : (s : Sight) (b : Bool) → IfSome (further_for s (cond b (Some (other_end d e)) None)) (λ w. IsTrue (has_vertex g w))
    by AtHand b = tt
    by Without b = tt
    by With true = far d
    by With false = tt

-- to the parent
pub further_up : (q : PatternGraph) (t : QueryTree) (g : Graph) (e : Triple) (change : Change) (next u v : ℕ) → IsChangeOf q t g e change → IfSome (up_plan q t e change next u v).further (λ w. IsTrue (has_vertex g w))
further_up q t g e change next u v is =
    let l = link_of t u in
    let edge = edge_at q l.edge in
    further_stands q t g e change is (sight_of change next u) (direction_to edge l.parent) edge.label v

-- to the child
pub further_down : (q : PatternGraph) (t : QueryTree) (g : Graph) (e : Triple) (change : Change) (next u v : ℕ) → IsChangeOf q t g e change → IfSome (down_plan q t e change next u v).further (λ w. IsTrue (has_vertex g w))
further_down q t g e change next u v is =
    let l = link_of t u in
    let edge = edge_at q l.edge in
    further_stands q t g e change is (sight_of change next u) (direction_to edge u) edge.label v
