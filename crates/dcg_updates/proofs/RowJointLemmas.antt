-- The joints at an end of a tree edge, counted by the triples of the end's row.
use Rattle.std.proofs.Common.{◌≡◌, ℕ, Bool, true, false, cond, ◌&&◌, ◌==◌, List, refl, sym, ap, ◌∙◌}
use Rattle.std.specs.Prelude.{None, Some, map, filter, count_by}
use Rattle.std.specs.List.{filter_map}
use Rattle.std.specs.Str.{bytes_eq}
use Rattle.std.proofs.lemmas.Bool.{eqb-true, eq-eqb, ne_eqb}
use Rattle.flux_model.specs.Graph.{Graph}
use Rattle.flux_model.specs.Pattern.{PatternGraph, fits}
use Rattle.flux_model.specs.Tree.{QueryTree, link_at, edge_at, BelongsTo}
use Rattle.flux_model.specs.States.{Joint, joint_of}
use Rattle.flux_model.specs.declared.graph.Triple.{Triple}
use Rattle.flux_model.specs.declared.pattern.PatternEdge.{PatternEdge}
use Rattle.flux_model.specs.declared.tree.TreeLink.{TreeLink}
use Rattle.graph_rows.specs.Directions.{direction_to, near_end, other_end}
use Rattle.graph_rows.specs.declared.direction.Direction.{Direction}
use Rattle.graph_rows.specs.declared.direction.Direction.TheVariants.{Out, In}
use Rattle.graph_rows.proofs.CountLemmas.{count_same, passes, passes-cond, count-filter_map, count-filter, count-map, head_one, tail_one}
use Rattle.graph_rows.proofs.JointLemmas.{apart, ends_down, ends_up}

-- the triple is in v's row of the label, and its other end passes
abbrev pub leads : Direction → List ℕ → ℕ → (ℕ → Bool) → Triple → Bool
leads d label v P s = near_end d s == v && (bytes_eq label s.label && P (other_end d s))

-- ---- one triple

module _ (q : PatternGraph) (g : Graph) (e : PatternEdge) (start end v : ℕ) (P : ℕ → Bool) (fit : fits q start g v ≡ true) (p : Joint → Bool) (j : Joint) (s : Triple) where
  abbrev test : Bool
  test = bytes_eq e.label s.label && fits q e.tail g s.src && fits q e.head g s.dst

  one_out : e.tail ≡ start → e.head ≡ end → p j ≡ (s.src == v && P s.dst) → passes p (cond test (Some j) None) ≡ leads Out e.label v (λ o. fits q end g o && P o) s
  one_out tail head here =
      let stands : (s.src == v) ≡ true → fits q e.tail g s.src ≡ true = λ same. (λ i. fits q (tail i) g (eqb-true s.src v same i)) ∙ fit in
      passes-cond p test j
      ∙ ap (λ b. cond test b false) here
      ∙ head_one (bytes_eq e.label s.label) (fits q e.tail g s.src) (fits q e.head g s.dst) (s.src == v) (P s.dst) stands
      ∙ ap (λ h. s.src == v && (bytes_eq e.label s.label && (fits q h g s.dst && P s.dst))) head

  one_in : e.head ≡ start → e.tail ≡ end → p j ≡ (s.dst == v && P s.src) → passes p (cond test (Some j) None) ≡ leads In e.label v (λ o. fits q end g o && P o) s
  one_in head tail here =
      let stands : (s.dst == v) ≡ true → fits q e.head g s.dst ≡ true = λ same. (λ i. fits q (head i) g (eqb-true s.dst v same i)) ∙ fit in
      passes-cond p test j
      ∙ ap (λ b. cond test b false) here
      ∙ tail_one (bytes_eq e.label s.label) (fits q e.tail g s.src) (fits q e.head g s.dst) (s.dst == v) (P s.src) stands
      ∙ ap (λ h. s.dst == v && (bytes_eq e.label s.label && (fits q h g s.src && P s.src))) tail

-- ---- all triples

module _ (q : PatternGraph) (t : QueryTree) (belongs : BelongsTo q t) (u : ℕ) (l : TreeLink) (link : link_at t u ≡ Some l) (g : Graph) (v : ℕ) (P : ℕ → Bool) (ts : List Triple) where
  -- of a vertex that fits the parent
  pub joints_down : fits q l.parent g v ≡ true →
      count_by (λ (e : Joint). e.above == v && P e.below) (filter_map (joint_of q t g u) ts)
      ≡ count_by (leads (direction_to (edge_at q l.edge) u) (edge_at q l.edge).label v (λ o. fits q u g o && P o)) ts
  joints_down fit = count-filter_map (λ (e : Joint). e.above == v && P e.below) (joint_of q t g u) ts
      ∙ count_same (λ s. passes (λ (e : Joint). e.above == v && P e.below) (joint_of q t g u s)) (leads (direction_to (edge_at q l.edge) u) (edge_at q l.edge).label v (λ o. fits q u g o && P o)) ts (λ s. by s ((edge_at q l.edge).head == u) refl)
    where
      by : (s : Triple) (b : Bool) → ((edge_at q l.edge).head == u) ≡ b → passes (λ (e : Joint). e.above == v && P e.below) (joint_of q t g u s)
          ≡ leads (direction_to (edge_at q l.edge) u) (edge_at q l.edge).label v (λ o. fits q u g o && P o) s
      by s true down =
          let both = ends_down q t belongs u l link down in
          rw (link, down) (one_out q g (edge_at q l.edge) l.parent u v P fit (λ (e : Joint). e.above == v && P e.below) (record { above = s.src; below = s.dst }) s both.0 both.1 refl)
      by s false up =
          let both = ends_up q t belongs u l link up in
          rw (link, up) (one_in q g (edge_at q l.edge) l.parent u v P fit (λ (e : Joint). e.above == v && P e.below) (record { above = s.dst; below = s.src }) s both.1 both.0 refl)

  -- of a vertex that fits u
  pub joints_up : fits q u g v ≡ true →
      count_by (λ (e : Joint). e.below == v && P e.above) (filter_map (joint_of q t g u) ts)
      ≡ count_by (leads (direction_to (edge_at q l.edge) l.parent) (edge_at q l.edge).label v (λ o. fits q l.parent g o && P o)) ts
  joints_up fit = count-filter_map (λ (e : Joint). e.below == v && P e.above) (joint_of q t g u) ts
      ∙ count_same (λ s. passes (λ (e : Joint). e.below == v && P e.above) (joint_of q t g u s)) (leads (direction_to (edge_at q l.edge) l.parent) (edge_at q l.edge).label v (λ o. fits q l.parent g o && P o)) ts (λ s. by s ((edge_at q l.edge).head == u) refl)
    where
      by : (s : Triple) (b : Bool) → ((edge_at q l.edge).head == u) ≡ b → passes (λ (e : Joint). e.below == v && P e.above) (joint_of q t g u s)
          ≡ leads (direction_to (edge_at q l.edge) l.parent) (edge_at q l.edge).label v (λ o. fits q l.parent g o && P o) s
      by s true down =
          let both = ends_down q t belongs u l link down in
          let other : ((edge_at q l.edge).head == l.parent) ≡ false = ne_eqb (edge_at q l.edge).head l.parent (λ same. apart q t belongs u l link (sym both.1 ∙ same)) in
          rw (link, down, other) (one_in q g (edge_at q l.edge) u l.parent v P fit (λ (e : Joint). e.below == v && P e.above) (record { above = s.src; below = s.dst }) s both.1 both.0 refl)
      by s false up =
          let both = ends_up q t belongs u l link up in
          let same : ((edge_at q l.edge).head == l.parent) ≡ true = eq-eqb (edge_at q l.edge).head l.parent both.1 in
          rw (link, up, same) (one_out q g (edge_at q l.edge) u l.parent v P fit (λ (e : Joint). e.below == v && P e.above) (record { above = s.dst; below = s.src }) s both.0 both.1 refl)

-- ---- the ends of joints

-- the upper ends of the joints to v
pub count_above : (v w : ℕ) (js : List Joint) → count_by (λ o. o == w) (map (λ (e : Joint). e.above) (filter (λ (e : Joint). e.below == v) js)) ≡ count_by (λ (e : Joint). e.below == v && e.above == w) js
count_above v w js =
    count-map (λ o. o == w) (λ (e : Joint). e.above) (filter (λ (e : Joint). e.below == v) js) ∙ count-filter (λ (e : Joint). e.above == w) (λ (e : Joint). e.below == v) js

-- the lower ends of the joints from v
pub count_below : (v w : ℕ) (js : List Joint) → count_by (λ o. o == w) (map (λ (e : Joint). e.below) (filter (λ (e : Joint). e.above == v) js)) ≡ count_by (λ (e : Joint). e.above == v && e.below == w) js
count_below v w js =
    count-map (λ o. o == w) (λ (e : Joint). e.below) (filter (λ (e : Joint). e.above == v) js) ∙ count-filter (λ (e : Joint). e.below == w) (λ (e : Joint). e.above == v) js
