-- Between exact rows over the smaller graph and over the larger, the weight grows by three quarters of the cost of the move at most.
use Rattle.std.proofs.Common.{◌≡◌, ℕ, ◌+◌, ◌*◌, ◌≤◌, Bool, true, false, ◌&&◌, ◌||◌, not, cond, refl, sym, ap, ◌∙◌, arith, map}
use Rattle.std.specs.Prelude.{sum_by, None, Some, is_some}
use Rattle.std.specs.List.{range_with_len}
use Rattle.flux_model.specs.Costs.{degree}
use Rattle.flux_model.specs.Graph.{Graph, ids}
use Rattle.flux_model.specs.Pattern.{PatternGraph, vertex_count}
use Rattle.flux_model.specs.Tree.{QueryTree, children, IsTree, BelongsTo}
use Rattle.flux_model.specs.States.{Joined, joined, reaches, extends, is_explicit}
use Rattle.flux_model.specs.Exact.{Row, StateRows, row_at, in_count, out_count, IsExact, IsExactOver}
use Rattle.flux_model.specs.declared.graph.Triple.{Triple}
use Rattle.query_tree.specs.Depth.{depth}
use Rattle.dcg_store.proofs.StateLemmas.{full_is_extends}
use Rattle.dcg_moves.proofs.LinkEndLemmas.{has_depths}
use Rattle.flux_model.specs.Costs.{has_moved, is_end, touched}
use Rattle.dcg_moves.proofs.MoveCostLemmas.{moved_cost, sum_pairs, sum_scaled}
use Rattle.dcg_moves.specs.Layers.{Layers}
use Rattle.dcg_moves.specs.Rows.{has_all, is_kept, is_open}
use Rattle.dcg_moves.specs.Weight.{weight}
use Rattle.dcg_moves.specs.Between.{layers}

-- a test that fails says that both states are as they were
unmoved : (a b c d x : Bool) → (not ((a && b || not a && not b) && (c && d || not c && not d)) || x) ≡ false → (b ≡ a) × (d ≡ c)
unmoved true true true true x h = (refl, refl)
unmoved true true false false x h = (refl, refl)
unmoved false false true true x h = (refl, refl)
unmoved false false false false x h = (refl, refl)
unmoved true false c d x h = absurd (let bad : true ≡ false = h in cc)
unmoved false true c d x h = absurd (let bad : true ≡ false = h in cc)
unmoved true true true false x h = absurd (let bad : true ≡ false = h in cc)
unmoved true true false true x h = absurd (let bad : true ≡ false = h in cc)
unmoved false false true false x h = absurd (let bad : true ≡ false = h in cc)
unmoved false false false true x h = absurd (let bad : true ≡ false = h in cc)

-- exact rows are kept where the pair is reached, and open where it is explicit
module _ (j : Joined) (is : IsTree j.tree) (d : StateRows) (exact : IsExactOver j d) (u v : ℕ) where
  abbrev full : Row
  full = record { ins = in_count j u v; outs = map (out_count j v) (children j.tree u) }

  -- kept where it is reached
  pub kept_of_exact : is_kept (row_at d) u v ≡ reaches j u v
  kept_of_exact = ap is_some (exact.rows u v) ∙ by (reaches j u v)
    where
      by : (b : Bool) → is_some {T = Row} (cond b (Some full) None) ≡ b
      by true = refl
      by false = refl

  -- open where it is explicit
  pub open_of_exact : is_open (row_at d) u v ≡ is_explicit j u v
  open_of_exact = ap has_all (exact.rows u v) ∙ by (reaches j u v) refl
    where
      by : (b : Bool) → reaches j u v ≡ b → has_all (cond b (Some full) None) ≡ b && extends j u v
      by true e = full_is_extends j (depth j.tree) (has_depths j.tree is) is u v (in_count j u v) e
      by false e = refl

-- exact rows over the smaller graph, and over the larger
pub weight_touched : (q : PatternGraph) (t : QueryTree) (small large : Graph) (e : Triple) (d d' : StateRows) → BelongsTo q t → IsExact q t small d → IsExact q t large d' →
    weight (layers q t large) (ids large) (degree large) (row_at d') ≤ weight (layers q t large) (ids large) (degree large) (row_at d)
    + 12 * vertex_count q * sum_by (λ (p : ℕ × ℕ). 1 + degree large p.1) (touched q t small large e)
weight_touched q t small large e d d' belongs exact exact' =
    let k = 12 * vertex_count q in
    let test : ℕ → ℕ → Bool = λ u v. has_moved (joined q t small) (joined q t large) u v || is_end q large e u v in
    let all = moved_cost l (ids large) (degree large) (λ u v. has_moved (joined q t small) (joined q t large) u v || is_end q large e u v) (row_at d) (row_at d') (let root = belongs.tree.root in omega (arith, root)) still in
    let sums = sum_pairs (λ p. has_moved (joined q t small) (joined q t large) p.0 p.1 || is_end q large e p.0 p.1) (λ v. k * (1 + degree large v)) (ids large) (range_with_len 0 (vertex_count q)) in
    let out = sum_scaled k (λ (p : ℕ × ℕ). 1 + degree large p.1) (touched q t small large e) in
    let same = ap (λ n. sum_by (λ u. sum_by (λ v. cond (has_moved (joined q t small) (joined q t large) u v || is_end q large e u v) (12 * n * (1 + degree large v)) 0) (ids large)) (range_with_len 0 n)) belongs.vertices in
    join (weight l (ids large) (degree large) (row_at d')) (weight l (ids large) (degree large) (row_at d)) _ _ _ _ all same sums out
  where
    l : Layers
    l = layers q t large

    join : (w' w a b c m : ℕ) → w' ≤ w + a → a ≡ b → c ≡ b → c ≡ m → w' ≤ w + m
    join w' w a b c m h x y z = omega arith

    still : (u v : ℕ) → (has_moved (joined q t small) (joined q t large) u v || is_end q large e u v) ≡ false → (is_kept (row_at d') u v ≡ is_kept (row_at d) u v) × (is_open (row_at d') u v ≡ is_open (row_at d) u v)
    still u v h =
        let same = unmoved (reaches (joined q t small) u v) (reaches (joined q t large) u v) (is_explicit (joined q t small) u v) (is_explicit (joined q t large) u v) (is_end q large e u v) h in (
          kept_of_exact (joined q t large) belongs.tree d' exact' u v ∙ same.0 ∙ sym (kept_of_exact (joined q t small) belongs.tree d exact u v),
          open_of_exact (joined q t large) belongs.tree d' exact' u v ∙ same.1 ∙ sym (open_of_exact (joined q t small) belongs.tree d exact u v),
        )
