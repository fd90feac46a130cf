-- One tree edge after another: which see the larger graph, what that leaves as it is, and what it costs.
use Rattle.std.proofs.Common.{◌≡◌, ◌≢◌, ℕ, zero, suc, add-one, cond, [], ◌+◌, ◌<◌, ◌≤◌, Bool, true, false, ◌||◌, inl, inr, refl, sym, ap, subst, ◌∙◌, arith, ◌==◌}
use Rattle.std.proofs.lemmas.Bool.{eq-eqb, ne_eqb, cases_eq}
use Rattle.std.specs.Prelude.{List, length, sum_by, is_some, Option, Some}
use Rattle.std.specs.List.{range_with_len}
use Rattle.std.proofs.lemmas.List.Sums.{sum_by-cons}
use Rattle.flux_model.specs.Exact.{StateRows}
use Rattle.flux_model.specs.States.{Joint}
use Rattle.flux_model.specs.Tree.{QueryTree}
use Rattle.dcg_moves.specs.Layers.{Layers, IsLower}
use Rattle.dcg_moves.specs.Shape.{IsShapeOf}
use Rattle.dcg_moves.specs.Store.{IsStoreOf}
use Rattle.dcg_moves.specs.Weight.{weight}
use Rattle.dcg_moves.specs.Rows.{Rows}
use Rattle.dcg_moves.specs.Sound.{IsSound}
use Rattle.dcg_moves.specs.Between.{and_at}
use Rattle.dcg_moves.specs.Update.{Update, nothing, view, joint_in, label_cost, labels_cost, edge_cost, edges_cost}

or_none : (b : Bool) → (b || false) ≡ b
or_none true = refl
or_none false = refl

-- ---- the vertices that are done

-- the others stay
pub away_next : (done done' : ℕ → Bool) (u : ℕ) → done' ≡ and_at done u → (z : ℕ) → z ≢ u → done' z ≡ done z
away_next done done' u e z ne = ap (λ f. f z) e ∙ ap (λ b. done z || b) (ne_eqb z u ne) ∙ or_none (done z)

-- those ahead are not done yet
pub ahead_next : (done done' : ℕ → Bool) (u : ℕ) → done' ≡ and_at done u → ((z : ℕ) → u ≤ z → done z ≡ false) → (z : ℕ) → u + 1 ≤ z → done' z ≡ false
ahead_next done done' u e ahead z le = away_next done done' u e z (λ f. absurd (omega arith)) ∙ ahead z (omega arith)

-- those behind are done
pub behind_next : (done done' : ℕ → Bool) (u : ℕ) → done' ≡ and_at done u → (z : ℕ) → z < u + 1 → (z < u → done z ≡ true) → done' z ≡ true
behind_next done done' u e z lt behind =
    elim (cases_eq z u) [
      | inl is ↦ ap (λ f. f z) e ∙ ap (λ b. done z || b) (eq-eqb z u is) ∙ all (done z)
      | inr ne ↦ away_next done done' u e z ne ∙ behind (omega arith)
    ]
  where
    all : (b : Bool) → (b || true) ≡ true
    all true = refl
    all false = refl

-- ---- the layers

-- as they are seen after a tree edge is done, and after it is no more
pub seen_on : {up up' : Update} {s : Layers} (done : ℕ → Bool) {done' : ℕ → Bool} (u : ℕ) → up' ≡ up → done' ≡ and_at done u → s ≡ view up' (and_at done u) → s ≡ view up done'
seen_on done u same more seen = seen ∙ (λ i. view (same i) (sym more i))

-- and after it is done no more
pub seen_off : {up up' : Update} {s : Layers} (done : ℕ → Bool) → up' ≡ up → s ≡ view up' done → s ≡ view up done
seen_off done same seen = seen ∙ (λ i. view (same i) done)

-- what every move keeps does not see the joints
pub sound_view : (up : Update) (done done' : ℕ → Bool) (ids : List ℕ) (r : Rows) → IsSound (view up done) ids r → IsSound (view up done') ids r
sound_view up done done' ids r sound = record { kept = sound.kept; wide = sound.wide; within = sound.within }

-- nor does what hangs from what, the numbers of children, and the weight
module _ (up : Update) (done : ℕ → Bool) {s : Layers} (seen : s ≡ view up done) where
  -- what hangs from another
  pub lower_in : {t : QueryTree} {u : ℕ} → IsShapeOf (view up nothing) t → u < length t.links → u ≢ t.root → IsLower s u
  lower_in {u = u} shape inside apart =
      subst (λ s. IsLower s u) (sym seen) (record { inside = (let n = shape.count in omega (arith, n, inside)); apart = λ e. apart (e ∙ sym shape.root) })

  -- and back
  pub lower_from : {u : ℕ} → IsLower s u → IsLower (view up nothing) u
  lower_from {u} low = let here = subst (λ s. IsLower s u) seen low in record { inside = here.inside; apart = here.apart }

  -- the numbers of children
  pub store_in : {d : StateRows} → IsStoreOf (view up nothing) d → IsStoreOf s d
  store_in {d} store = subst (λ s. IsStoreOf s d) (sym seen) (record { whole = store.whole; each = store.each; widths = store.widths })

  -- what every move keeps
  pub sound_in : {ids ids' : List ℕ} {r : Rows} → ids' ≡ ids → IsSound (view up nothing) ids r → IsSound s ids' r
  sound_in {ids} {ids'} {r} same sound = subst (λ s. IsSound s ids' r) (sym seen) (sound_view up nothing done ids' r (subst (λ i. IsSound (view up nothing) i r) (sym same) sound))

  -- and back
  pub sound_from : {ids ids' : List ℕ} {r : Rows} → ids' ≡ ids → IsSound s ids' r → IsSound (view up nothing) ids r
  sound_from {ids} {ids'} {r} same sound = sound_view up done nothing ids r (subst (λ i. IsSound (view up done) i r) same (subst (λ s. IsSound s ids' r) seen sound))

  -- the weight
  pub weight_in : {ids ids' : List ℕ} {degree degree' : ℕ → ℕ} → ids' ≡ ids → degree' ≡ degree → (r : Rows) → weight s ids' degree' r ≡ weight (view up nothing) ids degree r
  weight_in same alike r = λ i. weight (seen i) (same i) (alike i) r

-- the joint that was told
pub joint_read : {up up' : Update} (u : ℕ) {o : Option Joint} → up' ≡ up → joint_in up' u ≡ o → joint_in up u ≡ o
joint_read u same is = ap (λ k. joint_in k u) (sym same) ∙ is

-- those behind are done no more
pub behind_off : (done done' : ℕ → Bool) (u : ℕ) → done ≡ and_at done' u → done' u ≡ false → (z : ℕ) → z < u + 1 → (z < u → done z ≡ false) → done' z ≡ false
behind_off done done' u e fresh z lt behind =
    elim (cases_eq z u) [
      | inl is ↦ ap done' is ∙ fresh
      | inr ne ↦ sym (away_next done' done u e z ne) ∙ behind (omega arith)
    ]

-- those ahead are done still
pub ahead_off : (done done' : ℕ → Bool) (u : ℕ) → done ≡ and_at done' u → ((z : ℕ) → u ≤ z → done z ≡ true) → (z : ℕ) → u + 1 ≤ z → done' z ≡ true
ahead_off done done' u e ahead z le = sym (away_next done' done u e z (λ f. absurd (omega arith))) ∙ ahead z (omega arith)

-- ---- steps

range_more : (f : ℕ → ℕ) (n a : ℕ) → sum_by f (range_with_len a (suc n)) ≡ sum_by f (range_with_len a n) + f (a + n)
range_more f zero a = let e = ap f (let z : a + 0 ≡ a = omega arith in z) in let h = sum_by-cons f a [] in omega (arith, e, h)
range_more f (suc n) a =
    let more = range_more f n (a + 1) in
    let e = ap f (let z : a + 1 + n ≡ a + suc n = omega arith in z) in
    let h = sum_by-cons f a (range_with_len (a + 1) (suc n)) in
    let k = sum_by-cons f a (range_with_len (a + 1) n) in omega (arith, more, e, h, k)

-- one tree edge more
pub edges_more : (up : Update) (u : ℕ) → edges_cost up (u + 1) ≡ edges_cost up u + edge_cost up u
edges_more up u = ap (edges_cost up) (add-one u) ∙ range_more (edge_cost up) u 0 ∙ ap (λ k. edges_cost up u + edge_cost up k) (let z : 0 + u ≡ u = omega arith in z)

-- where the triple is its joint
pub cost_joined : (up : Update) (u : ℕ) (l : Joint) → u ≢ up.tree.root → joint_in up u ≡ Some l → edge_cost up u ≡ label_cost up u + 6
cost_joined up u l ne link =
    ap (λ b. cond b 0 (label_cost up u + cond (is_some (joint_in up u)) 6 0)) (ne_eqb u up.tree.root ne)
    ∙ ap (λ o. label_cost up u + cond (is_some o) 6 0) link

-- where it is not
pub cost_labelled : (up : Update) (u : ℕ) → u ≢ up.tree.root → label_cost up u ≤ edge_cost up u
cost_labelled up u ne =
    let e = ap (λ b. cond b 0 (label_cost up u + cond (is_some (joint_in up u)) 6 0)) (ne_eqb u up.tree.root ne) in
    join (edge_cost up u) (label_cost up u) (cond (is_some (joint_in up u)) 6 0) e
  where
    join : (a b c : ℕ) → a ≡ b + c → b ≤ a
    join a b c e = omega arith

-- one tree edge more, without joints
pub labels_more : (up : Update) (u : ℕ) → labels_cost up (u + 1) ≡ labels_cost up u + cond (u == up.tree.root) 0 (label_cost up u)
labels_more up u = ap (labels_cost up) (add-one u) ∙ range_more (λ k. cond (k == up.tree.root) 0 (label_cost up k)) u 0
    ∙ ap (λ k. labels_cost up u + cond (k == up.tree.root) 0 (label_cost up k)) (let z : 0 + u ≡ u = omega arith in z)
