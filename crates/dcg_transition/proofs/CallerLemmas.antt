-- The recursions of the states by one step of the tree, as equations.
use Rattle.std.proofs.Common.{◌≡◌, ℕ, suc, ◌<◌, Bool, true, false, ◌&&◌, ◌||◌, ◌==◌, length, refl, ap, ◌∙◌, arith}
use Rattle.std.specs.Prelude.{Some}
use Rattle.std.specs.List.{list_any, list_all}
use Rattle.std.proofs.lemmas.Bool.{eq-eqb, ne_eqb}
use Rattle.flux_model.specs.Tree.{link_at, children, IsTree}
use Rattle.flux_model.specs.States.{Joined, reaches, extends}
use Rattle.flux_model.specs.declared.tree.TreeLink.{TreeLink}
use Rattle.query_tree.specs.Depth.{depth}
use Rattle.query_tree.proofs.CallerLemmas.{link_within, not_root, depth-small}
use Rattle.dcg_store.proofs.StateLemmas.{reaches_up, reaches_loose, reaches_stable, extends_stable}
use Rattle.dcg_transition.proofs.LevelLemmas.{has_depths, depth-under}

module _ (j : Joined) (is : IsTree j.tree) where
  -- the root reaches what fits it
  pub reaches-root : (v : ℕ) → reaches j j.tree.root v ≡ j.fits j.tree.root v
  reaches-root v =
      reaches_stable j (depth j.tree) (has_depths j.tree is) (length j.tree.links) (suc (length j.tree.links)) j.tree.root v (depth-under j.tree is j.tree.root) (omega (arith, depth-under j.tree is j.tree.root))
      ∙ reaches_loose j (length j.tree.links) j.tree.root v is.top
      ∙ ap (λ b. j.fits j.tree.root v && (b || false)) (eq-eqb j.tree.root j.tree.root refl)
      ∙ and_true (j.fits j.tree.root v)
    where
      and_true : (b : Bool) → (b && true) ≡ b
      and_true true = refl
      and_true false = refl

  -- another vertex reaches what fits it and is joined to a vertex that the parent reaches
  pub reaches-below : (u v : ℕ) (l : TreeLink) → link_at j.tree u ≡ Some l → reaches j u v ≡ (j.fits u v && list_any (λ e. e.below == v && reaches j l.parent e.above) (j.joints u))
  reaches-below u v l link =
      let small = depth-small j.tree is u (link_within j.tree u l link) in
      reaches_stable j (depth j.tree) (has_depths j.tree is) (length j.tree.links) (suc (length j.tree.links)) u v small (omega (arith, small))
      ∙ reaches_up j (length j.tree.links) u v l link
      ∙ ap (λ b. j.fits u v && (b || list_any (λ e. e.below == v && reaches j l.parent e.above) (j.joints u))) (ne_eqb u j.tree.root (not_root j.tree is u l link))

  -- what fits extends where for each child it is joined to a vertex that extends
  pub extends-below : (u v : ℕ) → u < length j.tree.links
      → extends j u v ≡ (j.fits u v && list_all (λ c. list_any (λ e. e.above == v && extends j c e.below) (j.joints c)) (children j.tree u))
  extends-below u v inside =
      extends_stable j (depth j.tree) (has_depths j.tree is) (length j.tree.links) (suc (length j.tree.links)) u v inside (omega arith) (omega arith)
