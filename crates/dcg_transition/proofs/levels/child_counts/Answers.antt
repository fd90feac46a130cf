use Rattle.std.proofs.Common.{ℕ, List, length, ap}
use Rattle.flux_model.specs.Tree.{children}
use Rattle.dcg_transition.proofs.LevelLemmas.{numbers_more}
use Rattle.dcg_transition.proofs.levels.child_counts.Goals as goal

pub loop-u-preserved : goal.loop-u-preserved
loop-u-preserved c =
    numbers_more (λ u. length (children c.args.tree.now u)) c.loop-u.u (length c.children.result.now) c.loop-u.counts.items c.push.new.self.items c.loop-u.invariant (ap (λ (l : List ℕ). length l) c.children.ensures) c.in_ok-push.ensures.items
