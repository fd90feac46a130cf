use Rattle.query_tree.specs.Depth.{depth}
use Rattle.dcg_transition.proofs.LevelLemmas.{numbers_more}
use Rattle.dcg_transition.proofs.levels.depths.Goals as goal

pub loop-u-preserved : goal.loop-u-preserved
loop-u-preserved c =
    numbers_more (depth c.args.tree.now) c.loop-u.u c.depth.result c.loop-u.depths.items c.push.new.self.items c.loop-u.invariant c.depth.ensures c.in_ok-push.ensures.items
