use Rattle.flux_model.specs.Tree.{children}
use Rattle.query_tree.proofs.KeptLemmas.{lists_more}
use Rattle.query_tree.proofs.tree.finish.Goals as goal

pub loop-u-preserved : goal.loop-u-preserved
loop-u-preserved c =
    lists_more (children c.args.grown) c.loop-u.children.items c.push.new.self.items c.in_ok-children_of.field-0 c.loop-u.u c.loop-u.invariant c.in_ok-children_of.ensures c.in_ok-push.ensures.items
