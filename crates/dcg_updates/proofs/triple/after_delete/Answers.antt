use Rattle.std.proofs.Common.{ap}
use Rattle.dcg_moves.specs.Update.{view}
use Rattle.dcg_updates.specs.Changed.{update_of}
use Rattle.dcg_updates.specs.declared.sight.Change.TheVariants.{Taken}
use Rattle.dcg_updates.proofs.UpdateLemmas.{one_more, shape, all_done, local_taken, sound_taken, store_taken, exact_after, whole_cost}
use Rattle.dcg_updates.proofs.triple.after_delete.Goals as goal

pub delete_joints-requires-clause-more : goal.delete_joints-requires-clause-more
delete_joints-requires-clause-more b c =
    one_more c.args.pattern.now c.args.tree.now (b.G.HoldGraph.graph c.args.graph.now) c.args.triple.now Taken
    (record { belongs = c.requires.belongs; ends = c.requires.ends; stands = c.requires.gone }) c.edge_count-count.ensures.held.graph

pub delete_joints-requires-clause-seen : goal.delete_joints-requires-clause-seen
delete_joints-requires-clause-seen b c =
    ap (view (update_of c.args.pattern.now c.args.tree.now (b.G.HoldGraph.graph c.args.graph.now) c.args.triple.now Taken)) (all_done c.args.tree.now)

pub delete_joints-requires-clause-shape : goal.delete_joints-requires-clause-shape
delete_joints-requires-clause-shape b c =
    shape c.args.pattern.now c.args.tree.now (b.G.HoldGraph.graph c.args.graph.now) c.args.triple.now Taken (b.G.HoldGraph.limits c.args.graph.now)
    (record { belongs = c.requires.belongs; ends = c.requires.ends; stands = c.requires.gone }) c.edge_count-count.ensures.held

pub delete_joints-requires-clause-store : goal.delete_joints-requires-clause-store
delete_joints-requires-clause-store b c =
    store_taken c.args.pattern.now c.args.tree.now (b.G.HoldGraph.graph c.args.graph.now) c.args.triple.now c.requires.belongs c.args.dcg.now c.requires.was

pub delete_joints-requires-clause-sound : goal.delete_joints-requires-clause-sound
delete_joints-requires-clause-sound b c =
    sound_taken c.args.pattern.now c.args.tree.now (b.G.HoldGraph.graph c.args.graph.now) c.args.triple.now c.requires.belongs c.args.dcg.now c.requires.was

pub delete_joints-requires-clause-before : goal.delete_joints-requires-clause-before
delete_joints-requires-clause-before b c =
    local_taken c.args.pattern.now c.args.tree.now (b.G.HoldGraph.graph c.args.graph.now) c.args.triple.now c.requires.belongs c.args.dcg.now c.requires.was

pub returns-clause-exact : goal.returns-clause-exact
returns-clause-exact b c =
    exact_after c.args.pattern.now c.args.tree.now (b.G.HoldGraph.graph c.args.graph.now) c.args.dcg.now c.delete_joints.new.dcg c.requires.belongs c.requires.was.whole c.requires.was.children
    c.delete_joints.ensures.same c.delete_joints.ensures.exact

pub returns-clause-cost : goal.returns-clause-cost
returns-clause-cost b c =
    let q = c.args.pattern.now in
    let t = c.args.tree.now in
    let g = b.G.HoldGraph.graph c.args.graph.now in
    let now = exact_after q t g c.args.dcg.now c.delete_joints.new.dcg c.requires.belongs c.requires.was.whole c.requires.was.children c.delete_joints.ensures.same c.delete_joints.ensures.exact in
    whole_cost q t g c.args.triple.now Taken (record { belongs = c.requires.belongs; ends = c.requires.ends; stands = c.requires.gone }) c.edge_count-count.ensures.held.graph
    c.delete_joints.new.dcg c.args.dcg.now now c.requires.was c.args.steps.now c.delete_joints.new.steps c.delete_joints.ensures.cost
