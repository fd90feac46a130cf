use Rattle.dcg_updates.specs.declared.sight.Change.TheVariants.{Added}
use Rattle.dcg_updates.proofs.UpdateLemmas.{one_more, shape, has_ids, local_added, sound_added, store_added, exact_after, whole_cost}
use Rattle.dcg_updates.proofs.triple.after_insert.Goals as goal

pub insert_joints-requires-clause-more : goal.insert_joints-requires-clause-more
insert_joints-requires-clause-more b c =
    one_more c.args.pattern.now c.args.tree.now (b.G.HoldGraph.graph c.args.graph.now) c.args.triple.now Added
    (record { belongs = c.requires.belongs; ends = c.requires.ends; stands = c.requires.stands }) c.edge_count-count.ensures.held.graph

pub insert_joints-requires-clause-shape : goal.insert_joints-requires-clause-shape
insert_joints-requires-clause-shape b c =
    shape c.args.pattern.now c.args.tree.now (b.G.HoldGraph.graph c.args.graph.now) c.args.triple.now Added (b.G.HoldGraph.limits c.args.graph.now)
    (record { belongs = c.requires.belongs; ends = c.requires.ends; stands = c.requires.stands }) c.edge_count-count.ensures.held

pub insert_joints-requires-clause-ids : goal.insert_joints-requires-clause-ids
insert_joints-requires-clause-ids b c =
    has_ids c.args.pattern.now c.args.tree.now (b.G.HoldGraph.graph c.args.graph.now) c.args.triple.now c.requires.belongs c.args.dcg.now Added

pub insert_joints-requires-clause-store : goal.insert_joints-requires-clause-store
insert_joints-requires-clause-store b c =
    store_added c.args.pattern.now c.args.tree.now (b.G.HoldGraph.graph c.args.graph.now) c.args.triple.now c.requires.belongs c.args.dcg.now c.requires.was

pub insert_joints-requires-clause-sound : goal.insert_joints-requires-clause-sound
insert_joints-requires-clause-sound b c =
    sound_added c.args.pattern.now c.args.tree.now (b.G.HoldGraph.graph c.args.graph.now) c.args.triple.now c.requires.belongs c.args.dcg.now c.requires.was

pub insert_joints-requires-clause-before : goal.insert_joints-requires-clause-before
insert_joints-requires-clause-before b c =
    local_added c.args.pattern.now c.args.tree.now (b.G.HoldGraph.graph c.args.graph.now) c.args.triple.now c.requires.belongs c.args.dcg.now c.requires.was

pub returns-clause-exact : goal.returns-clause-exact
returns-clause-exact b c =
    exact_after c.args.pattern.now c.args.tree.now (b.G.HoldGraph.graph c.args.graph.now) c.args.dcg.now c.insert_joints.new.dcg c.requires.belongs c.requires.was.whole c.requires.was.children
    c.in_default.ensures.same c.in_default.ensures.exact

pub returns-clause-cost : goal.returns-clause-cost
returns-clause-cost b c =
    let q = c.args.pattern.now in
    let t = c.args.tree.now in
    let g = b.G.HoldGraph.graph c.args.graph.now in
    let now = exact_after q t g c.args.dcg.now c.insert_joints.new.dcg c.requires.belongs c.requires.was.whole c.requires.was.children c.in_default.ensures.same c.in_default.ensures.exact in
    whole_cost q t g c.args.triple.now Added (record { belongs = c.requires.belongs; ends = c.requires.ends; stands = c.requires.stands }) c.edge_count-count.ensures.held.graph
    c.args.dcg.now c.insert_joints.new.dcg c.requires.was now c.args.steps.now c.insert_joints.new.steps c.in_default.ensures.cost
