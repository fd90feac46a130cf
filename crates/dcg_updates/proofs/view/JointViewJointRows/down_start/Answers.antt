use Rattle.dcg_updates.specs.WalkPlans.{plan_of}
use Rattle.dcg_updates.proofs.ViewLemmas.{few_ends, few_steps, stands_down, place_down, all_down}
use Rattle.dcg_updates.proofs.view.JointViewJointRows.down_start.Goals as goal

pub first-requires : goal.first-requires
first-requires b c =
    let s = c.args.self.now in
    stands_down s.pattern.now s.tree.now (b.G.HoldGraph.graph s.graph.now) s.triple.now s.change s.next s.sound c.args.c c.requires.lower.inside c.requires.lower.apart c.args.v (plan_of c.down.result) c.down.ensures.plan c.requires.member

pub returns-clause-place : goal.returns-clause-place
returns-clause-place b c =
    let s = c.args.self.now in
    place_down s.pattern.now s.tree.now (b.G.HoldGraph.graph s.graph.now) s.triple.now s.change s.next s.sound c.args.c c.requires.lower.inside c.requires.lower.apart c.args.v (plan_of c.down.result) c.down.ensures.plan c.requires.member
    (b.G.HoldGraph.is_out_place s.graph.now) (b.G.HoldGraph.is_in_place s.graph.now) c.first.result c.first.ensures.place

pub returns-clause-few : goal.returns-clause-few
returns-clause-few b c =
    let s = c.args.self.now in
    few_ends s.pattern.now s.tree.now (b.G.HoldGraph.graph s.graph.now) s.triple.now s.change s.next s.sound c.args.c c.requires.lower.inside c.requires.lower.apart (b.G.HoldGraph.outs_from s.graph.now) (b.G.HoldGraph.ins_from s.graph.now)
    c.args.v c.first.result c.first.ensures.at c.args.c (plan_of c.down.result) c.down.ensures.plan c.first.ensures.all

pub returns-clause-cost : goal.returns-clause-cost
returns-clause-cost b c =
    let s = c.args.self.now in
    few_steps s.pattern.now s.tree.now (b.G.HoldGraph.graph s.graph.now) s.triple.now s.change s.next s.sound c.args.c c.requires.lower.inside c.requires.lower.apart (b.G.HoldGraph.outs_from s.graph.now) (b.G.HoldGraph.ins_from s.graph.now)
    c.args.v c.first.result c.first.ensures.at c.args.c (plan_of c.down.result) c.down.ensures.plan c.first.ensures.all

pub returns-clause-all : goal.returns-clause-all
returns-clause-all b c =
    let s = c.args.self.now in
    all_down s.pattern.now s.tree.now (b.G.HoldGraph.graph s.graph.now) s.triple.now s.change s.next s.sound c.args.c c.requires.lower.inside c.requires.lower.apart c.args.v (plan_of c.down.result) c.down.ensures.plan c.requires.member
    (b.G.HoldGraph.outs_from s.graph.now) (b.G.HoldGraph.ins_from s.graph.now) c.first.result c.first.ensures.at c.first.ensures.all
