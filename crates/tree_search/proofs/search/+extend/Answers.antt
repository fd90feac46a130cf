use Rattle.std.proofs.Common.{rules, ◌≡◌, true, inl, slice_index, sym, subst, ◌+◌, ◌<◌, ◌≤◌, length, refl, ◌∙◌, arith}
use Rattle.std.proofs.lemmas.Result.{on_ok_weaker, on_err_weaker}
use Rattle.flux_model.specs.Graph.{has_triple}
use Rattle.match_order.specs.Whole.{vertices}
use Rattle.graph_rows.specs.Directions.{triple_of}
use Rattle.tree_search.specs.CandidatesLeft.{left, reads}
use Rattle.tree_search.proofs.CandidateLemmas.{start_apart, start_has, start_stands, start_few}
use Rattle.flux_model.specs.Members.{In}
use Rattle.tree_search.specs.Given.{nth_vertex}
use Rattle.tree_search.specs.LookCost.{look_from, look_over, goes_next}
use Rattle.tree_search.proofs.LookLemmas.{look_start, look_turn, look_skip, look_inner, taken_next}
use Rattle.tree_search.specs.AimedMembers.{members_at, may_take}
use Rattle.tree_search.specs.Members.{ids_of}
use Rattle.tree_search.proofs.AimLemmas.{aimed_is}
use Rattle.tree_search.proofs.GrowthLemmas.{grew_one, grew_by_none, any_err}
use Rattle.tree_search.proofs.GivenLemmas.{member_in_row, HasMembers}
use Rattle.tree_search.proofs.PassLemmas.{member}
use Rattle.tree_search.specs.declared.aim.Aim.TheVariants.{All}
use Rattle.tree_search.proofs.WholeLemmas.{one_member}
use Rattle.tree_search.proofs.TurnLemmas.{turn_open, turn_back, turn_found, turn_stop, turn_none, turn_given, turn_aimed, turns_start, others_stand}
use Rattle.tree_search.specs.SearchCosts.{cost_from, members_cost}
use Rattle.tree_search.proofs.CostLemmas.{start_paid, turn_steps, skip_steps, end_paid}
use Rattle.tree_search.proofs.search.+extend.Goals as goal

pub returns-then-k-len-clause-found : goal.returns-then-k-len-clause-found
returns-then-k-len-clause-found g t c =
    let s = c.args.search.now in
    let graph = g.G.HoldGraph.graph s.graph.now in
    let list = g.F.Found.list in
    let p = c.args.partial.now in
    on_ok_weaker c.hand_over.result
    (λ is. grew_one (list c.args.found.now) (list c.hand_over.new.found) (ids_of p) (members_at s.pattern.now graph s.aim p) is
    (one_member s.pattern.now s.tree.now s.dcg.now graph s.order c.requires.ready c.args.k (c.if-k-len.true ∙ c.len.ensures) p c.requires.given s.aim c.requires.aimed))
    c.hand_over.ensures.ok

pub returns-then-k-len-clause-some : goal.returns-then-k-len-clause-some
returns-then-k-len-clause-some g t c =
    let s = c.args.search.now in
    let list = g.F.Found.list in
    on_err_weaker c.hand_over.result
    (λ same. grew_by_none (list c.args.found.now) (list c.hand_over.new.found) (members_at s.pattern.now (g.G.HoldGraph.graph s.graph.now) s.aim c.args.partial.now) same)
    c.hand_over.ensures.err

pub first-at-requires-clause-stands : goal.first-at-requires-clause-stands
first-at-requires-clause-stands g t c = c.candidates_at-candidates.ensures.way.stands

pub loop-x-init : goal.loop-x-init
loop-x-init g t c =
    let s = c.args.search.now in
    let candidates = c.candidates_at-candidates.result in
    let r = candidates.row in
    let graph = g.G.HoldGraph.graph s.graph.now in
    let outs = g.G.HoldGraph.outs_from s.graph.now in
    let ins = g.G.HoldGraph.ins_from s.graph.now in
    let d = s.dcg.now in
    let at = c.first-at.result in
    let begun = c.first-at.ensures.start in
    let xs = left outs ins graph candidates at in
    let n = reads outs ins candidates at in
    let few : c.args.k < length (vertices s.order) = omega (arith, c.requires.few, c.if-k-len.false, c.len.ensures) in
    let most = start_few outs ins graph candidates c.candidates_at-candidates.ensures.short at begun in
    let apart = start_apart outs ins graph candidates c.requires.ready.graph at begun c.candidates_at-candidates.ensures.once in
    let has : HasMembers s.pattern.now s.tree.now d graph s.order c.requires.ready c.args.k few c.args.partial.now c.requires.given s.aim xs =
    λ m i.
    (let is = member s.pattern.now graph s.aim c.args.partial.now m i in
    start_has outs ins graph candidates at begun (slice_index m (nth_vertex s.order c.args.k))
    (c.candidates_at-candidates.ensures.each m i)
    (member_in_row s.pattern.now s.tree.now d graph s.order c.requires.ready c.args.k few c.args.partial.now c.requires.given c.requires.some r.vertex r.direction r.label.now c.candidates_at-candidates.ensures.row m is.0 is.1)
    (c.candidates_at-candidates.ensures.way.leads m is.0 is.1)) in
    record {
      place = c.first-at.ensures.place;
      partial = refl;
      stand = start_stands outs ins graph candidates at begun;
      found = turns_start s.pattern.now s.tree.now s.dcg.now graph s.order c.requires.ready c.args.k few c.args.partial.now c.requires.given c.vertex-w.result c.vertex-w.ensures c.args.partial.now refl s.aim xs apart has (g.F.Found.list c.args.found.now);
      steps = λ live start all.
          (let every : HasMembers s.pattern.now s.tree.now d graph s.order c.requires.ready c.args.k few c.args.partial.now c.requires.given All xs =
          subst (λ aim. HasMembers s.pattern.now s.tree.now d graph s.order c.requires.ready c.args.k few c.args.partial.now c.requires.given aim xs) all has in
          let paid = start_paid s.pattern.now s.tree.now s.dcg.now graph s.order c.requires.ready start live c.args.k c.requires.some few c.args.partial.now c.requires.given c.vertex-w.result c.vertex-w.ensures r.vertex c.candidates_at-candidates.ensures.row.anchor n most xs apart every in
          omega (arith, paid));
      look = (let started = look_start s.pattern.now s.tree.now s.dcg.now graph s.order c.requires.ready s.aim c.args.k c.requires.some few c.args.partial.now r.vertex r.direction r.label.now c.candidates_at-candidates.ensures.row n most xs apart c.vertex-w.result c.vertex-w.ensures in omega (arith, started));
    }

pub next-requires-clause-stands : goal.next-requires-clause-stands
next-requires-clause-stands g t c = c.candidates_at-candidates.ensures.way.stands

pub next-requires-clause-walked : goal.next-requires-clause-walked
next-requires-clause-walked g t c = c.candidates_at-candidates.ensures.way.number

pub may_try-requires-clause-open : goal.may_try-requires-clause-open
may_try-requires-clause-open g t c =
    let s = c.args.search.now in
    turn_open s.pattern.now s.tree.now s.dcg.now (g.G.HoldGraph.graph s.graph.now) s.order c.requires.ready c.args.k (omega (arith, c.requires.few, c.if-k-len.false, c.len.ensures)) c.args.partial.now c.requires.given c.vertex-w.result c.vertex-w.ensures c.loop-x.partial c.loop-x.invariant.partial

pub extend-requires : goal.extend-requires
extend-requires g t c κs within =
    let s = c.args.search.now in
    let candidates = c.candidates_at-candidates.result in
    let r = candidates.row in
    let graph = g.G.HoldGraph.graph s.graph.now in
    let more = reads (g.G.HoldGraph.outs_from s.graph.now) (g.G.HoldGraph.ins_from s.graph.now) candidates in
    let ends = left (g.G.HoldGraph.outs_from s.graph.now) (g.G.HoldGraph.ins_from s.graph.now) (g.G.HoldGraph.graph s.graph.now) candidates in
    let given = turn_given s.pattern.now s.tree.now s.dcg.now graph s.order c.requires.ready c.args.k (omega (arith, c.requires.few, c.if-k-len.false, c.len.ensures)) c.args.partial.now c.requires.given c.vertex-w.result c.vertex-w.ensures c.loop-x.partial c.loop-x.invariant.partial s.aim c.requires.some r.vertex r.direction r.label.now c.candidates_at-candidates.ensures.row c.in-Some.x (ends c.loop-x.at) (ends c.in-Some.next) c.in-Some.ensures.ends c.loop-x.invariant.stand true (sym (c.may_try.ensures.taken c.if-may_try.true)) refl c.put.new.self c.put.ensures in
    let few : c.args.k + 1 ≤ length (vertices s.order) = omega (arith, c.requires.few, c.if-k-len.false, c.len.ensures) in
    let aimed = turn_aimed s.pattern.now s.tree.now s.dcg.now graph s.order c.requires.ready c.args.k (omega (arith, c.requires.few, c.if-k-len.false, c.len.ensures)) c.args.partial.now c.requires.given c.vertex-w.result c.vertex-w.ensures c.loop-x.partial c.loop-x.invariant.partial s.aim c.requires.aimed c.in-Some.x true (sym (c.may_try.ensures.taken c.if-may_try.true)) refl c.put.new.self c.put.ensures in
    (search rules, (within.0, (within.1.0, (within.1.1, (c.requires.ready, (c.requires.numbers, (omega arith, (few, (given, aimed)))))))))

pub returns-in_err-extend-clause-some : goal.returns-in_err-extend-clause-some
returns-in_err-extend-clause-some g t c =
    let s = c.args.search.now in
    let candidates = c.candidates_at-candidates.result in
    let r = candidates.row in
    let graph = g.G.HoldGraph.graph s.graph.now in
    let list = g.F.Found.list in
    let more = reads (g.G.HoldGraph.outs_from s.graph.now) (g.G.HoldGraph.ins_from s.graph.now) candidates in
    let ends = left (g.G.HoldGraph.outs_from s.graph.now) (g.G.HoldGraph.ins_from s.graph.now) (g.G.HoldGraph.graph s.graph.now) candidates in
    any_err c.from_residual.result (turn_stop s.pattern.now s.tree.now s.dcg.now graph s.order c.requires.ready c.args.k (omega (arith, c.requires.few, c.if-k-len.false, c.len.ensures)) c.args.partial.now c.requires.given c.vertex-w.result c.vertex-w.ensures c.loop-x.partial c.loop-x.invariant.partial s.aim c.in-Some.x (ends c.loop-x.at) (ends c.in-Some.next) c.in-Some.ensures.ends (list c.args.found.now) (list c.loop-x.found) (members_at s.pattern.now graph s.aim c.args.partial.now) c.loop-x.invariant.found c.put.new.self c.put.ensures (list c.extend.new.found) c.in_err-extend.ensures.some)

pub loop-x-preserved-then-may_try : goal.loop-x-preserved-then-may_try
loop-x-preserved-then-may_try g t c =
    let s = c.args.search.now in
    let candidates = c.candidates_at-candidates.result in
    let r = candidates.row in
    let graph = g.G.HoldGraph.graph s.graph.now in
    let list = g.F.Found.list in
    let more = reads (g.G.HoldGraph.outs_from s.graph.now) (g.G.HoldGraph.ins_from s.graph.now) candidates in
    let ends = left (g.G.HoldGraph.outs_from s.graph.now) (g.G.HoldGraph.ins_from s.graph.now) (g.G.HoldGraph.graph s.graph.now) candidates in
    let few : c.args.k < length (vertices s.order) = omega (arith, c.requires.few, c.if-k-len.false, c.len.ensures) in
    record {
      place = c.in-Some.ensures.next;
      partial = turn_back s.pattern.now s.tree.now s.dcg.now graph s.order c.requires.ready c.args.k few c.args.partial.now c.requires.given c.vertex-w.result c.vertex-w.ensures c.loop-x.partial c.loop-x.invariant.partial c.in-Some.x c.put.new.self c.extend.new.partial c.clear.new.self c.put.ensures c.in_ok-extend.ensures.partial c.clear.ensures;
      stand = others_stand (λ y. has_triple graph (triple_of r.direction r.vertex r.label.now y)) c.in-Some.x (ends c.loop-x.at) (ends c.in-Some.next) c.in-Some.ensures.ends c.loop-x.invariant.stand;
      found = turn_found s.pattern.now s.tree.now s.dcg.now graph s.order c.requires.ready c.args.k few c.args.partial.now c.requires.given c.vertex-w.result c.vertex-w.ensures c.loop-x.partial c.loop-x.invariant.partial s.aim c.in-Some.x (ends c.loop-x.at) (ends c.in-Some.next) c.in-Some.ensures.ends (list c.args.found.now) (list c.loop-x.found) (members_at s.pattern.now graph s.aim c.args.partial.now) c.loop-x.invariant.found c.put.new.self c.put.ensures (list c.extend.new.found) c.in_ok-extend.ensures.found;
      steps = λ live start all.
          turn_steps s.pattern.now s.tree.now graph c.args.partial.now c.vertex-w.result c.loop-x.partial c.loop-x.invariant.partial c.in-Some.x (ends c.loop-x.at) (ends c.in-Some.next) c.in-Some.ensures.ends (cost_from s.pattern.now s.tree.now graph s.order (c.args.k + 1)) c.put.new.self c.put.ensures (more c.in-Some.next) (more c.loop-x.at) c.in-Some.ensures.less c.loop-x.steps c.next.new.steps c.may_try.new.steps c.extend.new.steps c.args.steps.now (members_cost s.pattern.now s.tree.now graph s.order c.args.k c.args.partial.now) c.in-Some.ensures.steps c.may_try.ensures.steps (c.in_ok-extend.ensures.steps live start all) (c.loop-x.invariant.steps live start all);
      look =
          (let stands = c.loop-x.invariant.stand c.in-Some.x (subst (λ l. In l c.in-Some.x) (sym c.in-Some.ensures.ends) (inl refl)) in
          let may : may_take s.pattern.now s.tree.now graph s.aim c.args.partial.now (nth_vertex s.order c.args.k) c.in-Some.x ≡ true =
          (λ i. may_take s.pattern.now s.tree.now graph s.aim (sym c.loop-x.invariant.partial i) (sym c.vertex-w.ensures i) c.in-Some.x) ∙ c.may_try.ensures.taken c.if-may_try.true in
          let keeps = taken_next s.pattern.now s.tree.now s.dcg.now graph s.order c.requires.ready s.aim c.args.k c.requires.some few c.args.partial.now r.vertex r.direction r.label.now c.candidates_at-candidates.ensures.row c.in-Some.x may stands in
          look_turn s.pattern.now s.tree.now graph c.vertex-w.result c.in-Some.x (ends c.loop-x.at) (ends c.in-Some.next) c.in-Some.ensures.ends (look_over s.pattern.now s.tree.now graph s.aim s.order c.args.k (ids_of c.args.partial.now) c.vertex-w.result) (goes_next s.pattern.now s.tree.now graph s.aim s.order c.args.k (ids_of c.args.partial.now)) keeps (more c.in-Some.next) (more c.loop-x.at) c.in-Some.ensures.less c.loop-x.steps c.next.new.steps c.may_try.new.steps c.extend.new.steps c.args.steps.now (look_from s.pattern.now s.tree.now graph s.aim s.order c.args.k (ids_of c.args.partial.now)) (look_from s.pattern.now s.tree.now graph s.aim s.order (c.args.k + 1) (ids_of c.put.new.self)) c.in-Some.ensures.steps c.may_try.ensures.steps c.in_ok-extend.ensures.look
          (look_inner s.pattern.now s.tree.now graph s.aim s.order c.args.k c.args.partial.now c.loop-x.partial c.put.new.self c.vertex-w.result c.in-Some.x c.loop-x.invariant.partial c.put.ensures)
          c.loop-x.invariant.look);
    }

pub loop-x-preserved : goal.loop-x-preserved
loop-x-preserved g t c =
    let s = c.args.search.now in
    let candidates = c.candidates_at-candidates.result in
    let r = candidates.row in
    let graph = g.G.HoldGraph.graph s.graph.now in
    let list = g.F.Found.list in
    let more = reads (g.G.HoldGraph.outs_from s.graph.now) (g.G.HoldGraph.ins_from s.graph.now) candidates in
    let ends = left (g.G.HoldGraph.outs_from s.graph.now) (g.G.HoldGraph.ins_from s.graph.now) (g.G.HoldGraph.graph s.graph.now) candidates in
    let few : c.args.k < length (vertices s.order) = omega (arith, c.requires.few, c.if-k-len.false, c.len.ensures) in
    record {
      place = c.in-Some.ensures.next;
      partial = c.loop-x.invariant.partial;
      stand = others_stand (λ y. has_triple graph (triple_of r.direction r.vertex r.label.now y)) c.in-Some.x (ends c.loop-x.at) (ends c.in-Some.next) c.in-Some.ensures.ends c.loop-x.invariant.stand;
      found = turn_none s.pattern.now s.tree.now s.dcg.now graph s.order c.requires.ready c.args.k few c.args.partial.now c.requires.given c.vertex-w.result c.vertex-w.ensures c.loop-x.partial c.loop-x.invariant.partial s.aim c.in-Some.x (ends c.loop-x.at) (ends c.in-Some.next) c.in-Some.ensures.ends (list c.args.found.now) (list c.loop-x.found) (members_at s.pattern.now graph s.aim c.args.partial.now) c.loop-x.invariant.found (c.may_try.ensures.none c.if-may_try.false);
      steps = λ live start all.
          skip_steps s.pattern.now s.tree.now graph c.args.partial.now c.vertex-w.result c.loop-x.partial c.loop-x.invariant.partial c.in-Some.x (ends c.loop-x.at) (ends c.in-Some.next) c.in-Some.ensures.ends (cost_from s.pattern.now s.tree.now graph s.order (c.args.k + 1)) (more c.in-Some.next) (more c.loop-x.at) c.in-Some.ensures.less c.loop-x.steps c.next.new.steps c.may_try.new.steps c.args.steps.now (members_cost s.pattern.now s.tree.now graph s.order c.args.k c.args.partial.now) c.in-Some.ensures.steps c.may_try.ensures.steps (c.loop-x.invariant.steps live start all);
      look =
          look_skip s.pattern.now s.tree.now graph c.vertex-w.result c.in-Some.x (ends c.loop-x.at) (ends c.in-Some.next) c.in-Some.ensures.ends (look_over s.pattern.now s.tree.now graph s.aim s.order c.args.k (ids_of c.args.partial.now) c.vertex-w.result) (goes_next s.pattern.now s.tree.now graph s.aim s.order c.args.k (ids_of c.args.partial.now)) (more c.in-Some.next) (more c.loop-x.at) c.in-Some.ensures.less c.loop-x.steps c.next.new.steps c.may_try.new.steps c.args.steps.now (look_from s.pattern.now s.tree.now graph s.aim s.order c.args.k (ids_of c.args.partial.now)) c.in-Some.ensures.steps c.may_try.ensures.steps c.loop-x.invariant.look;
    }

pub returns-clause-steps : goal.returns-clause-steps
returns-clause-steps g t c =
    let s = c.args.search.now in
    let candidates = c.candidates_at-candidates.result in
    let r = candidates.row in
    let more = reads (g.G.HoldGraph.outs_from s.graph.now) (g.G.HoldGraph.ins_from s.graph.now) candidates in
    λ live start all.
    (let ended = c.in_default.ensures.steps in
    omega (arith, ended, c.loop-x.invariant.steps live start all, end_paid (length s.pattern.now.edges) (more c.loop-x.at)))

pub may_try-requires-clause-aim : goal.may_try-requires-clause-aim
may_try-requires-clause-aim g t c = aimed_is c.args.search.now.pattern.now c.args.search.now.aim c.args.partial.now c.requires.aimed

pub returns-clause-look : goal.returns-clause-look
returns-clause-look g t c =
    let s = c.args.search.now in
    let candidates = c.candidates_at-candidates.result in
    let r = candidates.row in
    let more = reads (g.G.HoldGraph.outs_from s.graph.now) (g.G.HoldGraph.ins_from s.graph.now) candidates in
    let ended = c.in_default.ensures.steps in
    omega (arith, ended, c.loop-x.invariant.look, end_paid (length s.pattern.now.edges) (more c.loop-x.at))

pub candidates_at-candidates-requires-clause-aim : goal.candidates_at-candidates-requires-clause-aim
candidates_at-candidates-requires-clause-aim g t c = aimed_is c.args.search.now.pattern.now c.args.search.now.aim c.args.partial.now c.requires.aimed
