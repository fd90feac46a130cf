use Rattle.std.proofs.Common.{◌≡◌, ◌-◌, List, ℕ, arith}
use Rattle.std.specs.List.{flat_map}
use Rattle.flux_gen.proofs.DrawsLemmas.{turn_written, updates_done}
use Rattle.flux_model.specs.Generated.{updates_from, update_line}
use Rattle.flux_gen.specs.Drawn.{edge_triples}
use Rattle.flux_gen.proofs.updates.write_updates.Goals as goal

pub loop-i-preserved : goal.loop-i-preserved
loop-i-preserved c =
    let whole : List ℕ = flat_map update_line (updates_from c.args.vertices c.args.count (edge_triples c.args.drawn.now.items) c.args.draws.now.state) in
    record {
      text = turn_written c.args.vertices c.args.count c.loop-i._i c.loop-i.draws.state c.write_turn.new.draws.state c.loop-i.drawn.items c.write_turn.new.drawn.items c.args.out.now.items c.loop-i.out.items c.write_turn.new.out.items whole c.loop-i-test.true c.in_ok-write_turn.ensures.took c.loop-i.invariant.text;
      some = omega arith;
      few = omega arith;
    }

pub returns : goal.returns
returns c =
    let none : c.args.count - c.loop-i._i ≡ 0 = omega arith in
    updates_done c.args.vertices c.args.count c.loop-i._i c.loop-i.draws.state (edge_triples c.loop-i.drawn.items) c.loop-i.out.items _ none c.loop-i.invariant.text
