use Rattle.std.proofs.Common.{length, take, ap, subst, arith}
use Rattle.std.specs.List.{flat_map}
use Rattle.std.specs.Io.KnownBytes.{Appends}
use Rattle.std.proofs.lemmas.Result.{err_from_is_err_and, on_ok_weaker, on_err_weaker}
use Rattle.flux_outside.specs.Told.{AppendsFront}
use Rattle.flux_outside.proofs.ReadsLemmas.{NoEmptyPut-trans}
use Rattle.flux_model.specs.Report.{answer_lines}
use Rattle.delta_report.specs.Answers.{total_line}
use Rattle.pattern_registry.proofs.AnswerLemmas.{at_place}
use Rattle.pattern_registry.proofs.CostLemmas.{no_dead_end_costs-next}
use Rattle.watch_cli.proofs.ReportLemmas.{ended_by, ended_short}
use Rattle.watch_cli.proofs.AnswersLemmas.{Wrote-next, count_next, text_whole, text_stops}
use Rattle.watch_cli.proofs.answers.put_all.Goals as goal

pub loop-k-preserved : goal.loop-k-preserved
loop-k-preserved g c =
    let graph = g.G.HoldGraph.graph c.args.graph.now in
    let s = c.args.registry.now in
    let pattern = at_place s.patterns c.loop-k.k (omega (arith, ap length c.patterns.ensures.patterns)) in
    let tree = at_place s.trees c.loop-k.k (omega (arith, ap length c.patterns.ensures.patterns, c.patterns.ensures.indexed.trees)) in
    record {
      wrote = Wrote-next (answer_lines graph) s.patterns c.loop-k.k pattern.0 _ _ _ _ _ _ pattern.1 c.loop-k.invariant.wrote (c.in_ok-count.ensures.ok pattern.0 pattern.1);
      count = count_next graph s.patterns c.loop-k.k pattern.0 c.loop-k.total c.in_ok-count.count pattern.1 c.loop-k.invariant.count (c.in_ok-count.ensures.count pattern.0 pattern.1);
      fits = omega (arith, c.loop-k.invariant.fits);
      steps = λ live. omega (arith, no_dead_end_costs-next graph s.patterns s.trees c.loop-k.k pattern.0 tree.0 pattern.1 tree.1, c.in_ok-count.ensures.steps pattern.0 tree.0 pattern.1 tree.1 (live.each c.loop-k.k pattern.0 tree.0 pattern.1 tree.1), c.loop-k.invariant.steps live);
      later = omega (arith, c.loop-k.invariant.later, c.in_ok-count.ensures.later);
      puts = NoEmptyPut-trans _ _ _ c.loop-k.invariant.puts c.in_ok-count.ensures.puts;
    }

pub overflow_add-total : goal.overflow_add-total
overflow_add-total g c = omega (arith, c.loop-k.invariant.fits)

pub returns-in_err-count-clause-err : goal.returns-in_err-count-clause-err
returns-in_err-count-clause-err g c =
    let s = c.args.registry.now in
    let pattern = at_place s.patterns c.loop-k.k (omega (arith, ap length c.patterns.ensures.patterns)) in
    let p = err_from_is_err_and c.from_residual.result c.from_residual.ensures.1 in
    rw p.1 (text_stops (g.G.HoldGraph.graph c.args.graph.now) s.patterns c.loop-k.k pattern.0 _ _ _ _ pattern.1 c.loop-k.invariant.wrote (c.in_err-count.ensures.err pattern.0 pattern.1))

pub returns-in_err-count-clause-puts : goal.returns-in_err-count-clause-puts
returns-in_err-count-clause-puts g c = NoEmptyPut-trans _ _ _ c.loop-k.invariant.puts c.in_err-count.ensures.puts

pub returns-clause-ok : goal.returns-clause-ok
returns-clause-ok g c =
    let graph = g.G.HoldGraph.graph c.args.graph.now in
    let s = c.args.registry.now in
    on_ok_weaker c.put_total.result
    (λ put. subst (Appends (g.W.Sink.taken c.args.out.now) (g.W.Sink.taken c.put_total.new.out)) (text_whole graph s.patterns c.loop-k.k c.loop-k.total (omega (arith, ap length c.patterns.ensures.patterns)) c.loop-k.invariant.count)
    (ended_by _ _ _ c.loop-k.report.items (flat_map (answer_lines graph) (take c.loop-k.k s.patterns)) (total_line c.loop-k.total) c.loop-k.invariant.wrote put))
    c.put_total.ensures.ok

pub returns-clause-err : goal.returns-clause-err
returns-clause-err g c =
    let graph = g.G.HoldGraph.graph c.args.graph.now in
    let s = c.args.registry.now in
    on_err_weaker c.put_total.result
    (λ front. subst (AppendsFront (g.W.Sink.taken c.args.out.now) (g.W.Sink.taken c.put_total.new.out)) (text_whole graph s.patterns c.loop-k.k c.loop-k.total (omega (arith, ap length c.patterns.ensures.patterns)) c.loop-k.invariant.count)
    (ended_short _ _ _ c.loop-k.report.items (flat_map (answer_lines graph) (take c.loop-k.k s.patterns)) (total_line c.loop-k.total) c.loop-k.invariant.wrote front))
    c.put_total.ensures.err

pub returns-clause-puts : goal.returns-clause-puts
returns-clause-puts g c = NoEmptyPut-trans _ _ _ c.loop-k.invariant.puts c.put_total.ensures.puts

pub returns-clause-steps : goal.returns-clause-steps
returns-clause-steps g c = on_ok_weaker c.put_total.result (λ put live. omega (arith, c.loop-k.invariant.steps live)) c.put_total.ensures.ok
