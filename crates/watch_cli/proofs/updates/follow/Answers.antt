use Rattle.std.proofs.Common.{◌≡◌, ◌+◌, ◌≤◌, ◌∙◌, length, refl, ap, arith}
use Rattle.std.proofs.lemmas.Result.{err_from_is_err_and, on_ok_weaker, on_err_weaker, IfErr-weaker}
use Rattle.std.proofs.lemmas.Grind.{common_steps}
use Rattle.stream_lines.specs.Lent.{one_line}
use Rattle.flux_outside.specs.Causes.{Rose}
use Rattle.flux_outside.specs.declared.read_outcome.ReadOutcome.TheVariants.{Bytes, Fault}
use Rattle.flux_outside.proofs.ReadsLemmas.{Asking-source, NoEmptyPut-none, NoEmptyPut-trans, source-gave, source-last}
use Rattle.file_reading.proofs.AskedLemmas.{asks-well}
use Rattle.flux_model.specs.Verdict.{Watched, ending_with, written_before}
use Rattle.watch_cli.specs.RunEnds.{EndsAs, EndsAtFault}
use Rattle.watch_core.specs.Session.{WatchState}
use Rattle.watch_core.specs.SessionStates.{watched}
use Rattle.watch_cli.proofs.ReportLemmas.{lines_fit, some_lines_fit}
use Rattle.watch_cli.proofs.CostLemmas.{FollowedAt-start, FollowedAt-next, followed-all}
use Rattle.watch_cli.proofs.FollowLemmas.{Consumes-none, Followed-before, Followed-fault, Followed-long, Followed-stops, Followed-done, Followed-done_short, Followed-stands, write-ends, write-early}
use Rattle.watch_cli.proofs.AskedByRunLemmas.{writing-reads_not, writing-no_file, written-reads_not, written-no_file}
use Rattle.watch_cli.proofs.updates.follow.Goals as goal

pub loop-count-init : goal.loop-count-init
loop-count-init g c = record {
  within = omega arith;
  buffer = c.in-Ok.ensures;
  empty = c.new-report.ensures.items;
  followed = FollowedAt-start _ _ _ _ _ c.args.session.now.registry.trees c.args.steps.now c.new-lines.ensures;
  trees = refl;
  asked = Asking-source _ _;
  puts = NoEmptyPut-none _;
  read_later = omega arith;
  later = omega arith;
  whole = c.requires.whole;
}

pub returns-in_default-read-clause-front : goal.returns-in_default-read-clause-front
returns-in_default-read-clause-front g c =
    Followed-before c.args.limits.now c.args.session.now.graph c.args.session.now.registry.patterns _ _ _ _ _ _ _ _ c.requires.first c.loop-count.invariant.followed.followed c.loop-count.invariant.within

pub returns-in_default-read-clause-status : goal.returns-in_default-read-clause-status
returns-in_default-read-clause-status g c = (
  omega (arith, c.loop-count.invariant.read_later, c.in_default-read.ensures.cause.failed),
  Followed-fault c.args.limits.now c.args.session.now.graph c.args.session.now.registry.patterns _ _ _ _ _ _ _ _ c.requires.first _ c.loop-count.invariant.followed.followed c.in_default-read.ensures.bytes,
)

pub returns-then-count-room-clause-front : goal.returns-then-count-room-clause-front
returns-then-count-room-clause-front g c =
    Followed-before c.args.limits.now c.args.session.now.graph c.args.session.now.registry.patterns _ _ _ _ _ _ _ _ c.requires.first c.loop-count.invariant.followed.followed c.loop-count.invariant.within

pub returns-then-count-room-clause-status : goal.returns-then-count-room-clause-status
returns-then-count-room-clause-status g c =
    let bound : c.in-Ok-read.count ≤ length c.read.new.buf = c.in-Ok-read.ensures.bound.0 in
    let asked : length c.read.new.buf ≡ c.ask_for.result = grind (arith, common_steps) in
    Followed-long c.args.limits.now c.args.session.now.graph c.args.session.now.registry.patterns _ _ _ _ _ _ _ _ c.requires.first _ c.in-Ok-read.count _ c.loop-count.invariant.followed.followed
    c.in-Ok-read.ensures.bytes.0 c.in-Ok-read.ensures.bound.1 (omega arith) (omega (arith, bound, asked, c.loop-count.invariant.within, c.if-count-room.true, c.ask_for.ensures.within))

pub returns-in_default-push-clause-front : goal.returns-in_default-push-clause-front
returns-in_default-push-clause-front g c =
    Followed-before c.args.limits.now c.args.session.now.graph c.args.session.now.registry.patterns _ _ _ _ _ _ _ _ c.requires.first c.loop-count.invariant.followed.followed c.loop-count.invariant.within

pub report_waiting-requires-clause-fits : goal.report_waiting-requires-clause-fits
report_waiting-requires-clause-fits g c =
    let fit : c.loop-count.session.lines + length c.push.new.self.queue ≤ c.args.session.now.lines + (c.loop-count.given + c.in-Ok-read.count) =
    lines_fit _ _ _ _ _ _ _ _ _ _ _ _ c.loop-count.invariant.followed.followed c.in-Ok-push.ensures.lines c.in-Ok-read.ensures.bound.1 in
    omega (arith, fit, ap (λ (s : WatchState). s.lines) c.requires.first, c.if-count-room.false, c.loop-count.invariant.within, c.requires.fair.input_bytes.1)

pub loop-count-preserved : goal.loop-count-preserved
loop-count-preserved g c =
    let asked : length c.read.new.buf ≡ c.ask_for.result = grind (arith, common_steps) in
    record {
      within = omega (arith, c.if-count-room.false, c.loop-count.invariant.within);
      buffer = c.loop-count.invariant.buffer;
      empty = c.in_ok-report_waiting.ensures.empty;
      followed = FollowedAt-next _ _ _ _ _ _ _ _ _ _ _ _ _ _ _ _ c.args.session.now.registry.trees c.loop-count.session.registry.trees c.args.steps.now c.loop-count.steps c.report_waiting.new.steps c.loop-count.invariant.followed c.in-Ok-read.ensures.bytes.0 c.in-Ok-read.ensures.bound.1
          c.in-Ok-push.ensures.lines c.in-Ok-push.ensures.line_bytes c.in_ok-report_waiting.ensures.ok c.in_ok-report_waiting.ensures.after c.in_ok-report_waiting.ensures.waiting
          c.loop-count.invariant.trees c.in_ok-report_waiting.ensures.steps;
      trees = c.in_ok-report_waiting.ensures.trees ∙ c.loop-count.invariant.trees;
      read_later = omega (arith, c.loop-count.invariant.read_later, c.in-Ok-read.ensures.cause.later);
      later = omega (arith, c.loop-count.invariant.later, c.in_ok-report_waiting.ensures.later);
      whole = c.in_ok-report_waiting.ensures.whole;
      asked = source-gave c.args.limits.now.input_bytes c.loop-count.given _ (Bytes c.in-Ok-read.count) _ _ _ c.loop-count.invariant.asked c.in-Ok-read.ensures.asked
          (asks-well c.args.limits.now.input_bytes c.loop-count.given _ c.ask_for.result (Bytes c.in-Ok-read.count) (grind (arith, common_steps)) c.loop-count.invariant.within c.ask_for.ensures.some c.ask_for.ensures.fits c.ask_for.ensures.within (omega (arith, c.in-Ok-read.ensures.bound.0, asked))) (omega (arith, c.if-count-eq0.false));
      puts = NoEmptyPut-trans _ _ _ c.loop-count.invariant.puts c.in_ok-report_waiting.ensures.puts;
    }

pub returns-in_err-report_waiting-clause-front : goal.returns-in_err-report_waiting-clause-front
returns-in_err-report_waiting-clause-front g c =
    let p = err_from_is_err_and c.from_residual.result c.from_residual.ensures.1 in
    rw p.1 (Followed-stops c.args.limits.now c.args.session.now.graph c.args.session.now.registry.patterns _ _ _ _ _ _ _ _ c.requires.first _ _ c.in-Ok-read.count _ _ c.loop-count.invariant.followed.followed
    c.in-Ok-read.ensures.bytes.0 c.in-Ok-read.ensures.bound.1 (omega (arith, c.if-count-room.false, c.loop-count.invariant.within)) c.in-Ok-push.ensures.lines c.in_err-report_waiting.ensures.err)

pub returns-in_err-report_waiting-clause-status : goal.returns-in_err-report_waiting-clause-status
returns-in_err-report_waiting-clause-status g c =
    let p = err_from_is_err_and c.from_residual.result c.from_residual.ensures.1 in
    rw (p.1, p.2) (write-ends _ _ _
    (EndsAs (g.S.Source.left c.args.updates.now) (λ s. ending_with c.args.limits.now s (Watched c.args.session.now.graph c.args.session.now.registry.patterns)) (g.W.Sink.taken c.args.out.now) (g.W.Sink.taken c.report_waiting.new.out))
    (Rose (g.S.Source.faults c.args.updates.now) (g.S.Source.faults c.read.new.self)
    × EndsAtFault (g.S.Source.left c.args.updates.now) (g.S.Source.left c.read.new.self) (written_before c.args.limits.now (Watched c.args.session.now.graph c.args.session.now.registry.patterns)) (g.W.Sink.taken c.args.out.now) (g.W.Sink.taken c.report_waiting.new.out))
    _ c.loop-count.invariant.later c.in_err-report_waiting.ensures.status)

pub returns-in_err-report_waiting-clause-early : goal.returns-in_err-report_waiting-clause-early
returns-in_err-report_waiting-clause-early g c =
    let p = err_from_is_err_and c.from_residual.result c.from_residual.ensures.1 in
    rw (p.1, p.2) (write-early _ _ _ c.in_err-report_waiting.ensures.status)

pub report_end-requires-clause-fits : goal.report_end-requires-clause-fits
report_end-requires-clause-fits g c =
    let fit : c.loop-count.session.lines ≤ c.args.session.now.lines + c.loop-count.given = some_lines_fit _ _ _ _ _ _ _ _ _ c.loop-count.invariant.followed.followed in
    omega (arith, fit, ap (λ (s : WatchState). s.lines) c.requires.first, c.loop-count.invariant.within, c.requires.fair.input_bytes.1)

pub returns-clause-ok : goal.returns-clause-ok
returns-clause-ok g c =
    let zero : c.in-Ok-read.count ≡ 0 = omega (arith, c.if-count-eq0.true) in
    on_ok_weaker c.report_end.result
    (λ put. Followed-done c.args.limits.now c.args.session.now.graph c.args.session.now.registry.patterns _ _ _ _ _ _ _ _ c.requires.first _ _ (one_line c.last.result) c.loop-count.invariant.followed.followed
    (Consumes-none _ _ _ _ zero c.in-Ok-read.ensures.bytes.0) (c.in-Ok-read.ensures.bytes.1 zero (grind (arith, common_steps))) c.loop-count.invariant.within c.last.ensures.lines put)
    c.report_end.ensures.ok

pub returns-clause-after : goal.returns-clause-after
returns-clause-after g c =
    let zero : c.in-Ok-read.count ≡ 0 = omega (arith, c.if-count-eq0.true) in
    on_ok_weaker c.report_end.result
    (λ after. Followed-stands c.args.limits.now c.args.session.now.graph c.args.session.now.registry.patterns _ _ _ _ _ _ _ _ c.requires.first _ (watched c.report_end.new.session) (one_line c.last.result) c.loop-count.invariant.followed.followed
    (Consumes-none _ _ _ _ zero c.in-Ok-read.ensures.bytes.0) (c.in-Ok-read.ensures.bytes.1 zero (grind (arith, common_steps))) c.last.ensures.lines after)
    c.report_end.ensures.after

pub returns-clause-front : goal.returns-clause-front
returns-clause-front g c =
    let zero : c.in-Ok-read.count ≡ 0 = omega (arith, c.if-count-eq0.true) in
    on_err_weaker c.report_end.result
    (λ front. Followed-done_short c.args.limits.now c.args.session.now.graph c.args.session.now.registry.patterns _ _ _ _ _ _ _ _ c.requires.first _ _ (one_line c.last.result) c.loop-count.invariant.followed.followed
    (Consumes-none _ _ _ _ zero c.in-Ok-read.ensures.bytes.0) (c.in-Ok-read.ensures.bytes.1 zero (grind (arith, common_steps))) c.loop-count.invariant.within c.last.ensures.lines front)
    c.report_end.ensures.err

pub returns-clause-status : goal.returns-clause-status
returns-clause-status g c =
    IfErr-weaker c.report_end.result _ _
    (λ s stopped. write-ends _ _ _
    (EndsAs (g.S.Source.left c.args.updates.now) (λ s. ending_with c.args.limits.now s (Watched c.args.session.now.graph c.args.session.now.registry.patterns)) (g.W.Sink.taken c.args.out.now) (g.W.Sink.taken c.report_end.new.out))
    (Rose (g.S.Source.faults c.args.updates.now) (g.S.Source.faults c.read.new.self)
    × EndsAtFault (g.S.Source.left c.args.updates.now) (g.S.Source.left c.read.new.self) (written_before c.args.limits.now (Watched c.args.session.now.graph c.args.session.now.registry.patterns)) (g.W.Sink.taken c.args.out.now) (g.W.Sink.taken c.report_end.new.out))
    s c.loop-count.invariant.later stopped)
    c.report_end.ensures.status

pub returns-clause-early : goal.returns-clause-early
returns-clause-early g c = IfErr-weaker c.report_end.result _ _ (λ s so. write-early _ _ s so) c.report_end.ensures.status

-- ---- what was asked

pub returns-in_default-read-clause-asked : goal.returns-in_default-read-clause-asked
returns-in_default-read-clause-asked g c =
    source-last c.args.limits.now.input_bytes c.loop-count.given _ Fault _ _ _ _ _ _ c.loop-count.invariant.asked c.in_default-read.ensures.asked
    (asks-well c.args.limits.now.input_bytes c.loop-count.given _ c.ask_for.result Fault (grind (arith, common_steps)) c.loop-count.invariant.within c.ask_for.ensures.some c.ask_for.ensures.fits c.ask_for.ensures.within (omega arith)) (λ h. (refl, tt)) (λ h. absurd h)

pub returns-then-count-room-clause-asked : goal.returns-then-count-room-clause-asked
returns-then-count-room-clause-asked g c =
    let asked : length c.read.new.buf ≡ c.ask_for.result = grind (arith, common_steps) in
    source-last c.args.limits.now.input_bytes c.loop-count.given _ (Bytes c.in-Ok-read.count) _ _ _ _ _ _ c.loop-count.invariant.asked c.in-Ok-read.ensures.asked
    (asks-well c.args.limits.now.input_bytes c.loop-count.given _ c.ask_for.result (Bytes c.in-Ok-read.count) (grind (arith, common_steps)) c.loop-count.invariant.within c.ask_for.ensures.some c.ask_for.ensures.fits c.ask_for.ensures.within (omega (arith, c.in-Ok-read.ensures.bound.0, asked))) (λ h. absurd h) (λ h. absurd h)

pub returns-in_default-push-clause-asked : goal.returns-in_default-push-clause-asked
returns-in_default-push-clause-asked g c =
    let asked : length c.read.new.buf ≡ c.ask_for.result = grind (arith, common_steps) in
    source-last c.args.limits.now.input_bytes c.loop-count.given _ (Bytes c.in-Ok-read.count) _ _ _ _ _ _ c.loop-count.invariant.asked c.in-Ok-read.ensures.asked
    (asks-well c.args.limits.now.input_bytes c.loop-count.given _ c.ask_for.result (Bytes c.in-Ok-read.count) (grind (arith, common_steps)) c.loop-count.invariant.within c.ask_for.ensures.some c.ask_for.ensures.fits c.ask_for.ensures.within (omega (arith, c.in-Ok-read.ensures.bound.0, asked))) (λ h. absurd h) (λ h. absurd h)

pub returns-in_err-report_waiting-clause-asked : goal.returns-in_err-report_waiting-clause-asked
returns-in_err-report_waiting-clause-asked g c =
    let p = err_from_is_err_and c.from_residual.result c.from_residual.ensures.1 in
    let asked : length c.read.new.buf ≡ c.ask_for.result = grind (arith, common_steps) in
    rw (p.1, p.2) (source-last c.args.limits.now.input_bytes c.loop-count.given _ (Bytes c.in-Ok-read.count) _ _ _ _ _ _ c.loop-count.invariant.asked c.in-Ok-read.ensures.asked
    (asks-well c.args.limits.now.input_bytes c.loop-count.given _ c.ask_for.result (Bytes c.in-Ok-read.count) (grind (arith, common_steps)) c.loop-count.invariant.within c.ask_for.ensures.some c.ask_for.ensures.fits c.ask_for.ensures.within (omega (arith, c.in-Ok-read.ensures.bound.0, asked)))
    (λ h. absurd (writing-reads_not _ _ _ c.in_err-report_waiting.ensures.status h)) (λ h. absurd h))

pub returns-in_err-report_waiting-clause-no_file : goal.returns-in_err-report_waiting-clause-no_file
returns-in_err-report_waiting-clause-no_file g c =
    let p = err_from_is_err_and c.from_residual.result c.from_residual.ensures.1 in
    rw (p.1, p.2) (writing-no_file _ _ _ c.in_err-report_waiting.ensures.status)

pub returns-in_err-report_waiting-clause-puts : goal.returns-in_err-report_waiting-clause-puts
returns-in_err-report_waiting-clause-puts g c = NoEmptyPut-trans _ _ _ c.loop-count.invariant.puts c.in_err-report_waiting.ensures.puts

pub returns-clause-asked : goal.returns-clause-asked
returns-clause-asked g c =
    let none : c.in-Ok-read.count ≡ 0 = omega (arith, c.if-count-eq0.true) in
    let asked : length c.read.new.buf ≡ c.ask_for.result = grind (arith, common_steps) in
    source-last c.args.limits.now.input_bytes c.loop-count.given _ (Bytes c.in-Ok-read.count) _ _ _ _ _ _ c.loop-count.invariant.asked c.in-Ok-read.ensures.asked
    (asks-well c.args.limits.now.input_bytes c.loop-count.given _ c.ask_for.result (Bytes c.in-Ok-read.count) (grind (arith, common_steps)) c.loop-count.invariant.within c.ask_for.ensures.some c.ask_for.ensures.fits c.ask_for.ensures.within (omega (arith, c.in-Ok-read.ensures.bound.0, asked)))
    (λ h. absurd (written-reads_not c.report_end.result _ _ c.report_end.ensures.status h)) (λ h. ap Bytes none)

pub returns-clause-no_file : goal.returns-clause-no_file
returns-clause-no_file g c = written-no_file c.report_end.result _ _ c.report_end.ensures.status

pub returns-clause-puts : goal.returns-clause-puts
returns-clause-puts g c = NoEmptyPut-trans _ _ _ c.loop-count.invariant.puts c.report_end.ensures.puts

-- ---- what was spent

pub returns-clause-steps : goal.returns-clause-steps
returns-clause-steps g c =
    let zero : c.in-Ok-read.count ≡ 0 = omega (arith, c.if-count-eq0.true) in
    on_ok_weaker c.report_end.result
    (λ spent. followed-all c.args.limits.now.line_bytes c.loop-count.given _ _ _ _ (watched c.args.session.now) (watched c.loop-count.session) c.loop-count.lines c.loop-count.invariant.followed.followed
    c.args.session.now.registry.trees c.loop-count.session.registry.trees c.loop-count.invariant.trees c.args.steps.now c.loop-count.steps c.report_end.new.steps c.loop-count.invariant.followed.spent
    _ (one_line c.last.result) (Consumes-none _ _ _ _ zero c.in-Ok-read.ensures.bytes.0) (c.in-Ok-read.ensures.bytes.1 zero (grind (arith, common_steps))) c.last.ensures.lines spent)
    c.report_end.ensures.steps
