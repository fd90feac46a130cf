use Rattle.std.proofs.Common.{◌∙◌}
use Rattle.flux_demo.proofs.TallyLemmas.{gained-here, lost-here, gained-on, lost-on}
use Rattle.flux_demo.proofs.tally.counts_at.Goals as goal

pub returns-then-delta-k-clause-gained : goal.returns-then-delta-k-clause-gained
returns-then-delta-k-clause-gained c =
    c.len.ensures ∙ gained-here c.args.k c.args.deltas.now c.loop-i.i c.get-delta.result.now c.get-delta.ensures c.if-delta-k.true c.loop-i.invariant.gained

pub returns-then-delta-k-clause-lost : goal.returns-then-delta-k-clause-lost
returns-then-delta-k-clause-lost c =
    c.len-then-delta-k.ensures ∙ lost-here c.args.k c.args.deltas.now c.loop-i.i c.get-delta.result.now c.get-delta.ensures c.if-delta-k.true c.loop-i.invariant.lost

pub loop-i-preserved : goal.loop-i-preserved
loop-i-preserved c = record {
  gained = gained-on c.args.k c.args.deltas.now c.loop-i.i c.get-delta.result.now c.get-delta.ensures c.if-delta-k.false c.loop-i.invariant.gained;
  lost = lost-on c.args.k c.args.deltas.now c.loop-i.i c.get-delta.result.now c.get-delta.ensures c.if-delta-k.false c.loop-i.invariant.lost;
}
