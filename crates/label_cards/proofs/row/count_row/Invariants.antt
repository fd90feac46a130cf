use Rattle.std.proofs.Common.{◌≡◌, ℕ, ◌+◌, ◌*◌, ◌<◌, ◌≤◌, Bool, length, slice_index}
use Rattle.std.specs.Prelude.{count_by}
use Rattle.flux_model.specs.declared.graph.Triple.{Triple}
use Rattle.label_cards.specs.Plans.{passes_at}
use Rattle.label_cards.proofs.row.count_row.Given as goal

-- each count, with what is to come, is that of the whole row; there is room for what is to come, and it is paid for
abbrev pub invariant-loop-turn : goal.invariant-loop-turn
invariant-loop-turn g l =
    let row = g.G.HoldGraph.outs_from l.graph l.v in
    let first = l.initial.at in
    let passing : ℕ → Triple → Bool = passes_at (g.G.HoldGraph.label_text l.graph) (g.G.HoldGraph.graph l.graph) l.plan in
    record {
      place : g.G.HoldGraph.is_out_place l.graph l.v l.at;
      counted : (p : ℕ) → p < length l.counts → slice_index l.counts p + count_by (passing p) (row l.at) ≡ slice_index l.fn.counts p + count_by (passing p) (row first);
      room : (p : ℕ) → p < length l.counts → slice_index l.counts p + length (row l.at) ≤ slice_index l.fn.counts p + length (row first);
      steps : l.steps + length (row l.at) * (1 + length l.plan.tests.items) ≤ l.fn.steps + length (row first) * (1 + length l.plan.tests.items);
    }

abbrev pub decreases-loop-turn : goal.decreases-loop-turn
decreases-loop-turn g l = length (g.G.HoldGraph.outs_from l.graph l.v l.at)
