use Rattle.std.proofs.Common.{◌≡◌, ℕ, ◌+◌, ◌<◌, ◌≤◌, ◌==◌, ◌&&◌, length, slice_index, take}
use Rattle.std.specs.Prelude.{count_by}
use Rattle.flux_model.specs.declared.graph.Triple.{Triple}
use Rattle.label_cards.specs.Plans.{passes_at}
use Rattle.label_cards.proofs.row.count_turn.Given as goal

-- each count has grown as often as its test stands among the places so far, if the triple passes it; each place took a step at most
abbrev pub invariant-loop-place : goal.invariant-loop-place
invariant-loop-place g l =
    let triple : Triple = record { src = l.v; label = l.turn.label.now; dst = l.turn.other } in
    record {
      counts : (p : ℕ) → p < length l.counts → slice_index l.counts p ≡ slice_index l.fn.counts p
          + count_by (λ x. x == p && passes_at (g.G.HoldGraph.label_text l.graph) (g.G.HoldGraph.graph l.graph) l.plan p triple) (take l.place-index l.places);
      steps : l.steps ≤ l.fn.steps + l.place-index;
    }
