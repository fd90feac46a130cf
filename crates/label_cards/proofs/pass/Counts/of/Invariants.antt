use Rattle.std.proofs.Common.{◌≡◌, ℕ, ◌+◌, ◌*◌, ◌<◌, ◌≤◌, length, take, slice_index}
use Rattle.std.specs.Prelude.{count_by}
use Rattle.std.specs.List.{sum_by}
use Rattle.graph_rows.proofs.RowSumLemmas.{rows_length}
use Rattle.graph_rows.specs.declared.direction.Direction.TheVariants.{Out}
use Rattle.label_cards.specs.Counted.{row_adds}
use Rattle.label_cards.specs.Plans.{fits_set}
use Rattle.label_cards.proofs.pass.Counts.of.Given as goal

-- the vertices that are listed before place i are counted, and the triples that begin at them
abbrev pub invariant-loop-i : goal.invariant-loop-i
invariant-loop-i g l =
    let graph = g.G.HoldGraph.graph l.graph in
    let done = take l.i (g.G.HoldGraph.listed l.graph) in
    record {
      tests_size : length l.tests.items ≡ length l.plan.tests.items;
      sets_size : length l.sets.items ≡ length l.plan.sets.items;
      fitted_size : length l.fitted.items ≡ length l.plan.sets.items;
      tests : (p : ℕ) → p < length l.plan.tests.items → slice_index l.tests.items p ≡ sum_by (λ v. row_adds (g.G.HoldGraph.label_text l.graph) graph l.plan v p) done;
      sets : (c : ℕ) → c < length l.plan.sets.items → slice_index l.sets.items c ≡ count_by (fits_set l.plan.sets.items graph c) done;
      steps : l.steps ≤ l.fn.steps + 3 * l.i + rows_length Out graph done * (1 + length l.plan.tests.items);
    }
