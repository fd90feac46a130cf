use Rattle.std.proofs.Common.{◌≡◌, ℕ, ◌+◌, ◌<◌, ◌≤◌, false, length, slice_index, slice_index_or}
use Rattle.label_cards.specs.Counted.{vertex_adds}
use Rattle.label_cards.specs.Plans.{fits_set}
use Rattle.label_cards.proofs.pass.count_vertex.Given as goal

-- the sets before c are done, and the counts of the others have not grown yet
abbrev pub invariant-loop-c : goal.invariant-loop-c
invariant-loop-c g l =
    let graph = g.G.HoldGraph.graph l.graph in
    record {
      fitted : (j : ℕ) → j < l.c → slice_index_or l.fitted j false ≡ fits_set l.sets graph j l.v;
      grown : (j : ℕ) → j < l.c → slice_index l.counts j ≡ slice_index l.fn.counts j + vertex_adds graph l.sets l.v j;
      rest : (j : ℕ) → l.c ≤ j → j < length l.counts → slice_index l.counts j ≡ slice_index l.fn.counts j;
    }
