use Rattle.std.proofs.Common.{◌≡◌, ◌<◌, ℕ, Bool, length, filter, slice_index}
use Rattle.std.specs.Prelude.{IfSome}
use Rattle.std.specs.List.{range_with_len}
use Rattle.flux_model.specs.Tree.{least}
use Rattle.query_tree.proofs.numbers.least_by.Given as goal

-- the least of the numbers so far
abbrev pub invariant-loop-i : goal.invariant-loop-i
invariant-loop-i g l = record {
  within : IfSome l.least (λ best. best < length l.keys);
  first : (test : ℕ → Bool) → ((k : ℕ) (b : Bool) → k < length l.keys → goal.P-post g l.passes k b → b ≡ test k) → l.least ≡ least (slice_index l.keys) (filter test (range_with_len 0 l.i));
}
