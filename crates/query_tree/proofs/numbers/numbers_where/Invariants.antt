use Rattle.std.proofs.Common.{◌≡◌, ◌<◌, ℕ, Bool, filter}
use Rattle.std.specs.List.{range_with_len}
use Rattle.query_tree.proofs.numbers.numbers_where.Given as goal

-- the numbers so far
abbrev pub invariant-loop-i : goal.invariant-loop-i
invariant-loop-i g l =
    (test : ℕ → Bool) → ((k : ℕ) (b : Bool) → k < l.count → goal.P-post g l.passes k b → b ≡ test k) → l.numbers.items ≡ filter test (range_with_len 0 l.i)
