use Rattle.std.proofs.Common.{◌≡◌, ℕ, ◌+◌, ◌-◌, length}
use Rattle.label_cards.specs.Plans.{row_at}
use Rattle.label_cards.proofs.plan.put_in_row.Given as goal

-- the rows so far have only grown in number
abbrev pub invariant-loop-alloc : goal.invariant-loop-alloc
invariant-loop-alloc l = (n : ℕ) → row_at l.rows.items n ≡ row_at l.fn.rows.items n

abbrev pub decreases-loop-alloc : goal.decreases-loop-alloc
decreases-loop-alloc l = l.number + 1 - length l.rows.items
