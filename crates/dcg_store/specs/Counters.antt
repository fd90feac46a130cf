-- The counters of one pair: what state they tell, and how each move changes them.
use Rattle.std.specs.Prelude.{ℕ, ◌+◌, ◌-◌, ◌==◌, nat_lt, Bool, false, replicate, slice_index, slice_set, Option, None, Some, if◌then◌else◌}
use Rattle.std.specs.List.{list_all}
use Rattle.flux_model.specs.declared.state.State.{State}
use Rattle.flux_model.specs.declared.state.State.TheVariants.{Null, Implicit, Explicit}
use Rattle.flux_model.specs.Exact.{Row}

-- each child has a joint that leads on to an explicit pair
abbrev pub is_full : Row → Bool
is_full row = list_all (nat_lt 0) row.outs

-- the state that a pair's row tells, if it has one
abbrev pub state_of_row : Option Row → State
state_of_row None = Null
state_of_row (Some row) = if is_full row then Explicit else Implicit

-- the state of an edge between a pair of the first state and a pair of the second
abbrev pub state_below : State → State → State
state_below Null below = Null
state_below Implicit below = below
state_below Explicit below = below

-- one joint leads in, and none leads on to any of so many children
abbrev pub first_row : ℕ → Row
first_row width = record { ins = 1; outs = replicate width 0 }

abbrev pub more_ins : Row → Row
more_ins row = record row { ins = row.ins + 1 }

abbrev pub fewer_ins : Row → Row
fewer_ins row = record row { ins = row.ins - 1 }

-- one joint more leads on to the child of number j
abbrev pub more_outs : ℕ → Row → Row
more_outs j row = record row { outs = slice_set row.outs j (slice_index row.outs j + 1) }

abbrev pub fewer_outs : ℕ → Row → Row
fewer_outs j row = record row { outs = slice_set row.outs j (slice_index row.outs j - 1) }

-- whether one joint leads in, and no other
abbrev pub has_last_in : Option Row → Bool
has_last_in None = false
has_last_in (Some row) = row.ins == 1
