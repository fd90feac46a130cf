-- Counts of faults, and when a call on an object of the outside may answer a fault.
use Rattle.std.specs.Prelude.{◌≡◌, ℕ, ◌+◌, ◌-◌, ◌^◌, ◌≤◌, min, Result, OnOk, OnErr}

-- One more than the count, which stays at the greatest u64.
abbrev pub next_count : ℕ → ℕ
next_count count = min (count + 1) (2 ^ 64 - 1)

-- The count rose from before to now, or stands at the greatest u64. A caller that was told of a
-- fault learns from this that one was counted.
abbrev pub Rose : ℕ → ℕ → Type 0
Rose before now = min (before + 1) (2 ^ 64 - 1) ≤ now

-- What a call does to the count of faults: it never lets it fall, raises it where it fails, and
-- leaves it where it succeeds. So no body can answer a fault for nothing.
pub record HasCause {T E : Type 0} (before now : ℕ) (result : Result T E) : Type 0 where
  pub later : before ≤ now
  pub failed : OnErr result (Rose before now)
  pub kept : OnOk result (now ≡ before)
