-- What is counted of the lines of the updates.
use Rattle.std.specs.Prelude.{◌≡◌, ◌≤◌, ◌<◌, ◌+◌, ◌*◌, ◌^◌, ◌==◌, ℕ, List, [], ◌∷◌, length, replicate, slice_index, if◌then◌else◌}
use Rattle.flux_model.specs.declared.maps.Delta.{Delta}
use Rattle.watch_core.specs.declared.taken.Taken.{Taken}
use Rattle.watch_core.specs.declared.taken.Taken.TheVariants as taken

-- how many lines there were, how many changed the graph, how many were refused, and how many maps each pattern gained and lost
pub record TallyState : Type 0 where
  pub lines : ℕ
  pub accepted : ℕ
  pub refused : ℕ
  pub gained : List ℕ
  pub lost : List ℕ

abbrev pub tally_state : ℕ → ℕ → ℕ → List ℕ → List ℕ → TallyState
tally_state lines accepted refused gained lost =
    record { lines = lines; accepted = accepted; refused = refused; gained = gained; lost = lost }

-- before the first line, for n patterns
abbrev pub no_tally : ℕ → TallyState
no_tally n = record { lines = 0; accepted = 0; refused = 0; gained = replicate n 0; lost = replicate n 0 }

-- a line counts once, and adds less than 2 ^ 64 to a count of maps
pub record IsTally (t : TallyState) : Type 0 where
  pub accepted : t.accepted ≤ t.lines
  pub refused : t.refused ≤ t.lines
  pub size : length t.gained ≡ length t.lost
  pub gained : (k : ℕ) → k < length t.gained → slice_index t.gained k ≤ t.lines * 2 ^ 64
  pub lost : (k : ℕ) → k < length t.lost → slice_index t.lost k ≤ t.lines * 2 ^ 64

-- ---- what one line adds

-- how many maps the pattern at place k gained, and how many it lost: a pattern has one delta, or none where it has no map
abbrev pub gained_at : ℕ → List Delta → ℕ
gained_at k [] = 0
gained_at k (d ∷ ds) = if d.pattern == k then length d.gained else gained_at k ds

abbrev pub lost_at : ℕ → List Delta → ℕ
lost_at k [] = 0
lost_at k (d ∷ ds) = if d.pattern == k then length d.lost else lost_at k ds

-- the same by what a line came to
abbrev pub gains : Taken → ℕ → ℕ
gains taken.Ignored k = 0
gains (taken.Refused _) k = 0
gains (taken.Changed deltas) k = gained_at k deltas

abbrev pub losses : Taken → ℕ → ℕ
losses taken.Ignored k = 0
losses (taken.Refused _) k = 0
losses (taken.Changed deltas) k = lost_at k deltas

-- whether it changed the graph, or is refused, as a number
abbrev pub accepted_by : Taken → ℕ
accepted_by taken.Ignored = 0
accepted_by (taken.Refused _) = 0
accepted_by (taken.Changed _) = 1

abbrev pub refused_by : Taken → ℕ
refused_by taken.Ignored = 0
refused_by (taken.Refused _) = 1
refused_by (taken.Changed _) = 0

-- as many counts, each with so much more
pub record GrownBy (more : ℕ → ℕ) (old new : List ℕ) : Type 0 where
  pub size : length new ≡ length old
  pub each : (k : ℕ) → k < length old → slice_index new k ≡ slice_index old k + more k

-- the tally after a line that came to this
pub record IsNext (came_to : Taken) (old new : TallyState) : Type 0 where
  pub lines : new.lines ≡ old.lines + 1
  pub accepted : new.accepted ≡ old.accepted + accepted_by came_to
  pub refused : new.refused ≡ old.refused + refused_by came_to
  pub gained : GrownBy (gains came_to) old.gained new.gained
  pub lost : GrownBy (losses came_to) old.lost new.lost
