-- What is counted along a branch.
use Rattle.std.specs.Prelude.{◌≡◌, ◌<◌, ◌+◌, ◌-◌, ◌^◌, ℕ, ◌==◌, List, count_by, if◌then◌else◌}
use Rattle.std.specs.Option.{is_some, option_map}
use Rattle.std.specs.List.{sum_by}
use Rattle.flux_model.specs.Exact.{StateRows, row_at}
use Rattle.flux_model.specs.Graph.{Graph}
use Rattle.graph_rows.specs.Branches.{ends, joins_to}
use Rattle.graph_rows.specs.declared.branch.Branch.{Branch}
use Rattle.dcg_transition.specs.Filled.{ins_at, opens, with_more_outs}

-- how many joints v has to w, where the parent's pair with v has a row
abbrev pub joins_from : StateRows → Branch → Graph → ℕ → ℕ → ℕ
joins_from d b g w v = if is_some (row_at d b.link.parent v) then joins_to b g v w else 0

-- no in counter of the child comes to its bound by the joints that v has
abbrev pub HasRoomToJoin : StateRows → Branch → Graph → ℕ → Type 0
HasRoomToJoin d b g v = (w : ℕ) → ins_at d b.child w + joins_to b g v w < 2 ^ 32 - 1

-- how many joints v has to explicit pairs of the child
abbrev pub opens_from : StateRows → Branch → Graph → ℕ → ℕ
opens_from d b g v = count_by (opens d b.child) (ends b g v)

-- how many joints v has to explicit pairs of the child, once for each time that v is in the list
abbrev pub opens_among : StateRows → Branch → Graph → List ℕ → ℕ → ℕ
opens_among d b g vs v = sum_by (λ w. if w == v then opens_from d b g w else 0) vs

-- the counters for the child have grown by the joints from the vertices of the list
pub record IsTallied (b : Branch) (g : Graph) (vs : List ℕ) (old new : StateRows) : Type 0 where
  pub whole : new.is_broken ≡ old.is_broken
  pub children : new.children ≡ old.children
  pub rows : (u v : ℕ) → row_at new u v
      ≡ (if u == b.link.parent then option_map (with_more_outs b.number (opens_among old b g vs v)) (row_at old b.link.parent v) else row_at old u v)
