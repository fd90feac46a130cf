-- How far the updates have been read.
use Rattle.std.specs.Prelude.{◌≡◌, ℕ, List, [], length, Option}
use Rattle.std.specs.Io.KnownBytes.{Appends, Consumes}
use Rattle.flux_model.specs.Lines.{whole, rest}
use Rattle.stream_lines.specs.Waiting.{Waiting}
use Rattle.watch_core.specs.Session.{WatchState, said_by, after_all, next_blocks}

-- after so many bytes of the updates: the block of each whole line of them was put, and what has come of the next waits
pub record Followed (line_bytes given : ℕ) (left0 left1 put0 put1 : Option (List ℕ)) (first now : WatchState)
    (waiting : Waiting) : Type 0 where
  pub bytes : List ℕ
  pub count : length bytes ≡ given
  pub read : Consumes left0 left1 bytes
  pub written : Appends put0 put1 (next_blocks first (said_by (whole line_bytes bytes)))
  pub state : now ≡ after_all first (said_by (whole line_bytes bytes))
  pub limit : waiting.line_bytes ≡ line_bytes
  pub queue : waiting.queue ≡ []
  pub rest : waiting.rest ≡ rest line_bytes bytes
