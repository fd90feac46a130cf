-- A text that grows by the front of another: what stands where writing stopped.
use Rattle.std.specs.Prelude.{◌≡◌, ℕ, List, ◌++◌}

-- new is old, followed by a front part of the text, which may be nothing or all of it
pub record GrewByFront (old new text : List ℕ) : Type 0 where
  pub part : List ℕ
  pub left : List ℕ
  pub text_is : text ≡ part ++ left
  pub new_is : new ≡ old ++ part
