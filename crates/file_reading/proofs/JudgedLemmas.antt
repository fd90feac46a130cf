-- What a file that is there, or not, is judged to be.
use Rattle.std.proofs.Common.{◌≡◌, ℕ, ◌≤◌, ◌<◌, Bool, true, false, cond, ◌&&◌, List, length, take, refl, ap, ◌∙◌, Option, None, Some, Result, Ok, Err, IfSome, MatchOption, nat_lt}
use Rattle.std.specs.Result.{result_map_both, is_ok}
use borrow.Author.Tests.{lt-ltb, le-ltb}
use Rattle.flux_outside.specs.Told.{Files, AnswersFor}
use Rattle.flux_model.specs.FileReading.{result_and_then}
use Rattle.flux_model.specs.Verdict.{Verdict, NoFile, TooMuch, file_as}
use Rattle.flux_model.specs.declared.code.Bad.{Bad}
use Rattle.file_reading.specs.FileContents.{HasFile, FileIs}

-- a file that is there is judged by its bytes
pub judged : {X : Type 0} (files : Option Files) (name : List ℕ) (P : List ℕ → Type 0) (judge : Option (List ℕ) → X) (x : X)
    → ((b : List ℕ) → P b → judge (Some b) ≡ x) → HasFile files name P → FileIs files name judge x
judged None name P judge x f h = tt
judged (Some m) name P judge x f h = by (m name) h
  where
    by : (o : Option (List ℕ)) → MatchOption o ⊥ P → judge o ≡ x
    by None h = absurd h
    by (Some b) h = f b h

module _ {S T : Type 0} (n : ℕ) (front : List ℕ → Result S Bad) (all : List ℕ → Result T Bad) (bad : Bad → Verdict) where
  -- a file within the limit is judged by all its lines
  pub short-file : (b : List ℕ) → length b ≤ n → file_as n front all bad (Some b) ≡ result_map_both (λ x. x) bad (all b)
  short-file b le = rw (le-ltb n (length b) le) refl

  refused-file : (b : List ℕ) (e : Bad) → front (take n b) ≡ Err e → file_as n front all bad (Some b) ≡ result_map_both (λ x. x) bad (all b)
  refused-file b e is = by (nat_lt n (length b)) (front (take n b)) is
    where
      by : (x : Bool) (r : Result S Bad) → r ≡ Err e → cond (x && is_ok r) (Err TooMuch) (result_map_both (λ x. x) bad (all b)) ≡ result_map_both (λ x. x) bad (all b)
      by true (Ok s) is = cc
      by true (Err f) is = refl
      by false r is = refl

  longer-file : (b : List ℕ) (s : S) → n < length b → front (take n b) ≡ Ok s → file_as n front all bad (Some b) ≡ Err TooMuch
  longer-file b s lt is = rw (lt-ltb n (length b) lt, is) refl

  -- a file within the limit
  pub short-judged : (files : Option Files) (name : List ℕ) (r : Result T Bad) → HasFile files name (λ b. (length b ≤ n) × (all b ≡ r))
      → FileIs files name (file_as n front all bad) (result_map_both (λ x. x) bad r)
  short-judged files name r h =
      judged files name (λ b. (length b ≤ n) × (all b ≡ r)) (file_as n front all bad) (result_map_both (λ x. x) bad r)
      (λ b so. short-file b so.0 ∙ ap (result_map_both (λ x. x) bad) so.1) h

  -- a file that is refused among the first bytes
  pub refused-judged : (files : Option Files) (name : List ℕ) (e : Bad) → HasFile files name (λ b. (front (take n b) ≡ Err e) × (all b ≡ Err e))
      → FileIs files name (file_as n front all bad) (Err (bad e))
  refused-judged files name e h =
      judged files name (λ b. (front (take n b) ≡ Err e) × (all b ≡ Err e)) (file_as n front all bad) (Err (bad e))
      (λ b so. refused-file b e so.0 ∙ ap (result_map_both (λ x. x) bad) so.1) h

  -- a file that goes on past the limit
  pub longer-judged : (files : Option Files) (name : List ℕ) (s : S) → HasFile files name (λ b. (n < length b) × (front (take n b) ≡ Ok s))
      → FileIs files name (file_as n front all bad) (Err TooMuch)
  longer-judged files name s h =
      judged files name (λ b. (n < length b) × (front (take n b) ≡ Ok s)) (file_as n front all bad) (Err TooMuch) (λ b so. longer-file b s so.0 so.1) h

  -- a file that is not there
  pub no_file-judged : (files : Option Files) (name buf : List ℕ) (from : ℕ) → IfSome files (λ m. AnswersFor (m name) None from buf)
      → FileIs files name (file_as n front all bad) (Err NoFile)
  no_file-judged None name buf from h = tt
  no_file-judged (Some m) name buf from h = by (m name) h
    where
      by : (o : Option (List ℕ)) → AnswersFor o None from buf → file_as n front all bad o ≡ Err NoFile
      by None h = refl
      by (Some b) h = absurd h

-- ---- what is kept of a file, and what a file is accepted as

module _ {S T K M : Type 0} (n : ℕ) (front : List ℕ → Result S Bad) (all : List ℕ → Result T Bad) (bad : Bad → Verdict) (front2 : List ℕ → Result K Bad) (all2 : List ℕ → Result M Bad) (next : T → Result M Bad) where
  -- the same file, whose whole lines are refused where they were, and of which what it was accepted as comes to something more
  pub file_as-next : ((b : List ℕ) → is_ok (front2 b) ≡ is_ok (front b)) → ((b : List ℕ) → all2 b ≡ result_and_then next (all b)) → (o : Option (List ℕ))
      → file_as n front2 all2 bad o ≡ result_and_then (λ x. result_map_both (λ y. y) bad (next x)) (file_as n front all bad o)
  file_as-next same more None = refl
  file_as-next same more (Some b) =
      ap (λ t. cond (nat_lt n (length b) && t) (Err TooMuch) (result_map_both (λ y. y) bad (all2 b))) (same (take n b))
      ∙ ap (λ r. cond (nat_lt n (length b) && is_ok (front (take n b))) (Err TooMuch) (result_map_both (λ y. y) bad r)) (more b)
      ∙ by (nat_lt n (length b) && is_ok (front (take n b))) (all b)
    where
      by : (t : Bool) (r : Result T Bad) → cond t (Err TooMuch) (result_map_both (λ y. y) bad (result_and_then next r))
          ≡ result_and_then (λ x. result_map_both (λ y. y) bad (next x)) (cond t (Err TooMuch) (result_map_both (λ x. x) bad r))
      by true r = refl
      by false (Ok x) = refl
      by false (Err e) = refl
