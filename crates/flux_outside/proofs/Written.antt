-- How far a piece was written, call by call.
use Rattle.std.proofs.Common.{◌≡◌, ℕ, List, [], ◌++◌, refl, sym, ap, ◌∙◌, subst, append_assoc, append-nil, take, drop, take-append-drop}
use Rattle.std.specs.Prelude.{Option}
use Rattle.std.specs.Io.KnownBytes.{Keeps, Appends}
use Rattle.std.proofs.KnownBytes.{Appends-nil, Appends-trans, Appends-kept}
use Rattle.flux_outside.specs.Told.{AppendsFront}

-- the known bytes grew by the part of the piece that stands before the rest
pub record Written (old new : Option (List ℕ)) (piece rest : List ℕ) : Type 0 where
  pub part : List ℕ
  pub split : piece ≡ part ++ rest
  pub appends : Appends old new part

-- nothing is written yet
pub Written-start : (a : Option (List ℕ)) (piece : List ℕ) → Written a a piece piece
Written-start a piece = record { part = []; split = refl; appends = Appends-nil a }

-- one write more
pub Written-more : (a b c : Option (List ℕ)) (piece rest next : List ℕ) (n : ℕ) → Written a b piece rest → Appends b c (take n rest)
    → next ≡ drop n rest → Written a c piece next
Written-more a b c piece rest next n w p left = record {
  part = w.part ++ take n rest;
  split = w.split ∙ ap (λ l. w.part ++ l) (sym (take-append-drop n rest) ∙ ap (λ l. take n rest ++ l) (sym left))
      ∙ sym (append_assoc w.part (take n rest) next);
  appends = Appends-trans a b c w.part (take n rest) w.appends p;
}

-- what was written when a write fails
pub Written-front : (a b c : Option (List ℕ)) (piece rest : List ℕ) → Written a b piece rest → Keeps b c → AppendsFront a c piece
Written-front a b c piece rest w k = (w.part, rest, w.split, Appends-kept a b c w.part w.appends k)

-- all is written where nothing is left
pub Written-whole : (a b : Option (List ℕ)) (piece rest : List ℕ) → Written a b piece rest → rest ≡ [] → Appends a b piece
Written-whole a b piece rest w none =
    subst (Appends a b) (sym (w.split ∙ ap (λ l. w.part ++ l) none ∙ append-nil w.part)) w.appends
