-- What callers need of the lines of a stream that grows.
use Rattle.std.proofs.Common.{◌≡◌, ℕ, ◌+◌, ◌≤◌, List, [], ◌∷◌, ◌++◌, length, map, refl, sym, ap, ◌∙◌, append_assoc, length-append, arith}
use Rattle.std.proofs.lemmas.Grind.{common_steps}
use Rattle.std.proofs.lemmas.List.{length-map}
use Rattle.std.proofs.lemmas.Bool.Decides.{nat_tests}
use Rattle.flux_model.specs.Lines.{InputLine, held, line_of, parts, all_but_last, last_part, open_end, whole, rest, last_line, lines}
use Rattle.stream_lines.specs.Waiting.{Waiting}
use Rattle.stream_lines.specs.Follows.{Follows}
use Rattle.stream_lines.proofs.PartsLemmas.{parts-open, parts-behind, parts-room, whole-onto, open_end-onto}

-- nothing has no whole line
pub whole-nil : (n : ℕ) → whole n [] ≡ []
whole-nil n = refl

-- nothing leaves an empty rest
pub rest-nil : (n : ℕ) → rest n [] ≡ held []
rest-nil n = grind (arith, nat_tests, common_steps)

-- the whole lines of a front stand at the front of the whole lines
pub whole-append : (n : ℕ) (b p : List ℕ) → whole n (b ++ p) ≡ whole n b ++ whole n (open_end b ++ p)
whole-append n b p = whole-onto n b p ∙ ap (λ ps. whole n b ++ map (line_of n) (all_but_last ps)) (sym (parts-behind (open_end b) p (parts-open b)))

-- what stands open behind a front is open behind its open end
pub open_end-append : (b p : List ℕ) → open_end (b ++ p) ≡ open_end (open_end b ++ p)
open_end-append b p = open_end-onto b p ∙ ap last_part (sym (parts-behind (open_end b) p (parts-open b)))

-- the whole lines of a front stand at the front of all lines
pub lines-append : (n : ℕ) (b p : List ℕ) → lines n (b ++ p) ≡ whole n b ++ lines n (open_end b ++ p)
lines-append n b p =
    ap (λ l. l ++ last_line n (open_end (b ++ p))) (whole-append n b p) ∙ append_assoc (whole n b) (whole n (open_end b ++ p)) (last_line n (open_end (b ++ p)))
    ∙ ap (λ s. whole n b ++ (whole n (open_end b ++ p) ++ last_line n s)) (open_end-append b p)

-- no lines more than bytes, whole ones
pub length-whole : (n : ℕ) (b : List ℕ) → length (whole n b) ≤ length b
length-whole n b = omega (arith, parts-room b, length-map (all_but_last (parts b)) (line_of n))

length-last_line : (n : ℕ) (s : List ℕ) → (length (last_line n s) ≤ 1) × (length (last_line n s) ≤ length s)
length-last_line n [] = (omega arith, omega arith)
length-last_line n (x ∷ s) = (omega arith, omega arith)

-- no lines more than bytes
pub length-lines : (n : ℕ) (b : List ℕ) → length (lines n b) ≤ length b
length-lines n b =
    let last = length-last_line n (open_end b) in
    omega (arith, parts-room b, length-map (all_but_last (parts b)) (line_of n), length-append (whole n b) (last_line n (open_end b)), last.1)

-- at most one line is not whole
pub length-lines-whole : (n : ℕ) (b : List ℕ) → length (lines n b) ≤ length (whole n b) + 1
length-lines-whole n b =
    let last = length-last_line n (open_end b) in
    omega (arith, length-append (whole n b) (last_line n (open_end b)), last.0)

-- after a piece the rest is that of all bytes so far, as the next piece needs it
pub Follows-rest : (b piece : List ℕ) (old new : Waiting) → Follows b piece old new → new.line_bytes ≡ old.line_bytes → rest new.line_bytes (b ++ piece) ≡ new.rest
Follows-rest b piece old new follows same = ap (λ n. rest n (b ++ piece)) same ∙ sym follows.rest

-- where the lines that are done and those that wait are the whole lines, they are so after a piece
pub Follows-whole : (b piece : List ℕ) (old new : Waiting) (done : List InputLine) → Follows b piece old new → done ++ old.queue ≡ whole old.line_bytes b
    → done ++ new.queue ≡ whole old.line_bytes (b ++ piece)
Follows-whole b piece old new done follows so =
    ap (λ l. done ++ l) follows.queue ∙ sym (append_assoc done old.queue follows.more) ∙ ap (λ l. l ++ follows.more) so ∙ sym follows.lines

-- two pieces, one after the other, are one
pub Follows-trans : (b p q : List ℕ) (old mid new : Waiting) → Follows b p old mid → Follows (b ++ p) q mid new → mid.line_bytes ≡ old.line_bytes → Follows b (p ++ q) old new
Follows-trans b p q old mid new first next same =
    let n = old.line_bytes in
    let all : (b ++ p) ++ q ≡ b ++ (p ++ q) = append_assoc b p q in
    record {
      more = first.more ++ next.more;
      lines = ap (whole n) (sym all) ∙ ap (λ k. whole k ((b ++ p) ++ q)) (sym same) ∙ next.lines ∙ ap (λ k. whole k (b ++ p) ++ next.more) same
          ∙ ap (λ l. l ++ next.more) first.lines ∙ append_assoc (whole n b) first.more next.more;
      queue = next.queue ∙ ap (λ l. l ++ next.more) first.queue ∙ append_assoc old.queue first.more next.more;
      rest = next.rest ∙ ap (λ k. rest k ((b ++ p) ++ q)) same ∙ ap (rest n) all;
    }
