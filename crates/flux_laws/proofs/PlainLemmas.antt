-- Lines that are read as they were written.
use Rattle.std.proofs.Common.{◌≡◌, ℕ, ◌-◌, ◌==◌, Bool, true, false, not, ◌&&◌, nat_le, List, [], ◌∷◌, ◌++◌, length, map, get_or, take, refl, sym, ap, ◌∙◌, arith, append_assoc, append-nil, length-append}
use Rattle.std.proofs.lemmas.List.{take-append-le, get_or_at, take_all}
use Rattle.std.specs.List.{list_all, flat_map}
use Rattle.flux_model.specs.Lines.{held, line_of, without_return, open_end, last_line, lines}
use Rattle.flux_laws.specs.LinesLaws.{has_no_end, ended_text, is_plain, LinesAreReadBack, ReturnsAreDropped}
use Rattle.flux_laws.proofs.LinesLemmas.{unique}
use Rattle.flux_laws.proofs.TestLemmas.{both}

-- what passes a test passes a weaker one
pub list_all-weaker : {K : Type 0} (p q : K → Bool) → ((x : K) → p x ≡ true → q x ≡ true) → (xs : List K) → list_all p xs ≡ true → list_all q xs ≡ true
list_all-weaker p q f [] a = refl
list_all-weaker p q f (x ∷ xs) a =
    let two = both (p x) (list_all p xs) a in
    rw (f x two.0) (list_all-weaker p q f xs two.1)

not_true : (b : Bool) → not b ≡ true → b ≡ false
not_true true h = cc
not_true false h = refl

lines-cut : (n : ℕ) (ls : List (List ℕ)) → list_all has_no_end ls ≡ true → lines n (ended_text ls) ≡ map (line_of n) ls
lines-cut n ls none =
    let cut = unique ls [] none refl in
    ap (lines n) (sym (append-nil (ended_text ls)))
    ∙ ap (λ l. map (line_of n) l ++ last_line n (open_end (ended_text ls ++ []))) cut.0
    ∙ ap (λ e. map (line_of n) ls ++ last_line n e) cut.1 ∙ append-nil (map (line_of n) ls)

line-plain : (n : ℕ) (line : List ℕ) → is_plain n line ≡ true → line_of n line ≡ held line
line-plain n line h =
    let outer = both (has_no_end line && not (get_or line (length line - 1) 0 == 13)) (nat_le (length line) n) h in
    let inner = both (has_no_end line) (not (get_or line (length line - 1) 0 == 13)) outer.0 in
    let last : (get_or line (length line - 1) 0 == 13) ≡ false = not_true (get_or line (length line - 1) 0 == 13) inner.1 in
    let fits = outer.1 in
    rw (last, fits) refl

all_plain : (n : ℕ) (ls : List (List ℕ)) → list_all (is_plain n) ls ≡ true → map (line_of n) ls ≡ map held ls
all_plain n [] h = refl
all_plain n (line ∷ ls) h =
    let parts = both (is_plain n line) (list_all (is_plain n) ls) h in
    let first = line-plain n line parts.0 in
    let rest = all_plain n ls parts.1 in
    λ i. first i ∷ rest i

-- lines are read back
pub plain_lines : LinesAreReadBack
plain_lines n ls h =
    lines-cut n ls
    (list_all-weaker (is_plain n) has_no_end
    (λ line p. (both (has_no_end line) (not (get_or line (length line - 1) 0 == 13)) (both (has_no_end line && not (get_or line (length line - 1) 0 == 13)) (nat_le (length line) n) p).0).0)
    ls h)
    ∙ all_plain n ls h

-- ---- with a byte 13 at the end

abbrev with_return : List ℕ → List ℕ
with_return line = line ++ 13 ∷ []

no_end-return : (line : List ℕ) → has_no_end line ≡ true → has_no_end (with_return line) ≡ true
no_end-return [] h = refl
no_end-return (x ∷ line) h = by (x == 10) refl h (no_end-return line)
  where
    by : (t : Bool) → (x == 10) ≡ t → has_no_end (x ∷ line) ≡ true → (has_no_end line ≡ true → has_no_end (with_return line) ≡ true) → has_no_end (with_return (x ∷ line)) ≡ true
    by true e k rest = let no_line : false ≡ true = rw e at k in cc
    by false e k rest = rw e (rest (rw e at k))

line-return : (n : ℕ) (line : List ℕ) → nat_le (length line) n ≡ true → line_of n (with_return line) ≡ held line
line-return n line h =
    let place : length (with_return line) - 1 ≡ length line = omega (arith, length-append line (13 ∷ [])) in
    let last : get_or (with_return line) (length (with_return line) - 1) 0 ≡ 13 =
    ap (λ k. get_or (with_return line) k 0) place ∙ get_or_at line 13 [] 0 (length line) refl in
    let is : (get_or (with_return line) (length (with_return line) - 1) 0 == 13) ≡ true = ap (λ c. c == 13) last in
    let front : take (length (with_return line) - 1) (with_return line) ≡ line =
    ap (λ k. take k (with_return line)) place ∙ take-append-le (length line) line (13 ∷ []) (omega arith) ∙ take_all (length line) line (omega arith) in
    let dropped : without_return (with_return line) ≡ line = rw is front in
    rw dropped (rw h refl)

all_returns : (n : ℕ) (ls : List (List ℕ)) → list_all (λ line. has_no_end line && nat_le (length line) n) ls ≡ true
    → (list_all has_no_end (map with_return ls) ≡ true) × (map (line_of n) (map with_return ls) ≡ map held ls)
all_returns n [] h = (refl, refl)
all_returns n (line ∷ ls) h =
    let here = both (has_no_end line && nat_le (length line) n) (list_all (λ line. has_no_end line && nat_le (length line) n) ls) h in
    let line_is = both (has_no_end line) (nat_le (length line) n) here.0 in
    let rest = all_returns n ls here.1 in
    let first = line-return n line line_is.1 in
    let others = rest.1 in
    (rw (no_end-return line line_is.0) rest.0, λ i. first i ∷ others i)

text-returns : (ls : List (List ℕ)) → flat_map (λ line. line ++ 13 ∷ 10 ∷ []) ls ≡ ended_text (map with_return ls)
text-returns [] = refl
text-returns (line ∷ ls) =
    ap (λ l. (line ++ 13 ∷ 10 ∷ []) ++ l) (text-returns ls)
    ∙ ap (λ l. l ++ ended_text (map with_return ls)) (sym (append_assoc line (13 ∷ []) (10 ∷ [])))

-- a byte 13 at a line's end is dropped
pub returns_dropped : ReturnsAreDropped
returns_dropped n ls h = let all = all_returns n ls h in ap (lines n) (text-returns ls) ∙ lines-cut n (map with_return ls) all.0 ∙ all.1
