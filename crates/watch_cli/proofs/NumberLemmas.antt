-- The number of a demonstration, as it is parsed.
use Rattle.std.proofs.Common.{◌≡◌, ℕ, ◌+◌, ◌-◌, ◌*◌, ◌≤◌, Bool, true, false, cond, List, length, fold, None, Some, Result, Ok, Err, refl, ap, arith}
use Rattle.std.proofs.lemmas.Bool.Decides.{nat_tests}
use Rattle.std.specs.List.{list_all}
use Rattle.std.specs.Result.{OkIff, result_ok}
use Rattle.std.specs.Str.Parse.{ParsesUnsigned}
use Rattle.std.proofs.lemmas.Str.Parse.{IsNumeralModel, IsDigitsTest, numerals_by_fold, parse_digits}
use Rattle.flux_model.specs.Reading.{is_digit, digits_value}
use Rattle.flux_model.specs.Demo.{is_demo_number}

-- the words of digits, and their values
abbrev AreDigits : List ℕ → Type 0
AreDigits ds = list_all is_digit ds ≡ true

tells_our_digits : IsDigitsTest AreDigits
tells_our_digits = record {
  empty = refl;
  parts = λ c cs e. grind (arith, nat_tests);
  more = λ c cs k e. grind (arith, nat_tests);
}

our_numerals : IsNumeralModel AreDigits digits_value
our_numerals = numerals_by_fold AreDigits tells_our_digits (fold (λ n c. 10 * n + (c - 48))) (record {
  empty = λ n. refl;
  more = λ n c cs k. ap (λ m. fold (λ n c. 10 * n + (c - 48)) m cs) (omega arith);
})

-- what a short word of digits is parsed as
pub parsed_number : {E : Type 0} (word : List ℕ) (r : Result ℕ E) → ParsesUnsigned 64 10 word r → length word ≤ 20 → list_all is_digit word ≡ true
    → OkIff r (is_demo_number word ≡ true) (digits_value word)
parsed_number {E} word (Ok x) h few digits = let p = parse_digits our_numerals {E = E} 64 word (Ok x) h digits in (grind (arith, nat_tests, p.0.0, p.0.1), p.1)
parsed_number {E} word (Err e) h few digits = let p = parse_digits our_numerals {E = E} 64 word (Err e) h digits in λ is. p (grind (arith, nat_tests))

-- so it is the number of a demonstration, or none
pub shown_number : {E : Type 0} (word : List ℕ) (r : Result ℕ E) → ParsesUnsigned 64 10 word r → length word ≤ 20 → list_all is_digit word ≡ true
    → result_ok r ≡ cond (is_demo_number word) (Some (digits_value word)) None
shown_number {E} word (Ok x) h few digits = let p = parsed_number {E = E} word (Ok x) h few digits in rw (p.0, p.1) refl
shown_number {E} word (Err e) h few digits = by (is_demo_number word) (parsed_number {E = E} word (Err e) h few digits)
  where
    by : (b : Bool) → (b ≡ true → ⊥) → None ≡ cond b (Some (digits_value word)) None
    by true never = absurd (never refl)
    by false never = refl
