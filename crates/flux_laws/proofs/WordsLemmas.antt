-- How a line falls into words, byte by byte, and how a number is read.
use Rattle.std.proofs.Common.{◌≡◌, ℕ, zero, suc, ◌+◌, ◌-◌, ◌*◌, ◌<◌, ◌^◌, ◌/◌, ◌%◌, ◌==◌, Bool, true, false, not, ◌||◌, nat_le, nat_lt, cond, List, [], ◌∷◌, ◌++◌, length, refl, sym, ap, ◌∙◌, arith}
use Rattle.std.specs.List.{list_any, list_all, join_with_byte, fold}
use Rattle.std.specs.Fmt.{decimal, digits, digits_onto, digit_glyph}
use Rattle.std.specs.Str.Parse.{AllDigits}
use Rattle.std.proofs.lemmas.Bool.Decides.{nat_tests}
use Rattle.std.proofs.lemmas.Fmt.{decimal_is_IsNumeral_wide, length-decimal-le_wide}
use Rattle.std.proofs.lemmas.Str.Parse.{numerals_by_fold, tells_digits, FoldsDigits}
use Rattle.std.proofs.Math.Nat.{mod-lt}
use Rattle.flux_model.specs.Reading.{Words, is_blank, split_words, words_of, with_word, is_digit, digits_value}
use Rattle.flux_laws.specs.WordsLaws.{is_word, NoBlankInWords, WordIsRead, WordsInParts, WordsAreReadBack, DecimalIsDigits, DecimalIsReadBack, IdIsANumber}
use Rattle.flux_laws.proofs.TestLemmas.{both}

-- ---- one byte more

split-blank : (c : ℕ) (cs : List ℕ) → is_blank c ≡ true → split_words (c ∷ cs) ≡ record { first = []; others = words_of cs }
split-blank c cs e = rw e refl

split-other : (c : ℕ) (cs : List ℕ) → is_blank c ≡ false → split_words (c ∷ cs) ≡ record { first = c ∷ (split_words cs).first; others = (split_words cs).others }
split-other c cs e = rw e refl

-- ---- words have no blank

abbrev has_no_blank : List ℕ → Bool
has_no_blank bytes = not (list_any is_blank bytes)

positive : (n : ℕ) → nat_lt 0 (suc n) ≡ true
positive n = grind (arith, nat_tests)

with_word-words : (word : List ℕ) (words : List (List ℕ)) → has_no_blank word ≡ true → list_all is_word words ≡ true → list_all is_word (with_word word words) ≡ true
with_word-words [] words h a = a
with_word-words (c ∷ cs) words h a = rw (positive (length cs), h) a

split-words : (bytes : List ℕ) → (has_no_blank (split_words bytes).first ≡ true) × (list_all is_word (split_words bytes).others ≡ true)
split-words [] = (refl, refl)
split-words (c ∷ cs) = by (is_blank c) refl (split-words cs)
  where
    by : (b : Bool) → is_blank c ≡ b → (has_no_blank (split_words cs).first ≡ true) × (list_all is_word (split_words cs).others ≡ true)
        → (has_no_blank (split_words (c ∷ cs)).first ≡ true) × (list_all is_word (split_words (c ∷ cs)).others ≡ true)
    by true e ih = rw (split-blank c cs e) (refl, with_word-words (split_words cs).first (split_words cs).others ih.0 ih.1)
    by false e ih = rw (split-other c cs e) (rw e ih.0, ih.1)

-- no word has a blank
pub no_blank : NoBlankInWords
no_blank bytes = let h = split-words bytes in with_word-words (split_words bytes).first (split_words bytes).others h.0 h.1

-- ---- words are read

split-word : (word : List ℕ) → has_no_blank word ≡ true → split_words word ≡ record { first = word; others = [] }
split-word [] h = refl
split-word (c ∷ cs) h = by (is_blank c) refl h (split-word cs)
  where
    by : (b : Bool) → is_blank c ≡ b → not (b || list_any is_blank cs) ≡ true → (has_no_blank cs ≡ true → split_words cs ≡ record { first = cs; others = [] })
        → split_words (c ∷ cs) ≡ record { first = c ∷ cs; others = [] }
    by true e k ih = cc
    by false e k ih = split-other c cs e ∙ ap (λ (w : Words). record { first = c ∷ w.first; others = w.others }) (ih k)

-- a word is read
pub word_read : WordIsRead
word_read [] h = cc
word_read (c ∷ cs) h = ap (λ (w : Words). with_word w.first w.others) (split-word (c ∷ cs) (both (nat_lt 0 (suc (length cs))) (has_no_blank (c ∷ cs)) h).1)

with_word-append : (word : List ℕ) (words more : List (List ℕ)) → with_word word (words ++ more) ≡ with_word word words ++ more
with_word-append [] words more = refl
with_word-append (c ∷ cs) words more = refl

-- with further words
abbrev followed : List (List ℕ) → Words → Words
followed more w = record { first = w.first; others = w.others ++ more }

split-append : (before after : List ℕ) (blank : ℕ) → is_blank blank ≡ true
    → split_words (before ++ blank ∷ after) ≡ followed (words_of after) (split_words before)
split-append [] after blank e = split-blank blank after e
split-append (c ∷ cs) after blank e = by (is_blank c) refl (split-append cs after blank e)
  where
    by : (b : Bool) → is_blank c ≡ b → split_words (cs ++ blank ∷ after) ≡ followed (words_of after) (split_words cs)
        → split_words (c ∷ cs ++ blank ∷ after) ≡ followed (words_of after) (split_words (c ∷ cs))
    by true q ih =
        split-blank c (cs ++ blank ∷ after) q
        ∙ ap (λ (w : Words). record { first = []; others = with_word w.first w.others }) ih
        ∙ ap (λ (ws : List (List ℕ)). record { first = []; others = ws }) (with_word-append (split_words cs).first (split_words cs).others (words_of after))
        ∙ ap (followed (words_of after)) (sym (split-blank c cs q))
    by false q ih =
        split-other c (cs ++ blank ∷ after) q
        ∙ ap (λ (w : Words). record { first = c ∷ w.first; others = w.others }) ih
        ∙ ap (followed (words_of after)) (sym (split-other c cs q))

-- the words of a text in two parts
pub in_parts : WordsInParts
in_parts before after blank e =
    ap (λ (w : Words). with_word w.first w.others) (split-append before after blank e)
    ∙ with_word-append (split_words before).first (split_words before).others (words_of after)

-- words are read back
pub read_back : WordsAreReadBack
read_back [] h = refl
read_back (w ∷ []) h = word_read w (both (is_word w) true h).0
read_back (w ∷ v ∷ ws) h =
    let here = both (is_word w) (list_all is_word (v ∷ ws)) h in
    in_parts w (join_with_byte 32 (v ∷ ws)) 32 refl
    ∙ ap (λ l. l ++ words_of (join_with_byte 32 (v ∷ ws))) (word_read w here.0)
    ∙ ap (λ l. w ∷ l) (read_back (v ∷ ws) here.1)

-- ---- numbers

glyph_is_digit : (d : ℕ) → d < 10 → is_digit (digit_glyph false d) ≡ true
glyph_is_digit d small = grind (arith, nat_tests)

onto-digits : (k n : ℕ) (acc : List ℕ) → list_all is_digit acc ≡ true → list_all is_digit (digits_onto k 10 false n acc) ≡ true
onto-digits zero n acc h = h
onto-digits (suc k) n acc h =
    let ten : 0 < 10 = omega arith in
    let more : list_all is_digit (digit_glyph false (n % 10) ∷ acc) ≡ true = rw (glyph_is_digit (n % 10) (mod-lt n ten)) h in
    either (n / 10 == 0) (digit_glyph false (n % 10) ∷ acc) (digits_onto k 10 false (n / 10) (digit_glyph false (n % 10) ∷ acc)) more
    (onto-digits k (n / 10) (digit_glyph false (n % 10) ∷ acc) more)
  where
    either : (b : Bool) (xs ys : List ℕ) → list_all is_digit xs ≡ true → list_all is_digit ys ≡ true → list_all is_digit (cond b xs ys) ≡ true
    either true xs ys p q = p
    either false xs ys p q = q

-- a decimal is digits
pub decimal_digits : DecimalIsDigits
unfolding digits
decimal_digits n = onto-digits 64 n [] refl

-- digits, read after the number so far
abbrev value_after : ℕ → List ℕ → ℕ
value_after n ds = fold (λ m c. 10 * m + (c - 48)) n ds

folds : FoldsDigits value_after
folds = record {
  empty = λ n. refl;
  more = λ n c cs range. ap (λ m. value_after m cs) (omega arith);
}

-- a decimal is read back
pub decimal_read_back : DecimalIsReadBack
decimal_read_back n small =
    let numeral = decimal_is_IsNumeral_wide n small in
    (numerals_by_fold (AllDigits 10) tells_digits value_after folds).same (decimal n) numeral.0.1 ∙ numeral.1

-- an id is a number
pub id_number : IdIsANumber
id_number id small =
    let wide : id < 10 ^ 64 = omega arith in
    let some : nat_le 1 (length (decimal id)) ≡ true = let l = (decimal_is_IsNumeral_wide id wide).0.0 in grind (arith, nat_tests) in
    let few : nat_le (length (decimal id)) 10 ≡ true =
    let l = length-decimal-le_wide 10 id (omega arith) (omega arith) wide in grind (arith, nat_tests) in
    let value : nat_lt (digits_value (decimal id)) 4294967296 ≡ true = rw (decimal_read_back id wide) (grind (arith, nat_tests)) in
    rw (some, few, decimal_digits id) value
