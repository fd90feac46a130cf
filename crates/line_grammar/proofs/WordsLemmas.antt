-- Where the words of a text begin and end.
use Rattle.std.proofs.Common.{◌≡◌, ℕ, ◌+◌, ◌<◌, ◌≤◌, Bool, true, false, List, [], ◌∷◌, length, take, drop, cond, suc, refl, ap, arith}
use Rattle.std.specs.List.{prefix_len, position_or_len}
use Rattle.flux_model.specs.Reading.{is_blank, split_words, words_of, with_word}

-- blanks before the first word are no part of a word
pub words_of-skip : (bs : List ℕ) → words_of (drop (prefix_len is_blank bs) bs) ≡ words_of bs
words_of-skip [] = refl
words_of-skip (c ∷ cs) = by (is_blank c) refl (words_of-skip cs)
  where
    by : (b : Bool) → is_blank c ≡ b → words_of (drop (prefix_len is_blank cs) cs) ≡ words_of cs
        → words_of (drop (cond b (1 + prefix_len is_blank cs) 0) (c ∷ cs)) ≡ words_of (c ∷ cs)
    by true e ih = let one : 1 + prefix_len is_blank cs ≡ suc (prefix_len is_blank cs) = omega arith in rw (one, e) ih
    by false e ih = refl

-- a text begins with its bytes before the first blank
pub first_is : (bs : List ℕ) → (split_words bs).first ≡ take (position_or_len is_blank bs) bs
first_is [] = refl
first_is (c ∷ cs) = by (is_blank c) refl (first_is cs)
  where
    by : (b : Bool) → is_blank c ≡ b → (split_words cs).first ≡ take (position_or_len is_blank cs) cs
        → (split_words (c ∷ cs)).first ≡ take (position_or_len is_blank (c ∷ cs)) (c ∷ cs)
    by true e ih = rw e refl
    by false e ih = let one : 1 + position_or_len is_blank cs ≡ suc (position_or_len is_blank cs) = omega arith in rw (e, one) (ap (λ (w : List ℕ). c ∷ w) ih)

-- the other words stand after them
pub others_are : (bs : List ℕ) → (split_words bs).others ≡ words_of (drop (position_or_len is_blank bs) bs)
others_are [] = refl
others_are (c ∷ cs) = by (is_blank c) refl (others_are cs)
  where
    by : (b : Bool) → is_blank c ≡ b → (split_words cs).others ≡ words_of (drop (position_or_len is_blank cs) cs)
        → (split_words (c ∷ cs)).others ≡ words_of (drop (position_or_len is_blank (c ∷ cs)) (c ∷ cs))
    by true e ih = rw (e, e) refl
    by false e ih = let one : 1 + position_or_len is_blank cs ≡ suc (position_or_len is_blank cs) = omega arith in rw (e, one) ih

-- a text is empty or begins with a word, where no blank stands before it
pub words_of-begin : (bs : List ℕ) → prefix_len is_blank bs ≡ 0 → 0 < length bs
    → words_of bs ≡ take (position_or_len is_blank bs) bs ∷ words_of (drop (position_or_len is_blank bs) bs)
words_of-begin [] e some = absurd (omega arith)
words_of-begin (c ∷ cs) e some = by (is_blank c) refl e (first_is (c ∷ cs)) (others_are (c ∷ cs))
  where
    by : (b : Bool) → is_blank c ≡ b → cond b (1 + prefix_len is_blank cs) 0 ≡ 0
        → (split_words (c ∷ cs)).first ≡ take (position_or_len is_blank (c ∷ cs)) (c ∷ cs)
        → (split_words (c ∷ cs)).others ≡ words_of (drop (position_or_len is_blank (c ∷ cs)) (c ∷ cs))
        → words_of (c ∷ cs) ≡ take (position_or_len is_blank (c ∷ cs)) (c ∷ cs) ∷ words_of (drop (position_or_len is_blank (c ∷ cs)) (c ∷ cs))
    by true e z f o = absurd (omega arith)
    by false e z f o = rw (← f, ← o) (rw e refl)

-- after the blanks no blank comes first
pub prefix_len-skip : (bs : List ℕ) → prefix_len is_blank (drop (prefix_len is_blank bs) bs) ≡ 0
prefix_len-skip [] = refl
prefix_len-skip (c ∷ cs) = by (is_blank c) refl (prefix_len-skip cs)
  where
    by : (b : Bool) → is_blank c ≡ b → prefix_len is_blank (drop (prefix_len is_blank cs) cs) ≡ 0
        → prefix_len is_blank (drop (cond b (1 + prefix_len is_blank cs) 0) (c ∷ cs)) ≡ 0
    by true e ih = let one : 1 + prefix_len is_blank cs ≡ suc (prefix_len is_blank cs) = omega arith in rw one ih
    by false e ih = rw e refl

length-with_word : (word : List ℕ) (words : List (List ℕ)) → length (with_word word words) ≤ length word + length words
length-with_word [] words = omega arith
length-with_word (c ∷ cs) words = omega arith

length-split_words : (bs : List ℕ) → length (split_words bs).first + length (split_words bs).others ≤ length bs
length-split_words [] = omega arith
length-split_words (c ∷ cs) = by (is_blank c) refl (length-split_words cs) (length-with_word (split_words cs).first (split_words cs).others)
  where
    by : (b : Bool) → is_blank c ≡ b → length (split_words cs).first + length (split_words cs).others ≤ length cs
        → length (with_word (split_words cs).first (split_words cs).others) ≤ length (split_words cs).first + length (split_words cs).others
        → length (split_words (c ∷ cs)).first + length (split_words (c ∷ cs)).others ≤ length (c ∷ cs)
    by true e ih w = rw e (omega arith)
    by false e ih w = rw e (omega arith)

-- there are no more words than bytes
pub length-words_of : (bs : List ℕ) → length (words_of bs) ≤ length bs
length-words_of bs = omega (arith, length-split_words bs, length-with_word (split_words bs).first (split_words bs).others)
