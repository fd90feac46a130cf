-- What holds of words and numbers.
use Rattle.std.specs.Prelude.{◌≡◌, ℕ, ◌<◌, ◌^◌, ◌&&◌, not, nat_lt, Bool, List, [], ◌∷◌, ◌++◌, length, IsTrue}
use Rattle.std.specs.List.{list_any, list_all, join_with_byte}
use Rattle.std.specs.Fmt.{decimal}
use Rattle.flux_model.specs.Reading.{is_blank, words_of, is_digit, digits_value, is_number}

-- whether the bytes are some, and none of them is a space or a tab
abbrev pub is_word : List ℕ → Bool
is_word bytes = nat_lt 0 (length bytes) && not (list_any is_blank bytes)

abbrev pub NoBlankInWords : Type 0
NoBlankInWords = (bytes : List ℕ) → IsTrue (list_all is_word (words_of bytes))

-- a word alone
abbrev pub WordIsRead : Type 0
WordIsRead = (word : List ℕ) → IsTrue (is_word word) → words_of word ≡ word ∷ []

-- a blank parts the words before it and those after it
abbrev pub WordsInParts : Type 0
WordsInParts = (before after : List ℕ) (blank : ℕ) → IsTrue (is_blank blank) → words_of (before ++ blank ∷ after) ≡ words_of before ++ words_of after

-- words with a space between each two
abbrev pub WordsAreReadBack : Type 0
WordsAreReadBack = (words : List (List ℕ)) → IsTrue (list_all is_word words) → words_of (join_with_byte 32 words) ≡ words

abbrev pub DecimalIsDigits : Type 0
DecimalIsDigits = (n : ℕ) → IsTrue (list_all is_digit (decimal n))

-- a text has 64 digits at most
abbrev pub DecimalIsReadBack : Type 0
DecimalIsReadBack = (n : ℕ) → n < 10 ^ 64 → digits_value (decimal n) ≡ n

abbrev pub IdIsANumber : Type 0
IdIsANumber = (id : ℕ) → id < 2 ^ 32 → IsTrue (is_number (decimal id))
