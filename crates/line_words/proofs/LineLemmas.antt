-- Lines, as a first word and the words after it.
use Rattle.std.proofs.Common.{◌≡◌, ℕ, List, [], ◌∷◌, ◌++◌, refl, sym, ap, ◌∙◌, append_assoc}
use Rattle.std.specs.List.{flat_map}
use Rattle.flux_model.specs.GraphText.{text_line}
use Rattle.line_words.specs.Words.{spaced, rest_of_line}

-- a line is its first word and the rest
pub text_line-cons : (first : List ℕ) (words : List (List ℕ)) → text_line (first ∷ words) ≡ first ++ rest_of_line words
text_line-cons first [] = refl
text_line-cons first (w ∷ ws) = append_assoc first _ (10 ∷ []) ∙ ap (λ t. first ++ (32 ∷ t)) (text_line-cons w ws)

-- a line that begins with a sign and a number
pub text_line-start : (sign number : List ℕ) (words : List (List ℕ)) → text_line (sign ∷ number ∷ words) ≡ (sign ++ spaced number) ++ rest_of_line words
text_line-start sign number words = text_line-cons sign (number ∷ words) ∙ sym (append_assoc sign (spaced number) (rest_of_line words))

-- the words of a list that is not known, and then the line's end
pub rest_of_line-each : (words : List (List ℕ)) → rest_of_line words ≡ flat_map spaced words ++ 10 ∷ []
rest_of_line-each [] = refl
rest_of_line-each (w ∷ ws) =
    ap (λ t. spaced w ++ t) (rest_of_line-each ws)
    ∙ sym (append_assoc (spaced w) (flat_map spaced ws) (10 ∷ []))
