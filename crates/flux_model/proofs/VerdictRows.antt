-- Worked examples: how a run is due to end, computed from the definitions.
use Rattle.std.specs.Prelude.{◌≡◌, ℕ, None, Some, List, [], ◌∷◌, codes, length, if◌then◌else◌, refl}
use Rattle.std.specs.Str.{bytes_eq}
use Rattle.std.specs.Fmt.{digits}
use Rattle.flux_model.specs.Limits.{standard}
use Rattle.flux_model.specs.Verdict.{Done, Usage, NoFile, TooMuch, BadGraph, BadPatterns, Files, Ending, ending_for, Demo, shape_of}
use Rattle.flux_model.specs.declared.code.Code.TheVariants as code
use Rattle.flux_model.specs.declared.limits.Limits.{Limits}

-- two files, under the names g and p
abbrev two_files : List ℕ → List ℕ → Files
two_files g p name = if bytes_eq name (codes "g") then Some g else if bytes_eq name (codes "p") then Some p else None

-- how a run with these words, files g and p and updates ends
abbrev pub ends : Limits → List ℕ → List ℕ → List (List ℕ) → List ℕ → Ending
ends limits g p words s = ending_for limits (two_files g p) (shape_of words) s

abbrev ab : List ℕ
ab = codes "v 1 A\nv 2 B\n"

abbrev ab_pattern : List ℕ
ab_pattern = codes "p ab hom\nv 0 A\nv 1 B\ne 0 1 r\n"

abbrev watch_words : List (List ℕ)
watch_words = codes "watch" ∷ codes "g" ∷ codes "p" ∷ []

abbrev match_words : List (List ℕ)
match_words = codes "match" ∷ codes "g" ∷ codes "p" ∷ []

abbrev short : Limits
short = record standard { input_bytes = 29 }

-- the first 29 bytes of the updates have three whole lines
too_much : ends short ab ab_pattern watch_words (codes "e 1 2 r\n-e 1 2 r\ne 1 2 r\ne 2 1 r\n")
    ≡ record { verdict = TooMuch; text = codes "+ 1 ab 1 2\n- 2 ab 1 2\n+ 3 ab 1 2\n" }
unfolding digits
too_much = refl

-- a last line that the limit cuts off writes nothing, though what is left of it says something
cut_line : ends short ab ab_pattern watch_words (codes "e 1 2 r\n-e 1 2 r\ne 1 2 r     \n")
    ≡ record { verdict = TooMuch; text = codes "+ 1 ab 1 2\n- 2 ab 1 2\n" }
unfolding digits
cut_line = refl

-- as many bytes as the limit are not too many
just_enough : (length (codes "e 1 2 r\n-e 1 2 r\ne 1 2 r\n# .\n") ≡ 29) × (ends short ab ab_pattern watch_words (codes "e 1 2 r\n-e 1 2 r\ne 1 2 r\n# .\n")
    ≡ record { verdict = Done; text = codes "+ 1 ab 1 2\n- 2 ab 1 2\n+ 3 ab 1 2\n= 4 3 0\n" })
unfolding digits
just_enough = (refl, refl)

-- also where the last line has no end
just_enough_open : ends short ab ab_pattern watch_words (codes "e 1 2 r\n-e 1 2 r\ne 1 2 r     ")
    ≡ record { verdict = Done; text = codes "+ 1 ab 1 2\n- 2 ab 1 2\n+ 3 ab 1 2\n= 3 3 0\n" }
unfolding digits
just_enough_open = refl

-- a file that is too long is refused where one of its first whole lines is
refused_first : ends short (codes "v 1 A\nx\nv 2 B\nv 3 C\nv 4 D\nv 5 E\n") ab_pattern watch_words []
    ≡ record { verdict = BadGraph (record { line = 2; code = code.Word }); text = [] }
refused_first = refl

-- and is too long where only a line further on is
refused_later : ends short (codes "v 1 A\nv 2 B\nv 3 C\nv 4 D\nv 5 E\nx\n") ab_pattern watch_words []
    ≡ record { verdict = TooMuch; text = [] }
refused_later = refl

-- what stands behind the last line end of its front is not judged
refused_in_the_rest : ends short (codes "v 1 A\nv 2 B\nv 3 C\nv 4 D\nx 5 E\n") ab_pattern watch_words []
    ≡ record { verdict = TooMuch; text = [] }
refused_in_the_rest = refl

-- the pattern file is not looked at before the graph file is accepted
graph_first : ends standard (codes "x\n") ab_pattern (codes "watch" ∷ codes "g" ∷ codes "none" ∷ []) []
    ≡ record { verdict = BadGraph (record { line = 1; code = code.Word }); text = [] }
graph_first = refl

no_patterns : ends standard ab ab_pattern (codes "match" ∷ codes "g" ∷ codes "none" ∷ []) [] ≡ record { verdict = NoFile; text = [] }
no_patterns = refl

no_graph : ends standard ab ab_pattern (codes "watch" ∷ codes "none" ∷ codes "p" ∷ []) [] ≡ record { verdict = NoFile; text = [] }
no_graph = refl

apart : ends standard ab (codes "p two hom\nv 0\nv 1\n") match_words [] ≡ record { verdict = BadPatterns (record { line = 1; code = code.Apart }); text = [] }
apart = refl

one_answer : ends standard (codes "v 1 A\nv 2 B\ne 1 2 r\n") ab_pattern match_words [] ≡ record { verdict = Done; text = codes "m ab 1 2\n= 1\n" }
unfolding digits
one_answer = refl

no_answer : ends standard [] ab_pattern match_words [] ≡ record { verdict = Done; text = codes "= 0\n" }
unfolding digits
no_answer = refl

saved : ends standard (codes "v 2 B A A\nv 1\ne 2 1 s\ne 2 1 r\n") [] (codes "save" ∷ codes "g" ∷ []) []
    ≡ record { verdict = Done; text = codes "v 1\nv 2 A B\ne 2 1 r\ne 2 1 s\n" }
unfolding digits
saved = refl

no_words : ends standard ab ab_pattern [] [] ≡ record { verdict = Usage; text = [] }
no_words = refl

too_few_words : ends standard ab ab_pattern (codes "watch" ∷ codes "g" ∷ []) [] ≡ record { verdict = Usage; text = [] }
too_few_words = refl

unknown_word : ends standard ab ab_pattern (codes "demo" ∷ codes "x" ∷ []) [] ≡ record { verdict = Usage; text = [] }
unknown_word = refl

-- ---- the number of a demonstration

small_number : shape_of (codes "demo" ∷ codes "7" ∷ []) ≡ Some (Demo 7)
small_number = refl

zeros_in_front : shape_of (codes "demo" ∷ codes "007" ∷ []) ≡ Some (Demo 7)
zeros_in_front = refl

largest_number : shape_of (codes "demo" ∷ codes "18446744073709551615" ∷ []) ≡ Some (Demo 18446744073709551615)
largest_number = refl

too_large_number : shape_of (codes "demo" ∷ codes "18446744073709551616" ∷ []) ≡ None
too_large_number = refl

too_many_digits : shape_of (codes "demo" ∷ codes "000000000000000000007" ∷ []) ≡ None
too_many_digits = refl

no_number : shape_of (codes "demo" ∷ [] ∷ []) ≡ None
no_number = refl

signed_number : shape_of (codes "demo" ∷ codes "+7" ∷ []) ≡ None
signed_number = refl
