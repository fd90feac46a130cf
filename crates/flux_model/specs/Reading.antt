-- What a line says, or why it is refused.
use Rattle.std.specs.Prelude.{ℕ, ◌+◌, ◌*◌, ◌-◌, ◌==◌, ◌||◌, ◌&&◌, nat_le, nat_lt, Bool, false, List, [], ◌∷◌, length, fold, codes, if◌then◌else◌}
use Rattle.std.specs.List.{list_all}
use Rattle.std.specs.Str.{bytes_eq}
use Rattle.flux_model.specs.Text.{is_text}
use Rattle.flux_model.specs.Labels.{label_set, most_labels}
use Rattle.flux_model.specs.Lines.{InputLine, held, long}
use Rattle.flux_model.specs.declared.code.Code.TheVariants as code
use Rattle.flux_model.specs.declared.said.Said.{Said}
use Rattle.flux_model.specs.declared.said.Said.TheVariants.{Nothing, Says, Refused}
use Rattle.flux_model.specs.declared.graph.Update.{Update}
use Rattle.flux_model.specs.declared.graph.Update.TheVariants.{AddVertex, DropVertex, AddEdge, DropEdge}
use Rattle.flux_model.specs.declared.pattern.Mode.TheVariants.{Hom, Iso}
use Rattle.flux_model.specs.declared.pattern.PatternPart.{PatternPart}
use Rattle.flux_model.specs.declared.pattern.PatternPart.TheVariants as part

-- ---- words

-- a space or a tab
abbrev pub is_blank : ℕ → Bool
is_blank c = c == 32 || c == 9

-- the word that the text begins with, which may be empty, and the words after it
pub record Words : Type 0 where
  pub first : List ℕ
  pub others : List (List ℕ)

-- an empty word is none
abbrev pub with_word : List ℕ → List (List ℕ) → List (List ℕ)
with_word [] words = words
with_word (c ∷ cs) words = (c ∷ cs) ∷ words

abbrev pub split_words : List ℕ → Words
split_words [] = record { first = []; others = [] }
split_words (c ∷ cs) = add (split_words cs)
  where
    add : Words → Words
    add after =
        if is_blank c then record { first = []; others = with_word after.first after.others }
        else record after { first = c ∷ after.first }

-- the longest runs of bytes other than space and tab
abbrev pub words_of : List ℕ → List (List ℕ)
words_of bytes = let split = split_words bytes in with_word split.first split.others

-- ---- numbers

abbrev pub is_digit : ℕ → Bool
is_digit c = nat_le 48 c && nat_le c 57

abbrev pub digits_value : List ℕ → ℕ
digits_value word = fold (λ n c. 10 * n + (c - 48)) 0 word

-- 1 to 10 digits with a value below 2 ^ 32
abbrev pub is_number : List ℕ → Bool
is_number word =
    nat_le 1 (length word) && nat_le (length word) 10 && list_all is_digit word && nat_lt (digits_value word) 4294967296

-- ---- the parts of a form, from left to right: a number is looked for before a label, and a label before a mode

-- the number in a word, for what is read next
abbrev pub with_number : {T : Type 0} → List ℕ → (ℕ → Said T) → Said T
with_number word next = if is_number word then next (digits_value word) else Refused code.Number

-- labels, for what is read next
abbrev pub with_labels : {T : Type 0} → List (List ℕ) → Said T → Said T
with_labels words next = if list_all is_text words then next else Refused code.Label

-- a vertex: its number, and up to 16 words that are labels, repeated ones included
abbrev pub read_vertex : {T : Type 0} → (ℕ → List (List ℕ) → T) → List (List ℕ) → Said T
read_vertex make [] = Refused code.Arity
read_vertex make (id ∷ labels) =
    if nat_lt most_labels (length labels) then Refused code.Arity
    else with_number id (λ n. with_labels labels (Says (make n (label_set labels))))

-- an edge: two numbers and a label
abbrev pub read_edge : {T : Type 0} → (ℕ → List ℕ → ℕ → T) → List (List ℕ) → Said T
read_edge make (from ∷ to ∷ label ∷ []) =
    with_number from (λ s. with_number to (λ d. with_labels (label ∷ []) (Says (make s label d))))
read_edge make _ = Refused code.Arity

-- one number
abbrev pub read_id : {T : Type 0} → (ℕ → T) → List (List ℕ) → Said T
read_id make (id ∷ []) = with_number id (λ n. Says (make n))
read_id make _ = Refused code.Arity

-- `hom` or `iso`
abbrev pub read_mode : List ℕ → List ℕ → Said PatternPart
read_mode name word =
    if bytes_eq word (codes "hom") then Says (part.Name name Hom)
    else (if bytes_eq word (codes "iso") then Says (part.Name name Iso) else Refused code.Mode)

-- a name and a mode
abbrev pub read_name : List (List ℕ) → Said PatternPart
read_name (name ∷ mode ∷ []) = with_labels (name ∷ []) (read_mode name mode)
read_name _ = Refused code.Arity

-- ---- lines: the first word decides the form

abbrev pub added_edge : ℕ → List ℕ → ℕ → Update
added_edge src label dst = AddEdge (record { src = src; label = label; dst = dst })

abbrev pub dropped_edge : ℕ → List ℕ → ℕ → Update
dropped_edge src label dst = DropEdge (record { src = src; label = label; dst = dst })

abbrev pub pattern_edge : ℕ → List ℕ → ℕ → PatternPart
pattern_edge tail label head = part.Edge tail head label

-- the forms of a graph file
abbrev pub read_graph_form : List ℕ → List (List ℕ) → Said Update
read_graph_form word others =
    if bytes_eq word (codes "v") then read_vertex AddVertex others
    else (if bytes_eq word (codes "e") then read_edge added_edge others else Refused code.Word)

-- the forms of the updates
abbrev pub read_update_form : List ℕ → List (List ℕ) → Said Update
read_update_form word others =
    if bytes_eq word (codes "-e") then read_edge dropped_edge others
    else (if bytes_eq word (codes "-v") then read_id DropVertex others else read_graph_form word others)

-- the forms of a pattern file
abbrev pub read_pattern_form : List ℕ → List (List ℕ) → Said PatternPart
read_pattern_form word others =
    if bytes_eq word (codes "p") then read_name others
    else (if bytes_eq word (codes "v") then read_vertex part.Vertex others
    else (if bytes_eq word (codes "e") then read_edge pattern_edge others else Refused code.Word))

-- a comment begins with `#`
abbrev pub is_comment : List ℕ → Bool
is_comment [] = false
is_comment (c ∷ cs) = c == 35

-- a line of no words is blank, and says nothing, as a comment does
abbrev pub read_words : {T : Type 0} → (List ℕ → List (List ℕ) → Said T) → List (List ℕ) → Said T
read_words form [] = Nothing
read_words form (word ∷ others) = if is_comment word then Nothing else form word others

abbrev pub read_line : {T : Type 0} → (List ℕ → List (List ℕ) → Said T) → InputLine → Said T
read_line form long = Refused code.Long
read_line form (held bytes) = read_words form (words_of bytes)

abbrev pub graph_reading : InputLine → Said Update
graph_reading line = read_line read_graph_form line

abbrev pub update_reading : InputLine → Said Update
update_reading line = read_line read_update_form line

abbrev pub pattern_reading : InputLine → Said PatternPart
pattern_reading line = read_line read_pattern_form line
