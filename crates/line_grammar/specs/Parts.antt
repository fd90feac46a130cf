-- What the parts of a form are read as.
use Rattle.std.specs.Prelude.{ℕ, List, [], ◌∷◌, Option, Some, None, Result, Ok, Err, if◌then◌else◌, IsTrue, ⊤}
use Rattle.std.specs.List.{list_all}
use Rattle.flux_model.specs.Text.{is_text}
use Rattle.flux_model.specs.Labels.{label_set}
use Rattle.flux_model.specs.Reading.{is_number, digits_value, is_comment}
use Rattle.flux_model.specs.declared.code.Code.{Code}
use Rattle.flux_model.specs.declared.said.Said.{Said}
use Rattle.flux_model.specs.declared.said.Said.TheVariants.{Says, Refused}
use Rattle.flux_model.specs.declared.graph.Triple.{Triple}
use Rattle.flux_model.specs.declared.graph.Vertex.{Vertex}

-- how many digits a number may have
abbrev pub most_digits : ℕ
most_digits = 10

-- the number in a word, if it is one
abbrev pub number_in : List ℕ → Option ℕ
number_in word = if is_number word then Some (digits_value word) else None

-- the label or name in a word, if it is one
abbrev pub label_in : List ℕ → Option (List ℕ)
label_in word = if is_text word then Some word else None

-- the set of the labels in the words, if all are labels
abbrev pub labels_in : List (List ℕ) → Option (List (List ℕ))
labels_in words = if list_all is_text words then Some (label_set words) else None

-- what a form says whose parts were read, or refused
abbrev pub said_by : {T : Type 0} → Result T Code → Said T
said_by (Ok parts) = Says parts
said_by (Err reason) = Refused reason

-- the vertex of an id and its labels
abbrev pub vertex_of : ℕ → List (List ℕ) → Vertex
vertex_of id labels = record { id = id; labels = labels }

-- the triple of a source, a label and a target
abbrev pub triple_of : ℕ → List ℕ → ℕ → Triple
triple_of src label dst = record { src = src; label = label; dst = dst }

-- whether a line of these words is blank or a comment
abbrev pub IsSilent : List (List ℕ) → Type 0
IsSilent [] = ⊤
IsSilent (word ∷ others) = IsTrue (is_comment word)
