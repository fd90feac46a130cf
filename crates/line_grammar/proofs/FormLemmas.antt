-- A vertex or an edge that is read is refused for the same reasons, whatever is made of it.
use Rattle.std.proofs.Common.{◌≡◌, ℕ, Bool, true, false, List, [], ◌∷◌, length, nat_lt, if◌then◌else◌, refl}
use Rattle.std.specs.List.{list_all}
use Rattle.flux_model.specs.Text.{is_text}
use Rattle.flux_model.specs.Labels.{label_set, most_labels}
use Rattle.flux_model.specs.Reading.{read_vertex, read_edge, is_number, digits_value}
use Rattle.flux_model.specs.declared.code.Code.TheVariants as code
use Rattle.flux_model.specs.declared.said.Said.{Said}
use Rattle.flux_model.specs.declared.said.Said.TheVariants.{Nothing, Says, Refused}

-- another thing said, for the same reasons refused
abbrev pub map_said : {A B : Type 0} → (A → B) → Said A → Said B
map_said f Nothing = Nothing
map_said f (Says x) = Says (f x)
map_said f (Refused reason) = Refused reason

-- what is made of an edge may be made at once
pub read_edge-map : {A B : Type 0} (f : A → B) (make : ℕ → List ℕ → ℕ → A) (words : List (List ℕ))
    → map_said f (read_edge make words) ≡ read_edge (λ from label to. f (make from label to)) words
read_edge-map f make [] = refl
read_edge-map f make (a ∷ []) = refl
read_edge-map f make (a ∷ b ∷ []) = refl
read_edge-map f make (a ∷ b ∷ c ∷ []) = by (is_number a) (is_number b) (list_all is_text (c ∷ []))
  where
    by : (x y z : Bool) → map_said f (if x then (if y then (if z then Says (make (digits_value a) c (digits_value b)) else Refused code.Label) else Refused code.Number) else Refused code.Number)
        ≡ (if x then (if y then (if z then Says (f (make (digits_value a) c (digits_value b))) else Refused code.Label) else Refused code.Number) else Refused code.Number)
    by true true true = refl
    by true true false = refl
    by true false z = refl
    by false y z = refl
read_edge-map f make (a ∷ b ∷ c ∷ d ∷ more) = refl

-- and what is made of a vertex
pub read_vertex-map : {A B : Type 0} (f : A → B) (make : ℕ → List (List ℕ) → A) (words : List (List ℕ))
    → map_said f (read_vertex make words) ≡ read_vertex (λ id labels. f (make id labels)) words
read_vertex-map f make [] = refl
read_vertex-map f make (a ∷ labels) = by (nat_lt most_labels (length labels)) (is_number a) (list_all is_text labels)
  where
    by : (x y z : Bool) → map_said f (if x then Refused code.Arity else (if y then (if z then Says (make (digits_value a) (label_set labels)) else Refused code.Label) else Refused code.Number))
        ≡ (if x then Refused code.Arity else (if y then (if z then Says (f (make (digits_value a) (label_set labels))) else Refused code.Label) else Refused code.Number))
    by true y z = refl
    by false true true = refl
    by false true false = refl
    by false false z = refl
