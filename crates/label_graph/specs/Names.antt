-- The table of label names: at each number a name that is in use, or nothing.
use Rattle.std.specs.Prelude.{◌≡◌, ◌≢◌, ℕ, ◌-◌, ◌<◌, List, Option, Some, None, option_map, slice_index_or, nat_le, if◌then◌else◌}
use Rattle.label_graph.specs.declared.names.Name.{Name}

-- what a number stands for
abbrev pub slot : List (Option Name) → ℕ → Option Name
slot names n = slice_index_or names n None

-- the text that a number stands for
abbrev pub text_at : List (Option Name) → ℕ → Option (List ℕ)
text_at names n = option_map (λ x. x.text) (slot names n)

-- how often a name is used
abbrev pub uses_of : Option Name → ℕ
uses_of None = 0
uses_of (Some x) = x.uses

-- no number stands for the text
abbrev pub IsUnknown : List (Option Name) → List ℕ → Type 0
IsUnknown names text = (n : ℕ) → text_at names n ≢ Some text

-- a name with one use less, which is gone with its last use
abbrev pub lowered : Option Name → Option Name
lowered None = None
lowered (Some x) = if nat_le x.uses 1 then None else Some (record x { uses = x.uses - 1 })

-- what a table keeps
pub record IsTable (names : List (Option Name)) : Type 0 where
  pub distinct : (m n : ℕ) (x y : Name) → slot names m ≡ Some x → slot names n ≡ Some y → x.text ≡ y.text → m ≡ n
  pub used : (n : ℕ) (x : Name) → slot names n ≡ Some x → 0 < x.uses
