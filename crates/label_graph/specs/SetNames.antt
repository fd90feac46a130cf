-- Sets of texts in a table of names.
use Rattle.std.specs.Prelude.{◌≡◌, ℕ, ◌+◌, Bool, true, false, List, Option, Some, None, if◌then◌else◌}
use Rattle.std.specs.List.{list_any}
use Rattle.std.specs.Ordering.{is_eq}
use Rattle.flux_model.specs.Text.{text_cmp}
use Rattle.flux_model.specs.Ordered.{is_in}
use Rattle.label_graph.specs.declared.names.Name.{Name}
use Rattle.label_graph.specs.Names.{slot, lowered, IsUnknown}

-- whether a number stands for this text
abbrev pub has_text : List ℕ → Option Name → Bool
has_text text None = false
has_text text (Some x) = is_eq (text_cmp text x.text)

-- whether some number stands for the text
abbrev pub is_known : List (Option Name) → List ℕ → Bool
is_known names text = list_any (has_text text) names

-- a name with one use more, where its text is in the set
abbrev pub raised_in : List (List ℕ) → Name → Name
raised_in set x = if is_in text_cmp x.text set then record x { uses = x.uses + 1 } else x

-- a name with one use less, where its text is in the set
abbrev pub lowered_in : List (List ℕ) → Option Name → Option Name
lowered_in set None = None
lowered_in set (Some x) = if is_in text_cmp x.text set then lowered (Some x) else Some x

-- each text of the set is used once more: names keep their numbers, and new ones are used once
pub record IsRaised (set : List (List ℕ)) (old new : List (Option Name)) : Type 0 where
  pub kept : (n : ℕ) (x : Name) → slot old n ≡ Some x → slot new n ≡ Some (raised_in set x)
  pub fresh : (n : ℕ) (x : Name) → slot old n ≡ None → slot new n ≡ Some x →
      (x.uses ≡ 1) × (is_in text_cmp x.text set ≡ true) × IsUnknown old x.text
  pub known : (text : List ℕ) → IsUnknown new text → is_in text_cmp text set ≡ false
