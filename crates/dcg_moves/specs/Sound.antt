-- What is true of the rows at any moment between two moves.
use Rattle.std.specs.Prelude.{◌≡◌, ℕ, ◌<◌, ◌==◌, true, nat_lt, List, length, Some}
use Rattle.std.specs.List.{list_any}
use Rattle.flux_model.specs.Exact.{Row}
use Rattle.dcg_moves.specs.Layers.{Layers, children}
use Rattle.dcg_moves.specs.Rows.{Rows, is_kept, ins_in}

-- a pair has a row exactly where a joint leads in
abbrev pub KeptByIns : Rows → Type 0
KeptByIns r = (u v : ℕ) → is_kept r u v ≡ nat_lt 0 (ins_in (r u v))

-- each row has a counter for each child
abbrev pub IsWide : Layers → Rows → Type 0
IsWide s r = (u v : ℕ) (row : Row) → r u v ≡ Some row → length row.outs ≡ length (children s u)

-- rows stand only in the layers, at these graph vertices
abbrev pub KeptWithin : Layers → List ℕ → Rows → Type 0
KeptWithin s ids r = (u v : ℕ) → is_kept r u v ≡ true → (u < s.count) × (list_any (λ z. z == v) ids ≡ true)

-- what every move keeps
pub record IsSound (s : Layers) (ids : List ℕ) (r : Rows) : Type 0 where
  pub kept : KeptByIns r
  pub wide : IsWide s r
  pub within : KeptWithin s ids r

-- the members of all layers are among these graph vertices
abbrev pub HasIds : Layers → List ℕ → Type 0
HasIds s ids = (u v : ℕ) → s.is_member u v ≡ true → list_any (λ z. z == v) ids ≡ true
