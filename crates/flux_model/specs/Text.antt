-- Labels and names: short texts of visible bytes.
use Rattle.std.specs.Prelude.{ℕ, Bool, ◌&&◌, nat_le, List, length, IsTrue}
use Rattle.std.specs.List.{list_all}
use Rattle.std.specs.declared.cmp.Ordering.{Ordering}
use Rattle.std.specs.Ordering.{nat_cmp}
use Rattle.std.specs.Cmp.Lexicographic.{slice_cmp}

-- a byte that a label or a name may have: 0x21 to 0x7E
abbrev pub is_text_byte : ℕ → Bool
is_text_byte c = nat_le 0x21 c && nat_le c 0x7E

-- 1 to 64 of these
abbrev pub is_text : List ℕ → Bool
is_text bytes = nat_le 1 (length bytes) && nat_le (length bytes) 64 && list_all is_text_byte bytes

abbrev pub IsText : List ℕ → Type 0
IsText bytes = IsTrue (is_text bytes)

-- byte by byte; a proper prefix comes first
abbrev pub text_cmp : List ℕ → List ℕ → Ordering
text_cmp = slice_cmp nat_cmp
