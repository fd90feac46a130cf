-- What the entries of a shelf in memory are seen as.
use Rattle.std.specs.Prelude.{ℕ, List, map, string_bytes}
use Rattle.flux_outside.specs.declared.mem_shelf.Entry.{Entry}

-- A name and its bytes.
abbrev pub seen_entry : Entry → List ℕ × List ℕ
seen_entry entry = (string_bytes entry.name, entry.bytes.items)

-- Names and their bytes.
abbrev pub seen_entries : List Entry → List (List ℕ × List ℕ)
seen_entries entries = map seen_entry entries
