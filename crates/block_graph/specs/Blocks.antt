-- The blocks of a slab, and the triples at their places.
use Rattle.std.specs.Prelude.{◌≡◌, ℕ, ◌+◌, ◌-◌, ◌<◌, ◌≤◌, nat_lt, Bool, List, Option, Some, None, option_map, slice_get, slice_set, slice_index_or, length, cond, [], ◌∷◌}
use Rattle.label_graph.specs.declared.link.Link.{Link}
use Rattle.label_graph.specs.declared.link.RowEntry.{RowEntry}
use Rattle.label_graph.specs.Places.{out_link, in_link}
use Rattle.block_graph.specs.declared.block.Block.{Block}

-- the block at a key, if one stands there
abbrev pub block_at : List (Option Block) → ℕ → Option Block
block_at slots b = slice_index_or slots b None

-- the row that a block is of: whether it is an in row, and its vertex
abbrev pub owner_of : Option Block → Option (Bool × ℕ)
owner_of None = None
owner_of (Some x) = Some (x.incoming, x.vertex)

-- how many entries it has; none where there is no block
abbrev pub len_of : Option Block → ℕ
len_of None = 0
len_of (Some x) = x.len

-- the block behind it, if there is one
abbrev pub next_of : Option Block → Option ℕ
next_of None = None
next_of (Some x) = cond x.more (Some x.next) None

-- its entry of a number, if it has so many
abbrev pub entry_of : ℕ → Option Block → Option RowEntry
entry_of i None = None
entry_of i (Some x) = cond (nat_lt i x.len) (slice_get x.entries i) None

-- and the same of the block at a key
abbrev pub owner_at : List (Option Block) → ℕ → Option (Bool × ℕ)
owner_at slots b = owner_of (block_at slots b)

abbrev pub len_at : List (Option Block) → ℕ → ℕ
len_at slots b = len_of (block_at slots b)

abbrev pub next_at : List (Option Block) → ℕ → Option ℕ
next_at slots b = next_of (block_at slots b)

abbrev pub entry_at : List (Option Block) → ℕ × ℕ → Option RowEntry
entry_at slots a = entry_of a.1 (block_at slots a.0)

-- the triple of an entry in a row
abbrev pub row_link : Bool × ℕ → RowEntry → Link
row_link row t = cond row.0 (in_link row.1 t) (out_link row.1 t)

-- the triple at a place, with the side of its row
abbrev pub seen_of : ℕ → Option Block → Option (Bool × Link)
seen_of i None = None
seen_of i (Some x) = option_map (λ t. (x.incoming, row_link (x.incoming, x.vertex) t)) (entry_of i (Some x))

abbrev pub seen_at : List (Option Block) → ℕ × ℕ → Option (Bool × Link)
seen_at slots a = seen_of a.1 (block_at slots a.0)

-- a block has an entry, and no more than there is room for
pub record IsBlock (x : Block) : Type 0 where
  pub some : 0 < x.len
  pub fits : x.len ≤ 6
  pub room : length x.entries ≡ 6

-- ---- changes of a block

-- with an entry more at its end, with an entry less there, and with another entry at a number
abbrev pub appended : RowEntry → Block → Block
appended t x = record x { entries = slice_set x.entries x.len t; len = x.len + 1 }

abbrev pub shortened : Block → Block
shortened x = record x { len = x.len - 1 }

abbrev pub written : ℕ → RowEntry → Block → Block
written i t x = record x { entries = slice_set x.entries i t }

-- a new block of one entry, which fills all six places
abbrev pub started : ℕ → Bool → ℕ → Bool → RowEntry → Block
started vertex incoming next more t =
    record { entries = t ∷ t ∷ t ∷ t ∷ t ∷ t ∷ []; next = next; vertex = vertex; incoming = incoming; more = more; len = 1 }
