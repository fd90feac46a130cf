-- The entries of a row in the order of a walk: the first block from its end, and then those behind it.
use Rattle.std.specs.Prelude.{◌≡◌, ℕ, zero, suc, ◌==◌, ◌<◌, ◌≤◌, List, [], ◌∷◌, ◌++◌, Option, Some, None, unwrap_or, cond}
use Rattle.label_graph.specs.declared.link.RowEntry.{RowEntry}
use Rattle.block_graph.specs.declared.block.Block.{Block}
use Rattle.block_graph.specs.declared.chain.Chain.{Chain}
use Rattle.block_graph.specs.Blocks.{len_at, next_at, entry_at}
use Rattle.block_graph.specs.Chains.{keys_from, IsAmong}

-- the entry of a place, if there is one, before others
abbrev pub entry_before : Option RowEntry → List RowEntry → List RowEntry
entry_before None ts = ts
entry_before (Some t) ts = t ∷ ts

-- the entries of a block below a number, from the last on
abbrev pub entries_down : List (Option Block) → ℕ → ℕ → List RowEntry
entries_down slots b zero = []
entries_down slots b (suc k) = entry_before (entry_at slots (b, k)) (entries_down slots b k)

-- the entries of so many blocks, from this one on
abbrev pub entries_from : List (Option Block) → ℕ → ℕ → List RowEntry
entries_from slots zero b = []
entries_from slots (suc n) b = entries_down slots b (len_at slots b) ++ entries_from slots n (unwrap_or (next_at slots b) 0)

-- what is left of them from a place on: below a number in one of the blocks, and the blocks behind it
abbrev pub left_from : List (Option Block) → ℕ → ℕ → ℕ → ℕ → List RowEntry
left_from slots zero f b k = []
left_from slots (suc n) f b k = cond (f == b) (entries_down slots b k ++ entries_from slots n (unwrap_or (next_at slots f) 0)) (left_from slots n (unwrap_or (next_at slots f) 0) b k)

-- a place of the row, or its end
pub record IsPlace (slots : List (Option Block)) (c : Chain) (b k : ℕ) : Type 0 where
  pub among : 0 < k → IsAmong (keys_from (next_at slots) c.blocks c.first) b
  pub within : 0 < k → k ≤ len_at slots b
  pub end : k ≡ 0 → left_from slots c.blocks c.first b k ≡ []

-- the entry is one of the row
abbrev pub IsAmongEntries : List (Option Block) → Chain → RowEntry → Type 0
IsAmongEntries slots c t = (b : ℕ) × (k : ℕ) × IsAmong (keys_from (next_at slots) c.blocks c.first) b × (entry_at slots (b, k) ≡ Some t)
