-- Places in rows, and a row with an entry less.
use Rattle.std.specs.Prelude.{◌≡◌, ◌≢◌, ℕ, ◌-◌, Bool, List, Option, Some, None, cond}
use Rattle.label_graph.specs.declared.link.Link.{Link}
use Rattle.label_graph.specs.declared.link.Node.{Node}
use Rattle.label_graph.specs.declared.link.RowEntry.{RowEntry}
use Rattle.block_graph.specs.declared.block.Block.{Block}
use Rattle.block_graph.specs.declared.chain.Chain.{Chain}
use Rattle.block_graph.specs.declared.row.Place.{Place}
use Rattle.block_graph.specs.Blocks.{len_at, seen_at, row_link}
use Rattle.block_graph.specs.Chains.{chain_at}

-- a place as a pair
abbrev pub at : Place → ℕ × ℕ
at p = (p.block, p.number)

-- the row of a side that a triple stands in
abbrev pub row_of : Bool → Link → Bool × ℕ
row_of incoming k = (incoming, cond incoming k.dst k.src)

-- the last place of a row: the end of its first block
abbrev pub last_of : List (ℕ × Node Chain) → List (Option Block) → Bool × ℕ → ℕ × ℕ
last_of nodes slots row = ((chain_at nodes row).first, len_at slots (chain_at nodes row).first - 1)

-- what stands at places after the entry at one was taken away and the one at another, if it is another, put there
pub record IsPulled (one last : ℕ × ℕ) (old new : ℕ × ℕ → Option (Bool × Link)) : Type 0 where
  pub gone : new last ≡ None
  pub moved : one ≢ last → new one ≡ old last
  pub others : (a : ℕ × ℕ) → a ≢ one → a ≢ last → new a ≡ old a

-- the entry is the one at the last place of the row, which is not the other place
abbrev pub IsMovedFrom : List (Option Block) → ℕ × ℕ → ℕ × ℕ → Bool × ℕ → RowEntry → Type 0
IsMovedFrom slots one last row t = (one ≢ last) × (seen_at slots last ≡ Some (row.0, row_link row t))
