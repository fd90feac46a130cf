-- The chain of blocks of a row, from its first block on.
use Rattle.std.specs.Prelude.{◌≡◌, ℕ, zero, suc, Bool, true, List, [], ◌∷◌, Option, Some, None, IsSome, unwrap_or, cond, nat_eq}
use Rattle.std.specs.List.{list_any}
use Rattle.std.specs.Map.{lookup}
use Rattle.label_graph.specs.declared.link.Node.{Node}
use Rattle.flux_model.specs.Members.{In, AreOnce}
use Rattle.block_graph.specs.declared.block.Block.{Block}
use Rattle.block_graph.specs.declared.chain.Chain.{Chain}
use Rattle.block_graph.specs.Blocks.{block_at, owner_at, len_at, next_at, IsBlock}

-- ---- where a chain begins

-- of a row without blocks
abbrev pub no_chain : Chain
no_chain = record { first = 0; blocks = 0 }

-- of a row of a vertex
abbrev pub chain_of : Bool → Option (Node Chain) → Chain
chain_of incoming None = no_chain
chain_of incoming (Some p) = cond incoming p.ins p.outs

-- the vertex with one of its rows beginning elsewhere
abbrev pub with_chain : Bool → Chain → Node Chain → Node Chain
with_chain incoming c p = record p { outs = cond incoming p.outs c; ins = cond incoming c p.ins }

-- of a row
abbrev pub chain_at : List (ℕ × Node Chain) → Bool × ℕ → Chain
chain_at nodes row = chain_of row.0 (lookup (nat_eq row.1) nodes)

-- ---- its blocks

-- so many blocks, from this one on
abbrev pub keys_from : (ℕ → Option ℕ) → ℕ → ℕ → List ℕ
keys_from next zero b = []
keys_from next (suc n) b = b ∷ keys_from next n (unwrap_or (next b) 0)

-- a block has another behind it where so many are left
abbrev pub IsEnd : Option ℕ → ℕ → Type 0
IsEnd o zero = o ≡ None
IsEnd o (suc n) = IsSome o

-- each block is full
abbrev pub AreFull : (ℕ → Option ℕ) → (ℕ → ℕ) → ℕ → ℕ → Type 0
AreFull next len zero b = Unit {0}
AreFull next len (suc n) b = (len b ≡ 6) × IsEnd (next b) n × AreFull next len n (unwrap_or (next b) 0)

-- each block but the first is full
abbrev pub IsLinked : (ℕ → Option ℕ) → (ℕ → ℕ) → ℕ → ℕ → Type 0
IsLinked next len zero b = Unit {0}
IsLinked next len (suc n) b = IsEnd (next b) n × AreFull next len n (unwrap_or (next b) 0)

-- the key is one of these
abbrev pub IsAmong : List ℕ → ℕ → Type 0
IsAmong keys b = list_any (nat_eq b) keys ≡ true

-- the blocks of a row are those of its chain, each once
pub record IsRow (owner : ℕ → Option (Bool × ℕ)) (next : ℕ → Option ℕ) (len : ℕ → ℕ) (row : Bool × ℕ) (n first : ℕ) : Type 0 where
  pub stands : (b : ℕ) → In (keys_from next n first) b → owner b ≡ Some row
  pub all : (b : ℕ) → owner b ≡ Some row → IsAmong (keys_from next n first) b
  pub once : AreOnce (keys_from next n first)
  pub linked : IsLinked next len n first

-- each block has entries and room, and each row its chain of blocks
pub record AreRows (nodes : List (ℕ × Node Chain)) (slots : List (Option Block)) : Type 0 where
  pub sound : (b : ℕ) (x : Block) → block_at slots b ≡ Some x → IsBlock x
  pub row : (r : Bool × ℕ) → IsRow (owner_at slots) (next_at slots) (len_at slots) r (chain_at nodes r).blocks (chain_at nodes r).first
