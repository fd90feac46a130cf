-- Where a triple stands in the blocks, side by side.
use Rattle.std.specs.Prelude.{ℕ, Bool, List, Option, Some, None, option_map, cond}
use Rattle.std.specs.Map.{lookup}
use Rattle.label_graph.specs.declared.link.Link.{Link}
use Rattle.label_graph.specs.declared.link.Node.{Node}
use Rattle.label_graph.specs.declared.link.Places.{Places}
use Rattle.label_graph.specs.Places.{link_eq, AreInverse}
use Rattle.block_graph.specs.declared.block.Block.{Block}
use Rattle.block_graph.specs.declared.chain.Chain.{Chain}
use Rattle.block_graph.specs.declared.row.Place.{Place}
use Rattle.block_graph.specs.Blocks.{seen_at}
use Rattle.block_graph.specs.Chains.{AreRows}
use Rattle.block_graph.specs.Rows.{at}

-- a triple, if it is of this side
abbrev pub side_of : Bool → Option (Bool × Link) → Option Link
side_of s None = None
side_of s (Some p) = cond s (cond p.0 (Some p.1) None) (cond p.0 None (Some p.1))

-- the triple at a place of one side's rows
abbrev pub link_at : Bool → List (Option Block) → ℕ × ℕ → Option Link
link_at s slots a = side_of s (seen_at slots a)

-- the place that is noted for a triple in one side's rows
abbrev pub place_in : Bool → Places Place → ℕ × ℕ
place_in s p = at (cond s p.in_at p.out_at)

-- and where it is noted, if it is
abbrev pub noted : Bool → List (Link × Places Place) → Link → Option (ℕ × ℕ)
noted s places k = option_map (place_in s) (lookup (link_eq k) places)

-- the rows are chains of blocks, and the triples stand in them at the places that are noted for them, and nothing else does
pub record ArePlaced (nodes : List (ℕ × Node Chain)) (slots : List (Option Block)) (places : List (Link × Places Place)) : Type 0 where
  pub rows : AreRows nodes slots
  pub placed : (s : Bool) → AreInverse (link_at s slots) (noted s places)
