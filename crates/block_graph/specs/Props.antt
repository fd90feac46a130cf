-- What a store keeps has one proof at most, so it may be a ghost field.
use Rattle.std.specs.Prelude.{ℕ, zero, suc, Bool, List, [], ◌∷◌, Option, unwrap_or}
use Rattle.std.proofs.Props.{props}
use Rattle.label_graph.specs.declared.link.Link.{Link}
use Rattle.label_graph.specs.declared.link.Node.{Node}
use Rattle.label_graph.specs.declared.link.Places.{Places}
use Rattle.flux_model.specs.Members.{AreOnce}
use Rattle.block_graph.specs.declared.block.Block.{Block}
use Rattle.block_graph.specs.declared.chain.Chain.{Chain}
use Rattle.block_graph.specs.declared.row.Place.{Place}
use Rattle.block_graph.specs.Chains.{IsEnd, AreFull, IsLinked, IsRow, AreRows}
use Rattle.block_graph.specs.Places.{ArePlaced}

AreOnce-prop : {X : Type 0} (xs : List X) → IsProp (AreOnce xs)
AreOnce-prop [] = Prim.hlevel props
AreOnce-prop (x ∷ xs) = Prim.hlevel (props, AreOnce-prop xs)

IsEnd-prop : (o : Option ℕ) (n : ℕ) → IsProp (IsEnd o n)
IsEnd-prop o zero = Prim.hlevel props
IsEnd-prop o (suc n) = Prim.hlevel props

AreFull-prop : (next : ℕ → Option ℕ) (len : ℕ → ℕ) (n b : ℕ) → IsProp (AreFull next len n b)
AreFull-prop next len zero b = Prim.hlevel props
AreFull-prop next len (suc n) b = Prim.hlevel (props, IsEnd-prop (next b) n, AreFull-prop next len n (unwrap_or (next b) 0))

IsLinked-prop : (next : ℕ → Option ℕ) (len : ℕ → ℕ) (n b : ℕ) → IsProp (IsLinked next len n b)
IsLinked-prop next len zero b = Prim.hlevel props
IsLinked-prop next len (suc n) b = Prim.hlevel (props, IsEnd-prop (next b) n, AreFull-prop next len n (unwrap_or (next b) 0))

pub IsRow-prop : (owner : ℕ → Option (Bool × ℕ)) (next : ℕ → Option ℕ) (len : ℕ → ℕ) (row : Bool × ℕ) (n first : ℕ) → IsProp (IsRow owner next len row n first)
IsRow-prop owner next len row n first = Prim.hlevel (props, AreOnce-prop, IsLinked-prop)

pub AreRows-prop : (nodes : List (ℕ × Node Chain)) (slots : List (Option Block)) → IsProp (AreRows nodes slots)
AreRows-prop nodes slots = Prim.hlevel (props, IsRow-prop)

pub ArePlaced-prop : (nodes : List (ℕ × Node Chain)) (slots : List (Option Block)) (places : List (Link × Places Place)) → IsProp (ArePlaced nodes slots places)
ArePlaced-prop nodes slots places = Prim.hlevel (props, AreRows-prop)
