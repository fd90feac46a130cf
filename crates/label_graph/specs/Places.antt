-- Rows, and where a triple stands in them.
use Rattle.std.specs.declared.alloc.Global.{Global}
use Rattle.std.specs.Prelude.{Vec, ◌≡◌, ◌≢◌, ℕ, ◌+◌, ◌<◌, ◌&&◌, ◌==◌, nat_eq, Bool, List, [], Option, Some, None, option_map, cond}
use Rattle.std.specs.Prelude.{slice_get, length, IsSomeAnd, vec_len, vec_capacity}
use Rattle.std.specs.Map.{lookup, keys_of}
use Rattle.flux_model.specs.declared.graph.Vertex.{Vertex}
use Rattle.label_graph.specs.declared.link.Link.{Link}
use Rattle.label_graph.specs.declared.link.Member.{Member}
use Rattle.label_graph.specs.declared.link.RowEntry.{RowEntry}
use Rattle.label_graph.specs.declared.link.Places.{Places}
use Rattle.label_graph.specs.declared.link.Node.{Node}

-- what stands at a place, and the place where it stands: each is the other read backwards
pub record AreInverse {A B : Type 0} (f : A → Option B) (g : B → Option A) : Type 0 where
  pub there : (a : A) (b : B) → f a ≡ Some b → g b ≡ Some a
  pub back : (b : B) (a : A) → g b ≡ Some a → f a ≡ Some b

-- whether two links have the same ends and label
abbrev pub link_eq : Link → Link → Bool
link_eq k l = (k.src == l.src) && ((k.label == l.label) && (k.dst == l.dst))

-- ---- rows

-- a row as a vector of entries
abbrev pub Row : Type 0
Row = Vec RowEntry Global

-- the out row of a node, empty where there is none
abbrev pub outs_of : Option (Node Row) → List RowEntry
outs_of None = []
outs_of (Some p) = p.outs.items

-- the in row of a node, empty where there is none
abbrev pub ins_of : Option (Node Row) → List RowEntry
ins_of None = []
ins_of (Some p) = p.ins.items

-- the out row of an id
abbrev pub outs : List (ℕ × Node Row) → ℕ → List RowEntry
outs nodes v = outs_of (lookup (nat_eq v) nodes)

-- the in row of an id
abbrev pub ins : List (ℕ × Node Row) → ℕ → List RowEntry
ins nodes v = ins_of (lookup (nat_eq v) nodes)

-- the triple of an entry in the out row of a vertex
abbrev pub out_link : ℕ → RowEntry → Link
out_link v t = record { src = v; label = t.label; dst = t.other }

-- the triple of an entry in the in row of a vertex
abbrev pub in_link : ℕ → RowEntry → Link
in_link v t = record { src = t.other; label = t.label; dst = v }

-- the triple at a place of rows: a vertex, and a number in its row
abbrev pub link_at : (ℕ → RowEntry → Link) → (ℕ → List RowEntry) → ℕ × ℕ → Option Link
link_at link rows a = option_map (link a.0) (slice_get (rows a.0) a.1)

-- a row after its entry at i was taken away and its last entry put there
pub record IsPulled (i : ℕ) (xs ys : List RowEntry) : Type 0 where
  pub shorter : length ys + 1 ≡ length xs
  pub moved : i < length ys → slice_get ys i ≡ slice_get xs (length ys)
  pub others : (k : ℕ) → k ≢ i → k < length ys → slice_get ys k ≡ slice_get xs k

-- ---- places

-- where a triple stands in the out row of its source
abbrev pub out_place : List (Link × Places ℕ) → Link → Option (ℕ × ℕ)
out_place places k = option_map (λ p. (k.src, p.out_at)) (lookup (link_eq k) places)

-- where a triple stands in the in row of its target
abbrev pub in_place : List (Link × Places ℕ) → Link → Option (ℕ × ℕ)
in_place places k = option_map (λ p. (k.dst, p.in_at)) (lookup (link_eq k) places)

-- places as they are noted, but for one triple, which stands at this place
abbrev pub placed_at : (Link → Option (ℕ × ℕ)) → Link → ℕ × ℕ → Link → Option (ℕ × ℕ)
placed_at noted k a q = cond (link_eq k q) (Some a) (noted q)

-- the triples stand in the rows at the places that are noted for them, and nothing else does
pub record ArePlaced (nodes : List (ℕ × Node Row)) (places : List (Link × Places ℕ)) : Type 0 where
  pub outs : AreInverse (link_at out_link (outs nodes)) (out_place places)
  pub ins : AreInverse (link_at in_link (ins nodes)) (in_place places)

-- ---- room for one more entry

-- an entry more fits into the out row of the vertex
abbrev pub HasRoomOut : List (ℕ × Node Row) → ℕ → Type 0
HasRoomOut nodes v = IsSomeAnd (lookup (nat_eq v) nodes) (λ p. vec_len p.outs < vec_capacity p.outs)

-- an entry more fits into the in row of the vertex
abbrev pub HasRoomIn : List (ℕ × Node Row) → ℕ → Type 0
HasRoomIn nodes v = IsSomeAnd (lookup (nat_eq v) nodes) (λ p. vec_len p.ins < vec_capacity p.ins)

-- ---- vertices

-- the vertex stands where it says
abbrev pub IsAt : {R : Type 0} → List (ℕ × Node R) → Member → Type 0
IsAt nodes v = slice_get (keys_of nodes) v.index ≡ Some v.id

-- the vertex of a node
abbrev pub vertex_of : {R : Type 0} → ℕ × Node R → Vertex
vertex_of e = record { id = e.0; labels = e.1.labels }
