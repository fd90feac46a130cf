-- What the order of a search has.
use Rattle.std.specs.Prelude.{◌≡◌, ◌≢◌, ◌<◌, IsTrue, ℕ, suc, List, ◌∷◌, length, map, reverse, take, All, AllPairs, Contains, slice_index}
use Rattle.flux_model.specs.Tree.{QueryTree}
use Rattle.flux_model.specs.Order.{Place, SearchOrder, are_neighbours}

-- the start, and then the others
abbrev pub vertices : SearchOrder → List ℕ
vertices o = o.start ∷ map (λ (p : Place). p.vertex) o.places

-- of each vertex but the start
abbrev pub anchors : SearchOrder → List ℕ
anchors o = map (λ (p : Place). p.anchor) o.places

-- the placed vertices, the latest first
abbrev pub latest_first : SearchOrder → List ℕ
latest_first o = reverse (vertices o)

-- the anchor of place j stands before its vertex, and is its neighbour in the tree
pub record IsAnchored (t : QueryTree) (o : SearchOrder) (j : ℕ) : Type 0 where
  pub before : Contains (take (suc j) (vertices o)) (slice_index (anchors o) j)
  pub near : IsTrue (are_neighbours t (slice_index (vertices o) (suc j)) (slice_index (anchors o) j))

-- every vertex of the tree stands in the order exactly once, next to one that stands before it
pub record IsOrderOf (t : QueryTree) (o : SearchOrder) : Type 0 where
  pub count : length (vertices o) ≡ length t.links
  pub inside : All (λ u. u < length t.links) (vertices o)
  pub every : (u : ℕ) → u < length t.links → Contains (vertices o) u
  pub distinct : AllPairs (λ u w. u ≢ w) (vertices o)
  pub anchored : (j : ℕ) → j < length o.places → IsAnchored t o j
