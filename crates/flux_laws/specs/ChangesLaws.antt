-- Laws of what a change of the graph does to the embeddings of a pattern.
use Rattle.std.specs.Prelude.{◌≡◌, ℕ, ◌↔◌, List, [], ◌++◌, Ok, Contains, IsTrue, IsPermutation}
use Rattle.std.specs.Ordering.{nat_cmp}
use Rattle.std.specs.Cmp.Lexicographic.{slice_cmp}
use Rattle.flux_model.specs.Ordered.{is_ascending}
use Rattle.flux_model.specs.Graph.{Graph, IsGraph, vertex_cmp, apply}
use Rattle.flux_model.specs.Pattern.{PatternGraph}
use Rattle.flux_model.specs.Embedding.{IsEmbedding, embeddings}
use Rattle.flux_model.specs.Change.{gained, lost}
use Rattle.flux_model.specs.declared.graph.Update.{Update}
use Rattle.flux_model.specs.declared.graph.Update.TheVariants.{AddVertex, DropVertex, AddEdge, DropEdge}
use Rattle.flux_model.specs.declared.limits.Limits.{Limits}

abbrev pub IsInsertion : Update → Type 0
IsInsertion (AddVertex id labels) = Unit {0}
IsInsertion (DropVertex id) = ⊥
IsInsertion (AddEdge t) = Unit {0}
IsInsertion (DropEdge t) = ⊥

abbrev pub IsRemoval : Update → Type 0
IsRemoval (AddVertex id labels) = ⊥
IsRemoval (DropVertex id) = Unit {0}
IsRemoval (AddEdge t) = ⊥
IsRemoval (DropEdge t) = Unit {0}

-- ---- what is gained and what is lost

-- gained is exactly what is an embedding in the new graph and was none in the old one
abbrev pub GainedAreNew : Type 0
GainedAreNew = (q : PatternGraph) (g h : Graph) (m : List ℕ) → Contains (gained q g h) m ↔ (IsEmbedding q h m × (IsEmbedding q g m → ⊥))

-- lost is exactly what was an embedding in the old graph and is none in the new one
abbrev pub LostAreOld : Type 0
LostAreOld = (q : PatternGraph) (g h : Graph) (m : List ℕ) → Contains (lost q g h) m ↔ (IsEmbedding q g m × (IsEmbedding q h m → ⊥))

-- nothing is gained and lost at once
abbrev pub NoneGainedAndLost : Type 0
NoneGainedAndLost = (q : PatternGraph) (g h : Graph) (m : List ℕ) → Contains (gained q g h) m → Contains (lost q g h) m → ⊥

-- what is gained stands in strictly ascending order
abbrev pub GainedAscend : Type 0
GainedAscend = (q : PatternGraph) (g h : Graph) → IsTrue (is_ascending vertex_cmp h.vertices) → IsTrue (is_ascending (slice_cmp nat_cmp) (gained q g h))

-- and so does what is lost
abbrev pub LostAscend : Type 0
LostAscend = (q : PatternGraph) (g h : Graph) → IsTrue (is_ascending vertex_cmp g.vertices) → IsTrue (is_ascending (slice_cmp nat_cmp) (lost q g h))

-- ---- insertions and removals

-- an accepted insertion loses no embedding
abbrev pub InsertionLosesNone : Type 0
InsertionLosesNone = (limits : Limits) (q : PatternGraph) (g h : Graph) (update : Update) → IsInsertion update → apply limits g update ≡ Ok h → lost q g h ≡ []

-- an accepted removal gains none
abbrev pub RemovalGainsNone : Type 0
RemovalGainsNone = (limits : Limits) (q : PatternGraph) (g h : Graph) (update : Update) → IsRemoval update → apply limits g update ≡ Ok h → gained q g h ≡ []

-- after an accepted insertion there are the old embeddings and those that were gained
abbrev pub InsertionAddsGained : Type 0
InsertionAddsGained =
    (limits : Limits) (q : PatternGraph) (g h : Graph) (update : Update) → IsGraph g → IsInsertion update → apply limits g update ≡ Ok h →
    IsPermutation (embeddings q h) (embeddings q g ++ gained q g h)

-- before an accepted removal there were those that are left and those that were lost
abbrev pub RemovalTakesLost : Type 0
RemovalTakesLost =
    (limits : Limits) (q : PatternGraph) (g h : Graph) (update : Update) → IsGraph g → IsRemoval update → apply limits g update ≡ Ok h →
    IsPermutation (embeddings q g) (embeddings q h ++ lost q g h)
