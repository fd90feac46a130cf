-- Laws of the embeddings that a triple brings.
use Rattle.std.specs.Prelude.{◌≡◌, ℕ, ◌<◌, ◌↔◌, List, [], length, flat_map, false, Some, Contains, IsPermutation}
use Rattle.std.specs.List.{range_with_len, slice_get}
use Rattle.std.specs.Str.{bytes_eq}
use Rattle.flux_model.specs.Graph.{Graph, has_triple, with_triple}
use Rattle.flux_model.specs.Pattern.{PatternGraph}
use Rattle.flux_model.specs.Embedding.{embeddings}
use Rattle.flux_model.specs.Change.{gained}
use Rattle.flux_model.specs.declared.graph.Triple.{Triple}
use Rattle.flux_model.specs.declared.pattern.PatternEdge.{PatternEdge}
use Rattle.flux_model.specs.Classes.{edge_class}

-- an embedding of the graph with a triple more lies in some class exactly where it was none before
abbrev pub ClassesAreNew : Type 0
ClassesAreNew = (q : PatternGraph) (g : Graph) (t : Triple) (m : List ℕ) → has_triple g t ≡ false → Contains (embeddings q (with_triple g t)) m
    → ((i : ℕ) × (i < length q.edges) × Contains (edge_class q (with_triple g t) t i) m) ↔ (Contains (embeddings q g) m → ⊥)

-- it lies in one class only
abbrev pub ClassesAreApart : Type 0
ClassesAreApart = (q : PatternGraph) (g : Graph) (t : Triple) (m : List ℕ) (i k : ℕ) → Contains (edge_class q g t i) m → Contains (edge_class q g t k) m → i ≡ k

-- the classes of all pattern edges together are what the triple brings
abbrev pub ClassesAreGained : Type 0
ClassesAreGained = (q : PatternGraph) (g : Graph) (t : Triple) → has_triple g t ≡ false
    → IsPermutation (gained q g (with_triple g t)) (flat_map (edge_class q (with_triple g t) t) (range_with_len 0 (length q.edges)))

-- the class of an edge with another label than the triple's is empty
abbrev pub OtherLabelClassIsEmpty : Type 0
OtherLabelClassIsEmpty = (q : PatternGraph) (g : Graph) (t : Triple) (i : ℕ) (e : PatternEdge) → slice_get q.edges i ≡ Some e → bytes_eq e.label t.label ≡ false → edge_class q g t i ≡ []
