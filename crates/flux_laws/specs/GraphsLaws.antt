-- Laws of graphs and their changes.
use Rattle.std.specs.Prelude.{◌≡◌, ◌≢◌, ℕ, ◌↔◌, ◌⊎◌, List, Ok, Err, Contains}
use Rattle.flux_model.specs.declared.graph.Vertex.{Vertex}
use Rattle.flux_model.specs.Text.{IsText}
use Rattle.flux_model.specs.Graph.{Graph, IsVertex, IsGraph, IsWithin, apply}
use Rattle.flux_model.specs.Pattern.{PatternGraph}
use Rattle.flux_model.specs.Report.{next_graph, block, refusal_line}
use Rattle.flux_model.specs.declared.code.Code.{Code}
use Rattle.flux_model.specs.declared.said.Said.TheVariants.{Says}
use Rattle.flux_model.specs.declared.graph.Triple.{Triple}
use Rattle.flux_model.specs.declared.graph.Update.{Update}
use Rattle.flux_model.specs.declared.graph.Update.TheVariants.{AddVertex, DropVertex, AddEdge, DropEdge}
use Rattle.flux_model.specs.declared.limits.Limits.{Limits}

-- what the update adds may stand in a graph
abbrev pub IsSound : Update → Type 0
IsSound (AddVertex id labels) = IsVertex (record { id = id; labels = labels })
IsSound (DropVertex id) = Unit {0}
IsSound (AddEdge t) = IsText t.label
IsSound (DropEdge t) = Unit {0}

-- an accepted change of a graph makes a graph
abbrev pub ChangeKeepsGraph : Type 0
ChangeKeepsGraph = (limits : Limits) (g h : Graph) (update : Update) → IsGraph g → IsSound update → apply limits g update ≡ Ok h → IsGraph h

-- an accepted change does not pass the limits
abbrev pub ChangeKeepsLimits : Type 0
ChangeKeepsLimits = (limits : Limits) (g h : Graph) (update : Update) → IsWithin limits g → apply limits g update ≡ Ok h → IsWithin limits h

-- a refused update changes nothing, and each time that it comes again it is refused alike
abbrev pub RefusalRepeats : Type 0
RefusalRepeats =
    (limits : Limits) (patterns : List PatternGraph) (k : ℕ) (g : Graph) (update : Update) (c : Code) → apply limits g update ≡ Err c →
    let next = next_graph limits g (Says update) in
    (next ≡ g) × (apply limits next update ≡ Err c) × (block limits k patterns next (Says update) ≡ refusal_line k c)

-- an edge that was added can be removed, which gives the graph that was there before
abbrev pub RemovalUndoesEdge : Type 0
RemovalUndoesEdge = (limits : Limits) (g h : Graph) (t : Triple) → apply limits g (AddEdge t) ≡ Ok h → apply limits h (DropEdge t) ≡ Ok g

-- so can a vertex that was added
abbrev pub RemovalUndoesVertex : Type 0
RemovalUndoesVertex =
    (limits : Limits) (g h : Graph) (id : ℕ) (labels : List (List ℕ)) → IsGraph g → apply limits g (AddVertex id labels) ≡ Ok h → apply limits h (DropVertex id) ≡ Ok g

-- an edge that was removed can be added again, which gives the graph that was there before
abbrev pub InsertionUndoesEdge : Type 0
InsertionUndoesEdge =
    (limits : Limits) (g h : Graph) (t : Triple) → IsGraph g → IsWithin limits g → apply limits g (DropEdge t) ≡ Ok h → apply limits h (AddEdge t) ≡ Ok g

-- a vertex that was removed can be added again with its labels, which gives the graph that was there before
abbrev pub InsertionUndoesVertex : Type 0
InsertionUndoesVertex =
    (limits : Limits) (g h : Graph) (v : Vertex) → IsGraph g → IsWithin limits g → Contains g.vertices v → apply limits g (DropVertex v.id) ≡ Ok h → apply limits h (AddVertex v.id v.labels) ≡ Ok g

-- ---- what is there after a change

-- the changed graph has this triple, the others that were there, and the same vertices
pub record HasEdgeToo (g h : Graph) (t : Triple) : Type 0 where
  pub vertices : h.vertices ≡ g.vertices
  pub triples : (s : Triple) → Contains h.triples s ↔ (Contains g.triples s ⊎ (s ≡ t))

pub record HasOtherEdges (g h : Graph) (t : Triple) : Type 0 where
  pub vertices : h.vertices ≡ g.vertices
  pub triples : (s : Triple) → Contains h.triples s ↔ (Contains g.triples s × (s ≢ t))

pub record HasVertexToo (g h : Graph) (v : Vertex) : Type 0 where
  pub vertices : (w : Vertex) → Contains h.vertices w ↔ (Contains g.vertices w ⊎ (w ≡ v))
  pub triples : h.triples ≡ g.triples

pub record HasOtherVertices (g h : Graph) (id : ℕ) : Type 0 where
  pub vertices : (w : Vertex) → Contains h.vertices w ↔ (Contains g.vertices w × (w.id ≢ id))
  pub triples : h.triples ≡ g.triples

-- what an accepted update makes of the graph
abbrev pub Changes : Graph → Graph → Update → Type 0
Changes g h (AddVertex id labels) = HasVertexToo g h (record { id = id; labels = labels })
Changes g h (DropVertex id) = HasOtherVertices g h id
Changes g h (AddEdge t) = HasEdgeToo g h t
Changes g h (DropEdge t) = HasOtherEdges g h t

-- an accepted update adds or removes exactly what it names
abbrev pub ChangeIsExact : Type 0
ChangeIsExact = (limits : Limits) (g h : Graph) (update : Update) → apply limits g update ≡ Ok h → Changes g h update
