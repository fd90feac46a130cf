-- What the drawn edges stand for, and what a turn leaves.
use Rattle.std.specs.Prelude.{◌≡◌, ℕ, List, ◌++◌, map}
use Rattle.flux_model.specs.declared.graph.Triple.{Triple}
use Rattle.flux_model.specs.Generated.{Turn, triple_of, update_line}
use Rattle.flux_gen.specs.declared.draws.Edge.{Edge}

abbrev pub edge_triple : Edge → Triple
edge_triple e = triple_of e.src e.dst e.label

abbrev pub edge_triples : List Edge → List Triple
edge_triples edges = map edge_triple edges

-- the line of the update was written, and the drawn edges and the state are those after the turn
pub record Took (t : Turn) (old new : List ℕ) (drawn : List Edge) (state : ℕ) : Type 0 where
  pub text : new ≡ old ++ update_line t.update
  pub edges : edge_triples drawn ≡ t.drawn
  pub next_state : state ≡ t.state
