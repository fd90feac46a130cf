-- Two graphs of which one has a vertex more, at which no triple ends.
use Rattle.std.specs.Prelude.{◌≡◌, ◌≢◌, ℕ, not, false, List}
use Rattle.flux_model.specs.Graph.{Graph, has_vertex, has_incident_triple}
use Rattle.flux_model.specs.Pattern.{fits_labels}

-- the vertex is in one of them alone, no triple ends there, and the others are alike
pub record IsVertexApart (id : ℕ) (old new : Graph) : Type 0 where
  pub triples : new.triples ≡ old.triples
  pub free : has_incident_triple old id ≡ false
  pub moved : has_vertex old id ≡ not (has_vertex new id)
  pub others : (labels : List (List ℕ)) (v : ℕ) → v ≢ id → fits_labels new labels v ≡ fits_labels old labels v
