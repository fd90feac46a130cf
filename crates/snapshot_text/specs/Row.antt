-- The edges of a vertex's row.
use Rattle.std.specs.Prelude.{ℕ}
use Rattle.flux_model.specs.declared.graph.Triple.{Triple}
use Rattle.snapshot_text.specs.declared.row.RowEdge.{RowEdge}

-- the triple that an edge of the row of src stands for
abbrev pub edge_triple : ℕ → RowEdge → Triple
edge_triple src edge = record { src = src; label = edge.label.now; dst = edge.other }
