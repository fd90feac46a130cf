-- What adding a triple gives in a full graph.
use Rattle.std.proofs.Common.{◌≡◌, true, false, ◌||◌, nat_le, nat_lt, [], ◌∷◌, length, Err, refl}
use Rattle.flux_model.specs.Graph.{Graph, has_both_ends, has_triple, name_count, add_edge}
use Rattle.flux_model.specs.declared.code.Code.TheVariants as code
use Rattle.flux_model.specs.declared.graph.Triple.{Triple}
use Rattle.flux_model.specs.declared.limits.Limits.{Limits}

-- what `add_edge` gives where both ends are there, the triple is not, and a limit is reached
pub add_edge_full : (limits : Limits) (g : Graph) (t : Triple) → has_both_ends g t ≡ true → has_triple g t ≡ false → (nat_le limits.edges (length g.triples) || nat_lt limits.labels (name_count g (t.label ∷ []))) ≡ true → add_edge limits g t ≡ Err code.Full
add_edge_full limits g t ends absent full = rw (ends, absent, full) refl
