use Rattle.flux_model.specs.Graph.{triple_cmp}
use Rattle.flux_laws.proofs.SetsLemmas.{membership, text_membership, triple_total, same_triple}
use Rattle.flux_laws.proofs.sets.is_in_is_membership.Goals as goal

pub returns : goal.returns
returns c = record {
  texts = text_membership;
  triples = membership triple_cmp triple_total same_triple;
}
