use Rattle.std.specs.Cmp.Lexicographic.{nat_list_cmp_total}
use Rattle.std.proofs.lemmas.Map.Lookups.{exact_bytes}
use Rattle.flux_model.specs.Text.{text_cmp}
use Rattle.flux_model.specs.Graph.{triple_cmp}
use Rattle.flux_laws.proofs.SetsLemmas.{determined, triple_total, same_triple}
use Rattle.flux_laws.proofs.sets.is_determined_by_members.Goals as goal

pub returns : goal.returns
returns c = record {
  texts = determined text_cmp nat_list_cmp_total exact_bytes;
  triples = determined triple_cmp triple_total same_triple;
}
