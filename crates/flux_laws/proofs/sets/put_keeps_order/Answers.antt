use Rattle.std.specs.Cmp.Lexicographic.{nat_list_cmp_total}
use Rattle.flux_model.specs.Text.{text_cmp}
use Rattle.flux_model.specs.Graph.{vertex_cmp, triple_cmp}
use Rattle.flux_laws.proofs.SetsLemmas.{keeps_order, vertex_total, triple_total}
use Rattle.flux_laws.proofs.sets.put_keeps_order.Goals as goal

pub returns : goal.returns
returns c = record {
  texts = keeps_order text_cmp nat_list_cmp_total;
  vertices = keeps_order vertex_cmp vertex_total;
  triples = keeps_order triple_cmp triple_total;
}
