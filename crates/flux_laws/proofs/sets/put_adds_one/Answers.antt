use Rattle.std.specs.Cmp.Lexicographic.{nat_list_cmp_total}
use Rattle.flux_model.specs.Text.{text_cmp}
use Rattle.flux_model.specs.Graph.{vertex_cmp, triple_cmp}
use Rattle.flux_laws.proofs.SetsLemmas.{adds_one, vertex_total, triple_total}
use Rattle.flux_laws.proofs.sets.put_adds_one.Goals as goal

pub returns : goal.returns
returns c = record {
  texts = adds_one text_cmp nat_list_cmp_total;
  vertices = adds_one vertex_cmp vertex_total;
  triples = adds_one triple_cmp triple_total;
}
