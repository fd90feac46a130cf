use Rattle.watch_cli.proofs.AnswersLemmas.{in_order}
use Rattle.watch_cli.proofs.answers.sorted_answers.Goals as goal

pub returns-clause-answers : goal.returns-clause-answers
returns-clause-answers g c =
    λ q is. in_order q (g.G.HoldGraph.graph c.args.graph.now) c.in_ok-maps.maps c.sort.new.self c.vertex_count.ensures.held.graph.ascending_vertices (c.in_ok-maps.ensures.answers q is) c.sort.ensures.permutation c.in_ok-sort.ensures.sorted
