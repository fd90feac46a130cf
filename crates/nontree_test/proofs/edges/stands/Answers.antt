use Rattle.std.proofs.Common.{ℕ, Option, subst}
use Rattle.graph_traits.specs.Numbers.{IsNumberIn}
use Rattle.graph_traits.proofs.NumberLemmas.{lacks_triple}
use Rattle.nontree_test.proofs.edges.stands.Goals as goal

pub returns-in-None-clause-value : goal.returns-in-None-clause-value
returns-in-None-clause-value g c =
    let texts = g.G.HoldGraph.label_text c.args.graph.now in
    let graph = g.G.HoldGraph.graph c.args.graph.now in
    let P : Option ℕ → Type 0 = λ o. IsNumberIn texts graph c.args._label.now o in
    lacks_triple texts graph c.args._label.now c.args.src c.args.dst (subst P c.in-None.is c.requires)
