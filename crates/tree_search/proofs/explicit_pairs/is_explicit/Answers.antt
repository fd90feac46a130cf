use Rattle.std.proofs.Common.{arith}
use Rattle.tree_search.proofs.TieLemmas.{children_count, explicit_told, other_told}
use Rattle.tree_search.proofs.explicit_pairs.is_explicit.Goals as goal

pub pair_state-requires-clause-vertex : goal.pair_state-requires-clause-vertex
pair_state-requires-clause-vertex g c =
    omega (arith, c.requires.vertex, children_count c.args._pattern.now c.args._tree.now c.args.dcg.now (g.G.HoldGraph.graph c.args._graph.now) c.requires.belongs c.requires.exact)

pub returns-in-Explicit-clause-value : goal.returns-in-Explicit-clause-value
returns-in-Explicit-clause-value g c =
    explicit_told c.args._pattern.now c.args._tree.now c.args.dcg.now (g.G.HoldGraph.graph c.args._graph.now) c.requires.belongs c.requires.exact c.args.u c.args.v c.pair_state.result c.pair_state.ensures.state c.in-Explicit.is

pub returns-in_default-clause-value : goal.returns-in_default-clause-value
returns-in_default-clause-value g c =
    other_told c.args._pattern.now c.args._tree.now c.args.dcg.now (g.G.HoldGraph.graph c.args._graph.now) c.requires.belongs c.requires.exact c.args.u c.args.v c.pair_state.result c.pair_state.ensures.state c.in_default.not-Explicit
