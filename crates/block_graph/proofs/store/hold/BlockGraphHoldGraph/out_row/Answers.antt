use Rattle.std.proofs.Common.{false, List, map, sym, subst}
use Rattle.std.specs.Prelude.{IsPermutation}
use Rattle.graph_traits.specs.Rows.{triples_from}
use Rattle.label_graph.specs.declared.link.RowEntry.{RowEntry}
use Rattle.label_graph.specs.Store.{triple_of}
use Rattle.block_graph.specs.Blocks.{row_link}
use Rattle.block_graph.specs.Meaning.{graph_in}
use Rattle.block_graph.proofs.SideRowLemmas.{out_row_is}
use Rattle.block_graph.proofs.store.hold.BlockGraphHoldGraph.out_row.Goals as goal

pub returns-clause-all : goal.returns-clause-all
returns-clause-all c =
    let P : List RowEntry → Type 0 = λ l. IsPermutation (map (λ (t : RowEntry). triple_of c.args.self.now.names (row_link (false, c.args.v) t)) l) (triples_from (graph_in c.args.self.now) c.args.v) in
    subst P (sym c.first_spot.ensures.all) (out_row_is c.args.self.now.nodes.entries c.args.self.now.blocks.slots c.args.self.now.places.entries c.args.self.now.placed c.args.self.now.names c.args.self.now.named c.len-names.ensures.table c.args.v)
