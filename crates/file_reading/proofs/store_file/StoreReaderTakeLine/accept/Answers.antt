use Rattle.std.proofs.Common.{◌≡◌, Ok, Err, subst}
use Rattle.flux_model.specs.LentLine.{seen_line}
use Rattle.flux_model.specs.Graph.{LimitedGraph}
use Rattle.file_reading.specs.AfterLine.{after_graph_line}
use Rattle.file_reading.proofs.GraphFileLemmas.{store-takes, store-refuses}
use Rattle.file_reading.proofs.store_file.StoreReaderTakeLine.accept.Goals as goal

pub returns-in-Err-clause-taken : goal.returns-in-Err-clause-taken
returns-in-Err-clause-taken g c =
    let kept : LimitedGraph = record { limits = g.G.HoldGraph.limits c.self.inside.graph; graph = g.G.HoldGraph.graph c.self.inside.graph } in
    subst (λ (s : LimitedGraph). after_graph_line c.args.number s (seen_line c.args.line.now) ≡ Err (record { line = c.args.number; code = c.in-Err.code })) c.self.view_is
    (store-refuses c.args.number kept (seen_line c.args.line.now) c.in-Err.code ((rw c.in-Err.is at c.in_ok-code.ensures.refused) c.args.number))

pub returns-clause-taken : goal.returns-clause-taken
returns-clause-taken g c =
    let kept : LimitedGraph = record { limits = g.G.HoldGraph.limits c.self.inside.graph; graph = g.G.HoldGraph.graph c.self.inside.graph } in
    let next : LimitedGraph = record { limits = g.G.HoldGraph.limits c.take_graph_line.new.graph; graph = g.G.HoldGraph.graph c.take_graph_line.new.graph } in
    subst (λ (s : LimitedGraph). after_graph_line c.args.number s (seen_line c.args.line.now) ≡ Ok next) c.self.view_is
    (store-takes c.args.number kept next (seen_line c.args.line.now) c.in_ok-code.ensures.limits ((rw c.in_default.is at c.in_ok-code.ensures.ok) c.args.number))
