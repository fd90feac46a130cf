use Rattle.std.proofs.Common.{◌≡◌}
use Rattle.std.specs.Prelude.{codes}
use Rattle.std.proofs.lemmas.Result.{IfOk-weaker, IfErr-weaker}
use Rattle.flux_outside.specs.MemShelf.{bytes_of}
use Rattle.flux_demo.specs.Files.{IsNoVerdict}
use Rattle.flux_demo.proofs.FileLemmas.{graph-read, graph-stop}
use Rattle.flux_demo.proofs.demonstration.load_graph.Goals as goal

pub returns-clause-ok : goal.returns-clause-ok
returns-clause-ok g c = λ h is.
    IfOk-weaker c.read_store.result _ (λ graph. g.G.HoldGraph.graph graph ≡ h)
    (λ graph read. graph-read c.standard.result c.standard.ensures (bytes_of c.add.new.self.entries (codes "graph")) c.args.file.now c.in-Ok.ensures.set c.requires.size h (g.G.HoldGraph.graph graph) is read)
    c.read_store.ensures.ok

pub returns-clause-stop : goal.returns-clause-stop
returns-clause-stop g c = λ h is.
    IfErr-weaker c.read_store.result _ IsNoVerdict
    (λ why stop. graph-stop c.standard.result c.standard.ensures (bytes_of c.add.new.self.entries (codes "graph")) c.args.file.now c.in-Ok.ensures.set c.requires.size h _ why is stop)
    c.read_store.ensures.stop
