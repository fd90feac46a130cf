use Rattle.std.proofs.Common.{◌≡◌}
use Rattle.std.specs.Prelude.{codes}
use Rattle.std.proofs.lemmas.Result.{IfOk-weaker, IfErr-weaker}
use Rattle.flux_outside.specs.MemShelf.{bytes_of}
use Rattle.flux_demo.specs.Files.{IsNoVerdict}
use Rattle.flux_demo.proofs.FileLemmas.{patterns-read, patterns-stop}
use Rattle.flux_demo.proofs.demonstration.load_patterns.Goals as goal

pub returns-clause-ok : goal.returns-clause-ok
returns-clause-ok c = λ qs is.
    IfOk-weaker c.read_patterns.result _ (λ patterns. patterns ≡ qs)
    (λ patterns read. patterns-read c.standard.result c.standard.ensures (bytes_of c.add.new.self.entries (codes "patterns")) c.args.file.now c.in-Ok.ensures.set c.requires.size qs patterns is read)
    c.read_patterns.ensures.ok

pub returns-clause-stop : goal.returns-clause-stop
returns-clause-stop c = λ qs is.
    IfErr-weaker c.read_patterns.result _ IsNoVerdict
    (λ why stop. patterns-stop c.standard.result c.standard.ensures (bytes_of c.add.new.self.entries (codes "patterns")) c.args.file.now c.in-Ok.ensures.set c.requires.size qs _ why is stop)
    c.read_patterns.ensures.stop
