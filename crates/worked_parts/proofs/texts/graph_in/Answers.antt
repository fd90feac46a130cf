use Rattle.flux_model.specs.Verdict.{graph_file}
use Rattle.worked_parts.proofs.FileLemmas.{read_as_text}
use Rattle.worked_parts.proofs.texts.graph_in.Goals as goal

pub returns : goal.returns
returns b c = read_as_text graph_file c.standard-limits.result c.in_ok-shelf.shelf.entries _ c.args.text.now _ c.standard-limits.ensures c.in_ok-shelf.ensures c.in_ok-graph.ensures.ok
