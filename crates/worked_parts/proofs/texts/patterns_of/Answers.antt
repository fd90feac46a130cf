use Rattle.flux_model.specs.Verdict.{pattern_file}
use Rattle.worked_parts.proofs.FileLemmas.{read_as_text}
use Rattle.worked_parts.proofs.texts.patterns_of.Goals as goal

pub returns : goal.returns
returns c = read_as_text pattern_file c.standard-limits.result c.in_ok-shelf.shelf.entries _ c.args.text.now _ c.standard-limits.ensures c.in_ok-shelf.ensures c.in_ok-patterns.ensures.ok
