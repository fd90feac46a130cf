use Rattle.flux_laws.proofs.MatchLemmas.{counted}
use Rattle.flux_laws.proofs.reports.end_line_counts_answers.Goals as goal

pub returns : goal.returns
returns c = counted
