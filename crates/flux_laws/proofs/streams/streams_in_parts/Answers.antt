use Rattle.flux_laws.proofs.StreamsLemmas.{streams_cut}
use Rattle.flux_laws.proofs.streams.streams_in_parts.Goals as goal

pub returns : goal.returns
returns c = streams_cut
