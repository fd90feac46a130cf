use Rattle.dcg_store.proofs.FlatLemmas.{flat_none}
use Rattle.dcg_store.proofs.layer.Layer.new.Goals as goal

pub invariant_of-result : goal.invariant_of-result
invariant_of-result c = flat_none c.with_hasher.result.entries c.new.result.items c.with_hasher.ensures.empty c.new.ensures.items
