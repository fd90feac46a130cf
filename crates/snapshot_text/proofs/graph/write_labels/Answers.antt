use Rattle.line_words.specs.Words.{spaced}
use Rattle.flux_model.proofs.GrownLemmas.{on_err, flat_map_next, grew_at}
use Rattle.snapshot_text.proofs.graph.write_labels.Goals as goal

pub returns-in_err-write_word-clause-err : goal.returns-in_err-write_word-clause-err
returns-in_err-write_word-clause-err c =
    on_err _ (grew_at spaced _ _ _ c.args.labels.now c.loop-i.i c.get.result.now c.get.ensures c.loop-i.invariant
    (rw (← c.bytes.ensures.value) c.in_err-write_word.ensures.err))

pub loop-i-preserved : goal.loop-i-preserved
loop-i-preserved c =
    flat_map_next spaced _ _ _ c.args.labels.now c.loop-i.i c.get.result.now c.get.ensures c.loop-i.invariant
    (rw (← c.bytes.ensures.value) c.in_ok-write_word.ensures.ok)
