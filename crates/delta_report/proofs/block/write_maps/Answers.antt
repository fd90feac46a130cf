use Rattle.std.proofs.Common.{◌≡◌, ◌++◌, [], ◌∷◌, ◌<◌, length, refl, arith}
use Rattle.std.proofs.lemmas.Result.{on_ok_weaker, on_err_weaker}
use Rattle.line_words.specs.Words.{spaced}
use Rattle.flux_model.specs.Report.{map_line}
use Rattle.flux_model.proofs.GrownLemmas.{on_err, grew_first, grew_later}
use Rattle.delta_report.proofs.MapWordsLemmas.{map_front, map_line-front, front_stopped, lines_written, lines_stopped, written_both}
use Rattle.delta_report.proofs.block.write_maps.Goals as goal

pub returns-in_err-start_line-clause-err : goal.returns-in_err-start_line-clause-err
returns-in_err-start_line-clause-err c =
    let sign = c.args.sign ∷ [] in
    let some : 0 < length c.args.maps.now = omega arith in
    on_err _ (front_stopped (map_line sign c.args.number c.args.name.now) (map_front sign c.args.number c.args.name.now) c.args.out.now.items c.start_line.new.out.items c.args.maps.now (map_line-front sign c.args.number c.args.name.now) some
    (grew_first _ _ _ (spaced c.args.name.now) c.in_err-start_line.ensures.err))

pub returns-in_err-write_word-clause-err : goal.returns-in_err-write_word-clause-err
returns-in_err-write_word-clause-err c =
    let sign = c.args.sign ∷ [] in
    let some : 0 < length c.args.maps.now = omega arith in
    on_err _ (front_stopped (map_line sign c.args.number c.args.name.now) (map_front sign c.args.number c.args.name.now) c.args.out.now.items c.write_word.new.out.items c.args.maps.now (map_line-front sign c.args.number c.args.name.now) some
    (grew_later _ _ _ _ (spaced c.args.name.now) c.in_ok-start_line.ensures.ok c.in_err-write_word.ensures.err))

pub returns-clause-ok : goal.returns-clause-ok
returns-clause-ok c =
    let sign = c.args.sign ∷ [] in
    let front = map_front sign c.args.number c.args.name.now in
    let begun : c.write_word.new.out.items ≡ c.args.out.now.items ++ front = written_both _ _ _ _ _ front refl c.in_ok-start_line.ensures.ok c.in_ok-write_word.ensures.ok in
    on_ok_weaker c.end_map_lines.result
    (lines_written (map_line sign c.args.number c.args.name.now) front (map_line-front sign c.args.number c.args.name.now) c.args.out.now.items c.write_word.new.out.items _ (omega arith) begun c.args.maps.now c.end_map_lines.new.out.items)
    c.end_map_lines.ensures.ok

pub returns-clause-err : goal.returns-clause-err
returns-clause-err c =
    let sign = c.args.sign ∷ [] in
    let front = map_front sign c.args.number c.args.name.now in
    let begun : c.write_word.new.out.items ≡ c.args.out.now.items ++ front = written_both _ _ _ _ _ front refl c.in_ok-start_line.ensures.ok c.in_ok-write_word.ensures.ok in
    on_err_weaker c.end_map_lines.result
    (lines_stopped (map_line sign c.args.number c.args.name.now) front (map_line-front sign c.args.number c.args.name.now) c.args.out.now.items c.write_word.new.out.items _ (omega arith) begun c.args.maps.now c.end_map_lines.new.out.items)
    c.end_map_lines.ensures.err
