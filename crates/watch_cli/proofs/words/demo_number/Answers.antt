use Rattle.std.proofs.Common.{sym, ap, arith, ◌∙◌}
use Rattle.std.specs.List.{list_all}
use Rattle.flux_model.specs.Reading.{is_digit}
use Rattle.watch_cli.proofs.NumberLemmas.{shown_number}
use Rattle.watch_cli.proofs.words.demo_number.Goals as goal

pub returns : goal.returns
returns c =
    let same = ap (list_all is_digit) c.as_bytes-digits.ensures.value in
    c.ok.ensures.value ∙ shown_number c.args.word.now c.parse.result c.parse.ensures.value.0 (omega arith) (sym same ∙ sym c.if-not-are_digits.ensures)
