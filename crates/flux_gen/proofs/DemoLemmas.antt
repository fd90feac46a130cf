-- The summary is that of the files, which are accepted.
use Rattle.std.proofs.Common.{cond, Ok, ap, ◌∙◌, arith, count_by}
use Rattle.std.proofs.lemmas.List.Sums.{sum_by-append}
use Rattle.flux_model.specs.Limits.{standard}
use Rattle.flux_model.specs.Lines.{parts, all_but_last}
use Rattle.flux_model.specs.PatternFile.{patterns_of}
use Rattle.flux_laws.proofs.ReportsLemmas.{cut_in_parts}
use Rattle.flux_model.specs.Generated.{Files, generated}
use Rattle.flux_gen.specs.Law.{AreSizes, DemoIsSummary, CountsAddUp, generated_graph}
use Rattle.flux_model.specs.Demo.{summary_of, demo_text, is_map_line}
use Rattle.flux_gen.proofs.LawLemmas.{graph_file_accepted, pattern_file_accepted}

demo_sizes : AreSizes 20000 60000
demo_sizes = record { some = omega arith; vertices = omega arith; triples = omega arith }

pub demo_is_summary : DemoIsSummary
unfolding demo_text
demo_is_summary number =
    let files : Files = generated number 20000 60000 5000 in
    ap (λ g. summary_of number g (patterns_of standard files.patterns) files.updates) (graph_file_accepted number 20000 60000 5000 demo_sizes)
    ∙ ap (λ qs. summary_of number (Ok (generated_graph number 20000 60000)) qs files.updates) (pattern_file_accepted number 20000 60000 5000)

pub counts_add_up : CountsAddUp
counts_add_up sign name first second ended =
    ap (count_by (is_map_line sign name)) (cut_in_parts first second ended).0
    ∙ sum_by-append (λ line. cond (is_map_line sign name line) 1 0) (all_but_last (parts first)) (all_but_last (parts second))
