use Rattle.std.proofs.Common.{ℕ, List, length, ap, ◌∙◌}
use Rattle.std.proofs.lemmas.List.FromFn.{length-map-range_with_len}
use Rattle.flux_model.specs.Tree.{children}
use Rattle.worked_rows.proofs.state_rows.builds.Goals as goal

pub are_rows-requires-clause-vertices : goal.are_rows-requires-clause-vertices
are_rows-requires-clause-vertices c =
    ap (λ (l : List ℕ). length l) c.in_ok-dcg.ensures.exact.children
    ∙ length-map-range_with_len (λ u. length (children c.args.tree.now u)) 0 (length c.args.tree.now.links)
