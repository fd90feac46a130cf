use Rattle.std.proofs.Common.{◌≡◌, ℕ, List, length, sym, ap, subst, ◌∙◌}
use Rattle.std.specs.Prelude.{Some, slice_get}
use Rattle.std.proofs.lemmas.List.FromFn.{length-map-range_with_len}
use Rattle.flux_model.specs.Tree.{children}
use Rattle.dcg_transition.proofs.FittingLemmas.{root-fitting}
use Rattle.label_graph.specs.Meaning.{graph_in}
use Rattle.std.specs.Map.{keys_of}
use Rattle.worked_rows.proofs.state_rows.builds_from_roots.Goals as goal

pub build_from-requires-clause-roots : goal.build_from-requires-clause-roots
build_from-requires-clause-roots c =
    let graph = c.args.graph.now in
    let labels = subst (λ u. slice_get c.args.pattern.now.labels u ≡ Some c.labels.result.now) c.root.ensures.root c.labels.ensures in
    c.as_slice.ensures.value ∙ c.in_ok-roots.ensures.vertices ∙ sym (root-fitting c.args.pattern.now c.args.tree.now (graph_in graph) (keys_of graph.nodes.entries) c.labels.result.now labels)

pub are_rows-requires-clause-vertices : goal.are_rows-requires-clause-vertices
are_rows-requires-clause-vertices c =
    ap (λ (l : List ℕ). length l) c.in_ok-dcg.ensures.exact.children
    ∙ length-map-range_with_len (λ u. length (children c.args.tree.now u)) 0 (length c.args.tree.now.links)
