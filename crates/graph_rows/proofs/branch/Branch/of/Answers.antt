use Rattle.std.proofs.Common.{◌≡◌, [], sym, ap, ◌∙◌}
use Rattle.std.specs.Prelude.{Some}
use Rattle.std.proofs.lemmas.Option.{get_or_from_slice_get}
use Rattle.flux_model.specs.Tree.{link_at}
use Rattle.flux_model.specs.declared.pattern.PatternEdge.{PatternEdge}
use Rattle.graph_rows.specs.Directions.{direction_to}
use Rattle.graph_rows.proofs.branch.Branch.of.Goals as goal

pub edge-edge-requires : goal.edge-edge-requires
edge-edge-requires g c = (c.requires.belongs.links c.args.u c.unwrap-link.result (sym c.parent.ensures.link ∙ c.unwrap-link.ensures)).edge

pub returns-clause-branch : goal.returns-clause-branch
returns-clause-branch g c =
    let q = c.args.pattern.now in
    let edge = get_or_from_slice_get q.edges c.unwrap-link.result.edge c.edge-edge.result.now (record { tail = 0; label = []; head = 0 }) c.edge-edge.ensures.edge in
    let link : link_at c.args.tree.now c.args.u ≡ Some c.unwrap-link.result = sym c.parent.ensures.link ∙ c.unwrap-link.ensures in
    record {
      link = link;
      number = rw link at c.child_number.ensures;
      label = ap (λ (e : PatternEdge). e.label) (sym edge);
      labels = sym (get_or_from_slice_get q.labels c.args.u c.labels.result.now [] c.labels.ensures);
      direction = c.to.ensures ∙ ap (λ (e : PatternEdge). direction_to e c.args.u) (sym edge);
    }
