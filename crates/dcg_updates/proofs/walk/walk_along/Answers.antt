use Rattle.std.proofs.Common.{◌≡◌, [], sym, ◌∙◌}
use Rattle.std.specs.Prelude.{Some}
use Rattle.std.proofs.lemmas.Option.{get_or_from_slice_get}
use Rattle.flux_model.specs.Tree.{link_at}
use Rattle.dcg_updates.proofs.PlanLemmas.{plan_made}
use Rattle.dcg_updates.proofs.walk.walk_along.Goals as goal

pub edge-edge-requires : goal.edge-edge-requires
edge-edge-requires g c = (c.requires.belongs.links c.args.child c.unwrap-link.result (sym c.parent.ensures.link ∙ c.unwrap-link.ensures)).edge

pub returns-clause-plan : goal.returns-clause-plan
returns-clause-plan g c =
    let q = c.args.pattern.now in
    let t = c.args.tree.now in
    let link : link_at t c.args.child ≡ Some c.unwrap-link.result = sym c.parent.ensures.link ∙ c.unwrap-link.ensures in
    let edge = get_or_from_slice_get q.edges c.unwrap-link.result.edge c.edge-edge.result.now (record { tail = 0; label = []; head = 0 }) c.edge-edge.ensures.edge in
    let labels = get_or_from_slice_get q.labels c.args.end c.labels.result.now [] c.labels.ensures in
    plan_made q t c.args.triple.now c.args.sight c.args.child c.args.end c.args.v c.unwrap-link.result c.edge-edge.result.now c.to-direction.result c.labels.result.now c.other_in-other.result c.skip_for.result c.further_for.result
    link edge c.to-direction.ensures (sym labels) c.other_in-other.ensures c.skip_for.ensures c.further_for.ensures
