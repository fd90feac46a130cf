use Rattle.std.proofs.Common.{sym, ◌∙◌}
use Rattle.flux_model.specs.Exact.{row_at}
use Rattle.dcg_moves.proofs.StateLemmas.{row_null, row_stands}
use Rattle.dcg_moves.proofs.StoreLemmas.{some_kept}
use Rattle.dcg_updates.proofs.VertexLemmas.{root_inside, root_room, unfit_exact, raised_exact, absent_exact, lowered_exact}
use Rattle.dcg_updates.proofs.vertex.after_vertex.Goals as goal

pub returns-then-not-fits-clause-exact : goal.returns-then-not-fits-clause-exact
returns-then-not-fits-clause-exact b c =
    let r = c.requires in
    unfit_exact r.belongs r.was.1 r.was.2 c.root-root.ensures.root c.labels.result.now c.fits.result (sym c.has_vertex.ensures.value ∙ c.if-has_vertex.true) c.labels.ensures c.fits.ensures.value c.if-not-fits.true

pub raise_in-requires-clause-vertex : goal.raise_in-requires-clause-vertex
raise_in-requires-clause-vertex b c = root_inside c.requires.belongs c.requires.was.1 c.requires.was.2 c.root-root.ensures.root

pub raise_in-requires-clause-room : goal.raise_in-requires-clause-room
raise_in-requires-clause-room b c =
    root_room c.requires.belongs c.requires.was.1 c.requires.was.2 c.root-root.ensures.root (sym c.has_vertex.ensures.value ∙ c.if-has_vertex.true)

pub returns-then-has_vertex-clause-exact : goal.returns-then-has_vertex-clause-exact
returns-then-has_vertex-clause-exact b c =
    let r = c.requires in
    raised_exact r.belongs r.was.1 r.was.2 c.root-root.ensures.root c.labels.result.now c.fits.result c.raise_in.new.self (sym c.has_vertex.ensures.value ∙ c.if-has_vertex.true) c.labels.ensures c.fits.ensures.value c.if-not-fits.false
    c.in_default.ensures.ok

pub pair_state-requires-clause-vertex : goal.pair_state-requires-clause-vertex
pair_state-requires-clause-vertex b c = root_inside c.requires.belongs c.requires.was.1 c.requires.was.2 c.root-root.ensures.root

pub returns-in-Null-clause-exact : goal.returns-in-Null-clause-exact
returns-in-Null-clause-exact b c =
    let r = c.requires in
    absent_exact r.belongs r.was.1 r.was.2 c.root-root.ensures.root (sym c.has_vertex.ensures.value ∙ c.if-has_vertex.false)
    (row_null (row_at c.args.dcg.now c.root-root.result c.args.id) c.pair_state.result c.pair_state.ensures.state c.in-Null.is)

pub lower_in-requires : goal.lower_in-requires
lower_in-requires b c =
    let at = row_at c.args.dcg.now c.root-root.result c.args.id in
    record {
      whole = c.requires.was.2.whole;
      vertex = root_inside c.requires.belongs c.requires.was.1 c.requires.was.2 c.root-root.ensures.root;
      row = some_kept at (row_stands at c.pair_state.result c.pair_state.ensures.state c.in_default-pair_state.not-Null);
    }

pub returns-clause-exact : goal.returns-clause-exact
returns-clause-exact b c =
    let r = c.requires in
    lowered_exact r.belongs r.was.1 r.was.2 c.root-root.ensures.root c.lower_in.new.self (sym c.has_vertex.ensures.value ∙ c.if-has_vertex.false) c.lower_in.ensures.lowered
