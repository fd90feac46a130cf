use Rattle.std.proofs.Common.{◌≢◌, [], ◌∷◌, sym, refl, ap, ◌∙◌, arith}
use Rattle.std.specs.Prelude.{is_some}
use Rattle.flux_model.specs.Exact.{row_at}
use Rattle.flux_model.specs.declared.state.State.TheVariants.{Null}
use Rattle.dcg_store.specs.Counters.{state_of_row}
use Rattle.dcg_moves.proofs.StateLemmas.{row_null, row_stands, full_explicit, part_other}
use Rattle.dcg_moves.proofs.StoreLemmas.{after, still_store, parent_read}
use Rattle.dcg_moves.proofs.UpLemmas.{state_read, debt_room, moves_sound}
use Rattle.dcg_moves.proofs.JointLemmas.{insert_null, below_without, without_room, insert_counted, debt_open, nearly_above, insert_shut, insert_open, parent_stays}
use Rattle.dcg_moves.proofs.joint.insert_joint.Goals as goal

-- x has no row
pub returns-in-Null-clause-exact : goal.returns-in-Null-clause-exact
returns-in-Null-clause-exact g c =
    let q = c.requires in
    let s = g.N.JointRows.layers c.args.rows.now in
    let r = row_at c.args.dcg.now in
    let state = state_read r c.args.x (sym (parent_read q.shape q.lower c.parent_of-parent.ensures)) c.pair_state-was.ensures.state in
    insert_null s c.args.tree.now (g.N.JointRows.ids c.args.rows.now) c.args.u c.args.x c.args.y r q.shape q.sound q.before (row_null (r (s.parent c.args.u) c.args.x) c.pair_state-was.result state c.in-Null.is)

pub rise_in-requires-clause-below : goal.rise_in-requires-clause-below
rise_in-requires-clause-below g c =
    let q = c.requires in
    below_without (g.N.JointRows.layers c.args.rows.now) c.args.tree.now c.args.u c.args.x c.args.y (row_at c.args.dcg.now) q.shape q.before

pub rise_in-requires-clause-room : goal.rise_in-requires-clause-room
rise_in-requires-clause-room g c =
    let q = c.requires in
    let s = g.N.JointRows.layers c.args.rows.now in
    let r = row_at c.args.dcg.now in
    let state = state_read r c.args.x (sym (parent_read q.shape q.lower c.parent_of-parent.ensures)) c.pair_state-was.ensures.state in
    without_room s c.args.tree.now c.args.u c.args.x c.args.y r q.shape q.lower q.before (row_stands (r (s.parent c.args.u) c.args.x) c.pair_state-was.result state (λ e. c.in_default.not-Null e))

-- y is not explicit
pub returns-in_default-pair_state : goal.returns-in_default-pair_state
returns-in_default-pair_state g c =
    let q = c.requires in
    let s = g.N.JointRows.layers c.args.rows.now in
    let r = row_at c.args.dcg.now in
    let r' = row_at c.rise_in.new.dcg in
    let state = state_read r c.args.x (sym (parent_read q.shape q.lower c.parent_of-parent.ensures)) c.pair_state-was.ensures.state in
    let stands = row_stands (r (s.parent c.args.u) c.args.x) c.pair_state-was.result state (λ e. c.in_default.not-Null e) in
    let done = c.in_ok-rise_in.ensures in
    let counted = insert_counted s c.args.tree.now (g.N.JointRows.ids c.args.rows.now) c.args.u c.args.x c.args.y r r' q.shape q.lower q.sound q.before stands done.counted done.below done.sound in
    let shut = part_other (r' c.args.u c.args.y) c.pair_state.result c.pair_state.ensures.state (λ e. c.in_default-pair_state.not-Explicit e) in
    record {
      exact = insert_shut q.shape counted done.sound shut;
      sound = done.sound;
      same = done.same;
      cost = omega (arith, c.pair_state-was.ensures.step, done.cost, c.pair_state.ensures.step);
    }

pub rise_out-requires : goal.rise_out-requires
rise_out-requires g c =
    let q = c.requires in
    let s = g.N.JointRows.layers c.args.rows.now in
    let r = row_at c.args.dcg.now in
    let r' = row_at c.rise_in.new.dcg in
    let state = state_read r c.args.x (sym (parent_read q.shape q.lower c.parent_of-parent.ensures)) c.pair_state-was.ensures.state in
    let some : c.pair_state-was.result ≢ Null = λ e. c.in_default.not-Null e in
    let stands = row_stands (r (s.parent c.args.u) c.args.x) c.pair_state-was.result state some in
    let done = c.in_ok-rise_in.ensures in
    let counted = insert_counted s c.args.tree.now (g.N.JointRows.ids c.args.rows.now) c.args.u c.args.x c.args.y r r' q.shape q.lower q.sound q.before stands done.counted done.below done.sound in
    let opens = full_explicit (r' c.args.u c.args.y) c.pair_state.result c.pair_state.ensures.state c.in-Explicit.is in
    let still = parent_stays q.shape q.lower done.counted c.args.x in
    record {
      shape = q.shape;
      lower = q.lower;
      member = q.above_fits;
      store = still_store q.store done.same;
      sound = done.sound;
      above = nearly_above q.shape counted.nearly;
      state = state ∙ ap state_of_row (sym still);
      stands = some;
      room = debt_room s c.args.tree.now c.args.u c.args.x r' (c.args.x ∷ []) [] refl q.shape (debt_open counted opens) (ap is_some still ∙ stands);
    }

pub returns : goal.returns
returns g c =
    let q = c.requires in
    let s = g.N.JointRows.layers c.args.rows.now in
    let r = row_at c.args.dcg.now in
    let r' = row_at c.rise_in.new.dcg in
    let state = state_read r c.args.x (sym (parent_read q.shape q.lower c.parent_of-parent.ensures)) c.pair_state-was.ensures.state in
    let stands = row_stands (r (s.parent c.args.u) c.args.x) c.pair_state-was.result state (λ e. c.in_default.not-Null e) in
    let done = c.in_ok-rise_in.ensures in
    let counted = insert_counted s c.args.tree.now (g.N.JointRows.ids c.args.rows.now) c.args.u c.args.x c.args.y r r' q.shape q.lower q.sound q.before stands done.counted done.below done.sound in
    let opens = full_explicit (r' c.args.u c.args.y) c.pair_state.result c.pair_state.ensures.state c.in-Explicit.is in
    let out = c.rise_out.ensures in
    let sound = moves_sound out.others done.sound in
    record {
      exact = insert_open q.shape counted sound opens out.counted out.others;
      sound = sound;
      same = after out.same done.same;
      cost = omega (arith, c.pair_state-was.ensures.step, done.cost, c.pair_state.ensures.step, out.cost);
    }
