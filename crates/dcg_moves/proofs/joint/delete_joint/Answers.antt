use Rattle.std.proofs.Common.{◌≢◌, sym, arith}
use Rattle.flux_model.specs.Exact.{row_at}
use Rattle.flux_model.specs.declared.state.State.TheVariants.{Null}
use Rattle.dcg_moves.proofs.StateLemmas.{row_null, row_stands}
use Rattle.dcg_moves.proofs.StoreLemmas.{after, still_store, parent_read}
use Rattle.dcg_moves.proofs.UpLemmas.{state_read}
use Rattle.dcg_moves.proofs.JointLemmas.{delete_null, over_of_large, over_below, over_stands, delete_counted}
use Rattle.dcg_moves.proofs.joint.delete_joint.Goals as goal

-- x has no row
pub returns-in-Null-clause-exact : goal.returns-in-Null-clause-exact
returns-in-Null-clause-exact g c =
    let q = c.requires in
    let s = g.N.JointRows.layers c.args.rows.now in
    let r = row_at c.args.dcg.now in
    let state = state_read r c.args.x (sym (parent_read q.shape q.lower c.parent_of-parent.ensures)) c.pair_state-was.ensures.state in
    delete_null s c.args.tree.now (g.N.JointRows.ids c.args.rows.now) c.args.u c.args.x c.args.y r q.shape q.sound q.before (row_null (r (s.parent c.args.u) c.args.x) c.pair_state-was.result state c.in-Null.is)

pub leave_parent-requires : goal.leave_parent-requires
leave_parent-requires g c =
    let q = c.requires in
    let s = g.N.JointRows.layers c.args.rows.now in
    let r = row_at c.args.dcg.now in
    let state = state_read r c.args.x (sym (parent_read q.shape q.lower c.parent_of-parent.ensures)) c.pair_state-was.ensures.state in
    let some : c.pair_state-was.result ≢ Null = λ e. c.in_default.not-Null e in
    let stands = row_stands (r (s.parent c.args.u) c.args.x) c.pair_state-was.result state some in
    record {
      shape = q.shape;
      lower = q.lower;
      above_fits = q.above_fits;
      store = q.store;
      sound = q.sound;
      over = over_of_large s c.args.tree.now c.args.u c.args.x c.args.y r q.shape q.lower q.before stands;
      state = state;
      stands = some;
    }

pub fall_in-requires : goal.fall_in-requires
fall_in-requires g c =
    let q = c.requires in
    let s = g.N.JointRows.layers c.args.rows.now in
    let r = row_at c.leave_parent.new.dcg in
    let left = c.leave_parent.ensures in
    record {
      shape = q.shape;
      lower = q.lower;
      member = q.below_fits;
      store = still_store q.store left.same;
      sound = left.sound;
      below = over_below s c.args.tree.now c.args.u c.args.x c.args.y r left.counted;
      stands = over_stands s c.args.tree.now c.args.u c.args.x c.args.y r left.counted (g.N.JointRows.ids c.args.rows.now) q.lower left.sound;
    }

pub returns : goal.returns
returns g c =
    let q = c.requires in
    let s = g.N.JointRows.layers c.args.rows.now in
    let left = c.leave_parent.ensures in
    let done = c.fall_in.ensures in
    record {
      exact = delete_counted s c.args.tree.now c.args.u c.args.x c.args.y (row_at c.leave_parent.new.dcg) left.counted (g.N.JointRows.ids c.args.rows.now) (row_at c.fall_in.new.dcg)
          q.shape q.lower left.sound done.counted done.below done.sound;
      sound = done.sound;
      same = after done.same left.same;
      cost = omega (arith, c.pair_state-was.ensures.step, left.cost, done.cost);
    }
