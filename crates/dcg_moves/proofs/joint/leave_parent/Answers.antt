use Rattle.std.proofs.Common.{[], ◌∷◌, refl, arith}
use Rattle.flux_model.specs.Exact.{row_at}
use Rattle.dcg_moves.proofs.StateLemmas.{row_stands, full_explicit, part_other}
use Rattle.dcg_moves.proofs.UpLemmas.{debt_stock, moves_sound}
use Rattle.dcg_moves.proofs.JointLemmas.{over_above, over_debt, off_shut, off_open}
use Rattle.dcg_moves.proofs.joint.leave_parent.Goals as goal

-- y is not explicit
pub returns-in_default : goal.returns-in_default
returns-in_default g c =
    let q = c.requires in
    let r = row_at c.args.dcg.now in
    record {
      counted = off_shut q.over (part_other (r c.args.u c.args.y) c.pair_state.result c.pair_state.ensures.state (λ e. c.in_default.not-Explicit e));
      sound = q.sound;
      same = record { whole = refl; children = refl };
      cost = omega (arith, c.pair_state.ensures.step);
    }

pub fall_out-requires : goal.fall_out-requires
fall_out-requires g c =
    let q = c.requires in
    let s = g.N.JointRows.layers c.args.rows.now in
    let r = row_at c.args.dcg.now in
    let opens = full_explicit (r c.args.u c.args.y) c.pair_state.result c.pair_state.ensures.state c.in-Explicit.is in
    let stands = row_stands (r (s.parent c.args.u) c.args.x) c.args.was q.state q.stands in
    record {
      shape = q.shape;
      lower = q.lower;
      member = q.above_fits;
      store = q.store;
      sound = q.sound;
      above = over_above q.over;
      state = q.state;
      stands = q.stands;
      stock = debt_stock s c.args.tree.now c.args.u c.args.x r (c.args.x ∷ []) [] refl (over_debt q.over opens) stands;
    }

pub returns : goal.returns
returns g c =
    let q = c.requires in
    let r = row_at c.args.dcg.now in
    let opens = full_explicit (r c.args.u c.args.y) c.pair_state.result c.pair_state.ensures.state c.in-Explicit.is in
    let out = c.fall_out.ensures in
    record {
      counted = off_open q.over opens out.counted out.others;
      sound = moves_sound out.others q.sound;
      same = out.same;
      cost = omega (arith, c.pair_state.ensures.step, out.cost);
    }
