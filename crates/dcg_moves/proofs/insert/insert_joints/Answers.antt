use Rattle.std.proofs.Common.{◌≡◌, ◌≢◌, refl, sym, ap, ◌∙◌, subst, arith, inl, inr}
use Rattle.std.proofs.lemmas.Bool.{cases_eq}
use Rattle.flux_model.specs.Exact.{row_at}
use Rattle.flux_model.specs.States.{Joint}
use Rattle.dcg_moves.specs.Shape.{IsShapeOf}
use Rattle.dcg_moves.specs.Local.{IsLocal, IsLocalWithout}
use Rattle.dcg_moves.specs.Update.{view, nothing, label_cost, edges_cost}
use Rattle.dcg_moves.proofs.StoreLemmas.{after, still_store}
use Rattle.dcg_moves.proofs.ViewLemmas.{bridge_insert, bridge_skip, bridge_last}
use Rattle.dcg_moves.proofs.UpdateLemmas.{away_next, ahead_next, behind_next, seen_on, lower_in, lower_from, store_in, sound_in, sound_from, weight_in, joint_read, edges_more, cost_joined, cost_labelled}
use Rattle.dcg_moves.proofs.insert.insert_joints.Goals as goal

pub loop-u-init : goal.loop-u-init
loop-u-init g c =
    let up = g.N.EdgeRows.update c.args.rows.now in
    record {
      update = refl;
      same_ids = refl;
      same_degree = refl;
      seen = c.requires.seen ∙ (λ i. view up (sym c.requires.first i));
      ahead = λ z le. (λ i. c.requires.first i z);
      behind = λ z low lt. absurd (omega (arith, lt));
      exact = subst (λ d. IsLocal (view up d) (row_at c.args.dcg.now)) (sym c.requires.first) c.requires.before;
      sound = c.requires.sound;
      same = record { whole = refl; children = refl };
      cost = omega arith;
    }

-- the root has no tree edge
pub loop-u-preserved-then-u-root : goal.loop-u-preserved-then-u-root
loop-u-preserved-then-u-root g c =
    let u = c.loop-u.u in
    let inv = c.loop-u.invariant in
    record {
      update = inv.update;
      same_ids = inv.same_ids;
      same_degree = inv.same_degree;
      seen = inv.seen;
      exact = inv.exact;
      sound = inv.sound;
      same = inv.same;
      ahead = λ z le. inv.ahead z (omega arith);
      behind = λ z low lt. elim (cases_eq z u) [
        | inl is ↦ absurd (low.apart (is ∙ c.if-u-root.true ∙ c.root.ensures.root ∙ (c.requires.shape nothing).root))
        | inr ne ↦ inv.behind z low (omega arith)
      ];
      cost = omega (arith, inv.cost, edges_more (g.N.EdgeRows.update c.args.rows.now) u);
    }

-- the triple is no joint of u's tree edge
pub loop-u-preserved-in_default : goal.loop-u-preserved-in_default
loop-u-preserved-in_default g c =
    let up = g.N.EdgeRows.update c.args.rows.now in
    let u = c.loop-u.u in
    let done = g.N.EdgeRows.done c.loop-u.rows in
    let done' = g.N.EdgeRows.done c.advance.new.self in
    let inv = c.loop-u.invariant in
    let a = c.in_default.ensures in
    let apart : u ≢ up.tree.root = λ e. c.if-u-root.false (e ∙ sym (c.requires.shape nothing).root ∙ sym c.root.ensures.root) in
    record {
      update = a.update ∙ inv.update;
      same_ids = a.ids ∙ inv.same_ids;
      same_degree = a.degree ∙ inv.same_degree;
      seen = seen_on (g.N.EdgeRows.done c.loop-u.rows) c.loop-u.u inv.update a.done a.seen;
      sound = inv.sound;
      same = inv.same;
      exact = bridge_skip up.pattern up.tree up.small up.large up.triple done done' u (row_at c.loop-u.dcg) c.requires.more (away_next done done' u a.done) (joint_read u inv.update a.joint) inv.exact;
      ahead = ahead_next done done' u a.done inv.ahead;
      behind = λ z low lt. behind_next done done' u a.done z lt (inv.behind z low);
      cost = omega (arith, inv.cost, a.step, edges_more up u, cost_labelled up u apart, ap (λ k. label_cost k u) inv.update);
    }

pub advance-requires-clause-lower : goal.advance-requires-clause-lower
advance-requires-clause-lower g c = lower_in (g.N.EdgeRows.update c.args.rows.now) (g.N.EdgeRows.done c.loop-u.rows) c.loop-u.invariant.seen (c.requires.shape nothing) (omega (arith, c.loop-u-test.true, c.vertex_count-u-end.ensures)) (λ e. c.if-u-root.false (e ∙ sym c.root.ensures.root))

pub advance-requires-clause-behind : goal.advance-requires-clause-behind
advance-requires-clause-behind g c = let inv = c.loop-u.invariant in λ z low lt. inv.behind z (lower_from (g.N.EdgeRows.update c.args.rows.now) (g.N.EdgeRows.done c.loop-u.rows) inv.seen low) lt

-- ---- the triple is its joint

pub insert_joint-requires-clause-shape : goal.insert_joint-requires-clause-shape
insert_joint-requires-clause-shape g c =
    let a = c.in-Some.ensures in
    let inv = c.loop-u.invariant in
    subst (λ s. IsShapeOf s c.args.tree.now) (sym (seen_on (g.N.EdgeRows.done c.loop-u.rows) c.loop-u.u inv.update a.done a.seen)) (c.requires.shape (g.N.EdgeRows.done c.advance.new.self))

pub insert_joint-requires-clause-lower : goal.insert_joint-requires-clause-lower
insert_joint-requires-clause-lower g c =
    let a = c.in-Some.ensures in
    let inv = c.loop-u.invariant in
    lower_in (g.N.EdgeRows.update c.args.rows.now) (g.N.EdgeRows.done c.advance.new.self) (seen_on (g.N.EdgeRows.done c.loop-u.rows) c.loop-u.u inv.update a.done a.seen) (c.requires.shape nothing) (omega (arith, c.loop-u-test.true, c.vertex_count-u-end.ensures)) (λ e. c.if-u-root.false (e ∙ sym c.root.ensures.root))

pub insert_joint-requires-clause-store : goal.insert_joint-requires-clause-store
insert_joint-requires-clause-store g c =
    let a = c.in-Some.ensures in
    let inv = c.loop-u.invariant in
    store_in (g.N.EdgeRows.update c.args.rows.now) (g.N.EdgeRows.done c.advance.new.self) (seen_on (g.N.EdgeRows.done c.loop-u.rows) c.loop-u.u inv.update a.done a.seen) (still_store c.requires.store inv.same)

pub insert_joint-requires-clause-sound : goal.insert_joint-requires-clause-sound
insert_joint-requires-clause-sound g c =
    let a = c.in-Some.ensures in
    let inv = c.loop-u.invariant in
    sound_in (g.N.EdgeRows.update c.args.rows.now) (g.N.EdgeRows.done c.advance.new.self) (seen_on (g.N.EdgeRows.done c.loop-u.rows) c.loop-u.u inv.update a.done a.seen) (a.ids ∙ inv.same_ids) inv.sound

pub insert_joint-requires-clause-before : goal.insert_joint-requires-clause-before
insert_joint-requires-clause-before g c =
    let up = g.N.EdgeRows.update c.args.rows.now in
    let u = c.loop-u.u in
    let r = row_at c.loop-u.dcg in
    let inv = c.loop-u.invariant in
    let a = c.in-Some.ensures in
    let joint : Joint = record { above = c.in-Some.x; below = c.in-Some.y } in
    let more = bridge_insert up.pattern up.tree up.small up.large up.triple (g.N.EdgeRows.done c.loop-u.rows) u joint r c.requires.more (inv.ahead u (omega arith)) (joint_read u inv.update a.joint) inv.exact in
    subst (λ s. IsLocalWithout s u c.in-Some.x c.in-Some.y r) (sym (seen_on (g.N.EdgeRows.done c.loop-u.rows) c.loop-u.u inv.update a.done a.seen)) (subst (λ d. IsLocalWithout (view up d) u c.in-Some.x c.in-Some.y r) (sym a.done) more)

pub loop-u-preserved : goal.loop-u-preserved
loop-u-preserved g c =
    let up = g.N.EdgeRows.update c.args.rows.now in
    let u = c.loop-u.u in
    let done = g.N.EdgeRows.done c.loop-u.rows in
    let done' = g.N.EdgeRows.done c.advance.new.self in
    let inv = c.loop-u.invariant in
    let a = c.in-Some.ensures in
    let e = c.in_ok-insert_joint.ensures in
    let seen = seen_on (g.N.EdgeRows.done c.loop-u.rows) c.loop-u.u inv.update a.done a.seen in
    let ids = a.ids ∙ inv.same_ids in
    let degree = a.degree ∙ inv.same_degree in
    let apart : u ≢ up.tree.root = λ f. c.if-u-root.false (f ∙ sym (c.requires.shape nothing).root ∙ sym c.root.ensures.root) in
    let steps = cost_joined up u (record { above = c.in-Some.x; below = c.in-Some.y }) apart (joint_read u inv.update a.joint) in
    record {
      update = a.update ∙ inv.update;
      same_ids = ids;
      same_degree = degree;
      seen = seen;
      same = after e.same inv.same;
      exact = subst (λ s. IsLocal s (row_at c.insert_joint.new.dcg)) seen e.exact;
      sound = sound_from up done' seen ids e.sound;
      ahead = ahead_next done done' u a.done inv.ahead;
      behind = λ z low lt. behind_next done done' u a.done z lt (inv.behind z low);
      cost = omega (arith, inv.cost, a.step, e.cost, weight_in up done' seen ids degree (row_at c.loop-u.dcg), weight_in up done' seen ids degree (row_at c.insert_joint.new.dcg), edges_more up u, steps, ap (λ k. label_cost k u) inv.update);
    }

-- ---- every tree edge is done

pub returns-clause-exact : goal.returns-clause-exact
returns-clause-exact g c =
    let up = g.N.EdgeRows.update c.args.rows.now in
    let inv = c.loop-u.invariant in
    bridge_last up.pattern up.tree up.small up.large (g.N.EdgeRows.done c.loop-u.rows) (row_at c.loop-u.dcg)
    (λ z low. inv.behind z (record { inside = low.inside; apart = low.apart }) (omega (arith, (c.requires.shape nothing).count, c.loop-u-test.false, c.vertex_count-u-end.ensures, low.inside))) inv.exact

pub returns-clause-cost : goal.returns-clause-cost
returns-clause-cost g c =
    let up = g.N.EdgeRows.update c.args.rows.now in
    let end : c.loop-u.u ≡ (view up nothing).count = omega (arith, (c.requires.shape nothing).count, c.loop-u-test.false, c.vertex_count-u-end.ensures, c.loop-u.auto.u-end) in
    omega (arith, c.loop-u.invariant.cost, ap (edges_cost up) end)
