use Rattle.std.proofs.Common.{◌<◌, ◌-◌, ◌*◌, refl, sym, ap, ◌∙◌, arith}
use Rattle.std.specs.Prelude.{Some, ◌==◌}
use Rattle.dcg_store.specs.Counters.{fewer_ins, has_last_in}
use Rattle.dcg_store.specs.Flat.{flat_rows}
use Rattle.dcg_store.proofs.LayerLemmas.{get_in, changed, same_live, some_there, none_there_and}
use Rattle.dcg_store.proofs.FlatLemmas.{missing_row, row_of, ins_changed}
use Rattle.dcg_store.proofs.layer.Layer.take_in.Goals as goal

pub returns-in_default-clause-last : goal.returns-in_default-clause-last
returns-in_default-clause-last c = absurd (none_there_and (λ row. 0 < row.ins) c.args.self.now (flat_rows c.self.inside.width c.self.inside.ins.entries c.self.inside.outs.items) c.args.v c.self.view_is (missing_row c.self.inside.width c.self.inside.ins.entries c.self.inside.outs.items c.args.v c.in_default.ensures.value) c.requires)

pub returns-in_default-clause-lowered : goal.returns-in_default-clause-lowered
returns-in_default-clause-lowered c = absurd (none_there_and (λ row. 0 < row.ins) c.args.self.now (flat_rows c.self.inside.width c.self.inside.ins.entries c.self.inside.outs.items) c.args.v c.self.view_is (missing_row c.self.inside.width c.self.inside.ins.entries c.self.inside.outs.items c.args.v c.in_default.ensures.value) c.requires)

pub overflow_sub-ins : goal.overflow_sub-ins
overflow_sub-ins c =
    let r = (row_of c.self.inside.width c.self.inside.ins.entries c.self.inside.outs.items c.args.v c.in-Some.ins.now c.in-Some.ensures.value) in
    let some = some_there (λ row. 0 < row.ins) c.args.self.now (flat_rows c.self.inside.width c.self.inside.ins.entries c.self.inside.outs.items) c.args.v (row_of c.self.inside.width c.self.inside.ins.entries c.self.inside.outs.items c.args.v c.in-Some.ins.now c.in-Some.ensures.value).0 c.self.view_is r.1 c.requires in
    let same = r.2 in
    omega (arith, some, same)

pub returns-clause-last : goal.returns-clause-last
returns-clause-last c =
    let r = (row_of c.self.inside.width c.self.inside.ins.entries c.self.inside.outs.items c.args.v c.in-Some.ins.now c.in-Some.ensures.value) in
    ap (λ k. k == 1) (sym r.2) ∙ ap has_last_in (sym (get_in c.args.self.now (flat_rows c.self.inside.width c.self.inside.ins.entries c.self.inside.outs.items) c.args.v (Some (row_of c.self.inside.width c.self.inside.ins.entries c.self.inside.outs.items c.args.v c.in-Some.ins.now c.in-Some.ensures.value).0) c.self.view_is r.1))

pub invariant_of-self-2 : goal.invariant_of-self-2
invariant_of-self-2 c =
    let r = (row_of c.self.inside.width c.self.inside.ins.entries c.self.inside.outs.items c.args.v c.in-Some.ins.now c.in-Some.ensures.value) in
    record {
      filled = c.self.invariant.filled ∙ ap (λ n. c.self.inside.width * n) (sym (c.get_mut.follows.holds (c.in-Some.ins.now - 1)).2);
      counted = same_live (flat_rows c.self.inside.width c.self.inside.ins.entries c.self.inside.outs.items) (flat_rows c.self.inside.width (c.get_mut.follows.lender (c.in-Some.ins.now - 1)).entries c.self.inside.outs.items) c.args.v c.self.inside.live c.self.invariant.counted (row_of c.self.inside.width c.self.inside.ins.entries c.self.inside.outs.items c.args.v c.in-Some.ins.now c.in-Some.ensures.value).0 (fewer_ins (row_of c.self.inside.width c.self.inside.ins.entries c.self.inside.outs.items c.args.v c.in-Some.ins.now c.in-Some.ensures.value).0) r.1
          (ins_changed c.self.inside.width c.self.inside.ins.entries c.self.inside.outs.items c.args.v (c.get_mut.follows.lender (c.in-Some.ins.now - 1)).entries c.in-Some.ins.now c.in-Some.ensures.value (λ k. k - 1) (c.get_mut.follows.holds (c.in-Some.ins.now - 1)).0) refl;
    }

pub returns-clause-lowered : goal.returns-clause-lowered
returns-clause-lowered c =
    let r = (row_of c.self.inside.width c.self.inside.ins.entries c.self.inside.outs.items c.args.v c.in-Some.ins.now c.in-Some.ensures.value) in
    changed fewer_ins c.args.self.now (flat_rows c.self.inside.width c.self.inside.ins.entries c.self.inside.outs.items) (flat_rows c.self.inside.width (c.get_mut.follows.lender (c.in-Some.ins.now - 1)).entries c.self.inside.outs.items) c.args.v (row_of c.self.inside.width c.self.inside.ins.entries c.self.inside.outs.items c.args.v c.in-Some.ins.now c.in-Some.ensures.value).0 c.self.view_is r.1
    (ins_changed c.self.inside.width c.self.inside.ins.entries c.self.inside.outs.items c.args.v (c.get_mut.follows.lender (c.in-Some.ins.now - 1)).entries c.in-Some.ins.now c.in-Some.ensures.value (λ k. k - 1) (c.get_mut.follows.holds (c.in-Some.ins.now - 1)).0)
