use Rattle.std.proofs.Common.{◌+◌, ◌-◌, ◌*◌, refl, sym, ap, ◌∙◌, arith}
use Rattle.std.specs.Prelude.{None, Some, is_some}
use Rattle.dcg_store.specs.Counters.{more_ins}
use Rattle.dcg_store.specs.Flat.{flat_rows}
use Rattle.dcg_store.proofs.LayerLemmas.{get_in, changed, unchanged, same_live}
use Rattle.dcg_store.proofs.FlatLemmas.{missing_row, row_of, ins_changed}
use Rattle.dcg_store.proofs.layer.Layer.raise_in.Goals as goal

pub returns-in_default-clause-found : goal.returns-in_default-clause-found
returns-in_default-clause-found c = ap is_some (sym (get_in c.args.self.now (flat_rows c.self.inside.width c.self.inside.ins.entries c.self.inside.outs.items) c.args.v None c.self.view_is (missing_row c.self.inside.width c.self.inside.ins.entries c.self.inside.outs.items c.args.v c.in_default.ensures.value)))

pub returns-in_default-clause-raised : goal.returns-in_default-clause-raised
returns-in_default-clause-raised c =
    unchanged more_ins c.args.self.now (flat_rows c.self.inside.width c.self.inside.ins.entries c.self.inside.outs.items) (flat_rows c.self.inside.width c.get_mut.follows.lender-at-none.entries c.self.inside.outs.items) c.args.v c.self.view_is
    (missing_row c.self.inside.width c.self.inside.ins.entries c.self.inside.outs.items c.args.v c.in_default.ensures.value)
    (ap (λ m. flat_rows c.self.inside.width m.entries c.self.inside.outs.items) c.get_mut.follows.holds-at-none)

pub overflow_add-ins : goal.overflow_add-ins
overflow_add-ins c =
    let r = (row_of c.self.inside.width c.self.inside.ins.entries c.self.inside.outs.items c.args.v c.in-Some.ins.now c.in-Some.ensures.value) in
    let room = c.requires r.0 (get_in c.args.self.now (flat_rows c.self.inside.width c.self.inside.ins.entries c.self.inside.outs.items) c.args.v (Some (row_of c.self.inside.width c.self.inside.ins.entries c.self.inside.outs.items c.args.v c.in-Some.ins.now c.in-Some.ensures.value).0) c.self.view_is r.1) in
    let same = r.2 in
    omega (arith, room, same)

pub returns-clause-found : goal.returns-clause-found
returns-clause-found c = let r = (row_of c.self.inside.width c.self.inside.ins.entries c.self.inside.outs.items c.args.v c.in-Some.ins.now c.in-Some.ensures.value) in ap is_some (sym (get_in c.args.self.now (flat_rows c.self.inside.width c.self.inside.ins.entries c.self.inside.outs.items) c.args.v (Some (row_of c.self.inside.width c.self.inside.ins.entries c.self.inside.outs.items c.args.v c.in-Some.ins.now c.in-Some.ensures.value).0) c.self.view_is r.1))

pub invariant_of-self-2 : goal.invariant_of-self-2
invariant_of-self-2 c =
    let r = (row_of c.self.inside.width c.self.inside.ins.entries c.self.inside.outs.items c.args.v c.in-Some.ins.now c.in-Some.ensures.value) in
    record {
      filled = c.self.invariant.filled ∙ ap (λ n. c.self.inside.width * n) (sym (c.get_mut.follows.holds (c.in-Some.ins.now + 1)).2);
      counted = same_live (flat_rows c.self.inside.width c.self.inside.ins.entries c.self.inside.outs.items) (flat_rows c.self.inside.width (c.get_mut.follows.lender (c.in-Some.ins.now + 1)).entries c.self.inside.outs.items) c.args.v c.self.inside.live c.self.invariant.counted (row_of c.self.inside.width c.self.inside.ins.entries c.self.inside.outs.items c.args.v c.in-Some.ins.now c.in-Some.ensures.value).0 (more_ins (row_of c.self.inside.width c.self.inside.ins.entries c.self.inside.outs.items c.args.v c.in-Some.ins.now c.in-Some.ensures.value).0) r.1
          (ins_changed c.self.inside.width c.self.inside.ins.entries c.self.inside.outs.items c.args.v (c.get_mut.follows.lender (c.in-Some.ins.now + 1)).entries c.in-Some.ins.now c.in-Some.ensures.value (λ k. k + 1) (c.get_mut.follows.holds (c.in-Some.ins.now + 1)).0) refl;
    }

pub returns-clause-raised : goal.returns-clause-raised
returns-clause-raised c =
    let r = (row_of c.self.inside.width c.self.inside.ins.entries c.self.inside.outs.items c.args.v c.in-Some.ins.now c.in-Some.ensures.value) in
    changed more_ins c.args.self.now (flat_rows c.self.inside.width c.self.inside.ins.entries c.self.inside.outs.items) (flat_rows c.self.inside.width (c.get_mut.follows.lender (c.in-Some.ins.now + 1)).entries c.self.inside.outs.items) c.args.v (row_of c.self.inside.width c.self.inside.ins.entries c.self.inside.outs.items c.args.v c.in-Some.ins.now c.in-Some.ensures.value).0 c.self.view_is r.1
    (ins_changed c.self.inside.width c.self.inside.ins.entries c.self.inside.outs.items c.args.v (c.get_mut.follows.lender (c.in-Some.ins.now + 1)).entries c.in-Some.ins.now c.in-Some.ensures.value (λ k. k + 1) (c.get_mut.follows.holds (c.in-Some.ins.now + 1)).0)
