use Rattle.std.proofs.Common.{◌*◌, ℕ, List, length, take, drop, sym, ap, ◌∙◌, arith}
use Rattle.std.specs.Prelude.{None, Some, if◌then◌else◌, nat_lt}
use Rattle.std.specs.List.{list_all}
use Rattle.flux_model.specs.declared.state.State.TheVariants.{Implicit, Explicit}
use Rattle.dcg_store.specs.Counters.{state_of_row}
use Rattle.dcg_store.specs.Flat.{flat_rows}
use Rattle.dcg_store.proofs.LayerLemmas.{get_in}
use Rattle.dcg_store.proofs.FlatLemmas.{missing_row, none_of, inside, here, found}
use Rattle.dcg_store.proofs.layer.Layer.state.Goals as goal

pub is_full_at-requires : goal.is_full_at-requires
is_full_at-requires c =
    let within = inside c.self.inside.width c.self.inside.ins.entries c.self.inside.outs.items c.self.invariant.filled c.in-Some.ensures.unique c.args.v c.in-Some.i (sym c.in-Some.ensures.index) in
    let same = ap length c.as_slice.ensures.value in
    omega (arith, within, same)

pub returns-in_default : goal.returns-in_default
returns-in_default c =
    ap state_of_row (sym (get_in c.args.self.now (flat_rows c.self.inside.width c.self.inside.ins.entries c.self.inside.outs.items) c.args.v None c.self.view_is (missing_row c.self.inside.width c.self.inside.ins.entries c.self.inside.outs.items c.args.v (none_of _ c.in_default.ensures.found))))

pub returns-then-is_full_at : goal.returns-then-is_full_at
returns-then-is_full_at c =
    let row = get_in c.args.self.now (flat_rows c.self.inside.width c.self.inside.ins.entries c.self.inside.outs.items) c.args.v (Some (here c.self.inside.width c.self.inside.ins.entries c.self.inside.outs.items c.self.invariant.filled c.in-Some.ensures.unique c.args.v c.in-Some.i (sym c.in-Some.ensures.index))) c.self.view_is (found c.self.inside.width c.self.inside.ins.entries c.self.inside.outs.items c.self.invariant.filled c.in-Some.ensures.unique c.args.v c.in-Some.i (sym c.in-Some.ensures.index)) in
    let full = sym c.if-is_full_at.true ∙ c.is_full_at.ensures ∙ ap (λ (l : List ℕ). list_all (nat_lt 0) (take c.self.inside.width (drop (c.self.inside.width * c.in-Some.i) l))) c.as_slice.ensures.value in
    ap (λ b. if b then Explicit else Implicit) full ∙ ap state_of_row (sym row)

pub returns-else-is_full_at : goal.returns-else-is_full_at
returns-else-is_full_at c =
    let row = get_in c.args.self.now (flat_rows c.self.inside.width c.self.inside.ins.entries c.self.inside.outs.items) c.args.v (Some (here c.self.inside.width c.self.inside.ins.entries c.self.inside.outs.items c.self.invariant.filled c.in-Some.ensures.unique c.args.v c.in-Some.i (sym c.in-Some.ensures.index))) c.self.view_is (found c.self.inside.width c.self.inside.ins.entries c.self.inside.outs.items c.self.invariant.filled c.in-Some.ensures.unique c.args.v c.in-Some.i (sym c.in-Some.ensures.index)) in
    let full = sym c.if-is_full_at.false ∙ c.is_full_at.ensures ∙ ap (λ (l : List ℕ). list_all (nat_lt 0) (take c.self.inside.width (drop (c.self.inside.width * c.in-Some.i) l))) c.as_slice.ensures.value in
    ap (λ b. if b then Explicit else Implicit) full ∙ ap state_of_row (sym row)
