use Rattle.std.proofs.Common.{rules, ◌≡◌, ℕ, ◌*◌, List, length, take, drop, sym, ap, ◌∙◌, arith}
use Rattle.std.specs.Prelude.{nat_lt, vec_len}
use Rattle.std.specs.List.{list_all}
use Rattle.std.specs.FinMap.{remove}
use Rattle.dcg_store.specs.Flat.{flat_rows}
use Rattle.dcg_store.proofs.CountLemmas.{bit}
use Rattle.dcg_store.proofs.LayerLemmas.{live_after_last, removed, none_there}
use Rattle.dcg_store.proofs.FlatLemmas.{missing_row, inside, here, found, behind, before, ended_sets, ended_filled}
use Rattle.dcg_store.proofs.layer.Layer.end.Goals as goal

pub returns-in_default : goal.returns-in_default
returns-in_default c = absurd (none_there c.args.self.now (flat_rows c.self.inside.width c.self.inside.ins.entries c.self.inside.outs.items) c.args.v c.self.view_is (missing_row c.self.inside.width c.self.inside.ins.entries c.self.inside.outs.items c.args.v c.in_default.ensures.value) c.requires)

pub is_full_at-requires : goal.is_full_at-requires
is_full_at-requires c =
    let within = inside c.self.inside.width c.self.inside.ins.entries c.self.inside.outs.items c.self.invariant.filled c.len-len.ensures.unique c.args.v c.in-Some.i (sym c.in-Some.ensures.index) in
    let same = ap length c.as_slice.ensures.value in
    omega (arith, within, same)

pub copy_within-requires-clause-start_le_end : goal.copy_within-requires-clause-start_le_end
copy_within-requires-clause-start_le_end c =
    let all : vec_len c.self.inside.outs ≡ length c.self.inside.outs.items = search rules in
    let start = ap (λ n. c.self.inside.width * n) c.len.ensures.len in
    let last = behind c.self.inside.width c.self.inside.ins.entries c.self.inside.outs.items c.self.invariant.filled c.len-len.ensures.unique c.args.v c.in-Some.i (sym c.in-Some.ensures.index) c.swap_remove_full.new.self.entries c.swap_remove_full.ensures.entries c.in-Some.ensures.len (c.self.inside.width * c.len.result) (vec_len c.self.inside.outs) start all in
    omega (arith, last)

pub copy_within-requires-clause-dest_in_bounds : goal.copy_within-requires-clause-dest_in_bounds
copy_within-requires-clause-dest_in_bounds c =
    let all : vec_len c.self.inside.outs ≡ length c.self.inside.outs.items = search rules in
    let start = ap (λ n. c.self.inside.width * n) c.len.ensures.len in
    let last = behind c.self.inside.width c.self.inside.ins.entries c.self.inside.outs.items c.self.invariant.filled c.len-len.ensures.unique c.args.v c.in-Some.i (sym c.in-Some.ensures.index) c.swap_remove_full.new.self.entries c.swap_remove_full.ensures.entries c.in-Some.ensures.len (c.self.inside.width * c.len.result) (vec_len c.self.inside.outs) start all in
    let low = before c.self.inside.width c.self.inside.ins.entries c.self.inside.outs.items c.self.invariant.filled c.len-len.ensures.unique c.args.v c.in-Some.i (sym c.in-Some.ensures.index) c.swap_remove_full.new.self.entries c.swap_remove_full.ensures.entries c.in-Some.ensures.len (c.self.inside.width * c.len.result) (vec_len c.self.inside.outs) start all in
    omega (arith, last, low)

pub overflow_sub-self : goal.overflow_sub-self
overflow_sub-self c =
    let all : vec_len c.self.inside.outs ≡ length c.self.inside.outs.items = search rules in
    let start = ap (λ n. c.self.inside.width * n) c.len.ensures.len in
    let live = live_after_last (flat_rows c.self.inside.width c.self.inside.ins.entries c.self.inside.outs.items) (flat_rows c.self.inside.width c.swap_remove_full.new.self.entries c.truncate.new.self.items) c.args.v c.self.inside.live c.self.invariant.counted (here c.self.inside.width c.self.inside.ins.entries c.self.inside.outs.items c.self.invariant.filled c.len-len.ensures.unique c.args.v c.in-Some.i (sym c.in-Some.ensures.index)) c.one_if-was.result (found c.self.inside.width c.self.inside.ins.entries c.self.inside.outs.items c.self.invariant.filled c.len-len.ensures.unique c.args.v c.in-Some.i (sym c.in-Some.ensures.index)) (ended_sets c.self.inside.width c.self.inside.ins.entries c.self.inside.outs.items c.self.invariant.filled c.len-len.ensures.unique c.args.v c.in-Some.i (sym c.in-Some.ensures.index) c.swap_remove_full.new.self.entries c.swap_remove_full.ensures.entries c.in-Some.ensures.len (c.self.inside.width * c.len.result) (vec_len c.self.inside.outs) start all c.truncate.new.self.items (c.truncate.ensures.items ∙ ap (take (c.self.inside.width * c.len.result)) c.copy_within.ensures.items)) (c.one_if-was.ensures ∙ ap bit (c.is_full_at.ensures ∙ ap (λ (l : List ℕ). list_all (nat_lt 0) (take c.self.inside.width (drop (c.self.inside.width * c.in-Some.i) l))) c.as_slice.ensures.value)) in
    omega (arith, live)

pub invariant_of-self-2 : goal.invariant_of-self-2
invariant_of-self-2 c =
    let all : vec_len c.self.inside.outs ≡ length c.self.inside.outs.items = search rules in
    let start = ap (λ n. c.self.inside.width * n) c.len.ensures.len in
    let live = live_after_last (flat_rows c.self.inside.width c.self.inside.ins.entries c.self.inside.outs.items) (flat_rows c.self.inside.width c.swap_remove_full.new.self.entries c.truncate.new.self.items) c.args.v c.self.inside.live c.self.invariant.counted (here c.self.inside.width c.self.inside.ins.entries c.self.inside.outs.items c.self.invariant.filled c.len-len.ensures.unique c.args.v c.in-Some.i (sym c.in-Some.ensures.index)) c.one_if-was.result (found c.self.inside.width c.self.inside.ins.entries c.self.inside.outs.items c.self.invariant.filled c.len-len.ensures.unique c.args.v c.in-Some.i (sym c.in-Some.ensures.index)) (ended_sets c.self.inside.width c.self.inside.ins.entries c.self.inside.outs.items c.self.invariant.filled c.len-len.ensures.unique c.args.v c.in-Some.i (sym c.in-Some.ensures.index) c.swap_remove_full.new.self.entries c.swap_remove_full.ensures.entries c.in-Some.ensures.len (c.self.inside.width * c.len.result) (vec_len c.self.inside.outs) start all c.truncate.new.self.items (c.truncate.ensures.items ∙ ap (take (c.self.inside.width * c.len.result)) c.copy_within.ensures.items)) (c.one_if-was.ensures ∙ ap bit (c.is_full_at.ensures ∙ ap (λ (l : List ℕ). list_all (nat_lt 0) (take c.self.inside.width (drop (c.self.inside.width * c.in-Some.i) l))) c.as_slice.ensures.value)) in
    record {
      filled = ended_filled c.self.inside.width c.self.inside.ins.entries c.self.inside.outs.items c.self.invariant.filled c.len-len.ensures.unique c.args.v c.in-Some.i (sym c.in-Some.ensures.index) c.swap_remove_full.new.self.entries c.swap_remove_full.ensures.entries c.in-Some.ensures.len (c.self.inside.width * c.len.result) (vec_len c.self.inside.outs) start all c.truncate.new.self.items (c.truncate.ensures.items ∙ ap (take (c.self.inside.width * c.len.result)) c.copy_within.ensures.items);
      counted = omega (arith, live);
    }

pub returns : goal.returns
returns c =
    let all : vec_len c.self.inside.outs ≡ length c.self.inside.outs.items = search rules in
    let start = ap (λ n. c.self.inside.width * n) c.len.ensures.len in
    removed (flat_rows c.self.inside.width c.self.inside.ins.entries c.self.inside.outs.items) (flat_rows c.self.inside.width c.swap_remove_full.new.self.entries c.truncate.new.self.items) c.args.v (ended_sets c.self.inside.width c.self.inside.ins.entries c.self.inside.outs.items c.self.invariant.filled c.len-len.ensures.unique c.args.v c.in-Some.i (sym c.in-Some.ensures.index) c.swap_remove_full.new.self.entries c.swap_remove_full.ensures.entries c.in-Some.ensures.len (c.self.inside.width * c.len.result) (vec_len c.self.inside.outs) start all c.truncate.new.self.items (c.truncate.ensures.items ∙ ap (take (c.self.inside.width * c.len.result)) c.copy_within.ensures.items)) ∙ ap (λ m. remove m c.args.v) c.self.view_is
