use Rattle.std.proofs.Common.{rules, ◌≡◌, ℕ, ◌<◌, ◌-◌, ◌+◌, ◌*◌, ◌^◌, List, length, take, drop, sym, ap, subst, ◌∙◌, arith, length-set}
use Rattle.std.specs.Prelude.{Some, nat_lt, vec_len, slice_index, slice_set}
use Rattle.std.specs.List.{list_all}
use Rattle.std.proofs.lemmas.List.{get_or_read}
use Rattle.flux_model.specs.Exact.{Row}
use Rattle.dcg_store.specs.Counters.{fewer_outs}
use Rattle.dcg_store.specs.Flat.{flat_rows}
use Rattle.dcg_store.proofs.CountLemmas.{bit}
use Rattle.dcg_store.proofs.LayerLemmas.{Sets, changed, live_after, live-le-length, some_there, none_there_and}
use Rattle.dcg_store.proofs.FlatLemmas.{missing_row, none_of, flat-length, inside, here, found, child, counter, sets, written_counters}
use Rattle.dcg_store.proofs.layer.Layer.lower_out.Goals as goal

abbrev Allows : ℕ → Row → Type 0
Allows j row = (j < length row.outs) × (0 < slice_index row.outs j)

pub returns-in_default : goal.returns-in_default
returns-in_default c = absurd (none_there_and (Allows c.args.j) c.args.self.now (flat_rows c.self.inside.width c.self.inside.ins.entries c.self.inside.outs.items) c.args.v c.self.view_is (missing_row c.self.inside.width c.self.inside.ins.entries c.self.inside.outs.items c.args.v (none_of _ c.in_default.ensures.found)) c.requires)

pub is_full_at-requires : goal.is_full_at-requires
is_full_at-requires c =
    let within = inside c.self.inside.width c.self.inside.ins.entries c.self.inside.outs.items c.self.invariant.filled c.in-Some.ensures.unique c.args.v c.in-Some.i (sym c.in-Some.ensures.index) in
    let same = ap length c.as_slice.ensures.value in
    omega (arith, within, same)

pub overflow_add-self-inside : goal.overflow_add-self-inside
overflow_add-self-inside c =
    let may = some_there (Allows c.args.j) c.args.self.now (flat_rows c.self.inside.width c.self.inside.ins.entries c.self.inside.outs.items) c.args.v (here c.self.inside.width c.self.inside.ins.entries c.self.inside.outs.items c.self.invariant.filled c.in-Some.ensures.unique c.args.v c.in-Some.i (sym c.in-Some.ensures.index)) c.self.view_is (found c.self.inside.width c.self.inside.ins.entries c.self.inside.outs.items c.self.invariant.filled c.in-Some.ensures.unique c.args.v c.in-Some.i (sym c.in-Some.ensures.index)) c.requires in
    let low = child c.self.inside.width c.self.inside.ins.entries c.self.inside.outs.items c.self.invariant.filled c.in-Some.ensures.unique c.args.v c.in-Some.i (sym c.in-Some.ensures.index) c.args.j may.0 in
    let within = inside c.self.inside.width c.self.inside.ins.entries c.self.inside.outs.items c.self.invariant.filled c.in-Some.ensures.unique c.args.v c.in-Some.i (sym c.in-Some.ensures.index) in
    let all : vec_len c.self.inside.outs ≡ length c.self.inside.outs.items = search rules in
    let fits : vec_len c.self.inside.outs < 2 ^ 64 = search rules in
    omega (arith, within, low, all, fits)

pub index_mut-requires : goal.index_mut-requires
index_mut-requires c =
    let may = some_there (Allows c.args.j) c.args.self.now (flat_rows c.self.inside.width c.self.inside.ins.entries c.self.inside.outs.items) c.args.v (here c.self.inside.width c.self.inside.ins.entries c.self.inside.outs.items c.self.invariant.filled c.in-Some.ensures.unique c.args.v c.in-Some.i (sym c.in-Some.ensures.index)) c.self.view_is (found c.self.inside.width c.self.inside.ins.entries c.self.inside.outs.items c.self.invariant.filled c.in-Some.ensures.unique c.args.v c.in-Some.i (sym c.in-Some.ensures.index)) c.requires in
    let low = child c.self.inside.width c.self.inside.ins.entries c.self.inside.outs.items c.self.invariant.filled c.in-Some.ensures.unique c.args.v c.in-Some.i (sym c.in-Some.ensures.index) c.args.j may.0 in
    let within = inside c.self.inside.width c.self.inside.ins.entries c.self.inside.outs.items c.self.invariant.filled c.in-Some.ensures.unique c.args.v c.in-Some.i (sym c.in-Some.ensures.index) in
    let all : vec_len c.self.inside.outs ≡ length c.self.inside.outs.items = search rules in
    omega (arith, within, low, all)

pub overflow_sub-index_mut : goal.overflow_sub-index_mut
overflow_sub-index_mut c =
    let may = some_there (Allows c.args.j) c.args.self.now (flat_rows c.self.inside.width c.self.inside.ins.entries c.self.inside.outs.items) c.args.v (here c.self.inside.width c.self.inside.ins.entries c.self.inside.outs.items c.self.invariant.filled c.in-Some.ensures.unique c.args.v c.in-Some.i (sym c.in-Some.ensures.index)) c.self.view_is (found c.self.inside.width c.self.inside.ins.entries c.self.inside.outs.items c.self.invariant.filled c.in-Some.ensures.unique c.args.v c.in-Some.i (sym c.in-Some.ensures.index)) c.requires in
    let low = child c.self.inside.width c.self.inside.ins.entries c.self.inside.outs.items c.self.invariant.filled c.in-Some.ensures.unique c.args.v c.in-Some.i (sym c.in-Some.ensures.index) c.args.j may.0 in
    let within = inside c.self.inside.width c.self.inside.ins.entries c.self.inside.outs.items c.self.invariant.filled c.in-Some.ensures.unique c.args.v c.in-Some.i (sym c.in-Some.ensures.index) in
    let read = get_or_read c.self.inside.outs.items (c.self.inside.width * c.in-Some.i + c.args.j) c.index_mut.result.now (omega (arith, within, low)) c.index_mut.ensures.value 0 in
    let same = counter c.self.inside.width c.self.inside.ins.entries c.self.inside.outs.items c.self.invariant.filled c.in-Some.ensures.unique c.args.v c.in-Some.i (sym c.in-Some.ensures.index) c.args.j low in
    let most = may.1 in
    omega (arith, read, same, most)

pub overflow_sub-self : goal.overflow_sub-self
overflow_sub-self c =
    let may = some_there (Allows c.args.j) c.args.self.now (flat_rows c.self.inside.width c.self.inside.ins.entries c.self.inside.outs.items) c.args.v (here c.self.inside.width c.self.inside.ins.entries c.self.inside.outs.items c.self.invariant.filled c.in-Some.ensures.unique c.args.v c.in-Some.i (sym c.in-Some.ensures.index)) c.self.view_is (found c.self.inside.width c.self.inside.ins.entries c.self.inside.outs.items c.self.invariant.filled c.in-Some.ensures.unique c.args.v c.in-Some.i (sym c.in-Some.ensures.index)) c.requires in
    let low = child c.self.inside.width c.self.inside.ins.entries c.self.inside.outs.items c.self.invariant.filled c.in-Some.ensures.unique c.args.v c.in-Some.i (sym c.in-Some.ensures.index) c.args.j may.0 in
    let written = sets c.self.inside.width c.self.inside.ins.entries c.self.inside.outs.items c.self.invariant.filled c.in-Some.ensures.unique c.args.v c.in-Some.i (sym c.in-Some.ensures.index) c.args.j (c.index_mut.result.now - 1) low in
    let old = c.one_if-was.ensures ∙ ap bit (c.is_full_at.ensures ∙ ap (λ (l : List ℕ). list_all (nat_lt 0) (take c.self.inside.width (drop (c.self.inside.width * c.in-Some.i) l))) c.as_slice.ensures.value) in
    let new = c.one_if-now.ensures ∙ ap bit (c.is_full_at-2.ensures ∙ ap (λ (l : List ℕ). list_all (nat_lt 0) (take c.self.inside.width (drop (c.self.inside.width * c.in-Some.i) l))) c.as_slice-2.ensures.value ∙ ap (list_all (nat_lt 0)) (written_counters c.self.inside.width c.self.inside.ins.entries c.self.inside.outs.items c.self.invariant.filled c.in-Some.ensures.unique c.args.v c.in-Some.i (sym c.in-Some.ensures.index) c.args.j (c.index_mut.result.now - 1))) in
    let live = live_after (flat_rows c.self.inside.width c.self.inside.ins.entries c.self.inside.outs.items) (flat_rows c.self.inside.width c.self.inside.ins.entries (slice_set c.self.inside.outs.items (c.self.inside.width * c.in-Some.i + c.args.j) (c.index_mut.result.now - 1))) c.args.v c.self.inside.live c.self.invariant.counted (here c.self.inside.width c.self.inside.ins.entries c.self.inside.outs.items c.self.invariant.filled c.in-Some.ensures.unique c.args.v c.in-Some.i (sym c.in-Some.ensures.index)) (record (here c.self.inside.width c.self.inside.ins.entries c.self.inside.outs.items c.self.invariant.filled c.in-Some.ensures.unique c.args.v c.in-Some.i (sym c.in-Some.ensures.index)) { outs = slice_set (here c.self.inside.width c.self.inside.ins.entries c.self.inside.outs.items c.self.invariant.filled c.in-Some.ensures.unique c.args.v c.in-Some.i (sym c.in-Some.ensures.index)).outs c.args.j (c.index_mut.result.now - 1) }) c.one_if-now.result c.one_if-was.result (found c.self.inside.width c.self.inside.ins.entries c.self.inside.outs.items c.self.invariant.filled c.in-Some.ensures.unique c.args.v c.in-Some.i (sym c.in-Some.ensures.index)) written new old in
    live.0

pub overflow_add-self : goal.overflow_add-self
overflow_add-self c =
    let may = some_there (Allows c.args.j) c.args.self.now (flat_rows c.self.inside.width c.self.inside.ins.entries c.self.inside.outs.items) c.args.v (here c.self.inside.width c.self.inside.ins.entries c.self.inside.outs.items c.self.invariant.filled c.in-Some.ensures.unique c.args.v c.in-Some.i (sym c.in-Some.ensures.index)) c.self.view_is (found c.self.inside.width c.self.inside.ins.entries c.self.inside.outs.items c.self.invariant.filled c.in-Some.ensures.unique c.args.v c.in-Some.i (sym c.in-Some.ensures.index)) c.requires in
    let low = child c.self.inside.width c.self.inside.ins.entries c.self.inside.outs.items c.self.invariant.filled c.in-Some.ensures.unique c.args.v c.in-Some.i (sym c.in-Some.ensures.index) c.args.j may.0 in
    let written = sets c.self.inside.width c.self.inside.ins.entries c.self.inside.outs.items c.self.invariant.filled c.in-Some.ensures.unique c.args.v c.in-Some.i (sym c.in-Some.ensures.index) c.args.j (c.index_mut.result.now - 1) low in
    let old = c.one_if-was.ensures ∙ ap bit (c.is_full_at.ensures ∙ ap (λ (l : List ℕ). list_all (nat_lt 0) (take c.self.inside.width (drop (c.self.inside.width * c.in-Some.i) l))) c.as_slice.ensures.value) in
    let new = c.one_if-now.ensures ∙ ap bit (c.is_full_at-2.ensures ∙ ap (λ (l : List ℕ). list_all (nat_lt 0) (take c.self.inside.width (drop (c.self.inside.width * c.in-Some.i) l))) c.as_slice-2.ensures.value ∙ ap (list_all (nat_lt 0)) (written_counters c.self.inside.width c.self.inside.ins.entries c.self.inside.outs.items c.self.invariant.filled c.in-Some.ensures.unique c.args.v c.in-Some.i (sym c.in-Some.ensures.index) c.args.j (c.index_mut.result.now - 1))) in
    let live = live_after (flat_rows c.self.inside.width c.self.inside.ins.entries c.self.inside.outs.items) (flat_rows c.self.inside.width c.self.inside.ins.entries (slice_set c.self.inside.outs.items (c.self.inside.width * c.in-Some.i + c.args.j) (c.index_mut.result.now - 1))) c.args.v c.self.inside.live c.self.invariant.counted (here c.self.inside.width c.self.inside.ins.entries c.self.inside.outs.items c.self.invariant.filled c.in-Some.ensures.unique c.args.v c.in-Some.i (sym c.in-Some.ensures.index)) (record (here c.self.inside.width c.self.inside.ins.entries c.self.inside.outs.items c.self.invariant.filled c.in-Some.ensures.unique c.args.v c.in-Some.i (sym c.in-Some.ensures.index)) { outs = slice_set (here c.self.inside.width c.self.inside.ins.entries c.self.inside.outs.items c.self.invariant.filled c.in-Some.ensures.unique c.args.v c.in-Some.i (sym c.in-Some.ensures.index)).outs c.args.j (c.index_mut.result.now - 1) }) c.one_if-now.result c.one_if-was.result (found c.self.inside.width c.self.inside.ins.entries c.self.inside.outs.items c.self.invariant.filled c.in-Some.ensures.unique c.args.v c.in-Some.i (sym c.in-Some.ensures.index)) written new old in
    let total = live.1 in
    let most = live-le-length (flat_rows c.self.inside.width c.self.inside.ins.entries (slice_set c.self.inside.outs.items (c.self.inside.width * c.in-Some.i + c.args.j) (c.index_mut.result.now - 1))) in
    let rows = flat-length c.self.inside.width c.self.inside.ins.entries (slice_set c.self.inside.outs.items (c.self.inside.width * c.in-Some.i + c.args.j) (c.index_mut.result.now - 1)) in
    omega (arith, total, most, rows, c.len-len.ensures.len, c.len-len.ensures.small)

pub invariant_of-self : goal.invariant_of-self
invariant_of-self c =
    let may = some_there (Allows c.args.j) c.args.self.now (flat_rows c.self.inside.width c.self.inside.ins.entries c.self.inside.outs.items) c.args.v (here c.self.inside.width c.self.inside.ins.entries c.self.inside.outs.items c.self.invariant.filled c.in-Some.ensures.unique c.args.v c.in-Some.i (sym c.in-Some.ensures.index)) c.self.view_is (found c.self.inside.width c.self.inside.ins.entries c.self.inside.outs.items c.self.invariant.filled c.in-Some.ensures.unique c.args.v c.in-Some.i (sym c.in-Some.ensures.index)) c.requires in
    let low = child c.self.inside.width c.self.inside.ins.entries c.self.inside.outs.items c.self.invariant.filled c.in-Some.ensures.unique c.args.v c.in-Some.i (sym c.in-Some.ensures.index) c.args.j may.0 in
    let written = sets c.self.inside.width c.self.inside.ins.entries c.self.inside.outs.items c.self.invariant.filled c.in-Some.ensures.unique c.args.v c.in-Some.i (sym c.in-Some.ensures.index) c.args.j (c.index_mut.result.now - 1) low in
    let old = c.one_if-was.ensures ∙ ap bit (c.is_full_at.ensures ∙ ap (λ (l : List ℕ). list_all (nat_lt 0) (take c.self.inside.width (drop (c.self.inside.width * c.in-Some.i) l))) c.as_slice.ensures.value) in
    let new = c.one_if-now.ensures ∙ ap bit (c.is_full_at-2.ensures ∙ ap (λ (l : List ℕ). list_all (nat_lt 0) (take c.self.inside.width (drop (c.self.inside.width * c.in-Some.i) l))) c.as_slice-2.ensures.value ∙ ap (list_all (nat_lt 0)) (written_counters c.self.inside.width c.self.inside.ins.entries c.self.inside.outs.items c.self.invariant.filled c.in-Some.ensures.unique c.args.v c.in-Some.i (sym c.in-Some.ensures.index) c.args.j (c.index_mut.result.now - 1))) in
    let live = live_after (flat_rows c.self.inside.width c.self.inside.ins.entries c.self.inside.outs.items) (flat_rows c.self.inside.width c.self.inside.ins.entries (slice_set c.self.inside.outs.items (c.self.inside.width * c.in-Some.i + c.args.j) (c.index_mut.result.now - 1))) c.args.v c.self.inside.live c.self.invariant.counted (here c.self.inside.width c.self.inside.ins.entries c.self.inside.outs.items c.self.invariant.filled c.in-Some.ensures.unique c.args.v c.in-Some.i (sym c.in-Some.ensures.index)) (record (here c.self.inside.width c.self.inside.ins.entries c.self.inside.outs.items c.self.invariant.filled c.in-Some.ensures.unique c.args.v c.in-Some.i (sym c.in-Some.ensures.index)) { outs = slice_set (here c.self.inside.width c.self.inside.ins.entries c.self.inside.outs.items c.self.invariant.filled c.in-Some.ensures.unique c.args.v c.in-Some.i (sym c.in-Some.ensures.index)).outs c.args.j (c.index_mut.result.now - 1) }) c.one_if-now.result c.one_if-was.result (found c.self.inside.width c.self.inside.ins.entries c.self.inside.outs.items c.self.invariant.filled c.in-Some.ensures.unique c.args.v c.in-Some.i (sym c.in-Some.ensures.index)) written new old in
    record {
      filled = length-set c.self.inside.outs.items (c.self.inside.width * c.in-Some.i + c.args.j) (c.index_mut.result.now - 1) ∙ c.self.invariant.filled;
      counted = live.1;
    }

pub returns : goal.returns
returns c =
    let may = some_there (Allows c.args.j) c.args.self.now (flat_rows c.self.inside.width c.self.inside.ins.entries c.self.inside.outs.items) c.args.v (here c.self.inside.width c.self.inside.ins.entries c.self.inside.outs.items c.self.invariant.filled c.in-Some.ensures.unique c.args.v c.in-Some.i (sym c.in-Some.ensures.index)) c.self.view_is (found c.self.inside.width c.self.inside.ins.entries c.self.inside.outs.items c.self.invariant.filled c.in-Some.ensures.unique c.args.v c.in-Some.i (sym c.in-Some.ensures.index)) c.requires in
    let low = child c.self.inside.width c.self.inside.ins.entries c.self.inside.outs.items c.self.invariant.filled c.in-Some.ensures.unique c.args.v c.in-Some.i (sym c.in-Some.ensures.index) c.args.j may.0 in
    let within = inside c.self.inside.width c.self.inside.ins.entries c.self.inside.outs.items c.self.invariant.filled c.in-Some.ensures.unique c.args.v c.in-Some.i (sym c.in-Some.ensures.index) in
    let read = get_or_read c.self.inside.outs.items (c.self.inside.width * c.in-Some.i + c.args.j) c.index_mut.result.now (omega (arith, within, low)) c.index_mut.ensures.value 0 in
    let same = ap (λ n. n - 1) (read ∙ sym (counter c.self.inside.width c.self.inside.ins.entries c.self.inside.outs.items c.self.invariant.filled c.in-Some.ensures.unique c.args.v c.in-Some.i (sym c.in-Some.ensures.index) c.args.j low)) in
    changed (fewer_outs c.args.j) c.args.self.now (flat_rows c.self.inside.width c.self.inside.ins.entries c.self.inside.outs.items) (flat_rows c.self.inside.width c.self.inside.ins.entries (slice_set c.self.inside.outs.items (c.self.inside.width * c.in-Some.i + c.args.j) (c.index_mut.result.now - 1))) c.args.v (here c.self.inside.width c.self.inside.ins.entries c.self.inside.outs.items c.self.invariant.filled c.in-Some.ensures.unique c.args.v c.in-Some.i (sym c.in-Some.ensures.index)) c.self.view_is (found c.self.inside.width c.self.inside.ins.entries c.self.inside.outs.items c.self.invariant.filled c.in-Some.ensures.unique c.args.v c.in-Some.i (sym c.in-Some.ensures.index))
    (subst (λ x. Sets (flat_rows c.self.inside.width c.self.inside.ins.entries c.self.inside.outs.items) (flat_rows c.self.inside.width c.self.inside.ins.entries (slice_set c.self.inside.outs.items (c.self.inside.width * c.in-Some.i + c.args.j) (c.index_mut.result.now - 1))) c.args.v (Some (record (here c.self.inside.width c.self.inside.ins.entries c.self.inside.outs.items c.self.invariant.filled c.in-Some.ensures.unique c.args.v c.in-Some.i (sym c.in-Some.ensures.index)) { outs = slice_set (here c.self.inside.width c.self.inside.ins.entries c.self.inside.outs.items c.self.invariant.filled c.in-Some.ensures.unique c.args.v c.in-Some.i (sym c.in-Some.ensures.index)).outs c.args.j x }))) same (sets c.self.inside.width c.self.inside.ins.entries c.self.inside.outs.items c.self.invariant.filled c.in-Some.ensures.unique c.args.v c.in-Some.i (sym c.in-Some.ensures.index) c.args.j (c.index_mut.result.now - 1) low))
