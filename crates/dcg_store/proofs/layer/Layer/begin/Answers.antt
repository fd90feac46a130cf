use Rattle.std.proofs.Common.{rules, ◌≡◌, ℕ, ◌+◌, ◌<◌, ◌^◌, List, [], ◌∷◌, ◌++◌, length, sym, ap, subst, ◌∙◌, arith}
use Rattle.std.specs.Prelude.{nat_eq, vec_len, Option, Some}
use Rattle.std.specs.Option.{SomeIff}
use Rattle.std.specs.Map.{lookup}
use Rattle.std.specs.FinMap.{insert}
use Rattle.indexmap.proofs.CallerLemmas.{insert_entry-new}
use Rattle.dcg_store.specs.Counters.{first_row}
use Rattle.dcg_store.specs.Layers.{HasWidth}
use Rattle.dcg_store.specs.Flat.{flat_rows}
use Rattle.dcg_store.proofs.CountLemmas.{bit}
use Rattle.dcg_store.proofs.LayerLemmas.{live_after_first, live-le-length, inserted, missing_in}
use Rattle.dcg_store.proofs.FlatLemmas.{flat-length, missing_ins, begun_sets, begun_filled, first_full, resized}
use Rattle.dcg_store.proofs.layer.Layer.begin.Goals as goal

one_more : (o : Option ℕ) (sum n width : ℕ) → o ≡ Some sum → SomeIff o (n + width < 2 ^ 64) (n + width) → sum ≡ n + width
one_more o sum n width e more = (subst (λ x. SomeIff x (n + width < 2 ^ 64) (n + width)) e more).1

pub overflow_add-self : goal.overflow_add-self
overflow_add-self c =
    let missing = missing_in c.args.self.now (flat_rows c.self.inside.width c.self.inside.ins.entries c.self.inside.outs.items) c.args.v c.self.view_is c.requires.missing in
    let wide = subst (HasWidth c.args.width) (sym c.self.view_is) c.requires.width in
    let more = c.in-Ok.ensures.entries
    ∙ (insert_entry-new nat_eq c.reserve.new.self c.args.v 1 (ap (lookup (nat_eq c.args.v)) c.reserve.ensures.entries ∙ missing_ins c.self.inside.width c.self.inside.ins.entries c.self.inside.outs.items c.args.v missing)
    ∙ ap (λ (l : List (ℕ × ℕ)). l ++ (c.args.v, 1) ∷ []) c.reserve.ensures.entries) in
    let all : vec_len c.self.inside.outs ≡ length c.self.inside.outs.items = search rules in
    let sum = one_more c.checked_add.result c.in_ok-len.len c.len.result c.args.width c.in_ok-len.ensures.ok_part c.checked_add.ensures ∙ ap (λ n. n + c.args.width) c.len.ensures in
    let more_outs = c.in_ok-resize.ensures.items ∙ resized c.self.inside.outs.items (vec_len c.self.inside.outs) c.in_ok-len.len c.args.width all sum in
    let live = live_after_first (flat_rows c.self.inside.width c.self.inside.ins.entries c.self.inside.outs.items) (flat_rows c.args.width c.insert.new.self.entries c.resize.new.self.items) c.args.v c.self.inside.live c.self.invariant.counted (first_row c.args.width) c.one_if.result missing (begun_sets c.self.inside.width c.args.width c.self.inside.ins.entries c.insert.new.self.entries c.self.inside.outs.items c.resize.new.self.items c.self.invariant.filled wide c.args.v missing more more_outs) (c.one_if.ensures ∙ ap bit (sym (first_full c.args.width))) in
    let most = live-le-length (flat_rows c.args.width c.insert.new.self.entries c.resize.new.self.items) in
    let rows = flat-length c.args.width c.insert.new.self.entries c.resize.new.self.items in
    omega (arith, live, most, rows, c.len-len.ensures.len, c.len-len.ensures.small)

pub invariant_of-self-2 : goal.invariant_of-self-2
invariant_of-self-2 c =
    let missing = missing_in c.args.self.now (flat_rows c.self.inside.width c.self.inside.ins.entries c.self.inside.outs.items) c.args.v c.self.view_is c.requires.missing in
    let wide = subst (HasWidth c.args.width) (sym c.self.view_is) c.requires.width in
    let more = c.in-Ok.ensures.entries
    ∙ (insert_entry-new nat_eq c.reserve.new.self c.args.v 1 (ap (lookup (nat_eq c.args.v)) c.reserve.ensures.entries ∙ missing_ins c.self.inside.width c.self.inside.ins.entries c.self.inside.outs.items c.args.v missing)
    ∙ ap (λ (l : List (ℕ × ℕ)). l ++ (c.args.v, 1) ∷ []) c.reserve.ensures.entries) in
    let all : vec_len c.self.inside.outs ≡ length c.self.inside.outs.items = search rules in
    let sum = one_more c.checked_add.result c.in_ok-len.len c.len.result c.args.width c.in_ok-len.ensures.ok_part c.checked_add.ensures ∙ ap (λ n. n + c.args.width) c.len.ensures in
    let more_outs = c.in_ok-resize.ensures.items ∙ resized c.self.inside.outs.items (vec_len c.self.inside.outs) c.in_ok-len.len c.args.width all sum in
    record {
      filled = begun_filled c.self.inside.width c.args.width c.self.inside.ins.entries c.insert.new.self.entries c.self.inside.outs.items c.resize.new.self.items c.self.invariant.filled wide c.args.v missing more more_outs;
      counted = live_after_first (flat_rows c.self.inside.width c.self.inside.ins.entries c.self.inside.outs.items) (flat_rows c.args.width c.insert.new.self.entries c.resize.new.self.items) c.args.v c.self.inside.live c.self.invariant.counted (first_row c.args.width) c.one_if.result missing (begun_sets c.self.inside.width c.args.width c.self.inside.ins.entries c.insert.new.self.entries c.self.inside.outs.items c.resize.new.self.items c.self.invariant.filled wide c.args.v missing more more_outs) (c.one_if.ensures ∙ ap bit (sym (first_full c.args.width)));
    }

pub returns-clause-ok : goal.returns-clause-ok
returns-clause-ok c =
    let missing = missing_in c.args.self.now (flat_rows c.self.inside.width c.self.inside.ins.entries c.self.inside.outs.items) c.args.v c.self.view_is c.requires.missing in
    let wide = subst (HasWidth c.args.width) (sym c.self.view_is) c.requires.width in
    let more = c.in-Ok.ensures.entries
    ∙ (insert_entry-new nat_eq c.reserve.new.self c.args.v 1 (ap (lookup (nat_eq c.args.v)) c.reserve.ensures.entries ∙ missing_ins c.self.inside.width c.self.inside.ins.entries c.self.inside.outs.items c.args.v missing)
    ∙ ap (λ (l : List (ℕ × ℕ)). l ++ (c.args.v, 1) ∷ []) c.reserve.ensures.entries) in
    let all : vec_len c.self.inside.outs ≡ length c.self.inside.outs.items = search rules in
    let sum = one_more c.checked_add.result c.in_ok-len.len c.len.result c.args.width c.in_ok-len.ensures.ok_part c.checked_add.ensures ∙ ap (λ n. n + c.args.width) c.len.ensures in
    let more_outs = c.in_ok-resize.ensures.items ∙ resized c.self.inside.outs.items (vec_len c.self.inside.outs) c.in_ok-len.len c.args.width all sum in
    inserted (flat_rows c.self.inside.width c.self.inside.ins.entries c.self.inside.outs.items) (flat_rows c.args.width c.insert.new.self.entries c.resize.new.self.items) c.args.v (first_row c.args.width) (begun_sets c.self.inside.width c.args.width c.self.inside.ins.entries c.insert.new.self.entries c.self.inside.outs.items c.resize.new.self.items c.self.invariant.filled wide c.args.v missing more more_outs) ∙ ap (λ m. insert m c.args.v (first_row c.args.width)) c.self.view_is
