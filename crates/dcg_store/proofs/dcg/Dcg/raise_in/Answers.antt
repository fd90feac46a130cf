use Rattle.std.proofs.Common.{◌≡◌, sym, ap, ◌∙◌}
use Rattle.std.specs.Prelude.{slice_index, is_some, None, Result, Ok, Err, OnErr}
use Rattle.flux_model.specs.Exact.{row_at}
use Rattle.dcg_store.specs.Counters.{more_ins}
use Rattle.dcg_store.proofs.RowsLemmas.{row_read, moves-changed, keeps-more_ins, raised_found, raised_missing, none_from, with_rows_of}
use Rattle.dcg_store.proofs.dcg.Dcg.raise_in.Goals as goal

on_err : {T E : Type 0} (r : Result T E) (P : Type 0) → P → OnErr r P
on_err (Ok x) P h = tt
on_err (Err e) P h = h

pub raise_in-requires : goal.raise_in-requires
raise_in-requires g c = λ row e.
    let s = c.self.inside in
    c.requires.room row (sym (row_read s.broken s.children.items s.layers.items s.stored c.args.self.now c.self.view_is c.self.invariant c.args.u c.requires.vertex c.index_mut.result.now c.args.v c.index_mut.ensures.value) ∙ e)

pub invariant_of-self : goal.invariant_of-self
invariant_of-self g c =
    let s = c.self.inside in
    (moves-changed s.broken s.children.items s.layers.items s.stored c.args.self.now c.self.view_is c.self.invariant c.args.u c.requires.vertex more_ins (keeps-more_ins s.children.items c.args.u) c.args.v c.index_mut.result.now c.raise_in.new.self
    c.index_mut.ensures.value c.raise_in.ensures.raised).1

pub returns-then-raise_in-clause-ok : goal.returns-then-raise_in-clause-ok
returns-then-raise_in-clause-ok g c =
    let s = c.self.inside in
    let d = c.args.self.now in
    let there = sym (ap is_some (row_read s.broken s.children.items s.layers.items s.stored c.args.self.now c.self.view_is c.self.invariant c.args.u c.requires.vertex c.index_mut.result.now c.args.v c.index_mut.ensures.value)) ∙ sym c.raise_in.ensures.found ∙ c.if-raise_in.true in
    (moves-changed s.broken s.children.items s.layers.items s.stored c.args.self.now c.self.view_is c.self.invariant c.args.u c.requires.vertex more_ins (keeps-more_ins s.children.items c.args.u) c.args.v c.index_mut.result.now c.raise_in.new.self
    c.index_mut.ensures.value c.raise_in.ensures.raised).0 ∙ ap (with_rows_of d) (raised_found (slice_index d.children c.args.u) d.rows (c.args.u, c.args.v) there)

pub invariant_of-self-2 : goal.invariant_of-self-2
invariant_of-self-2 g c =
    let s = c.self.inside in
    (moves-changed s.broken s.children.items s.layers.items s.stored c.args.self.now c.self.view_is c.self.invariant c.args.u c.requires.vertex more_ins (keeps-more_ins s.children.items c.args.u) c.args.v c.index_mut.result.now c.raise_in.new.self
    c.index_mut.ensures.value c.raise_in.ensures.raised).1

pub begin-requires-clause-missing : goal.begin-requires-clause-missing
begin-requires-clause-missing g c =
    let s = c.self.inside in
    let d = c.args.self.now in
    let missing = sym (ap is_some (row_read s.broken s.children.items s.layers.items s.stored c.args.self.now c.self.view_is c.self.invariant c.args.u c.requires.vertex c.index_mut.result.now c.args.v c.index_mut.ensures.value)) ∙ sym c.raise_in.ensures.found ∙ c.if-raise_in.false in
    let same = (moves-changed s.broken s.children.items s.layers.items s.stored c.args.self.now c.self.view_is c.self.invariant c.args.u c.requires.vertex more_ins (keeps-more_ins s.children.items c.args.u) c.args.v c.index_mut.result.now c.raise_in.new.self
    c.index_mut.ensures.value c.raise_in.ensures.raised).0 ∙ ap (with_rows_of d) (raised_missing d.rows (c.args.u, c.args.v) missing) in
    ap (λ e. row_at e c.args.u c.args.v) same ∙ none_from (row_at d c.args.u c.args.v) missing

pub returns-clause-missing : goal.returns-clause-missing
returns-clause-missing g c =
    let s = c.self.inside in
    let d = c.args.self.now in
    let missing = sym (ap is_some (row_read s.broken s.children.items s.layers.items s.stored c.args.self.now c.self.view_is c.self.invariant c.args.u c.requires.vertex c.index_mut.result.now c.args.v c.index_mut.ensures.value)) ∙ sym c.raise_in.ensures.found ∙ c.if-raise_in.false in
    on_err c.begin.result (row_at d c.args.u c.args.v ≡ None) (none_from (row_at d c.args.u c.args.v) missing)
