use Rattle.std.proofs.Common.{◌≡◌, ℕ, ◌<◌, ◌+◌, ◌^◌, subst, ap, ◌∙◌}
use Rattle.std.specs.Prelude.{Option, Some}
use Rattle.std.specs.Option.{SomeIff}
use Rattle.std.proofs.lemmas.List.{get_or_read}
use Rattle.std.specs.FinMap.{insert}
use Rattle.dcg_store.specs.Counters.{first_row}
use Rattle.dcg_store.proofs.RowsLemmas.{row_read, has_width, moves-first, in_children}
use Rattle.dcg_store.proofs.dcg.Dcg.begin.Goals as goal

one_more : (o : Option ℕ) (n stored : ℕ) → o ≡ Some n → SomeIff o (stored + 1 < 2 ^ 64) (stored + 1) → n ≡ stored + 1
one_more o n stored e more = (subst (λ x. SomeIff x (stored + 1 < 2 ^ 64) (stored + 1)) e more).1

pub begin-requires-clause-width : goal.begin-requires-clause-width
begin-requires-clause-width c =
    let s = c.self.inside in
    has_width s.broken s.children.items s.layers.items s.stored c.args.self.now c.self.view_is c.self.invariant c.args.u c.requires.vertex c.index_mut.result.now c.index-width.result.now c.index_mut.ensures.value
    (get_or_read s.children.items c.args.u c.index-width.result.now (in_children s.broken s.children.items s.layers.items s.stored c.args.self.now c.self.view_is c.self.invariant c.args.u c.requires.vertex) c.index-width.ensures 0)

pub begin-requires-clause-missing : goal.begin-requires-clause-missing
begin-requires-clause-missing c =
    let s = c.self.inside in
    row_read s.broken s.children.items s.layers.items s.stored c.args.self.now c.self.view_is c.self.invariant c.args.u c.requires.vertex c.index_mut.result.now c.args.v c.index_mut.ensures.value ∙ c.requires.missing

pub invariant_of-self-2 : goal.invariant_of-self-2
invariant_of-self-2 c =
    let s = c.self.inside in
    (moves-first s.broken s.children.items s.layers.items s.stored c.args.self.now c.self.view_is c.self.invariant c.args.u c.requires.vertex c.args.v c.index_mut.result.now c.begin.new.self c.in_ok-stored.stored c.requires.missing c.index_mut.ensures.value
    (one_more c.checked_add.result c.in_ok-stored.stored s.stored c.in_ok-stored.ensures.ok_part c.checked_add.ensures)
    (c.in_ok-begin.ensures.ok ∙ ap (λ w. insert c.index_mut.result.now c.args.v (first_row w))
    (get_or_read s.children.items c.args.u c.index-width.result.now (in_children s.broken s.children.items s.layers.items s.stored c.args.self.now c.self.view_is c.self.invariant c.args.u c.requires.vertex) c.index-width.ensures 0))).1

pub returns-clause-ok : goal.returns-clause-ok
returns-clause-ok c =
    let s = c.self.inside in
    (moves-first s.broken s.children.items s.layers.items s.stored c.args.self.now c.self.view_is c.self.invariant c.args.u c.requires.vertex c.args.v c.index_mut.result.now c.begin.new.self c.in_ok-stored.stored c.requires.missing c.index_mut.ensures.value
    (one_more c.checked_add.result c.in_ok-stored.stored s.stored c.in_ok-stored.ensures.ok_part c.checked_add.ensures)
    (c.in_ok-begin.ensures.ok ∙ ap (λ w. insert c.index_mut.result.now c.args.v (first_row w))
    (get_or_read s.children.items c.args.u c.index-width.result.now (in_children s.broken s.children.items s.layers.items s.stored c.args.self.now c.self.view_is c.self.invariant c.args.u c.requires.vertex) c.index-width.ensures 0))).0
