use Rattle.std.proofs.Common.{◌≡◌, ◌<◌, ◌-◌, true, false, sym, ◌∙◌, arith}
use Rattle.std.specs.Prelude.{IsSome, None, Some, IsSomeAnd, Option}
use Rattle.flux_model.specs.Exact.{Row, row_at}
use Rattle.dcg_store.proofs.RowsLemmas.{allows, moves-fewer_ins, was_stored}
use Rattle.dcg_store.proofs.dcg.Dcg.lower_in.Goals as goal

some_row : (o : Option Row) → IsSome o → IsSomeAnd o (λ row. Unit {0})
some_row None e = absurd (let bad : false ≡ true = e in cc)
some_row (Some row) e = tt

pub lower_in-requires : goal.lower_in-requires
lower_in-requires g c =
    let s = c.self.inside in
    allows s.broken s.children.items s.layers.items s.stored c.args.self.now c.self.view_is c.self.invariant c.args.u c.requires.vertex (λ row. Unit {0}) (λ row. 0 < row.ins) (λ row this h. this.has_ins) c.index_mut.result.now c.args.v c.index_mut.ensures.value (some_row (row_at c.args.self.now c.args.u c.args.v) c.requires.row)

pub overflow_sub-self : goal.overflow_sub-self
overflow_sub-self g c =
    let s = c.self.inside in
    let some = was_stored s.broken s.children.items s.layers.items s.stored c.args.self.now c.self.view_is c.self.invariant c.args.u c.requires.vertex c.args.v c.index_mut.result.now c.index_mut.ensures.value (sym c.lower_in.ensures.gone ∙ c.if-lower_in.true) in
    omega (arith, some)

pub invariant_of-self : goal.invariant_of-self
invariant_of-self g c =
    let s = c.self.inside in
    let some = was_stored s.broken s.children.items s.layers.items s.stored c.args.self.now c.self.view_is c.self.invariant c.args.u c.requires.vertex c.args.v c.index_mut.result.now c.index_mut.ensures.value (sym c.lower_in.ensures.gone ∙ c.if-lower_in.true) in
    (moves-fewer_ins s.broken s.children.items s.layers.items s.stored c.args.self.now c.self.view_is c.self.invariant c.args.u c.requires.vertex c.args.v c.index_mut.result.now c.lower_in.new.self (s.stored - 1) true c.index_mut.ensures.value
    (sym c.if-lower_in.true ∙ c.lower_in.ensures.gone) (omega (arith, some)) c.lower_in.ensures.lowered).1

pub invariant_of-self-else-lower_in : goal.invariant_of-self-else-lower_in
invariant_of-self-else-lower_in g c =
    let s = c.self.inside in
    (moves-fewer_ins s.broken s.children.items s.layers.items s.stored c.args.self.now c.self.view_is c.self.invariant c.args.u c.requires.vertex c.args.v c.index_mut.result.now c.lower_in.new.self s.stored false c.index_mut.ensures.value
    (sym c.if-lower_in.false ∙ c.lower_in.ensures.gone) (omega arith) c.lower_in.ensures.lowered).1

pub returns-then-lower_in-clause-lowered : goal.returns-then-lower_in-clause-lowered
returns-then-lower_in-clause-lowered g c =
    let s = c.self.inside in
    let some = was_stored s.broken s.children.items s.layers.items s.stored c.args.self.now c.self.view_is c.self.invariant c.args.u c.requires.vertex c.args.v c.index_mut.result.now c.index_mut.ensures.value (sym c.lower_in.ensures.gone ∙ c.if-lower_in.true) in
    (moves-fewer_ins s.broken s.children.items s.layers.items s.stored c.args.self.now c.self.view_is c.self.invariant c.args.u c.requires.vertex c.args.v c.index_mut.result.now c.lower_in.new.self (s.stored - 1) true c.index_mut.ensures.value
    (sym c.if-lower_in.true ∙ c.lower_in.ensures.gone) (omega (arith, some)) c.lower_in.ensures.lowered).0

pub returns-else-lower_in-clause-lowered : goal.returns-else-lower_in-clause-lowered
returns-else-lower_in-clause-lowered g c =
    let s = c.self.inside in
    (moves-fewer_ins s.broken s.children.items s.layers.items s.stored c.args.self.now c.self.view_is c.self.invariant c.args.u c.requires.vertex c.args.v c.index_mut.result.now c.lower_in.new.self s.stored false c.index_mut.ensures.value
    (sym c.if-lower_in.false ∙ c.lower_in.ensures.gone) (omega arith) c.lower_in.ensures.lowered).0
