use Rattle.std.proofs.Common.{◌≡◌, ℕ, ◌<◌, ◌-◌, ◌^◌, List, length, ap, ◌∙◌, arith}
use Rattle.std.specs.Prelude.{slice_index}
use Rattle.flux_model.specs.Exact.{Row, StateRows}
use Rattle.dcg_store.specs.SoundRows.{IsSoundRow}
use Rattle.dcg_store.specs.Counters.{more_outs}
use Rattle.dcg_store.proofs.RowsLemmas.{allows, moves-changed, keeps-more_outs}
use Rattle.dcg_store.proofs.dcg.Dcg.raise_out.Goals as goal

abbrev Allows : ℕ → Row → Type 0
Allows j row = slice_index row.outs j < 2 ^ 32 - 1

abbrev AllowsInside : ℕ → Row → Type 0
AllowsInside j row = (j < length row.outs) × (slice_index row.outs j < 2 ^ 32 - 1)

inside : (j : ℕ) (children : List ℕ) (d : StateRows) (u : ℕ) → children ≡ d.children → j < slice_index d.children u → (row : Row) → IsSoundRow children u row → Allows j row → AllowsInside j row
inside j children d u same child row this h =
    let wide = this.width ∙ ap (λ l. slice_index l u) same in
    (omega (arith, wide, child), h)

pub raise_out-requires : goal.raise_out-requires
raise_out-requires g c =
    let s = c.self.inside in
    allows s.broken s.children.items s.layers.items s.stored c.args.self.now c.self.view_is c.self.invariant c.args.u c.requires.vertex (Allows c.args.j) (AllowsInside c.args.j)
    (inside c.args.j s.children.items c.args.self.now c.args.u (ap (λ d. d.children) c.self.view_is) c.requires.child) c.index_mut.result.now c.args.v c.index_mut.ensures.value c.requires.room

pub invariant_of-self : goal.invariant_of-self
invariant_of-self g c =
    let s = c.self.inside in
    (moves-changed s.broken s.children.items s.layers.items s.stored c.args.self.now c.self.view_is c.self.invariant c.args.u c.requires.vertex (more_outs c.args.j) (keeps-more_outs c.args.j s.children.items c.args.u) c.args.v c.index_mut.result.now c.raise_out.new.self
    c.index_mut.ensures.value c.raise_out.ensures).1

pub returns-clause-raised : goal.returns-clause-raised
returns-clause-raised g c =
    let s = c.self.inside in
    (moves-changed s.broken s.children.items s.layers.items s.stored c.args.self.now c.self.view_is c.self.invariant c.args.u c.requires.vertex (more_outs c.args.j) (keeps-more_outs c.args.j s.children.items c.args.u) c.args.v c.index_mut.result.now c.raise_out.new.self
    c.index_mut.ensures.value c.raise_out.ensures).0
