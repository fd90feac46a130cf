use Rattle.std.proofs.Common.{◌≡◌, ◌-◌, Some, refl, sym, ap, ◌∙◌, arith}
use Rattle.std.specs.Prelude.{slice_set}
use Rattle.std.specs.Option.{option_copied_mut}
use Rattle.label_graph.specs.declared.names.Name.{Name}
use Rattle.label_graph.specs.Names.{slot}
use Rattle.label_graph.proofs.TableLemmas.{kept_inside, removed_inside, set_here, set_other}
use Rattle.label_graph.proofs.names.Names.lower.Goals as goal

pub invariant_of-self : goal.invariant_of-self
invariant_of-self c =
    let x : Name = c.unwrap-name.result.now in
    let y : Name = record { text = c.unwrap-name.result.now.text; uses = c.unwrap-name.result.now.uses - 1 } in
    let at : slot c.self.inside.slots.slots c.args.n ≡ Some c.unwrap-name.result.now = sym c.get_mut.ensures.value ∙ ap option_copied_mut c.unwrap-name.ensures in
    kept_inside c.self.inside.numbers.entries c.self.inside.slots.slots (slice_set c.self.inside.slots.slots c.args.n (Some y)) c.args.n c.unwrap-name.result.now y c.self.invariant at
    (set_here c.self.inside.slots.slots c.args.n c.unwrap-name.result.now (Some y) at) refl (let t = c.if-name-gt1.true in omega arith) (set_other c.self.inside.slots.slots c.args.n (Some y))

pub invariant_of-self-else-name-gt1 : goal.invariant_of-self-else-name-gt1
invariant_of-self-else-name-gt1 c =
    let at : slot c.self.inside.slots.slots c.args.n ≡ Some c.unwrap-name.result.now = sym c.get_mut.ensures.value ∙ ap option_copied_mut c.unwrap-name.ensures in
    removed_inside c.self.inside.numbers.entries c.remove.new.self.entries c.self.inside.slots.slots c.remove-text.new.self.slots c.args.n c.remove-text.result c.self.invariant
    (at ∙ (sym (set_here c.self.inside.slots.slots c.args.n c.unwrap-name.result.now (Some c.unwrap-name.result.now) at) ∙ c.remove-text.ensures.value))
    c.remove-text.ensures.updates.changed
    (λ q d. c.remove-text.ensures.updates.others q d ∙ set_other c.self.inside.slots.slots c.args.n (Some c.unwrap-name.result.now) q d) c.remove.ensures.updates.0

pub invariant_of-self-else-name-gt1-2 : goal.invariant_of-self-else-name-gt1-2
invariant_of-self-else-name-gt1-2 c =
    let at : slot c.self.inside.slots.slots c.args.n ≡ Some c.unwrap-name.result.now = sym c.get_mut.ensures.value ∙ ap option_copied_mut c.unwrap-name.ensures in
    removed_inside c.self.inside.numbers.entries c.remove.new.self.entries c.self.inside.slots.slots c.remove-text.new.self.slots c.args.n c.remove-text.result c.self.invariant
    (at ∙ (sym (set_here c.self.inside.slots.slots c.args.n c.unwrap-name.result.now (Some c.unwrap-name.result.now) at) ∙ c.remove-text.ensures.value))
    c.remove-text.ensures.updates.changed
    (λ q d. c.remove-text.ensures.updates.others q d ∙ set_other c.self.inside.slots.slots c.args.n (Some c.unwrap-name.result.now) q d) c.remove.ensures.updates.0
