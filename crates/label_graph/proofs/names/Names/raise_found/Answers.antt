use Rattle.std.proofs.Common.{◌≡◌, ℕ, ◌+◌, Some, None, List, Option, refl, sym, ap, ◌∙◌, subst, arith, cond}
use Rattle.std.specs.Prelude.{slice_set, nat_eq, MatchOption}
use Rattle.std.specs.Option.{option_copied_mut}
use Rattle.std.specs.Cmp.Lexicographic.{pointwise}
use Rattle.label_graph.specs.declared.names.Name.{Name}
use Rattle.label_graph.specs.Names.{slot, text_at, uses_of, IsUnknown}
use Rattle.std.proofs.lemmas.Option.{same_Some, MatchOption-at_some, MatchOption-at_none}
use Rattle.slab.specs.Slab.{Slab}
use Rattle.label_graph.specs.Table.{number_of}
use Rattle.label_graph.proofs.PlaceLemmas.{IsSome-mapped, option_map_some}
use Rattle.label_graph.proofs.TableLemmas.{same_name, kept_inside, added_inside, unknown_number, set_here, set_other}
use Rattle.label_graph.proofs.names.Names.raise_found.Goals as goal

pub unwrap-name-requires : goal.unwrap-name-requires
unwrap-name-requires c =
    let found = MatchOption-at_some (IsUnknown c.args.self.now c.args.text.now) (λ n. text_at c.args.self.now n ≡ Some c.args.text.now) c.in-Some.n c.in-Some.is c.requires in
    let x = option_map_some (λ (y : Name). y.text) (slot c.self.inside.slots.slots c.in-Some.n) c.args.text.now (ap (λ l. text_at l c.in-Some.n) c.self.view_is ∙ found) in
    IsSome-mapped _ c.get_mut.result x.0 (c.get_mut.ensures.value ∙ x.1)

pub invariant_of-self-in-Some : goal.invariant_of-self-in-Some
invariant_of-self-in-Some c =
    let y : Name = record { text = c.unwrap-name.result.now.text; uses = c.in-Some-checked_add.uses } in
    let at : slot c.self.inside.slots.slots c.in-Some.n ≡ Some c.unwrap-name.result.now = sym c.get_mut.ensures.value ∙ ap option_copied_mut c.unwrap-name.ensures in
    kept_inside c.self.inside.numbers.entries c.self.inside.slots.slots (slice_set c.self.inside.slots.slots c.in-Some.n (Some y)) c.in-Some.n c.unwrap-name.result.now y c.self.invariant at
    (set_here c.self.inside.slots.slots c.in-Some.n c.unwrap-name.result.now (Some y) at) refl (let t = c.in-Some-checked_add.ensures.1 in omega arith) (set_other c.self.inside.slots.slots c.in-Some.n (Some y))

pub invariant_of-self-in-None : goal.invariant_of-self-in-None
invariant_of-self-in-None c =
    let x : Name = record { text = c.in_ok-text-in-None.text; uses = 1 } in
    let unknown : number_of c.self.inside.numbers.entries c.args.text.now ≡ None =
    unknown_number c.self.inside.numbers.entries c.self.inside.slots.slots c.args.text.now c.self.invariant
    (subst (λ l. IsUnknown l c.args.text.now) (sym c.self.view_is) (MatchOption-at_none (IsUnknown c.args.self.now c.args.text.now) (λ n. text_at c.args.self.now n ≡ Some c.args.text.now) c.in-None.is c.requires)) in
    let kept = c.reserve.ensures.rest_kept in
    let slots : c.reserve.new.self.slots ≡ c.self.inside.slots.slots = ap (λ (s : Slab Name). s.slots) c.reserve.ensures.rest_kept in
    let key : c.in_ok-key-in-None.key ≡ c.args.text.now = c.in_ok-key-in-None.ensures in
    let text : c.in_ok-text-in-None.text ≡ c.args.text.now = c.in_ok-text-in-None.ensures in
    let a = c.in-Ok.ensures in
    let b = c.vacant_key.ensures.value in
    let same : c.self.inside.slots.vacant_key ≡ c.in-Ok.n = grind arith in
    let number : c.insert_reserved.result ≡ c.in-Ok.n = c.insert_reserved.ensures.key ∙ (ap (λ (s : Slab Name). s.vacant_key) c.reserve.ensures.rest_kept ∙ same) in
    let names = c.insert_reserved.new.self.slots in
    let P : ℕ → Type 0 = λ m. slot c.insert_reserved.new.self.slots m ≡ Some x in
    let S : List (Option Name) → Type 0 = λ l. (q : ℕ) → (q ≡ c.in-Ok.n → ⊥) → slot c.insert_reserved.new.self.slots q ≡ slot l q in
    let Q : ℕ → Type 0 = λ m. (q : ℕ) → (q ≡ m → ⊥) → slot c.insert_reserved.new.self.slots q ≡ slot c.reserve.new.self.slots q in
    let R : List ℕ → Type 0 = λ t. (u : List ℕ) → number_of c.insert.new.self.entries u ≡ cond (pointwise nat_eq t u) (Some c.in-Ok.n) (number_of c.self.inside.numbers.entries u) in
    let T : List ℕ → Type 0 = λ t. number_of c.self.inside.numbers.entries t ≡ None in
    let V : ℕ → Type 0 = λ m. slot c.self.inside.slots.slots m ≡ None in
    added_inside c.self.inside.numbers.entries c.insert.new.self.entries c.self.inside.slots.slots c.insert_reserved.new.self.slots c.in-Ok.n x c.self.invariant
    (subst V (b ∙ same) c.vacant_key.ensures.vacant)
    (subst P number c.insert_reserved.ensures.updates.changed) (omega arith)
    (subst T (sym text) unknown)
    (subst S slots (subst Q number c.insert_reserved.ensures.updates.others))
    (subst R (key ∙ sym text) c.in-Ok-insert.ensures.updates.0)

pub returns-in-Some-checked_add-clause-here : goal.returns-in-Some-checked_add-clause-here
returns-in-Some-checked_add-clause-here c =
    let y : Name = record { text = c.unwrap-name.result.now.text; uses = c.in-Some-checked_add.uses } in
    let at : slot c.self.inside.slots.slots c.in-Some.n ≡ Some c.unwrap-name.result.now = sym c.get_mut.ensures.value ∙ ap option_copied_mut c.unwrap-name.ensures in
    let found = MatchOption-at_some (IsUnknown c.args.self.now c.args.text.now) (λ n. text_at c.args.self.now n ≡ Some c.args.text.now) c.in-Some.n c.in-Some.is c.requires in
    let x = option_map_some (λ (y : Name). y.text) (slot c.self.inside.slots.slots c.in-Some.n) c.args.text.now (ap (λ l. text_at l c.in-Some.n) c.self.view_is ∙ found) in
    let same : x.0 ≡ c.unwrap-name.result.now = same_Some x.0 c.unwrap-name.result.now (sym x.1 ∙ at) in
    let P : List (Option Name) → Type 0 = λ names. uses_of (slot names c.in-Some.n) ≡ c.unwrap-name.result.now.uses in
    let was : uses_of (slot c.args.self.now c.in-Some.n) ≡ c.unwrap-name.result.now.uses = subst P c.self.view_is (ap uses_of at) in
    set_here c.self.inside.slots.slots c.in-Some.n c.unwrap-name.result.now (Some y) at
    ∙ ap Some (same_name c.unwrap-name.result.now.text c.args.text.now c.in-Some-checked_add.uses (uses_of (slot c.args.self.now c.in-Some.n) + 1)
    (sym (ap (λ (z : Name). z.text) same) ∙ x.2) (c.in-Some-checked_add.ensures.1 ∙ ap (λ (m : ℕ). m + 1) (sym was)))

pub returns-in-Some-checked_add-clause-was : goal.returns-in-Some-checked_add-clause-was
returns-in-Some-checked_add-clause-was c =
    let found = MatchOption-at_some (IsUnknown c.args.self.now c.args.text.now) (λ n. text_at c.args.self.now n ≡ Some c.args.text.now) c.in-Some.n c.in-Some.is c.requires in
    let x = option_map_some (λ (y : Name). y.text) (slot c.self.inside.slots.slots c.in-Some.n) c.args.text.now (ap (λ l. text_at l c.in-Some.n) c.self.view_is ∙ found) in
    let P : List (Option Name) → Type 0 = λ names. MatchOption (slot names c.in-Some.n) (IsUnknown names c.args.text.now) (λ x. x.text ≡ c.args.text.now) in
    subst P c.self.view_is (rw x.1 x.2)
