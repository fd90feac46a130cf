-- What a state tells of a row.
use Rattle.std.proofs.Common.{◌≡◌, ◌≢◌, Bool, true, false, cond, refl, sym, ap, ◌∙◌}
use Rattle.std.specs.Prelude.{Option, None, Some, is_some}
use Rattle.flux_model.specs.Exact.{Row}
use Rattle.flux_model.specs.declared.state.State.{State}
use Rattle.flux_model.specs.declared.state.State.TheVariants.{Null, Implicit, Explicit}
use Rattle.dcg_store.specs.Counters.{is_full, state_of_row}
use Rattle.dcg_moves.specs.Rows.{has_all}

-- there is none
pub row_null : (o : Option Row) (state : State) → state ≡ state_of_row o → state ≡ Null → o ≡ None
row_null None state is e = refl
row_null (Some row) state is e = absurd (both (is_full row) (sym is ∙ e))
  where
    both : (b : Bool) → cond b Explicit Implicit ≡ Null → ⊥
    both true h = let bad : Explicit ≡ Null = h in cc
    both false h = let bad : Implicit ≡ Null = h in cc

-- there is one
pub row_stands : (o : Option Row) (state : State) → state ≡ state_of_row o → state ≢ Null → is_some o ≡ true
row_stands None state is some = absurd (some is)
row_stands (Some row) state is some = refl

-- a row that is there
pub stands_row : (o : Option Row) → is_some o ≡ true → (row : Row) × (o ≡ Some row)
stands_row None h = absurd (let bad : false ≡ true = h in cc)
stands_row (Some row) h = (row, refl)

-- one that is not
pub none_row : (o : Option Row) → is_some o ≡ false → o ≡ None
none_row None h = refl
none_row (Some row) h = absurd (let bad : true ≡ false = h in cc)

-- it is full, or it is not
pub full_explicit : (o : Option Row) (state : State) → state ≡ state_of_row o → state ≡ Explicit → has_all o ≡ true
full_explicit None state is e = absurd (let bad : Null ≡ Explicit = sym is ∙ e in cc)
full_explicit (Some row) state is e = full (is_full row) (sym is ∙ e)
  where
    full : (b : Bool) → cond b Explicit Implicit ≡ Explicit → b ≡ true
    full true h = refl
    full false h = absurd (let bad : Implicit ≡ Explicit = h in cc)

-- it is not full where the state is implicit
pub part_implicit : (o : Option Row) (state : State) → state ≡ state_of_row o → state ≡ Implicit → has_all o ≡ false
part_implicit None state is e = refl
part_implicit (Some row) state is e = part (is_full row) (sym is ∙ e)
  where
    part : (b : Bool) → cond b Explicit Implicit ≡ Implicit → b ≡ false
    part true h = absurd (let bad : Explicit ≡ Implicit = h in cc)
    part false h = refl

-- nor where the state is another than explicit
pub part_other : (o : Option Row) (state : State) → state ≡ state_of_row o → state ≢ Explicit → has_all o ≡ false
part_other None state is other = refl
part_other (Some row) state is other = part (is_full row) (λ h. other (is ∙ ap (λ b. cond b Explicit Implicit) h))
  where
    part : (b : Bool) → (b ≡ true → ⊥) → b ≡ false
    part true h = absurd (h refl)
    part false h = refl

-- it is full where the state is neither null nor implicit
pub full_other : (o : Option Row) (state : State) → state ≡ state_of_row o → state ≢ Null → state ≢ Implicit → has_all o ≡ true
full_other None state is some other = absurd (some is)
full_other (Some row) state is some other = full (is_full row) (λ h. other (is ∙ ap (λ b. cond b Explicit Implicit) h))
  where
    full : (b : Bool) → (b ≡ false → ⊥) → b ≡ true
    full true h = refl
    full false h = absurd (h refl)
