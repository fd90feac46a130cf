-- A row of counters, after each move of one.
use Rattle.std.proofs.Common.{◌≡◌, ℕ, true, false, cond, List, sym, ap, subst, ◌∙◌}
use Rattle.std.specs.Prelude.{Option, None, Some, is_some, IsSomeAnd, slice_index}
use Rattle.std.specs.Option.{option_map, option_map_or, ForSome}
use Rattle.std.specs.FinMap.{empty, get-empty}
use Rattle.flux_model.specs.Exact.{Row, StateRows, pair_cmp, row_at}
use Rattle.dcg_store.specs.Counters.{first_row, more_ins, more_outs, fewer_outs}
use Rattle.dcg_store.specs.Moves.{in_raised, in_lowered, out_raised, out_lowered}
use Rattle.dcg_store.proofs.CallerLemmas.{is_pair, left_of, row_at-in_raised, row_at-in_lowered, row_at-out_raised, row_at-out_lowered}

-- what holds of the row of u and v
abbrev pub HasRow : StateRows → ℕ → ℕ → Option Row → Type 0
HasRow d u v o = row_at d u v ≡ o

pub none_at_first : (d : StateRows) (children : List ℕ) (u v : ℕ) → d ≡ record { is_broken = false; children = children; rows = empty } → HasRow d u v None
none_at_first d children u v e = ap (λ r. row_at r u v) e ∙ get-empty pair_cmp (u, v)

module _ (old new : StateRows) (u v x y : ℕ) where
  pub row_begins : (width : ℕ) → is_pair u v x y ≡ true → new ≡ in_raised old u v → slice_index old.children u ≡ width → HasRow old u v None → HasRow new x y (Some (first_row width))
  row_begins width here e wide none =
      ap (λ r. row_at r x y) e ∙ row_at-in_raised old u v x y ∙ ap (λ b. cond b (Some (option_map_or more_ins (row_at old u v) (first_row (slice_index old.children u)))) (row_at old x y)) here
      ∙ ap (λ o. Some (option_map_or more_ins o (first_row (slice_index old.children u)))) none ∙ ap (λ w. Some (first_row w)) wide

  pub row_gains_in : (row : Row) → is_pair u v x y ≡ true → new ≡ in_raised old u v → HasRow old u v (Some row) → HasRow new x y (Some (more_ins row))
  row_gains_in row here e was =
      ap (λ r. row_at r x y) e ∙ row_at-in_raised old u v x y ∙ ap (λ b. cond b (Some (option_map_or more_ins (row_at old u v) (first_row (slice_index old.children u)))) (row_at old x y)) here
      ∙ ap (λ o. Some (option_map_or more_ins o (first_row (slice_index old.children u)))) was

  pub row_loses_in : (row : Row) → is_pair u v x y ≡ true → new ≡ in_lowered old u v → HasRow old u v (Some row) → HasRow new x y (left_of (Some row))
  row_loses_in row here e was =
      ap (λ r. row_at r x y) e ∙ row_at-in_lowered old u v x y ∙ ap (λ b. cond b (left_of (row_at old u v)) (row_at old x y)) here ∙ ap left_of was

  pub row_stays : (o : Option Row) → is_pair u v x y ≡ false → new ≡ in_raised old u v → HasRow old x y o → HasRow new x y o
  row_stays o apart e was =
      ap (λ r. row_at r x y) e ∙ row_at-in_raised old u v x y ∙ ap (λ b. cond b (Some (option_map_or more_ins (row_at old u v) (first_row (slice_index old.children u)))) (row_at old x y)) apart ∙ was

  pub row_gains_out : (j : ℕ) (row : Row) → is_pair u v x y ≡ true → new ≡ out_raised old u v j → HasRow old u v (Some row) → HasRow new x y (Some (more_outs j row))
  row_gains_out j row here e was =
      ap (λ r. row_at r x y) e ∙ row_at-out_raised old u v x y j ∙ ap (λ b. cond b (option_map (more_outs j) (row_at old u v)) (row_at old x y)) here ∙ ap (option_map (more_outs j)) was

  pub row_loses_out : (j : ℕ) (row : Row) → is_pair u v x y ≡ true → new ≡ out_lowered old u v j → HasRow old u v (Some row) → HasRow new x y (Some (fewer_outs j row))
  row_loses_out j row here e was =
      ap (λ r. row_at r x y) e ∙ row_at-out_lowered old u v x y j ∙ ap (λ b. cond b (option_map (fewer_outs j) (row_at old u v)) (row_at old x y)) here ∙ ap (option_map (fewer_outs j)) was

-- ---- what the moves require

pub no_room_wanted : (P : Row → Type 0) (d : StateRows) (u v : ℕ) → HasRow d u v None → ForSome (row_at d u v) P
no_room_wanted P d u v none row e = absurd (let bad : false ≡ true = ap is_some (sym none ∙ e) in cc)

pub has : (P : Row → Type 0) (d : StateRows) (u v : ℕ) (row : Row) → HasRow d u v (Some row) → P row → IsSomeAnd (row_at d u v) P
has P d u v row there h = subst (λ o. IsSomeAnd o P) (sym there) h

pub has_room : (P : Row → Type 0) (d : StateRows) (u v : ℕ) (row : Row) → HasRow d u v (Some row) → P row → ForSome (row_at d u v) P
has_room P d u v row there h r e = subst (λ o. IsSomeAnd o P) (sym there ∙ e) h
