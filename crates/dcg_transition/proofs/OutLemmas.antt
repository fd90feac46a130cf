-- Rows after one of their out counters has grown.
use Rattle.std.proofs.Common.{◌≡◌, ◌≢◌, ℕ, ◌+◌, ◌-◌, ◌^◌, ◌<◌, ◌≤◌, Bool, true, false, cond, ◌==◌, ◌&&◌, List, length, get_or, set, refl, sym, ap, subst, ◌∙◌, arith}
use Rattle.std.specs.Prelude.{Option, None, Some, slice_index}
use Rattle.std.specs.Option.{option_map, is_some, ForSome, IsSomeAnd}
use Rattle.std.proofs.lemmas.Bool.{eqb-true, eq-eqb, ne_eqb}
use Rattle.std.proofs.lemmas.List.{set-set, set-get_or, get_or-set_same}
use Rattle.flux_model.specs.Exact.{Row, StateRows, row_at}
use Rattle.dcg_store.specs.Counters.{more_outs}
use Rattle.dcg_store.specs.Moves.{out_raised}
use Rattle.dcg_store.proofs.CallerLemmas.{row_at-out_raised}
use Rattle.dcg_transition.specs.Filled.{is_open, opens, with_more_outs, HasMoreOuts, HasRoomFor}

outs_same : (k : ℕ) (row : Row) → with_more_outs k 0 row ≡ row
outs_same k row =
    let n : get_or row.outs k 0 + 0 ≡ get_or row.outs k 0 = omega arith in
    ap (λ (outs : List ℕ). record row { outs = outs }) (ap (set row.outs k) n ∙ set-get_or row.outs k 0)

pub outs_same_option : (k : ℕ) (o : Option Row) → option_map (with_more_outs k 0) o ≡ o
outs_same_option k None = refl
outs_same_option k (Some row) = ap (λ r. Some r) (outs_same k row)

-- more, and then more again
outs_twice : (k more also all : ℕ) (row : Row) → more + also ≡ all → k < length row.outs → with_more_outs k also (with_more_outs k more row) ≡ with_more_outs k all row
outs_twice k more also all row e h =
    ap (λ (outs : List ℕ). record row { outs = outs })
    (ap (λ n. set (set row.outs k (get_or row.outs k 0 + more)) k (n + also)) (get_or-set_same row.outs k (get_or row.outs k 0 + more) 0 h)
    ∙ set-set row.outs k (get_or row.outs k 0 + more) (get_or row.outs k 0 + more + also)
    ∙ ap (set row.outs k) (let sum : get_or row.outs k 0 + more + also ≡ get_or row.outs k 0 + all = omega (arith, e) in sum))

pub outs_twice_option : (k more also all : ℕ) (o : Option Row) → more + also ≡ all → ForSome o (λ row. k < length row.outs) → option_map (with_more_outs k also) (option_map (with_more_outs k more) o) ≡ option_map (with_more_outs k all) o
outs_twice_option k more also all None e h = refl
outs_twice_option k more also all (Some row) e h = ap (λ r. Some r) (outs_twice k more also all row e (h row refl))

module _ (u v k : ℕ) where
  pair_cases : (f : Option Row → Option Row) (d : StateRows) → f (row_at d u v) ≡ row_at d u v → (x y : ℕ) → row_at d x y ≡ cond (x == u && y == v) (f (row_at d u v)) (row_at d x y)
  pair_cases f d same x y = by (x == u) (y == v) refl refl
    where
      by : (a b : Bool) → (x == u) ≡ a → (y == v) ≡ b → row_at d x y ≡ cond (a && b) (f (row_at d u v)) (row_at d x y)
      by true true p q = (λ i. row_at d (eqb-true x u p i) (eqb-true y v q i)) ∙ sym same
      by true false p q = refl
      by false b p q = refl

  pub outs_unchanged : (old new : StateRows) → new ≡ old → HasMoreOuts u v k 0 old new
  outs_unchanged old new e = record {
    whole = ap (λ (d : StateRows). d.is_broken) e;
    children = ap (λ (d : StateRows). d.children) e;
    rows = λ x y. ap (λ d. row_at d x y) e ∙ pair_cases (option_map (with_more_outs k 0)) old (outs_same_option k (row_at old u v)) x y;
  }

  -- where there is no row, none grows
  pub outs_absent : (more : ℕ) (old new : StateRows) → new ≡ old → row_at old u v ≡ None → HasMoreOuts u v k more old new
  outs_absent more old new e none = record {
    whole = ap (λ (d : StateRows). d.is_broken) e;
    children = ap (λ (d : StateRows). d.children) e;
    rows = λ x y. ap (λ d. row_at d x y) e ∙ pair_cases (option_map (with_more_outs k more)) old (ap (option_map (with_more_outs k more)) none ∙ sym none) x y;
  }

  pub outs_raised : (more : ℕ) (old mid new : StateRows) → ForSome (row_at old u v) (λ row. k < length row.outs) → HasMoreOuts u v k more old mid → new ≡ out_raised mid u v k → HasMoreOuts u v k (more + 1) old new
  outs_raised more old mid new wide is e = record {
    whole = ap (λ (d : StateRows). d.is_broken) e ∙ is.whole;
    children = ap (λ (d : StateRows). d.children) e ∙ is.children;
    rows = λ x y. ap (λ d. row_at d x y) e ∙ row_at-out_raised mid u v x y k ∙ at x y (x == u && y == v) refl;
  }
    where
      here : row_at mid u v ≡ option_map (with_more_outs k more) (row_at old u v)
      here = is.rows u v ∙ (λ i. cond (eq-eqb u u refl i && eq-eqb v v refl i) (option_map (with_more_outs k more) (row_at old u v)) (row_at old u v))

      at : (x y : ℕ) (b : Bool) → (x == u && y == v) ≡ b → cond b (option_map (more_outs k) (row_at mid u v)) (row_at mid x y) ≡ cond b (option_map (with_more_outs k (more + 1)) (row_at old u v)) (row_at old x y)
      at x y true p = ap (option_map (more_outs k)) here ∙ outs_twice_option k more 1 (more + 1) (row_at old u v) refl wide
      at x y false p = is.rows x y ∙ ap (λ b. cond b (option_map (with_more_outs k more) (row_at old u v)) (row_at old x y)) p

  -- the rows of other pattern vertices stay
  pub outs_beside : (more : ℕ) (old new : StateRows) → HasMoreOuts u v k more old new → (x y : ℕ) → x ≢ u → row_at new x y ≡ row_at old x y
  outs_beside more old new is x y apart = is.rows x y ∙ ap (λ b. cond (b && y == v) (option_map (with_more_outs k more) (row_at old u v)) (row_at old x y)) (ne_eqb x u apart)

  -- what opens now opened before
  pub opens_before : (more : ℕ) (old new : StateRows) → HasMoreOuts u v k more old new → (child x : ℕ) (answer : Bool) → child ≢ u → answer ≡ opens new child x → answer ≡ true → opens old child x ≡ true
  opens_before more old new is child x answer apart told holds = ap is_open (sym (outs_beside more old new is child x apart)) ∙ sym told ∙ holds

  -- the row that has grown
  pub outs_here : (more : ℕ) (old new : StateRows) → HasMoreOuts u v k more old new → row_at new u v ≡ option_map (with_more_outs k more) (row_at old u v)
  outs_here more old new is = is.rows u v ∙ (λ i. cond (eq-eqb u u refl i && eq-eqb v v refl i) (option_map (with_more_outs k more) (row_at old u v)) (row_at old u v))

-- ---- room

pub wide_enough : (k more : ℕ) (o : Option Row) → IsSomeAnd o (HasRoomFor k more) → ForSome o (λ row. k < length row.outs)
wide_enough k more None h row e = absurd h
wide_enough k more (Some row) h other e = let same : row ≡ other = cc in subst (λ (r : Row). k < length r.outs) same h.0

pub has_room : (k more most : ℕ) (o now : Option Row) → IsSomeAnd o (HasRoomFor k most) → now ≡ option_map (with_more_outs k more) o → more + 1 ≤ most → IsSomeAnd now (λ row. slice_index row.outs k < 2 ^ 32 - 1)
has_room k more most None now h e few = absurd h
has_room k more most (Some row) now h e few =
    subst (λ n. IsSomeAnd n (λ row. slice_index row.outs k < 2 ^ 32 - 1)) (sym e)
    (omega (arith, get_or-set_same row.outs k (get_or row.outs k 0 + more) 0 h.0, h.1, few))

pub room_of_some : (P : Row → Type 0) (o : Option Row) → is_some o ≡ true → ForSome o P → IsSomeAnd o P
room_of_some P None some h = absurd (let bad : false ≡ true = some in cc)
room_of_some P (Some row) some h = h row refl
