-- Rows with no out counter raised, after joints more lead in.
use Rattle.std.proofs.Common.{◌≡◌, ◌≢◌, ℕ, zero, suc, ◌+◌, Bool, true, false, cond, ◌==◌, ◌&&◌, refl, sym, ap, subst, ◌∙◌, arith}
use Rattle.std.specs.Prelude.{Option, Some, replicate, slice_index}
use Rattle.std.specs.Option.{option_map_or}
use Rattle.std.proofs.lemmas.Bool.{eqb-true, eq-eqb, ne_eqb}
use Rattle.flux_model.specs.Exact.{Row, StateRows, row_at}
use Rattle.dcg_store.specs.Counters.{first_row, more_ins}
use Rattle.dcg_store.specs.Moves.{in_raised}
use Rattle.dcg_store.proofs.CallerLemmas.{is_pair, row_at-in_raised}
use Rattle.dcg_transition.specs.Filled.{ins_at, begun, AreBegun, IsSameBeside, HasMoreIns}

abbrev pub ins_of : Option Row → ℕ
ins_of o = option_map_or (λ (row : Row). row.ins) o 0

pub ins_of-begun : (width n : ℕ) → ins_of (begun width n) ≡ n
ins_of-begun width zero = refl
ins_of-begun width (suc k) = refl

pub ins_is : (d : StateRows) (u v : ℕ) (row : Row) → row_at d u v ≡ Some row → ins_at d u v ≡ row.ins
ins_is d u v row e = ap ins_of e

begun_next : (width n : ℕ) → Some (option_map_or more_ins (begun width n) (first_row width)) ≡ begun width (suc n)
begun_next width zero = refl
begun_next width (suc k) = ap (λ i. Some (record { ins = i; outs = replicate width 0 })) (let e : suc k + 1 ≡ suc (suc k) = omega arith in e)

module _ (u : ℕ) where
  -- from the rows as they are now
  pub more_from_rows : (more : ℕ → ℕ) (old new : StateRows) → IsSameBeside u old new → ((v : ℕ) → row_at new u v ≡ begun (slice_index old.children u) (ins_at old u v + more v)) → HasMoreIns u more old new
  more_from_rows more old new beside rows = record { beside = beside; begun = begun_now; ins = ins_now }
    where
      ins_now : (v : ℕ) → ins_at new u v ≡ ins_at old u v + more v
      ins_now v = ap ins_of (rows v) ∙ ins_of-begun (slice_index old.children u) (ins_at old u v + more v)

      begun_now : (v : ℕ) → row_at new u v ≡ begun (slice_index new.children u) (ins_at new u v)
      begun_now v = rows v ∙ (λ i. begun (slice_index (sym beside.children i) u) (sym (ins_now v) i))

  pub none_more : (old new : StateRows) (more : ℕ → ℕ) → AreBegun old u → new ≡ old → ((v : ℕ) → more v ≡ 0) → HasMoreIns u more old new
  none_more old new more before same none =
      more_from_rows more old new
      (record { whole = ap (λ (d : StateRows). d.is_broken) same; children = ap (λ (d : StateRows). d.children) same; others = λ x y _. ap (λ d. row_at d x y) same })
      (λ v. ap (λ d. row_at d u v) same ∙ before v ∙ ap (begun (slice_index old.children u)) (let e = none v in let sum : ins_at old u v ≡ ins_at old u v + more v = omega (arith, e) in sum))

  -- as many more, by other words
  pub more_alike : (more also : ℕ → ℕ) (old new : StateRows) → HasMoreIns u more old new → ((v : ℕ) → more v ≡ also v) → HasMoreIns u also old new
  more_alike more also old new is e = record { beside = is.beside; begun = is.begun; ins = λ v. is.ins v ∙ ap (λ n. ins_at old u v + n) (e v) }

  pub more_twice : (more also all : ℕ → ℕ) (old mid new : StateRows) → HasMoreIns u more old mid → HasMoreIns u also mid new → ((v : ℕ) → more v + also v ≡ all v) → HasMoreIns u all old new
  more_twice more also all old mid new is next e = record {
    beside = record {
      whole = next.beside.whole ∙ is.beside.whole;
      children = next.beside.children ∙ is.beside.children;
      others = λ x y apart. next.beside.others x y apart ∙ is.beside.others x y apart;
    };
    begun = next.begun;
    ins = λ v. omega (arith, next.ins v, is.ins v, e v);
  }

  -- one joint more to w
  pub one_more : (w : ℕ) (old new : StateRows) → AreBegun old u → new ≡ in_raised old u w → HasMoreIns u (λ v. cond (v == w) 1 0) old new
  one_more w old new before is =
      more_from_rows (λ v. cond (v == w) 1 0) old new
      (record { whole = ap (λ (d : StateRows). d.is_broken) is; children = ap (λ (d : StateRows). d.children) is; others = others })
      rows
    where
      width : ℕ
      width = slice_index old.children u

      now : (x y : ℕ) → row_at new x y ≡ cond (is_pair u w x y) (Some (option_map_or more_ins (row_at old u w) (first_row (slice_index old.children u)))) (row_at old x y)
      now x y = ap (λ d. row_at d x y) is ∙ row_at-in_raised old u w x y

      others : (x y : ℕ) → x ≢ u → row_at new x y ≡ row_at old x y
      others x y apart = now x y ∙ ap (λ b. cond (b && y == w) (Some (option_map_or more_ins (row_at old u w) (first_row (slice_index old.children u)))) (row_at old x y)) (ne_eqb x u apart)

      raised : row_at new u w ≡ begun (slice_index old.children u) (suc (ins_at old u w))
      raised =
          now u w
          ∙ (λ i. cond (eq-eqb u u refl i && eq-eqb w w refl i) (Some (option_map_or more_ins (before w i) (first_row (slice_index old.children u)))) (row_at old u w))
          ∙ begun_next (slice_index old.children u) (ins_at old u w)

      rows : (v : ℕ) → row_at new u v ≡ begun (slice_index old.children u) (ins_at old u v + cond (v == w) 1 0)
      rows v = by (v == w) refl
        where
          by : (b : Bool) → (v == w) ≡ b → row_at new u v ≡ begun (slice_index old.children u) (ins_at old u v + cond b 1 0)
          by true e =
              let same = eqb-true v w e in
              let sum : suc (ins_at old u v) ≡ ins_at old u v + 1 = omega arith in
              subst (λ z. row_at new u z ≡ begun (slice_index old.children u) (suc (ins_at old u z))) (sym same) raised ∙ ap (begun (slice_index old.children u)) sum
          by false e =
              let sum : ins_at old u v ≡ ins_at old u v + 0 = omega arith in
              now u v
              ∙ (λ i. cond (eq-eqb u u refl i && e i) (Some (option_map_or more_ins (row_at old u w) (first_row (slice_index old.children u)))) (row_at old u v))
              ∙ before v ∙ ap (begun (slice_index old.children u)) sum
