-- The number of explicit pairs, as a count over vertices.
use Rattle.std.proofs.Common.{◌≡◌, ℕ, ◌+◌, Bool, true, false, ◌&&◌, ◌==◌, cond, List, [], ◌∷◌, inl, inr, refl, sym, ap, ◌∙◌, arith}
use Rattle.std.specs.Prelude.{Option, None, Some, is_some, count_by, nat_eq}
use Rattle.std.proofs.Math.Dec.{T}
use Rattle.std.specs.List.{AllByRecursion, IsDistinct}
use Rattle.std.specs.declared.cmp.Ordering.{Ordering}
use Rattle.std.specs.Ordering.{eq_by_cmp, is_eq}
use Rattle.std.specs.Cmp.{IsTotalOrder, tied_itself}
use Rattle.std.specs.FinMap.{FinMap, IsAntisymmetric, entries, entries_sorted, get, remove, find, is_sorted, get-entries, get-remove}
use Rattle.std.specs.FinMap.Entries.{below_all}
use Rattle.std.proofs.lemmas.Bool.{and_parts, eqb-true, eq-eqb, ne_eqb}
use Rattle.std.proofs.lemmas.List.Sums.{sum_by-cons}
use Rattle.flux_model.specs.Exact.{Row, StateRows, pair_cmp, row_at}
use Rattle.dcg_store.specs.Counters.{is_full}
use Rattle.dcg_store.specs.SoundRows.{is_live, live_count}
use Rattle.dcg_store.proofs.CountLemmas.{bit, equal, remove_missing, count-remove}
use Rattle.dcg_store.proofs.PairLemmas.{pair_cmp_total, pair_cmp-IsAntisymmetric, same_pair, first, second}
use Rattle.flux_model.specs.Members.{In}
use Rattle.dcg_store.proofs.BoundLemmas.{strict}

-- ---- nothing is counted where no look-up finds what passes

module _ {K X : Type 0} {R : K → K → Ordering} (total : IsTotalOrder R) (same : IsAntisymmetric R) where
  find_below : (x : K) (es : List (K × X)) → T (below_all R x es) → find R x es ≡ None
  find_below x [] h = refl
  find_below x (e ∷ es) h = ap (λ b. cond b (Some e.1) (find R x es)) (strict (R x e.0) (first _ _ h)) ∙ find_below x es (second _ _ h)

  count_by-none : (p : K × X → Bool) (es : List (K × X)) → T (is_sorted R es) → ((k : K) (x : X) → find R k es ≡ Some x → p (k, x) ≡ false) → count_by p es ≡ 0
  count_by-none p [] sorted none = refl
  count_by-none p (e ∷ es) sorted none =
      let here = ap bit (none e.0 e.1 (ap (λ r. cond (is_eq r) (Some e.1) (find R e.0 es)) (tied_itself total e.0))) in
      let all = sum_by-cons (λ y. bit (p y)) e es in
      omega (arith, all, here, count_by-none p es (second _ _ sorted) (λ k x found. none k x (later k x (eq_by_cmp R k e.0) refl found)))
    where
      later : (k : K) (x : X) (b : Bool) → eq_by_cmp R k e.0 ≡ b → find R k es ≡ Some x → cond b (Some e.1) (find R k es) ≡ Some x
      later k x true tie found =
          let missing : find R k es ≡ None = ap (λ z. find R z es) (same k e.0 (equal (R k e.0) tie)) ∙ find_below e.0 es (first _ _ sorted) in
          absurd (let bad : true ≡ false = ap is_some (sym found ∙ missing) in cc)
      later k x false tie found = found

-- ---- a count over vertices

-- whether there is a row whose out counters are all at least 1
abbrev pub has_full : Option Row → Bool
has_full None = false
has_full (Some row) = is_full row

pub count_by-alike : (p q : ℕ → Bool) (vs : List ℕ) → ((v : ℕ) → In vs v → p v ≡ q v) → count_by p vs ≡ count_by q vs
count_by-alike p q [] h = refl
count_by-alike p q (v ∷ vs) h =
    let here = ap bit (h v (inl refl)) in
    let old = sum_by-cons (λ y. bit (p y)) v vs in
    let new = sum_by-cons (λ y. bit (q y)) v vs in
    omega (arith, here, old, new, count_by-alike p q vs (λ w m. h w (inr m)))

other_in : (v w : ℕ) (vs : List ℕ) → AllByRecursion (λ y. nat_eq v y ≡ false) vs → In vs w → nat_eq v w ≡ false
other_in v w [] h m = absurd m
other_in v w (x ∷ vs) h m = elim m [ inl same ↦ ap (nat_eq v) same ∙ h.0 | inr m ↦ other_in v w vs h.1 m ]

module _ (u : ℕ) where
  live_in_rows : FinMap pair_cmp Row → ℕ
  live_in_rows rows = count_by (is_live u) (entries rows)

  one_apart : (rows : FinMap pair_cmp Row) (v : ℕ) → live_in_rows rows ≡ bit (has_full (get rows (u, v))) + live_in_rows (remove rows (u, v))
  unfolding live_in_rows
  one_apart rows v = by (get rows (u, v)) refl
    where
      by : (o : Option Row) → get rows (u, v) ≡ o → live_in_rows rows ≡ bit (has_full o) + live_in_rows (remove rows (u, v))
      by None e = let same = ap (λ m. count_by (is_live u) (entries m)) (remove_missing pair_cmp_total pair_cmp-IsAntisymmetric rows (u, v) e) in omega (arith, same)
      by (Some row) e =
          let all = count-remove pair_cmp_total pair_cmp-IsAntisymmetric (is_live u) rows (u, v) row e in
          let own = ap (λ b. bit (b && is_full row)) (eq-eqb u u refl) in
          omega (arith, all, own)

  get_apart : (rows : FinMap pair_cmp Row) (v w : ℕ) → get (remove rows (u, v)) (u, w) ≡ cond (w == v) None (get rows (u, w))
  get_apart rows v w =
      get-remove pair_cmp_total rows (u, v) (u, w) ∙ ap (λ b. cond b None (get rows (u, w))) (same_pair (u, w) (u, v) ∙ ap (λ b. b && w == v) (eq-eqb u u refl))

  count_over : (vs : List ℕ) (rows : FinMap pair_cmp Row) → IsDistinct nat_eq vs → ((v : ℕ) → has_full (get rows (u, v)) ≡ true → In vs v) → live_in_rows rows ≡ count_by (λ v. has_full (get rows (u, v))) vs
  unfolding live_in_rows IsDistinct
  count_over [] rows distinct all =
      count_by-none pair_cmp_total pair_cmp-IsAntisymmetric (is_live u) (entries rows) (entries_sorted rows) (λ k row found. none k row (k.0 == u && is_full row) refl (get-entries rows k ∙ found))
    where
      none : (k : ℕ × ℕ) (row : Row) (b : Bool) → (k.0 == u && is_full row) ≡ b → get rows k ≡ Some row → b ≡ false
      none k row false e found = refl
      none k row true e found =
          let parts = and_parts (k.0 == u) (is_full row) e in
          absurd (all k.1 (ap has_full (ap (λ x. get rows (x, k.1)) (sym (eqb-true k.0 u parts.0)) ∙ found) ∙ parts.1))
  count_over (v ∷ vs) rows distinct all =
      let apart = one_apart rows v in
      let rest = count_over vs (remove rows (u, v)) distinct.1 (λ w h. others w (w == v) refl (ap has_full (sym (get_apart rows v w)) ∙ h)) in
      let alike = count_by-alike (λ w. has_full (get (remove rows (u, v)) (u, w))) (λ w. has_full (get rows (u, w))) vs
      (λ w m. ap has_full (get_apart rows v w ∙ ap (λ b. cond b None (get rows (u, w))) (ne_eqb w v (λ same. no_bool (sym (eq-eqb v w (sym same)) ∙ other_in v w vs distinct.0 m))))) in
      let count = sum_by-cons (λ w. bit (has_full (get rows (u, w)))) v vs in
      omega (arith, apart, rest, alike, count)
    where
      no_bool : true ≡ false → ⊥
      no_bool bad = absurd (let e : true ≡ false = bad in cc)

      others : (w : ℕ) (b : Bool) → (w == v) ≡ b → has_full (cond b None (get rows (u, w))) ≡ true → In vs w
      others w true e h = absurd (let bad : false ≡ true = h in cc)
      others w false e h = elim (all w h) [ inl same ↦ absurd (no_bool (sym (eq-eqb w v same) ∙ e)) | inr m ↦ m ]

-- the explicit pairs of u are counted over any list of distinct vertices that has each of them
pub live_count-over : (d : StateRows) (u : ℕ) (vs : List ℕ) → IsDistinct nat_eq vs → ((v : ℕ) → has_full (row_at d u v) ≡ true → In vs v) → live_count d u ≡ count_by (λ v. has_full (row_at d u v)) vs
unfolding live_in_rows
live_count-over d u vs distinct all = count_over u vs d.rows distinct all
