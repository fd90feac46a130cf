-- Sets of names that are used once more or once less.
use Rattle.std.proofs.Common.{◌≡◌, ℕ, zero, suc, ◌+◌, ◌-◌, Bool, true, false, ◌||◌, not, Option, Some, None, List, [], ◌∷◌, drop, take}
use Rattle.std.proofs.Common.{get_or, refl, sym, ap, ◌∙◌, subst, ⊎_elim, arith}
use Rattle.std.specs.Prelude.{MatchOption, option_map, slice_get, is_some, nat_le, unwrap_or, count_by, if◌then◌else◌}
use Rattle.std.specs.Ordering.{is_eq}
use Rattle.std.specs.Cmp.Lexicographic.{nat_list_cmp_total}
use Rattle.std.proofs.lemmas.Bool.{cases_eq, true≢false}
use Rattle.std.proofs.lemmas.Map.Lookups.{exact_bytes}
use Rattle.std.proofs.lemmas.List.{at_drop_more}
use Rattle.std.proofs.lemmas.List.Sums.{count_by_more_yes, count_by_more_no}
use Rattle.std.proofs.lemmas.Option.{none-some, same_Some, slice_get_within, unwrap_or-slice_get}
use Rattle.flux_model.specs.Text.{text_cmp}
use Rattle.flux_model.specs.Ordered.{is_in, is_ascending}
use Rattle.label_graph.specs.declared.names.Name.{Name}
use Rattle.label_graph.specs.Names.{slot, text_at, uses_of, lowered, IsUnknown, IsTable}
use Rattle.label_graph.specs.SetNames.{is_known, raised_in, lowered_in, IsRaised}
use Rattle.flux_model.specs.Members.{In}
use Rattle.flux_model.proofs.MemberLemmas.{in_any}
use Rattle.flux_laws.proofs.AscendingLemmas.{tail_ascending}
use Rattle.flux_laws.proofs.SameMembersLemmas.{ascending_once}
use Rattle.label_graph.proofs.StoreLemmas.{self_equal, known_slot, text_of_slot}
use Rattle.graph_traits.proofs.NumberLemmas.{is_equal}
use Rattle.label_graph.proofs.TableLemmas.{same_name}

-- ---- sets

-- texts that the test finds equal are the same
pub is_eq-text_same : (t u : List ℕ) → is_eq (text_cmp t u) ≡ true → t ≡ u
is_eq-text_same t u e = exact_bytes t u (is_equal (text_cmp t u) e)

-- a text compares as equal to itself
pub own_text : (t : List ℕ) → is_eq (text_cmp t t) ≡ true
own_text t = ap is_eq (self_equal text_cmp nat_list_cmp_total t)

-- texts that are not the same do not compare as equal
pub other_text : (t u : List ℕ) → (t ≡ u → ⊥) → is_eq (text_cmp t u) ≡ false
other_text t u n = by (is_eq (text_cmp t u)) refl
  where
    by : (b : Bool) → is_eq (text_cmp t u) ≡ b → is_eq (text_cmp t u) ≡ false
    by true e = absurd (n (is_eq-text_same t u e))
    by false e = e

-- the first text of a set is in it
pub first_in : (t : List ℕ) (rest : List (List ℕ)) → is_in text_cmp t (t ∷ rest) ≡ true
first_in t rest = rw (own_text t) refl

-- a text that is not the first of a set is in it where it is in the rest
pub other_in : (t u : List ℕ) (rest : List (List ℕ)) → (t ≡ u → ⊥) → is_in text_cmp t (u ∷ rest) ≡ is_in text_cmp t rest
other_in t u rest n = rw (other_text t u n) refl

-- what is found in a set is in it
pub in_set : (t : List ℕ) (set : List (List ℕ)) → is_in text_cmp t set ≡ true → In set t
in_set t set e = let y = in_any (λ z. is_eq (text_cmp t z)) set e in
    let P : List ℕ → Type 0 = λ z. In set z in subst P (sym (is_eq-text_same t y.0 y.2)) y.1

-- the first text of a set does not come again
pub not_later : (t : List ℕ) (rest : List (List ℕ)) → is_ascending text_cmp (t ∷ rest) ≡ true → is_in text_cmp t rest ≡ false
not_later t rest a = by (is_in text_cmp t rest) refl
  where
    by : (b : Bool) → is_in text_cmp t rest ≡ b → is_in text_cmp t rest ≡ false
    by true e = absurd ((ascending_once text_cmp nat_list_cmp_total (t ∷ rest) a).0 (in_set t rest e))
    by false e = e

-- what is left of a set at a place
pub left_at : (set : List (List ℕ)) (i : ℕ) (t : List ℕ) → slice_get set i ≡ Some t → drop i set ≡ t ∷ drop (i + 1) set
left_at set i t e = at_drop_more (λ (l : List (List ℕ)). l) set i t (slice_get_within set i t e)
    ∙ ap (λ (y : List ℕ). y ∷ drop (i + 1) set) (sym (unwrap_or-slice_get set i t) ∙ ap (λ (o : Option (List ℕ)). unwrap_or o t) e)

ascending_left : (set : List (List ℕ)) (i : ℕ) → is_ascending text_cmp set ≡ true → is_ascending text_cmp (drop i set) ≡ true
ascending_left set zero a = a
ascending_left [] (suc i) a = a
ascending_left (t ∷ rest) (suc i) a = ascending_left rest i (tail_ascending text_cmp nat_list_cmp_total t rest a)

-- a text of a set does not come again behind its place
pub not_left : (set : List (List ℕ)) (i : ℕ) (t : List ℕ) → is_ascending text_cmp set ≡ true → slice_get set i ≡ Some t →
    is_in text_cmp t (drop (i + 1) set) ≡ false
not_left set i t a e =
    let P : List (List ℕ) → Type 0 = λ l. is_ascending text_cmp l ≡ true in
    not_later t (drop (i + 1) set) (subst P (left_at set i t e) (ascending_left set i a))

-- ---- raised

-- a name whose text is in the set is used once more
pub raised_here : (set : List (List ℕ)) (x : Name) → is_in text_cmp x.text set ≡ true → raised_in set x ≡ record x { uses = x.uses + 1 }
raised_here set x e = rw e refl

-- a name whose text is not in the set stays
pub raised_apart : (set : List (List ℕ)) (x : Name) → is_in text_cmp x.text set ≡ false → raised_in set x ≡ x
raised_apart set x e = rw e refl

-- a name keeps its text
pub raised_text : (set : List (List ℕ)) (x : Name) → (raised_in set x).text ≡ x.text
raised_text set x = by (is_in text_cmp x.text set) refl
  where
    by : (b : Bool) → is_in text_cmp x.text set ≡ b → (raised_in set x).text ≡ x.text
    by true e = rw e refl
    by false e = rw e refl

-- a text that a number stands for keeps it
pub text_kept : (set : List (List ℕ)) (old new : List (Option Name)) → IsRaised set old new → (n : ℕ) (t : List ℕ) →
    text_at old n ≡ Some t → text_at new n ≡ Some t
text_kept set old new h n t e =
    let x = known_slot old n t e in
    text_of_slot new n (raised_in set x.0) (h.kept n x.0 x.1) ∙ ap Some (raised_text set x.0 ∙ x.2)

module _ (t : List ℕ) (rest : List (List ℕ)) (old mid new : List (Option Name)) (k : ℕ) (apart : is_in text_cmp t rest ≡ false)
    (tab : IsTable old)
    (was : MatchOption (slot old k) (IsUnknown old t) (λ x. x.text ≡ t))
    (here : slot mid k ≡ Some (record { text = t; uses = uses_of (slot old k) + 1 }))
    (others : (q : ℕ) → (q ≡ k → ⊥) → slot mid q ≡ slot old q) (h : IsRaised rest mid new) where
  here_after : slot new k ≡ Some (record { text = t; uses = uses_of (slot old k) + 1 })
  here_after = h.kept k (record { text = t; uses = uses_of (slot old k) + 1 }) here
      ∙ ap Some (raised_apart rest (record { text = t; uses = uses_of (slot old k) + 1 }) apart)

  text_was : (x : Name) → slot old k ≡ Some x → x.text ≡ t
  text_was x e = let P : Option Name → Type 0 = λ o. MatchOption o (IsUnknown old t) (λ z. z.text ≡ t) in subst P e was

  unknown_was : slot old k ≡ None → IsUnknown old t
  unknown_was e = let P : Option Name → Type 0 = λ o. MatchOption o (IsUnknown old t) (λ z. z.text ≡ t) in subst P e was

  -- no other number stands for the text
  other_number : (n : ℕ) (x : Name) → (n ≡ k → ⊥) → slot old n ≡ Some x → x.text ≡ t → ⊥
  other_number n x d e s = by (slot old k) refl
    where
      by : (o : Option Name) → slot old k ≡ o → ⊥
      by None f = unknown_was f n (text_of_slot old n x e ∙ ap Some s)
      by (Some y) f = d (tab.distinct n k x y e f (s ∙ sym (text_was y f)))

  kept_here : (x : Name) → slot old k ≡ Some x → slot new k ≡ Some (raised_in (t ∷ rest) x)
  kept_here x e =
      let s = text_was x e in
      let P : List ℕ → Type 0 = λ z. is_in text_cmp z (t ∷ rest) ≡ true in
      let there : is_in text_cmp x.text (t ∷ rest) ≡ true = subst P (sym s) (first_in t rest) in
      here_after ∙ ap Some (same_name t x.text (uses_of (slot old k) + 1) (x.uses + 1) (sym s) (ap (λ (o : Option Name). uses_of o + 1) e) ∙ sym (raised_here (t ∷ rest) x there))

  kept_apart : (n : ℕ) (x : Name) → (n ≡ k → ⊥) → slot old n ≡ Some x → slot new n ≡ Some (raised_in (t ∷ rest) x)
  kept_apart n x d e =
      h.kept n x (others n d ∙ e)
      ∙ ap (λ (b : Bool). Some (if b then record x { uses = x.uses + 1 } else x)) (sym (other_in x.text t rest (other_number n x d e)))

  fresh_here : (x : Name) → slot old k ≡ None → slot new k ≡ Some x →
      (x.uses ≡ 1) × (is_in text_cmp x.text (t ∷ rest) ≡ true) × IsUnknown old x.text
  fresh_here x e f =
      let s : record { text = t; uses = uses_of (slot old k) + 1 } ≡ x = same_Some (record { text = t; uses = uses_of (slot old k) + 1 }) x (sym here_after ∙ f) in
      let P : Name → Type 0 = λ z. (z.uses ≡ 1) × (is_in text_cmp z.text (t ∷ rest) ≡ true) × IsUnknown old z.text in
      subst P s (ap (λ (o : Option Name). uses_of o + 1) e, first_in t rest, unknown_was e)

  text_more : (m : ℕ) (u : List ℕ) → text_at old m ≡ Some u → text_at mid m ≡ Some u
  text_more m u e = ⊎_elim
      (λ s.
      let Q : ℕ → Type 0 = λ z. text_at old z ≡ Some u in
      let R : ℕ → Type 0 = λ z. text_at mid z ≡ Some u in
      let x = known_slot old k u (subst Q s e) in
      subst R (sym s) (ap (option_map (λ (y : Name). y.text)) here ∙ ap Some (sym (text_was x.0 x.1) ∙ x.2)))
      (λ d. ap (option_map (λ (y : Name). y.text)) (others m d) ∙ e) (cases_eq m k)

  fresh_apart : (n : ℕ) (x : Name) → (n ≡ k → ⊥) → slot old n ≡ None → slot new n ≡ Some x →
      (x.uses ≡ 1) × (is_in text_cmp x.text (t ∷ rest) ≡ true) × IsUnknown old x.text
  fresh_apart n x d e f =
      let r = h.fresh n x (others n d ∙ e) f in
      (r.0, later (is_eq (text_cmp x.text t)) r.1, λ m g. r.2 m (text_more m x.text g))
    where
      later : (b : Bool) → is_in text_cmp x.text rest ≡ true → b || is_in text_cmp x.text rest ≡ true
      later true g = refl
      later false g = g

  known_after : (u : List ℕ) → IsUnknown new u → is_in text_cmp u (t ∷ rest) ≡ false
  known_after u unknown =
      other_in u t rest (λ s. unknown k (text_of_slot new k (record { text = t; uses = uses_of (slot old k) + 1 }) here_after ∙ ap Some (sym s))) ∙ h.known u unknown

  -- one text, and then the others
  pub raised_more : IsRaised (t ∷ rest) old new
  raised_more = record {
    kept = λ n x e. ⊎_elim
        (λ s. let P : ℕ → Type 0 = λ m. slot new m ≡ Some (raised_in (t ∷ rest) x) in subst P (sym s) (kept_here x (let Q : ℕ → Type 0 = λ m. slot old m ≡ Some x in subst Q s e)))
        (λ d. kept_apart n x d e) (cases_eq n k);
    fresh = λ n x e f. ⊎_elim
        (λ s. fresh_here x (let Q : ℕ → Type 0 = λ m. slot old m ≡ None in subst Q s e) (let Q : ℕ → Type 0 = λ m. slot new m ≡ Some x in subst Q s f))
        (λ d. fresh_apart n x d e f) (cases_eq n k);
    known = known_after;
  }

-- ---- lowered

-- a name whose text is in the set is used once less
pub lowered_here : (set : List (List ℕ)) (x : Name) → is_in text_cmp x.text set ≡ true → lowered_in set (Some x) ≡ lowered (Some x)
lowered_here set x e = rw e refl

-- a name whose text is not in the set stays
pub lowered_apart : (set : List (List ℕ)) (x : Name) → is_in text_cmp x.text set ≡ false → lowered_in set (Some x) ≡ Some x
lowered_apart set x e = rw e refl

-- a name that is not in the set is the same after one use less
lowered_stays : (set : List (List ℕ)) (x : Name) → is_in text_cmp x.text set ≡ false → lowered_in set (lowered (Some x)) ≡ lowered (Some x)
lowered_stays set x e = by (nat_le x.uses 1) refl
  where
    by : (b : Bool) → nat_le x.uses 1 ≡ b → lowered_in set (lowered (Some x)) ≡ lowered (Some x)
    by true f = rw f refl
    by false f = rw f (lowered_apart set (record x { uses = x.uses - 1 }) e)

-- one text, and then the others
pub lowered_more : (t : List ℕ) (rest : List (List ℕ)) → is_in text_cmp t rest ≡ false → (o : Option Name) →
    lowered_in rest (lowered_in (t ∷ []) o) ≡ lowered_in (t ∷ rest) o
lowered_more t rest apart None = refl
lowered_more t rest apart (Some x) = by (is_eq (text_cmp x.text t)) refl
  where
    by : (b : Bool) → is_eq (text_cmp x.text t) ≡ b → lowered_in rest (lowered_in (t ∷ []) (Some x)) ≡ lowered_in (t ∷ rest) (Some x)
    by true e =
        let P : List ℕ → Type 0 = λ z. is_in text_cmp z rest ≡ false in
        let gone : is_in text_cmp x.text rest ≡ false = subst P (sym (is_eq-text_same x.text t e)) apart in
        rw e (lowered_stays rest x gone)
    by false e = rw e refl

-- the one text
pub lowered_one : (t : List ℕ) (old new : List (Option Name)) (k : ℕ) → IsTable old → text_at old k ≡ Some t →
    slot new k ≡ lowered (slot old k) → ((q : ℕ) → (q ≡ k → ⊥) → slot new q ≡ slot old q) →
    (q : ℕ) → slot new q ≡ lowered_in (t ∷ []) (slot old q)
lowered_one t old new k tab found here others q = ⊎_elim
    (λ s.
    let x = known_slot old k t found in
    let P : ℕ → Type 0 = λ m. slot new m ≡ lowered_in (t ∷ []) (slot old m) in
    let R : List ℕ → Type 0 = λ z. is_in text_cmp z (t ∷ []) ≡ true in
    subst P (sym s) (here ∙ (ap lowered x.1 ∙ (sym (lowered_here (t ∷ []) x.0 (subst R (sym x.2) (first_in t []))) ∙ sym (ap (lowered_in (t ∷ [])) x.1)))))
    (λ d. others q d ∙ apart d (slot old q) refl) (cases_eq q k)
  where
    apart : (q ≡ k → ⊥) → (o : Option Name) → slot old q ≡ o → slot old q ≡ lowered_in (t ∷ []) (slot old q)
    apart d None e = rw e refl
    apart d (Some y) e =
        let x = known_slot old k t found in
        let n : y.text ≡ t → ⊥ = λ s. d (tab.distinct q k y x.0 e x.1 (s ∙ sym x.2)) in
        rw e (sym (lowered_apart (t ∷ []) y (other_in y.text t [] n)))

-- a text that no number stands for
pub lowered_unknown : (t : List ℕ) (names : List (Option Name)) → IsUnknown names t → (q : ℕ) →
    slot names q ≡ lowered_in (t ∷ []) (slot names q)
lowered_unknown t names unknown q = by (slot names q) refl
  where
    by : (o : Option Name) → slot names q ≡ o → slot names q ≡ lowered_in (t ∷ []) (slot names q)
    by None e = rw e refl
    by (Some y) e = rw e (sym (lowered_apart (t ∷ []) y (other_in y.text t [] (λ s. unknown q (text_of_slot names q y e ∙ ap Some s)))))

-- ---- known

-- a text that no number stands for is not known
pub known_none : (names : List (Option Name)) (t : List ℕ) → IsUnknown names t → is_known names t ≡ false
known_none [] t unknown = refl
known_none (None ∷ rest) t unknown = known_none rest t (λ n. unknown (suc n))
known_none (Some x ∷ rest) t unknown = rw (other_text t x.text (λ s. unknown zero (ap Some (sym s)))) (known_none rest t (λ n. unknown (suc n)))

-- a text that a number stands for is known
pub known_some : (names : List (Option Name)) (n : ℕ) (t : List ℕ) → text_at names n ≡ Some t → is_known names t ≡ true
known_some [] n t e = absurd (none-some t e)
known_some (None ∷ rest) zero t e = absurd (none-some t e)
known_some (None ∷ rest) (suc n) t e = known_some rest n t e
known_some (Some x ∷ rest) zero t e =
    let P : List ℕ → Type 0 = λ z. is_eq (text_cmp t z) || is_known rest t ≡ true in
    subst P (sym (same_Some x.text t e)) (rw (own_text t) refl)
known_some (Some x ∷ rest) (suc n) t e = later (is_eq (text_cmp t x.text)) (known_some rest n t e)
  where
    later : (b : Bool) → is_known rest t ≡ true → b || is_known rest t ≡ true
    later true g = refl
    later false g = g

-- by what a look-up of the text answered
pub known_is : (names : List (Option Name)) (t : List ℕ) (found : Option ℕ) →
    MatchOption found (IsUnknown names t) (λ n. text_at names n ≡ Some t) → is_known names t ≡ is_some found
known_is names t None unknown = known_none names t unknown
known_is names t (Some n) e = known_some names n t e

-- a test and its opposite, read the other way
pub other_way : (a b : Bool) → not a ≡ b → a ≡ not b
other_way true b e = rw (sym e) refl
other_way false b e = rw (sym e) refl

-- one more of those that are counted, or as many
pub count_more : (p : List ℕ → Bool) (set : List (List ℕ)) (i count more : ℕ) (t : List ℕ) → slice_get set i ≡ Some t → p t ≡ true →
    more ≡ count + 1 → count ≡ count_by p (take i set) →
    more ≡ count_by p (take (i + 1) set)
count_more p set i count more t at e m c =
    let here : get_or set i t ≡ t = sym (unwrap_or-slice_get set i t) ∙ ap (λ (o : Option (List ℕ)). unwrap_or o t) at in
    let n = count_by_more_yes p set i t (slice_get_within set i t at) (ap p here ∙ e) in
    omega (arith, c, m, n)

-- a count stays behind a text that fails the test
pub count_same : (p : List ℕ → Bool) (set : List (List ℕ)) (i count more : ℕ) (t : List ℕ) → slice_get set i ≡ Some t → p t ≡ false →
    more ≡ count → count ≡ count_by p (take i set) →
    more ≡ count_by p (take (i + 1) set)
count_same p set i count more t at e m c =
    let here : get_or set i t ≡ t = sym (unwrap_or-slice_get set i t) ∙ ap (λ (o : Option (List ℕ)). unwrap_or o t) at in
    let n = count_by_more_no p set i t (slice_get_within set i t at) (ap p here ∙ e) in
    omega (arith, c, m, n)

-- a known text has a number
pub known_at : (names : List (Option Name)) (t : List ℕ) → is_known names t ≡ true → (n : ℕ) × (text_at names n ≡ Some t)
known_at [] t e = cc
known_at (None ∷ rest) t e = let r = known_at rest t e in (suc r.0, r.1)
known_at (Some x ∷ rest) t e = by (is_eq (text_cmp t x.text)) refl (known_at rest t)
  where
    by : (b : Bool) → is_eq (text_cmp t x.text) ≡ b → (is_known rest t ≡ true → (n : ℕ) × (text_at rest n ≡ Some t)) → (n : ℕ) × (text_at (Some x ∷ rest) n ≡ Some t)
    by true f ih = (zero, ap Some (sym (is_eq-text_same t x.text f)))
    by false f ih = let r = ih (rw f at e) in (suc r.0, r.1)

-- no number stands for a text that is not known
pub unknown_is : (names : List (Option Name)) (t : List ℕ) → is_known names t ≡ false → IsUnknown names t
unknown_is names t e n f = true≢false (sym (known_some names n t f) ∙ e)
