-- The inside of a table of names.
use Rattle.std.proofs.Common.{◌≡◌, ℕ, ◌<◌, Bool, true, false, cond, Option, Some, None, List, refl, sym, ap, ◌∙◌, subst, ⊎_elim, inl, inr}
use Rattle.std.proofs.Common.{◌⊎◌, length}
use Rattle.std.specs.Prelude.{nat_eq, option_map, slice_set}
use Rattle.std.specs.Cmp.Lexicographic.{pointwise, bytes_decides}
use Rattle.std.proofs.lemmas.Bool.{cases_eq, cases_lt}
use Rattle.std.proofs.lemmas.Option.{same_Some, none-some}
use Rattle.std.proofs.lemmas.List.{get_or-set_same, get_or-set_other, get_or_past}
use Rattle.label_graph.specs.declared.names.Name.{Name}
use Rattle.label_graph.specs.Names.{slot, text_at, IsTable, IsUnknown}
use Rattle.label_graph.specs.Table.{IsInside, number_of}
use Rattle.label_graph.proofs.InverseLemmas.{CanTell, added, removed}
use Rattle.label_graph.proofs.LinkLemmas.{same_inverse}

text_of : (names : List (Option Name)) (n : ℕ) (x : Name) → slot names n ≡ Some x → text_at names n ≡ Some x.text
text_of names n x e = ap (option_map (λ (y : Name). y.text)) e

-- what the table keeps inside makes it a table of names
pub table_of : (numbers : List (List ℕ × ℕ)) (names : List (Option Name)) → IsInside numbers names → IsTable names
table_of numbers names h = record {
  distinct = λ m n x y p q e.
      let a = h.inverse.there m x.text (text_of names m x p) in
      let b = h.inverse.there n y.text (text_of names n y q) in
      let d : number_of numbers x.text ≡ Some n = rw e b in
      same_Some m n (sym a ∙ d);
  used = h.used;
}

-- a name that keeps its text
pub kept_inside : (numbers : List (List ℕ × ℕ)) (names names' : List (Option Name)) (n : ℕ) (x y : Name) → IsInside numbers names →
    slot names n ≡ Some x → slot names' n ≡ Some y → y.text ≡ x.text → 0 < y.uses →
    ((q : ℕ) → (q ≡ n → ⊥) → slot names' q ≡ slot names q) → IsInside numbers names'
kept_inside numbers names names' n x y h at at' same used others = record {
  inverse = same_inverse (text_at names) (text_at names') (number_of numbers) (number_of numbers)
      (λ q. ⊎_elim
      (λ e. let P : ℕ → Type 0 = λ m. text_at names' m ≡ text_at names m in subst P (sym e) (text_of names' n y at' ∙ (ap Some same ∙ sym (text_of names n x at))))
      (λ d. ap (option_map (λ (z : Name). z.text)) (others q d)) (cases_eq q n))
      (λ b. refl) h.inverse;
  used = λ q z e. ⊎_elim
      (λ s. let P : ℕ → Type 0 = λ m. slot names' m ≡ Some z in let f = subst P s e in let g : y ≡ z = same_Some y z (sym at' ∙ f) in let Q : Name → Type 0 = λ v. 0 < v.uses in subst Q g used)
      (λ d. h.used q z (sym (others q d) ∙ e)) (cases_eq q n);
}

-- a number that stands for a name is within the slots
pub within_slot : (names : List (Option Name)) (n : ℕ) (x : Name) → slot names n ≡ Some x → n < length names
within_slot names n x e = ⊎_elim (λ l. l) (λ past. let z = get_or_past names n None past in absurd (none-some x (sym z ∙ e))) (cases_lt n (length names))

-- what was written at a number stands there
pub set_here : (names : List (Option Name)) (n : ℕ) (x : Name) (v : Option Name) → slot names n ≡ Some x → slot (slice_set names n v) n ≡ v
set_here names n x v e = get_or-set_same names n v None (within_slot names n x e)

-- the other numbers stand for what they stood for
pub set_other : (names : List (Option Name)) (n : ℕ) (v : Option Name) (q : ℕ) → (q ≡ n → ⊥) → slot (slice_set names n v) q ≡ slot names q
set_other names n v q d = get_or-set_other names n q v None d

-- texts can be told apart
pub tell_text : CanTell (List ℕ)
tell_text x y = by (pointwise nat_eq x y) refl
  where
    by : (b : Bool) → pointwise nat_eq x y ≡ b → (x ≡ y) ⊎ (x ≡ y → ⊥)
    by true e = inl ((bytes_decides x y).0 e)
    by false e = inr (λ p. let q = (bytes_decides x y).1 p in cc)

apart_text : (x y : List ℕ) → (y ≡ x → ⊥) → pointwise nat_eq x y ≡ false
apart_text x y n = by (pointwise nat_eq x y) refl
  where
    by : (b : Bool) → pointwise nat_eq x y ≡ b → pointwise nat_eq x y ≡ false
    by true e = absurd (n (sym ((bytes_decides x y).0 e)))
    by false e = e

-- a name less in the slots and in the look-up
pub removed_inside : (numbers numbers' : List (List ℕ × ℕ)) (names names' : List (Option Name)) (n : ℕ) (x : Name) →
    IsInside numbers names → slot names n ≡ Some x → slot names' n ≡ None →
    ((q : ℕ) → (q ≡ n → ⊥) → slot names' q ≡ slot names q) → ((t : List ℕ) → number_of numbers' t ≡ cond (pointwise nat_eq x.text t) None (number_of numbers t)) → IsInside numbers' names'
removed_inside numbers numbers' names names' n x h at gone others set = record {
  inverse = removed cases_eq tell_text (text_at names) (text_at names') (number_of numbers) (number_of numbers') n x.text h.inverse (h.inverse.there n x.text (text_of names n x at))
      (ap (option_map (λ (y : Name). y.text)) gone)
      (rw (set x.text, (bytes_decides x.text x.text).1 refl) refl)
      (λ q d. ap (option_map (λ (y : Name). y.text)) (others q d))
      (λ t d. rw (set t, apart_text x.text t d) refl);
  used = λ q z e. ⊎_elim
      (λ s. let P : ℕ → Type 0 = λ m. slot names' m ≡ Some z in let f = subst P s e in absurd (none-some z (sym gone ∙ f)))
      (λ d. h.used q z (sym (others q d) ∙ e)) (cases_eq q n);
}

-- a name more in the slots and in the look-up
pub added_inside : (numbers numbers' : List (List ℕ × ℕ)) (names names' : List (Option Name)) (n : ℕ) (x : Name) → IsInside numbers names →
    slot names n ≡ None → slot names' n ≡ Some x → 0 < x.uses →
    number_of numbers x.text ≡ None → ((q : ℕ) → (q ≡ n → ⊥) → slot names' q ≡ slot names q) → ((t : List ℕ) → number_of numbers' t ≡ cond (pointwise nat_eq x.text t) (Some n) (number_of numbers t)) → IsInside numbers' names'
added_inside numbers numbers' names names' n x h free here positive unknown others set = record {
  inverse = added cases_eq tell_text (text_at names) (text_at names') (number_of numbers) (number_of numbers') n x.text h.inverse
      (ap (option_map (λ (y : Name). y.text)) free) unknown
      (text_of names' n x here)
      (rw (set x.text, (bytes_decides x.text x.text).1 refl) refl)
      (λ q d. ap (option_map (λ (y : Name). y.text)) (others q d))
      (λ t d. rw (set t, apart_text x.text t d) refl);
  used = λ q z e. ⊎_elim
      (λ s. let P : ℕ → Type 0 = λ m. slot names' m ≡ Some z in let f = subst P s e in let g : x ≡ z = same_Some x z (sym here ∙ f) in let Q : Name → Type 0 = λ v. 0 < v.uses in subst Q g positive)
      (λ d. h.used q z (sym (others q d) ∙ e)) (cases_eq q n);
}

-- names of the same text and uses are the same
pub same_name : (a b : List ℕ) (m n : ℕ) → a ≡ b → m ≡ n → ◌≡◌ {A = Name} (record { text = a; uses = m }) (record { text = b; uses = n })
same_name a b m n p q = cc

-- a text that no number stands for is not in the look-up
pub unknown_number : (numbers : List (List ℕ × ℕ)) (names : List (Option Name)) (text : List ℕ) → IsInside numbers names → IsUnknown names text →
    number_of numbers text ≡ None
unknown_number numbers names text h unknown = by (number_of numbers text) refl
  where
    by : (o : Option ℕ) → number_of numbers text ≡ o → number_of numbers text ≡ None
    by None e = e
    by (Some n) e = absurd (unknown n (h.inverse.back text n e))
