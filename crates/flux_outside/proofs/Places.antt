-- Where an entry stands among those of a shelf, and what the shelf then holds.
use Rattle.std.proofs.Common.{◌≡◌, ◌≢◌, ℕ, zero, suc, ◌+◌, ◌-◌, ◌≤◌, ◌<◌, List, [], ◌∷◌, ◌++◌, length, set, get_or, inl, inr, refl, sym, ap, ◌∙◌, subst, arith, cond, false, None, Some}
use Rattle.std.specs.Str.{bytes_eq}
use Rattle.std.proofs.lemmas.Bool.{cases_Bool}
use Rattle.std.proofs.lemmas.Option.{none-some, same_Some}
use Rattle.std.proofs.lemmas.Slice.Eq.{bytes_eq-Decides}
use Rattle.flux_outside.specs.MemShelf.{bytes_of, place_from}

-- the entry with this index is the first with this name
abbrev pub IsPlaceOf : List (List ℕ × List ℕ) → List ℕ → ℕ → Type 0
IsPlaceOf [] name i = ⊥
IsPlaceOf (e ∷ es) name zero = e.0 ≡ name
IsPlaceOf (e ∷ es) name (suc i) = (bytes_eq e.0 name ≡ false) × IsPlaceOf es name i

-- bytes that are not the same compare so
pub apart : (a b : List ℕ) → a ≢ b → bytes_eq a b ≡ false
apart a b ne = elim (cases_Bool (bytes_eq a b)) [ inl same ↦ absurd (ne ((bytes_eq-Decides a b).0 same)) | inr other ↦ other ]

-- a place that is found is that of the name
pub place_from-Some : (k : ℕ) (es : List (List ℕ × List ℕ)) (name : List ℕ) (p : ℕ) → place_from k es name ≡ Some p
    → (k ≤ p) × IsPlaceOf es name (p - k)
place_from-Some k [] name p h = absurd (none-some p h)
place_from-Some k (e ∷ es) name p h = elim (cases_Bool (bytes_eq e.0 name)) [
  | inl same ↦
      let here : k ≡ p = same_Some k p (sym (ap (λ b. cond b (Some k) (place_from (k + 1) es name)) same) ∙ h) in
      let none : p - k ≡ 0 = omega (arith, here) in
      (omega (arith, here), subst (IsPlaceOf (e ∷ es) name) (sym none) ((bytes_eq-Decides e.0 name).0 same))
  | inr other ↦
      let more = place_from-Some (k + 1) es name p (sym (ap (λ b. cond b (Some k) (place_from (k + 1) es name)) other) ∙ h) in
      let one : p - k ≡ suc (p - (k + 1)) = omega (arith, more.0) in
      (omega (arith, more.0), subst (IsPlaceOf (e ∷ es) name) (sym one) (other, more.1))
]

-- the same from the first entry on
pub place_from-first : (es : List (List ℕ × List ℕ)) (name : List ℕ) (p : ℕ) → place_from 0 es name ≡ Some p → IsPlaceOf es name p
place_from-first es name p h = let from_start : p - 0 ≡ p = omega arith in subst (IsPlaceOf es name) from_start (place_from-Some 0 es name p h).1

-- a place is that of an entry
pub IsPlaceOf-within : (es : List (List ℕ × List ℕ)) (name : List ℕ) (i : ℕ) → IsPlaceOf es name i → i < length es
IsPlaceOf-within [] name i p = absurd p
IsPlaceOf-within (e ∷ es) name zero p = omega arith
IsPlaceOf-within (e ∷ es) name (suc i) p = omega (arith, IsPlaceOf-within es name i p.1)

-- the entry there has the name
pub IsPlaceOf-name : (es : List (List ℕ × List ℕ)) (name : List ℕ) (i : ℕ) (d : List ℕ × List ℕ) → IsPlaceOf es name i → (get_or es i d).0 ≡ name
IsPlaceOf-name [] name i d p = absurd p
IsPlaceOf-name (e ∷ es) name zero d p = p
IsPlaceOf-name (e ∷ es) name (suc i) d p = IsPlaceOf-name es name i d p.1

-- a name without a place has no bytes
pub bytes_of-place_from : (k : ℕ) (es : List (List ℕ × List ℕ)) (name : List ℕ) → place_from k es name ≡ None → bytes_of es name ≡ None
bytes_of-place_from k [] name h = refl
bytes_of-place_from k (e ∷ es) name h = elim (cases_Bool (bytes_eq e.0 name)) [
  | inl same ↦ absurd (none-some k (sym h ∙ ap (λ b. cond b (Some k) (place_from (k + 1) es name)) same))
  | inr other ↦
      rw other (bytes_of-place_from (k + 1) es name (sym (ap (λ b. cond b (Some k) (place_from (k + 1) es name)) other) ∙ h))
]

-- a name has the bytes of its place
pub bytes_of-place : (es : List (List ℕ × List ℕ)) (name : List ℕ) (i : ℕ) (d : List ℕ × List ℕ) → IsPlaceOf es name i → bytes_of es name ≡ Some (get_or es i d).1
bytes_of-place [] name i d p = absurd p
bytes_of-place (e ∷ es) name zero d p = rw ((bytes_eq-Decides e.0 name).1 p) refl
bytes_of-place (e ∷ es) name (suc i) d p = rw p.0 (bytes_of-place es name i d p.1)

-- the first entry with the name takes other bytes
pub bytes_of-set : (es : List (List ℕ × List ℕ)) (name : List ℕ) (i : ℕ) (e : List ℕ × List ℕ) → IsPlaceOf es name i → e.0 ≡ name
    → bytes_of (set es i e) name ≡ Some e.1
bytes_of-set [] name i e p here = absurd p
bytes_of-set (x ∷ es) name zero e p here = rw ((bytes_eq-Decides e.0 name).1 here) refl
bytes_of-set (x ∷ es) name (suc i) e p here = rw p.0 (bytes_of-set es name i e p.1 here)

-- a name keeps its bytes where the entry of another is set
pub bytes_of-set_other : (es : List (List ℕ × List ℕ)) (name other : List ℕ) (i : ℕ) (e : List ℕ × List ℕ) → IsPlaceOf es name i → e.0 ≡ name → other ≢ name
    → bytes_of (set es i e) other ≡ bytes_of es other
bytes_of-set_other [] name other i e p here ne = absurd p
bytes_of-set_other (x ∷ es) name other zero e p here ne =
    rw (apart e.0 other (λ same. ne (sym same ∙ here)), apart x.0 other (λ same. ne (sym same ∙ p))) refl
bytes_of-set_other (x ∷ es) name other (suc i) e p here ne =
    ap (λ rest. cond (bytes_eq x.0 other) (Some x.1) rest) (bytes_of-set_other es name other i e p.1 here ne)

-- an entry comes after the others
pub bytes_of-push : (es : List (List ℕ × List ℕ)) (name bytes : List ℕ) → bytes_of es name ≡ None → bytes_of (es ++ (name, bytes) ∷ []) name ≡ Some bytes
bytes_of-push [] name bytes h = rw ((bytes_eq-Decides name name).1 refl) refl
bytes_of-push (e ∷ es) name bytes h = elim (cases_Bool (bytes_eq e.0 name)) [
  | inl same ↦ absurd (none-some e.1 (sym h ∙ ap (λ b. cond b (Some e.1) (bytes_of es name)) same))
  | inr other ↦ rw other (bytes_of-push es name bytes (sym (ap (λ b. cond b (Some e.1) (bytes_of es name)) other) ∙ h))
]

-- and where another is added
pub bytes_of-push_other : (es : List (List ℕ × List ℕ)) (name other bytes : List ℕ) → other ≢ name → bytes_of (es ++ (name, bytes) ∷ []) other ≡ bytes_of es other
bytes_of-push_other [] name other bytes ne = rw (apart name other (λ same. ne (sym same))) refl
bytes_of-push_other (e ∷ es) name other bytes ne =
    ap (λ rest. cond (bytes_eq e.0 other) (Some e.1) rest) (bytes_of-push_other es name other bytes ne)
