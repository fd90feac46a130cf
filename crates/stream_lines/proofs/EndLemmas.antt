-- The first byte 10 of some bytes, and the last.
use Rattle.std.proofs.Common.{◌≡◌, ℕ, zero, suc, ◌+◌, ◌==◌, ◌≤◌, ◌<◌, List, [], ◌∷◌, ◌++◌, length, take, drop, get_or, Some, refl, sym, ap, ◌∙◌, arith, Bool, true, false, append_assoc, append-nil, add-one, subst}
use Rattle.std.proofs.Math.Seq.{take-suc, take-add}
use Rattle.std.proofs.lemmas.Bool.Decides.{nat_tests}
use Rattle.std.proofs.lemmas.List.{get_or-drop, take-append-le, drop-append-le, take-append-drop, length-drop, length-take, drop-drop}
use Rattle.std.proofs.lemmas.List.Splits.{slice_split-cons_yes, slice_split-cons_no}
use Rattle.std.specs.List.{onto_first}
use Rattle.flux_model.specs.Lines.{parts, open_end}
use Rattle.stream_lines.specs.Buffer.{IsOpenPlace, IsFirstLen}
use Rattle.memchr.specs.Find.{Nowhere, Passes, is_byte}
use Rattle.stream_lines.proofs.PartsLemmas.{open_end-end, parts-behind, parts-first-append}

not_true : (b : Bool) → (b ≡ true → ⊥) → b ≡ false
not_true true h = absurd (h refl)
not_true false h = refl

-- no byte is 10
pub parts-nowhere : (bs : List ℕ) → Nowhere (Passes (is_byte 10) bs) 0 (length bs) → parts bs ≡ bs ∷ []
parts-nowhere [] h = refl
parts-nowhere (x ∷ bs) h =
    slice_split-cons_no (λ y. y == 10) x bs (not_true (x == 10) (h 0 (omega arith) (omega arith)))
    ∙ ap (onto_first x) (parts-nowhere bs (λ k low high. h (suc k) (omega arith) (omega arith)))

-- the first byte 10
parts-first-suc : (bs : List ℕ) (n : ℕ) → Nowhere (Passes (is_byte 10) bs) 0 n → n < length bs → Passes (is_byte 10) bs n → parts bs ≡ take n bs ∷ parts (drop (suc n) bs)
parts-first-suc [] n h lt here = absurd (omega arith)
parts-first-suc (x ∷ bs) zero h lt here = slice_split-cons_yes (λ y. y == 10) x bs here
parts-first-suc (x ∷ bs) (suc n) h lt here =
    slice_split-cons_no (λ y. y == 10) x bs (not_true (x == 10) (h 0 (omega arith) (omega arith)))
    ∙ ap (onto_first x) (parts-first-suc bs n (λ k low high. h (suc k) (omega arith) (omega arith)) (omega arith) here)

-- the first byte 10 ends the first part
pub parts-first : (bs : List ℕ) (n : ℕ) → Nowhere (Passes (is_byte 10) bs) 0 n → n < length bs → Passes (is_byte 10) bs n → parts bs ≡ take n bs ∷ parts (drop (n + 1) bs)
parts-first bs n h lt here = parts-first-suc bs n h lt here ∙ ap (λ k. take n bs ∷ parts (drop k bs)) (sym (add-one n))

-- the last byte 10
pub IsOpenPlace-last : (bs : List ℕ) (before_len n : ℕ) → Nowhere (Passes (is_byte 10) bs) (n + 1) (length bs) → n < length bs → Passes (is_byte 10) bs n
    → IsOpenPlace bs before_len (n + 1) 0
IsOpenPlace-last bs before_len n h lt here =
    let byte : get_or bs n 0 ≡ 10 = grind (arith, nat_tests) in
    let front : take (n + 1) bs ≡ take n bs ++ 10 ∷ [] = ap (λ k. take k bs) (add-one n) ∙ take-suc bs n 0 lt ∙ ap (λ b. take n bs ++ b ∷ []) byte in
    record {
      within = omega arith;
      fewer = omega arith;
      open_part = parts-nowhere (drop (n + 1) bs) (λ k low high passes. h (n + 1 + k) (omega arith) (omega (arith, length-drop (n + 1) bs))
          (sym (ap (λ b. b == 10) (get_or-drop (n + 1) bs k 0)) ∙ passes));
      open_len = λ before _. ap length (ap (λ l. open_end (before ++ l)) front ∙ ap open_end (sym (append_assoc before (take n bs) (10 ∷ []))) ∙ open_end-end (before ++ take n bs));
    }

-- where no byte is 10, all that was open stays open
pub IsOpenPlace-none : (bs : List ℕ) (before_len : ℕ) → Nowhere (Passes (is_byte 10) bs) 0 (length bs) → IsOpenPlace bs before_len 0 before_len
IsOpenPlace-none bs before_len h = record {
  within = omega arith;
  fewer = omega arith;
  open_part = parts-nowhere bs h;
  open_len = λ before is. ap (λ l. length (open_end l)) (append-nil before) ∙ is;
}

-- the first line with further bytes
first-longer : (bs : List ℕ) (m n : ℕ) → m ≤ length bs → n < length (take m bs) → parts (take m bs) ≡ take n (take m bs) ∷ parts (drop (n + 1) (take m bs))
    → parts bs ≡ take n bs ∷ parts (drop (n + 1) bs)
first-longer bs m n le lt e =
    subst (λ l. parts l ≡ take n l ∷ parts (drop (n + 1) l)) (take-append-drop m bs)
    (parts-first-append (take m bs) (drop m bs) _ (drop (n + 1) (take m bs)) e
    ∙ ap (λ l. l ∷ parts (drop (n + 1) (take m bs) ++ drop m bs)) (sym (take-append-le n (take m bs) (drop m bs) (omega arith)))
    ∙ ap (λ l. take n (take m bs ++ drop m bs) ∷ parts l) (sym (drop-append-le (n + 1) (take m bs) (drop m bs) (omega arith))))

-- the first line of a front part is that of all bytes
pub first-further : (bs : List ℕ) (m n : ℕ) → m ≤ length bs → IsFirstLen (take m bs) (Some n) → IsFirstLen bs (Some n)
first-further bs m n le h = (omega (arith, h.0, length-take m bs), first-longer bs m n le h.0 h.1)

-- the first line where its end is in the further bytes
first-shifted : (bs : List ℕ) (m n : ℕ) → parts (take m bs) ≡ take m bs ∷ [] → parts (drop m bs) ≡ take n (drop m bs) ∷ parts (drop (n + 1) (drop m bs))
    → parts bs ≡ take (m + n) bs ∷ parts (drop (m + n + 1) bs)
first-shifted bs m n one e =
    ap parts (sym (take-append-drop m bs)) ∙ parts-behind (take m bs) (drop m bs) one ∙ rw e
    (ap (λ l. l ∷ parts (drop (n + 1) (drop m bs))) (sym (take-add m n bs))
    ∙ ap (λ l. take (m + n) bs ∷ parts l) (drop-drop (n + 1) m bs ∙ ap (λ k. drop k bs) (omega arith)))

-- and where a front part ends no line, it is found behind it
pub first-found : (bs more : List ℕ) (m n : ℕ) → m ≤ length bs → more ≡ drop m bs → parts (take m bs) ≡ take m bs ∷ []
    → IsFirstLen more (Some n) → IsFirstLen bs (Some (m + n))
first-found bs more m n le e one h =
    let found = subst (λ l. IsFirstLen l (Some n)) e h in
    (omega (arith, found.0, length-drop m bs), first-shifted bs m n one found.1)

-- no line where neither part ends one
pub none-found : (bs more : List ℕ) (m : ℕ) → more ≡ drop m bs → parts (take m bs) ≡ take m bs ∷ [] → parts more ≡ more ∷ [] → parts bs ≡ bs ∷ []
none-found bs more m e one h =
    ap parts (sym (take-append-drop m bs)) ∙ parts-behind (take m bs) (drop m bs) one
    ∙ rw (subst (λ l. parts l ≡ l ∷ []) e h) (ap (λ l. l ∷ []) (take-append-drop m bs))
