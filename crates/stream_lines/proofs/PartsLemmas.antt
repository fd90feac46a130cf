-- The parts between the bytes 10, from the front and from the end.
use Rattle.std.proofs.Common.{◌≡◌, ℕ, ◌+◌, ◌==◌, ◌≤◌, List, [], ◌∷◌, ◌++◌, length, map, refl, sym, ap, ◌∙◌, arith, Bool, cond, true, false, subst}
use Rattle.std.proofs.lemmas.List.{map-append}
use Rattle.std.proofs.lemmas.List.Splits.{slice_split-cons_no, join_with_byte-slice_split}
use Rattle.std.specs.List.{onto_first, join_with_byte}
use Rattle.flux_model.specs.Lines.{line_of, parts, all_but_last, last_part, open_end, whole}

-- bytes before the first part
abbrev pub onto : List ℕ → List (List ℕ) → List (List ℕ)
onto acc [] = []
onto acc (q ∷ qs) = (acc ++ q) ∷ qs

cons_not_nil : {X : Type 0} (x : X) (l : List X) → x ∷ l ≡ [] → ⊥
cons_not_nil x l e = subst (λ k. elim k as (λ _. Type 0) [ [] ↦ ⊥ | (y ∷ ys) ↦ Unit {0} ]) e tt

append_nil_front : {X : Type 0} (l m : List X) → l ++ m ≡ [] → l ≡ []
append_nil_front [] m e = refl
append_nil_front (x ∷ l) m e = absurd (cons_not_nil x (l ++ m) e)

-- there is a first part
pub parts-cons : (p : List ℕ) → (q : List ℕ) × (qs : List (List ℕ)) × (parts p ≡ q ∷ qs)
parts-cons [] = ([], [], refl)
parts-cons (x ∷ p) =
    let more = parts-cons p in
    elim (x == 10) as (λ t. (q : List ℕ) × (qs : List (List ℕ)) × (cond t ([] ∷ parts p) (onto_first x (parts p)) ≡ q ∷ qs))
    [ true ↦ ([], parts p, refl) | false ↦ (x ∷ more.0, more.1, ap (onto_first x) more.2) ]

all_but_last-cons : (a : List ℕ) (p : List ℕ) → all_but_last (a ∷ parts p) ≡ a ∷ all_but_last (parts p)
all_but_last-cons a p = let c = parts-cons p in rw c.2 refl

last_part-cons : (a : List ℕ) (p : List ℕ) → last_part (a ∷ parts p) ≡ last_part (parts p)
last_part-cons a p = let c = parts-cons p in rw c.2 refl

-- an element before the parts of two lists
onto_first-onto : (x : ℕ) (bs ps : List (List ℕ)) (b : List ℕ) (bs' : List (List ℕ)) (p : List ℕ) (ps' : List (List ℕ)) → bs ≡ b ∷ bs' → ps ≡ p ∷ ps'
    → onto_first x (all_but_last bs ++ onto (last_part bs) ps) ≡ all_but_last (onto_first x bs) ++ onto (last_part (onto_first x bs)) ps
onto_first-onto x bs ps b [] p ps' e f = rw (e, f) refl
onto_first-onto x bs ps b (c ∷ bs') p ps' e f = rw (e, f) refl

onto-nil : (p : List ℕ) → onto [] (parts p) ≡ parts p
onto-nil p = let c = parts-cons p in rw c.2 refl

-- the parts of two pieces
pub parts-append : (b p : List ℕ) → parts (b ++ p) ≡ all_but_last (parts b) ++ onto (open_end b) (parts p)
parts-append [] p = sym (onto-nil p)
parts-append (x ∷ b) p =
    let c = parts-cons b in
    let d = parts-cons p in
    elim (x == 10) as (λ t. cond t ([] ∷ parts (b ++ p)) (onto_first x (parts (b ++ p)))
    ≡ all_but_last (cond t ([] ∷ parts b) (onto_first x (parts b))) ++ onto (last_part (cond t ([] ∷ parts b) (onto_first x (parts b)))) (parts p)) [
      | true ↦ rw (all_but_last-cons [] b, last_part-cons [] b) (ap (λ l. [] ∷ l) (parts-append b p))
      | false ↦ ap (onto_first x) (parts-append b p) ∙ onto_first-onto x (parts b) (parts p) c.0 c.1 d.0 d.1 c.2 d.2
    ]

all_but_last-append : (ps : List (List ℕ)) (b : List ℕ) (bs : List (List ℕ)) → all_but_last (ps ++ b ∷ bs) ≡ ps ++ all_but_last (b ∷ bs)
all_but_last-append [] b bs = refl
all_but_last-append (a ∷ []) b bs = refl
all_but_last-append (a ∷ c ∷ ps) b bs = ap (λ l. a ∷ l) (all_but_last-append (c ∷ ps) b bs)

last_part-append : (ps : List (List ℕ)) (b : List ℕ) (bs : List (List ℕ)) → last_part (ps ++ b ∷ bs) ≡ last_part (b ∷ bs)
last_part-append [] b bs = refl
last_part-append (a ∷ []) b bs = refl
last_part-append (a ∷ c ∷ ps) b bs = last_part-append (c ∷ ps) b bs

-- the lines of two pieces, by the parts of the second
pub whole-onto : (n : ℕ) (b p : List ℕ) → whole n (b ++ p) ≡ whole n b ++ map (line_of n) (all_but_last (onto (open_end b) (parts p)))
whole-onto n b p =
    let d = parts-cons p in
    ap (λ l. map (line_of n) (all_but_last l)) (parts-append b p)
    ∙ rw d.2 (ap (map (line_of n)) (all_but_last-append (all_but_last (parts b)) (open_end b ++ d.0) d.1)
    ∙ map-append (line_of n) (all_but_last (parts b)) (all_but_last ((open_end b ++ d.0) ∷ d.1)))

-- what is open behind one piece more
pub open_end-onto : (b p : List ℕ) → open_end (b ++ p) ≡ last_part (onto (open_end b) (parts p))
open_end-onto b p =
    let d = parts-cons p in
    ap last_part (parts-append b p) ∙ rw d.2 (last_part-append (all_but_last (parts b)) (open_end b ++ d.0) d.1)

-- an open end is one part
parts-open-first : (x : ℕ) (ps : List (List ℕ)) (q : List ℕ) (qs : List (List ℕ)) → ps ≡ q ∷ qs → (x == 10) ≡ false → parts (last_part ps) ≡ last_part ps ∷ []
    → parts (last_part (onto_first x ps)) ≡ last_part (onto_first x ps) ∷ []
parts-open-first x ps q [] e other one = rw e (slice_split-cons_no (λ y. y == 10) x q other ∙ ap (onto_first x) (subst (λ l. parts (last_part l) ≡ last_part l ∷ []) e one))
parts-open-first x ps q (c ∷ qs) e other one = rw e (subst (λ l. parts (last_part l) ≡ last_part l ∷ []) e one)

parts-open-cons : (x : ℕ) (b : List ℕ) (t : Bool) → (x == 10) ≡ t → parts (open_end b) ≡ open_end b ∷ []
    → parts (last_part (cond t ([] ∷ parts b) (onto_first x (parts b)))) ≡ last_part (cond t ([] ∷ parts b) (onto_first x (parts b))) ∷ []
parts-open-cons x b true e one = rw (last_part-cons [] b) one
parts-open-cons x b false e one = let c = parts-cons b in parts-open-first x (parts b) c.0 c.1 c.2 e one

-- the open end is one part
pub parts-open : (b : List ℕ) → parts (open_end b) ≡ open_end b ∷ []
parts-open [] = refl
parts-open (x ∷ b) = parts-open-cons x b (x == 10) refl (parts-open b)

-- bytes with no line are one part
one_part : (a : List ℕ) (ps : List (List ℕ)) (q : List ℕ) (qs : List (List ℕ)) → parts a ≡ ps → ps ≡ q ∷ qs → all_but_last ps ≡ [] → ps ≡ a ∷ []
one_part a ps q [] e f none = f ∙ ap (λ l. l ∷ []) (ap (join_with_byte 10) (sym (e ∙ f)) ∙ join_with_byte-slice_split 10 a)
one_part a ps q (c ∷ qs) e f none = absurd (cons_not_nil _ _ (sym (ap all_but_last f) ∙ none))

-- bytes without a line are one part
pub parts-no_lines : (a : List ℕ) → all_but_last (parts a) ≡ [] → parts a ≡ a ∷ []
parts-no_lines a none = let c = parts-cons a in one_part a (parts a) c.0 c.1 refl c.2 none

-- a front of one part is one part
pub parts-front : (a c : List ℕ) → parts (a ++ c) ≡ (a ++ c) ∷ [] → parts a ≡ a ∷ []
parts-front a c one =
    let d = parts-cons c in
    parts-no_lines a (append_nil_front _ _ (sym (all_but_last-append (all_but_last (parts a)) (open_end a ++ d.0) d.1)
    ∙ ap (λ l. all_but_last (all_but_last (parts a) ++ onto (open_end a) l)) (sym d.2)
    ∙ ap all_but_last (sym (parts-append a c) ∙ one)))

-- behind bytes with no line end
pub parts-behind : (s p : List ℕ) → parts s ≡ s ∷ [] → parts (s ++ p) ≡ onto s (parts p)
parts-behind s p e = parts-append s p ∙ rw e refl

-- what follows a first line, with further bytes
pub parts-first-append : (t d f r : List ℕ) → parts t ≡ f ∷ parts r → parts (t ++ d) ≡ f ∷ parts (r ++ d)
parts-first-append t d f r e = parts-append t d ∙ rw (e, all_but_last-cons f r, last_part-cons f r) (ap (λ l. f ∷ l) (sym (parts-append r d)))

-- the lines behind a first one
pub whole-first : (n : ℕ) (w f r : List ℕ) → parts w ≡ f ∷ parts r → whole n w ≡ line_of n f ∷ whole n r
whole-first n w f r e = rw (e, all_but_last-cons f r) refl

-- the first part leaves the open end
pub open_end-first : (w f r : List ℕ) → parts w ≡ f ∷ parts r → open_end w ≡ open_end r
open_end-first w f r e = rw (e, last_part-cons f r) refl

-- one part has no whole line
pub whole-one : (n : ℕ) (w : List ℕ) → parts w ≡ w ∷ [] → whole n w ≡ []
whole-one n w e = rw e refl

-- and is open
pub open_end-one : (w : List ℕ) → parts w ≡ w ∷ [] → open_end w ≡ w
open_end-one w e = ap last_part e

-- bytes with no whole line are open
no_elements : {X Y : Type 0} (f : X → Y) (l : List X) → map f l ≡ [] → l ≡ []
no_elements f [] e = refl
no_elements f (x ∷ l) e = absurd (cons_not_nil _ _ e)

-- bytes without a whole line are open
pub open_end-no_lines : (n : ℕ) (w : List ℕ) → whole n w ≡ [] → open_end w ≡ w
open_end-no_lines n w e = open_end-one w (parts-no_lines w (no_elements (line_of n) (all_but_last (parts w)) e))

-- a byte 10 leaves nothing open
pub open_end-end : (b : List ℕ) → open_end (b ++ 10 ∷ []) ≡ []
open_end-end b = open_end-onto b (10 ∷ [])

-- there are no more lines than bytes
room-onto_first : (x : ℕ) (ps : List (List ℕ)) (q : List ℕ) (qs : List (List ℕ)) (n : ℕ) → ps ≡ q ∷ qs → length (all_but_last ps) + length (last_part ps) ≤ n
    → length (all_but_last (onto_first x ps)) + length (last_part (onto_first x ps)) ≤ n + 1
room-onto_first x ps q [] n e le = rw e (omega (arith, subst (λ l. length (all_but_last l) + length (last_part l) ≤ n) e le))
room-onto_first x ps q (c ∷ qs) n e le = rw e (omega (arith, subst (λ l. length (all_but_last l) + length (last_part l) ≤ n) e le))

parts-room-cons : (x : ℕ) (b : List ℕ) (t : Bool) → length (all_but_last (parts b)) + length (open_end b) ≤ length b
    → length (all_but_last (cond t ([] ∷ parts b) (onto_first x (parts b)))) + length (last_part (cond t ([] ∷ parts b) (onto_first x (parts b)))) ≤ length b + 1
parts-room-cons x b true le = rw (all_but_last-cons [] b, last_part-cons [] b) (omega (arith, le))
parts-room-cons x b false le = let c = parts-cons b in room-onto_first x (parts b) c.0 c.1 (length b) c.2 le

-- there are no more lines than bytes
pub parts-room : (b : List ℕ) → length (all_but_last (parts b)) + length (open_end b) ≤ length b
parts-room [] = omega arith
parts-room (x ∷ b) = omega (arith, parts-room-cons x b (x == 10) (parts-room b))
