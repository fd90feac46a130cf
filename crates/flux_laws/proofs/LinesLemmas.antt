-- The cut of an input, byte by byte.
use Rattle.std.proofs.Common.{◌≡◌, ℕ, ◌==◌, Bool, true, false, not, ◌||◌, cond, List, [], ◌∷◌, ◌++◌, refl, sym, ap, ◌∙◌, append_assoc, IsTrue}
use Rattle.std.proofs.lemmas.Bool.{eqb-true}
use Rattle.std.specs.List.{onto_first, list_all, list_any}
use Rattle.flux_model.specs.Lines.{parts, all_but_last, last_part}
use Rattle.flux_laws.specs.LinesLaws.{has_no_end, ended_text, LinesGiveBack, NoLineHasAnEnd, CutIsUnique}
use Rattle.flux_laws.proofs.TestLemmas.{both}

-- there is a first part
pub parts-cons : (b : List ℕ) → (p : List ℕ) × (ps : List (List ℕ)) × (parts b ≡ p ∷ ps)
parts-cons [] = ([], [], refl)
parts-cons (x ∷ b) =
    let more = parts-cons b in
    elim (x == 10) as (λ t. (p : List ℕ) × (ps : List (List ℕ)) × (cond t ([] ∷ parts b) (onto_first x (parts b)) ≡ p ∷ ps))
    [ true ↦ ([], parts b, refl) | false ↦ (x ∷ more.0, more.1, ap (onto_first x) more.2) ]

-- the bytes of parts
abbrev text_of : List (List ℕ) → List ℕ
text_of ps = ended_text (all_but_last ps) ++ last_part ps

text_first : (x : ℕ) (p : List ℕ) (ps : List (List ℕ)) → text_of ((x ∷ p) ∷ ps) ≡ x ∷ text_of (p ∷ ps)
text_first x p [] = refl
text_first x p (q ∷ ps) = refl

-- the lines give the bytes back
pub give_back : LinesGiveBack
give_back [] = refl
give_back (x ∷ b) = let c = parts-cons b in by (x == 10) refl c.0 c.1 c.2 (give_back b)
  where
    by : (t : Bool) → (x == 10) ≡ t → (p : List ℕ) (ps : List (List ℕ)) → parts b ≡ p ∷ ps → text_of (parts b) ≡ b
        → text_of (cond t ([] ∷ parts b) (onto_first x (parts b))) ≡ x ∷ b
    by true is p ps e ih = let ten : x ≡ 10 = eqb-true x 10 is in rw e (ap (λ t. 10 ∷ t) (rw e at ih) ∙ ap (λ y. y ∷ b) (sym ten))
    by false is p ps e ih = rw e (text_first x p ps ∙ ap (λ t. x ∷ t) (rw e at ih))

-- ---- no byte 10 in a part

no_end-cons : (x : ℕ) (p : List ℕ) → (x == 10) ≡ false → has_no_end (x ∷ p) ≡ has_no_end p
no_end-cons x p is = rw is refl

all_first : (x : ℕ) (ps : List (List ℕ)) (p : List ℕ) (more : List (List ℕ)) → (x == 10) ≡ false → ps ≡ p ∷ more
    → list_all has_no_end ps ≡ true → list_all has_no_end (onto_first x ps) ≡ true
all_first x ps p more is e all = rw e (rw is (rw e at all))

parts-no_end : (b : List ℕ) → list_all has_no_end (parts b) ≡ true
parts-no_end [] = refl
parts-no_end (x ∷ b) = let c = parts-cons b in by (x == 10) refl (all_first x (parts b) c.0 c.1) c.2 (parts-no_end b)
  where
    by : (t : Bool) → (x == 10) ≡ t
        → ((x == 10) ≡ false → parts b ≡ (parts-cons b).0 ∷ (parts-cons b).1 → list_all has_no_end (parts b) ≡ true → list_all has_no_end (onto_first x (parts b)) ≡ true)
        → parts b ≡ (parts-cons b).0 ∷ (parts-cons b).1 → list_all has_no_end (parts b) ≡ true
        → list_all has_no_end (cond t ([] ∷ parts b) (onto_first x (parts b))) ≡ true
    by true is first e ih = ih
    by false is first e ih = first is e ih

all_but_last-all : (ps : List (List ℕ)) → list_all has_no_end ps ≡ true
    → IsTrue (list_all has_no_end (all_but_last ps)) × IsTrue (has_no_end (last_part ps))
all_but_last-all [] all = (refl, refl)
all_but_last-all (p ∷ []) all = (refl, (both _ _ all).0)
all_but_last-all (p ∷ q ∷ ps) all =
    let here = both (has_no_end p) (list_all has_no_end (q ∷ ps)) all in
    let rest = all_but_last-all (q ∷ ps) here.1 in
    (rw here.0 rest.0, rest.1)

-- no line has a byte 10
pub no_end : NoLineHasAnEnd
no_end bytes = all_but_last-all (parts bytes) (parts-no_end bytes)

-- ---- the one cut

parts-open : (end : List ℕ) → has_no_end end ≡ true → parts end ≡ end ∷ []
parts-open [] none = refl
parts-open (x ∷ end) none = by (x == 10) refl none (parts-open end)
  where
    by : (t : Bool) → (x == 10) ≡ t → not (t || list_any (λ y. y == 10) end) ≡ true → (has_no_end end ≡ true → parts end ≡ end ∷ [])
        → cond t ([] ∷ parts end) (onto_first x (parts end)) ≡ (x ∷ end) ∷ []
    by true is h ih = cc
    by false is h ih = ap (onto_first x) (ih h)

parts-line : (line rest : List ℕ) → has_no_end line ≡ true → parts (line ++ 10 ∷ rest) ≡ line ∷ parts rest
parts-line [] rest none = refl
parts-line (x ∷ line) rest none = by (x == 10) refl none (parts-line line rest)
  where
    by : (t : Bool) → (x == 10) ≡ t → not (t || list_any (λ y. y == 10) line) ≡ true
        → (has_no_end line ≡ true → parts (line ++ 10 ∷ rest) ≡ line ∷ parts rest)
        → cond t ([] ∷ parts (line ++ 10 ∷ rest)) (onto_first x (parts (line ++ 10 ∷ rest))) ≡ (x ∷ line) ∷ parts rest
    by true is h ih = cc
    by false is h ih = ap (onto_first x) (ih h)

all_but_last-cons : (a b : List ℕ) → all_but_last (a ∷ parts b) ≡ a ∷ all_but_last (parts b)
all_but_last-cons a b = let c = parts-cons b in rw c.2 refl

last_part-cons : (a b : List ℕ) → last_part (a ∷ parts b) ≡ last_part (parts b)
last_part-cons a b = let c = parts-cons b in rw c.2 refl

-- there is one way to cut
pub unique : CutIsUnique
unique [] end all none = let e = parts-open end none in (ap all_but_last e, ap last_part e)
unique (line ∷ ended) end all none =
    let here = both (has_no_end line) (list_all has_no_end ended) all in
    let rest = unique ended end here.1 none in
    let bytes : List ℕ = ended_text ended ++ end in
    let e : parts (ended_text (line ∷ ended) ++ end) ≡ line ∷ parts bytes =
    ap parts (append_assoc (line ++ 10 ∷ []) (ended_text ended) end ∙ append_assoc line (10 ∷ []) bytes) ∙ parts-line line bytes here.0 in
    (ap all_but_last e ∙ all_but_last-cons line bytes ∙ ap (λ l. line ∷ l) rest.0, ap last_part e ∙ last_part-cons line bytes ∙ rest.1)
