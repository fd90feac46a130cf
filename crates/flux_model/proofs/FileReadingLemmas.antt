-- A file that is read in parts.
use Rattle.std.proofs.Common.{◌≡◌, ℕ, suc, ◌+◌, List, [], ◌∷◌, ◌++◌, length, map, Result, Ok, Err, refl, sym, ap, ◌∙◌, arith}
use Rattle.flux_model.specs.FileReading.{result_and_then, read_from}
use Rattle.flux_model.specs.declared.code.Bad.{Bad}

-- what follows may be replaced by what is the same
pub and_then-same : {S T E : Type 0} (f g : S → Result T E) (r : Result S E) → ((s : S) → f s ≡ g s) → result_and_then f r ≡ result_and_then g r
and_then-same f g (Ok s) same = same s
and_then-same f g (Err e) same = refl

-- three steps, of which each may refuse, in either grouping
pub and_then-assoc : {S T U E : Type 0} (f : S → Result T E) (g : T → Result U E) (r : Result S E)
    → result_and_then g (result_and_then f r) ≡ result_and_then (λ s. result_and_then g (f s)) r
and_then-assoc f g (Ok s) = refl
and_then-assoc f g (Err e) = refl

-- lines in two parts
pub read_from-append : {S L : Type 0} (take : ℕ → S → L → Result S Bad) (k : ℕ) (s : S) (xs ys : List L)
    → read_from take k s (xs ++ ys) ≡ result_and_then (λ next. read_from take (length xs + k) next ys) (read_from take k s xs)
read_from-append take k s [] ys = ap (λ n. read_from take n s ys) (omega arith)
read_from-append take k s (x ∷ xs) ys =
    and_then-same (λ next. read_from take (suc k) next (xs ++ ys))
    (λ next. result_and_then (λ last. read_from take (length xs + suc k) last ys) (read_from take (suc k) next xs)) (take k s x)
    (λ next. read_from-append take (suc k) next xs ys)
    ∙ ap (λ n. result_and_then (λ next. result_and_then (λ last. read_from take n last ys) (read_from take (suc k) next xs)) (take k s x)) (omega arith)
    ∙ sym_assoc
  where
    sym_assoc : result_and_then (λ next. result_and_then (λ last. read_from take (suc (length xs) + k) last ys) (read_from take (suc k) next xs)) (take k s x)
        ≡ result_and_then (λ last. read_from take (suc (length xs) + k) last ys) (result_and_then (λ next. read_from take (suc k) next xs) (take k s x))
    sym_assoc = sym (and_then-assoc (λ next. read_from take (suc k) next xs) (λ last. read_from take (suc (length xs) + k) last ys) (take k s x))

-- each line is first read, then taken
pub read_from-map : {S K L : Type 0} (take : ℕ → S → L → Result S Bad) (read : K → L) (k : ℕ) (s : S) (xs : List K)
    → read_from take k s (map read xs) ≡ read_from (λ n state x. take n state (read x)) k s xs
read_from-map take read k s [] = refl
read_from-map take read k s (x ∷ xs) =
    and_then-same (λ next. read_from take (suc k) next (map read xs)) (λ next. read_from (λ n state y. take n state (read y)) (suc k) next xs) (take k s (read x))
    (λ next. read_from-map take read (suc k) next xs)
