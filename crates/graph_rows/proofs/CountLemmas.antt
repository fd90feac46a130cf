-- Counts over lists that are made of others, and over the ends of a row.
use Rattle.std.proofs.Common.{◌≡◌, ℕ, ◌+◌, Bool, true, false, cond, ◌&&◌, ◌==◌, List, [], ◌∷◌, refl, sym, ap, ◌∙◌, arith}
use Rattle.std.specs.Prelude.{Option, None, Some, map, filter, count_by}
use Rattle.std.specs.List.{filter_map, cons_option}
use Rattle.std.specs.Str.{bytes_eq}
use Rattle.std.proofs.lemmas.List.Sums.{sum_by-cons}
use Rattle.flux_model.specs.Graph.{Graph}
use Rattle.flux_model.specs.declared.graph.Triple.{Triple}
use Rattle.graph_rows.specs.Directions.{whole_row, near_end, other_end, ends_of}
use Rattle.graph_rows.specs.declared.direction.Direction.{Direction}
use Rattle.graph_rows.specs.declared.direction.Direction.TheVariants.{Out, In}

-- ---- lists that are made of others

-- by tests that answer alike
pub count_same : {X : Type 0} (p r : X → Bool) (xs : List X) → ((x : X) → p x ≡ r x) → count_by p xs ≡ count_by r xs
count_same p r xs h = λ i. count_by (λ x. h x i) xs

-- whether there is a value, and it passes
abbrev pub passes : {Y : Type 0} → (Y → Bool) → Option Y → Bool
passes p None = false
passes p (Some y) = p y

-- of a list that may have one element more in front
pub count-cons_option : {Y : Type 0} (p : Y → Bool) (o : Option Y) (ys : List Y) → count_by p (cons_option o ys) ≡ cond (passes p o) 1 0 + count_by p ys
count-cons_option p None ys = omega arith
count-cons_option p (Some y) ys = sum_by-cons (λ z. cond (p z) 1 0) y ys

-- of the values that there are
pub count-filter_map : {X Y : Type 0} (p : Y → Bool) (f : X → Option Y) (xs : List X) → count_by p (filter_map f xs) ≡ count_by (λ x. passes p (f x)) xs
count-filter_map p f [] = refl
count-filter_map p f (x ∷ xs) =
    count-cons_option p (f x) (filter_map f xs)
    ∙ ap (λ n. cond (passes p (f x)) 1 0 + n) (count-filter_map p f xs)
    ∙ sym (sum_by-cons (λ z. cond (passes p (f z)) 1 0) x xs)

-- of the values of a function
pub count-map : {X Y : Type 0} (p : Y → Bool) (f : X → Y) (xs : List X) → count_by p (map f xs) ≡ count_by (λ x. p (f x)) xs
count-map p f [] = refl
count-map p f (x ∷ xs) =
    sum_by-cons (λ z. cond (p z) 1 0) (f x) (map f xs) ∙ ap (λ n. cond (p (f x)) 1 0 + n) (count-map p f xs) ∙ sym (sum_by-cons (λ z. cond (p (f z)) 1 0) x xs)

-- of the elements that pass another test
pub count-filter : {X : Type 0} (p r : X → Bool) (xs : List X) → count_by p (filter r xs) ≡ count_by (λ x. r x && p x) xs
count-filter p r [] = refl
count-filter p r (x ∷ xs) =
    elim (r x) as (λ b. count_by p (cond b (x ∷ filter r xs) (filter r xs)) ≡ cond (b && p x) 1 0 + count_by (λ z. r z && p z) xs) [
      | true ↦ sum_by-cons (λ z. cond (p z) 1 0) x (filter r xs) ∙ ap (λ n. cond (p x) 1 0 + n) (count-filter p r xs)
      | false ↦ omega (arith, count-filter p r xs)
    ]
    ∙ sym (sum_by-cons (λ z. cond (r z && p z) 1 0) x xs)

-- a value that is there by a test
pub passes-cond : {Y : Type 0} (p : Y → Bool) (b : Bool) (y : Y) → passes p (cond b (Some y) None) ≡ cond b (p y) false
passes-cond p true y = refl
passes-cond p false y = refl

-- ---- the ends of a row

-- those that pass a test are as many as the triples of the label whose ends do
pub count-ends_of : (p : ℕ → Bool) (direction : Direction) (label : List ℕ) (ts : List Triple) → count_by p (ends_of direction label ts) ≡ count_by (λ (t : Triple). bytes_eq label t.label && p (other_end direction t)) ts
count-ends_of p direction label ts =
    count-map p (other_end direction) (filter (λ (t : Triple). bytes_eq label t.label) ts) ∙ count-filter (λ (t : Triple). p (other_end direction t)) (λ t. bytes_eq label t.label) ts

-- of a row, as of the graph's triples that stand in it
pub count-whole_row : (p : Triple → Bool) (direction : Direction) (g : Graph) (v : ℕ) → count_by p (whole_row direction g v) ≡ count_by (λ (t : Triple). near_end direction t == v && p t) g.triples
count-whole_row p Out g v = count-filter p (λ (t : Triple). t.src == v) g.triples
count-whole_row p In g v = count-filter p (λ (t : Triple). t.dst == v) g.triples

-- ---- one triple of a label whose ends fit, where the end at hand does so

-- its tail is at hand
pub head_one : (lab tail head same rest : Bool) → (same ≡ true → tail ≡ true) → cond (lab && tail && head) (same && rest) false ≡ (same && (lab && (head && rest)))
head_one true true true same rest h = refl
head_one true true false true rest h = refl
head_one true true false false rest h = refl
head_one true false head true rest h = let bad : false ≡ true = h refl in cc
head_one true false head false rest h = refl
head_one false tail head true rest h = refl
head_one false tail head false rest h = refl

-- its head is at hand
pub tail_one : (lab tail head same rest : Bool) → (same ≡ true → head ≡ true) → cond (lab && tail && head) (same && rest) false ≡ (same && (lab && (tail && rest)))
tail_one true true true same rest h = refl
tail_one true true false true rest h = let bad : false ≡ true = h refl in cc
tail_one true true false false rest h = refl
tail_one true false head true rest h = refl
tail_one true false head false rest h = refl
tail_one false tail head true rest h = refl
tail_one false tail head false rest h = refl
