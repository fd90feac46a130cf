-- Steps of the search.
use Rattle.std.proofs.Common.{◌≡◌, ℕ, zero, suc, ◌+◌, ◌-◌, ◌<◌, ◌≤◌, Bool, ◌&&◌, List, [], ◌∷◌, ◌++◌, length, get_or, take, drop, map, refl, sym, ◌∙◌, ap, arith, append_assoc, append-nil, length-append, Some}
use Rattle.std.specs.List.{slice_get, flat_map, filter, list_all}
use Rattle.std.proofs.lemmas.List.{drop_more, drop_all, take_at, map-append}
use Rattle.std.proofs.lemmas.List.Elements.{filter-append}
use Rattle.flux_model.specs.Graph.{Graph, ids}
use Rattle.std.specs.Cmp.Lexicographic.{pointwise}
use Rattle.flux_model.specs.Pattern.{PatternGraph, fits_labels}
use Rattle.flux_model.specs.Embedding.{is_embedding, id_lists}
use Rattle.plain_match.specs.Extensions.{extensions}
use Rattle.plain_match.proofs.NamesLemmas.{rest_from}

-- ---- one place of a map

-- whether all from here on fit: this one, and those behind it
pub fit_step : (g : Graph) (ls : List (List (List ℕ))) (m : List ℕ) (u : ℕ) (labels : List (List ℕ)) → slice_get ls u ≡ Some labels → u < length m → pointwise (fits_labels g) (drop u ls) (drop u m) ≡ (fits_labels g labels (get_or m u 0) && pointwise (fits_labels g) (drop (u + 1) ls) (drop (u + 1) m))
fit_step g ls m u labels e h = λ i. pointwise (fits_labels g) (rest_from ls u labels e i) (drop_more m u 0 h i)

-- whether all from here on pass: this one, and those behind it
pub all_step : {X : Type 0} (p : X → Bool) (xs : List X) (i : ℕ) (x : X) → slice_get xs i ≡ Some x → list_all p (drop i xs) ≡ (p x && list_all p (drop (i + 1) xs))
all_step p xs i x e = ap (list_all p) (rest_from xs i x e)

-- ---- one more id

-- one id more behind the same ids
pub push_onto : (xs ys s : List ℕ) (v : ℕ) → s ≡ ys ++ v ∷ [] → ys ≡ xs → s ≡ xs ++ v ∷ []
push_onto xs ys s v e f = e ∙ ap (λ l. l ++ v ∷ []) f

-- what a pop leaves of a list that one element was pushed onto
pub pop_rest : (xs ys longer s : List ℕ) (v n : ℕ) → longer ≡ xs ++ v ∷ [] → s ≡ longer → n ≡ length s → ys ≡ take (n - 1) s → ys ≡ xs
pop_rest xs ys longer s v n pushed kept l r =
    let e : s ≡ xs ++ v ∷ [] = kept ∙ pushed in
    let k : length xs ≡ n - 1 = omega (arith, l, ap length e, length-append xs (v ∷ [])) in
    r ∙ ap (take (n - 1)) e ∙ take_at xs (v ∷ []) (n - 1) k

module _ (q : PatternGraph) (g : Graph) where
  regroup : (prefix : List ℕ) (v : ℕ) (ms : List (List ℕ)) → map (λ m. prefix ++ m) (map (λ m. v ∷ m) ms) ≡ map (λ m. (prefix ++ v ∷ []) ++ m) ms
  regroup prefix v [] = refl
  regroup prefix v (m ∷ ms) = λ i. sym (append_assoc prefix (v ∷ []) m) i ∷ regroup prefix v ms i

  over : (prefix : List ℕ) (ms : List (List ℕ)) (vs : List ℕ) → filter (is_embedding q g) (map (λ m. prefix ++ m) (flat_map (λ v. map (λ m. v ∷ m) ms) vs)) ≡ flat_map (λ v. filter (is_embedding q g) (map (λ m. (prefix ++ v ∷ []) ++ m) ms)) vs
  over prefix ms [] = refl
  over prefix ms (v ∷ vs) =
      ap (filter (is_embedding q g)) (map-append (λ m. prefix ++ m) (map (λ m. v ∷ m) ms) (flat_map (λ w. map (λ m. w ∷ m) ms) vs))
      ∙ filter-append (is_embedding q g) (map (λ m. prefix ++ m) (map (λ m. v ∷ m) ms)) (map (λ m. prefix ++ m) (flat_map (λ w. map (λ m. w ∷ m) ms) vs))
      ∙ (λ i. filter (is_embedding q g) (regroup prefix v ms i) ++ over prefix ms vs i)

  -- the embeddings that begin so, by their next id
  pub by_next_id : (prefix : List ℕ) (left : ℕ) → (left ≡ 0 → ⊥) → flat_map (λ v. extensions q g (prefix ++ v ∷ []) (left - 1)) (ids g) ≡ extensions q g prefix left
  by_next_id prefix zero h = absurd (h refl)
  by_next_id prefix (suc k) h =
      let e : suc k - 1 ≡ k = omega arith in
      rw e (sym (over prefix (id_lists (ids g) k) (ids g)))

  -- what is found with one id more in the prefix
  pub found_step : (found before total : List (List ℕ)) (prefix longer : List ℕ) (left i v : ℕ) → slice_get (ids g) i ≡ Some v → longer ≡ prefix ++ v ∷ [] → found ≡ before ++ extensions q g longer left → before ++ flat_map (λ w. extensions q g (prefix ++ w ∷ []) left) (drop i (ids g)) ≡ total → found ++ flat_map (λ w. extensions q g (prefix ++ w ∷ []) left) (drop (i + 1) (ids g)) ≡ total
  found_step found before total prefix longer left i v e pushed f rest =
      ap (λ l. l ++ flat_map more (drop (i + 1) (ids g))) (f ∙ ap (λ l. before ++ extensions q g l left) pushed)
      ∙ append_assoc before (more v) (flat_map more (drop (i + 1) (ids g)))
      ∙ ap (λ l. before ++ flat_map more l) (sym (rest_from (ids g) i v e))
      ∙ rest
    where
      more : ℕ → List (List ℕ)
      more w = extensions q g (prefix ++ w ∷ []) left

  pub found_all : (found : List (List ℕ)) (more : ℕ → List (List ℕ)) (i : ℕ) → length (ids g) ≤ i → found ≡ found ++ flat_map more (drop i (ids g))
  found_all found more i h = sym (ap (λ l. found ++ flat_map more l) (drop_all i (ids g) h) ∙ append-nil found)
