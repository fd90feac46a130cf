-- The vertices that fit, as they are listed one by one.
use Rattle.std.proofs.Common.{◌≡◌, ℕ, ◌+◌, ◌≤◌, ◌==◌, ◌&&◌, Bool, true, false, cond, List, [], ◌∷◌, ◌++◌, length, take, sym, ap, ◌∙◌, arith}
use Rattle.std.specs.Prelude.{Some, count_by, slice_get}
use Rattle.std.proofs.lemmas.List.{append-nil, take_all}
use Rattle.std.proofs.lemmas.List.Elements.{filter_more}
use Rattle.std.proofs.lemmas.List.Sums.{length-filter, count_by-le-length}
use Rattle.std.proofs.lemmas.Option.{get_or_from_slice_get, slice_get_within}
use Rattle.flux_model.specs.Graph.{Graph}
use Rattle.flux_model.specs.Pattern.{PatternGraph, fits_labels}
use Rattle.flux_model.specs.Tree.{QueryTree}
use Rattle.graph_rows.proofs.CountLemmas.{count-filter}
use Rattle.dcg_transition.specs.Roots.{with_labels, with_root_labels}

-- ---- one after the other

module _ (g : Graph) (labels : List (List ℕ)) (listed : List ℕ) (i v : ℕ) (at : slice_get listed i ≡ Some v) where
  next : (b : Bool) → fits_labels g labels v ≡ b → with_labels g labels (take (i + 1) listed) ≡ with_labels g labels (take i listed) ++ cond b (v ∷ []) []
  next b fit =
      let here = get_or_from_slice_get listed i v v at in
      filter_more (fits_labels g labels) listed i v (slice_get_within listed i v at)
      ∙ ap (λ x. with_labels g labels (take i listed) ++ cond (fits_labels g labels x) (x ∷ []) []) here
      ∙ ap (λ c. with_labels g labels (take i listed) ++ cond c (v ∷ []) []) fit

  pub fits-next : (answer : Bool) (old new : List ℕ) → answer ≡ fits_labels g labels v → answer ≡ true → old ≡ with_labels g labels (take i listed) → new ≡ old ++ v ∷ [] → new ≡ with_labels g labels (take (i + 1) listed)
  fits-next answer old new told holds before now = now ∙ ap (λ l. l ++ v ∷ []) before ∙ sym (next true (sym told ∙ holds))

  pub differs-next : (answer : Bool) (old new : List ℕ) → answer ≡ fits_labels g labels v → answer ≡ false → old ≡ with_labels g labels (take i listed) → new ≡ old → new ≡ with_labels g labels (take (i + 1) listed)
  differs-next answer old new told holds before now = now ∙ before ∙ sym (append-nil (with_labels g labels (take i listed))) ∙ sym (next false (sym told ∙ holds))

pub fitting-all : (g : Graph) (labels : List (List ℕ)) (listed : List ℕ) (i : ℕ) (vertices : List ℕ) → length listed ≤ i → vertices ≡ with_labels g labels (take i listed) → vertices ≡ with_labels g labels listed
fitting-all g labels listed i vertices end all = all ∙ ap (with_labels g labels) (take_all i listed end)

-- ---- all of them

-- no more than are listed
pub fitting-few : (g : Graph) (labels : List (List ℕ)) (listed : List ℕ) → length (with_labels g labels listed) ≤ length listed
fitting-few g labels listed = omega (arith, length-filter (fits_labels g labels) listed, count_by-le-length (fits_labels g labels) listed)

-- how often one of them is there
pub fitting-count : (g : Graph) (labels : List (List ℕ)) (listed : List ℕ) (w : ℕ) → count_by (λ v. v == w) (with_labels g labels listed) ≡ count_by (λ v. fits_labels g labels v && v == w) listed
fitting-count g labels listed w = count-filter (λ v. v == w) (fits_labels g labels) listed

-- those of the root
pub root-fitting : (q : PatternGraph) (t : QueryTree) (g : Graph) (listed : List ℕ) (labels : List (List ℕ)) → slice_get q.labels t.root ≡ Some labels → with_root_labels q t g listed ≡ with_labels g labels listed
root-fitting q t g listed labels is = ap (λ ls. with_labels g ls listed) (get_or_from_slice_get q.labels t.root labels [] is)
