-- What a walk of the patterns has spent.
use Rattle.std.proofs.Common.{◌≡◌, ℕ, zero, suc, ◌+◌, ◌<◌, ◌≤◌, Bool, true, false, cond, List, [], ◌∷◌, ◌++◌, length, take, get_or, refl, sym, ap, subst, ◌∙◌, arith}
use Rattle.std.specs.Prelude.{Some, filter, sum_by}
use Rattle.std.specs.List.{slice_get, zip}
use Rattle.std.specs.Option.{option_map}
use Rattle.std.specs.Str.{bytes_eq}
use Rattle.std.proofs.lemmas.List.{take-take, take_more}
use Rattle.std.proofs.lemmas.List.Elements.{filter-append}
use Rattle.std.proofs.lemmas.List.Sums.{sum_by-append, sum_by_push, sum_by_more, sum_by-take-le}
use Rattle.std.proofs.lemmas.Option.{slice_get-map, slice_get_within, get_or_from_slice_get, none-some, same_Some}
use Rattle.flux_model.specs.Costs.{look_cost}
use Rattle.flux_model.specs.Graph.{Graph}
use Rattle.flux_model.specs.Pattern.{PatternGraph}
use Rattle.flux_model.specs.Tree.{QueryTree, edge_at}
use Rattle.flux_model.specs.declared.graph.Triple.{Triple}
use Rattle.flux_model.specs.declared.pattern.PatternEdge.{PatternEdge}
use Rattle.pattern_registry.specs.declared.index.PatternIndex.{PatternIndex}
use Rattle.pattern_registry.specs.UpdateCosts.{looks_from}
use Rattle.pattern_registry.specs.MovedRows.{trees_of}
use Rattle.pattern_registry.specs.Routes.{places_with, place_at}
use Rattle.pattern_registry.proofs.RouteLemmas.{IsTurn}
use Rattle.pattern_registry.proofs.MovedLemmas.{place_is, turn_here}

-- ---- pairs of a pattern and its tree

pair_at : {X Y : Type 0} (xs : List X) (ys : List Y) (k : ℕ) (x : X) (y : Y) → slice_get xs k ≡ Some x → slice_get ys k ≡ Some y → slice_get (zip xs ys) k ≡ Some (x, y)
pair_at [] ys k x y e f = absurd (none-some x e)
pair_at (a ∷ ls) [] k x y e f = absurd (none-some y f)
pair_at (a ∷ ls) (b ∷ rs) zero x y e f = let p = same_Some a x e in let q = same_Some b y f in λ i. Some (p i, q i)
pair_at (a ∷ ls) (b ∷ rs) (suc k) x y e f = pair_at ls rs k x y e f

pub pairs_long : {X Y : Type 0} (xs : List X) (ys : List Y) → length ys ≡ length xs → length (zip xs ys) ≡ length xs
pairs_long [] ys e = refl
pairs_long (x ∷ xs) [] e = absurd (omega (arith, e))
pairs_long (x ∷ xs) (y ∷ ys) e = ap suc (pairs_long xs ys (omega (arith, e)))

-- the tree there, where the trees have stayed
pub pair_here : (qs : List PatternGraph) (first indexes : List PatternIndex) (k : ℕ) (q : PatternGraph) (index : PatternIndex) → trees_of indexes ≡ trees_of first → slice_get qs k ≡ Some q → slice_get indexes k ≡ Some index
    → slice_get (zip qs (trees_of first)) k ≡ Some (q, index.tree)
pair_here qs first indexes k q index stay e f =
    pair_at qs (trees_of first) k q index.tree e (ap (λ ts. slice_get ts k) (sym stay) ∙ slice_get-map (λ (i : PatternIndex). i.tree) indexes k ∙ ap (option_map (λ (i : PatternIndex). i.tree)) f)

-- ---- along a route

module _ {X : Type 0} (f : X → ℕ) (xs : List X) where
  sum_here : (k : ℕ) (x : X) → slice_get xs k ≡ Some x → sum_by f (take (k + 1) xs) ≡ sum_by f (take k xs) + f x
  sum_here k x e = sum_by_more f xs k x (slice_get_within xs k x e) ∙ ap (λ y. sum_by f (take k xs) + f y) (get_or_from_slice_get xs k x x e)

  sum_longer : (k n : ℕ) → k ≤ n → sum_by f (take k xs) ≤ sum_by f (take n xs)
  sum_longer k n h = let most = sum_by-take-le f (take n xs) k in let same : sum_by f (take k (take n xs)) ≡ sum_by f (take k xs) = ap (sum_by f) (take-take k n xs h) in omega (arith, most, same)

  module _ (label : List ℕ) (qs : List PatternGraph) (places : List ℕ) (is : places ≡ places_with 0 label qs) (first : ℕ) where
    pub spent_turn : (i : ℕ) → i < length places → (x : X) (old new : ℕ) → old ≤ first + sum_by f (take (place_at places i (length qs)) xs) → slice_get xs (get_or places i 0) ≡ Some x → new ≤ old + f x
        → new ≤ first + sum_by f (take (place_at places (i + 1) (length qs)) xs)
    spent_turn i within x old new before here one =
        let k : ℕ = get_or places i 0 in
        let next : ℕ = place_at places (i + 1) (length qs) in
        let turn : IsTurn label qs k next = turn_here label qs places is i within in
        let at : old ≤ first + sum_by f (take k xs) = subst (λ n. old ≤ first + sum_by f (take n xs)) (place_is label qs places is i within) before in
        omega (arith, at, one, sum_here k x here, sum_longer (k + 1) next (omega (arith, turn.above)))

  pub spent_last : (first n spent : ℕ) → spent ≤ first + sum_by f (take n xs) → spent ≤ first + sum_by f xs
  spent_last first n spent h = omega (arith, h, sum_by-take-le f xs n)

-- ---- edge by edge

-- the edges with the label of the triple
abbrev labelled : Triple → List PatternEdge → List PatternEdge
labelled t edges = filter (λ (e : PatternEdge). bytes_eq e.label t.label) edges

labelled_next : (t : Triple) (edges : List PatternEdge) (e : PatternEdge) → labelled t (edges ++ e ∷ []) ≡ labelled t edges ++ cond (bytes_eq e.label t.label) (e ∷ []) []
labelled_next t edges e = filter-append (λ (f : PatternEdge). bytes_eq f.label t.label) edges (e ∷ [])

pub looks_next : (q : PatternGraph) (tree : QueryTree) (g : Graph) (t : Triple) (i : ℕ) (first old new : ℕ) → i < length q.edges → old ≤ first + looks_from q tree g t (take i q.edges)
    → new ≤ old + cond (bytes_eq (edge_at q i).label t.label) (look_cost q tree g (edge_at q i) t) 0 → new ≤ first + looks_from q tree g t (take (i + 1) q.edges)
looks_next q tree g t i first old new low before one = by (bytes_eq (edge_at q i).label t.label) refl one
  where
    all : labelled t (take (i + 1) q.edges) ≡ labelled t (take i q.edges) ++ cond (bytes_eq (edge_at q i).label t.label) (edge_at q i ∷ []) []
    all = ap (labelled t) (take_more q.edges i (record { tail = 0; label = []; head = 0 }) low) ∙ labelled_next t (take i q.edges) (edge_at q i)

    by : (b : Bool) → bytes_eq (edge_at q i).label t.label ≡ b → new ≤ old + cond b (look_cost q tree g (edge_at q i) t) 0 → new ≤ first + looks_from q tree g t (take (i + 1) q.edges)
    by true e o =
        let sum : looks_from q tree g t (take (i + 1) q.edges) ≡ looks_from q tree g t (take i q.edges) + (look_cost q tree g (edge_at q i) t) =
        ap (sum_by (λ f. look_cost q tree g f t)) (all ∙ ap (λ b. labelled t (take i q.edges) ++ cond b (edge_at q i ∷ []) []) e)
        ∙ sum_by_push (λ f. look_cost q tree g f t) (labelled t (take i q.edges)) (edge_at q i) in
        omega (arith, before, o, sum)
    by false e o =
        let sum : looks_from q tree g t (take (i + 1) q.edges) ≡ looks_from q tree g t (take i q.edges) + 0 =
        ap (sum_by (λ f. look_cost q tree g f t)) (all ∙ ap (λ b. labelled t (take i q.edges) ++ cond b (edge_at q i ∷ []) []) e)
        ∙ sum_by-append (λ f. look_cost q tree g f t) (labelled t (take i q.edges)) [] in
        omega (arith, before, o, sum)
