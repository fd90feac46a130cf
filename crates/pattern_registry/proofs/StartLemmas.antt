-- What a start has come to, pattern by pattern.
use Rattle.std.proofs.Common.{◌≡◌, ℕ, ◌+◌, ◌*◌, ◌≤◌, List, [], length, map, take, get_or, sym, ap, ◌∙◌, arith}
use Rattle.std.specs.Prelude.{Some, slice_get}
use Rattle.std.specs.List.{sum_by}
use Rattle.std.proofs.lemmas.List.{get_or-map, take_all}
use Rattle.std.proofs.lemmas.List.Sums.{sum_by_more}
use Rattle.std.proofs.lemmas.Option.{get_or_from_slice_get, slice_get_within, none-some}
use Rattle.flux_model.specs.Costs.{start_cost}
use Rattle.flux_model.specs.Graph.{Graph}
use Rattle.flux_model.specs.Pattern.{PatternGraph}
use Rattle.pattern_registry.specs.RootLists.{AreRootLists}
use Rattle.pattern_registry.specs.declared.roots.RootList.{RootList}

-- what was made of each element, read at a place
pub made-at : {X Y : Type 0} (f : X → Y) (xs : List X) (ys : List Y) (k : ℕ) (x : X) (y : Y) → ys ≡ map f xs → slice_get xs k ≡ Some x → y ≡ get_or ys k y → y ≡ f x
made-at f xs ys k x y made at read =
    read ∙ ap (λ zs. get_or zs k y) made ∙ get_or-map f xs k x y (slice_get_within xs k x at) ∙ ap f (get_or_from_slice_get xs k x x at)

-- no vertices are listed yet
pub no-lists : (g : Graph) (listed : List ℕ) (lists : List RootList) → lists ≡ [] → AreRootLists g listed lists
no-lists g listed lists none p list e = absurd (none-some list (ap (λ (l : List RootList). slice_get l p) (sym none) ∙ e))

module _ (g : Graph) (qs : List PatternGraph) (k : ℕ) where
  abbrev starts : List PatternGraph → ℕ
  starts ps = sum_by (λ p. start_cost p g) ps

  -- one pattern more
  pub start-next : (q : PatternGraph) (first old new : ℕ) → slice_get qs k ≡ Some q → 4 * old ≤ 4 * first + starts qs + 3 * starts (take k qs) → 4 * new ≤ 4 * old + 3 * start_cost q g
      → 4 * new ≤ 4 * first + starts qs + 3 * starts (take (k + 1) qs)
  start-next q first old new at before cost =
      let further = sum_by_more (λ p. start_cost p g) qs k q (slice_get_within qs k q at) ∙ ap (λ p. starts (take k qs) + start_cost p g) (get_or_from_slice_get qs k q q at) in
      omega (arith, further, before, cost)

  -- all of them
  pub start-end : (first steps : ℕ) → length qs ≤ k → 4 * steps ≤ 4 * first + starts qs + 3 * starts (take k qs) → steps ≤ first + starts qs
  start-end first steps end before = omega (arith, ap starts (take_all k qs end), before)
