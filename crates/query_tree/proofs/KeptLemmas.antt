-- The lists that a `QueryTree` keeps.
use Rattle.std.proofs.Common.{◌≡◌, ℕ, ◌+◌, ◌<◌, ◌≤◌, Bool, true, false, ◌==◌, ◌&&◌, List, [], ◌∷◌, ◌++◌, length, map, get_or, Option, Some, Vec, Global, refl, sym, ap, subst, ◌∙◌, inl, inr, arith}
use Rattle.std.specs.Prelude.{◌⊎◌}
use Rattle.std.specs.Option.{MatchOption}
use Rattle.std.specs.List.{Any, list_any, filter, position, position_or_len, range_with_len, slice_get}
use Rattle.std.proofs.lemmas.Bool.{cases_lt, eqb-true, eq-eqb, lt-ltb}
use Rattle.std.proofs.lemmas.List.{get_or-map, length-map, map-append}
use Rattle.std.proofs.lemmas.List.Folds.{Any-from_list_any, list_any_at}
use Rattle.std.proofs.lemmas.List.FromFn.{length-range_with_len, get_or-range_with_len, length-map-range_with_len, get_or-map-range_with_len, map-range_with_len_more}
use Rattle.std.proofs.lemmas.List.Sums.{fails_before_first, passes_at_first}
use Rattle.std.proofs.lemmas.Map.Views.{any-filter_same}
use Rattle.std.proofs.lemmas.Option.{slice_get-get_or}
use Rattle.flux_model.specs.Tree.{QueryTree, link_at, is_child, children}
use Rattle.flux_model.specs.declared.tree.TreeLink.{TreeLink}
use Rattle.query_tree.proofs.CallerLemmas.{link_within, is_child_of}

-- the lists as they are seen
abbrev pub items_of : List (Vec ℕ Global) → List (List ℕ)
items_of lists = map (λ (v : Vec ℕ Global). v.items) lists

-- ---- a list for each vertex

-- there are as many lists as numbers
pub lists_count : (f : ℕ → List ℕ) (lists : List (Vec ℕ Global)) (n : ℕ) → items_of lists ≡ map f (range_with_len 0 n) → length lists ≡ n
lists_count f lists n e = sym (length-map lists (λ (v : Vec ℕ Global). v.items)) ∙ ap length e ∙ length-map-range_with_len f 0 n

-- the list at a number is that of the number
pub list_at : (f : ℕ → List ℕ) (lists : List (Vec ℕ Global)) (n u : ℕ) (v : Vec ℕ Global) → items_of lists ≡ map f (range_with_len 0 n) → u < n → v ≡ get_or lists u v → v.items ≡ f u
list_at f lists n u v e h at =
    ap (λ (w : Vec ℕ Global). w.items) at
    ∙ sym (get_or-map (λ (w : Vec ℕ Global). w.items) lists u v [] (omega (arith, lists_count f lists n e)))
    ∙ ap (λ (l : List (List ℕ)). get_or l u []) e
    ∙ get_or-map-range_with_len f 0 n u u [] h (omega arith)

-- one list more
pub lists_more : (f : ℕ → List ℕ) (lists more : List (Vec ℕ Global)) (v : Vec ℕ Global) (u : ℕ) → items_of lists ≡ map f (range_with_len 0 u) → v.items ≡ f u → more ≡ lists ++ v ∷ [] → items_of more ≡ map f (range_with_len 0 (u + 1))
lists_more f lists more v u e is pushed =
    ap items_of pushed
    ∙ map-append (λ (w : Vec ℕ Global). w.items) lists (v ∷ [])
    ∙ ap (λ (l : List (List ℕ)). l ++ v.items ∷ []) e
    ∙ ap (λ (xs : List ℕ). map f (range_with_len 0 u) ++ xs ∷ []) is
    ∙ sym (map-range_with_len_more f 0 u u (omega arith))

-- ---- the place of a number

-- a number that is there has a place
pub place_within : (xs : List ℕ) (u : ℕ) → list_any (λ v. v == u) xs ≡ true → (i : ℕ) × (position (λ v. v == u) xs ≡ Some i) × (slice_get xs i ≡ Some u)
place_within xs u h = by (Any-from_list_any (λ v. v == u) xs h) (cases_lt (position_or_len (λ v. v == u) xs) (length xs))
  where
    place : ℕ
    place = position_or_len (λ v. v == u) xs

    by : Any (λ v. (v == u) ≡ true) xs → (position_or_len (λ v. v == u) xs < length xs) ⊎ (length xs ≤ position_or_len (λ v. v == u) xs) → (i : ℕ) × (position (λ v. v == u) xs ≡ Some i) × (slice_get xs i ≡ Some u)
    by a (inl l) = (
      position_or_len (λ v. v == u) xs,
      rw (lt-ltb (position_or_len (λ v. v == u) xs) (length xs) l) refl,
      slice_get-get_or xs (position_or_len (λ v. v == u) xs) 0 l ∙ ap Some (eqb-true (get_or xs (position_or_len (λ v. v == u) xs) 0) u (passes_at_first (λ v. v == u) xs 0 l)),
    )
    by a (inr l) =
        let fails : (get_or xs a.0 a.1 == u) ≡ false = fails_before_first (λ v. v == u) xs a.0 a.1 (omega (arith, a.2)) in
        let same : get_or xs a.0 a.1 ≡ a.1 = a.3 in
        let passes : (get_or xs a.0 a.1 == u) ≡ true = ap (λ v. v == u) same ∙ a.4 in
        absurd cc

among : (p : ℕ → Bool) (n u : ℕ) → u < n → p u ≡ true → list_any (λ v. v == u) (filter p (range_with_len 0 n)) ≡ true
among p n u h passes =
    any-filter_same (λ v. v == u) p (p u) (λ v e. ap p (eqb-true v u e)) (range_with_len 0 n)
    ∙ ap (λ b. b && list_any (λ v. v == u) (range_with_len 0 n)) passes
    ∙ list_any_at (λ v. v == u) (range_with_len 0 n) u 0 (omega (arith, length-range_with_len 0 n)) (eq-eqb (get_or (range_with_len 0 n) u 0) u (omega (arith, get_or-range_with_len 0 n u 0 h)))

-- a vertex stands among its parent's children
pub child_place : (t : QueryTree) (u : ℕ) (l : TreeLink) → link_at t u ≡ Some l → (i : ℕ) × (position (λ v. v == u) (children t l.parent) ≡ Some i) × (slice_get (children t l.parent) i ≡ Some u)
child_place t u l e =
    place_within (children t l.parent) u (among (is_child t l.parent) (length t.links) u (link_within t u l e) (is_child_of t u l e))

-- a link read from a tree that is this one
pub read_link : (s t : QueryTree) (u : ℕ) (o : Option TreeLink) (l : TreeLink) → s ≡ t → o ≡ link_at s u → o ≡ Some l → link_at t u ≡ Some l
read_link s t u o l same read is = sym (ap (λ (r : QueryTree). link_at r u) same) ∙ sym read ∙ is

-- a vertex stands among the children of its parent at its number
pub child_numbered : (t : QueryTree) (u : ℕ) (l : TreeLink) (r : ℕ) → link_at t u ≡ Some l → position (λ v. v == u) (children t l.parent) ≡ Some r → MatchOption (link_at t u) ⊥ (λ link. slice_get (children t link.parent) r ≡ Some u)
child_numbered t u l r e p =
    let place = child_place t u l e in
    let found : position (λ v. v == u) (children t l.parent) ≡ Some place.0 = place.1 in
    let same : place.0 ≡ r = cc in
    let at : slice_get (children t l.parent) r ≡ Some u = subst (λ i. slice_get (children t l.parent) i ≡ Some u) same place.2 in
    rw e at
