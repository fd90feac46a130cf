-- One place more, and the places that are left.
use Rattle.std.proofs.Common.{◌≡◌, ℕ, zero, suc, ◌+◌, ◌-◌, ◌<◌, ◌≤◌, List, [], ◌∷◌, ◌++◌, reverse, Option, Some, None, slice_index, refl, sym, ap, ◌∙◌, arith}
use Rattle.std.specs.Option.{option_map}
use Rattle.std.proofs.lemmas.List.{append-nil, append_assoc, map-append, reverse-append}
use Rattle.flux_model.specs.Tree.{QueryTree, least}
use Rattle.flux_model.specs.Order.{Place, SearchOrder, open_vertices, place_of, places_after}
use Rattle.match_order.specs.Whole.{vertices, anchors, latest_first}
use Rattle.match_order.specs.Steps.{next_place, with_place}

-- ---- one place more

module _ (o : SearchOrder) (p : Place) where
  -- one more place has one more vertex, at the end
  pub vertices_more : vertices (with_place o (Some p)) ≡ vertices o ++ p.vertex ∷ []
  vertices_more = ap (λ (l : List ℕ). o.start ∷ l) (map-append (λ (q : Place). q.vertex) o.places (p ∷ []))

  -- and one more anchor, at the end
  pub anchors_more : anchors (with_place o (Some p)) ≡ anchors o ++ p.anchor ∷ []
  anchors_more = map-append (λ (q : Place). q.anchor) o.places (p ∷ [])

  -- its vertex is the latest
  pub latest_more : latest_first (with_place o (Some p)) ≡ p.vertex ∷ latest_first o
  latest_more = ap reverse vertices_more ∙ reverse-append (vertices o) (p.vertex ∷ [])

-- ---- the places that are left

-- the order with the places of k more steps
abbrev pub completed : ℕ → QueryTree → List ℕ → SearchOrder → SearchOrder
completed k t live o = record { start = o.start; places = o.places ++ places_after k t live (latest_first o) }

module _ (t : QueryTree) (live : List ℕ) where
  abbrev least_of : List ℕ → Option ℕ
  least_of before = least (slice_index live) (open_vertices t before)

  after_none : (k : ℕ) (before : List ℕ) → least_of before ≡ None → places_after k t live before ≡ []
  after_none zero before e = refl
  after_none (suc k) before e = rw e refl

  after_some : (k u : ℕ) (before : List ℕ) → least_of before ≡ Some u → places_after (suc k) t live before ≡ place_of t before u ∷ places_after k t live (u ∷ before)
  after_some k u before e = rw e refl

  -- the order with the place of vertex n, if there is one
  abbrev with_vertex : SearchOrder → Option ℕ → SearchOrder
  with_vertex o n = with_place o (option_map (place_of t (latest_first o)) n)

  abbrev with_places : SearchOrder → List Place → SearchOrder
  with_places o ps = record { start = o.start; places = ps }

  -- one step less is left once the next place is there
  pub completed_more : (k : ℕ) (o : SearchOrder) → completed (suc k) t live o ≡ completed k t live (with_place o (next_place t live (latest_first o)))
  completed_more k o = by (least_of (latest_first o)) refl
    where
      by : (n : Option ℕ) → least_of (latest_first o) ≡ n → completed (suc k) t live o ≡ completed k t live (with_vertex o (least_of (latest_first o)))
      by None e =
          ap (λ (ps : List Place). with_places o (o.places ++ ps)) (after_none (suc k) (latest_first o) e ∙ sym (after_none k (latest_first o) e))
          ∙ ap (λ n. completed k t live (with_vertex o n)) (sym e)
      by (Some u) e =
          let p = place_of t (latest_first o) u in
          ap (λ (ps : List Place). with_places o (o.places ++ ps)) (after_some k u (latest_first o) e)
          ∙ ap (with_places o) (sym (append_assoc o.places (p ∷ []) (places_after k t live (u ∷ latest_first o))))
          ∙ ap (λ (l : List ℕ). with_places o ((o.places ++ p ∷ []) ++ places_after k t live l)) (sym (latest_more o p))
          ∙ ap (λ n. completed k t live (with_vertex o n)) (sym e)

  -- where no step is left, nothing is added
  pub completed_none : (o : SearchOrder) → completed 0 t live o ≡ o
  completed_none o = ap (with_places o) (append-nil o.places)

  -- the step at place k of n
  pub left_more : (n k : ℕ) (o next : SearchOrder) → k < n → next ≡ with_place o (next_place t live (latest_first o)) → completed (n - (k + 1)) t live next ≡ completed (n - k) t live o
  left_more n k o next h e =
      ap (completed (n - (k + 1)) t live) e
      ∙ sym (completed_more (n - (k + 1)) o)
      ∙ ap (λ j. completed j t live o) (suc_left n k h)
    where
      suc_left : (m j : ℕ) → j < m → suc (m - (j + 1)) ≡ m - j
      suc_left m j l = omega arith

  -- nor where no more steps are left than were made
  pub left_none : (n k : ℕ) (o : SearchOrder) → n ≤ k → completed (n - k) t live o ≡ o
  left_none n k o h =
      ap (λ j. completed j t live o) (none_left n k h)
      ∙ completed_none o
    where
      none_left : (m j : ℕ) → m ≤ j → m - j ≡ 0
      none_left m j l = omega arith
