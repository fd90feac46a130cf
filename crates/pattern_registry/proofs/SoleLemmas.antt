-- What a vertex at which no triple ends brings: its id to the patterns of one vertex without an edge that it fits, and nothing else.
use Rattle.std.proofs.Common.{◌≡◌, ◌≢◌, ℕ, suc, Bool, true, false, not, ◌&&◌, ◌||◌, nat_lt, cond, List, [], ◌∷◌, length, refl, sym, ap, subst, ◌∙◌, arith, inl, inr}
use Rattle.std.specs.Prelude.{◌⊎◌, Ok, Some}
use Rattle.std.specs.Ordering.{nat_cmp, is_lt}
use Rattle.std.specs.Cmp.Lexicographic.{slice_cmp}
use Rattle.std.specs.List.{list_any, slice_get}
use Rattle.std.proofs.lemmas.Bool.{cases_eq, both_ways, ltb-true, ltb-false, false_from_ne_true, not-true, and_parts}
use Rattle.std.proofs.lemmas.Cmp.{nat_list_eq_equiv, nat_list_cmp_total, tied_itself}
use Rattle.std.proofs.lemmas.Map.Views.{Contains-from_any, list_any-from_Contains}
use Rattle.flux_model.specs.Change.{same_map, gained, lost}
use Rattle.flux_model.specs.Deltas.{AreReordered, change_deltas, with_delta}
use Rattle.flux_model.specs.Embedding.{is_embedding, keeps_mode}
use Rattle.flux_model.specs.Graph.{Graph, IsGraph, vertex_cmp, has_vertex, apply}
use Rattle.flux_model.specs.Ordered.{is_ascending}
use Rattle.flux_model.specs.Pattern.{PatternGraph, IsPattern, vertex_count, fits_labels, fits}
use Rattle.flux_model.specs.declared.graph.Update.TheVariants.{AddVertex, DropVertex}
use Rattle.flux_model.specs.declared.limits.Limits.{Limits}
use Rattle.flux_model.specs.declared.maps.Delta.{Delta}
use Rattle.flux_model.specs.declared.pattern.Mode.{Mode}
use Rattle.flux_model.specs.declared.pattern.Mode.TheVariants.{Hom, Iso}
use Rattle.flux_model.specs.declared.pattern.PatternEdge.{PatternEdge}
use Rattle.flux_laws.proofs.ChangesLemmas.{are_new, gained_up, loses_none, gains_none}
use Rattle.flux_laws.proofs.EmbeddingsLemmas.{same_exact}
use Rattle.flux_laws.specs.VerticesLaws.{HasMore}
use Rattle.flux_laws.proofs.GraphsLemmas.{vertex_added, vertex_dropped}
use Rattle.flux_laws.proofs.VerticesLemmas.{added_nothing, dropped_nothing}
use Rattle.dcg_updates.specs.VertexApart.{IsVertexApart}
use Rattle.dcg_updates.proofs.CallerLemmas.{vertex_came, vertex_went}
use Rattle.dcg_updates.proofs.ViewLemmas.{member_stands}
use Rattle.pattern_registry.specs.MovedRows.{deltas_of}
use Rattle.pattern_registry.specs.SoleVertex.{is_sole, sole_maps, sole_gain, sole_loss}

-- ---- an ascending list with one member at most

same_self : (m : List ℕ) → same_map m m ≡ true
same_self m = nat_list_eq_equiv.refl m

not_below_itself : (m : List ℕ) → is_lt (slice_cmp nat_cmp m m) ≡ false
not_below_itself m = rw (tied_itself nat_list_cmp_total m) refl

-- its members are m alone
abbrev HasOnly : List ℕ → List (List ℕ) → Type 0
HasOnly m xs = (x : List ℕ) → list_any (same_map x) xs ≡ true → x ≡ m

first_member : (x : List ℕ) (xs : List (List ℕ)) → list_any (same_map x) (x ∷ xs) ≡ true
first_member x xs = rw (same_self x) refl

second_member : (x y : List ℕ) (xs : List (List ℕ)) → list_any (same_map y) (x ∷ y ∷ xs) ≡ true
second_member x y xs = by (same_map y x) (same_self y)
  where
    by : (b : Bool) → same_map y y ≡ true → b || (same_map y y || list_any (same_map y) xs) ≡ true
    by true e = refl
    by false e = rw e refl

only_one : (m : List ℕ) (xs : List (List ℕ)) → is_ascending (slice_cmp nat_cmp) xs ≡ true → HasOnly m xs → list_any (same_map m) xs ≡ true → xs ≡ m ∷ []
only_one m [] up only there = cc
only_one m (x ∷ []) up only there = ap (λ y. y ∷ []) (only x (first_member x []))
only_one m (x ∷ y ∷ ys) up only there =
    let a : x ≡ m = only x (first_member x (y ∷ ys)) in
    let b : y ≡ m = only y (second_member x y ys) in
    let low : is_lt (slice_cmp nat_cmp x y) ≡ true = (and_parts (is_lt (slice_cmp nat_cmp x y)) (is_ascending (slice_cmp nat_cmp) (y ∷ ys)) up).0 in
    absurd (both_ways (is_lt (slice_cmp nat_cmp x y)) (ap (λ z. is_lt (slice_cmp nat_cmp x z)) (b ∙ sym a) ∙ not_below_itself x) low)

none_at_all : (m : List ℕ) (xs : List (List ℕ)) → HasOnly m xs → list_any (same_map m) xs ≡ false → xs ≡ []
none_at_all m [] only there = refl
none_at_all m (x ∷ xs) only there =
    absurd (both_ways (list_any (same_map m) (x ∷ xs)) there (subst (λ y. list_any (same_map y) (x ∷ xs) ≡ true) (only x (first_member x xs)) (first_member x xs)))

-- ---- one vertex and no edge

abbrev sole : List ℕ → Mode → List (List ℕ) → PatternGraph
sole name mode labels = record { name = name; mode = mode; labels = labels ∷ []; edges = [] }

-- the graph with the vertex, and the one without it
pub record IsGone (id : ℕ) (small large : Graph) : Type 0 where
  pub absent : has_vertex small id ≡ false
  pub others : (labels : List (List ℕ)) (v : ℕ) → v ≢ id → fits_labels large labels v ≡ fits_labels small labels v
  pub ascending : is_ascending vertex_cmp large.vertices ≡ true

module _ (name : List ℕ) (mode : Mode) (labels : List (List ℕ)) where
  embeds_one : (g : Graph) (v : ℕ) → is_embedding (sole name mode labels) g (v ∷ []) ≡ fits_labels g labels v
  embeds_one g v = by mode (fits_labels g labels v)
    where
      by : (m : Mode) (b : Bool) → ((b && true) && true) && keeps_mode m (v ∷ []) ≡ b
      by Hom true = refl
      by Hom false = refl
      by Iso true = refl
      by Iso false = refl

  -- an embedding is one id, which fits
  one_id : (g : Graph) (x : List ℕ) → is_embedding (sole name mode labels) g x ≡ true → (v : ℕ) × (x ≡ v ∷ []) × (fits_labels g labels v ≡ true)
  one_id g [] h = cc
  one_id g (v ∷ []) h = (v, refl, sym (embeds_one g v) ∙ h)
  one_id g (v ∷ w ∷ ws) h = absurd (by (fits_labels g labels v) h)
    where
      by : (b : Bool) → ((b && false) && true) && keeps_mode mode (v ∷ w ∷ ws) ≡ true → ⊥
      by true e = cc
      by false e = cc

  module _ (id : ℕ) (small large : Graph) (gone : IsGone id small large) where
    not_before : is_embedding (sole name mode labels) small (id ∷ []) ≡ true → ⊥
    not_before e = both_ways (has_vertex small id) gone.absent (member_stands (sole name mode labels) 0 small id (sym (embeds_one small id) ∙ e))

    only_id : HasOnly (id ∷ []) (gained (sole name mode labels) small large)
    only_id x h =
        let fresh = (are_new (sole name mode labels) small large x).0 (Contains-from_any same_exact x (gained (sole name mode labels) small large) h) in
        by x (one_id large x fresh.0) fresh.1
      where
        by : (x : List ℕ) → (v : ℕ) × (x ≡ v ∷ []) × (fits_labels large labels v ≡ true) → (is_embedding (sole name mode labels) small x ≡ true → ⊥) → x ≡ id ∷ []
        by x (v, is, fit) absent = at (cases_eq v id)
          where
            at : (v ≡ id) ⊎ (v ≢ id) → x ≡ id ∷ []
            at (inl same) = is ∙ ap (λ w. w ∷ []) same
            at (inr other) = absurd (absent (ap (is_embedding (sole name mode labels) small) is ∙ embeds_one small v ∙ sym (gone.others labels v other) ∙ fit))

    pub gained_sole : gained (sole name mode labels) small large ≡ cond (fits_labels large labels id) ((id ∷ []) ∷ []) []
    gained_sole = by (fits_labels large labels id) refl
      where
        by : (b : Bool) → fits_labels large labels id ≡ b → gained (sole name mode labels) small large ≡ cond b ((id ∷ []) ∷ []) []
        by true e =
            only_one (id ∷ []) (gained (sole name mode labels) small large) (gained_up (sole name mode labels) small large gone.ascending) only_id
            (list_any-from_Contains nat_list_eq_equiv (id ∷ []) (gained (sole name mode labels) small large) ((are_new (sole name mode labels) small large (id ∷ [])).1 (embeds_one large id ∙ e, not_before)))
        by false e =
            none_at_all (id ∷ []) (gained (sole name mode labels) small large) only_id
            (false_from_ne_true (list_any (same_map (id ∷ [])) (gained (sole name mode labels) small large)) (λ h.
            both_ways (fits_labels large labels id) e (sym (embeds_one large id) ∙ ((are_new (sole name mode labels) small large (id ∷ [])).0 (Contains-from_any same_exact (id ∷ []) (gained (sole name mode labels) small large) h)).0)))

-- ---- any pattern

module _ (id : ℕ) (small large : Graph) (gone : IsGone id small large) where
  sole_case : (name : List ℕ) (mode : Mode) (labels : List (List (List ℕ))) (edges : List PatternEdge) → length labels ≡ 1 → length edges ≡ 0
      → gained (record { name = name; mode = mode; labels = labels; edges = edges }) small large ≡ sole_maps (record { name = name; mode = mode; labels = labels; edges = edges }) large id
  sole_case name mode [] edges a b = absurd (omega (arith, a))
  sole_case name mode (l ∷ m ∷ ls) edges a b = absurd (omega (arith, a))
  sole_case name mode (l ∷ []) (e ∷ es) a b = absurd (omega (arith, b))
  sole_case name mode (l ∷ []) [] a b = gained_sole name mode l id small large gone

  pub gained_is : (q : PatternGraph) → IsPattern q → (HasMore q → gained q small large ≡ []) → gained q small large ≡ sole_maps q large id
  gained_is q is none = by (is_sole q) refl
    where
      few : (a b : Bool) → not (a || b) ≡ true → (a ≡ false) × (b ≡ false)
      few true b e = absurd (let bad : false ≡ true = e in cc)
      few false true e = absurd (let bad : false ≡ true = e in cc)
      few false false e = (refl, refl)

      many : (a b : Bool) → not (a || b) ≡ false → (a ≡ true) ⊎ (b ≡ true)
      many true b e = inl refl
      many false true e = inr refl
      many false false e = absurd (let bad : true ≡ false = e in cc)

      more : (nat_lt 1 (vertex_count q) ≡ true) ⊎ (nat_lt 0 (length q.edges) ≡ true) → HasMore q
      more (inl h) = inl (ltb-true 1 (vertex_count q) h)
      more (inr h) = inr (ltb-true 0 (length q.edges) h)

      by : (b : Bool) → is_sole q ≡ b → gained q small large ≡ cond (b && fits q 0 large id) ((id ∷ []) ∷ []) []
      by false e = none (more (many (nat_lt 1 (vertex_count q)) (nat_lt 0 (length q.edges)) e))
      by true e =
          let f = few (nat_lt 1 (vertex_count q)) (nat_lt 0 (length q.edges)) e in
          let one : length q.labels ≡ 1 = omega (arith, is.some_vertex, ltb-false 1 (length q.labels) f.0) in
          let no : length q.edges ≡ 0 = omega (arith, ltb-false 0 (length q.edges) f.1) in
          sole_case q.name q.mode q.labels q.edges one no ∙ ap (λ b. cond (b && fits q 0 large id) ((id ∷ []) ∷ []) []) e

-- ---- the deltas

abbrev ArePatterns : List PatternGraph → Type 0
ArePatterns qs = (k : ℕ) (q : PatternGraph) → slice_get qs k ≡ Some q → IsPattern q

sole_gains : (old new : Graph) (id : ℕ) → ((q : PatternGraph) → IsPattern q → (gained q old new ≡ sole_maps q new id) × (lost q old new ≡ []))
    → (i : ℕ) (qs : List PatternGraph) → ArePatterns qs → change_deltas i old new qs ≡ deltas_of (sole_gain new id) i qs
sole_gains before after id same i [] are = refl
sole_gains before after id same i (q ∷ qs) are =
    let s = same q (are 0 q refl) in
    (λ j. with_delta (record { pattern = i; gained = s.0 j; lost = s.1 j }) (sole_gains before after id same (suc i) qs (λ k. are (suc k)) j))

sole_losses : (old new : Graph) (id : ℕ) → ((q : PatternGraph) → IsPattern q → (gained q old new ≡ []) × (lost q old new ≡ sole_maps q old id))
    → (i : ℕ) (qs : List PatternGraph) → ArePatterns qs → change_deltas i old new qs ≡ deltas_of (sole_loss old id) i qs
sole_losses before after id same i [] are = refl
sole_losses before after id same i (q ∷ qs) are =
    let s = same q (are 0 q refl) in
    (λ j. with_delta (record { pattern = i; gained = s.0 j; lost = s.1 j }) (sole_losses before after id same (suc i) qs (λ k. are (suc k)) j))

pub vertex_gains : (limits : Limits) (g h : Graph) (id : ℕ) (labels : List (List ℕ)) (patterns seen : List PatternGraph) (deltas : List Delta) → IsGraph g → IsGraph h → apply limits g (AddVertex id labels) ≡ Ok h → patterns ≡ seen
    → ArePatterns patterns → AreReordered (deltas_of (sole_gain h id) 0 patterns) deltas → AreReordered (change_deltas 0 g h seen) deltas
vertex_gains limits g h id labels patterns seen deltas before after ok same are all =
    subst (λ qs. AreReordered (change_deltas 0 g h qs) deltas) same
    (subst (λ l. AreReordered l deltas) (sym (sole_gains g h id each 0 patterns are)) all)
  where
    apart : IsVertexApart id g h
    apart = vertex_came limits g h id labels before ok

    gone : IsGone id g h
    gone = record { absent = (vertex_added limits g h id labels ok).absent; others = apart.others; ascending = after.ascending_vertices }

    each : (q : PatternGraph) → IsPattern q → (gained q g h ≡ sole_maps q h id) × (lost q g h ≡ [])
    each q is = (gained_is id g h gone q is (λ more. (added_nothing limits q g h id labels is more before ok).0), loses_none limits q g h (AddVertex id labels) tt ok)

pub vertex_losses : (limits : Limits) (g h : Graph) (id : ℕ) (patterns seen : List PatternGraph) (deltas : List Delta) → IsGraph g → apply limits g (DropVertex id) ≡ Ok h → patterns ≡ seen
    → ArePatterns patterns → AreReordered (deltas_of (sole_loss g id) 0 patterns) deltas → AreReordered (change_deltas 0 g h seen) deltas
vertex_losses limits g h id patterns seen deltas before ok same are all =
    subst (λ qs. AreReordered (change_deltas 0 g h qs) deltas) same
    (subst (λ l. AreReordered l deltas) (sym (sole_losses g h id each 0 patterns are)) all)
  where
    apart : IsVertexApart id g h
    apart = vertex_went limits g h id ok

    gone : IsGone id h g
    gone = record {
      absent = not-true (has_vertex h id) (sym apart.moved ∙ (vertex_dropped limits g h id ok).there);
      others = λ labels v other. sym (apart.others labels v other);
      ascending = before.ascending_vertices;
    }

    each : (q : PatternGraph) → IsPattern q → (gained q g h ≡ []) × (lost q g h ≡ sole_maps q g id)
    each q is = (gains_none limits q g h (DropVertex id) tt ok, gained_is id h g gone q is (λ more. (dropped_nothing limits q g h id is more ok).1))
