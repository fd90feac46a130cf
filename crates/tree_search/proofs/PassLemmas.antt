-- An id that an embedding gives passes the tests, so none that fails one leads to an embedding.
use Rattle.std.proofs.Common.{◌≡◌, ℕ, zero, suc, ◌<◌, true, false, not, ◌==◌, nat_eq, List, [], ◌∷◌, length, get_or, slice_index, Option, Some, None, inl, refl, sym, ap, ◌∙◌, subst, arith}
use Rattle.std.specs.List.{list_any}
use Rattle.std.proofs.lemmas.Bool.{and_parts, and_from, or_parts, or_from, or_right, not-true, not_from_false, eqb-true, eqb-false, ne_eqb, both_ways}
use Rattle.std.proofs.lemmas.Grind.{get_or-set_at, get_or_default_zero}
use Rattle.std.proofs.lemmas.List.{length-set}
use Rattle.std.proofs.lemmas.List.Sums.{list_all-from_AllPass}
use Rattle.flux_model.specs.Embedding.{image, is_embedding, keeps_mode}
use Rattle.flux_model.specs.Graph.{Graph, has_triple}
use Rattle.flux_model.specs.Ordered.{are_distinct_by}
use Rattle.flux_model.specs.Partial.{id_of, with_id, stands_between, stands_where_given, has_end, edge_joins, joins, same_id, is_free}
use Rattle.flux_model.specs.Pattern.{PatternGraph, vertex_count}
use Rattle.flux_model.specs.States.{joined, is_explicit}
use Rattle.flux_model.specs.Tree.{QueryTree, edge_at, non_tree, BelongsTo}
use Rattle.flux_model.specs.declared.pattern.Mode.{Mode}
use Rattle.flux_model.specs.declared.pattern.Mode.TheVariants.{Hom, Iso}
use Rattle.flux_model.specs.declared.pattern.PatternEdge.{PatternEdge}
use Rattle.flux_model.specs.Members.{In}
use Rattle.flux_model.proofs.MemberLemmas.{filter_in}
use Rattle.nontree_test.proofs.NonTreeLemmas.{non_tree_within}
use Rattle.tree_search.specs.Aim.{aimed, keeps_aim}
use Rattle.tree_search.specs.AimedMembers.{members_at, may_take}
use Rattle.tree_search.specs.Given.{may_have}
use Rattle.tree_search.specs.Members.{agrees, goes_on}
use Rattle.tree_search.specs.declared.aim.Aim.{Aim}
use Rattle.tree_search.proofs.AimLemmas.{aimed_embedding, given_keeps}
use Rattle.tree_search.proofs.MemberLemmas.{given_id}
use Rattle.tree_search.proofs.EmbeddingLemmas.{as_long, embedding_of, edge_has, mode_kept}
use Rattle.tree_search.proofs.ChosenLemmas.{explicit_chosen}

-- a list without an element is empty
pub nothing : {X : Type 0} (xs : List X) → ((x : X) → In xs x → ⊥) → xs ≡ []
nothing [] h = refl
nothing (x ∷ xs) h = absurd (h x (inl refl))

-- what goes on is an embedding, and has the ids
pub member : (q : PatternGraph) (g : Graph) (aim : Aim) (p : List (Option ℕ)) (m : List ℕ) → In (members_at q g aim p) m → (is_embedding q g m ≡ true) × (goes_on p m ≡ true)
member q g aim p m i = let r = filter_in (goes_on p) (aimed q g aim) m i in (embedding_of q g m (aimed_embedding q g aim m r.0), r.1)

-- ---- the triples under the ids of an embedding stand

stands_by : (g : Graph) (label : List ℕ) (a b : Option ℕ) (x y : ℕ) → ((z : ℕ) → a ≡ Some z → x ≡ z) → ((z : ℕ) → b ≡ Some z → y ≡ z) → has_triple g (record { src = x; label = label; dst = y }) ≡ true → stands_between g label a b ≡ true
stands_by g label None b x y f h stands = refl
stands_by g label (Some s) None x y f h stands = refl
stands_by g label (Some s) (Some d) x y f h stands = (λ i. has_triple g (record { src = sym (f s refl) i; label = label; dst = sym (h d refl) i })) ∙ stands

-- where both ends are given, an edge of an embedding has its triple
pub member_stands : (g : Graph) (p : List (Option ℕ)) (m : List ℕ) (e : PatternEdge) → goes_on p m ≡ true → has_triple g (image m e) ≡ true → stands_where_given g p e ≡ true
member_stands g p m e goes stands =
    stands_by g e.label (id_of p e.tail) (id_of p e.head) (slice_index m e.tail) (slice_index m e.head) (λ z. given_id p m e.tail z goes) (λ z. given_id p m e.head z goes) stands

-- ---- an id that stands at a place of distinct ids

absent_at : (m : List ℕ) (y x w : ℕ) → list_any (nat_eq y) m ≡ false → w < length m → slice_index m w ≡ x → nat_eq x y ≡ false
absent_at [] y x w none h e = absurd (omega arith)
absent_at (z ∷ m) y x zero none h e = ne_eqb x y (λ same. eqb-false y z (or_parts (nat_eq y z) (list_any (nat_eq y) m) none).0 (sym same ∙ sym e))
absent_at (z ∷ m) y x (suc w) none h e = absent_at m y x w (or_parts (nat_eq y z) (list_any (nat_eq y) m) none).1 (omega arith) e

absent_given : (p : List (Option ℕ)) (m : List ℕ) (x : ℕ) → goes_on p m ≡ true → list_any (nat_eq x) m ≡ false → list_any (same_id (Some x)) p ≡ false
absent_given [] m x goes none = refl
absent_given (o ∷ p) [] x goes none = absurd (let bad : false ≡ true = goes in cc)
absent_given (o ∷ p) (y ∷ m) x goes none =
    let two = and_parts (agrees o y) (goes_on p m) goes in
    let apart = or_parts (nat_eq x y) (list_any (nat_eq x) m) none in
    or_from (same_id (Some x) o) (list_any (same_id (Some x)) p) (here o two.0 apart.0) (absent_given p m x two.1 apart.1)
  where
    here : (o : Option ℕ) → agrees o y ≡ true → nat_eq x y ≡ false → same_id (Some x) o ≡ false
    here None a b = refl
    here (Some z) a b = ne_eqb x z (λ same. eqb-false x y b (same ∙ eqb-true z y a))

free_before : (p : List (Option ℕ)) (m : List ℕ) (w x : ℕ) → w < length p → id_of p w ≡ None → goes_on (with_id p w x) m ≡ true → are_distinct_by nat_eq m ≡ true → list_any (same_id (Some x)) p ≡ false
free_before [] m w x h none goes distinct = refl
free_before (o ∷ p) [] zero x h none goes distinct = absurd (let bad : false ≡ true = goes in cc)
free_before (o ∷ p) [] (suc w) x h none goes distinct = absurd (let bad : false ≡ true = goes in cc)
free_before (o ∷ p) (y ∷ m) zero x h none goes distinct =
    let two = and_parts (x == y) (goes_on p m) goes in
    let rest = and_parts (not (list_any (nat_eq y) m)) (are_distinct_by nat_eq m) distinct in
    let same : x ≡ y = eqb-true x y two.0 in
    or_from (same_id (Some x) o) (list_any (same_id (Some x)) p) (ap (same_id (Some x)) none) (absent_given p m x two.1 (ap (λ z. list_any (nat_eq z) m) same ∙ not-true _ rest.0))
free_before (o ∷ p) (y ∷ m) (suc w) x h none goes distinct =
    let two = and_parts (agrees o y) (goes_on (with_id p w x) m) goes in
    let rest = and_parts (not (list_any (nat_eq y) m)) (are_distinct_by nat_eq m) distinct in
    let given : slice_index m w ≡ x = given_id (with_id p w x) m w x two.1 (get_or-set_at p w w (Some x) None refl (omega arith)) in
    or_from (same_id (Some x) o) (list_any (same_id (Some x)) p) (here o two.0 (absent_at m y x w (not-true _ rest.0) (inside p m (omega arith) two.1) given)) (free_before p m w x (omega arith) none two.1 rest.1)
  where
    here : (o : Option ℕ) → agrees o y ≡ true → nat_eq x y ≡ false → same_id (Some x) o ≡ false
    here None a b = refl
    here (Some z) a b = ne_eqb x z (λ same. eqb-false x y b (same ∙ eqb-true z y a))

    inside : (p : List (Option ℕ)) (m : List ℕ) → w < length p → goes_on (with_id p w x) m ≡ true → w < length m
    inside p m h goes = omega (arith, as_long agrees (with_id p w x) m goes, length-set p w (Some x))

-- ---- an id that an embedding gives

module _ (q : PatternGraph) (t : QueryTree) (g : Graph) (belongs : BelongsTo q t) (p : List (Option ℕ)) (w x : ℕ)
    (places : length p ≡ vertex_count q) (inside : w < length p) (none : id_of p w ≡ None) where
  module _ (m : List ℕ) (is : is_embedding q g m ≡ true) (goes : goes_on (with_id p w x) m ≡ true) where
    here : slice_index m w ≡ x
    here = given_id (with_id p w x) m w x goes (get_or-set_at p w w (Some x) None refl inside)

    free_by : (mode : Mode) → keeps_mode mode m ≡ true → is_free mode p x ≡ true
    free_by Hom kept = refl
    free_by Iso kept = not_from_false _ (free_before p m w x inside none goes kept)

    joins_by : joins q t g p w x ≡ true
    joins_by = list_all-from_AllPass (λ i. edge_joins g p w x (edge_at q i)) (non_tree t) (λ k d h.
        let i = get_or (non_tree t) k d in
        let within : i < length q.edges = omega (arith, non_tree_within q t belongs k h, get_or_default_zero (non_tree t) k d h) in
        or_right (not (has_end w (edge_at q i))) _ (member_stands g (with_id p w x) m (edge_at q i) goes (edge_has q g m is i within)))

    -- the id that it gives passes the tests
    pub given_may_have : may_have q t g p w x ≡ true
    given_may_have =
        and_from _ _ (and_from (is_explicit (joined q t g) w x) (is_free q.mode p x)
        (subst (λ z. is_explicit (joined q t g) w z ≡ true) here (explicit_chosen q t g belongs m is w (omega (arith, places))))
        (free_by q.mode (mode_kept q g m is)))
        joins_by

  -- what fails a test leads nowhere
  pub dead_end : (aim : Aim) → may_take q t g aim p w x ≡ false → members_at q g aim (with_id p w x) ≡ []
  dead_end aim fails = nothing (members_at q g aim (with_id p w x)) (λ m i.
      let r = member q g aim (with_id p w x) m i in
      let keeps = given_keeps q p w x inside g aim m (filter_in (goes_on (with_id p w x)) (aimed q g aim) m i).0 r.1 in
      let bad = and_from (keeps_aim q aim p w x) (may_have q t g p w x) keeps (given_may_have m r.0 r.1) in
      both_ways (may_take q t g aim p w x) fails bad)
