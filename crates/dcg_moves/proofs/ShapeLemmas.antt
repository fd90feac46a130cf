-- A tree that belongs to a pattern is the shape of its layers, whatever triples its edges see.
use Rattle.std.proofs.Common.{◌≡◌, ℕ, zero, suc, ◌+◌, ◌-◌, ◌<◌, ◌≤◌, ◌^◌, Bool, true, false, ◌&&◌, not, cond, ◌==◌, nat_lt, List, [], ◌∷◌, length, refl, sym, ap, ◌∙◌, arith}
use Rattle.std.specs.Prelude.{Option, None, Some, filter}
use Rattle.std.specs.List.{list_any, list_all, range_with_len, filter_map, slice_get, slice_index}
use Rattle.std.specs.Str.{bytes_eq}
use Rattle.std.proofs.lemmas.Bool.{and_parts, and_from, ne_eqb, ltb-true}
use Rattle.std.proofs.lemmas.Option.{slice_get-get_or}
use Rattle.flux_model.specs.Graph.{Graph}
use Rattle.flux_model.specs.Pattern.{PatternGraph, vertex_count, fits}
use Rattle.flux_model.specs.Tree.{QueryTree, link_at, edge_at, is_child, children, IsTree, BelongsTo}
use Rattle.flux_model.specs.declared.tree.TreeLink.{TreeLink}
use Rattle.flux_model.specs.declared.graph.Triple.{Triple}
use Rattle.flux_model.specs.States.{Joint, Joined, joint_of, joined_by}
use Rattle.query_tree.proofs.CallerLemmas.{linked, link_within, is_child_of, child_once, child_at, child_link}
use Rattle.dcg_moves.proofs.LinkEndLemmas.{ends_down, ends_up}
use Rattle.dcg_moves.specs.Layers as layers
use Rattle.flux_model.proofs.MemberLemmas.{in_filter, in_range, place_of}
use Rattle.dcg_moves.proofs.JoinedLemmas.{JoinsFitting, children_same, tree}
use Rattle.dcg_moves.proofs.PlaceLemmas.{place_stands}
use Rattle.dcg_moves.specs.Layers.{Layers, layers_of}
use Rattle.dcg_moves.specs.Shape.{IsShapeOf, all_apart, number_in}

-- ---- joints join what fits

all_kept : {X Y : Type 0} (f : X → Option Y) (p : Y → Bool) → ((x : X) (y : Y) → f x ≡ Some y → p y ≡ true) → (xs : List X) → list_all p (filter_map f xs) ≡ true
all_kept f p h [] = refl
all_kept {X} {Y} f p h (x ∷ xs) = by (f x) refl (all_kept f p h xs)
  where
    by : (o : Option Y) → f x ≡ o → list_all p (filter_map f xs) ≡ true → list_all p (filter_map f (x ∷ xs)) ≡ true
    by None e rest = rw e rest
    by (Some y) e rest = rw (e, h x y e) rest

kept_some : {Y : Type 0} (b : Bool) (x y : Y) → cond b (Some x) None ≡ Some y → (b ≡ true) × (x ≡ y)
kept_some true x y e = (refl, cc)
kept_some false x y e = absurd (let bad : None ≡ Some y = e in cc)

module _ (q : PatternGraph) (t : QueryTree) (g : Graph) (belongs : BelongsTo q t) where
  joint_joins : (u : ℕ) (l : TreeLink) (link : link_at t u ≡ Some l) (s : Triple) (e : Joint) → joint_of q t g u s ≡ Some e → (fits q u g e.below && fits q l.parent g e.above) ≡ true
  joint_joins u l link s e h = by ((edge_at q l.edge).head == u) refl
    where
      test : Bool
      test = bytes_eq (edge_at q l.edge).label s.label && fits q (edge_at q l.edge).tail g s.src && fits q (edge_at q l.edge).head g s.dst

      by : (b : Bool) → ((edge_at q l.edge).head == u) ≡ b → (fits q u g e.below && fits q l.parent g e.above) ≡ true
      by true down =
          let kept = kept_some test (record { above = s.src; below = s.dst }) e (rw (link, down) at h) in
          let two = and_parts _ _ kept.0 in
          let ends = ends_down q t belongs u l link down in
          and_from _ _ ((λ i. fits q (sym ends.1 i) g (sym kept.1 i).below) ∙ two.1) ((λ i. fits q (sym ends.0 i) g (sym kept.1 i).above) ∙ (and_parts _ _ two.0).1)
      by false up =
          let kept = kept_some test (record { above = s.dst; below = s.src }) e (rw (link, up) at h) in
          let two = and_parts _ _ kept.0 in
          let ends = ends_up q t belongs u l link up in
          and_from _ _ ((λ i. fits q (sym ends.0 i) g (sym kept.1 i).below) ∙ (and_parts _ _ two.0).1) ((λ i. fits q (sym ends.1 i) g (sym kept.1 i).above) ∙ two.1)

  -- joints join what fits
  pub joins_fitting : (seen : ℕ → List Triple) → JoinsFitting (joined_by q t g seen)
  joins_fitting seen = record {
    inside = λ u v le. past u v le (nat_lt u (vertex_count q)) refl;
    joins = λ u l link. all_kept (joint_of q t g u) (λ e. fits q u g e.below && fits q l.parent g e.above) (λ s e h. joint_joins u l link s e h) (seen u);
  }
    where
      past : (u v : ℕ) → length t.links ≤ u → (b : Bool) → nat_lt u (vertex_count q) ≡ b → fits q u g v ≡ false
      past u v le true e = absurd (omega (arith, ltb-true u (vertex_count q) e, belongs.vertices, le))
      past u v le false e = rw e refl

-- ---- the places of children

none_lower : (p : ℕ → Bool) (x a n : ℕ) → x < a → list_any (λ y. y == x) (filter p (range_with_len a n)) ≡ false
none_lower p x a zero h = refl
none_lower p x a (suc n) h = by (p a) (none_lower p x (a + 1) n (omega (arith, h)))
  where
    by : (b : Bool) → list_any (λ y. y == x) (filter p (range_with_len (a + 1) n)) ≡ false → list_any (λ y. y == x) (cond b (a ∷ filter p (range_with_len (a + 1) n)) (filter p (range_with_len (a + 1) n))) ≡ false
    by true rest = rw (ne_eqb a x (λ e. omega (arith, e, h))) rest
    by false rest = rest

numbers_apart : (p : ℕ → Bool) (a n : ℕ) → all_apart (filter p (range_with_len a n)) ≡ true
numbers_apart p a zero = refl
numbers_apart p a (suc n) = by (p a) (numbers_apart p (a + 1) n)
  where
    by : (b : Bool) → all_apart (filter p (range_with_len (a + 1) n)) ≡ true → all_apart (cond b (a ∷ filter p (range_with_len (a + 1) n)) (filter p (range_with_len (a + 1) n))) ≡ true
    by true rest = rw (none_lower p a (a + 1) n (omega arith)) rest
    by false rest = rest

-- ---- the shape

module _ (j : Joined) (is : IsTree j.tree) (fitting : JoinsFitting j) where
  stands_below : (u : ℕ) (l : TreeLink) → link_at j.tree u ≡ Some l → slice_get (children j.tree l.parent) (number_in j.tree u) ≡ Some u
  stands_below u l e =
      let low = link_within j.tree u l e in
      let k = place_of (children j.tree l.parent) u (in_filter (is_child j.tree l.parent) (range_with_len 0 (length j.tree.links)) u (in_range 0 (length j.tree.links) u (omega arith) (omega (arith, low))) (is_child_of j.tree u l e)) in
      rw e (place_stands u (children j.tree l.parent) k.0 k.1)

  -- so the tree is the shape of the layers
  pub shape_of : ((u : ℕ) → length (j.joints u) < 2 ^ 32 - 1) → IsShapeOf (layers_of j) j.tree
  shape_of few = record {
    root = refl;
    count = refl;
    parent = λ u lt ne. let k = linked j.tree is u lt ne in rw k.1 refl;
    number = λ u lt ne. let k = linked j.tree is u lt ne in
        ap (λ cs. slice_get cs (number_in j.tree u)) (children_same j is fitting ((layers_of j).parent u) ∙ ap (children j.tree) (let same : (layers_of j).parent u ≡ k.0.parent = rw k.1 refl in same)) ∙ stands_below u k.0 k.1;
    numbered = λ u i lt. numbered u i lt;
    kids = λ u. sym (children_same j is fitting u);
    apart = λ u. numbers_apart (λ c. not (c == j.tree.root) && ((layers_of j).parent c == u)) 0 (length j.tree.links);
    tree = tree j is fitting;
    small = few;
  }
    where
      numbered : (u i : ℕ) → i < length (layers.children (layers_of j) u) → number_in j.tree (slice_index (layers.children (layers_of j) u) i) ≡ i
      numbered u i lt =
          let c = slice_index (layers.children (layers_of j) u) i in
          let here : slice_get (children j.tree u) i ≡ Some c = ap (λ cs. slice_get cs i) (sym (children_same j is fitting u)) ∙ slice_get-get_or (layers.children (layers_of j) u) i 0 lt in
          let child = child_at j.tree u i c here in
          let link = child_link j.tree u c child.1 in
          let there : slice_get (children j.tree u) (number_in j.tree c) ≡ Some c = ap (λ p. slice_get (children j.tree p) (number_in j.tree c)) (sym link.2) ∙ stands_below c link.0 link.1 in
          child_once j.tree u (number_in j.tree c) i c there here
