-- One vertex of the order after another is given an id from the row of its anchor's.
use Rattle.std.proofs.Common.{◌≡◌, ◌≢◌, ℕ, zero, suc, ◌<◌, ◌≤◌, Bool, true, false, cond, ◌&&◌, ◌||◌, ◌==◌, nat_eq, List, [], ◌∷◌, length, replicate, slice_index, Option, Some, None, inl, inr, refl, sym, ap, ◌∙◌, subst, arith}
use Rattle.std.specs.Prelude.{◌⊎◌, IsPermutation, slice_get, slice_set}
use Rattle.std.specs.List.{IsDistinct}
use Rattle.std.proofs.lemmas.Bool.{and_parts, or_cases, or_parts, or_right, eqb-true, eqb-false, eq-eqb, ne_eqb, cases_eq, cases_lt}
use Rattle.std.proofs.lemmas.Grind.{get_or-set_at}
use Rattle.std.proofs.lemmas.List.{length-set, get_or-set_other, length-replicate}
use Rattle.std.proofs.lemmas.Option.{slice_get-get_or}
use Rattle.flux_model.specs.Embedding.{is_embedding}
use Rattle.flux_model.specs.Exact.{StateRows}
use Rattle.flux_model.specs.Graph.{Graph, has_triple, has_vertex}
use Rattle.flux_model.specs.Order.{SearchOrder, are_neighbours}
use Rattle.flux_model.specs.Partial.{id_of, with_id, stands_between, stands_where_given, has_end, joins, is_free}
use Rattle.flux_model.specs.Pattern.{PatternGraph, vertex_count}
use Rattle.flux_model.specs.States.{joined, is_explicit, reaches_within}
use Rattle.flux_model.specs.Tree.{QueryTree, edge_at, link_at, is_child, BelongsTo}
use Rattle.flux_model.specs.declared.pattern.PatternEdge.{PatternEdge}
use Rattle.flux_model.specs.declared.tree.TreeLink.{TreeLink}
use Rattle.flux_model.specs.Members.{In}
use Rattle.match_order.specs.Whole.{vertices}
use Rattle.match_order.proofs.CallerLemmas.{HangsFrom, vertex_within, place_of_vertex, vertices_apart, anchor_joined, child_hangs}
use Rattle.match_order.proofs.LinkLemmas.{anchor_is}
use Rattle.nontree_test.proofs.CallerLemmas.{keeps_mode_at_start, keeps_non_tree_at_start, keeps_mode_with, keeps_non_tree_with}
use Rattle.query_tree.specs.Depth.{depth}
use Rattle.query_tree.proofs.CallerLemmas.{link_within, parent_within, is_child_of, depth-below}
use Rattle.graph_rows.specs.Directions.{triple_of, direction_to}
use Rattle.graph_rows.specs.declared.direction.Direction.{Direction}
use Rattle.graph_rows.specs.declared.direction.Direction.TheVariants.{Out, In as Inward}
use Rattle.tree_search.specs.Given.{IsReady, IsGiven, IsRowAt, nth_vertex, nth_anchor, may_have, edge_of, edge_between}
use Rattle.tree_search.specs.AimedMembers.{members_at, members_over_at}
use Rattle.tree_search.specs.Members.{goes_on, GrewUpTo}
use Rattle.tree_search.specs.declared.aim.Aim.{Aim}
use Rattle.tree_search.proofs.GrowthLemmas.{grew_none}
use Rattle.tree_search.proofs.MemberLemmas.{given_id, members_split}
use Rattle.tree_search.proofs.EmbeddingLemmas.{edge_has, vertex_of_fits}
use Rattle.tree_search.proofs.ChosenLemmas.{ends_of_link, explicit_chosen}

-- ---- an id more

-- the vertex that is given an id has it
pub id_here : (p : List (Option ℕ)) (w x : ℕ) → w < length p → id_of (with_id p w x) w ≡ Some x
id_here p w x h = get_or-set_at p w w (Some x) None refl h

-- the others have what they had
pub id_there : (p : List (Option ℕ)) (w x u : ℕ) → u ≢ w → id_of (with_id p w x) u ≡ id_of p u
id_there p w x u other = get_or-set_other p w u (Some x) None other

-- taken away again
pub cleared : (p : List (Option ℕ)) (w x : ℕ) → w < length p → id_of p w ≡ None → (r : List (Option ℕ)) → r ≡ slice_set (with_id p w x) w None → r ≡ p
cleared p w x h none r e = e ∙ back p w x h none
  where
    back : (p : List (Option ℕ)) (w x : ℕ) → w < length p → id_of p w ≡ None → slice_set (with_id p w x) w None ≡ p
    back [] w x h none = absurd (omega arith)
    back (o ∷ p) zero x h none = ap (λ z. z ∷ p) (sym none)
    back (o ∷ p) (suc w) x h none = ap (λ l. o ∷ l) (back p w x (omega arith) none)

-- ---- the edge between a vertex and its anchor

-- the ends of an edge in either direction
abbrev Joins : PatternEdge → ℕ → ℕ → Type 0
Joins e w a = ((e.head ≡ w) × (e.tail ≡ a)) ⊎ ((e.head ≡ a) × (e.tail ≡ w))

turned : (e : PatternEdge) (w a : ℕ) → Joins e w a → Joins e a w
turned e w a (inl j) = inr j
turned e w a (inr j) = inl j

-- the triple that an id of a vertex makes with the anchor's
triple_at : (e : PatternEdge) (w a x v : ℕ) → w ≢ a → Joins e w a → (f : ℕ → ℕ) → f w ≡ x → f a ≡ v
    → triple_of (direction_to e w) v e.label x ≡ record { src = f e.tail; label = e.label; dst = f e.head }
triple_at e w a x v other (inl (h, k)) f fw fa =
    let out : direction_to e w ≡ Out = ap (λ b. cond b Out Inward) (eq-eqb e.head w h) in
    (λ i. triple_of (out i) v e.label x) ∙ (λ i. record { src = (sym fa ∙ ap f (sym k)) i; label = e.label; dst = (sym fw ∙ ap f (sym h)) i })
triple_at e w a x v other (inr (h, k)) f fw fa =
    let inward : direction_to e w ≡ Inward = ap (λ b. cond b Out Inward) (ne_eqb e.head w (λ same. other (sym same ∙ h))) in
    (λ i. triple_of (inward i) v e.label x) ∙ (λ i. record { src = (sym fw ∙ ap f (sym k)) i; label = e.label; dst = (sym fa ∙ ap f (sym h)) i })

module _ (q : PatternGraph) (t : QueryTree) (belongs : BelongsTo q t) where
  apart : (u : ℕ) (l : TreeLink) → link_at t u ≡ Some l → u ≢ l.parent
  apart u l e same = omega (arith, depth-below t belongs.tree u l e, ap (depth t) same)

  -- what hangs from w is not what w hangs from
  not_both : (w a : ℕ) → HangsFrom t w a → HangsFrom t a w → ⊥
  not_both w a (l, e, same) (m, f, back) = omega (arith, depth-below t belongs.tree w l e, ap (depth t) same, depth-below t belongs.tree a m f, ap (depth t) back)

  -- the number of the edge, from either end
  pub number_down : (w a : ℕ) (l : TreeLink) → link_at t w ≡ Some l → l.parent ≡ a → edge_between t w a ≡ l.edge
  number_down w a l e same =
      let child : is_child t a w ≡ true = ap (λ b. is_child t b w) (sym same) ∙ is_child_of t w l e in
      ap (λ b. cond b (edge_of (link_at t w)) (edge_of (link_at t a))) child ∙ ap edge_of e

  number_up : (w a : ℕ) (l : TreeLink) → link_at t a ≡ Some l → l.parent ≡ w → edge_between t w a ≡ l.edge
  number_up w a l e same = by (is_child t a w) refl
    where
      by : (b : Bool) → is_child t a w ≡ b → edge_between t w a ≡ l.edge
      by true child = absurd (not_both w a (child_hangs t a w child) (l, e, same))
      by false child = ap (λ b. cond b (edge_of (link_at t w)) (edge_of (link_at t a))) child ∙ ap edge_of e

  -- of two vertices one of which hangs from the other
  module _ (w a : ℕ) (joined : HangsFrom t a w ⊎ HangsFrom t w a) where
    abbrev between : PatternEdge
    between = edge_at q (edge_between t w a)

    -- two neighbours of the tree are not the same
    pub tie_apart : w ≢ a
    tie_apart = by joined
      where
        by : HangsFrom t a w ⊎ HangsFrom t w a → w ≢ a
        by (inl (l, e, same)) equal = apart a l e (sym equal ∙ sym same)
        by (inr (l, e, same)) equal = apart w l e (equal ∙ sym same)

    -- the number of the edge between them is one of an edge
    pub tie_number : edge_between t w a < length q.edges
    tie_number = by joined
      where
        by : HangsFrom t a w ⊎ HangsFrom t w a → edge_between t w a < length q.edges
        by (inl (l, e, same)) = omega (arith, number_up w a l e same, (belongs.links a l e).edge)
        by (inr (l, e, same)) = omega (arith, number_down w a l e same, (belongs.links w l e).edge)

    -- the edge joins the two
    pub tie_joins : Joins between w a
    tie_joins = by joined
      where
        by : HangsFrom t a w ⊎ HangsFrom t w a → Joins between w a
        by (inl (l, e, same)) =
            subst (λ i. Joins (edge_at q i) w a) (sym (number_up w a l e same))
            (turned (edge_at q l.edge) a w (subst (λ b. Joins (edge_at q l.edge) a b) same (ends_of_link (edge_at q l.edge) a l.parent (belongs.links a l e).between)))
        by (inr (l, e, same)) =
            subst (λ i. Joins (edge_at q i) w a) (sym (number_down w a l e same))
            (subst (λ b. Joins (edge_at q l.edge) w b) same (ends_of_link (edge_at q l.edge) w l.parent (belongs.links w l e).between))

-- ---- an edge under the ids

none_between : (g : Graph) (label : List ℕ) (o : Option ℕ) → stands_between g label o None ≡ true
none_between g label None = refl
none_between g label (Some x) = refl

-- it stands where an end has no id, or where the triple of the row stands
module _ (g : Graph) (p : List (Option ℕ)) (e : PatternEdge) (w b : ℕ) (ends : Joins e w b) where
  loose : id_of p b ≡ None → stands_where_given g p e ≡ true
  loose none = by ends
    where
      by : Joins e w b → stands_where_given g p e ≡ true
      by (inl (h, k)) = ap (λ o. stands_between g e.label o (id_of p e.head)) (ap (id_of p) k ∙ none)
      by (inr (h, k)) = ap (λ o. stands_between g e.label (id_of p e.tail) o) (ap (id_of p) h ∙ none) ∙ none_between g e.label (id_of p e.tail)

  firm : (x v : ℕ) → w ≢ b → id_of p w ≡ Some x → id_of p b ≡ Some v → has_triple g (triple_of (direction_to e w) v e.label x) ≡ true → stands_where_given g p e ≡ true
  firm x v other here there stands =
      (λ i. stands_between g e.label ((given ends i).0) ((given ends i).1))
      ∙ ap (has_triple g) (sym (triple_at e w b x v other ends f fw fb))
      ∙ stands
    where
      f : ℕ → ℕ
      f u = cond (u == w) x v

      fw : f w ≡ x
      fw = ap (λ c. cond c x v) (eq-eqb w w refl)

      fb : f b ≡ v
      fb = ap (λ c. cond c x v) (ne_eqb b w (λ same. other (sym same)))

      given : Joins e w b → ◌≡◌ {A = Option ℕ × Option ℕ} (id_of p e.tail, id_of p e.head) (Some (f e.tail), Some (f e.head))
      given (inl (h, k)) = λ i. ((ap (id_of p) k ∙ there ∙ ap Some (sym (ap f k ∙ fb))) i, (ap (id_of p) h ∙ here ∙ ap Some (sym (ap f h ∙ fw))) i)
      given (inr (h, k)) = λ i. ((ap (id_of p) k ∙ here ∙ ap Some (sym (ap f k ∙ fw))) i, (ap (id_of p) h ∙ there ∙ ap Some (sym (ap f h ∙ fb))) i)

-- the other vertex of a link
record Other (e : PatternEdge) (u r w : ℕ) : Type 0 where
  pub vertex : ℕ
  pub joins : Joins e w vertex
  pub link : ((u ≡ w) × (r ≡ vertex)) ⊎ ((u ≡ vertex) × (r ≡ w))

other_end_of : (e : PatternEdge) (u r w : ℕ) → Joins e u r → has_end w e ≡ true → Other e u r w
other_end_of e u r w ends has = by ends (or_cases (e.tail == w) (e.head == w) has)
  where
    by : Joins e u r → ((e.tail == w) ≡ true) ⊎ ((e.head == w) ≡ true) → Other e u r w
    by (inl (h, k)) (inl c) = let same = eqb-true e.tail w c in record { vertex = u; joins = inr (h, same); link = inr (refl, sym k ∙ same) }
    by (inl (h, k)) (inr c) = let same = eqb-true e.head w c in record { vertex = r; joins = inl (same, k); link = inl (sym h ∙ same, refl) }
    by (inr (h, k)) (inl c) = let same = eqb-true e.tail w c in record { vertex = r; joins = inr (h, same); link = inl (sym k ∙ same, refl) }
    by (inr (h, k)) (inr c) = let same = eqb-true e.head w c in record { vertex = u; joins = inl (same, k); link = inr (refl, sym h ∙ same) }

-- ---- given

-- at first no vertex has an id
none_of : (n u : ℕ) → id_of (replicate n None) u ≡ None
none_of zero u = refl
none_of (suc n) zero = refl
none_of (suc n) (suc u) = none_of n u

-- at the start no vertex has an id
pub given_none : (q : PatternGraph) (t : QueryTree) (g : Graph) (o : SearchOrder) → IsGiven q t g o 0 (replicate (vertex_count q) None)
given_none q t g o = record {
  places = length-replicate (vertex_count q) None;
  given = λ j h. absurd (omega arith);
  later = λ j low high. none_of (vertex_count q) (nth_vertex o j);
  explicit = λ u x e. absurd (let none = none_of (vertex_count q) u in let clash : Some x ≡ None = sym e ∙ none in cc);
  links = λ u l e. ap (λ r. stands_between g (edge_at q l.edge).label r (id_of (replicate (vertex_count q) None) (edge_at q l.edge).head)) (none_of (vertex_count q) (edge_at q l.edge).tail);
  non_tree = keeps_non_tree_at_start q t g (vertex_count q);
  mode = keeps_mode_at_start q.mode (vertex_count q);
}

module _ (q : PatternGraph) (t : QueryTree) (d : StateRows) (g : Graph) (o : SearchOrder) (ready : IsReady q t d g o) (k : ℕ) (few : k < length (vertices o)) (p : List (Option ℕ)) (known : IsGiven q t g o k p) where
  abbrev w : ℕ
  w = nth_vertex o k

  -- the next vertex is one of the pattern
  pub vertex_inside : w < length p
  vertex_inside = omega (arith, vertex_within t o ready.order k few, ready.belongs.vertices, known.places)

  -- it has no id yet
  pub vertex_free : id_of p w ≡ None
  vertex_free = known.later k (omega arith) few

  -- its place is there, and empty
  pub vertex_open : slice_get p w ≡ Some None
  vertex_open = slice_get-get_or p w None vertex_inside ∙ ap Some vertex_free

  -- with one vertex more, where the edges to it stand
  pub given_with : (x : ℕ) → may_have q t g p w x ≡ true
      → ((u : ℕ) (l : TreeLink) → link_at t u ≡ Some l → has_end w (edge_at q l.edge) ≡ true → stands_where_given g (with_id p w x) (edge_at q l.edge) ≡ true)
      → IsGiven q t g o (suc k) (with_id p w x)
  given_with x may stands = record {
    places = length-set p w (Some x) ∙ known.places;
    given = λ j h. given j h (cases_eq j k);
    later = λ j low high. id_there p w x (nth_vertex o j) (λ same. vertices_apart t o ready.order k j (omega arith) high (sym same)) ∙ known.later j (omega arith) high;
    explicit = λ u y e. explicit u y e (cases_eq u w);
    links = λ u l e. link u l e (has_end w (edge_at q l.edge)) refl;
    non_tree = keeps_non_tree_with q t g p w x two.1 known.non_tree;
    mode = keeps_mode_with q.mode p w x one.1 known.mode;
  }
    where
      two : (is_explicit (joined q t g) w x && is_free q.mode p x ≡ true) × (joins q t g p w x ≡ true)
      two = and_parts (is_explicit (joined q t g) w x && is_free q.mode p x) (joins q t g p w x) may

      one : (is_explicit (joined q t g) w x ≡ true) × (is_free q.mode p x ≡ true)
      one = and_parts (is_explicit (joined q t g) w x) (is_free q.mode p x) two.0

      given : (j : ℕ) → j < suc k → (j ≡ k) ⊎ (j ≡ k → ⊥) → (y : ℕ) × (id_of (with_id p w x) (nth_vertex o j) ≡ Some y)
      given j h (inl same) = (x, ap (λ i. id_of (with_id p w x) (nth_vertex o i)) same ∙ id_here p w x vertex_inside)
      given j h (inr other) =
          let old = known.given j (omega arith) in
          (old.0, id_there p w x (nth_vertex o j) (vertices_apart t o ready.order j k (omega arith) few) ∙ old.1)

      explicit : (u y : ℕ) → id_of (with_id p w x) u ≡ Some y → (u ≡ w) ⊎ (u ≡ w → ⊥) → is_explicit (joined q t g) u y ≡ true
      explicit u y e (inl same) =
          let have : Some x ≡ Some y = sym (ap (id_of (with_id p w x)) same ∙ id_here p w x vertex_inside) ∙ e in
          let id : x ≡ y = cc in
          (λ i. is_explicit (joined q t g) (same i) (sym id i)) ∙ one.0
      explicit u y e (inr other) = known.explicit u y (sym (id_there p w x u other) ∙ e)

      link : (u : ℕ) (l : TreeLink) → link_at t u ≡ Some l → (b : Bool) → has_end w (edge_at q l.edge) ≡ b → stands_where_given g (with_id p w x) (edge_at q l.edge) ≡ true
      link u l e true has = stands u l e has
      link u l e false has =
          let f = edge_at q l.edge in
          let neither = or_parts (f.tail == w) (f.head == w) has in
          (λ i. stands_between g f.label (id_there p w x f.tail (eqb-false f.tail w neither.0) i) (id_there p w x f.head (eqb-false f.head w neither.1) i))
          ∙ known.links u l e

  ends_at : (u : ℕ) (l : TreeLink) → link_at t u ≡ Some l → Joins (edge_at q l.edge) u l.parent
  ends_at u l e = ends_of_link (edge_at q l.edge) u l.parent (ready.belongs.links u l e).between

  -- a vertex beside it has an id only if it is the anchor
  near : (u : ℕ) (l : TreeLink) → link_at t u ≡ Some l → (b : ℕ) → ((u ≡ w) × (l.parent ≡ b)) ⊎ ((u ≡ b) × (l.parent ≡ w)) → HangsFrom t b w ⊎ HangsFrom t w b
  near u l e b (inl (h, j)) = inr (l, ap (link_at t) (sym h) ∙ e, j)
  near u l e b (inr (h, j)) = inl (l, ap (link_at t) (sym h) ∙ e, j)

  neighbours : (b : ℕ) → HangsFrom t b w ⊎ HangsFrom t w b → are_neighbours t w b ≡ true
  neighbours b (inl (l, e, same)) = ap (λ c. c || is_child t b w) (ap (λ a. is_child t a b) (sym same) ∙ is_child_of t b l e)
  neighbours b (inr (l, e, same)) = or_right (is_child t w b) (is_child t b w) (ap (λ a. is_child t a w) (sym same) ∙ is_child_of t w l e)

  inside_tree : (b : ℕ) → HangsFrom t b w ⊎ HangsFrom t w b → b < length t.links
  inside_tree b (inl (l, e, same)) = link_within t b l e
  inside_tree b (inr (l, e, same)) = omega (arith, parent_within t ready.belongs.tree w l e, same)

  -- ---- ids that are given, and those that embeddings give

  -- an id that is given is a vertex of the graph
  pub given_stands : (u v : ℕ) → id_of p u ≡ Some v → has_vertex g v ≡ true
  given_stands u v has =
      let is = known.explicit u v has in
      vertex_of_fits q g u v (fits_of (length t.links) (and_parts _ _ is).0)
    where
      fits_of : (n : ℕ) → reaches_within n (joined q t g) u v ≡ true → (joined q t g).fits u v ≡ true
      fits_of zero h = absurd (let bad : false ≡ true = h in cc)
      fits_of (suc n) h = (and_parts _ _ h).0

  -- the pair of the id that an embedding gives to the next vertex is explicit
  pub member_explicit : (m : List ℕ) → is_embedding q g m ≡ true → is_explicit (joined q t g) w (slice_index m w) ≡ true
  member_explicit m is = explicit_chosen q t g ready.belongs m is w (omega (arith, vertex_inside, known.places))

  -- the list has the id that each of those looked for with the given ids gives to it
  abbrev pub HasMembers : Aim → List ℕ → Type 0
  HasMembers aim xs = (m : List ℕ) → In (members_at q g aim p) m → In xs (slice_index m w)

  -- what goes on is split by the ids of a list that has them all
  pub members_listed : (aim : Aim) (xs : List ℕ) → IsDistinct nat_eq xs → HasMembers aim xs → IsPermutation (members_over_at q g aim p w xs) (members_at q g aim p)
  members_listed aim xs apart has = members_split q g aim p w vertex_inside vertex_free xs apart has

  -- before the first candidate all that goes on is to come
  pub candidates_start : (aim : Aim) (xs : List ℕ) → IsDistinct nat_eq xs → HasMembers aim xs → (old : List (List ℕ)) → GrewUpTo old old (members_over_at q g aim p w xs) (members_at q g aim p)
  candidates_start aim xs apart has old = grew_none old (members_over_at q g aim p w xs) (members_at q g aim p) (members_listed aim xs apart has)

  -- ---- the start

  -- with an id for the first vertex of the order, one is given
  pub given_first : k ≡ 0 → (x : ℕ) → may_have q t g p w x ≡ true → IsGiven q t g o (suc k) (with_id p w x)
  given_first first x may = given_with x may (λ u l e has.
      let other = other_end_of (edge_at q l.edge) u l.parent w (ends_at u l e) has in
      let tied = near u l e other.vertex other.link in
      let place = place_of_vertex t o ready.order other.vertex (inside_tree other.vertex tied) in
      let none : id_of p other.vertex ≡ None = ap (id_of p) (sym place.2) ∙ known.later place.0 (omega arith) place.1 in
      loose g (with_id p w x) (edge_at q l.edge) w other.vertex other.joins (id_there p w x other.vertex (λ same. tie_apart q t ready.belongs w other.vertex tied (sym same)) ∙ none))

  -- ---- the others

  module _ (some : 1 ≤ k) (v : ℕ) (direction : Direction) (label : List ℕ) (row : IsRowAt q t o k p v direction label) where
    abbrev a : ℕ
    a = nth_anchor o k

    abbrev edge : PatternEdge
    edge = edge_at q (edge_between t w a)

    tied : HangsFrom t a w ⊎ HangsFrom t w a
    tied = anchor_joined t o ready.order k some few

    row_triple : (x : ℕ) → triple_of direction v label x ≡ triple_of (direction_to edge w) v edge.label x
    row_triple x = λ i. triple_of (row.leads i) v (row.name i) x

    -- the anchor's id is a vertex of the graph
    pub anchor_stands : has_vertex g v ≡ true
    anchor_stands = given_stands a v row.anchor

    -- with an id to which the tree edge leads, one more is given
    pub given_next : (x : ℕ) → may_have q t g p w x ≡ true → has_triple g (triple_of direction v label x) ≡ true → IsGiven q t g o (suc k) (with_id p w x)
    given_next x may stands = given_with x may (λ u l e has. link u l e (other_end_of (edge_at q l.edge) u l.parent w (ends_at u l e) has))
      where
        -- where it has an id
        firmly : (u : ℕ) (l : TreeLink) (e : link_at t u ≡ Some l) (b : ℕ) → Joins (edge_at q l.edge) w b → ((u ≡ w) × (l.parent ≡ b)) ⊎ ((u ≡ b) × (l.parent ≡ w)) → b ≡ a → stands_where_given g (with_id p w x) (edge_at q l.edge) ≡ true
        firmly u l e b ends at same =
            let number : edge_between t w a ≡ l.edge = numbered at in
            let there : id_of (with_id p w x) b ≡ Some v = ap (id_of (with_id p w x)) same ∙ id_there p w x a (λ equal. tie_apart q t ready.belongs w a tied (sym equal)) ∙ row.anchor in
            let stands' : has_triple g (triple_of (direction_to (edge_at q l.edge) w) v (edge_at q l.edge).label x) ≡ true = (λ i. has_triple g (triple_of (direction_to (edge_at q (sym number i)) w) v (edge_at q (sym number i)).label x)) ∙ ap (has_triple g) (sym (row_triple x)) ∙ stands in
            firm g (with_id p w x) (edge_at q l.edge) w b ends x v (λ equal. tie_apart q t ready.belongs w a tied (equal ∙ same)) (id_here p w x vertex_inside) there stands'
          where
            numbered : ((u ≡ w) × (l.parent ≡ b)) ⊎ ((u ≡ b) × (l.parent ≡ w)) → edge_between t w a ≡ l.edge
            numbered (inl (h, j)) = number_down q t ready.belongs w a l (ap (link_at t) (sym h) ∙ e) (j ∙ same)
            numbered (inr (h, j)) = number_up q t ready.belongs w a l (ap (link_at t) (sym same ∙ sym h) ∙ e) j

        link : (u : ℕ) (l : TreeLink) (e : link_at t u ≡ Some l) → Other (edge_at q l.edge) u l.parent w → stands_where_given g (with_id p w x) (edge_at q l.edge) ≡ true
        link u l e other = by (cases_lt place.0 k)
          where
            near_by : HangsFrom t other.vertex w ⊎ HangsFrom t w other.vertex
            near_by = near u l e other.vertex other.link

            place : (j : ℕ) × (j < length (vertices o)) × (nth_vertex o j ≡ other.vertex)
            place = place_of_vertex t o ready.order other.vertex (inside_tree other.vertex near_by)

            by : (place.0 < k) ⊎ (k ≤ place.0) → stands_where_given g (with_id p w x) (edge_at q l.edge) ≡ true
            by (inl before) =
                let at : a ≡ nth_vertex o place.0 = anchor_is t ready.belongs.tree o ready.order k place.0 before few (ap (are_neighbours t w) place.2 ∙ neighbours other.vertex near_by) in
                firmly u l e other.vertex other.joins other.link (sym (at ∙ place.2))
            by (inr after) =
                let none : id_of p other.vertex ≡ None = ap (id_of p) (sym place.2) ∙ known.later place.0 after place.1 in
                loose g (with_id p w x) (edge_at q l.edge) w other.vertex other.joins (id_there p w x other.vertex (λ same. tie_apart q t ready.belongs w other.vertex near_by (sym same)) ∙ none)

    -- ---- none is lost

    -- an embedding's id is a candidate
    pub member_in_row : (m : List ℕ) → is_embedding q g m ≡ true → goes_on p m ≡ true → has_triple g (triple_of direction v label (slice_index m w)) ≡ true
    member_in_row m is goes =
        let number = tie_number q t ready.belongs w a tied in
        ap (has_triple g) (row_triple (slice_index m w) ∙ triple_at edge w a (slice_index m w) v (tie_apart q t ready.belongs w a tied) (tie_joins q t ready.belongs w a tied) (slice_index m) refl (given_id p m a v goes row.anchor))
        ∙ edge_has q g m is (edge_between t w a) number

    -- the vertex hangs from its anchor, or its anchor from it
    pub anchor_hangs : HangsFrom t a w ⊎ HangsFrom t w a
    anchor_hangs = tied
