-- One turn of the search: a candidate for the vertex at place k.
use Rattle.std.proofs.Common.{◌≡◌, ℕ, suc, ◌+◌, ◌<◌, ◌≤◌, Bool, true, false, List, [], ◌∷◌, ◌++◌, drop, drop_of_length-le, length, replicate, Option, Some, None, is_some, inl, inr, refl, sym, ap, ◌∙◌, subst, arith, nat_eq}
use Rattle.std.specs.Prelude.{slice_get, slice_set, slice_index, IsPermutation, ◌==◌}
use Rattle.std.specs.List.{IsDistinct, list_any}
use Rattle.std.proofs.lemmas.Bool.{and_parts, eqb-true}
use Rattle.std.proofs.lemmas.Option.{get_or_from_slice_get, slice_get_within}
use Rattle.std.proofs.Math.Seq.{drop-cons}
use Rattle.flux_model.specs.Embedding.{embeddings}
use Rattle.flux_model.specs.Exact.{StateRows, row_at}
use Rattle.flux_model.specs.Graph.{Graph, ids, has_triple, has_vertex}
use Rattle.flux_model.specs.Order.{SearchOrder}
use Rattle.flux_model.specs.Partial.{id_of, with_id}
use Rattle.flux_model.specs.Pattern.{PatternGraph, vertex_count}
use Rattle.flux_model.specs.Tree.{QueryTree}
use Rattle.flux_model.specs.declared.graph.Vertex.{Vertex}
use Rattle.flux_model.specs.Members.{In}
use Rattle.flux_model.proofs.MemberLemmas.{in_any, in_mapped}
use Rattle.match_order.specs.Whole.{vertices}
use Rattle.graph_rows.specs.Directions.{triple_of}
use Rattle.graph_rows.specs.declared.direction.Direction.{Direction}
use Rattle.tree_search.specs.Given.{IsReady, IsGiven, IsRowAt, nth_vertex, may_have}
use Rattle.tree_search.specs.Aim.{IsAimed, keeps_aim}
use Rattle.tree_search.specs.AimedMembers.{members_at, members_over_at, may_take}
use Rattle.tree_search.specs.Members.{members_over, members_from, GrewUpTo, GrewByAll, GrewBySome}
use Rattle.tree_search.specs.declared.aim.Aim.{Aim}
use Rattle.tree_search.specs.declared.aim.Aim.TheVariants.{All}
use Rattle.tree_search.proofs.AimLemmas.{aimed_with}
use Rattle.tree_search.proofs.GrowthLemmas.{grew_none, grew_all, grew_turn, grew_skip, grew_stop}
use Rattle.tree_search.proofs.MemberLemmas.{members_split}
use Rattle.tree_search.proofs.CandidateLemmas.{listed_in, layer_has}
use Rattle.tree_search.proofs.ChosenLemmas.{explicit_chosen}
use Rattle.tree_search.proofs.PassLemmas.{member, dead_end}
use Rattle.tree_search.proofs.GivenLemmas.{cleared, given_none, vertex_inside, vertex_free, vertex_open, given_first, given_next, candidates_start, HasMembers}
use Rattle.tree_search.proofs.WholeLemmas.{all_from_none}

module _ (q : PatternGraph) (t : QueryTree) (d : StateRows) (g : Graph) (o : SearchOrder) (ready : IsReady q t d g o) (k : ℕ) (few : k < length (vertices o)) (p : List (Option ℕ)) (known : IsGiven q t g o k p)
    (w : ℕ) (at : w ≡ nth_vertex o k) (now : List (Option ℕ)) (same : now ≡ p) where
  -- the vertex has no id yet
  pub turn_open : slice_get now w ≡ Some None
  turn_open = (λ i. slice_get (same i) (at i)) ∙ vertex_open q t d g o ready k few p known

  inside : w < length p
  inside = omega (arith, at, vertex_inside q t d g o ready k few p known)

  free : id_of p w ≡ None
  free = ap (id_of p) at ∙ vertex_free q t d g o ready k few p known

  -- the id is taken away again
  pub turn_back : (x : ℕ) (put after cleared_now : List (Option ℕ)) → put ≡ slice_set now w (Some x) → after ≡ put → cleared_now ≡ slice_set after w None → cleared_now ≡ p
  turn_back x put after cleared_now is stays back =
      cleared p w x inside free cleared_now (back ∙ ap (λ l. slice_set l w None) (stays ∙ is ∙ ap (λ l. slice_set l w (Some x)) same))

  module _ (aim : Aim) (x : ℕ) (xs rest : List ℕ) (ends : xs ≡ x ∷ rest) (old mid : List (List ℕ)) (all : List (List ℕ)) (grew : GrewUpTo old mid (members_over_at q g aim p w xs) all) where
    first : GrewUpTo old mid (members_at q g aim (with_id p w x) ++ members_over_at q g aim p w rest) all
    first = subst (λ l. GrewUpTo old mid (members_over_at q g aim p w l) all) ends grew

    given_now : (put : List (Option ℕ)) → put ≡ slice_set now w (Some x) → put ≡ with_id p w x
    given_now put is = is ∙ ap (λ l. slice_set l w (Some x)) same

    -- the embeddings with x are found
    pub turn_found : (put : List (Option ℕ)) → put ≡ slice_set now w (Some x) → (new : List (List ℕ)) → GrewByAll mid new (members_at q g aim put) → GrewUpTo old new (members_over_at q g aim p w rest) all
    turn_found put is new more =
        grew_turn old mid new (members_at q g aim (with_id p w x)) (members_over_at q g aim p w rest) all first (subst (λ l. GrewByAll mid new (members_at q g aim l)) (given_now put is) more)

    -- only some of them are
    pub turn_stop : (put : List (Option ℕ)) → put ≡ slice_set now w (Some x) → (new : List (List ℕ)) → GrewBySome mid new (members_at q g aim put) → GrewBySome old new all
    turn_stop put is new more =
        grew_stop old mid new (members_at q g aim (with_id p w x)) (members_over_at q g aim p w rest) all first (subst (λ l. GrewBySome mid new (members_at q g aim l)) (given_now put is) more)

    -- there are none
    pub turn_skip : (told : Bool) → told ≡ may_take q t g aim now w x → told ≡ false → GrewUpTo old mid (members_over_at q g aim p w rest) all
    turn_skip told may fails =
        grew_skip old mid (members_at q g aim (with_id p w x)) (members_over_at q g aim p w rest) all first
        (dead_end q t g ready.belongs p w x known.places inside free aim (ap (λ l. may_take q t g aim l w x) (sym same) ∙ sym may ∙ fails))

    -- no embedding has x
    pub turn_none : members_at q g aim (with_id now w x) ≡ [] → GrewUpTo old mid (members_over_at q g aim p w rest) all
    turn_none none = grew_skip old mid (members_at q g aim (with_id p w x)) (members_over_at q g aim p w rest) all first (ap (λ l. members_at q g aim (with_id l w x)) (sym same) ∙ none)

  passed : (x : ℕ) (told : Bool) → told ≡ may_have q t g now w x → told ≡ true → may_have q t g p (nth_vertex o k) x ≡ true
  passed x told may passes = (λ i. may_have q t g (sym same i) (sym at i) x) ∙ sym may ∙ passes

  placed : (x : ℕ) (put : List (Option ℕ)) → put ≡ slice_set now w (Some x) → with_id p (nth_vertex o k) x ≡ put
  placed x put is = (λ i. slice_set (sym same i) (sym at i) (Some x)) ∙ sym is

  -- the first vertex is given
  pub turn_first : k ≡ 0 → (x : ℕ) (told : Bool) → told ≡ may_have q t g now w x → told ≡ true → (put : List (Option ℕ)) → put ≡ slice_set now w (Some x) → IsGiven q t g o 1 put
  turn_first none x told may passes put is =
      subst (λ n. IsGiven q t g o n put) (ap suc none)
      (subst (λ l. IsGiven q t g o (suc k) l) (placed x put is) (given_first q t d g o ready k few p known none x (passed x told may passes)))

  taken : (aim : Aim) (x : ℕ) (told : Bool) → told ≡ may_take q t g aim now w x → told ≡ true → (keeps_aim q aim p (nth_vertex o k) x ≡ true) × (may_have q t g p (nth_vertex o k) x ≡ true)
  taken aim x told may passes = and_parts (keeps_aim q aim p (nth_vertex o k) x) (may_have q t g p (nth_vertex o k) x) ((λ i. may_take q t g aim (sym same i) (sym at i) x) ∙ sym may ∙ passes)

  -- what is aimed at stays so
  pub turn_aimed : (aim : Aim) → IsAimed q aim p → (x : ℕ) (told : Bool) → told ≡ may_take q t g aim now w x → told ≡ true → (put : List (Option ℕ)) → put ≡ slice_set now w (Some x) → IsAimed q aim put
  turn_aimed aim known_aim x told may passes put is =
      subst (λ l. IsAimed q aim l) (placed x put is)
      (aimed_with q p (nth_vertex o k) x (vertex_inside q t d g o ready k few p known) aim known_aim (vertex_free q t d g o ready k few p known) (taken aim x told may passes).0)

  -- before the first candidate all is to come
  pub turns_start : (aim : Aim) (xs : List ℕ) → IsDistinct nat_eq xs → HasMembers q t d g o ready k few p known aim xs → (old : List (List ℕ)) → GrewUpTo old old (members_over_at q g aim p w xs) (members_at q g aim p)
  turns_start aim xs apart has old =
      subst (λ u. GrewUpTo old old (members_over_at q g aim p u xs) (members_at q g aim p)) (sym at) (candidates_start q t d g o ready k few p known aim xs apart has old)

  module _ (aim : Aim) (some : 1 ≤ k) (v : ℕ) (direction : Direction) (label : List ℕ) (row : IsRowAt q t o k p v direction label) where
    -- with a candidate that passes, one more vertex is given
    pub turn_given : (x : ℕ) (xs rest : List ℕ) → xs ≡ x ∷ rest → ((y : ℕ) → In xs y → has_triple g (triple_of direction v label y) ≡ true)
        → (told : Bool) → told ≡ may_take q t g aim now w x → told ≡ true → (put : List (Option ℕ)) → put ≡ slice_set now w (Some x) → IsGiven q t g o (k + 1) put
    turn_given x xs rest ends stand told may passes put is =
        let stands = stand x (subst (λ l. In l x) (sym ends) (inl refl)) in
        subst (λ n. IsGiven q t g o n put) (omega arith)
        (subst (λ l. IsGiven q t g o (suc k) l) (placed x put is) (given_next q t d g o ready k few p known some v direction label row x (taken aim x told may passes).1 stands))

-- the candidates that are left are candidates
pub others_stand : (test : ℕ → Bool) (x : ℕ) (xs rest : List ℕ) → xs ≡ x ∷ rest → ((y : ℕ) → In xs y → test y ≡ true) → (y : ℕ) → In rest y → test y ≡ true
others_stand test x xs rest ends stand y i = stand y (subst (λ l. In l y) (sym ends) (inr i))

-- ---- the root's rows in the index as its candidates

-- a vertex of the graph is among its ids
pub vertex_listed : (g : Graph) (v : ℕ) → has_vertex g v ≡ true → In (ids g) v
vertex_listed g v h =
    let r = in_any (λ (x : Vertex). x.id == v) g.vertices h in
    subst (λ n. In (ids g) n) (eqb-true r.0.id v r.2) (in_mapped (λ (x : Vertex). x.id) g.vertices r.0 r.1)

-- the vertex at a place is the first of the rest
pub next_vertex : (xs : List ℕ) (i x : ℕ) → slice_get xs i ≡ Some x → drop i xs ≡ x ∷ drop (i + 1) xs
next_vertex xs i x e =
    let next : suc i ≡ i + 1 = omega arith in
    drop-cons xs i 0 (slice_get_within xs i x e)
    ∙ (λ j. get_or_from_slice_get xs i x 0 e j ∷ drop (suc i) xs)
    ∙ ap (λ n. x ∷ drop n xs) next

-- of the first vertex of the order
module _ (q : PatternGraph) (t : QueryTree) (d : StateRows) (g : Graph) (o : SearchOrder) (ready : IsReady q t d g o) (w : ℕ) (root : w ≡ t.root) (start : o.start ≡ t.root) where
  abbrev none : List (Option ℕ)
  none = replicate (vertex_count q) None

  some : 0 < length (vertices o)
  some = omega arith

  at_first : w ≡ nth_vertex o 0
  at_first = root ∙ sym start

  within : w < vertex_count q
  within = omega (arith, root, ready.belongs.tree.root, ready.belongs.vertices)

  -- the embeddings are split by the id of the root
  pub root_split : (listed : List ℕ) → IsDistinct nat_eq listed → ((v : ℕ) → list_any (nat_eq v) listed ≡ is_some (row_at d w v)) → IsPermutation (members_over q g none w listed) (embeddings q g)
  root_split listed once rows =
      let split = members_split q g All none w (inside q t d g o ready 0 some none (given_none q t g o) w at_first none refl) (free q t d g o ready 0 some none (given_none q t g o) w at_first none refl) listed once
      (λ m i. listed_in (slice_index m w) listed (layer_has q t d g ready.exact w listed rows (slice_index m w) (explicit_chosen q t g ready.belongs m (member q g All none m i).0 w (omega (arith, within, ready.belongs.vertices))))) in
      subst (λ l. IsPermutation (members_over q g none w listed) l) (all_from_none q g) split

  -- before the first vertex all embeddings are to come
  pub root_start : (listed : List ℕ) → IsDistinct nat_eq listed → ((v : ℕ) → list_any (nat_eq v) listed ≡ is_some (row_at d w v)) → (old : List (List ℕ)) → GrewUpTo old old (members_over q g none w listed) (embeddings q g)
  root_start listed once rows old = grew_none old (members_over q g none w listed) (embeddings q g) (root_split listed once rows)

  module _ (now : List (Option ℕ)) (same : now ≡ none) where
    -- the root has no id yet
    pub root_open : slice_get now w ≡ Some None
    root_open = turn_open q t d g o ready 0 some none (given_none q t g o) w at_first now same

    -- with a vertex that passes, the root is given
    pub root_given : (x : ℕ) (told : Bool) → told ≡ may_have q t g now w x → told ≡ true → (put : List (Option ℕ)) → put ≡ slice_set now w (Some x) → IsGiven q t g o 1 put
    root_given = turn_first q t d g o ready 0 some none (given_none q t g o) w at_first now same refl

    -- its id is taken back
    pub root_back : (x : ℕ) (put after cleared_now : List (Option ℕ)) → put ≡ slice_set now w (Some x) → after ≡ put → cleared_now ≡ slice_set after w None → cleared_now ≡ none
    root_back = turn_back q t d g o ready 0 some none (given_none q t g o) w at_first now same

    module _ (listed : List ℕ) (i x : ℕ) (here : slice_get listed i ≡ Some x) (old mid : List (List ℕ)) (grew : GrewUpTo old mid (members_over q g none w (drop i listed)) (embeddings q g)) where
      -- what has this id for the root is found
      pub root_found : (put : List (Option ℕ)) → put ≡ slice_set now w (Some x) → (new : List (List ℕ)) → GrewByAll mid new (members_from q g put) → GrewUpTo old new (members_over q g none w (drop (i + 1) listed)) (embeddings q g)
      root_found = turn_found q t d g o ready 0 some none (given_none q t g o) w at_first now same All x (drop i listed) (drop (i + 1) listed) (next_vertex listed i x here) old mid (embeddings q g) grew

      -- where that stops short, some are found
      pub root_stop : (put : List (Option ℕ)) → put ≡ slice_set now w (Some x) → (new : List (List ℕ)) → GrewBySome mid new (members_from q g put) → GrewBySome old new (embeddings q g)
      root_stop = turn_stop q t d g o ready 0 some none (given_none q t g o) w at_first now same All x (drop i listed) (drop (i + 1) listed) (next_vertex listed i x here) old mid (embeddings q g) grew

      -- a vertex that does not pass has no embedding
      pub root_skip : (told : Bool) → told ≡ may_have q t g now w x → told ≡ false → GrewUpTo old mid (members_over q g none w (drop (i + 1) listed)) (embeddings q g)
      root_skip = turn_skip q t d g o ready 0 some none (given_none q t g o) w at_first now same All x (drop i listed) (drop (i + 1) listed) (next_vertex listed i x here) old mid (embeddings q g) grew

  -- in the end none is left
  pub root_end : (listed : List ℕ) (i : ℕ) → length listed ≤ i → (old new : List (List ℕ)) → GrewUpTo old new (members_over q g none w (drop i listed)) (embeddings q g) → GrewByAll old new (embeddings q g)
  root_end listed i end old new grew =
      grew_all old new (embeddings q g) (subst (λ l. GrewUpTo old new (members_over q g none w l) (embeddings q g)) (drop_of_length-le listed end) grew)
