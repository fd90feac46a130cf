-- What a search from a triple meets: the embeddings of a class, from the tail of their edge on.
use Rattle.std.proofs.Common.{◌≡◌, ℕ, zero, suc, ◌+◌, ◌*◌, ◌<◌, ◌≤◌, Bool, true, false, not, cond, ◌&&◌, ◌||◌, ◌==◌, List, [], ◌∷◌, length, replicate, slice_index, Option, Some, None, refl, sym, ap, ◌∙◌, subst, arith}
use Rattle.std.specs.Prelude.{slice_get, slice_set, IsPermutation}
use Rattle.std.specs.Cmp.Lexicographic.{same_text}
use Rattle.std.proofs.lemmas.List.Sorted.{IsPermutation-refl}
use Rattle.flux_model.proofs.MemberLemmas.{filter_in}
use Rattle.std.specs.Borrow.{Bor}
use Rattle.std.specs.Str.{bytes_eq}
use Rattle.std.proofs.lemmas.Bool.{and_parts, and_from, not-true, eqb-true, eq-eqb, both_ways}
use Rattle.std.proofs.Math.Nat.{mul-add}
use Rattle.std.proofs.lemmas.Cmp.{nat_list_eq_equiv}
use Rattle.std.proofs.lemmas.List.{map-set}
use Rattle.std.specs.Option.{unwrap_or}
use Rattle.flux_model.specs.Embedding.{image, embeddings, fit_all, keeps_edges, keeps_mode}
use Rattle.flux_model.specs.Exact.{StateRows, live_counts}
use Rattle.flux_model.specs.Graph.{Graph}
use Rattle.flux_model.specs.Order.{SearchOrder, search_order}
use Rattle.flux_model.specs.Partial.{id_of, with_id, earlier}
use Rattle.flux_model.specs.Pattern.{PatternGraph, HasEnds, vertex_count, fits_labels}
use Rattle.flux_model.specs.States.{joined, is_explicit}
use Rattle.flux_model.specs.Tree.{QueryTree, edge_at, BelongsTo}
use Rattle.flux_model.specs.declared.graph.Triple.{Triple}
use Rattle.flux_model.specs.declared.pattern.PatternEdge.{PatternEdge}
use Rattle.flux_model.specs.Members.{In}
use Rattle.match_order.specs.Whole.{vertices}
use Rattle.tree_search.specs.Aim.{IsEdgeFor, IsAimed, IsPinned, keeps_aim}
use Rattle.tree_search.specs.AimedMembers.{members_at, may_take}
use Rattle.flux_model.specs.Classes.{edge_class}
use Rattle.tree_search.specs.Given.{IsReady, IsGiven, may_have}
use Rattle.flux_model.specs.Costs.{may_be_sent, are_explicit, is_entered, rows_read, look_cost, edge_cost}
use Rattle.tree_search.specs.LookCost.{look_from}
use Rattle.tree_search.specs.Members.{goes_on, ids_of, GrewByAll}
use Rattle.tree_search.specs.SearchCosts.{test_cost}
use Rattle.tree_search.specs.declared.aim.Aim.{Aim}
use Rattle.tree_search.specs.declared.aim.Aim.TheVariants.{Edge}
use Rattle.tree_search.proofs.AimLemmas.{class_first, aimed_first}
use Rattle.tree_search.proofs.ChosenLemmas.{explicit_chosen}
use Rattle.tree_search.proofs.CostLemmas.{test_most}
use Rattle.tree_search.proofs.EmbeddingLemmas.{embedding_of}
use Rattle.tree_search.proofs.GivenLemmas.{given_none, vertex_inside, vertex_free}
use Rattle.tree_search.proofs.GrowthLemmas.{append_none}
use Rattle.tree_search.proofs.MemberLemmas.{goes_on_with}
use Rattle.tree_search.proofs.PassLemmas.{nothing, dead_end}
use Rattle.tree_search.proofs.SentLemmas.{sent_is}
use Rattle.tree_search.proofs.TurnLemmas.{turn_open, turn_first}
use Rattle.tree_search.proofs.WholeLemmas.{filter_none, goes_on_none}

-- nothing more is what a list without elements grows by
pub grew_by_no : {X : Type 0} (old all : List X) → all ≡ [] → GrewByAll old old all
grew_by_no old all none = record { more = []; is = sym (append_none old); permutation = subst (λ l. IsPermutation [] l) (sym none) (IsPermutation-refl []) }

module _ (q : PatternGraph) (g : Graph) (i : ℕ) (s : Triple) where
  abbrev e : PatternEdge
  e = edge_at q i

  -- whom the class has sends the edge to the triple
  module _ (m : List ℕ) (j : In (edge_class q g s i) m) where
    is : image m e ≡ s
    is = sent_is s m e (class_first q g i s m j).sent

    -- the tail has the source
    pub class_tail : slice_index m (edge_at q i).tail ≡ s.src
    class_tail = ap (λ (t : Triple). t.src) is

    -- the head has the target
    pub class_head : slice_index m (edge_at q i).head ≡ s.dst
    class_head = ap (λ (t : Triple). t.dst) is

    -- it is an embedding
    pub class_embedding : In (embeddings q g) m
    class_embedding = (filter_in _ (embeddings q g) m j).0

    class_sent : may_be_sent e s ≡ true
    class_sent = and_from _ _ (ap (bytes_eq e.label) (sym (ap (λ (t : Triple). t.label) is)) ∙ nat_list_eq_equiv.refl e.label) (loop (e.tail == e.head) refl)
      where
        loop : (b : Bool) → (e.tail == e.head) ≡ b → not b || s.src == s.dst ≡ true
        loop true same = eq-eqb s.src s.dst (sym class_tail ∙ ap (slice_index m) (eqb-true e.tail e.head same) ∙ class_head)
        loop false same = refl

  -- an edge that may not be sent to the triple has no class
  pub closed_class : may_be_sent (edge_at q i) s ≡ false → edge_class q g s i ≡ []
  closed_class closed = nothing (edge_class q g s i) (λ m j. both_ways (may_be_sent (edge_at q i) s) closed (class_sent m j))

  -- nor has one where an end is not explicit
  pub implicit_class : (t : QueryTree) → BelongsTo q t → HasEnds (vertex_count q) (edge_at q i) → are_explicit (joined q t g) (edge_at q i) s ≡ false → edge_class q g s i ≡ []
  implicit_class t belongs ends implicit = nothing (edge_class q g s i) (λ m j.
      let is = embedding_of q g m (class_embedding m j) in
      let tail = subst (λ v. is_explicit (joined q t g) (edge_at q i).tail v ≡ true) (class_tail m j) (explicit_chosen q t g belongs m is (edge_at q i).tail ends.0) in
      let head = subst (λ v. is_explicit (joined q t g) (edge_at q i).head v ≡ true) (class_head m j) (explicit_chosen q t g belongs m is (edge_at q i).head ends.1) in
      both_ways (are_explicit (joined q t g) (edge_at q i) s) implicit (and_from _ _ tail head))

  -- where there is no embedding, no class has one
  pub barren_class : embeddings q g ≡ [] → edge_class q g s i ≡ []
  barren_class none = nothing (edge_class q g s i) (λ m j. subst (λ l. In l m) none (class_embedding m j))

  -- an edge that may be sent to the triple has its label
  pub edge_for : i < length q.edges → may_be_sent (edge_at q i) s ≡ true → IsEdgeFor q i s
  edge_for within opens =
      record { within = within; label = same_text (edge_at q i).label s.label (sym (and_parts (bytes_eq (edge_at q i).label s.label) (not ((edge_at q i).tail == (edge_at q i).head) || s.src == s.dst) opens).0) }

-- what the search starts with
module _ (q : PatternGraph) (t : QueryTree) (d : StateRows) (g : Graph) (o : SearchOrder) (ready : IsReady q t d g o) (i : ℕ) (b : Bor Triple) (edge : IsEdgeFor q i b.now)
    (w : ℕ) (start : o.start ≡ w) (at : w ≡ (edge_at q i).tail) (now : List (Option ℕ)) (same : now ≡ replicate (vertex_count q) None) where
  abbrev none : List (Option ℕ)
  none = replicate (vertex_count q) None

  abbrev aim : Aim
  aim = Edge i b

  some : 0 < length (vertices o)
  some = omega arith

  -- the tail has no id yet
  pub edge_open : slice_get now w ≡ Some None
  edge_open = turn_open q t d g o ready 0 some none (given_none q t g o) w (sym start) now same

  inside : w < length none
  inside = omega (arith, sym start, vertex_inside q t d g o ready 0 some none (given_none q t g o))

  free : id_of none w ≡ None
  free = ap (id_of none) (sym start) ∙ vertex_free q t d g o ready 0 some none (given_none q t g o)

  -- the class has the source for the tail
  whole_class : members_at q g aim (with_id none w b.now.src) ≡ edge_class q g b.now i
  whole_class = filter_none (goes_on (with_id none w b.now.src)) (edge_class q g b.now i) (λ m j.
      let is = embedding_of q g m (class_embedding q g i b.now m j) in
      let fit = (and_parts (fit_all q g m) (keeps_edges q g m) (and_parts (fit_all q g m && keeps_edges q g m) (keeps_mode q.mode m) is).0).0 in
      goes_on_with none m w b.now.src inside free
      ∙ and_from (goes_on none m) (slice_index m w == b.now.src) (goes_on_none (fits_labels g) q.labels m fit) (eq-eqb (slice_index m w) b.now.src (ap (slice_index m) at ∙ class_tail q g i b.now m j)))

  module _ (x : ℕ) (from : x ≡ b.now.src) (told : Bool) (may : told ≡ may_take q t g aim now w x) where
    -- an edge whose tail may not have the source has no class
    pub refused_class : told ≡ false → edge_class q g b.now i ≡ []
    refused_class fails =
        sym whole_class
        ∙ ap (λ v. members_at q g aim (with_id none w v)) (sym from)
        ∙ dead_end q t g ready.belongs none w x (given_none q t g o).places inside free aim (ap (λ l. may_take q t g aim l w x) (sym same) ∙ sym may ∙ fails)

    module _ (passes : told ≡ true) (put : List (Option ℕ)) (is : put ≡ slice_set now w (Some x)) where
      both : (keeps_aim q aim now w x ≡ true) × (may_have q t g now w x ≡ true)
      both = and_parts (keeps_aim q aim now w x) (may_have q t g now w x) (sym may ∙ passes)

      placed : put ≡ with_id none w x
      placed = is ∙ ap (λ l. slice_set l w (Some x)) same

      -- with the source for the tail, the first vertex of the order is given
      pub edge_given : IsGiven q t g o 1 put
      edge_given = turn_first q t d g o ready 0 some none (given_none q t g o) w (sym start) now same refl x true (sym both.1) refl put is

      -- and all that is to be known of the class is known
      pub edge_aimed : IsAimed q aim put
      edge_aimed =
          let two = and_parts (not (w == (edge_at q i).head) || x == b.now.dst) (not (earlier q i now w x b.now)) both.0 in
          subst (λ l. IsPinned q i b.now l) (sym placed)
          (aimed_first q (vertex_count q) w x inside i b.now edge at from two.0 (ap (λ l. earlier q i l w x b.now) (sym same) ∙ not-true _ two.1))

      -- what has the source for the tail is the class
      pub edge_members : members_at q g aim put ≡ edge_class q g b.now i
      edge_members = ap (λ l. members_at q g aim l) placed ∙ ap (λ v. members_at q g aim (with_id none w v)) from ∙ whole_class

-- ---- steps

no_ids : (n : ℕ) → ids_of (replicate n None) ≡ replicate n 0
no_ids zero = refl
no_ids (suc n) = ap (λ l. 0 ∷ l) (no_ids n)

module _ (q : PatternGraph) (t : QueryTree) (g : Graph) (i : ℕ) (s : Triple) (sent : may_be_sent (edge_at q i) s ≡ true) where
  two : (bytes_eq (edge_at q i).label s.label ≡ true) × (not ((edge_at q i).tail == (edge_at q i).head) || s.src == s.dst ≡ true)
  two = and_parts (bytes_eq (edge_at q i).label s.label) (not ((edge_at q i).tail == (edge_at q i).head) || s.src == s.dst) sent

  abbrev opened : ℕ
  opened = (length q.edges + 4) * (2 + rows_read q t g (edge_at q i).head s.dst (search_order t (edge_at q i).tail (live_counts g (joined q t g))).places (slice_set (replicate (vertex_count q) 0) (edge_at q i).tail s.src))

  labelled : edge_cost q t g (edge_at q i) s ≡ cond (is_entered (joined q t g) (edge_at q i) s) opened 2
  labelled = ap (λ b. cond b (look_cost q t g (edge_at q i) s) 0) two.0

  -- what is not entered takes two
  pub cost_shut : are_explicit (joined q t g) (edge_at q i) s ≡ false → edge_cost q t g (edge_at q i) s ≡ 2
  cost_shut shut = labelled ∙ ap (λ b. cond (b && (not ((edge_at q i).tail == (edge_at q i).head) || s.src == s.dst)) opened 2) shut

  cost_open : are_explicit (joined q t g) (edge_at q i) s ≡ true → edge_cost q t g (edge_at q i) s ≡ opened
  cost_open entered = labelled ∙ ap (λ b. cond b opened 2) (and_from _ _ entered two.1)

  module _ (entered : are_explicit (joined q t g) (edge_at q i) s ≡ true) (w x : ℕ) (s1 s2 : ℕ) (tests : s2 ≤ s1 + test_cost q t g w x) where
    split : (e r : ℕ) → (e + 4) * (2 + r) ≡ 2 * e + 8 + (e + 4) * r
    split e r =
        let twice : (e + 4) * 2 ≡ 2 * e + 8 = omega arith in
        mul-add (e + 4) 2 r ∙ ap (λ n. n + (e + 4) * r) twice

    -- a tail that may not have the source is paid for, beside the two states
    pub refused_steps : s2 + 2 ≤ s1 + edge_cost q t g (edge_at q i) s
    refused_steps = omega (arith, cost_open entered, split (length q.edges) (rows_read q t g (edge_at q i).head s.dst (search_order t (edge_at q i).tail (live_counts g (joined q t g))).places (slice_set (replicate (vertex_count q) 0) (edge_at q i).tail s.src)), tests, test_most q t g w x)

    -- so is what is searched from it
    pub edge_steps : (o : SearchOrder) → o ≡ search_order t (edge_at q i).tail (live_counts g (joined q t g)) → (b : Bor Triple) → b.now ≡ s → (put : List (Option ℕ)) → put ≡ with_id (replicate (vertex_count q) None) (edge_at q i).tail s.src
        → (s3 : ℕ) → s3 ≤ s2 + look_from q t g (Edge i b) o 1 (ids_of put) → s3 + 2 ≤ s1 + edge_cost q t g (edge_at q i) s
    edge_steps o is b of put placed s3 read =
        let given : ids_of put ≡ slice_set (replicate (vertex_count q) 0) (edge_at q i).tail s.src =
        ap ids_of placed ∙ map-set (λ r. unwrap_or r 0) (replicate (vertex_count q) None) (edge_at q i).tail (Some s.src) ∙ ap (λ l. slice_set l (edge_at q i).tail s.src) (no_ids (vertex_count q)) in
        let rest : look_from q t g (Edge i b) o 1 (ids_of put) ≡ (length q.edges + 4) * rows_read q t g (edge_at q i).head s.dst (search_order t (edge_at q i).tail (live_counts g (joined q t g))).places (slice_set (replicate (vertex_count q) 0) (edge_at q i).tail s.src) =
        λ n. (length q.edges + 4) * rows_read q t g (edge_at q i).head (of n).dst (is n).places (given n) in
        omega (arith, read, rest, cost_open entered, split (length q.edges) (rows_read q t g (edge_at q i).head s.dst (search_order t (edge_at q i).tail (live_counts g (joined q t g))).places (slice_set (replicate (vertex_count q) 0) (edge_at q i).tail s.src)), tests, test_most q t g w x)
