-- What a search is for, kept from one vertex to the next.
use Rattle.std.proofs.Common.{◌≡◌, ◌≢◌, ℕ, zero, suc, ◌+◌, ◌<◌, Bool, true, false, not, ◌&&◌, ◌||◌, ◌==◌, List, length, map, replicate, slice_index, Option, Some, None, inl, inr, refl, sym, ap, ◌∙◌, subst, arith, Bor}
use Rattle.std.specs.Prelude.{◌⊎◌}
use Rattle.std.specs.Str.{bytes_eq}
use Rattle.std.specs.Cmp.Lexicographic.{slice_cmp, nat_list_cmp_total}
use Rattle.std.specs.Ordering.{nat_cmp}
use Rattle.std.proofs.lemmas.Bool.{and_parts, and_from, or_parts, not-true, not_from_false, eqb-true, eqb-false, eq-eqb, cases_eq, both_ways}
use Rattle.std.proofs.lemmas.Grind.{get_or-set_at}
use Rattle.std.proofs.lemmas.List.{get_or-set_other, get_or-map}
use Rattle.flux_model.specs.Embedding.{embeddings}
use Rattle.flux_model.specs.Graph.{Graph, vertex_cmp}
use Rattle.flux_model.specs.Ordered.{is_ascending}
use Rattle.flux_model.specs.Partial.{id_of, with_id, same_id, has_end, is_sent_where_given, edge_sends, earlier}
use Rattle.flux_model.specs.Pattern.{PatternGraph, HasEnds}
use Rattle.flux_model.specs.Tree.{edge_at}
use Rattle.flux_model.specs.declared.graph.Triple.{Triple}
use Rattle.flux_model.specs.declared.pattern.PatternEdge.{PatternEdge}
use Rattle.flux_laws.proofs.EmbeddingsLemmas.{embeddings-ascending}
use Rattle.flux_model.specs.Members.{In}
use Rattle.flux_model.proofs.MemberLemmas.{filter_in, in_filter}
use Rattle.flux_laws.proofs.AscendingLemmas.{filter-ascending}
use Rattle.nontree_test.proofs.SentLemmas.{no_number, fails_each}
use Rattle.tree_search.specs.Aim.{aimed, IsEdgeFor, IsAim, IsPinned, IsAimed, keeps_aim}
use Rattle.flux_model.specs.Classes.{is_sent, first_sent, is_number, edge_class}
use Rattle.tree_search.specs.Members.{goes_on}
use Rattle.tree_search.specs.declared.aim.Aim.{Aim}
use Rattle.tree_search.specs.declared.aim.Aim.TheVariants.{All, Edge}
use Rattle.tree_search.proofs.MemberLemmas.{given_id}
use Rattle.tree_search.proofs.SentLemmas.{sent_is, is_then_sent, sent_by, sent_at_end, IsFirst, first_is, first_from}

abbrev in_class : PatternGraph → ℕ → Triple → List ℕ → Bool
in_class q i t m = is_number i (first_sent 0 t m q.edges)

-- ---- the embeddings that are looked for

-- what is in a class sends its edge to the triple, and no edge of a lower number
pub class_first : (q : PatternGraph) (g : Graph) (i : ℕ) (t : Triple) (m : List ℕ) → In (edge_class q g t i) m → IsFirst t m q.edges i
class_first q g i t m j = first_is 0 i t m q.edges (ap (λ n. is_number n (first_sent 0 t m q.edges)) (omega arith) ∙ (filter_in (in_class q i t) (embeddings q g) m j).1)

-- and gives the triple's target to the head of the edge
pub class_head : (q : PatternGraph) (g : Graph) (i : ℕ) (t : Triple) (m : List ℕ) → In (edge_class q g t i) m → slice_index m (edge_at q i).head ≡ t.dst
class_head q g i t m j = ap (λ (s : Triple). s.dst) (sent_is t m (edge_at q i) (class_first q g i t m j).sent)

-- where the vertex is that head, it is the one id that the vertex has to have
pub target_is : (q : PatternGraph) (aim : Aim) (i : ℕ) (t : Bor Triple) → aim ≡ Edge i t → (e : PatternEdge) → edge_at q i ≡ e → (w : ℕ) → e.head ≡ w
    → (g : Graph) (m : List ℕ) → In (aimed q g aim) m → slice_index m w ≡ t.now.dst
target_is q aim i t is e read w here g m j =
    let at : (edge_at q i).head ≡ w = ap (λ (f : PatternEdge). f.head) read ∙ here in
    ap (slice_index m) (sym at) ∙ class_head q g i t.now m (subst (λ a. In (aimed q g a) m) is j)

-- what is looked for is an embedding
pub aimed_embedding : (q : PatternGraph) (g : Graph) (aim : Aim) (m : List ℕ) → In (aimed q g aim) m → In (embeddings q g) m
aimed_embedding q g All m j = j
aimed_embedding q g (Edge i t) m j = (filter_in (in_class q i t.now) (embeddings q g) m j).0

-- what is looked for is in ascending order
pub aimed_ascending : (q : PatternGraph) (g : Graph) (aim : Aim) → is_ascending vertex_cmp g.vertices ≡ true → is_ascending (slice_cmp nat_cmp) (aimed q g aim) ≡ true
aimed_ascending q g All a = embeddings-ascending q g a
aimed_ascending q g (Edge i t) a = filter-ascending (slice_cmp nat_cmp) nat_list_cmp_total (in_class q i t.now) (embeddings q g) (embeddings-ascending q g a)

-- what is kept of an aim has its edge and its label
pub aimed_is : (q : PatternGraph) (aim : Aim) (p : List (Option ℕ)) → IsAimed q aim p → IsAim q aim
aimed_is q All p known = tt
aimed_is q (Edge i t) p known = known.edge

-- ---- an id that such an embedding gives keeps the aim

module _ (q : PatternGraph) (p : List (Option ℕ)) (w x : ℕ) (inside : w < length p) where
  here : id_of (with_id p w x) w ≡ Some x
  here = get_or-set_at p w w (Some x) None refl inside

  there : (u : ℕ) → u ≢ w → id_of (with_id p w x) u ≡ id_of p u
  there u other = get_or-set_other p w u (Some x) None other

  -- an id that is looked for keeps the aim
  pub given_keeps : (g : Graph) (aim : Aim) (m : List ℕ) → In (aimed q g aim) m → goes_on (with_id p w x) m ≡ true → keeps_aim q aim p w x ≡ true
  given_keeps g All m j goes = refl
  given_keeps g (Edge i t) m j goes = and_from _ _ (pinned (w == (edge_at q i).head) refl) (not_from_false _ (no_number (λ k. edge_sends p w x t.now (edge_at q k)) 0 i (λ k low high. none k (omega (arith, high)) (edge_sends p w x t.now (edge_at q k)) refl)))
    where
      first : IsFirst t.now m q.edges i
      first = class_first q g i t.now m j

      pinned : (b : Bool) → (w == (edge_at q i).head) ≡ b → not b || x == t.now.dst ≡ true
      pinned true same =
          let at : slice_index m w ≡ x = given_id (with_id p w x) m w x goes here in
          let to : slice_index m (edge_at q i).head ≡ t.now.dst = ap (λ (s : Triple). s.dst) (sent_is t.now m (edge_at q i) first.sent) in
          eq-eqb x t.now.dst (sym at ∙ ap (slice_index m) (eqb-true w (edge_at q i).head same) ∙ to)
      pinned false same = refl

      none : (k : ℕ) → k < i → (b : Bool) → edge_sends p w x t.now (edge_at q k) ≡ b → edge_sends p w x t.now (edge_at q k) ≡ false
      none k h true sends =
          let sent = sent_by t.now (with_id p w x) m (edge_at q k) goes (and_parts (has_end w (edge_at q k)) (is_sent_where_given t.now (with_id p w x) (edge_at q k)) sends).1 in
          absurd (both_ways (is_sent t.now m (edge_at q k)) (first.none k h) sent)
      none k h false sends = sends

  -- ---- and it stays aimed at

  -- no edge below i is sent
  none_with : (i : ℕ) (t : Triple) → earlier q i p w x t ≡ false → ((k : ℕ) → k < i → is_sent_where_given t p (edge_at q k) ≡ false) → (k : ℕ) → k < i → is_sent_where_given t (with_id p w x) (edge_at q k) ≡ false
  none_with i t none before k h = by (has_end w (edge_at q k)) refl
    where
      e : PatternEdge
      e = edge_at q k

      by : (b : Bool) → has_end w (edge_at q k) ≡ b → is_sent_where_given t (with_id p w x) (edge_at q k) ≡ false
      by true has = ap (λ b. b && is_sent_where_given t (with_id p w x) (edge_at q k)) (sym has) ∙ fails_each (λ n. edge_sends p w x t (edge_at q n)) 0 i k none (omega arith) (omega (arith, h))
      by false has =
          let neither = or_parts ((edge_at q k).tail == w) ((edge_at q k).head == w) has in
          (λ n. same_id (Some t.src) (there (edge_at q k).tail (eqb-false (edge_at q k).tail w neither.0) n) && same_id (Some t.dst) (there (edge_at q k).head (eqb-false (edge_at q k).head w neither.1) n) && bytes_eq (edge_at q k).label t.label)
          ∙ before k h

  -- the head has the target
  head_with : (head dst : ℕ) → not (w == head) || x == dst ≡ true → ((y : ℕ) → id_of p head ≡ Some y → y ≡ dst) → (y : ℕ) → id_of (with_id p w x) head ≡ Some y → y ≡ dst
  head_with head dst pinned before y has = by (cases_eq w head)
    where
      by : (w ≡ head) ⊎ (w ≡ head → ⊥) → y ≡ dst
      by (inl same) =
          let to : x ≡ dst = eqb-true x dst (ap (λ b. not b || x == dst) (sym (eq-eqb w head same)) ∙ pinned) in
          let given : Some y ≡ Some x = sym has ∙ ap (id_of (with_id p w x)) (sym same) ∙ here in
          let id : y ≡ x = cc in
          id ∙ to
      by (inr other) = before y (sym (there head (λ same. other (sym same))) ∙ has)

  -- with an id that keeps the aim, what is known of it stays so
  pub aimed_with : (aim : Aim) → IsAimed q aim p → id_of p w ≡ None → keeps_aim q aim p w x ≡ true → IsAimed q aim (with_id p w x)
  aimed_with All known none keeps = tt
  aimed_with (Edge i t) known none keeps =
      let two = and_parts (not (w == (edge_at q i).head) || x == t.now.dst) (not (earlier q i p w x t.now)) keeps in
      record {
        edge = known.edge;
        tail = there (edge_at q i).tail (λ same. apart (ap (id_of p) (sym same) ∙ known.tail)) ∙ known.tail;
        head = head_with (edge_at q i).head t.now.dst two.0 known.head;
        none = none_with i t.now (not-true _ two.1) known.none;
      }
    where
      apart : id_of p w ≡ Some t.now.src → ⊥
      apart has = let clash : None ≡ Some t.now.src = sym none ∙ has in cc

-- the tail is the first
abbrev nobody : ℕ → List (Option ℕ)
nobody n = replicate n None

none_of : (n u : ℕ) → id_of (replicate n None) u ≡ None
none_of zero u = refl
none_of (suc n) zero = refl
none_of (suc n) (suc u) = none_of n u

-- with the source for the tail, all that is to be known of a class is known
pub aimed_first : (q : PatternGraph) (n w x : ℕ) → w < length (nobody n) → (i : ℕ) (t : Triple) → IsEdgeFor q i t → w ≡ (edge_at q i).tail → x ≡ t.src
    → not (w == (edge_at q i).head) || x == t.dst ≡ true → earlier q i (nobody n) w x t ≡ false → IsPinned q i t (with_id (nobody n) w x)
aimed_first q n w x inside i t edge at from pinned none = record {
  edge = edge;
  tail = ap (id_of (with_id (nobody n) w x)) (sym at) ∙ here q (nobody n) w x inside ∙ ap Some from;
  head = head_with q (nobody n) w x inside (edge_at q i).head t.dst pinned (λ y has. absurd (let clash : None ≡ Some y = sym (none_of n (edge_at q i).head) ∙ has in cc));
  none = none_with q (nobody n) w x inside i t none (λ k h. ap (λ o. same_id (Some t.src) o && same_id (Some t.dst) (id_of (nobody n) (edge_at q k).head) && bytes_eq (edge_at q k).label t.label) (none_of n (edge_at q k).tail));
}

-- ---- where every vertex has an id

-- an embedding whose ids are all given is looked for
pub aimed_listed : (q : PatternGraph) (g : Graph) (aim : Aim) (p : List (Option ℕ)) (ids : List ℕ) → p ≡ map Some ids → ((k : ℕ) → k < length q.edges → HasEnds (length ids) (edge_at q k)) → IsAimed q aim p → In (embeddings q g) ids → In (aimed q g aim) ids
aimed_listed q g All p ids full ends known j = j
aimed_listed q g (Edge i t) p ids full ends known j =
    in_filter (in_class q i t.now) (embeddings q g) ids j (ap (is_number i) (first_from 0 i t.now ids q.edges first) ∙ eq-eqb (0 + i) i (omega arith))
  where
    at : (u : ℕ) → u < length ids → id_of p u ≡ Some (slice_index ids u)
    at u h = ap (λ r. id_of r u) full ∙ get_or-map Some ids u 0 None h

    src : slice_index ids (edge_at q i).tail ≡ t.now.src
    src = let both : Some (slice_index ids (edge_at q i).tail) ≡ Some t.now.src = sym (at (edge_at q i).tail (ends i known.edge.within).0) ∙ known.tail in cc

    dst : slice_index ids (edge_at q i).head ≡ t.now.dst
    dst = known.head (slice_index ids (edge_at q i).head) (at (edge_at q i).head (ends i known.edge.within).1)

    unsent : (k : ℕ) → k < i → (b : Bool) → is_sent t.now ids (edge_at q k) ≡ b → is_sent t.now ids (edge_at q k) ≡ false
    unsent k h true sent =
        let given = sent_at_end t.now ids (edge_at q k) (ends k (omega (arith, h, known.edge.within))) sent in
        absurd (both_ways (is_sent_where_given t.now (map Some ids) (edge_at q k)) (subst (λ r. is_sent_where_given t.now r (edge_at q k) ≡ false) full (known.none k h)) given)
    unsent k h false sent = sent

    first : IsFirst t.now ids q.edges i
    first = record {
      within = known.edge.within;
      sent = is_then_sent t.now ids (edge_at q i) (λ n. record { src = src n; label = known.edge.label n; dst = dst n });
      none = λ k h. unsent k h (is_sent t.now ids (edge_at q k)) refl;
    }
