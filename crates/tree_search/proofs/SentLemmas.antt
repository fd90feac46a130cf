-- The first edge that an embedding sends to a triple.
use Rattle.std.proofs.Common.{◌≡◌, ℕ, zero, suc, ◌+◌, ◌<◌, ◌≤◌, Bool, true, false, cond, ◌&&◌, List, [], ◌∷◌, length, map, get_or, slice_index, Option, Some, None, refl, sym, ap, ◌∙◌, arith}
use Rattle.std.specs.declared.cmp.Ordering.{Ordering}
use Rattle.std.specs.declared.cmp.Ordering.TheVariants.{Less, Equal, Greater}
use Rattle.std.specs.Ordering.{is_eq}
use Rattle.std.specs.Str.{bytes_eq}
use Rattle.std.specs.Cmp.Lexicographic.{same_text}
use Rattle.std.proofs.lemmas.Bool.{and_parts, and_from, eqb-true, eq-eqb}
use Rattle.std.proofs.lemmas.Cmp.{tied_itself, nat_list_eq_equiv}
use Rattle.std.proofs.lemmas.List.{get_or-map}
use Rattle.flux_model.specs.Embedding.{image}
use Rattle.flux_model.specs.Graph.{triple_cmp}
use Rattle.flux_model.specs.Partial.{id_of, same_id, is_sent_where_given}
use Rattle.flux_model.specs.Pattern.{HasEnds}
use Rattle.flux_model.specs.declared.graph.Triple.{Triple}
use Rattle.flux_model.specs.declared.pattern.PatternEdge.{PatternEdge}
use Rattle.flux_laws.proofs.GraphsLemmas.{triple_exact}
use Rattle.flux_laws.proofs.SetsLemmas.{triple_total}
use Rattle.flux_model.specs.Classes.{is_sent, first_sent, is_number}
use Rattle.tree_search.specs.Members.{goes_on}
use Rattle.tree_search.proofs.MemberLemmas.{given_id}

false_true : false ≡ true → ⊥
false_true e = cc

-- ---- one edge

equal : (r : Ordering) → is_eq r ≡ true → r ≡ Equal
equal Less h = absurd (false_true h)
equal Equal h = refl
equal Greater h = absurd (false_true h)

-- an edge that is sent to a triple has it as its image
pub sent_is : (t : Triple) (m : List ℕ) (e : PatternEdge) → is_sent t m e ≡ true → image m e ≡ t
sent_is t m e h = triple_exact (image m e) t (equal (triple_cmp (image m e) t) h)

-- an edge that has the triple as its image is sent to it
pub is_then_sent : (t : Triple) (m : List ℕ) (e : PatternEdge) → image m e ≡ t → is_sent t m e ≡ true
is_then_sent t m e same = ap (λ s. is_eq (triple_cmp s t)) same ∙ ap is_eq (tied_itself triple_total t)

some_id : (x : ℕ) (o : Option ℕ) → same_id (Some x) o ≡ true → o ≡ Some x
some_id x None h = absurd (false_true h)
some_id x (Some y) h = ap Some (sym (eqb-true x y h))

-- what is sent under the ids given is sent by whoever has them
pub sent_by : (t : Triple) (p : List (Option ℕ)) (m : List ℕ) (e : PatternEdge) → goes_on p m ≡ true → is_sent_where_given t p e ≡ true → is_sent t m e ≡ true
sent_by t p m e goes h =
    let outer = and_parts (same_id (Some t.src) (id_of p e.tail) && same_id (Some t.dst) (id_of p e.head)) (bytes_eq e.label t.label) h in
    let inner = and_parts (same_id (Some t.src) (id_of p e.tail)) (same_id (Some t.dst) (id_of p e.head)) outer.0 in
    let src : slice_index m e.tail ≡ t.src = given_id p m e.tail t.src goes (some_id t.src (id_of p e.tail) inner.0) in
    let dst : slice_index m e.head ≡ t.dst = given_id p m e.head t.dst goes (some_id t.dst (id_of p e.head) inner.1) in
    let label : e.label ≡ t.label = same_text e.label t.label (sym outer.1) in
    is_then_sent t m e (λ i. record { src = src i; label = label i; dst = dst i })

-- where all ids are given, what is sent is sent under them
pub sent_at_end : (t : Triple) (ids : List ℕ) (e : PatternEdge) → HasEnds (length ids) e → is_sent t ids e ≡ true → is_sent_where_given t (map Some ids) e ≡ true
sent_at_end t ids e ends h =
    let is = sent_is t ids e h in
    let tail : id_of (map Some ids) e.tail ≡ Some t.src = get_or-map Some ids e.tail 0 None ends.0 ∙ ap (λ (s : Triple). Some s.src) is in
    let head : id_of (map Some ids) e.head ≡ Some t.dst = get_or-map Some ids e.head 0 None ends.1 ∙ ap (λ (s : Triple). Some s.dst) is in
    let label : e.label ≡ t.label = ap (λ (s : Triple). s.label) is in
    and_from _ _ (and_from _ _ (ap (same_id (Some t.src)) tail ∙ eq-eqb t.src t.src refl) (ap (same_id (Some t.dst)) head ∙ eq-eqb t.dst t.dst refl))
    (ap (λ l. bytes_eq l t.label) label ∙ nat_list_eq_equiv.refl t.label)

-- ---- the first

abbrev no_edge : PatternEdge
no_edge = record { tail = 0; label = []; head = 0 }

-- edge i is sent, and none before it
pub record IsFirst (t : Triple) (m : List ℕ) (es : List PatternEdge) (i : ℕ) : Type 0 where
  pub within : i < length es
  pub sent : is_sent t m (get_or es i no_edge) ≡ true
  pub none : (k : ℕ) → k < i → is_sent t m (get_or es k no_edge) ≡ false

not_low : (n a : ℕ) (t : Triple) (m : List ℕ) (es : List PatternEdge) → is_number n (first_sent a t m es) ≡ true → a ≤ n
not_low n a t m [] h = absurd (false_true h)
not_low n a t m (e ∷ es) h = by (is_sent t m e) refl (not_low n (a + 1) t m es)
  where
    by : (b : Bool) → is_sent t m e ≡ b → (is_number n (first_sent (a + 1) t m es) ≡ true → a + 1 ≤ n) → a ≤ n
    by true s rest = let same : a ≡ n = eqb-true a n (rw s at h) in omega (arith, same)
    by false s rest = let low = rest (rw s at h) in omega (arith, low)

-- the number that is told is that of the first edge that is sent
pub first_is : (a i : ℕ) (t : Triple) (m : List ℕ) (es : List PatternEdge) → is_number (a + i) (first_sent a t m es) ≡ true → IsFirst t m es i
first_is a i t m [] h = absurd (false_true h)
first_is a zero t m (e ∷ es) h = by (is_sent t m e) refl
  where
    by : (b : Bool) → is_sent t m e ≡ b → IsFirst t m (e ∷ es) zero
    by true s = record { within = omega arith; sent = s; none = λ k l. absurd (omega (arith, l)) }
    by false s = absurd (let low = not_low (a + 0) (a + 1) t m es (rw s at h) in omega (arith, low))
first_is a (suc i) t m (e ∷ es) h = by (is_sent t m e) refl (first_is (a + 1) i t m es)
  where
    by : (b : Bool) → is_sent t m e ≡ b → (is_number (a + 1 + i) (first_sent (a + 1) t m es) ≡ true → IsFirst t m es i) → IsFirst t m (e ∷ es) (suc i)
    by true s rest = absurd (let same : a ≡ a + suc i = eqb-true a (a + suc i) (rw s at h) in omega (arith, same))
    by false s rest =
        let next : a + suc i ≡ a + 1 + i = omega arith in
        let here : is_number (a + suc i) (first_sent (a + 1) t m es) ≡ true = rw s at h in
        let on = rest (ap (λ n. is_number n (first_sent (a + 1) t m es)) (sym next) ∙ here) in
        record { within = omega (arith, on.within); sent = on.sent; none = λ k l. none k l on }
      where
        none : (k : ℕ) → k < suc i → IsFirst t m es i → is_sent t m (get_or (e ∷ es) k no_edge) ≡ false
        none zero l on = s
        none (suc k) l on = on.none k (omega arith)

-- the number of the first edge that is sent is told
pub first_from : (a i : ℕ) (t : Triple) (m : List ℕ) (es : List PatternEdge) → IsFirst t m es i → first_sent a t m es ≡ Some (a + i)
first_from a i t m [] is = absurd (omega (arith, is.within))
first_from a zero t m (e ∷ es) is = ap (λ b. cond b (Some a) (first_sent (a + 1) t m es)) is.sent ∙ ap Some (omega arith)
first_from a (suc i) t m (e ∷ es) is =
    ap (λ b. cond b (Some a) (first_sent (a + 1) t m es)) (is.none 0 (omega arith))
    ∙ first_from (a + 1) i t m es (record { within = omega (arith, is.within); sent = is.sent; none = λ k l. is.none (suc k) (omega (arith, l)) })
    ∙ ap Some (omega arith)
