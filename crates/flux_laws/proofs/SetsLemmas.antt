-- The elements of ascending lists.
use Rattle.std.proofs.Common.{◌≡◌, ℕ, zero, suc, ◌<◌, Bool, true, false, ◌||◌, List, [], ◌∷◌, length, get_or, refl, sym, ap, ◌∙◌, arith}
use Rattle.std.specs.declared.cmp.Ordering.{Ordering}
use Rattle.std.specs.declared.cmp.Ordering.TheVariants.{Less, Equal, Greater}
use Rattle.std.specs.Ordering.{is_lt, is_eq, nat_cmp, ordering_then, ordering_reverse}
use Rattle.std.specs.Cmp.{IsTotalOrder}
use Rattle.std.specs.Cmp.Lexicographic.{nat_list_cmp_total}
use Rattle.std.specs.List.{Contains}
use Rattle.std.proofs.lemmas.Cmp.{nat_cmp_total, on_total, then_total, tied_itself, alike_right}
use Rattle.std.proofs.lemmas.Map.Lookups.{exact_bytes, exact_unsigned}
use Rattle.flux_model.specs.Text.{text_cmp}
use Rattle.flux_model.specs.Ordered.{is_ascending, is_in, put}
use Rattle.flux_model.specs.Labels.{put_all, label_set}
use Rattle.flux_model.specs.Graph.{vertex_cmp, triple_cmp}
use Rattle.flux_model.specs.declared.graph.Vertex.{Vertex}
use Rattle.flux_model.specs.declared.graph.Triple.{Triple}
use Rattle.flux_model.proofs.OrderedLemmas.{put-ascending, in-less, ascending_rest}
use Rattle.flux_laws.specs.SetsLaws.{PutKeepsOrder, PutAddsOne, IsInIsMembership, IsDeterminedByMembers, LabelSetIsAscending, LabelSetHasTheNames}
use Rattle.flux_laws.proofs.TestLemmas.{both, or_right}

or_same : (a c : Bool) → a || c ≡ a || (a || c)
or_same true c = refl
or_same false c = refl

or_swap : (a b c : Bool) → a || (b || c) ≡ b || (a || c)
or_swap true true c = refl
or_swap true false c = refl
or_swap false b c = refl

module _ {K : Type 0} (R : K → K → Ordering) (o : IsTotalOrder R) where
  -- a put keeps the order
  pub keeps_order : PutKeepsOrder R
  keeps_order = put-ascending R o

  -- a put adds that element alone
  pub adds_one : PutAddsOne R
  adds_one x y [] = refl
  adds_one x y (z ∷ zs) = by (R y z) refl (adds_one x y zs)
    where
      by : (r : Ordering) → R y z ≡ r → is_in R x (put R y zs) ≡ (is_eq (R x y) || is_in R x zs)
          → is_in R x (put R y (z ∷ zs)) ≡ (is_eq (R x y) || is_in R x (z ∷ zs))
      by Less e ih = rw e refl
      by Equal e ih = rw (e, alike_right o y z x e) (or_same (is_eq (R x z)) (is_in R x zs))
      by Greater e ih = rw (e, ih) (or_swap (is_eq (R x z)) (is_eq (R x y)) (is_in R x zs))

  module _ (same : (x y : K) → R x y ≡ Equal → x ≡ y) where
    element : (x : K) (xs : List K) → is_in R x xs ≡ true → Contains xs x
    element x [] e = cc
    element x (y ∷ ys) e = by (R x y) refl e (element x ys)
      where
        later : Contains ys x → Contains (y ∷ ys) x
        later at = (suc at.0, omega (arith, at.1), at.2)

        by : (r : Ordering) → R x y ≡ r → is_eq r || is_in R x ys ≡ true → (is_in R x ys ≡ true → Contains ys x) → Contains (y ∷ ys) x
        by Less q h ih = later (ih h)
        by Equal q h ih = (0, omega arith, sym (same x y q))
        by Greater q h ih = later (ih h)

    in_at_place : (x : K) (xs : List K) (k : ℕ) → k < length xs → get_or xs k x ≡ x → is_in R x xs ≡ true
    in_at_place x [] k l e = absurd (omega arith)
    in_at_place x (y ∷ ys) zero l e = rw (ap (R x) e ∙ tied_itself o x) refl
    in_at_place x (y ∷ ys) (suc k) l e = or_right (is_eq (R x y)) (is_in R x ys) (in_at_place x ys k (omega arith) e)

    -- the test tells membership
    pub membership : IsInIsMembership R
    membership x xs = (element x xs, λ at. in_at_place x xs at.0 at.1 at.2)

    -- ---- one ascending list for some elements

    less : (x y : K) → is_lt (R x y) ≡ true → R x y ≡ Less
    less x y e = by (R x y) refl e
      where
        by : (r : Ordering) → R x y ≡ r → is_lt r ≡ true → R x y ≡ Less
        by Less q h = q
        by Equal q h = cc
        by Greater q h = cc

    tail : (x : K) (xs : List K) → is_ascending R (x ∷ xs) ≡ true → is_ascending R xs ≡ true
    tail x xs a = ascending_rest R 1 (x ∷ xs) a

    -- the first of an ascending list does not stand there again
    once : (x : K) (xs : List K) → is_ascending R (x ∷ xs) ≡ true → is_in R x xs ≡ false
    once x [] a = refl
    once x (y ∷ ys) a =
        let first = both (is_lt (R x y)) (is_ascending R (y ∷ ys)) a in
        in-less R o x y ys first.1 (less x y first.0)

    first_in : (x : K) (xs : List K) → is_in R x (x ∷ xs) ≡ true
    first_in x xs = rw (tied_itself o x) refl

    rest_in : (x y z : K) (xs ys : List K) → x ≡ y → is_ascending R (x ∷ xs) ≡ true
        → (is_in R z (x ∷ xs) ≡ true → is_in R z (y ∷ ys) ≡ true) → is_in R z xs ≡ true → is_in R z ys ≡ true
    rest_in x y z xs ys e a p h = by (R z y) refl (p (or_right (is_eq (R z x)) (is_in R z xs) h))
      where
        by : (r : Ordering) → R z y ≡ r → is_eq r || is_in R z ys ≡ true → is_in R z ys ≡ true
        by Less q k = k
        by Greater q k = k
        by Equal q k =
            let again : is_in R x xs ≡ true = ap (λ w. is_in R w xs) (e ∙ sym (same z y q)) ∙ h in
            let never : is_in R x xs ≡ false = once x xs a in
            cc

    alike : (xs ys : List K) → is_ascending R xs ≡ true → is_ascending R ys ≡ true
        → ((z : K) → is_in R z xs ≡ true → is_in R z ys ≡ true) → ((z : K) → is_in R z ys ≡ true → is_in R z xs ≡ true) → xs ≡ ys
    alike [] [] a b p q = refl
    alike [] (y ∷ ys) a b p q = let none = q y (first_in y ys) in cc
    alike (x ∷ xs) [] a b p q = let none = p x (first_in x xs) in cc
    alike (x ∷ xs) (y ∷ ys) a b p q =
        let rest =
        alike xs ys (tail x xs a) (tail y ys b) (λ z. rest_in x y z xs ys first a (p z)) (λ z. rest_in y x z ys xs (sym first) b (q z)) in
        λ i. first i ∷ rest i
      where
        first : x ≡ y
        first = by (R x y) refl
          where
            by : (r : Ordering) → R x y ≡ r → x ≡ y
            by Less e =
                let absent = in-less R o x y ys b e in
                let there = p x (first_in x xs) in
                cc
            by Equal e = same x y e
            by Greater e =
                let absent = in-less R o y x xs a (o.antisymm y x ∙ ap ordering_reverse e) in
                let there = q y (first_in y ys) in
                cc

    -- ascending lists with the same elements are one
    pub determined : IsDeterminedByMembers R
    determined xs ys a b members =
        alike xs ys a b (λ z h. (membership z ys).1 ((members z).0 ((membership z xs).0 h)))
        (λ z h. (membership z xs).1 ((members z).1 ((membership z ys).0 h)))

-- ---- the orders

-- vertices are ordered by id
pub vertex_total : IsTotalOrder vertex_cmp
vertex_total = on_total (λ (v : Vertex). v.id) nat_cmp_total

-- triples are totally ordered
pub triple_total : IsTotalOrder triple_cmp
triple_total =
    then_total (on_total (λ (t : Triple). t.src) nat_cmp_total)
    (then_total (on_total (λ (t : Triple). t.label) nat_list_cmp_total) (on_total (λ (t : Triple). t.dst) nat_cmp_total))

then_equal : (r s : Ordering) → ordering_then r s ≡ Equal → (r ≡ Equal) × (s ≡ Equal)
then_equal Less s e = cc
then_equal Equal s e = (refl, e)
then_equal Greater s e = cc

-- triples that are equal in their order are the same
pub same_triple : (s t : Triple) → triple_cmp s t ≡ Equal → s ≡ t
same_triple s t e =
    let outer = then_equal (nat_cmp s.src t.src) (ordering_then (text_cmp s.label t.label) (nat_cmp s.dst t.dst)) e in
    let inner = then_equal (text_cmp s.label t.label) (nat_cmp s.dst t.dst) outer.1 in
    let src = exact_unsigned s.src t.src outer.0 in
    let label = exact_bytes s.label t.label inner.0 in
    let dst = exact_unsigned s.dst t.dst inner.1 in
    λ i. record { src = src i; label = label i; dst = dst i }

-- ---- label sets

put_all-ascending : (set names : List (List ℕ)) → is_ascending text_cmp set ≡ true → is_ascending text_cmp (put_all set names) ≡ true
put_all-ascending set [] a = a
put_all-ascending set (name ∷ names) a = put_all-ascending (put text_cmp name set) names (put-ascending text_cmp nat_list_cmp_total name set a)

-- a label set is ascending
pub label_set_ascending : LabelSetIsAscending
label_set_ascending names = put_all-ascending [] names refl

or_move : (a b c : Bool) → a || (b || c) ≡ (b || a) || c
or_move true true c = refl
or_move true false c = refl
or_move false true c = refl
or_move false false c = refl

-- what is in a set with more names is in the set or among those
pub in_put_all : (x : List ℕ) (set names : List (List ℕ)) → is_in text_cmp x (put_all set names) ≡ (is_in text_cmp x names || is_in text_cmp x set)
in_put_all x set [] = refl
in_put_all x set (name ∷ names) =
    in_put_all x (put text_cmp name set) names
    ∙ ap (λ b. is_in text_cmp x names || b) (adds_one text_cmp nat_list_cmp_total x name set)
    ∙ or_move (is_in text_cmp x names) (is_eq (text_cmp x name)) (is_in text_cmp x set)

or_false : (b : Bool) → b || false ≡ b
or_false true = refl
or_false false = refl

-- the test tells membership of names
pub text_membership : IsInIsMembership text_cmp
text_membership = membership text_cmp nat_list_cmp_total exact_bytes

-- a label set has the names
pub label_set_members : LabelSetHasTheNames
label_set_members names name =
    let e : is_in text_cmp name (label_set names) ≡ is_in text_cmp name names = in_put_all name [] names ∙ or_false (is_in text_cmp name names) in
    let there = text_membership name (label_set names) in
    let here = text_membership name names in
    (λ at. here.0 (sym e ∙ there.1 at), λ at. there.0 (e ∙ here.1 at))
