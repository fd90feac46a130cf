-- Sets of names.
use Rattle.std.proofs.Common.{◌≡◌, ℕ, ◌≤◌, Bool, true, List, [], ◌∷◌, length, refl}
use Rattle.std.specs.declared.cmp.Ordering.{Ordering}
use Rattle.std.specs.declared.cmp.Ordering.TheVariants.{Less, Equal, Greater}
use Rattle.std.specs.Ordering.{is_eq}
use Rattle.std.specs.Cmp.Lexicographic.{nat_list_cmp_total}
use Rattle.std.specs.List.{list_all}
use Rattle.std.proofs.lemmas.Cmp.{tied_itself}
use Rattle.flux_model.specs.Text.{text_cmp}
use Rattle.flux_model.specs.Ordered.{is_ascending, is_in, put}
use Rattle.flux_model.specs.Labels.{put_all, label_set, is_within}
use Rattle.flux_model.proofs.OrderedLemmas.{put-ascending, put-list_all}
use Rattle.flux_laws.proofs.AscendingLemmas.{put-list_any, in-put, within-length}
use Rattle.flux_laws.proofs.TestLemmas.{both, or_right}
use Rattle.flux_laws.proofs.PlainLemmas.{list_all-weaker}

kept : (x : List ℕ) (set names : List (List ℕ)) → is_in text_cmp x set ≡ true → is_in text_cmp x (put_all set names) ≡ true
kept x set [] h = h
kept x set (name ∷ names) h = kept x (put text_cmp name set) names (put-list_any text_cmp (λ y. is_eq (text_cmp x y)) name set h)

in_put_all : (x : List ℕ) (set names : List (List ℕ)) → is_in text_cmp x names ≡ true → is_in text_cmp x (put_all set names) ≡ true
in_put_all x set [] h = cc
in_put_all x set (name ∷ names) h = by (text_cmp x name) refl (in_put_all x (put text_cmp name set) names)
  where
    by : (r : Ordering) → text_cmp x name ≡ r → (is_in text_cmp x names ≡ true → is_in text_cmp x (put_all (put text_cmp name set) names) ≡ true) → is_in text_cmp x (put_all (put text_cmp name set) names) ≡ true
    by Less e rest = rest (rw e at h)
    by Equal e rest = kept x (put text_cmp name set) names (in-put text_cmp nat_list_cmp_total x name set e)
    by Greater e rest = rest (rw e at h)

-- a test that a set and more names pass is passed by all together
pub put_all-list_all : (p : List ℕ → Bool) (set names : List (List ℕ)) → list_all p set ≡ true → list_all p names ≡ true → list_all p (put_all set names) ≡ true
put_all-list_all p set [] s a = s
put_all-list_all p set (name ∷ names) s a =
    let two = both (p name) (list_all p names) a in
    put_all-list_all p (put text_cmp name set) names (put-list_all text_cmp p name set two.0 s) two.1

-- a set with more names is ascending
pub put_all-ascending : (set names : List (List ℕ)) → is_ascending text_cmp set ≡ true → is_ascending text_cmp (put_all set names) ≡ true
put_all-ascending set [] a = a
put_all-ascending set (name ∷ names) a = put_all-ascending (put text_cmp name set) names (put-ascending text_cmp nat_list_cmp_total name set a)

-- names that are among others are no more than these
pub length-label_set : (names others : List (List ℕ)) → is_within names others ≡ true → length (label_set names) ≤ length (label_set others)
length-label_set names others w =
    within-length text_cmp nat_list_cmp_total (label_set others) (label_set names) (put_all-ascending [] others refl) (put_all-ascending [] names refl)
    (list_all-weaker (λ x. is_in text_cmp x others) (λ x. is_in text_cmp x (label_set others)) (λ x h. in_put_all x [] others h) (label_set names)
    (put_all-list_all (λ x. is_in text_cmp x others) [] names refl w))

-- each name is among these names
pub is_within-refl : (names : List (List ℕ)) → is_within names names ≡ true
is_within-refl [] = refl
is_within-refl (name ∷ names) =
    rw (tied_itself nat_list_cmp_total name) (list_all-weaker (λ x. is_in text_cmp x names) (λ x. is_in text_cmp x (name ∷ names)) (λ x h. or_right (is_eq (text_cmp x name)) (is_in text_cmp x names) h) names (is_within-refl names))
