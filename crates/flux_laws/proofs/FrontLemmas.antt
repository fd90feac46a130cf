-- An ascending list that grows at its end.
use Rattle.std.proofs.Common.{◌≡◌, true, false, ◌&&◌, List, [], ◌∷◌, ◌++◌, refl, sym, ap, ◌∙◌}
use Rattle.std.specs.declared.cmp.Ordering.{Ordering}
use Rattle.std.specs.declared.cmp.Ordering.TheVariants.{Greater}
use Rattle.std.specs.Ordering.{is_lt}
use Rattle.std.specs.Cmp.{IsTotalOrder}
use Rattle.std.proofs.lemmas.List.Folds.{list_all-append}
use Rattle.flux_model.specs.Ordered.{is_ascending, is_in, put}
use Rattle.flux_model.proofs.OrderedLemmas.{in-greater}
use Rattle.flux_laws.proofs.TestLemmas.{both}
use Rattle.flux_laws.proofs.AscendingLemmas.{below_all, below_rest, tail_ascending, less, greater}

module _ {K : Type 0} (R : K → K → Ordering) (o : IsTotalOrder R) where
  above_front : (y x : K) (ys rest : List K) → is_ascending R (y ∷ (ys ++ x ∷ rest)) ≡ true → R x y ≡ Greater
  above_front y x ys rest a =
      let all : (below_all R o y ys && below_all R o y (x ∷ rest)) ≡ true = sym (list_all-append (λ z. is_lt (R y z)) ys (x ∷ rest)) ∙ below_rest R o y (ys ++ x ∷ rest) a in
      let here = both (is_lt (R y x)) (below_all R o y rest) (both (below_all R o y ys) (below_all R o y (x ∷ rest)) all).1 in
      greater R o x y (less R o (R y x) here.0)

  -- an element of an ascending list is not in the front before it
  pub absent_in_front : (x : K) (front rest : List K) → is_ascending R (front ++ x ∷ rest) ≡ true → is_in R x front ≡ false
  absent_in_front x [] rest a = refl
  absent_in_front x (y ∷ ys) rest a =
      in-greater R x y ys (above_front y x ys rest a) ∙ absent_in_front x ys rest (tail_ascending R o y (ys ++ x ∷ rest) a)

  -- put into that front it goes behind it
  pub put_behind : (x : K) (front rest : List K) → is_ascending R (front ++ x ∷ rest) ≡ true → put R x front ≡ front ++ x ∷ []
  put_behind x [] rest a = refl
  put_behind x (y ∷ ys) rest a =
      let above = above_front y x ys rest a in
      let more = put_behind x ys rest (tail_ascending R o y (ys ++ x ∷ rest) a) in
      rw above (ap (λ l. y ∷ l) more)
