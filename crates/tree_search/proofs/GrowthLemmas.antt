-- How what is found grows, turn by turn.
use Rattle.std.proofs.Common.{◌≡◌, List, [], ◌∷◌, ◌++◌, refl, sym, ap, ◌∙◌, subst, append_assoc}
use Rattle.std.specs.Prelude.{IsPermutation, Result, Ok, Err, OnErr}
use Rattle.std.proofs.lemmas.List.Sorted.{IsPermutation-trans, IsPermutation-append_left, IsPermutation-append_right, IsPermutation-refl}
use Rattle.tree_search.specs.Members.{GrewUpTo, GrewByAll, GrewBySome}

-- a list with nothing behind it is itself
pub append_none : {X : Type 0} (xs : List X) → xs ++ [] ≡ xs
append_none [] = refl
append_none (x ∷ xs) = ap (λ l. x ∷ l) (append_none xs)

-- what holds, holds where there is an error
pub any_err : {T E P : Type 0} (r : Result T E) → P → OnErr r P
any_err (Ok x) h = tt
any_err (Err e) h = h

module _ {X : Type 0} where
  -- at first all is left
  pub grew_none : (old rest all : List X) → IsPermutation rest all → GrewUpTo old old rest all
  grew_none old rest all p = record { more = []; is = sym (append_none old); permutation = p }

  -- in the end nothing is left
  pub grew_all : (old new all : List X) → GrewUpTo old new [] all → GrewByAll old new all
  grew_all old new all grew =
      record { more = grew.more; is = grew.is; permutation = subst (λ l. IsPermutation l all) (append_none grew.more) grew.permutation }

  -- what comes first is found
  pub grew_turn : (old mid new head rest all : List X) → GrewUpTo old mid (head ++ rest) all → GrewByAll mid new head → GrewUpTo old new rest all
  grew_turn old mid new head rest all grew next =
      record {
        more = grew.more ++ next.more;
        is = next.is ∙ ap (λ l. l ++ next.more) grew.is ∙ append_assoc old grew.more next.more;
        permutation = subst (λ l. IsPermutation l all) (sym (append_assoc grew.more next.more rest)) (IsPermutation-trans _ _ _ (IsPermutation-append_right grew.more (next.more ++ rest) (head ++ rest) (IsPermutation-append_left rest next.more head next.permutation)) grew.permutation);
      }

  -- nothing comes first
  pub grew_skip : (old mid head rest all : List X) → GrewUpTo old mid (head ++ rest) all → head ≡ [] → GrewUpTo old mid rest all
  grew_skip old mid head rest all grew none = subst (λ l. GrewUpTo old mid (l ++ rest) all) none grew

  -- of what comes first only some is found
  pub grew_stop : (old mid new head rest all : List X) → GrewUpTo old mid (head ++ rest) all → GrewBySome mid new head → GrewBySome old new all
  grew_stop old mid new head rest all grew (left, next) = (
    left ++ rest,
    record {
      more = grew.more ++ next.more;
      is = next.is ∙ ap (λ l. l ++ next.more) grew.is ∙ append_assoc old grew.more next.more;
      permutation = subst (λ l. IsPermutation l all) (sym (append_assoc grew.more next.more (left ++ rest))) (IsPermutation-trans _ _ _ (IsPermutation-append_right grew.more (next.more ++ (left ++ rest)) (head ++ rest) (subst (λ l. IsPermutation l (head ++ rest)) (append_assoc next.more left rest) (IsPermutation-append_left rest (next.more ++ left) head next.permutation))) grew.permutation);
    },
  )

  -- one is found
  pub grew_one : (old new : List X) (x : X) (all : List X) → new ≡ old ++ x ∷ [] → all ≡ x ∷ [] → GrewByAll old new all
  grew_one old new x all is one = record { more = x ∷ []; is = is; permutation = subst (λ l. IsPermutation (x ∷ []) l) (sym one) (IsPermutation-refl (x ∷ [])) }

  -- nothing is found yet
  pub grew_by_none : (old new all : List X) → new ≡ old → GrewBySome old new all
  grew_by_none old new all same = (all, record { more = []; is = same ∙ sym (append_none old); permutation = IsPermutation-refl all })
