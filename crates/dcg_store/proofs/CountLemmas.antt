-- Finite maps: changes that come to the same, and how a change moves the count of the entries that pass a test.
use Rattle.std.proofs.Common.{◌≡◌, ◌≢◌, ℕ, ◌+◌, ◌≤◌, Bool, true, false, cond, List, [], ◌∷◌, refl, sym, ap, subst, ◌∙◌, arith}
use Rattle.std.specs.Prelude.{None, Some, is_some, count_by}
use Rattle.std.specs.declared.cmp.Ordering.{Ordering}
use Rattle.std.specs.declared.cmp.Ordering.TheVariants.{Less, Equal, Greater}
use Rattle.std.specs.Ordering.{is_eq, eq_by_cmp}
use Rattle.std.specs.Cmp.{IsTotalOrder, tied_itself}
use Rattle.std.specs.FinMap.{FinMap, IsAntisymmetric, entries, get, insert, remove, len, find, put, get-insert, get-remove, get-entries, entries-insert, len-entries, same_map}
use Rattle.std.specs.FinMap.Entries.{by_order}
use Rattle.std.proofs.lemmas.List.Sums.{sum_by-cons, count_by-le-length}

abbrev pub bit : Bool → ℕ
bit b = cond b 1 0

shadowed : {A : Type 0} (b : Bool) (x y z : A) → cond b x (cond b y z) ≡ cond b x z
shadowed true x y z = refl
shadowed false x y z = refl

pub equal : (r : Ordering) → is_eq r ≡ true → r ≡ Equal
equal Less e = absurd (let bad : false ≡ true = e in cc)
equal Equal e = refl
equal Greater e = absurd (let bad : false ≡ true = e in cc)

not_none : {A : Type 0} (x : A) → Some x ≢ None
not_none x e = absurd (let bad : true ≡ false = ap is_some e in cc)

module _ {K X : Type 0} {R : K → K → Ordering} (total : IsTotalOrder R) (same : IsAntisymmetric R) where
  -- what stands, put again
  pub insert_found : (m : FinMap R X) (k : K) (v : X) → get m k ≡ Some v → insert m k v ≡ m
  insert_found m k v found =
      same_map total same (insert m k v) m
      (λ q. get-insert total m k v q
      ∙ elim (eq_by_cmp R q k) as (λ b. eq_by_cmp R q k ≡ b → cond b (Some v) (get m q) ≡ get m q) [
        | true ↦ λ t. sym found ∙ ap (get m) (sym (same q k (equal (R q k) t)))
        | false ↦ λ t. refl
      ] refl)

  pub remove_missing : (m : FinMap R X) (k : K) → get m k ≡ None → remove m k ≡ m
  remove_missing m k missing =
      same_map total same (remove m k) m
      (λ q. get-remove total m k q
      ∙ elim (eq_by_cmp R q k) as (λ b. eq_by_cmp R q k ≡ b → cond b None (get m q) ≡ get m q) [
        | true ↦ λ t. sym missing ∙ ap (get m) (sym (same q k (equal (R q k) t)))
        | false ↦ λ t. refl
      ] refl)

  pub insert-remove : (m : FinMap R X) (k : K) (v : X) → insert (remove m k) k v ≡ insert m k v
  insert-remove m k v =
      same_map total same (insert (remove m k) k v) (insert m k v)
      (λ q. get-insert total (remove m k) k v q ∙ ap (cond (eq_by_cmp R q k) (Some v)) (get-remove total m k q)
      ∙ shadowed (eq_by_cmp R q k) (Some v) None (get m q) ∙ sym (get-insert total m k v q))

  pub remove-insert : (m : FinMap R X) (k : K) (v : X) → remove (insert m k v) k ≡ remove m k
  remove-insert m k v =
      same_map total same (remove (insert m k v) k) (remove m k)
      (λ q. get-remove total (insert m k v) k q ∙ ap (cond (eq_by_cmp R q k) None) (get-insert total m k v q)
      ∙ shadowed (eq_by_cmp R q k) None (Some v) (get m q) ∙ sym (get-remove total m k q))

  pub insert-insert : (m : FinMap R X) (k : K) (v w : X) → insert (insert m k v) k w ≡ insert m k w
  insert-insert m k v w =
      same_map total same (insert (insert m k v) k w) (insert m k w)
      (λ q. get-insert total (insert m k v) k w q ∙ ap (cond (eq_by_cmp R q k) (Some w)) (get-insert total m k v q)
      ∙ shadowed (eq_by_cmp R q k) (Some w) (Some v) (get m q) ∙ sym (get-insert total m k w q))

  pub get_inserted : (m : FinMap R X) (k : K) (v : X) → get (insert m k v) k ≡ Some v
  get_inserted m k v = get-insert total m k v k ∙ ap (λ r. cond (is_eq r) (Some v) (get m k)) (tied_itself total k)

  pub get_removed : (m : FinMap R X) (k : K) → get (remove m k) k ≡ None
  get_removed m k = get-remove total m k k ∙ ap (λ r. cond (is_eq r) None (get m k)) (tied_itself total k)

  -- ---- counts

  module _ (p : K × X → Bool) where
    abbrev pub count : FinMap R X → ℕ
    count m = count_by p (entries m)

    count_by-put : (k : K) (v : X) (es : List (K × X)) → find R k es ≡ None → count_by p (put R k v es) ≡ bit (p (k, v)) + count_by p es
    count_by-put k v [] missing = sum_by-cons (λ e. bit (p e)) (k, v) []
    count_by-put k v (e ∷ es) missing =
        elim (R k e.0) as (λ r. cond (is_eq r) (Some e.1) (find R k es) ≡ None → count_by p (by_order r ((k, v) ∷ e ∷ es) ((e.0, v) ∷ es) (e ∷ put R k v es)) ≡ bit (p (k, v)) + count_by p (e ∷ es)) [
          | Less ↦ λ _. sum_by-cons (λ e. bit (p e)) (k, v) (e ∷ es)
          | Equal ↦ λ h. absurd (not_none e.1 h)
          | Greater ↦ λ h.
              let rest = count_by-put k v es h in
              let new = sum_by-cons (λ e. bit (p e)) e (put R k v es) in
              let old = sum_by-cons (λ e. bit (p e)) e es in
              omega (arith, rest, new, old)
        ] missing

    pub count-insert_new : (m : FinMap R X) (k : K) (v : X) → get m k ≡ None → count (insert m k v) ≡ bit (p (k, v)) + count m
    count-insert_new m k v missing =
        ap (count_by p) (entries-insert total m k v) ∙ count_by-put k v (entries m) (sym (get-entries m k) ∙ missing)

    pub count-remove : (m : FinMap R X) (k : K) (v : X) → get m k ≡ Some v → bit (p (k, v)) + count (remove m k) ≡ count m
    count-remove m k v found =
        sym (count-insert_new (remove m k) k v (get_removed m k)) ∙ ap count (insert-remove m k v ∙ insert_found m k v found)

    pub count-insert_found : (m : FinMap R X) (k : K) (v w : X) → get m k ≡ Some v → bit (p (k, v)) + count (insert m k w) ≡ bit (p (k, w)) + count m
    count-insert_found m k v w found =
        let gone = count-remove m k v found in
        let put_back = ap count (sym (insert-remove m k w)) ∙ count-insert_new (remove m k) k w (get_removed m k) in
        omega (arith, gone, put_back)

    pub count-le-len : (m : FinMap R X) → count m ≤ len m
    count-le-len m = subst (λ n. count m ≤ n) (sym (len-entries m)) (count_by-le-length p (entries m))
