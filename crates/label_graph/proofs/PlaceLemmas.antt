-- Places in rows.
use Rattle.std.proofs.Common.{◌≡◌, ℕ, ◌<◌, ◌≤◌, Bool, true, false, cond, Option, Some, None, List, [], ◌∷◌, ◌++◌, length, refl, sym, ap}
use Rattle.std.proofs.Common.{◌∙◌, subst, ⊎_elim, ◌⊎◌, inl, inr, arith, zero, suc, length-append}
use Rattle.std.specs.Prelude.{◌==◌, option_map, slice_get, IsSome, is_some}
use Rattle.std.specs.Map.{lookup}
use Rattle.std.proofs.lemmas.Bool.{and_parts, eqb-true, eq-eqb, cases_eq, cases_lt}
use Rattle.std.proofs.lemmas.Option.{none-some, same_Some, slice_get_within, slice_get_past, some_pair_parts}
use Rattle.label_graph.specs.declared.link.Link.{Link}
use Rattle.label_graph.specs.declared.link.RowEntry.{RowEntry}
use Rattle.label_graph.specs.Places.{AreInverse, link_eq, link_at, IsPulled}
use Rattle.label_graph.proofs.InverseLemmas.{CanTell, added, removed, moved}

packed : (a b c x y z : ℕ) → a ≡ x → b ≡ y → c ≡ z → ◌≡◌ {A = Link} (record { src = a; label = b; dst = c })
    (record { src = x; label = y; dst = z })
packed a b c x y z p q r = cc

-- links that compare as equal are the same
pub link_same : (k l : Link) → link_eq k l ≡ true → k ≡ l
link_same k l h =
    let a = and_parts (k.src == l.src) _ h in
    let b = and_parts (k.label == l.label) _ a.1 in
    packed _ _ _ _ _ _ (eqb-true _ _ a.0) (eqb-true _ _ b.0) (eqb-true _ _ b.1)

-- a link compares as equal to itself
pub link_refl : (k : Link) → link_eq k k ≡ true
link_refl k = rw (eq-eqb k.src k.src refl, eq-eqb k.label k.label refl, eq-eqb k.dst k.dst refl) refl

-- links can be told apart
pub tell_link : CanTell Link
tell_link k l = by (link_eq k l) refl
  where
    by : (b : Bool) → link_eq k l ≡ b → (k ≡ l) ⊎ (k ≡ l → ⊥)
    by true e = inl (link_same k l e)
    by false e = inr (λ p. let q : link_eq k k ≡ false = subst (λ (x : Link). link_eq k x ≡ false) (sym p) e in let r = link_refl k in cc)

-- places can be told apart
pub tell_pair : CanTell (ℕ × ℕ)
tell_pair a b = ⊎_elim (λ p. ⊎_elim (λ q. inl (pair _ _ _ _ p q)) (λ n. inr (λ e. n (ap (λ (x : ℕ × ℕ). x.1) e))) (cases_eq a.1 b.1)) (λ n. inr (λ e. n (ap (λ (x : ℕ × ℕ). x.0) e))) (cases_eq a.0 b.0)
  where
    pair : (x y z w : ℕ) → x ≡ z → y ≡ w → ◌≡◌ {A = ℕ × ℕ} (x, y) (z, w)
    pair x y z w p q = cc

-- links that are not the same do not compare as equal
pub link_apart : (k l : Link) → (l ≡ k → ⊥) → link_eq k l ≡ false
link_apart k l n = by (link_eq k l) refl
  where
    by : (b : Bool) → link_eq k l ≡ b → link_eq k l ≡ false
    by true e = absurd (n (sym (link_same k l e)))
    by false e = e

pair_same : (x y z w : ℕ) → x ≡ z → y ≡ w → ◌≡◌ {A = ℕ × ℕ} (x, y) (z, w)
pair_same x y z w p q = cc

past_from_none : {X : Type 0} (xs : List X) (i : ℕ) → slice_get xs i ≡ None → length xs ≤ i
past_from_none [] i e = omega arith
past_from_none (x ∷ xs) zero e = absurd (none-some x (sym e))
past_from_none (x ∷ xs) (suc i) e = let r = past_from_none xs i e in omega arith

-- where the value at one key changes, and the part that is read of it does not
pub same_part : {W : Type 0} {X : Type 0} (part : Link → W → X) (m n : List (Link × W)) (k : Link) (old new : W) →
    lookup (link_eq k) m ≡ Some old → part k new ≡ part k old →
    ((q : Link) → lookup (link_eq q) n ≡ cond (link_eq k q) (Some new) (lookup (link_eq q) m)) →
    (q : Link) → option_map (part q) (lookup (link_eq q) n) ≡ option_map (part q) (lookup (link_eq q) m)
same_part {X} part m n k old new was same set q = by (link_eq k q) refl
  where
    by : (b : Bool) → link_eq k q ≡ b → option_map (part q) (lookup (link_eq q) n) ≡ option_map (part q) (lookup (link_eq q) m)
    by true e = let p = link_same k q e in let P : Link → Type 0 = λ x. option_map (part x) (lookup (link_eq x) n) ≡ option_map (part x) (lookup (link_eq x) m) in
        subst P p (rw (set k, was, link_refl k) (ap Some same))
    by false e = rw (set q, e) refl

-- what a mapped option tells of the option
pub option_map_some : {X Y : Type 0} (f : X → Y) (o : Option X) (y : Y) → option_map f o ≡ Some y → (x : X) × (o ≡ Some x) × (f x ≡ y)
option_map_some f None y h = absurd (none-some y h)
option_map_some f (Some x) y h = (x, refl, same_Some (f x) y h)

-- what was mapped to some was some
pub IsSome-mapped : {X Y : Type 0} (f : X → Y) (o : Option X) (y : Y) → option_map f o ≡ Some y → IsSome o
IsSome-mapped f None y h = absurd (none-some y h)
IsSome-mapped f (Some x) y h = refl

-- a mapped option is some where the option is
pub is_some-mapped : {X Y : Type 0} (f : X → Y) (o : Option X) → is_some (option_map f o) ≡ is_some o
is_some-mapped f None = refl
is_some-mapped f (Some x) = refl

-- a place within the first list has the same in both joined
pub slice_get_in : {X : Type 0} (xs ys : List X) (i : ℕ) → i < length xs → slice_get (xs ++ ys) i ≡ slice_get xs i
slice_get_in [] ys i lt = absurd (omega arith)
slice_get_in (x ∷ xs) ys zero lt = refl
slice_get_in (x ∷ xs) ys (suc i) lt = slice_get_in xs ys i (omega arith)

-- what is put behind a list stands at its length
pub slice_get_pushed : {X : Type 0} (xs : List X) (y : X) → slice_get (xs ++ y ∷ []) (length xs) ≡ Some y
slice_get_pushed [] y = refl
slice_get_pushed (x ∷ xs) y = slice_get_pushed xs y

pub no_pair : (a b : ℕ × ℕ) → (a ≡ b → ⊥) → a.0 ≡ b.0 → a.1 ≡ b.1 → ⊥
no_pair a b n p q = n (pair_same a.0 a.1 b.0 b.1 p q)

-- ---- one entry more
module _ (link : ℕ → RowEntry → Link) (rows rows' : ℕ → List RowEntry) (v : ℕ) (t : RowEntry) (row : rows' v ≡ rows v ++ t ∷ [])
    (others : (q : ℕ) → (q ≡ v → ⊥) → rows' q ≡ rows q) where
  pushed_apart : (a : ℕ × ℕ) → (a ≡ (v, length (rows v)) → ⊥) → link_at link rows' a ≡ link_at link rows a
  pushed_apart a n = ⊎_elim here (λ m. ap (λ (l : List RowEntry). option_map (link a.0) (slice_get l a.1)) (others a.0 m)) (cases_eq a.0 v)
    where
      same : (l : List RowEntry) → slice_get (l ++ t ∷ []) a.1 ≡ slice_get l a.1 → rows' v ≡ l ++ t ∷ [] → rows v ≡ l →
          slice_get (rows' v) a.1 ≡ slice_get (rows v) a.1
      same l h e w = cc

      entry : a.0 ≡ v → slice_get (rows' v) a.1 ≡ slice_get (rows v) a.1
      entry p = same (rows v) (⊎_elim (slice_get_in (rows v) (t ∷ []) a.1)
          (λ past. let out : a.1 ≡ length (rows v) → ⊥ = no_pair a (v, length (rows v)) n p in
          slice_get_past (rows v ++ t ∷ []) a.1 (omega (arith, length-append (rows v) (t ∷ []))) ∙ sym (slice_get_past (rows v) a.1 past)) (cases_lt a.1 (length (rows v)))) row refl

      here : a.0 ≡ v → link_at link rows' a ≡ link_at link rows a
      here p = let P : ℕ → Type 0 = λ x. option_map (link a.0) (slice_get (rows' x) a.1) ≡ option_map (link a.0) (slice_get (rows x) a.1) in
          subst P (sym p) (ap (option_map (link a.0)) (entry p))

  -- rows and places belong together after an entry was put behind its row
  pub pushed_placed : (g g' : Link → Option (ℕ × ℕ)) → AreInverse (link_at link rows) g → g (link v t) ≡ None →
      ((q : Link) → g' q ≡ cond (link_eq (link v t) q) (Some (v, length (rows v))) (g q)) → AreInverse (link_at link rows') g'
  pushed_placed g g' h free set =
      added tell_pair tell_link (link_at link rows) (link_at link rows') g g' (v, length (rows v)) (link v t) h
      (ap (option_map (link v)) (slice_get_past (rows v) (length (rows v)) (omega arith)))
      free
      (rw row (ap (option_map (link v)) (slice_get_pushed (rows v) t)))
      (rw (set (link v t), link_refl (link v t)) refl)
      pushed_apart
      (λ q n. rw (set q, link_apart (link v t) q n) refl)

-- ---- one entry less
module _ (link : ℕ → RowEntry → Link) (rows : ℕ → List RowEntry) (v i : ℕ) (k : Link) (p : Link → Option (ℕ × ℕ))
    (h : AreInverse (link_at link rows) (λ q. cond (link_eq k q) (Some (v, i)) (p q))) where
  at_first : link_at link rows (v, i) ≡ Some k
  at_first = h.back k (v, i) (rw (link_refl k) refl)

  -- the place of a link that stands is within its row
  pub pulled_within : i < length (rows v)
  pulled_within = let x = option_map_some (link v) (slice_get (rows v) i) k at_first in slice_get_within (rows v) i x.0 x.1

module _ (link : ℕ → RowEntry → Link) (rows rows' : ℕ → List RowEntry) (v i : ℕ) (k : Link) (p : Link → Option (ℕ × ℕ))
    (h : AreInverse (link_at link rows) (λ q. cond (link_eq k q) (Some (v, i)) (p q))) (gone : p k ≡ None)
    (row : IsPulled i (rows v) (rows' v)) (others : (q : ℕ) → (q ≡ v → ⊥) → rows' q ≡ rows q) where
  g0 : Link → Option (ℕ × ℕ)
  g0 q = cond (link_eq k q) (Some (v, i)) (p q)

  pulled_apart : (a : ℕ × ℕ) → (a ≡ (v, i) → ⊥) → (a ≡ (v, length (rows' v)) → ⊥) → link_at link rows' a ≡ link_at link rows a
  pulled_apart a n m = ⊎_elim here (λ d. ap (λ (l : List RowEntry). option_map (link a.0) (slice_get l a.1)) (others a.0 d)) (cases_eq a.0 v)
    where
      entry : a.0 ≡ v → slice_get (rows' v) a.1 ≡ slice_get (rows v) a.1
      entry e =
          let out : a.1 ≡ i → ⊥ = no_pair a (v, i) n e in
          let end : a.1 ≡ length (rows' v) → ⊥ = no_pair a (v, length (rows' v)) m e in
          ⊎_elim (row.others a.1 out) (λ past. slice_get_past (rows' v) a.1 past ∙ sym (slice_get_past (rows v) a.1 (let s = row.shorter in omega arith))) (cases_lt a.1 (length (rows' v)))

      here : a.0 ≡ v → link_at link rows' a ≡ link_at link rows a
      here e = let P : ℕ → Type 0 = λ x. option_map (link a.0) (slice_get (rows' x) a.1) ≡ option_map (link a.0) (slice_get (rows x) a.1) in
          subst P (sym e) (ap (option_map (link a.0)) (entry e))

  -- it was the last
  pub last_left : slice_get (rows' v) i ≡ None → AreInverse (link_at link rows') p
  last_left none =
      let within = pulled_within link rows v i k p h in
      let past : length (rows' v) ≤ i = past_from_none (rows' v) i none in
      let end : i ≡ length (rows' v) = let s = row.shorter in omega arith in
      removed tell_pair tell_link (link_at link rows) (link_at link rows') (λ q. cond (link_eq k q) (Some (v, i)) (p q)) p (v, i) k h (rw (link_refl k) refl)
      (ap (option_map (link v)) none) gone
      (λ a n. pulled_apart a n (rw end at n))
      (λ q n. rw (link_apart k q n) refl)

  -- another was moved
  moved_from : (t : RowEntry) → slice_get (rows' v) i ≡ Some t →
      cond (link_eq k (link v t)) (Some (v, i)) (p (link v t)) ≡ Some (v, length (rows' v))
  moved_from t some =
      let lt : i < length (rows' v) = slice_get_within (rows' v) i t some in
      h.there (v, length (rows' v)) (link v t) (ap (option_map (link v)) (sym (row.moved lt) ∙ some))

  moved_other : (t : RowEntry) → slice_get (rows' v) i ≡ Some t → link v t ≡ k → ⊥
  moved_other t some e =
      let lt : i < length (rows' v) = slice_get_within (rows' v) i t some in
      let q : cond (link_eq k k) (Some (v, i)) (p k) ≡ Some (v, length (rows' v)) = rw e at (moved_from t some) in
      let s : Some (v, i) ≡ Some (v, length (rows' v)) = rw (link_refl k) at q in
      let u : (v ≡ v) × (i ≡ length (rows' v)) = some_pair_parts v v i (length (rows' v)) s in omega (arith, u.1)

  -- the entry that was moved into the gap was noted at the end of the row
  pub moved_stands : (t : RowEntry) → slice_get (rows' v) i ≡ Some t → p (link v t) ≡ Some (v, length (rows' v))
  moved_stands t some = rw (link_apart k (link v t) (moved_other t some)) at (moved_from t some)

  -- rows and places belong together after an entry left its row and the place of the one that was moved was mended
  pub moved_left : (t : RowEntry) → slice_get (rows' v) i ≡ Some t → (p' : Link → Option (ℕ × ℕ)) →
      ((q : Link) → p' q ≡ cond (link_eq (link v t) q) (Some (v, i)) (p q)) → AreInverse (link_at link rows') p'
  moved_left t some p' set =
      moved tell_pair tell_link (link_at link rows) (link_at link rows') (λ q. cond (link_eq k q) (Some (v, i)) (p q)) p' (v, i) (v, length (rows' v)) k (link v t) h
      (rw (link_refl k) refl) (moved_from t some)
      (ap (option_map (link v)) (slice_get_past (rows' v) (length (rows' v)) (omega arith)))
      (ap (option_map (link v)) some)
      (set k ∙ rw (link_apart (link v t) k (λ e. moved_other t some (sym e))) gone)
      (set (link v t) ∙ rw (link_refl (link v t)) refl)
      pulled_apart
      (λ q n m. set q ∙ rw (link_apart (link v t) q n, link_apart k q m) refl)
