-- Walks along the blocks of a row.
use Rattle.std.proofs.Common.{◌≡◌, ℕ, zero, suc, ◌+◌, ◌*◌, ◌<◌, ◌≤◌, Bool, true, false, cond, Option, Some, None, List, [], ◌∷◌, ◌++◌, length, refl, sym, ap, ◌∙◌, subst, ⊎_elim, ◌⊎◌, inl, inr, arith, length-append}
use Rattle.std.specs.Prelude.{◌==◌, nat_lt, unwrap_or, IsSome, slice_get}
use Rattle.std.proofs.lemmas.Bool.{eqb-true, eq-eqb, lt-ltb, ltb-true, true≢false, cases_eq}
use Rattle.std.proofs.lemmas.Option.{none-some, same_Some}
use Rattle.label_graph.specs.declared.link.RowEntry.{RowEntry}
use Rattle.flux_model.specs.Members.{In, AreOnce}
use Rattle.flux_model.proofs.MemberLemmas.{append_in, in_append_left, in_append_right}
use Rattle.block_graph.specs.declared.block.Block.{Block}
use Rattle.block_graph.specs.Blocks.{block_at, len_at, next_at, entry_at, entry_of, IsBlock}
use Rattle.block_graph.specs.Chains.{keys_from, IsEnd, AreFull, IsLinked}
use Rattle.block_graph.specs.Walks.{entry_before, entries_down, entries_from, left_from}
use Rattle.block_graph.proofs.SeenLemmas.{get_within}

-- ---- the ends of blocks

-- each block has another behind it but the last
abbrev pub Ends : (ℕ → Option ℕ) → ℕ → ℕ → Type 0
Ends next zero f = Unit {0}
Ends next (suc n) f = IsEnd (next f) n × Ends next n (unwrap_or (next f) 0)

ends_full : (next : ℕ → Option ℕ) (len : ℕ → ℕ) (n f : ℕ) → AreFull next len n f → Ends next n f
ends_full next len zero f h = tt
ends_full next len (suc n) f h = (h.1, ends_full next len n (unwrap_or (next f) 0) h.2)

pub ends_linked : (next : ℕ → Option ℕ) (len : ℕ → ℕ) (n f : ℕ) → IsLinked next len n f → Ends next n f
ends_linked next len zero f h = tt
ends_linked next len (suc n) f h = (h.0, ends_full next len n (unwrap_or (next f) 0) h.1)

none_not : (o : Option ℕ) (g : ℕ) → o ≡ Some g → o ≡ None → ⊥
none_not o g e f = none-some g (sym f ∙ e)

some_not : (o : Option ℕ) → IsSome o → o ≡ None → ⊥
some_not None h e = absurd (true≢false (sym h))
some_not (Some x) h e = absurd (none-some x (sym e))

next_in : (next : ℕ → Option ℕ) (n f b g : ℕ) → Ends next (suc n) f → In (keys_from next (suc n) f) b → next b ≡ Some g → In (keys_from next n (unwrap_or (next f) 0)) g
next_in next zero f b g h (inl p) e = let P : ℕ → Type 0 = λ z. next z ≡ Some g in absurd (none_not (next f) g (subst P p e) h.0)
next_in next zero f b g h (inr i) e = absurd i
next_in next (suc n) f b g h (inl p) e = let P : ℕ → Type 0 = λ z. next z ≡ Some g in inl (sym (ap (λ (o : Option ℕ). unwrap_or o 0) (subst P p e)))
next_in next (suc n) f b g h (inr i) e = inr (next_in next n (unwrap_or (next f) 0) b g h.1 i e)

pub next_among : (next : ℕ → Option ℕ) (n f b g : ℕ) → Ends next n f → In (keys_from next n f) b → next b ≡ Some g → In (keys_from next n f) g
next_among next zero f b g h i e = absurd i
next_among next (suc n) f b g h i e = inr (next_in next n f b g h i e)

apart_from : (l : List ℕ) (f b : ℕ) → (In l f → ⊥) → In l b → (f == b) ≡ false
apart_from l f b n i = by (f == b) refl
  where
    by : (c : Bool) → (f == b) ≡ c → (f == b) ≡ false
    by true e = let P : ℕ → Type 0 = λ z. In l z in absurd (n (subst P (sym (eqb-true f b e)) i))
    by false e = e

module _ (slots : List (Option Block)) where
  -- ---- one entry on

  pub left_cons : (n f b k : ℕ) (t : RowEntry) → In (keys_from (next_at slots) n f) b → entry_at slots (b, k) ≡ Some t → left_from slots n f b (suc k) ≡ t ∷ left_from slots n f b k
  left_cons zero f b k t i e = absurd i
  left_cons (suc n) f b k t i e = by (f == b) refl i (left_cons n (unwrap_or (next_at slots f) 0) b k t)
    where
      by : (c : Bool) → (f == b) ≡ c → In (keys_from (next_at slots) (suc n) f) b →
          (In (keys_from (next_at slots) n (unwrap_or (next_at slots f) 0)) b → entry_at slots (b, k) ≡ Some t → left_from slots n (unwrap_or (next_at slots f) 0) b (suc k) ≡ t ∷ left_from slots n (unwrap_or (next_at slots f) 0) b k) →
          left_from slots (suc n) f b (suc k) ≡ t ∷ left_from slots (suc n) f b k
      by true q j ih = rw (q, e) refl
      by false q (inl p) ih = absurd (true≢false (sym (eq-eqb f b (sym p)) ∙ q))
      by false q (inr j) ih = rw q (ih j e)

  pub left_first : (n f : ℕ) → left_from slots (suc n) f f (len_at slots f) ≡ entries_from slots (suc n) f
  left_first n f = rw (eq-eqb f f refl) refl

  left_start : (n f g : ℕ) → 0 < n → f ≡ g → left_from slots n f g (len_at slots g) ≡ entries_from slots n f
  left_start zero f g lt e = absurd (omega arith)
  left_start (suc n) f g lt e = let P : ℕ → Type 0 = λ z. left_from slots (suc n) f z (len_at slots z) ≡ entries_from slots (suc n) f in subst P e (left_first n f)

  some_below : (n f g : ℕ) → IsEnd (next_at slots f) n → next_at slots f ≡ Some g → 0 < n
  some_below zero f g h e = absurd (none_not (next_at slots f) g e h)
  some_below (suc n) f g h e = omega arith

  -- ---- from the end of a block to the next

  pub left_over : (n f b g : ℕ) → Ends (next_at slots) n f → AreOnce (keys_from (next_at slots) n f) → In (keys_from (next_at slots) n f) b → next_at slots b ≡ Some g → left_from slots n f b 0 ≡ left_from slots n f g (len_at slots g)
  left_over zero f b g h o i e = absurd i
  left_over (suc n) f b g h o i e = by (f == b) refl i (left_over n (unwrap_or (next_at slots f) 0) b g h.1 o.1)
    where
      away : (f == g) ≡ false
      away = apart_from (keys_from (next_at slots) n (unwrap_or (next_at slots f) 0)) f g o.0 (next_in (next_at slots) n f b g h i e)

      by : (c : Bool) → (f == b) ≡ c → In (keys_from (next_at slots) (suc n) f) b →
          (In (keys_from (next_at slots) n (unwrap_or (next_at slots f) 0)) b → next_at slots b ≡ Some g → left_from slots n (unwrap_or (next_at slots f) 0) b 0 ≡ left_from slots n (unwrap_or (next_at slots f) 0) g (len_at slots g)) →
          left_from slots (suc n) f b 0 ≡ left_from slots (suc n) f g (len_at slots g)
      by true q j ih =
          let P : ℕ → Type 0 = λ z. next_at slots z ≡ Some g in
          let at : next_at slots f ≡ Some g = subst P (sym (eqb-true f b q)) e in
          rw (q, away) (sym (left_start n (unwrap_or (next_at slots f) 0) g (some_below n f g h.0 at) (ap (λ (o : Option ℕ). unwrap_or o 0) at)))
      by false q (inl p) ih = absurd (true≢false (sym (eq-eqb f b (sym p)) ∙ q))
      by false q (inr j) ih = rw (q, away) (ih j e)

  pub left_none : (n f b : ℕ) → Ends (next_at slots) n f → In (keys_from (next_at slots) n f) b → next_at slots b ≡ None → left_from slots n f b 0 ≡ []
  left_none zero f b h i e = absurd i
  left_none (suc n) f b h i e = by (f == b) refl i (left_none n (unwrap_or (next_at slots f) 0) b h.1)
    where
      nothing : (m : ℕ) → IsEnd (next_at slots f) m → next_at slots f ≡ None → entries_from slots m (unwrap_or (next_at slots f) 0) ≡ []
      nothing zero g p = refl
      nothing (suc m) g p = absurd (some_not (next_at slots f) g p)

      by : (c : Bool) → (f == b) ≡ c → In (keys_from (next_at slots) (suc n) f) b →
          (In (keys_from (next_at slots) n (unwrap_or (next_at slots f) 0)) b → next_at slots b ≡ None → left_from slots n (unwrap_or (next_at slots f) 0) b 0 ≡ []) →
          left_from slots (suc n) f b 0 ≡ []
      by true q j ih = let P : ℕ → Type 0 = λ z. next_at slots z ≡ None in rw q (nothing n h.0 (subst P (sym (eqb-true f b q)) e))
      by false q (inl p) ih = absurd (true≢false (sym (eq-eqb f b (sym p)) ∙ q))
      by false q (inr j) ih = rw q (ih j e)

  -- ---- which entries there are

  before_in : (o : Option RowEntry) (ts : List RowEntry) (t : RowEntry) → In (entry_before o ts) t → (o ≡ Some t) ⊎ In ts t
  before_in None ts t i = inr i
  before_in (Some s) ts t (inl e) = inl (ap Some (sym e))
  before_in (Some s) ts t (inr i) = inr i

  in_before : (o : Option RowEntry) (ts : List RowEntry) (t : RowEntry) → (o ≡ Some t) ⊎ In ts t → In (entry_before o ts) t
  in_before None ts t (inl e) = absurd (none-some t e)
  in_before None ts t (inr i) = i
  in_before (Some s) ts t (inl e) = inl (sym (same_Some s t e))
  in_before (Some s) ts t (inr i) = inr i

  down_at : (b m : ℕ) (t : RowEntry) → In (entries_down slots b m) t → (k : ℕ) × (k < m) × (entry_at slots (b, k) ≡ Some t)
  down_at b zero t i = absurd i
  down_at b (suc m) t i = ⊎_elim (λ e. (m, omega arith, e)) (λ j. let r = down_at b m t j in (r.0, (let l = r.1 in omega (arith, l)), r.2)) (before_in (entry_at slots (b, m)) (entries_down slots b m) t i)

  at_down : (b m k : ℕ) (t : RowEntry) → k < m → entry_at slots (b, k) ≡ Some t → In (entries_down slots b m) t
  at_down b zero k t lt e = absurd (omega (arith, lt))
  at_down b (suc m) k t lt e = in_before (entry_at slots (b, m)) (entries_down slots b m) t (⊎_elim
      (λ p. inl (let P : ℕ → Type 0 = λ z. entry_at slots (b, z) ≡ Some t in subst P p e))
      (λ n. inr (at_down b m k t (omega (arith, lt, n)) e)) (cases_eq k m))

  pub entry_place : (n f : ℕ) (t : RowEntry) → In (entries_from slots n f) t → (b : ℕ) × (k : ℕ) × In (keys_from (next_at slots) n f) b × (entry_at slots (b, k) ≡ Some t)
  entry_place zero f t i = absurd i
  entry_place (suc n) f t i = ⊎_elim
      (λ j. let r = down_at f (len_at slots f) t j in (f, r.0, inl refl, r.2))
      (λ j. let r = entry_place n (unwrap_or (next_at slots f) 0) t j in (r.0, r.1, inr r.2, r.3))
      (append_in (entries_down slots f (len_at slots f)) (entries_from slots n (unwrap_or (next_at slots f) 0)) t i)

  below_len : (o : Option Block) (k : ℕ) (t : RowEntry) → entry_of k o ≡ Some t → (x : Block) × (o ≡ Some x) × (k < x.len)
  below_len None k t e = absurd (none-some t e)
  below_len (Some x) k t e = by (nat_lt k x.len) refl
    where
      by : (c : Bool) → nat_lt k x.len ≡ c → (y : Block) × (Some x ≡ Some y) × (k < y.len)
      by true q = (x, refl, ltb-true k x.len q)
      by false q = absurd (none-some t (sym (ap (λ (c : Bool). cond c (slice_get x.entries k) None) q) ∙ e))

  pub below : (b k : ℕ) (t : RowEntry) → entry_at slots (b, k) ≡ Some t → k < len_at slots b
  below b k t e = let r = below_len (block_at slots b) k t e in let l : len_at slots b ≡ r.0.len = ap len_of_block r.1 in let s = r.2 in omega (arith, l, s)
    where
      len_of_block : Option Block → ℕ
      len_of_block None = 0
      len_of_block (Some x) = x.len

  pub place_entry : (n f b k : ℕ) (t : RowEntry) → In (keys_from (next_at slots) n f) b → entry_at slots (b, k) ≡ Some t → In (entries_from slots n f) t
  place_entry zero f b k t i e = absurd i
  place_entry (suc n) f b k t (inl p) e =
      let P : ℕ → Type 0 = λ z. entry_at slots (z, k) ≡ Some t in
      in_append_left (entries_down slots f (len_at slots f)) (entries_from slots n (unwrap_or (next_at slots f) 0)) t (at_down f (len_at slots f) k t (below f k t (subst P p e)) (subst P p e))
  place_entry (suc n) f b k t (inr i) e = in_append_right (entries_down slots f (len_at slots f)) (entries_from slots n (unwrap_or (next_at slots f) 0)) t (place_entry n (unwrap_or (next_at slots f) 0) b k t i e)

  -- ---- each once

  once_append : (xs ys : List RowEntry) → AreOnce xs → AreOnce ys → ((t : RowEntry) → In xs t → In ys t → ⊥) → AreOnce (xs ++ ys)
  once_append [] ys a b d = b
  once_append (x ∷ xs) ys a b d = ((λ i. ⊎_elim a.0 (λ j. d x (inl refl) j) (append_in xs ys x i)), once_append xs ys a.1 b (λ t i j. d t (inr i) j))

  once_before : (o : Option RowEntry) (ts : List RowEntry) → AreOnce ts → ((t : RowEntry) → o ≡ Some t → In ts t → ⊥) → AreOnce (entry_before o ts)
  once_before None ts h n = h
  once_before (Some t) ts h n = (n t refl, h)

  once_down : (b m : ℕ) → ((i j : ℕ) (t : RowEntry) → entry_at slots (b, i) ≡ Some t → entry_at slots (b, j) ≡ Some t → i ≡ j) → AreOnce (entries_down slots b m)
  once_down b zero h = tt
  once_down b (suc m) h = once_before (entry_at slots (b, m)) (entries_down slots b m) (once_down b m h)
      (λ t e i. let r = down_at b m t i in let p : m ≡ r.0 = h m r.0 t e r.2 in let l = r.1 in omega (arith, p, l))

  pub once_from : (n f : ℕ) → AreOnce (keys_from (next_at slots) n f) →
      ((b c i j : ℕ) (t : RowEntry) → In (keys_from (next_at slots) n f) b → In (keys_from (next_at slots) n f) c → entry_at slots (b, i) ≡ Some t → entry_at slots (c, j) ≡ Some t → (b ≡ c) × (i ≡ j)) → AreOnce (entries_from slots n f)
  once_from zero f o h = tt
  once_from (suc n) f o h = once_append (entries_down slots f (len_at slots f)) (entries_from slots n (unwrap_or (next_at slots f) 0))
      (once_down f (len_at slots f) (λ i j t p q. (h f f i j t (inl refl) (inl refl) p q).1))
      (once_from n (unwrap_or (next_at slots f) 0) o.1 (λ b c i j t p q. h b c i j t (inr p) (inr q)))
      (λ t i j.
      let p = down_at f (len_at slots f) t i in
      let q = entry_place n (unwrap_or (next_at slots f) 0) t j in
      let e : f ≡ q.0 = (h f q.0 p.0 q.1 t (inl refl) (inr q.2) p.2 q.3).0 in
      let P : ℕ → Type 0 = λ z. In (keys_from (next_at slots) n (unwrap_or (next_at slots f) 0)) z in
      o.0 (subst P (sym e) q.2))

  -- ---- how many

  before_some : (o : Option RowEntry) (ts : List RowEntry) (t : RowEntry) → o ≡ Some t → length (entry_before o ts) ≡ suc (length ts)
  before_some None ts t e = absurd (none-some t e)
  before_some (Some s) ts t e = refl

  pub block_entry : (b k : ℕ) (x : Block) → block_at slots b ≡ Some x → IsBlock x → k < x.len → (t : RowEntry) × (entry_at slots (b, k) ≡ Some t)
  block_entry b k x e s lt =
      let r = s.room in
      let f = s.fits in
      let g = get_within x.entries k (omega (arith, r, f, lt)) in
      (g.0, ap (entry_of k) e ∙ (ap (λ (c : Bool). cond c (slice_get x.entries k) None) (lt-ltb k x.len lt) ∙ g.1))

  length_down : (b m : ℕ) (x : Block) → block_at slots b ≡ Some x → IsBlock x → m ≤ x.len → length (entries_down slots b m) ≡ m
  length_down b zero x e s le = refl
  length_down b (suc m) x e s le =
      let t = block_entry b m x e s (omega (arith, le)) in
      before_some (entry_at slots (b, m)) (entries_down slots b m) t.0 t.1 ∙ ap suc (length_down b m x e s (omega (arith, le)))

  module _ (sound : (b : ℕ) (x : Block) → block_at slots b ≡ Some x → IsBlock x) where
    length_block : (o : Option Block) (b : ℕ) → block_at slots b ≡ o → IsSome o → length (entries_down slots b (len_at slots b)) ≡ len_at slots b
    length_block None b e h = absurd (true≢false (sym h))
    length_block (Some x) b e h =
        let l : len_at slots b ≡ x.len = ap len_of_block e in
        length_down b (len_at slots b) x e (sound b x e) (omega (arith, l))
      where
        len_of_block : Option Block → ℕ
        len_of_block None = 0
        len_of_block (Some x) = x.len

    length_full : (n f : ℕ) → AreFull (next_at slots) (len_at slots) n f → ((b : ℕ) → In (keys_from (next_at slots) n f) b → IsSome (block_at slots b)) → length (entries_from slots n f) ≡ 6 * n
    length_full zero f h s = refl
    length_full (suc n) f h s =
        let a = length-append (entries_down slots f (len_at slots f)) (entries_from slots n (unwrap_or (next_at slots f) 0)) in
        let d = length_block (block_at slots f) f refl (s f (inl refl)) in
        let r = length_full n (unwrap_or (next_at slots f) 0) h.2 (λ b i. s b (inr i)) in
        let l = h.0 in omega (arith, a, d, r, l)

    pub length_linked : (n f : ℕ) → IsLinked (next_at slots) (len_at slots) (suc n) f → ((b : ℕ) → In (keys_from (next_at slots) (suc n) f) b → IsSome (block_at slots b)) → length (entries_from slots (suc n) f) ≡ 6 * n + len_at slots f
    length_linked n f h s =
        let a = length-append (entries_down slots f (len_at slots f)) (entries_from slots n (unwrap_or (next_at slots f) 0)) in
        let d = length_block (block_at slots f) f refl (s f (inl refl)) in
        let r = length_full n (unwrap_or (next_at slots f) 0) h.1 (λ b i. s b (inr i)) in
        omega (arith, a, d, r)
