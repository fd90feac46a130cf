-- Chains after a change of one block.
use Rattle.std.proofs.Common.{◌≡◌, ℕ, zero, suc, ◌<◌, Bool, true, false, Option, Some, None, List, [], ◌∷◌, refl, sym, ap, ◌∙◌, subst, ⊎_elim, inl, inr, arith}
use Rattle.std.specs.Prelude.{unwrap_or, nat_eq}
use Rattle.flux_model.proofs.MemberLemmas.{in_any, any_in}
use Rattle.std.proofs.lemmas.Bool.{cases_eq, eqb-true, eq-eqb}
use Rattle.std.proofs.lemmas.Option.{none-some}
use Rattle.flux_model.specs.Members.{In, AreOnce}
use Rattle.label_graph.specs.declared.link.Node.{Node}
use Rattle.block_graph.specs.declared.chain.Chain.{Chain}
use Rattle.block_graph.specs.Chains.{chain_of, with_chain, keys_from, IsEnd, AreFull, IsLinked, IsAmong, IsRow}

-- ---- a block of a list

pub to_in : (l : List ℕ) (b : ℕ) → IsAmong l b → In l b
to_in l b h = let r = in_any (nat_eq b) l h in let P : ℕ → Type 0 = λ z. In l z in subst P (sym (eqb-true b r.0 r.2)) r.1

pub from_in : (l : List ℕ) (b : ℕ) → In l b → IsAmong l b
from_in l b i = any_in (nat_eq b) l b i (eq-eqb b b refl)

-- ---- the same blocks

pub keys_same : (next next' : ℕ → Option ℕ) (n b : ℕ) → ((k : ℕ) → In (keys_from next n b) k → next' k ≡ next k) → keys_from next' n b ≡ keys_from next n b
keys_same next next' zero b h = refl
keys_same next next' (suc n) b h = rw (h b (inl refl)) (ap (λ (l : List ℕ). b ∷ l) (keys_same next next' n (unwrap_or (next b) 0) (λ k i. h k (inr i))))

full_same : (next next' : ℕ → Option ℕ) (len len' : ℕ → ℕ) (n b : ℕ) → ((k : ℕ) → In (keys_from next n b) k → (next' k ≡ next k) × (len' k ≡ len k)) → AreFull next len n b → AreFull next' len' n b
full_same next next' len len' zero b h f = tt
full_same next next' len len' (suc n) b h f =
    let s = h b (inl refl) in
    rw (s.0, s.1) (f.0, f.1, full_same next next' len len' n (unwrap_or (next b) 0) (λ k i. h k (inr i)) f.2)

linked_same : (next next' : ℕ → Option ℕ) (len len' : ℕ → ℕ) (n b : ℕ) → AreOnce (keys_from next n b) → ((k : ℕ) → In (keys_from next n b) k → next' k ≡ next k) → ((k : ℕ) → In (keys_from next n b) k → (k ≡ b → ⊥) → len' k ≡ len k) →
    IsLinked next len n b → IsLinked next' len' n b
linked_same next next' len len' zero b o h g f = tt
linked_same next next' len len' (suc n) b o h g f =
    rw (h b (inl refl)) (
      f.0,
      full_same next next' len len' n (unwrap_or (next b) 0)
          (λ k i. (h k (inr i), g k (inr i) (λ e. o.0 (let P : ℕ → Type 0 = λ z. In (keys_from next n (unwrap_or (next b) 0)) z in subst P e i)))) f.1,
    )

module _ (owner owner' : ℕ → Option (Bool × ℕ)) (next next' : ℕ → Option ℕ) (len len' : ℕ → ℕ) (r : Bool × ℕ) where
  -- a row whose blocks stay
  pub row_kept : (n b : ℕ) → IsRow owner next len r n b → ((k : ℕ) → owner k ≡ Some r → (owner' k ≡ Some r) × (next' k ≡ next k) × (len' k ≡ len k)) → ((k : ℕ) → owner' k ≡ Some r → owner k ≡ Some r) → IsRow owner' next' len' r n b
  row_kept n b h same back =
      let keys : keys_from next' n b ≡ keys_from next n b = keys_same next next' n b (λ k i. (same k (h.stands k i)).1) in
      record {
        stands = λ k i. (let P : List ℕ → Type 0 = λ l. In l k in (same k (h.stands k (subst P keys i))).0);
        all = λ k e. (let P : List ℕ → Type 0 = λ l. IsAmong l k in subst P (sym keys) (h.all k (back k e)));
        once = (let P : List ℕ → Type 0 = λ l. AreOnce l in subst P (sym keys) h.once);
        linked = linked_same next next' len len' n b h.once (λ k i. (same k (h.stands k i)).1) (λ k i d. (same k (h.stands k i)).2) h.linked;
      }

  -- a row whose first block has more or fewer entries
  pub row_first : (n b : ℕ) → IsRow owner next len r n b → ((k : ℕ) → owner' k ≡ owner k) → ((k : ℕ) → next' k ≡ next k) → ((k : ℕ) → (k ≡ b → ⊥) → len' k ≡ len k) → IsRow owner' next' len' r n b
  row_first n b h os ns ls =
      let keys : keys_from next' n b ≡ keys_from next n b = keys_same next next' n b (λ k i. ns k) in
      record {
        stands = λ k i. (let P : List ℕ → Type 0 = λ l. In l k in os k ∙ h.stands k (subst P keys i));
        all = λ k e. (let P : List ℕ → Type 0 = λ l. IsAmong l k in subst P (sym keys) (h.all k (sym (os k) ∙ e)));
        once = (let P : List ℕ → Type 0 = λ l. AreOnce l in subst P (sym keys) h.once);
        linked = linked_same next next' len len' n b h.once (λ k i. ns k) (λ k i d. ls k d) h.linked;
      }

-- ---- a block more in front

-- all blocks of a row but one, each once
record IsTail (owner : ℕ → Option (Bool × ℕ)) (r : Bool × ℕ) (b : ℕ) (l : List ℕ) : Type 0 where
  stands : (k : ℕ) → In l k → owner k ≡ Some r
  all : (k : ℕ) → (k ≡ b → ⊥) → owner k ≡ Some r → In l k
  once : AreOnce l
  out : In l b → ⊥

full_of_linked : (next : ℕ → Option ℕ) (len : ℕ → ℕ) (n b : ℕ) → IsLinked next len n b → (0 < n → len b ≡ 6) → AreFull next len n b
full_of_linked next len zero b h f = tt
full_of_linked next len (suc n) b h f = (f (omega arith), h.0, h.1)

module _ (owner owner' : ℕ → Option (Bool × ℕ)) (next next' : ℕ → Option ℕ) (len len' : ℕ → ℕ) (r : Bool × ℕ) (b : ℕ)
    (os : (k : ℕ) → (k ≡ b → ⊥) → owner' k ≡ owner k) (ns : (k : ℕ) → (k ≡ b → ⊥) → next' k ≡ next k) (ls : (k : ℕ) → (k ≡ b → ⊥) → len' k ≡ len k) where
  apart : (n f : ℕ) → IsRow owner next len r n f → owner b ≡ None → (k : ℕ) → In (keys_from next n f) k → k ≡ b → ⊥
  apart n f h free k i e = let P : ℕ → Type 0 = λ z. owner z ≡ Some r in none-some r (sym free ∙ subst P e (h.stands k i))

  pub row_opened : (n f : ℕ) → IsRow owner next len r n f → owner b ≡ None → owner' b ≡ Some r → IsEnd (next' b) n → (0 < n → unwrap_or (next' b) 0 ≡ f) → (0 < n → len f ≡ 6) → IsRow owner' next' len' r (suc n) b
  row_opened zero f h free own end at full = record {
    stands = λ k i. ⊎_elim (λ e. (let P : ℕ → Type 0 = λ z. owner' z ≡ Some r in subst P (sym e) own)) (λ j. absurd j) i;
    all = λ k e. from_in (keys_from next' (suc zero) b) k (⊎_elim (λ p. inl p) (λ d. absurd (to_in [] k (h.all k (sym (os k d) ∙ e)))) (cases_eq k b));
    once = (λ i. i, tt);
    linked = (end, tt);
  }
  row_opened (suc n) f h free own end at full =
      let same : unwrap_or (next' b) 0 ≡ f = at (omega arith) in
      let out = apart (suc n) f h free in
      let keys : keys_from next' (suc n) f ≡ keys_from next (suc n) f = keys_same next next' (suc n) f (λ k i. ns k (out k i)) in
      rest (subst (IsTail owner' r b) (sym (ap (keys_from next' (suc n)) same ∙ keys)) record {
        stands = λ k i. os k (out k i) ∙ h.stands k i;
        all = λ k d e. to_in (keys_from next (suc n) f) k (h.all k (sym (os k d) ∙ e));
        once = h.once;
        out = λ i. out b i refl;
      }) (let Q : ℕ → Type 0 = λ z. AreFull next' len' (suc n) z in
      subst Q (sym same) (full_same next next' len len' (suc n) f (λ k i. (ns k (out k i), ls k (out k i))) (full_of_linked next len (suc n) f h.linked full)))
    where
      rest : IsTail owner' r b (keys_from next' (suc n) (unwrap_or (next' b) 0)) → AreFull next' len' (suc n) (unwrap_or (next' b) 0) → IsRow owner' next' len' r (suc (suc n)) b
      rest t f = record {
        stands = λ k i. ⊎_elim (λ e. (let P : ℕ → Type 0 = λ z. owner' z ≡ Some r in subst P (sym e) own)) (λ j. t.stands k j) i;
        all = λ k e. from_in (keys_from next' (suc (suc n)) b) k (⊎_elim (λ p. inl p) (λ d. inr (t.all k d e)) (cases_eq k b));
        once = (t.out, t.once);
        linked = (end, f);
      }

  -- ---- the first block goes

  linked_of_full : (n c : ℕ) → AreFull next' len' n c → IsLinked next' len' n c
  linked_of_full zero c f = tt
  linked_of_full (suc n) c f = (f.1, f.2)

  pub row_closed : (n f : ℕ) → IsRow owner next len r (suc n) b → (owner' b ≡ Some r → ⊥) → (0 < n → unwrap_or (next b) 0 ≡ f) → IsRow owner' next' len' r n f
  row_closed zero f h gone at = record {
    stands = λ k i. absurd i;
    all = λ k e. ⊎_elim (λ p. absurd (gone (let P : ℕ → Type 0 = λ z. owner' z ≡ Some r in subst P p e))) (λ d. absurd (⊎_elim (λ p. d p) (λ j. j) (to_in (keys_from next (suc zero) b) k (h.all k (sym (os k d) ∙ e))))) (cases_eq k b);
    once = tt;
    linked = tt;
  }
  row_closed (suc n) f h gone at =
      let same : unwrap_or (next b) 0 ≡ f = at (omega arith) in
      let out : (k : ℕ) → In (keys_from next (suc n) (unwrap_or (next b) 0)) k → k ≡ b → ⊥ = λ k i e. h.once.0 (let P : ℕ → Type 0 = λ z. In (keys_from next (suc n) (unwrap_or (next b) 0)) z in subst P e i) in
      let keys : keys_from next' (suc n) (unwrap_or (next b) 0) ≡ keys_from next (suc n) (unwrap_or (next b) 0) = keys_same next next' (suc n) (unwrap_or (next b) 0) (λ k i. ns k (out k i)) in
      let Row : ℕ → Type 0 = λ z. IsRow owner' next' len' r (suc n) z in
      subst Row same record {
        stands = λ k i. (let P : List ℕ → Type 0 = λ l. In l k in let j = subst P keys i in os k (out k j) ∙ h.stands k (inr j));
        all = λ k e. ⊎_elim (λ p. absurd (gone (let P : ℕ → Type 0 = λ z. owner' z ≡ Some r in subst P p e)))
            (λ d. from_in (keys_from next' (suc n) (unwrap_or (next b) 0)) k (⊎_elim (λ p. absurd (d p)) (λ j. (let P : List ℕ → Type 0 = λ l. In l k in subst P (sym keys) j)) (to_in (keys_from next (suc (suc n)) b) k (h.all k (sym (os k d) ∙ e))))) (cases_eq k b);
        once = (let P : List ℕ → Type 0 = λ l. AreOnce l in subst P (sym keys) h.once.1);
        linked = linked_of_full (suc n) (unwrap_or (next b) 0) (full_same next next' len len' (suc n) (unwrap_or (next b) 0) (λ k i. (ns k (out k i), ls k (out k i))) h.linked.1);
      }

-- ---- where a chain begins, after it was written

pub chain_written : (incoming : Bool) (c : Chain) (p : Node Chain) → chain_of incoming (Some (with_chain incoming c p)) ≡ c
chain_written true c p = refl
chain_written false c p = refl

pub chain_beside : (s incoming : Bool) (c : Chain) (p : Node Chain) → (s ≡ incoming → ⊥) →
    chain_of s (Some (with_chain incoming c p)) ≡ chain_of s (Some p)
chain_beside true true c p n = absurd (n refl)
chain_beside true false c p n = refl
chain_beside false true c p n = refl
chain_beside false false c p n = absurd (n refl)
