-- All rows after a change of one.
use Rattle.std.proofs.Common.{◌≡◌, ℕ, zero, suc, ◌<◌, Bool, true, false, Option, Some, None, List, refl, sym, ap, ◌∙◌, subst, ⊎_elim, inl, inr, arith}
use Rattle.std.specs.Prelude.{unwrap_or}
use Rattle.std.proofs.lemmas.Bool.{cases_eq}
use Rattle.std.proofs.lemmas.Option.{none-some, same_Some}
use Rattle.label_graph.specs.declared.link.Node.{Node}
use Rattle.label_graph.proofs.InverseLemmas.{CanTell}
use Rattle.block_graph.specs.declared.block.Block.{Block}
use Rattle.block_graph.specs.declared.chain.Chain.{Chain}
use Rattle.block_graph.specs.Blocks.{block_at, owner_of, len_of, next_of, owner_at, len_at, next_at, IsBlock}
use Rattle.block_graph.specs.Chains.{chain_at, IsEnd, IsRow, AreRows}
use Rattle.block_graph.proofs.ChainLemmas.{row_kept, row_first, row_opened, row_closed}

tell_bool : CanTell Bool
tell_bool true true = inl refl
tell_bool true false = inr (λ e. cc)
tell_bool false true = inr (λ e. cc)
tell_bool false false = inl refl

row_is : (s t : Bool) (v w : ℕ) → s ≡ t → v ≡ w → ◌≡◌ {A = Bool × ℕ} (s, v) (t, w)
row_is s t v w p q = cc

pub tell_row : CanTell (Bool × ℕ)
tell_row a b = ⊎_elim (λ p. ⊎_elim (λ q. inl (row_is a.0 b.0 a.1 b.1 p q)) (λ n. inr (λ e. n (ap (λ (x : Bool × ℕ). x.1) e))) (cases_eq a.1 b.1)) (λ n. inr (λ e. n (ap (λ (x : Bool × ℕ). x.0) e))) (tell_bool a.0 b.0)

-- chains of all rows but one
pub chains_others : (nodes nodes' : List (ℕ × Node Chain)) (s : Bool) (v : ℕ) → ((t : Bool) → (t ≡ s → ⊥) → chain_at nodes' (t, v) ≡ chain_at nodes (t, v)) → ((t : Bool) (q : ℕ) → (q ≡ v → ⊥) → chain_at nodes' (t, q) ≡ chain_at nodes (t, q)) →
    (r : Bool × ℕ) → (r ≡ (s, v) → ⊥) → chain_at nodes' r ≡ chain_at nodes r
chains_others nodes nodes' s v side others r n = ⊎_elim
    (λ e. (let P : ℕ → Type 0 = λ q. chain_at nodes' (r.0, q) ≡ chain_at nodes (r.0, q) in subst P (sym e) (side r.0 (λ f. n (row_is r.0 s r.1 v f e)))))
    (λ m. others r.0 r.1 m) (cases_eq r.1 v)

-- the first block of a row stands
pub owner_some : (o : Option Block) (r : Bool × ℕ) → owner_of o ≡ Some r → (x : Block) × (o ≡ Some x) × ((x.incoming, x.vertex) ≡ r)
owner_some None r e = absurd (none-some r e)
owner_some (Some x) r e = (x, refl, same_Some (x.incoming, x.vertex) r e)

pub first_owner : (owner : ℕ → Option (Bool × ℕ)) (next : ℕ → Option ℕ) (len : ℕ → ℕ) (r : Bool × ℕ) (n f : ℕ) → IsRow owner next len r n f → 0 < n → owner f ≡ Some r
first_owner owner next len r zero f h lt = absurd (omega arith)
first_owner owner next len r (suc n) f h lt = h.stands f (inl refl)

module _ (nodes nodes' : List (ℕ × Node Chain)) (slots slots' : List (Option Block)) (r : Bool × ℕ) (b : ℕ)
    (rows : AreRows nodes slots) (others : (q : ℕ) → (q ≡ b → ⊥) → block_at slots' q ≡ block_at slots q)
    (chains : (q : Bool × ℕ) → (q ≡ r → ⊥) → chain_at nodes' q ≡ chain_at nodes q) where
  owners : (k : ℕ) → (k ≡ b → ⊥) → owner_at slots' k ≡ owner_at slots k
  owners k n = ap owner_of (others k n)

  nexts : (k : ℕ) → (k ≡ b → ⊥) → next_at slots' k ≡ next_at slots k
  nexts k n = ap next_of (others k n)

  lens : (k : ℕ) → (k ≡ b → ⊥) → len_at slots' k ≡ len_at slots k
  lens k n = ap len_of (others k n)

  -- the rows of which it is no block
  other_row : (q : Bool × ℕ) → (q ≡ r → ⊥) → (owner_at slots b ≡ Some q → ⊥) → (owner_at slots' b ≡ Some q → ⊥) → IsRow (owner_at slots') (next_at slots') (len_at slots') q (chain_at nodes' q).blocks (chain_at nodes' q).first
  other_row q n was is =
      let P : Chain → Type 0 = λ c. IsRow (owner_at slots') (next_at slots') (len_at slots') q c.blocks c.first in
      let apart : (k : ℕ) → owner_at slots k ≡ Some q → k ≡ b → ⊥ = λ k e p. was (let Q : ℕ → Type 0 = λ z. owner_at slots z ≡ Some q in subst Q p e) in
      let apart' : (k : ℕ) → owner_at slots' k ≡ Some q → k ≡ b → ⊥ = λ k e p. is (let Q : ℕ → Type 0 = λ z. owner_at slots' z ≡ Some q in subst Q p e) in
      subst P (sym (chains q n)) (row_kept (owner_at slots) (owner_at slots') (next_at slots) (next_at slots') (len_at slots) (len_at slots') q (chain_at nodes q).blocks (chain_at nodes q).first (rows.row q)
      (λ k e. (owners k (apart k e) ∙ e, nexts k (apart k e), lens k (apart k e)))
      (λ k e. sym (owners k (apart' k e)) ∙ e))

  sound_set : ((x : Block) → block_at slots' b ≡ Some x → IsBlock x) → (k : ℕ) (x : Block) → block_at slots' k ≡ Some x → IsBlock x
  sound_set h k x e = ⊎_elim (λ p. h x (let P : ℕ → Type 0 = λ z. block_at slots' z ≡ Some x in subst P p e)) (λ n. rows.sound k x (sym (others k n) ∙ e)) (cases_eq k b)

  all_rows : ((x : Block) → block_at slots' b ≡ Some x → IsBlock x) → IsRow (owner_at slots') (next_at slots') (len_at slots') r (chain_at nodes' r).blocks (chain_at nodes' r).first →
      ((q : Bool × ℕ) → (q ≡ r → ⊥) → owner_at slots b ≡ Some q → ⊥) → ((q : Bool × ℕ) → (q ≡ r → ⊥) → owner_at slots' b ≡ Some q → ⊥) → AreRows nodes' slots'
  all_rows sound row was is = record {
    sound = sound_set sound;
    row = λ q. ⊎_elim (λ e. (let P : Bool × ℕ → Type 0 = λ z. IsRow (owner_at slots') (next_at slots') (len_at slots') z (chain_at nodes' z).blocks (chain_at nodes' z).first in subst P (sym e) row)) (λ n. other_row q n (was q n) (is q n)) (tell_row q r);
  }

  not_other : (o : Option (Bool × ℕ)) → o ≡ Some r → (q : Bool × ℕ) → (q ≡ r → ⊥) → o ≡ Some q → ⊥
  not_other o e q n f = n (sym (same_Some r q (sym e ∙ f)))

  not_none : (o : Option (Bool × ℕ)) → o ≡ None → (q : Bool × ℕ) → (q ≡ r → ⊥) → o ≡ Some q → ⊥
  not_none o e q n f = none-some q (sym e ∙ f)

  -- ---- the first block has an entry more or less
  pub rows_first : (x y : Block) → block_at slots b ≡ Some x → block_at slots' b ≡ Some y → ((x.incoming, x.vertex) ≡ r) → ((y.incoming, y.vertex) ≡ r) → next_of (Some y) ≡ next_of (Some x) → IsBlock y →
      (chain_at nodes r).first ≡ b → chain_at nodes' r ≡ chain_at nodes r → AreRows nodes' slots'
  rows_first x y was here xr yr next sound first same =
      let own : owner_at slots b ≡ Some r = ap owner_of was ∙ ap Some xr in
      let own' : owner_at slots' b ≡ Some r = ap owner_of here ∙ ap Some yr in
      let P : Chain → Type 0 = λ c. IsRow (owner_at slots') (next_at slots') (len_at slots') r c.blocks c.first in
      all_rows (λ z e. (let Q : Block → Type 0 = IsBlock in subst Q (same_Some y z (sym here ∙ e)) sound))
      (subst P (sym same) (row_first (owner_at slots) (owner_at slots') (next_at slots) (next_at slots') (len_at slots) (len_at slots') r (chain_at nodes r).blocks (chain_at nodes r).first (rows.row r)
      (λ k. ⊎_elim (λ e. (let Q : ℕ → Type 0 = λ z. owner_at slots' z ≡ owner_at slots z in subst Q (sym e) (own' ∙ sym own))) (λ n. owners k n) (cases_eq k b))
      (λ k. ⊎_elim (λ e. (let Q : ℕ → Type 0 = λ z. next_at slots' z ≡ next_at slots z in subst Q (sym e) (ap next_of here ∙ (next ∙ sym (ap next_of was))))) (λ n. nexts k n) (cases_eq k b))
      (λ k n. lens k (λ e. n (e ∙ sym first)))))
      (not_other (owner_at slots b) own) (not_other (owner_at slots' b) own')

  -- ---- a block more
  pub rows_opened : (x : Block) → block_at slots b ≡ None → block_at slots' b ≡ Some x → ((x.incoming, x.vertex) ≡ r) → IsBlock x → IsEnd (next_of (Some x)) (chain_at nodes r).blocks →
      (0 < (chain_at nodes r).blocks → unwrap_or (next_of (Some x)) 0 ≡ (chain_at nodes r).first) → (0 < (chain_at nodes r).blocks → len_at slots (chain_at nodes r).first ≡ 6) →
      chain_at nodes' r ≡ record { first = b; blocks = suc (chain_at nodes r).blocks } → AreRows nodes' slots'
  rows_opened x free here xr sound end at full same =
      let own : owner_at slots b ≡ None = ap owner_of free in
      let own' : owner_at slots' b ≡ Some r = ap owner_of here ∙ ap Some xr in
      let P : Chain → Type 0 = λ c. IsRow (owner_at slots') (next_at slots') (len_at slots') r c.blocks c.first in
      let E : Option ℕ → Type 0 = λ o. IsEnd o (chain_at nodes r).blocks in
      all_rows (λ z e. (let Q : Block → Type 0 = IsBlock in subst Q (same_Some x z (sym here ∙ e)) sound))
      (subst P (sym same) (row_opened (owner_at slots) (owner_at slots') (next_at slots) (next_at slots') (len_at slots) (len_at slots') r b owners nexts lens (chain_at nodes r).blocks (chain_at nodes r).first (rows.row r)
      own own' (subst E (sym (ap next_of here)) end) (λ lt. ap (λ (o : Option ℕ). unwrap_or o 0) (ap next_of here) ∙ at lt) full))
      (not_none (owner_at slots b) own) (not_other (owner_at slots' b) own')

  -- ---- the first block goes
  pub rows_closed : (x : Block) (n f : ℕ) → block_at slots b ≡ Some x → block_at slots' b ≡ None → ((x.incoming, x.vertex) ≡ r) → (chain_at nodes r).first ≡ b → (chain_at nodes r).blocks ≡ suc n →
      (0 < n → unwrap_or (next_of (Some x)) 0 ≡ f) → chain_at nodes' r ≡ record { first = f; blocks = n } → AreRows nodes' slots'
  rows_closed x n f was here xr first count at same =
      let own : owner_at slots b ≡ Some r = ap owner_of was ∙ ap Some xr in
      let own' : owner_at slots' b ≡ None = ap owner_of here in
      let P : Chain → Type 0 = λ c. IsRow (owner_at slots') (next_at slots') (len_at slots') r c.blocks c.first in
      let Q : ℕ → Type 0 = λ z. IsRow (owner_at slots) (next_at slots) (len_at slots) r (suc n) z in
      let R : ℕ → Type 0 = λ z. IsRow (owner_at slots) (next_at slots) (len_at slots) r z (chain_at nodes r).first in
      all_rows (λ z e. absurd (none-some z (sym here ∙ e)))
      (subst P (sym same) (row_closed (owner_at slots) (owner_at slots') (next_at slots) (next_at slots') (len_at slots) (len_at slots') r b owners nexts lens n f (subst Q first (subst R count (rows.row r)))
      (λ e. none-some r (sym own' ∙ e)) (λ lt. ap (λ (o : Option ℕ). unwrap_or o 0) (ap next_of was) ∙ at lt)))
      (not_other (owner_at slots b) own) (not_none (owner_at slots' b) own')

  -- ---- another entry in a block
  pub rows_written : (x y : Block) → block_at slots b ≡ Some x → block_at slots' b ≡ Some y → owner_of (Some y) ≡ owner_of (Some x) → next_of (Some y) ≡ next_of (Some x) → y.len ≡ x.len → IsBlock y → ((q : Bool × ℕ) → chain_at nodes' q ≡ chain_at nodes q) → AreRows nodes' slots'
  rows_written x y was here own next len sound same = record {
    sound = sound_set (λ z e. (let Q : Block → Type 0 = IsBlock in subst Q (same_Some y z (sym here ∙ e)) sound));
    row = λ q. (let P : Chain → Type 0 = λ c. IsRow (owner_at slots') (next_at slots') (len_at slots') q c.blocks c.first in
        subst P (sym (same q)) (row_kept (owner_at slots) (owner_at slots') (next_at slots) (next_at slots') (len_at slots) (len_at slots') q (chain_at nodes q).blocks (chain_at nodes q).first (rows.row q)
        (λ k e. (os k ∙ e, ns k, ls k)) (λ k e. sym (os k) ∙ e)));
  }
    where
      os : (k : ℕ) → owner_at slots' k ≡ owner_at slots k
      os k = ⊎_elim (λ e. (let Q : ℕ → Type 0 = λ z. owner_at slots' z ≡ owner_at slots z in subst Q (sym e) (ap owner_of here ∙ (own ∙ sym (ap owner_of was))))) (λ n. owners k n) (cases_eq k b)

      ns : (k : ℕ) → next_at slots' k ≡ next_at slots k
      ns k = ⊎_elim (λ e. (let Q : ℕ → Type 0 = λ z. next_at slots' z ≡ next_at slots z in subst Q (sym e) (ap next_of here ∙ (next ∙ sym (ap next_of was))))) (λ n. nexts k n) (cases_eq k b)

      ls : (k : ℕ) → len_at slots' k ≡ len_at slots k
      ls k = ⊎_elim (λ e. (let Q : ℕ → Type 0 = λ z. len_at slots' z ≡ len_at slots z in subst Q (sym e) (ap len_of here ∙ (len ∙ sym (ap len_of was))))) (λ n. lens k n) (cases_eq k b)
