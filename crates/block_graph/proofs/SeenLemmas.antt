-- What stands at the places of a block after a change of it.
use Rattle.std.proofs.Common.{◌≡◌, ℕ, zero, suc, ◌+◌, ◌<◌, ◌≤◌, Bool, true, false, cond, Option, Some, None, List, [], ◌∷◌, length, refl, sym, ap, ◌∙◌, subst, ⊎_elim, arith}
use Rattle.std.specs.Prelude.{nat_lt, option_map, slice_get, slice_set}
use Rattle.std.proofs.lemmas.Bool.{cases_eq, cases_lt, lt-ltb, ltb-true}
use Rattle.label_graph.specs.declared.link.RowEntry.{RowEntry}
use Rattle.label_graph.proofs.PlaceLemmas.{no_pair}
use Rattle.block_graph.specs.declared.block.Block.{Block}
use Rattle.block_graph.specs.Blocks.{block_at, entry_of, seen_of, seen_at, row_link, IsBlock, appended, written}

pub get_set : {X : Type 0} (xs : List X) (i : ℕ) (y : X) → i < length xs → slice_get (slice_set xs i y) i ≡ Some y
get_set [] i y lt = absurd (omega arith)
get_set (x ∷ xs) zero y lt = refl
get_set (x ∷ xs) (suc i) y lt = get_set xs i y (omega arith)

pub get_set_other : {X : Type 0} (xs : List X) (i j : ℕ) (y : X) → (j ≡ i → ⊥) → slice_get (slice_set xs i y) j ≡ slice_get xs j
get_set_other [] i j y n = refl
get_set_other (x ∷ xs) zero zero y n = absurd (n refl)
get_set_other (x ∷ xs) zero (suc j) y n = refl
get_set_other (x ∷ xs) (suc i) zero y n = refl
get_set_other (x ∷ xs) (suc i) (suc j) y n = get_set_other xs i j y (λ e. n (ap suc e))

pub get_within : {X : Type 0} (xs : List X) (i : ℕ) → i < length xs → (x : X) × (slice_get xs i ≡ Some x)
get_within [] i lt = absurd (omega arith)
get_within (x ∷ xs) zero lt = (x, refl)
get_within (x ∷ xs) (suc i) lt = get_within xs i (omega arith)

pub not_below : (i n : ℕ) → n ≤ i → nat_lt i n ≡ false
not_below i n h = by (nat_lt i n) refl
  where
    by : (b : Bool) → nat_lt i n ≡ b → nat_lt i n ≡ false
    by true e = let r = ltb-true i n e in absurd (omega (arith, r))
    by false e = e

module _ (slots slots' : List (Option Block)) (b : ℕ) (others : (q : ℕ) → (q ≡ b → ⊥) → block_at slots' q ≡ block_at slots q) where
  -- a place of another block, or with the same entry
  seen_apart : (n : ℕ) → ((i : ℕ) → (i ≡ n → ⊥) → seen_at slots' (b, i) ≡ seen_at slots (b, i)) → (a : ℕ × ℕ) → (a ≡ (b, n) → ⊥) → seen_at slots' a ≡ seen_at slots a
  seen_apart n h a d = ⊎_elim
      (λ e. (let P : ℕ → Type 0 = λ z. seen_at slots' (z, a.1) ≡ seen_at slots (z, a.1) in subst P (sym e) (h a.1 (λ f. no_pair a (b, n) d e f))))
      (λ m. ap (seen_of a.1) (others a.0 m)) (cases_eq a.0 b)

  -- ---- an entry more at its end
  module _ (x : Block) (t : RowEntry) (was : block_at slots b ≡ Some x) (sound : IsBlock x) (here : block_at slots' b ≡ Some (appended t x)) where
    pub append_here : x.len < 6 → seen_at slots' (b, x.len) ≡ Some (x.incoming, row_link (x.incoming, x.vertex) t)
    append_here lt =
        let s = sound.room in
        ap (seen_of x.len) here ∙ rw (lt-ltb x.len (x.len + 1) (omega arith), get_set x.entries x.len t (omega (arith, s, lt))) refl

    append_entry : (i : ℕ) → (i ≡ x.len → ⊥) → entry_of i (Some (appended t x)) ≡ entry_of i (Some x)
    append_entry i n = ⊎_elim
        (λ lt. rw (lt-ltb i (x.len + 1) (omega (arith, lt)), lt-ltb i x.len lt) (get_set_other x.entries x.len i t n))
        (λ ge. rw (not_below i (x.len + 1) (omega (arith, ge, n)), not_below i x.len ge) refl) (cases_lt i x.len)

    pub append_others : (a : ℕ × ℕ) → (a ≡ (b, x.len) → ⊥) → seen_at slots' a ≡ seen_at slots a
    append_others = seen_apart x.len (λ i n. ap (seen_of i) here ∙ (ap (option_map (λ (t : RowEntry). (x.incoming, row_link (x.incoming, x.vertex) t))) (append_entry i n) ∙ sym (ap (seen_of i) was)))

  -- ---- another entry at a number
  module _ (x : Block) (was : block_at slots b ≡ Some x) (sound : IsBlock x) (i : ℕ) (t : RowEntry) (lt : i < x.len) (here : block_at slots' b ≡ Some (written i t x)) where
    pub write_here : seen_at slots' (b, i) ≡ Some (x.incoming, row_link (x.incoming, x.vertex) t)
    write_here = let s = sound.room in let f = sound.fits in ap (seen_of i) here ∙ rw (lt-ltb i x.len lt, get_set x.entries i t (omega (arith, s, f, lt))) refl

    write_entry : (j : ℕ) → (j ≡ i → ⊥) → entry_of j (Some (written i t x)) ≡ entry_of j (Some x)
    write_entry j n = ap (λ (o : Option RowEntry). cond (nat_lt j x.len) o None) (get_set_other x.entries i j t n)

    pub write_others : (a : ℕ × ℕ) → (a ≡ (b, i) → ⊥) → seen_at slots' a ≡ seen_at slots a
    write_others = seen_apart i (λ j n. ap (seen_of j) here ∙ (ap (option_map (λ (t : RowEntry). (x.incoming, row_link (x.incoming, x.vertex) t))) (write_entry j n) ∙ sym (ap (seen_of j) was)))
