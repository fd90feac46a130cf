-- A partial function and its inverse, after one pair more or less.
use Rattle.std.proofs.Common.{◌≡◌, Option, Some, None, sym, ◌∙◌, ⊎_elim, ◌⊎◌}
use Rattle.label_graph.specs.Places.{AreInverse}

-- whether two are equal can be told
abbrev pub CanTell : Type 0 → Type 0
CanTell A = (x y : A) → (x ≡ y) ⊎ (x ≡ y → ⊥)

-- either of the two is the other read backwards
pub turned : {A B : Type 0} (f : A → Option B) (g : B → Option A) → AreInverse f g → AreInverse g f
turned f g h = record { there = h.back; back = h.there }

module _ {A B : Type 0} (tell_a : CanTell A) (tell_b : CanTell B) where
  -- ---- one pair more
  added_there : (f f' : A → Option B) (g g' : B → Option A) (a0 : A) (b0 : B) → ((a : A) (b : B) → f a ≡ Some b → g b ≡ Some a) →
      g b0 ≡ None → f' a0 ≡ Some b0 → g' b0 ≡ Some a0 → ((a : A) → (a ≡ a0 → ⊥) → f' a ≡ f a) → ((b : B) → (b ≡ b0 → ⊥) → g' b ≡ g b) →
      (a : A) (b : B) → f' a ≡ Some b → g' b ≡ Some a
  added_there f f' g g' a0 b0 h free fa gb fs gs a b e = ⊎_elim here apart (tell_a a a0)
    where
      here : a ≡ a0 → g' b ≡ Some a
      here p = let q : f' a0 ≡ Some b = rw p at e in let s : b ≡ b0 = cc in rw (s, p) gb

      away : (a ≡ a0 → ⊥) → (b ≡ b0 → ⊥) → g' b ≡ Some a
      away n m = gs b m ∙ h a b (sym (fs a n) ∙ e)

      clash : (a ≡ a0 → ⊥) → b ≡ b0 → g' b ≡ Some a
      clash n p = let q : g b ≡ Some a = h a b (sym (fs a n) ∙ e) in let r : g b0 ≡ Some a = rw p at q in cc

      apart : (a ≡ a0 → ⊥) → g' b ≡ Some a
      apart n = ⊎_elim (clash n) (away n) (tell_b b b0)

  -- ---- one pair less
  removed_there : (f f' : A → Option B) (g g' : B → Option A) (a0 : A) (b0 : B) → ((a : A) (b : B) → f a ≡ Some b → g b ≡ Some a) →
      g b0 ≡ Some a0 → f' a0 ≡ None → ((a : A) → (a ≡ a0 → ⊥) → f' a ≡ f a) → ((b : B) → (b ≡ b0 → ⊥) → g' b ≡ g b) →
      (a : A) (b : B) → f' a ≡ Some b → g' b ≡ Some a
  removed_there f f' g g' a0 b0 h gb fa fs gs a b e = ⊎_elim here apart (tell_a a a0)
    where
      here : a ≡ a0 → g' b ≡ Some a
      here p = let q : f' a0 ≡ Some b = rw p at e in cc

      apart : (a ≡ a0 → ⊥) → g' b ≡ Some a
      apart n = let was : g b ≡ Some a = h a b (sym (fs a n) ∙ e) in ⊎_elim (λ p. let q : g b0 ≡ Some a = rw p at was in let s : a ≡ a0 = cc in absurd (n s)) (λ m. gs b m ∙ was) (tell_b b b0)

  -- ---- one pair less, and another moved to its place
  moved_there : (f f' : A → Option B) (g g' : B → Option A) (a0 a1 : A) (b0 b1 : B) → ((a : A) (b : B) → f a ≡ Some b → g b ≡ Some a) →
      g b0 ≡ Some a0 → g b1 ≡ Some a1 → f' a1 ≡ None → f' a0 ≡ Some b1 → g' b1 ≡ Some a0 →
      ((a : A) → (a ≡ a0 → ⊥) → (a ≡ a1 → ⊥) → f' a ≡ f a) → ((b : B) → (b ≡ b1 → ⊥) → (b ≡ b0 → ⊥) → g' b ≡ g b) →
      (a : A) (b : B) → f' a ≡ Some b → g' b ≡ Some a
  moved_there f f' g g' a0 a1 b0 b1 h gb0 gb1 fa1 fa0 gb fs gs a b e = ⊎_elim here (λ n. ⊎_elim last (apart n) (tell_a a a1)) (tell_a a a0)
    where
      here : a ≡ a0 → g' b ≡ Some a
      here p = let q : f' a0 ≡ Some b = rw p at e in let s : b ≡ b1 = cc in rw (s, p) gb

      last : a ≡ a1 → g' b ≡ Some a
      last p = let q : f' a1 ≡ Some b = rw p at e in cc

      apart : (a ≡ a0 → ⊥) → (a ≡ a1 → ⊥) → g' b ≡ Some a
      apart n m =
          let was : g b ≡ Some a = h a b (sym (fs a n m) ∙ e) in
          ⊎_elim (λ p. let q : g b0 ≡ Some a = rw p at was in let s : a ≡ a0 = cc in absurd (n s))
          (λ n0. ⊎_elim (λ p. let q : g b1 ≡ Some a = rw p at was in let s : a ≡ a1 = cc in absurd (m s)) (λ n1. gs b n1 n0 ∙ was) (tell_b b b1))
          (tell_b b b0)

module _ {A B : Type 0} (tell_a : CanTell A) (tell_b : CanTell B) where
  -- one pair more
  pub added : (f f' : A → Option B) (g g' : B → Option A) (a0 : A) (b0 : B) → AreInverse f g → f a0 ≡ None → g b0 ≡ None →
      f' a0 ≡ Some b0 → g' b0 ≡ Some a0 → ((a : A) → (a ≡ a0 → ⊥) → f' a ≡ f a) → ((b : B) → (b ≡ b0 → ⊥) → g' b ≡ g b) → AreInverse f' g'
  added f f' g g' a0 b0 h fn gn fa gb fs gs = record {
    there = added_there tell_a tell_b f f' g g' a0 b0 h.there gn fa gb fs gs;
    back = added_there tell_b tell_a g g' f f' b0 a0 h.back fn gb fa gs fs;
  }

  -- one pair less
  pub removed : (f f' : A → Option B) (g g' : B → Option A) (a0 : A) (b0 : B) → AreInverse f g → g b0 ≡ Some a0 →
      f' a0 ≡ None → g' b0 ≡ None → ((a : A) → (a ≡ a0 → ⊥) → f' a ≡ f a) → ((b : B) → (b ≡ b0 → ⊥) → g' b ≡ g b) → AreInverse f' g'
  removed f f' g g' a0 b0 h gb fa gn fs gs = record {
    there = removed_there tell_a tell_b f f' g g' a0 b0 h.there gb fa fs gs;
    back = removed_there tell_b tell_a g g' f f' b0 a0 h.back (h.back b0 a0 gb) gn gs fs;
  }

  -- one pair less, and another moved to its place
  pub moved : (f f' : A → Option B) (g g' : B → Option A) (a0 a1 : A) (b0 b1 : B) → AreInverse f g → g b0 ≡ Some a0 → g b1 ≡ Some a1 →
      f' a1 ≡ None → f' a0 ≡ Some b1 → g' b0 ≡ None → g' b1 ≡ Some a0 →
      ((a : A) → (a ≡ a0 → ⊥) → (a ≡ a1 → ⊥) → f' a ≡ f a) → ((b : B) → (b ≡ b1 → ⊥) → (b ≡ b0 → ⊥) → g' b ≡ g b) → AreInverse f' g'
  moved f f' g g' a0 a1 b0 b1 h gb0 gb1 fa1 fa0 gn gb fs gs = record {
    there = moved_there tell_a tell_b f f' g g' a0 a1 b0 b1 h.there gb0 gb1 fa1 fa0 gb fs gs;
    back = moved_there tell_b tell_a g g' f f' b1 b0 a1 a0 h.back (h.back b1 a1 gb1) (h.back b0 a0 gb0) gn gb fa0 gs fs;
  }
