-- The rows and the places together.
use Rattle.std.proofs.Common.{◌≡◌, ℕ, Bool, true, false, cond, Option, Some, None, List, [], ◌∷◌, refl, sym, ap, ◌∙◌, subst}
use Rattle.std.specs.Prelude.{option_map, slice_get, IsPermutation}
use Rattle.std.specs.Map.{lookup, keys_of, remove_entry}
use Rattle.std.proofs.lemmas.Option.{none-some}
use Rattle.std.proofs.lemmas.List.Sorted.{IsPermutation-refl, IsPermutation-trans, IsPermutation-cons, IsPermutation-middle}
use Rattle.label_graph.specs.declared.link.Link.{Link}
use Rattle.label_graph.specs.declared.link.RowEntry.{RowEntry}
use Rattle.label_graph.specs.declared.link.Places.{Places}
use Rattle.label_graph.specs.declared.link.Node.{Node}
use Rattle.label_graph.specs.Places.{Row, AreInverse, ArePlaced, link_eq, out_place, in_place, link_at, outs, ins, out_link, in_link}
use Rattle.label_graph.proofs.PlaceLemmas.{link_same}

-- functions that answer as these do are inverse too
pub same_inverse : {A B : Type 0} (f f' : A → Option B) (g g' : B → Option A) → ((a : A) → f' a ≡ f a) → ((b : B) → g' b ≡ g b) →
    AreInverse f g → AreInverse f' g'
same_inverse f f' g g' fs gs h = record {
  there = λ a b e. gs b ∙ h.there a b (sym (fs a) ∙ e);
  back = λ b a e. fs a ∙ h.back b a (sym (gs b) ∙ e);
}

-- the same rows have the same links at their places
pub same_rows : (link : ℕ → RowEntry → Link) (rows rows' : ℕ → List RowEntry) → ((q : ℕ) → rows' q ≡ rows q) → (a : ℕ × ℕ) →
    link_at link rows' a ≡ link_at link rows a
same_rows link rows rows' h a = ap (λ (l : List RowEntry). option_map (link a.0) (slice_get l a.1)) (h a.0)

-- rows and places that answer as these do belong together too
pub same_placed : (nodes nodes' : List (ℕ × Node Row)) (places places' : List (Link × Places ℕ)) → ((q : ℕ) → outs nodes' q ≡ outs nodes q) →
    ((q : ℕ) → ins nodes' q ≡ ins nodes q) →
    ((q : Link) → lookup (link_eq q) places' ≡ lookup (link_eq q) places) → ArePlaced nodes places → ArePlaced nodes' places'
same_placed nodes nodes' places places' os is ps h = record {
  outs = same_inverse (link_at out_link (outs nodes)) (link_at out_link (outs nodes')) (out_place places) (out_place places')
      (same_rows out_link (outs nodes) (outs nodes') os) (λ q. ap (option_map (λ (p : Places ℕ). (q.src, p.out_at))) (ps q)) h.outs;
  ins = same_inverse (link_at in_link (ins nodes)) (link_at in_link (ins nodes')) (in_place places) (in_place places')
      (same_rows in_link (ins nodes) (ins nodes') is) (λ q. ap (option_map (λ (p : Places ℕ). (q.dst, p.in_at))) (ps q)) h.ins;
}

module _ {W : Type 0} {X : Type 0} (part : Link → W → X) (m n : List (Link × W)) (k : Link) where
  -- a new key
  pub set_part : (new : W) → ((q : Link) → lookup (link_eq q) n ≡ cond (link_eq k q) (Some new) (lookup (link_eq q) m)) →
      (q : Link) → option_map (part q) (lookup (link_eq q) n) ≡ cond (link_eq k q) (Some (part k new)) (option_map (part q) (lookup (link_eq q) m))
  set_part new set q = by (link_eq k q) refl
    where
      by : (b : Bool) → link_eq k q ≡ b → option_map (part q) (lookup (link_eq q) n)
          ≡ cond (link_eq k q) (Some (part k new)) (option_map (part q) (lookup (link_eq q) m))
      by true e = rw (set q, e) (let P : Link → Type 0 = λ x. Some (part x new) ≡ Some (part k new) in subst P (link_same k q e) refl)
      by false e = rw (set q, e) refl

  -- a key that is gone, put back
  pub restored_part : (was : W) → lookup (link_eq k) m ≡ Some was →
      ((q : Link) → lookup (link_eq q) n ≡ cond (link_eq k q) None (lookup (link_eq q) m)) →
      (q : Link) → cond (link_eq k q) (Some (part k was)) (option_map (part q) (lookup (link_eq q) n)) ≡ option_map (part q) (lookup (link_eq q) m)
  restored_part was at set q = by (link_eq k q) refl
    where
      by : (b : Bool) → link_eq k q ≡ b → cond (link_eq k q) (Some (part k was)) (option_map (part q) (lookup (link_eq q) n))
          ≡ option_map (part q) (lookup (link_eq q) m)
      by true e = rw e (let P : Link → Type 0 = λ x. Some (part k was) ≡ option_map (part x) (lookup (link_eq x) m) in subst P (link_same k q e) (rw at refl))
      by false e = rw (e, set q, e) refl

-- a link that is taken away leaves the other links
pub keys_removed : {W : Type 0} (k : Link) (es : List (Link × W)) (v : W) → lookup (link_eq k) es ≡ Some v →
    IsPermutation (keys_of es) (k ∷ keys_of (remove_entry (link_eq k) es))
keys_removed k [] v h = absurd (none-some v h)
keys_removed k (e ∷ es) v h = by (link_eq k e.0) refl (keys_removed k es v)
  where
    by : (b : Bool) → link_eq k e.0 ≡ b → (lookup (link_eq k) es ≡ Some v →
        IsPermutation (keys_of es) (k ∷ keys_of (remove_entry (link_eq k) es))) →
        IsPermutation (keys_of (e ∷ es)) (k ∷ keys_of (remove_entry (link_eq k) (e ∷ es)))
    by true q ih = rw q (let P : Link → Type 0 = λ x. IsPermutation (x ∷ keys_of es) (k ∷ keys_of es) in subst P (link_same k e.0 q) (IsPermutation-refl (k ∷ keys_of es)))
    by false q ih = rw q (IsPermutation-trans (e.0 ∷ keys_of es) (e.0 ∷ k ∷ keys_of (remove_entry (link_eq k) es)) (k ∷ e.0 ∷ keys_of (remove_entry (link_eq k) es))
        (IsPermutation-cons e.0 (keys_of es) (k ∷ keys_of (remove_entry (link_eq k) es)) (ih (rw q at h)))
        (IsPermutation-middle (e.0 ∷ []) k (keys_of (remove_entry (link_eq k) es))))
