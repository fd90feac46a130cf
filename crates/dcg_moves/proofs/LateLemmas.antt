-- The joints that are still to come, layer by layer.
use Rattle.std.proofs.Common.{◌≡◌, ◌≢◌, ℕ, ◌+◌, ◌≤◌, Bool, true, false, ◌&&◌, ◌||◌, not, cond, List, [], ◌∷◌, inl, inr, refl, sym, ap, ◌∙◌, subst, arith, ◌==◌}
use Rattle.std.specs.Prelude.{filter, count_by, IsPermutation, slice_index}
use Rattle.std.specs.List.{list_any, range_with_len}
use Rattle.std.proofs.lemmas.Bool.{eq-eqb, ne_eqb, cases_eq, or_right, and_from}
use Rattle.std.proofs.lemmas.List.Sorted.{sum_by-IsPermutation}
use Rattle.flux_model.specs.Tree.{QueryTree}
use Rattle.dcg_moves.specs.Layers.{Layers, IsLower, children, below_of}
use Rattle.dcg_moves.specs.Rows.{Rows, is_open}
use Rattle.dcg_moves.specs.Shape.{number_in}
use Rattle.dcg_moves.specs.Agree.{times}
use Rattle.dcg_moves.specs.Scan.{Late, none, at_child, pending, Scan}
use Rattle.dcg_moves.proofs.JointCounts.{bit}
use Rattle.dcg_moves.proofs.WeightLemmas.{in_below}

-- none of no joints counts
pub none_counted : (b : Bool) (o : ℕ → Bool) → cond b (count_by o []) 0 ≡ 0
none_counted true o = refl
none_counted false o = refl

-- ---- at the layer itself, and elsewhere

-- at the layer itself
pub at_here : (c : ℕ) (xs : List ℕ) (late : Late) → at_child c xs late c ≡ xs
at_here c xs late = ap (λ b. cond b xs (late c)) (eq-eqb c c refl)

-- elsewhere
pub at_other : (c : ℕ) (xs : List ℕ) (late : Late) (z : ℕ) → z ≢ c → at_child c xs late z ≡ late z
at_other c xs late z ne = ap (λ b. cond b xs (late z)) (ne_eqb z c ne)

-- elsewhere whatever stands here
pub at_both : (c : ℕ) (xs ys : List ℕ) (late : Late) (z : ℕ) → z ≢ c → at_child c ys late z ≡ at_child c xs late z
at_both c xs ys late z ne = at_other c ys late z ne ∙ sym (at_other c xs late z ne)

-- no joint is late away from u's children
pub only_pending : (s : Layers) (u v : ℕ) (rest : List ℕ) (z : ℕ) → s.parent z ≢ u → pending s u v rest z ≡ []
only_pending s u v rest z ne = ap (λ b. cond (b && list_any (λ y. y == z) rest) (below_of s z v) []) (ne_eqb (s.parent z) u ne)

-- nor with those of one child
pub only_child : (s : Layers) (u c : ℕ) (xs : List ℕ) (late : Late) → s.parent c ≡ u → ((z : ℕ) → s.parent z ≢ u → late z ≡ []) → (z : ℕ) → s.parent z ≢ u → at_child c xs late z ≡ []
only_child s u c xs late parent only z ne = at_other c xs late z (λ e. ne (ap s.parent e ∙ parent)) ∙ only z ne

-- ---- all joints below a pair

any_filter : (p : ℕ → Bool) (z : ℕ) (xs : List ℕ) → p z ≡ true → list_any (λ y. y == z) xs ≡ true → list_any (λ y. y == z) (filter p xs) ≡ true
any_filter p z [] h m = m
any_filter p z (x ∷ xs) h m =
    elim (cases_eq x z) [
      | inl e ↦
          let hit : p x ≡ true = ap p e ∙ h in
          ap (λ b. list_any (λ y. y == z) (cond b (x ∷ filter p xs) (filter p xs))) hit ∙ ap (λ b. b || list_any (λ y. y == z) (filter p xs)) (eq-eqb x z e)
      | inr ne ↦
          let more = any_filter p z xs h (sym (ap (λ b. b || list_any (λ y. y == z) xs) (ne_eqb x z ne)) ∙ m) in
          skip (p x) (x == z) more
    ]
  where
    skip : (b same : Bool) → list_any (λ y. y == z) (filter p xs) ≡ true → list_any (λ y. y == z) (cond b (x ∷ filter p xs) (filter p xs)) ≡ true
    skip true same h = or_right (x == z) _ h
    skip false same h = h

in_children : (s : Layers) (z u : ℕ) → IsLower s z → s.parent z ≡ u → list_any (λ y. y == z) (children s u) ≡ true
in_children s z u low parent =
    any_filter (λ c. not (c == s.root) && (s.parent c == u)) z (range_with_len 0 s.count)
    (and_from _ _ (ap not (ne_eqb z s.root low.apart)) (eq-eqb (s.parent z) u parent)) (in_below z s.count 0 (omega arith) (let l = low.inside in omega arith))

-- all children's joints
pub pending_all : (s : Layers) (c w z : ℕ) → IsLower s z → s.parent z ≡ c → pending s c w (children s c) z ≡ below_of s z w
pending_all s c w z lz parent = ap (λ b. cond b (below_of s z w) []) (and_from _ _ (eq-eqb (s.parent z) c parent) (in_children s z c lz parent))

-- are joints
pub pending_among : (s : Layers) (c w : ℕ) (rest : List ℕ) (z y : ℕ) → times y (pending s c w rest z) ≤ times y (below_of s z w)
pending_among s c w rest z y = some ((s.parent z == c) && list_any (λ k. k == z) rest)
  where
    some : (b : Bool) → times y (cond b (below_of s z w) []) ≤ times y (below_of s z w)
    some true = omega arith
    some false = omega arith

-- ---- the same joints, in another order or in other words

-- they count alike under any test
abbrev pub Alike : Late → Late → Type 0
Alike a b = (z : ℕ) (o : ℕ → Bool) → count_by o (b z) ≡ count_by o (a z)

-- a scan goes by counts alone
pub scan_alike : (s : Layers) (t : QueryTree) (u v : ℕ) (r : Rows) (owed over later owed' over' later' : Late) → Alike owed owed' → Alike over over' → Alike later later' →
    ((z : ℕ) → s.parent z ≢ u → (owed' z ≡ []) × (over' z ≡ []) × (later' z ≡ [])) → Scan s t u v owed over later r → Scan s t u v owed' over' later' r
scan_alike s t u v r owed over later owed' over' later' a b d only scan = record {
  only = only;
  among = λ z y. let f = a z (λ k. k == y) in let h = scan.among z y in omega (arith, f, h);
  ins = λ z y lz below. let f = a z (λ k. k == y) in let g = b z (λ k. k == y) in let h = scan.ins z y lz below in omega (arith, f, g, h);
  outs = λ z x row lz below is. ap (λ n. slice_index row.outs (number_in t z) + cond (x == v) n 0) (d z (is_open r z)) ∙ scan.outs z x row lz below is;
}

-- those of the next child come to the front
pub alike_enter : (s : Layers) (u v c : ℕ) (rest xs : List ℕ) → s.parent c ≡ u → IsPermutation xs (below_of s c v) → Alike (pending s u v (c ∷ rest)) (at_child c xs (pending s u v rest))
alike_enter s u v c rest xs parent same z o =
    elim (cases_eq z c) [
      | inl e ↦
          let P : ℕ → Type 0 = λ k. count_by o (at_child c xs (pending s u v rest) k) ≡ count_by o (pending s u v (c ∷ rest) k) in
          let counts : count_by o xs ≡ count_by o (below_of s c v) = let h = sum_by-IsPermutation (λ k. bit (o k)) xs (below_of s c v) same in omega (arith, h) in
          subst P (sym e) (ap (count_by o) (at_here c xs (pending s u v rest)) ∙ counts
          ∙ sym (ap (λ b. count_by o (cond b (below_of s c v) [])) (and_from _ _ (eq-eqb (s.parent c) u parent) (ap (λ b. b || list_any (λ y. y == c) rest) (eq-eqb c c refl)))))
      | inr ne ↦
          ap (count_by o) (at_other c xs (pending s u v rest) z ne)
          ∙ sym (ap (λ b. count_by o (cond ((s.parent z == u) && (b || list_any (λ y. y == z) rest)) (below_of s z v) [])) (ne_eqb c z (λ e. ne (sym e))))
    ]

-- those of a child that has none left
pub alike_leave : (s : Layers) (u v c : ℕ) (rest : List ℕ) → list_any (λ y. y == c) rest ≡ false → Alike (at_child c [] (pending s u v rest)) (pending s u v rest)
alike_leave s u v c rest fresh z o =
    elim (cases_eq z c) [
      | inl e ↦
          let P : ℕ → Type 0 = λ k. count_by o (pending s u v rest k) ≡ count_by o (at_child c [] (pending s u v rest) k) in
          subst P (sym e) (ap (count_by o) (absent (s.parent c == u) (list_any (λ y. y == c) rest) fresh ∙ sym (at_here c [] (pending s u v rest))))
      | inr ne ↦ ap (count_by o) (sym (at_other c [] (pending s u v rest) z ne))
    ]
  where
    absent : (p b : Bool) → b ≡ false → cond (p && b) (below_of s c v) [] ≡ []
    absent true b e = ap (λ k. cond k (below_of s c v) []) e
    absent false b e = refl

-- those of no child
pub alike_end : (s : Layers) (u v : ℕ) → Alike (pending s u v []) none
alike_end s u v z o = absent (s.parent z == u)
  where
    absent : (p : Bool) → count_by o [] ≡ count_by o (cond (p && false) (below_of s z v) [])
    absent true = refl
    absent false = refl
