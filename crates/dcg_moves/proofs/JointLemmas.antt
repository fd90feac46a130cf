-- One joint of one tree edge, from exact to exact.
use Rattle.std.proofs.Common.{◌≡◌, ◌≢◌, ℕ, zero, suc, ◌+◌, ◌<◌, ◌≤◌, ◌-◌, ◌^◌, Bool, true, false, ◌&&◌, cond, List, [], ◌∷◌, inl, inr, refl, sym, ap, ◌∙◌, subst, arith, ◌==◌, map, length}
use Rattle.std.specs.Prelude.{filter, count_by, None, Some, is_some, slice_get, slice_index}
use Rattle.std.proofs.lemmas.Bool.{eq-eqb, ne_eqb, cases_eq, cases_lt, cases_Bool, lt-ltb}
use Rattle.std.specs.Option.{ForSome}
use Rattle.std.proofs.lemmas.List.Sums.{sum_by-cons, count_by-le-length}
use Rattle.flux_model.specs.States.{Joint}
use Rattle.flux_model.specs.Tree.{QueryTree}
use Rattle.query_tree.specs.Depth.{depth}
use Rattle.dcg_moves.specs.Layers.{Layers, IsLower, children, below_of, with_joints}
use Rattle.dcg_moves.specs.Rows.{Rows, is_kept, ins_in, has_all, is_open}
use Rattle.dcg_moves.specs.Shape.{IsShapeOf, number_in}
use Rattle.dcg_moves.specs.Local.{ins_due, outs_due, IsLocal, IsLocalWithout, IsLocalWith}
use Rattle.dcg_moves.specs.Sound.{IsSound}
use Rattle.dcg_moves.specs.Agree.{times, ins_seen, OutsAt, OutsDebtAt, OutsAbove, AgreesBelow, Agrees}
use Rattle.dcg_moves.specs.Moves.{OneInMore, OneOutMore, MovesAbove}
use Rattle.dcg_moves.specs.JointOver.{InsOverAt, OverAt}
use Rattle.dcg_moves.specs.Scan.{none, at_child, pending, Scan}
use Rattle.dcg_moves.proofs.JointCounts.{bit, times-cons, due_alike, seen_alike}
use Rattle.dcg_moves.proofs.StateLemmas.{none_row}
use Rattle.dcg_moves.proofs.UpLemmas.{paid, paid_off}
use Rattle.dcg_moves.proofs.LateLemmas.{none_counted, at_here, at_other, only_pending, only_child, alike_end}
use Rattle.dcg_moves.proofs.DownLemmas.{RiseTurn, FallTurn, Entered, rise_entered, fall_left, child_of}

-- ---- exact counters, one layer at a time

slice_of_map : (f : ℕ → ℕ) (cs : List ℕ) (i c : ℕ) → slice_get cs i ≡ Some c → slice_index (map f cs) i ≡ f c
slice_of_map f [] i c h = absurd (let bad : None ≡ Some c = h in cc)
slice_of_map f (x ∷ xs) zero c h = ap f (let e : Some x ≡ Some c = h in cc)
slice_of_map f (x ∷ xs) (suc i) c h = slice_of_map f xs i c h

map_of_slices : (f : ℕ → ℕ) (cs xs : List ℕ) → length xs ≡ length cs → ((i : ℕ) → i < length cs → slice_index xs i ≡ f (slice_index cs i)) → xs ≡ map f cs
map_of_slices f [] [] same each = refl
map_of_slices f [] (x ∷ xs) same each = absurd (omega arith)
map_of_slices f (c ∷ cs) [] same each = absurd (omega arith)
map_of_slices f (c ∷ cs) (x ∷ xs) same each =
    let first : x ≡ f c = each 0 (omega arith) in
    let rest = map_of_slices f cs xs (omega arith) (λ i lt. each (suc i) (omega arith)) in
    λ i. first i ∷ rest i

-- each counter for a layer, and the whole
pub agrees_of_local : (s : Layers) (t : QueryTree) (r : Rows) → s.root < s.count → ((u : ℕ) → u < s.count → u ≢ s.root → s.parent u < s.count) →
    ((u : ℕ) → u < s.count → u ≢ s.root → slice_get (children s (s.parent u)) (number_in t u) ≡ Some u) → IsLocal s r → Agrees s t r
agrees_of_local s t r root parent number local = record {
  root = λ y. local.ins s.root root y ∙ ap (λ b. cond b (cond (s.is_member s.root y) 1 0) (ins_seen s r s.root y)) (eq-eqb s.root s.root refl);
  ins = λ z y low. local.ins z low.inside y ∙ ap (λ b. cond b (cond (s.is_member z y) 1 0) (ins_seen s r z y)) (ne_eqb z s.root low.apart);
  outs = λ c low x row is.
      let a = ap (λ l. slice_index l (number_in t c)) (local.outs (s.parent c) (parent c low.inside low.apart) x row is)
      ∙ slice_of_map (outs_due s r x) (children s (s.parent c)) (number_in t c) c (number c low.inside low.apart) in omega (arith, a);
}

-- all together
pub local_of_agrees : (s : Layers) (t : QueryTree) (ids : List ℕ) (r : Rows) → IsShapeOf s t → IsSound s ids r → Agrees s t r → IsLocal s r
local_of_agrees s t ids r shape sound agrees = record {
  kept = sound.kept;
  none = λ u v le. none_row (r u v) (elim (cases_Bool (is_kept r u v)) [ inl k ↦ absurd (let w = (sound.within u v k).0 in omega arith) | inr gone ↦ gone ]);
  ins = λ u lt v.
      elim (cases_eq u s.root) [
        | inl e ↦
            let P : ℕ → Type 0 = λ k. ins_in (r k v) ≡ ins_due s r k v in
            subst P (sym e) (agrees.root v ∙ sym (ap (λ b. cond b (cond (s.is_member s.root v) 1 0) (ins_seen s r s.root v)) (eq-eqb s.root s.root refl)))
        | inr ne ↦ agrees.ins u v (record { inside = lt; apart = ne }) ∙ sym (ap (λ b. cond b (cond (s.is_member u v) 1 0) (ins_seen s r u v)) (ne_eqb u s.root ne))
      ];
  outs = λ u lt v row is.
      map_of_slices (outs_due s r v) (children s u) row.outs (sound.wide u v row is) (λ i li.
      let child = child_of s u i (children s u) refl li in
      let c = slice_index (children s u) i in
      let number = ap (slice_index row.outs) (shape.numbered u i li) in
      let a = agrees.outs c child.0 v row (ap (λ k. r k v) child.1 ∙ is) in omega (arith, number, a));
}

-- ---- other joints at one layer

seen_other : (s : Layers) (u : ℕ) (ls : List Joint) (r : Rows) (z w : ℕ) → z ≢ u → ins_seen (with_joints s u ls) r z w ≡ ins_seen s r z w
seen_other s u ls r z w ne = ap (λ b. count_by (λ (e : Joint). (e.below == w) && is_kept r (s.parent z) e.above) (cond b ls (s.joints z))) (ne_eqb z u ne)

due_other : (s : Layers) (u : ℕ) (ls : List Joint) (r : Rows) (v z : ℕ) → z ≢ u → outs_due (with_joints s u ls) r v z ≡ outs_due s r v z
due_other s u ls r v z ne = ap (λ b. count_by (λ (e : Joint). (e.above == v) && is_open r z e.below) (cond b ls (s.joints z))) (ne_eqb z u ne)

seen_at : (s : Layers) (u : ℕ) (ls : List Joint) (r : Rows) (w : ℕ) → ins_seen (with_joints s u ls) r u w ≡ count_by (λ e. (e.below == w) && is_kept r (s.parent u) e.above) ls
seen_at s u ls r w = ap (λ b. count_by (λ (e : Joint). (e.below == w) && is_kept r (s.parent u) e.above) (cond b ls (s.joints u))) (eq-eqb u u refl)

due_at : (s : Layers) (u : ℕ) (ls : List Joint) (r : Rows) (v : ℕ) → outs_due (with_joints s u ls) r v u ≡ count_by (λ e. (e.above == v) && is_open r u e.below) ls
due_at s u ls r v = ap (λ b. count_by (λ (e : Joint). (e.above == v) && is_open r u e.below) (cond b ls (s.joints u))) (eq-eqb u u refl)

abbrev joined : ℕ → ℕ → Joint
joined x y = record { above = x; below = y }

low_with : (s : Layers) (u : ℕ) (ls : List Joint) (z : ℕ) → IsLower s z → IsLower (with_joints s u ls) z
low_with s u ls z low = record { inside = low.inside; apart = low.apart }

-- the layers without the joint, or with it, agree
small_agrees : (s : Layers) (t : QueryTree) (u x y : ℕ) (r : Rows) → IsShapeOf s t → (b : IsLocalWithout s u x y r) → Agrees (with_joints s u b.rest) t r
small_agrees s t u x y r shape b = agrees_of_local (with_joints s u b.rest) t r shape.tree.root shape.tree.parent shape.number b.local

large_agrees : (s : Layers) (t : QueryTree) (u x y : ℕ) (r : Rows) → IsShapeOf s t → (b : IsLocalWith s u x y r) → Agrees (with_joints s u b.more) t r
large_agrees s t u x y r shape b = agrees_of_local (with_joints s u b.more) t r shape.tree.root shape.tree.parent shape.number b.local

off : (b : Bool) → bit (b && false) ≡ 0
off true = refl
off false = refl

on : (b : Bool) → bit (b && true) ≡ bit b
on true = refl
on false = refl

-- a joint from a member without a row changes nothing, where the layers have one more than the rows, or one less
module _ (s : Layers) (t : QueryTree) (ids : List ℕ) (u x y : ℕ) (r : Rows) (es : List Joint) (shape : IsShapeOf s t) (sound : IsSound s ids r) (absent : r (s.parent u) x ≡ None)
    (even : (p : Joint → Bool) → p (joined x y) ≡ false → count_by p (s.joints u) ≡ count_by p es) (other : Agrees (with_joints s u es) t r) where
  joint_null : IsLocal s r
  joint_null =
      local_of_agrees s t ids r shape sound (record {
        root = other.root;
        ins = λ z w low.
            let before = other.ins z w (low_with s u es z low) in
            elim (cases_eq z u) [
              | inl e ↦
                  let P : ℕ → Type 0 = λ k. ins_in (r k w) ≡ ins_seen s r k w in
                  let at = other.ins u w (low_with s u es u (let L : ℕ → Type 0 = λ k. IsLower s k in subst L e low)) in
                  let same = even (λ e. (e.below == w) && is_kept r (s.parent u) e.above) (ap (λ k. (y == w) && is_some k) absent ∙ no (y == w)) in
                  let rest = seen_at s u es r w in
                  subst P (sym e) (omega (arith, at, same, rest))
              | inr ne ↦ let apart = seen_other s u es r z w ne in omega (arith, before, apart)
            ];
        outs = λ c low v row is.
            let before = other.outs c (low_with s u es c low) v row is in
            elim (cases_eq c u) [
              | inl e ↦
                  let apart : x ≢ v = λ f. let bad : None ≡ Some row = sym absent ∙ (λ i. r (s.parent (sym e i)) (f i)) ∙ is in cc in
                  let same = even (λ l. (l.above == v) && is_open r u l.below) (ap (λ k. k && is_open r u y) (ne_eqb x v apart)) in
                  let rest = due_at s u es r v in
                  let a = ap (λ k. outs_due (with_joints s u es) r v k) e in
                  let d = ap (λ k. outs_due s r v k) e in
                  omega (arith, before, same, rest, a, d)
              | inr ne ↦ let apart = due_other s u es r v c ne in omega (arith, before, apart)
            ];
      })
    where
      no : (b : Bool) → (b && false) ≡ false
      no true = refl
      no false = refl

-- where the rows lack one
pub insert_null : (s : Layers) (t : QueryTree) (ids : List ℕ) (u x y : ℕ) (r : Rows) → IsShapeOf s t → IsSound s ids r → IsLocalWithout s u x y r → r (s.parent u) x ≡ None → IsLocal s r
insert_null s t ids u x y r shape sound b absent =
    joint_null s t ids u x y r b.rest shape sound absent (λ p out. let same = b.same p in let zero = ap bit out in omega (arith, same, zero)) (small_agrees s t u x y r shape b)

-- where they have one too many
pub delete_null : (s : Layers) (t : QueryTree) (ids : List ℕ) (u x y : ℕ) (r : Rows) → IsShapeOf s t → IsSound s ids r → IsLocalWith s u x y r → r (s.parent u) x ≡ None → IsLocal s r
delete_null s t ids u x y r shape sound b absent =
    joint_null s t ids u x y r b.more shape sound absent (λ p out. let same = b.same p in let zero = ap bit out in omega (arith, same, zero)) (large_agrees s t u x y r shape b)

-- ---- the joint as the one that is still to come

none_at : (s : Layers) (u v c : ℕ) (xs : List ℕ) (z : ℕ) (o : ℕ → Bool) → z ≢ c → count_by o (at_child c xs (pending s u v []) z) ≡ 0
none_at s u v c xs z o ne = ap (count_by o) (at_other c xs (pending s u v []) z ne) ∙ sym (alike_end s u v z o)

-- of the joints between two members, one is this
times_below : (s : Layers) (u x y w : ℕ) (rest : List Joint) → ((p : Joint → Bool) → count_by p (s.joints u) ≡ bit (p (joined x y)) + count_by p rest) → times w (y ∷ []) ≤ times w (below_of s u x)
times_below s u x y w rest same =
    let more = same (λ e. (e.above == x) && (e.below == w)) in
    let all = walk (s.joints u) in
    let split = times-cons w y [] in
    let hit : bit ((x == x) && (y == w)) ≡ bit (y == w) = ap (λ b. bit (b && (y == w))) (eq-eqb x x refl) in
    omega (arith, more, all, split, hit)
  where
    walk : (es : List Joint) → count_by (λ (e : Joint). (e.above == x) && (e.below == w)) es ≡ times w (map (λ (e : Joint). e.below) (filter (λ (e : Joint). e.above == x) es))
    walk [] = refl
    walk (e ∷ es) =
        let more = walk es in
        let left = sum_by-cons (λ (e : Joint). bit ((e.above == x) && (e.below == w))) e es in
        elim (cases_eq e.above x) [
          | inl a ↦
              let hit : filter (λ (e : Joint). e.above == x) (e ∷ es) ≡ e ∷ filter (λ (e : Joint). e.above == x) es =
              ap (λ b. cond b (e ∷ filter (λ (e : Joint). e.above == x) es) (filter (λ (e : Joint). e.above == x) es)) (eq-eqb e.above x a) in
              let right = ap (λ ls. times w (map (λ (e : Joint). e.below) ls)) hit ∙ times-cons w e.below (map (λ (e : Joint). e.below) (filter (λ (e : Joint). e.above == x) es)) in
              let one : bit ((e.above == x) && (e.below == w)) ≡ bit (e.below == w) = ap (λ b. bit (b && (e.below == w))) (eq-eqb e.above x a) in
              omega (arith, more, left, right, one)
          | inr na ↦
              let miss : filter (λ (e : Joint). e.above == x) (e ∷ es) ≡ filter (λ (e : Joint). e.above == x) es =
              ap (λ b. cond b (e ∷ filter (λ (e : Joint). e.above == x) es) (filter (λ (e : Joint). e.above == x) es)) (ne_eqb e.above x na) in
              let right = ap (λ ls. times w (map (λ (e : Joint). e.below) ls)) miss in
              let one : bit ((e.above == x) && (e.below == w)) ≡ 0 = ap (λ b. bit (b && (e.below == w))) (ne_eqb e.above x na) in
              omega (arith, more, left, right, one)
        ]

-- the new joint
insert_turn : (s : Layers) (t : QueryTree) (ids : List ℕ) (u x y : ℕ) (r : Rows) → IsShapeOf s t → IsLower s u → IsSound s ids r → IsLocalWithout s u x y r → is_kept r (s.parent u) x ≡ true →
    RiseTurn s t ids (s.parent u) x u y [] [] r r
insert_turn s t ids u x y r shape lower sound b stands =
    let small = small_agrees s t u x y r shape b in
    let p = s.parent u in
    let late = at_child u (y ∷ []) (pending s p x []) in
    let only = only_child s p u (y ∷ []) (pending s p x []) refl (only_pending s p x []) in
    record {
      shape = shape;
      lower = lower;
      parent = refl;
      stands = stands;
      state = record {
        sound = sound;
        frame = record { high = λ z y _ _. refl; ins = refl };
        scan = record {
          only = λ z ne. (only z ne, refl, only z ne);
          among = λ z w.
              elim (cases_eq z u) [
                | inl e ↦
                    let P : ℕ → Type 0 = λ k. times w (at_child u (y ∷ []) (pending s p x []) k) ≤ times w (below_of s k x) in
                    let a = ap (times w) (at_here u (y ∷ []) (pending s p x [])) in
                    let d = times_below s u x y w b.rest b.same in
                    subst P (sym e) (omega (arith, a, d))
                | inr ne ↦ let a = none_at s p x u (y ∷ []) z (λ k. k == w) ne in omega (arith, a)
              ];
          ins = λ z w low below.
              elim (cases_eq z u) [
                | inl e ↦
                    let P : ℕ → Type 0 = λ k. ins_in (r k w) + times w (at_child u (y ∷ []) (pending s p x []) k) ≡ ins_seen s r k w + times w (none k) in
                    let at = small.ins u w (low_with s u b.rest u lower) in
                    let more = b.same (λ e. (e.below == w) && is_kept r (s.parent u) e.above) in
                    let rest = seen_at s u b.rest r w in
                    let one : bit ((y == w) && is_kept r (s.parent u) x) ≡ bit (y == w) = ap (λ k. bit ((y == w) && k)) stands ∙ on (y == w) in
                    let a = ap (times w) (at_here u (y ∷ []) (pending s p x [])) in
                    let split = times-cons w y [] in
                    subst P (sym e) (omega (arith, at, more, rest, one, a, split))
                | inr ne ↦
                    let before = small.ins z w (low_with s u b.rest z low) in
                    let other = seen_other s u b.rest r z w ne in
                    let a = none_at s p x u (y ∷ []) z (λ k. k == w) ne in omega (arith, before, other, a)
              ];
          outs = λ z v row low below is.
              elim (cases_eq z u) [
                | inl e ↦
                    let P : ℕ → Type 0 = λ k. r (s.parent k) v ≡ Some row → slice_index row.outs (number_in t k) + cond (v == x) (count_by (is_open r k) (at_child u (y ∷ []) (pending s p x []) k)) 0 ≡ outs_due s r v k in
                    subst P (sym e) (λ at.
                    let before = small.outs u (low_with s u b.rest u lower) v row at in
                    let more = b.same (λ l. (l.above == v) && is_open r u l.below) in
                    let rest = due_at s u b.rest r v in
                    let a = ap (λ l. cond (v == x) (count_by (is_open r u) l) 0) (at_here u (y ∷ []) (pending s p x [])) in
                    let one : count_by (is_open r u) (y ∷ []) ≡ bit (is_open r u y) = (let h = sum_by-cons (λ k. bit (is_open r u k)) y [] in omega (arith, h)) in
                    elim (cases_eq v x) [
                      | inl f ↦
                          let hit : cond (v == x) (count_by (is_open r u) (y ∷ [])) 0 ≡ count_by (is_open r u) (y ∷ []) = ap (λ k. cond k (count_by (is_open r u) (y ∷ [])) 0) (eq-eqb v x f) in
                          let mine : bit ((x == v) && is_open r u y) ≡ bit (is_open r u y) = ap (λ k. bit (k && is_open r u y)) (eq-eqb x v (sym f)) in
                          omega (arith, before, more, rest, a, one, hit, mine)
                      | inr nf ↦
                          let miss : cond (v == x) (count_by (is_open r u) (y ∷ [])) 0 ≡ 0 = ap (λ k. cond k (count_by (is_open r u) (y ∷ [])) 0) (ne_eqb v x nf) in
                          let mine : bit ((x == v) && is_open r u y) ≡ 0 = ap (λ k. bit (k && is_open r u y)) (ne_eqb x v (λ g. nf (sym g))) in
                          omega (arith, before, more, rest, a, miss, mine)
                    ]) is
                | inr ne ↦
                    let before = small.outs z (low_with s u b.rest z low) v row is in
                    let other = due_other s u b.rest r v z ne in
                    let a = ap (λ n. cond (v == x) n 0) (none_at s p x u (y ∷ []) z (is_open r z) ne) ∙ zip (v == x) in omega (arith, before, other, a)
              ];
        };
      };
    }
  where
    zip : (b : Bool) → ◌≡◌ {A = ℕ} (cond b 0 0) 0
    zip true = refl
    zip false = refl

deep_apart : (s : Layers) (t : QueryTree) (u : ℕ) → IsShapeOf s t → IsLower s u → (z : ℕ) → depth t z ≤ depth t (s.parent u) → z ≢ u
deep_apart s t u shape lower z high e = let d = shape.tree.deeper u lower.inside lower.apart in let f = ap (depth t) e in absurd (omega (arith, d, f, high))

-- ---- the layers of p's depth and above, and the whole

-- the counters for these layers agree
pub record Before (s : Layers) (t : QueryTree) (p : ℕ) (r : Rows) : Type 0 where
  pub root : (y : ℕ) → ins_in (r s.root y) ≡ cond (s.is_member s.root y) 1 0
  pub ins : (z y : ℕ) → IsLower s z → depth t z ≤ depth t p → ins_in (r z y) ≡ ins_seen s r z y
  pub outs : (c : ℕ) → IsLower s c → depth t c ≤ depth t p → OutsAt s t r c

-- all counters but the out counters for u
pub record Nearly (s : Layers) (t : QueryTree) (u : ℕ) (r : Rows) : Type 0 where
  pub root : (y : ℕ) → ins_in (r s.root y) ≡ cond (s.is_member s.root y) 1 0
  pub ins : (z y : ℕ) → IsLower s z → ins_in (r z y) ≡ ins_seen s r z y
  pub outs : (c : ℕ) → IsLower s c → c ≢ u → OutsAt s t r c

shallow_root : (s : Layers) (t : QueryTree) → IsShapeOf s t → (p : ℕ) → p < s.count → depth t s.root ≤ depth t p
shallow_root s t shape p lt = walk s.count p lt (shape.tree.shallow p lt)
  where
    walk : (k p : ℕ) → p < s.count → depth t p < k → depth t s.root ≤ depth t p
    walk zero p lt h = absurd (omega arith)
    walk (suc k) p lt h =
        elim (cases_eq p s.root) [
          | inl e ↦ let f = ap (depth t) e in omega (arith, f)
          | inr ne ↦ let d = shape.tree.deeper p lt ne in let up = walk k (s.parent p) (shape.tree.parent p lt ne) (omega arith) in omega (arith, d, up)
        ]

module _ {s : Layers} {t : QueryTree} (shape : IsShapeOf s t) where
  -- where the rows of this depth and above stay
  before_stays : {p : ℕ} {r r' : Rows} → p < s.count → ((z y : ℕ) → depth t z ≤ depth t p → r' z y ≡ r z y) → Before s t p r → Before s t p r'
  before_stays {p} {r} {r'} inside same before = record {
    root = λ y. ap ins_in (same s.root y (shallow_root s t shape p inside)) ∙ before.root y;
    ins = λ z y low high.
        let own = ap ins_in (same z y high) in
        let was = before.ins z y low high in
        let seen = seen_alike s r r' z y (λ w. ap is_some (same (s.parent z) w (above z low high))) in omega (arith, own, was, seen);
    outs = λ c low high v row is.
        let was = before.outs c low high v row (sym (same (s.parent c) v (above c low high)) ∙ is) in
        let due = due_alike s r r' v c (λ w. ap has_all (same c w high)) in omega (arith, was, due);
  }
    where
      above : (z : ℕ) → IsLower s z → depth t z ≤ depth t p → depth t (s.parent z) ≤ depth t p
      above z low high = let d = shape.tree.deeper z low.inside low.apart in omega (arith, d, high)

  nearly_from : {p u : ℕ} {r : Rows} → Before s t p r → ((z y : ℕ) → IsLower s z → depth t p < depth t z → ins_in (r z y) ≡ ins_seen s r z y)
      → ((c : ℕ) → IsLower s c → depth t p < depth t c → c ≢ u → OutsAt s t r c) → Nearly s t u r
  nearly_from {p} {u} {r} before ins outs = record {
    root = before.root;
    ins = λ z y low. elim (cases_lt (depth t p) (depth t z)) [ inl deep ↦ ins z y low deep | inr high ↦ before.ins z y low high ];
    outs = λ c low ne. elim (cases_lt (depth t p) (depth t c)) [ inl deep ↦ outs c low deep ne | inr high ↦ before.outs c low high ];
  }

  -- the layers above agree
  pub nearly_above : {u : ℕ} {r : Rows} → Nearly s t u r → OutsAbove s t r u
  nearly_above n c low high = n.outs c low (λ e. let f = ap (depth t) e in absurd (omega (arith, f, high)))

  nearly_all : {u : ℕ} {r : Rows} → Nearly s t u r → OutsAt s t r u → Agrees s t r
  nearly_all {u} {r} n here = record {
    root = n.root;
    ins = n.ins;
    outs = λ c low. elim (cases_eq c u) [ inl e ↦ let P : ℕ → Type 0 = λ k. OutsAt s t r k in subst P (sym e) here | inr ne ↦ n.outs c low ne ];
  }

  -- after the walk up
  nearly_after : {u : ℕ} {r last : Rows} → Nearly s t u r → MovesAbove s t u r last → OutsAt s t last u → Agrees s t last
  nearly_after {u} {r} {last} n moved here = record {
    root = λ y. moved.ins s.root y ∙ n.root y;
    ins = λ z y low. let own = moved.ins z y in let was = n.ins z y low in let seen = seen_alike s r last z y (λ w. moved.kept (s.parent z) w) in omega (arith, own, was, seen);
    outs = λ c low. elim (cases_eq c u) [ inl e ↦ let P : ℕ → Type 0 = λ k. OutsAt s t last k in subst P (sym e) here | inr ne ↦ moved.others c low ne (n.outs c low ne) ];
  }

-- ---- an insertion: the joint is counted into y, and then at x

-- the layers below u agree at once
pub below_without : (s : Layers) (t : QueryTree) (u x y : ℕ) (r : Rows) → IsShapeOf s t → IsLocalWithout s u x y r → AgreesBelow s t r u
below_without s t u x y r shape b =
    let small = small_agrees s t u x y r shape b in
    record {
      ins = λ z w low deep. small.ins z w (low_with s u b.rest z low) ∙ seen_other s u b.rest r z w (away z deep);
      outs = λ c low deep v row is. let before = small.outs c (low_with s u b.rest c low) v row is in let other = due_other s u b.rest r v c (away c deep) in omega (arith, before, other);
    }
  where
    away : (z : ℕ) → depth t u < depth t z → z ≢ u
    away z deep e = let f = ap (depth t) e in absurd (omega (arith, f, deep))

before_without : (s : Layers) (t : QueryTree) (u x y : ℕ) (r : Rows) → IsShapeOf s t → IsLower s u → IsLocalWithout s u x y r → Before s t (s.parent u) r
before_without s t u x y r shape lower b =
    let small = small_agrees s t u x y r shape b in
    record {
      root = small.root;
      ins = λ z w low high. small.ins z w (low_with s u b.rest z low) ∙ seen_other s u b.rest r z w (deep_apart s t u shape lower z high);
      outs = λ c low high v row is. let before = small.outs c (low_with s u b.rest c low) v row is in let other = due_other s u b.rest r v c (deep_apart s t u shape lower c high) in omega (arith, before, other);
    }

-- after y counts the joint, x is late by it where y is open
pub record Counted (s : Layers) (t : QueryTree) (u x y : ℕ) (r : Rows) : Type 0 where
  pub nearly : Nearly s t u r
  pub late : OutsDebtAt s t r u (cond (is_open r u y) (x ∷ []) []) []

-- the rows of the parent's depth and above stay
parent_rows : (s : Layers) (t : QueryTree) (u y : ℕ) (r r' : Rows) → IsShapeOf s t → IsLower s u → ((z w : ℕ) → depth t z ≤ depth t u → ((z ≡ u) × (w ≡ y) → ⊥) → r' z w ≡ r z w) →
    (z w : ℕ) → depth t z ≤ depth t (s.parent u) → r' z w ≡ r z w
parent_rows s t u y r r' shape lower others z w high =
    let d = shape.tree.deeper u lower.inside lower.apart in
    others z w (omega (arith, d, high)) (λ q. let f = ap (depth t) q.0 in absurd (omega (arith, f, d, high)))

-- which is so, whether y had a row or not
pub insert_counted : (s : Layers) (t : QueryTree) (ids : List ℕ) (u x y : ℕ) (r r' : Rows) → IsShapeOf s t → IsLower s u → IsSound s ids r → IsLocalWithout s u x y r → is_kept r (s.parent u) x ≡ true →
    OneInMore t u y r r' → AgreesBelow s t r' u → IsSound s ids r' → Counted s t u x y r'
insert_counted s t ids u x y r r' shape lower sound b stands one below sound' = record {
  nearly = nearly_from shape before
      (λ z w low deep. let a = scan.ins z w low deep in let c = gone z (λ k. k == w) in omega (arith, a, c))
      (λ c low deep ne v row is. let a = scan.outs c v row low deep is in let d = ap (λ n. cond (v == x) n 0) (none_at s p x u (y ∷ []) c (is_open r' c) ne) ∙ zip (v == x) in omega (arith, a, d));
  late = λ v row is.
      let a = scan.outs u v row lower (omega (arith, d)) is in
      let l = ap (λ l. cond (v == x) (count_by (is_open r' u) l) 0) (at_here u (y ∷ []) (pending s p x [])) in
      let open_one : count_by (is_open r' u) (y ∷ []) ≡ bit (is_open r' u y) = (let h = sum_by-cons (λ k. bit (is_open r' u k)) y [] in omega (arith, h)) in
      let m = ap (λ n. cond (v == x) n 0) open_one in
      let k = owed v (is_open r' u y) in omega (arith, a, l, m, k);
}
  where
    p : ℕ
    p = s.parent u

    d : depth t u ≡ suc (depth t p)
    d = shape.tree.deeper u lower.inside lower.apart

    entered : Entered s t ids p x u y [] [] r r'
    entered = rise_entered (insert_turn s t ids u x y r shape lower sound b stands) one below sound'

    scan : Scan s t p x (at_child u [] (pending s p x [])) none (at_child u (y ∷ []) (pending s p x [])) r'
    scan = entered.state.scan

    before : Before s t p r'
    before = before_stays shape (shape.tree.parent u lower.inside lower.apart) (parent_rows s t u y r r' shape lower one.others) (before_without s t u x y r shape lower b)

    gone : (z : ℕ) (o : ℕ → Bool) → count_by o (at_child u [] (pending s p x []) z) ≡ 0
    gone z o = elim (cases_eq z u) [ inl e ↦ let P : ℕ → Type 0 = λ k. count_by o (at_child u [] (pending s p x []) k) ≡ 0 in subst P (sym e) (ap (count_by o) (at_here u [] (pending s p x []))) | inr ne ↦ none_at s p x u [] z o ne ]

    zip : (b : Bool) → ◌≡◌ {A = ℕ} (cond b 0 0) 0
    zip true = refl
    zip false = refl

    owed : (v : ℕ) (b : Bool) → times v (cond b (x ∷ []) []) ≡ cond (v == x) (bit b) 0
    owed v false = sym (zip (v == x))
    owed v true =
        times-cons v x [] ∙ elim (cases_eq v x) [
          | inl e ↦ let a : bit (x == v) ≡ 1 = ap bit (eq-eqb x v (sym e)) in let c : bit (v == x) ≡ 1 = ap bit (eq-eqb v x e) in omega (arith, a, c)
          | inr ne ↦ let a : bit (x == v) ≡ 0 = ap bit (ne_eqb x v (λ f. ne (sym f))) in let c : bit (v == x) ≡ 0 = ap bit (ne_eqb v x ne) in omega (arith, a, c)
        ]

-- x is late by it where y is open
pub debt_open : {s : Layers} {t : QueryTree} {u x y : ℕ} {r : Rows} → Counted s t u x y r → is_open r u y ≡ true → OutsDebtAt s t r u (x ∷ []) []
debt_open {s} {t} {u} {x} {y} {r} counted opens = subst (λ b. OutsDebtAt s t r u (cond b (x ∷ []) []) []) opens counted.late

module _ {s : Layers} {t : QueryTree} {ids : List ℕ} {u x y : ℕ} {r : Rows} (shape : IsShapeOf s t) (counted : Counted s t u x y r) where
  -- y is not open
  pub insert_shut : IsSound s ids r → is_open r u y ≡ false → IsLocal s r
  insert_shut sound shut = local_of_agrees s t ids r shape sound (nearly_all shape counted.nearly (subst (λ b. OutsDebtAt s t r u (cond b (x ∷ []) []) []) shut counted.late))

  -- x counts it too
  pub insert_open : {last : Rows} → IsSound s ids last → is_open r u y ≡ true → OneOutMore s t u x r last → MovesAbove s t u r last → IsLocal s last
  insert_open {last} sound opens one moved =
      local_of_agrees s t ids last shape sound (nearly_after shape counted.nearly moved (paid moved x (x ∷ []) [] refl one (debt_open counted opens)))

-- ---- a deletion: the joint is counted off at x, and then from y

-- what is over
pub over_of_large : (s : Layers) (t : QueryTree) (u x y : ℕ) (r : Rows) → IsShapeOf s t → IsLower s u → IsLocalWith s u x y r → is_kept r (s.parent u) x ≡ true → OverAt s t u x y r
over_of_large s t u x y r shape lower b stands =
    let large = large_agrees s t u x y r shape b in
    record {
      root = large.root;
      ins = λ z w low.
          elim (cases_eq z u) [
            | inl e ↦
                let P : ℕ → Type 0 = λ k. ins_in (r k w) ≡ ins_seen s r k w + cond ((k == u) && (y == w)) 1 0 in
                let at = large.ins u w (low_with s u b.more u lower) in
                let more = b.same (λ e. (e.below == w) && is_kept r (s.parent u) e.above) in
                let rest = seen_at s u b.more r w in
                let one : bit ((y == w) && is_kept r (s.parent u) x) ≡ bit (y == w) = ap (λ k. bit ((y == w) && k)) stands ∙ on (y == w) in
                let hit : bit ((u == u) && (y == w)) ≡ bit (y == w) = ap (λ k. bit (k && (y == w))) (eq-eqb u u refl) in
                subst P (sym e) (omega (arith, at, more, rest, one, hit))
            | inr ne ↦
                let before = large.ins z w (low_with s u b.more z low) in
                let other = seen_other s u b.more r z w ne in
                let miss : bit ((z == u) && (y == w)) ≡ 0 = ap (λ k. bit (k && (y == w))) (ne_eqb z u ne) in omega (arith, before, other, miss)
          ];
      outs = λ c low ne v row is. let before = large.outs c (low_with s u b.more c low) v row is in let other = due_other s u b.more r v c ne in omega (arith, before, other);
      here = λ v row is.
          let before = large.outs u (low_with s u b.more u lower) v row is in
          let more = b.same (λ l. (l.above == v) && is_open r u l.below) in
          let rest = due_at s u b.more r v in omega (arith, before, more, rest);
    }

module _ {s : Layers} {t : QueryTree} {u x y : ℕ} {r : Rows} (over : OverAt s t u x y r) where
  -- the layers above agree
  pub over_above : OutsAbove s t r u
  over_above c low high = over.outs c low (λ e. let f = ap (depth t) e in absurd (omega (arith, f, high)))

  -- where y is open
  pub over_debt : is_open r u y ≡ true → OutsDebtAt s t r u [] (x ∷ [])
  over_debt opens v row is =
      let a = over.here v row is in
      let one : bit ((x == v) && is_open r u y) ≡ bit (x == v) = ap (λ k. bit ((x == v) && k)) opens ∙ on (x == v) in
      let split = times-cons v x [] in omega (arith, a, one, split)

  -- where y is not open, no out counter is over
  pub off_shut : is_open r u y ≡ false → InsOverAt s t u y r
  off_shut shut = record {
    root = over.root;
    ins = over.ins;
    outs = λ c low.
        elim (cases_eq c u) [
          | inl e ↦
              let P : ℕ → Type 0 = λ k. OutsAt s t r k in
              subst P (sym e) (λ v row is. let a = over.here v row is in let b : bit ((x == v) && is_open r u y) ≡ 0 = ap (λ k. bit ((x == v) && k)) shut ∙ off (x == v) in omega (arith, a, b))
          | inr ne ↦ over.outs c low ne
        ];
  }

  -- after x counts it off
  pub off_open : {last : Rows} → is_open r u y ≡ true → OneOutMore s t u x last r → MovesAbove s t u r last → InsOverAt s t u y last
  off_open {last} opens one moved = record {
    root = λ w. moved.ins s.root w ∙ over.root w;
    ins = λ z w low. let own = moved.ins z w in let was = over.ins z w low in let seen = seen_alike s r last z w (λ v. moved.kept (s.parent z) v) in omega (arith, own, was, seen);
    outs = λ c low.
        elim (cases_eq c u) [
          | inl e ↦ let P : ℕ → Type 0 = λ k. OutsAt s t last k in subst P (sym e) (paid_off moved x (x ∷ []) [] refl one (over_debt opens))
          | inr ne ↦ moved.others c low ne (over.outs c low ne)
        ];
  }

-- the joint that y counts off next
delete_turn : (s : Layers) (t : QueryTree) (ids : List ℕ) (u x y : ℕ) (r : Rows) → IsShapeOf s t → IsLower s u → IsSound s ids r → InsOverAt s t u y r → FallTurn s t ids (s.parent u) x u y [] [] r r
delete_turn s t ids u x y r shape lower sound over =
    let p = s.parent u in
    record {
      shape = shape;
      lower = lower;
      parent = refl;
      state = record {
        sound = sound;
        frame = record { high = λ z y _ _. refl; ins = refl };
        scan = record {
          only = λ z ne. (refl, only_child s p u (y ∷ []) (pending s p x []) refl (only_pending s p x []) z ne, refl);
          among = λ z w. omega arith;
          ins = λ z w low below.
              let before = over.ins z w low in
              elim (cases_eq z u) [
                | inl e ↦
                    let P : ℕ → Type 0 = λ k. times w (at_child u (y ∷ []) (pending s p x []) k) ≡ cond ((k == u) && (y == w)) 1 0 in
                    let a = ap (times w) (at_here u (y ∷ []) (pending s p x [])) in
                    let split = times-cons w y [] in
                    let hit : bit ((u == u) && (y == w)) ≡ bit (y == w) = ap (λ k. bit (k && (y == w))) (eq-eqb u u refl) in
                    let same = subst P (sym e) (omega (arith, a, split, hit)) in omega (arith, before, same)
                | inr ne ↦
                    let a = none_at s p x u (y ∷ []) z (λ k. k == w) ne in
                    let miss : bit ((z == u) && (y == w)) ≡ 0 = ap (λ k. bit (k && (y == w))) (ne_eqb z u ne) in omega (arith, before, a, miss)
              ];
          outs = λ z v row low below is. let before = over.outs z low v row is in let b = zip (v == x) in omega (arith, before, b);
        };
      };
    }
  where
    zip : (b : Bool) → cond b (count_by (is_open r u) []) 0 ≡ 0
    zip true = refl
    zip false = refl

module _ (s : Layers) (t : QueryTree) (u x y : ℕ) (r : Rows) (over : InsOverAt s t u y r) where
  over_miss : (z w : ℕ) → z ≢ u → bit ((z == u) && (y == w)) ≡ 0
  over_miss z w ne = ap (λ k. bit (k && (y == w))) (ne_eqb z u ne)

  -- the layers below agree
  pub over_below : AgreesBelow s t r u
  over_below = record {
    ins = λ z w low deep. let a = over.ins z w low in let miss = over_miss z w (λ e. let f = ap (depth t) e in absurd (omega (arith, f, deep))) in omega (arith, a, miss);
    outs = λ c low deep. over.outs c low;
  }

  -- y has a row
  pub over_stands : (ids : List ℕ) → IsLower s u → IsSound s ids r → is_kept r u y ≡ true
  over_stands ids lower sound =
      let a = over.ins u y lower in
      let one : bit ((u == u) && (y == y)) ≡ 1 = (λ i. bit (eq-eqb u u refl i && eq-eqb y y refl i)) in
      sound.kept u y ∙ lt-ltb 0 (ins_in (r u y)) (omega (arith, a, one))

  -- and when it is counted off there, all agree
  pub delete_counted : (ids : List ℕ) (r' : Rows) → IsShapeOf s t → IsLower s u → IsSound s ids r → OneInMore t u y r' r → AgreesBelow s t r' u → IsSound s ids r' → IsLocal s r'
  delete_counted ids r' shape lower sound one below sound' =
      let p = s.parent u in
      let d = shape.tree.deeper u lower.inside lower.apart in
      let others : (z w : ℕ) → depth t z ≤ depth t u → ((z ≡ u) × (w ≡ y) → ⊥) → r' z w ≡ r z w = λ z w high ne. sym (one.others z w high ne) in
      let before : Before s t p r = record {
        root = over.root;
        ins = λ z w low high. let a = over.ins z w low in let miss = over_miss z w (deep_apart s t u shape lower z high) in omega (arith, a, miss);
        outs = λ c low high. over.outs c low;
      } in
      let state = fall_left (delete_turn s t ids u x y r shape lower sound over) one below sound' in
      let outs : (c : ℕ) → IsLower s c → depth t p < depth t c → OutsAt s t r' c = λ c low deep v row is. (let a = state.scan.outs c v row low deep is in let b = none_counted (v == x) (is_open r' c) in omega (arith, a, b)) in
      let near : Nearly s t u r' = nearly_from shape (before_stays shape (shape.tree.parent u lower.inside lower.apart) (parent_rows s t u y r r' shape lower others) before)
      (λ z w low deep. let a = state.scan.ins z w low deep in let c = gone z (λ k. k == w) in omega (arith, a, c)) (λ c low deep _. outs c low deep) in
      local_of_agrees s t ids r' shape sound' (nearly_all shape near (outs u lower (omega (arith, d))))
    where
      gone : (z : ℕ) (o : ℕ → Bool) → count_by o (at_child u [] (pending s (s.parent u) x []) z) ≡ 0
      gone z o =
          elim (cases_eq z u) [
            | inl e ↦ let P : ℕ → Type 0 = λ k. count_by o (at_child u [] (pending s (s.parent u) x []) k) ≡ 0 in subst P (sym e) (ap (count_by o) (at_here u [] (pending s (s.parent u) x [])))
            | inr ne ↦ none_at s (s.parent u) x u [] z o ne
          ]

-- ---- what the calls ask

-- x is as it was after the joint is counted into y
pub parent_stays : {s : Layers} {t : QueryTree} {u y : ℕ} {less more : Rows} → IsShapeOf s t → IsLower s u → OneInMore t u y less more → (x : ℕ) → more (s.parent u) x ≡ less (s.parent u) x
parent_stays {s} {t} {u} {y} {less} {more} shape lower one x = parent_rows s t u y less more shape lower one.others (s.parent u) x (omega arith)

-- y's counter has room, since no layer has more joints than a counter counts
pub without_room : (s : Layers) (t : QueryTree) (u x y : ℕ) (r : Rows) → IsShapeOf s t → IsLower s u → IsLocalWithout s u x y r → is_kept r (s.parent u) x ≡ true → ForSome (r u y) (λ row. row.ins < 2 ^ 32 - 1)
without_room s t u x y r shape lower b stands row is =
    let small = small_agrees s t u x y r shape b in
    let at = small.ins u y (low_with s u b.rest u lower) in
    let rest = seen_at s u b.rest r y in
    let more = b.same (λ e. (e.below == y) && is_kept r (s.parent u) e.above) in
    let one : bit ((y == y) && is_kept r (s.parent u) x) ≡ 1 = (λ i. bit (eq-eqb y y refl i && stands i)) in
    let most = count_by-le-length (λ (e : Joint). (e.below == y) && is_kept r (s.parent u) e.above) (s.joints u) in
    let few = shape.small u in
    let here = ap ins_in is in omega (arith, at, rest, more, one, most, few, here)
