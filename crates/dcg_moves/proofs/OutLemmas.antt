-- One out counter moved, up or down: what stays counted.
use Rattle.std.proofs.Common.{◌≡◌, ◌≢◌, ℕ, zero, suc, ◌+◌, ◌-◌, ◌<◌, ◌≤◌, true, false, cond, nat_lt, List, [], ◌∷◌, inl, inr, refl, sym, ap, ◌∙◌, subst, arith, ◌==◌, length, get_or-set_other, get_or-set_same, length-set}
use Rattle.std.specs.Prelude.{None, Some, is_some, slice_index, slice_get}
use Rattle.std.specs.Option.{option_map}
use Rattle.std.specs.List.{list_all}
use Rattle.std.proofs.lemmas.Bool.{and_parts, and_from, lt-ltb, ltb-true, eq-eqb, ne_eqb, cases_eq}
use Rattle.flux_model.specs.Exact.{Row}
use Rattle.flux_model.specs.Tree.{QueryTree}
use Rattle.query_tree.specs.Depth.{depth}
use Rattle.dcg_store.specs.Counters.{is_full, more_outs, fewer_outs}
use Rattle.dcg_moves.specs.Layers.{Layers, IsLower, children, above_of}
use Rattle.dcg_moves.specs.Rows.{Rows, Changes, is_kept, ins_in, outs_in, has_all, is_open}
use Rattle.dcg_moves.specs.Shape.{IsShapeOf, number_in}
use Rattle.dcg_moves.specs.Sound.{IsWide, IsSound}
use Rattle.dcg_moves.specs.Agree.{OutsDebtAt, OutsAt, OutsAbove}
use Rattle.dcg_moves.specs.Moves.{MovesAbove, OneOutMore}
use Rattle.dcg_moves.proofs.JointCounts.{bit, same_pair, opened, due_alike}
use Rattle.dcg_moves.proofs.WeightLemmas.{Grows}

-- the rows where the counter for u at (parent u, x) moved
pub record OutMove (s : Layers) (t : QueryTree) (u x : ℕ) (row next : Row) (old new : Rows) : Type 0 where
  pub shape : IsShapeOf s t
  pub lower : IsLower s u
  pub wide : IsWide s old
  pub was : old (s.parent u) x ≡ Some row
  pub here : new (s.parent u) x ≡ Some next
  pub elsewhere : (w y : ℕ) → ((w ≡ s.parent u) × (y ≡ x) → ⊥) → new w y ≡ old w y
  pub ins : next.ins ≡ row.ins
  pub size : length next.outs ≡ length row.outs
  pub other : (k : ℕ) → k ≢ number_in t u → slice_index next.outs k ≡ slice_index row.outs k

-- what is in a row that is there
pub some_is : {a b : Row} → Some a ≡ Some b → a ≡ b
some_is e = cc

-- a place with something is within
pub length_of_get : (xs : List ℕ) (i v : ℕ) → slice_get xs i ≡ Some v → i < length xs
length_of_get [] i v h = absurd (let bad : None ≡ Some v = h in cc)
length_of_get (y ∷ ys) zero v h = omega arith
length_of_get (y ∷ ys) (suc i) v h = let r = length_of_get ys i v h in omega arith

-- two children of one vertex have two numbers
number_apart : (s : Layers) (t : QueryTree) → IsShapeOf s t → (c u : ℕ) → IsLower s c → IsLower s u → c ≢ u → s.parent c ≡ s.parent u → number_in t c ≢ number_in t u
number_apart s t shape c u lc lu ne same e =
    ne (let both : Some c ≡ Some u =
    sym (shape.number c lc.inside lc.apart) ∙ (λ i. slice_get (children s (same i)) (e i)) ∙ shape.number u lu.inside lu.apart in cc)

-- where each number only grows
full_mono : (xs ys : List ℕ) → length xs ≡ length ys → ((k : ℕ) → slice_index xs k ≤ slice_index ys k) → list_all (nat_lt 0) xs ≡ true → list_all (nat_lt 0) ys ≡ true
full_mono [] [] same le h = refl
full_mono [] (y ∷ ys) same le h = absurd (omega arith)
full_mono (x ∷ xs) [] same le h = absurd (omega arith)
full_mono (x ∷ xs) (y ∷ ys) same le h =
    let parts = and_parts (nat_lt 0 x) (list_all (nat_lt 0) xs) h in
    let a = ltb-true 0 x parts.0 in
    let b = le 0 in
    and_from (nat_lt 0 y) (list_all (nat_lt 0) ys) (lt-ltb 0 y (let c : x ≤ y = b in omega (arith, a, c))) (full_mono xs ys (omega arith) (λ k. le (suc k)) parts.1)

module _ {s : Layers} {t : QueryTree} {u x : ℕ} {row next : Row} {old new : Rows} (m : OutMove s t u x row next old new) where
  deeper : depth t u ≡ suc (depth t (s.parent u))
  deeper = m.shape.tree.deeper u m.lower.inside m.lower.apart

  -- a row in another layer stays
  pub in_other_layer : (w y : ℕ) → w ≢ s.parent u → new w y ≡ old w y
  in_other_layer w y ne = m.elsewhere w y (λ p. ne p.0)

  -- a row of this depth or below stays
  pub in_deep_layer : (w y : ℕ) → depth t u ≤ depth t w → new w y ≡ old w y
  in_deep_layer w y deep = in_other_layer w y (λ e. let f = ap (depth t) e in absurd (omega (arith, f, deep, deeper)))

  -- the counter is one of the row's
  pub wide_of : number_in t u < length row.outs
  wide_of =
      let among = length_of_get (children s (s.parent u)) (number_in t u) u (m.shape.number u m.lower.inside m.lower.apart) in
      let width = m.wide (s.parent u) x row m.was in omega (arith, among, width)

  -- no in counter moves
  pub moved_ins : (w y : ℕ) → ins_in (new w y) ≡ ins_in (old w y)
  moved_ins w y =
      elim (same_pair w y (s.parent u) x) [
        | inl e ↦ let at : (r : Rows) → r w y ≡ r (s.parent u) x = λ r i. r (e.0 i) (e.1 i) in ap ins_in (at new ∙ m.here) ∙ m.ins ∙ sym (ap ins_in (at old ∙ m.was))
        | inr ne ↦ ap ins_in (m.elsewhere w y ne)
      ]

  -- no row begins or goes
  pub moved_kept : (w y : ℕ) → is_kept new w y ≡ is_kept old w y
  moved_kept w y =
      elim (same_pair w y (s.parent u) x) [
        | inl e ↦ let at : (r : Rows) → r w y ≡ r (s.parent u) x = λ r i. r (e.0 i) (e.1 i) in ap is_some (at new ∙ m.here) ∙ sym (ap is_some (at old ∙ m.was))
        | inr ne ↦ ap is_some (m.elsewhere w y ne)
      ]

  -- each row keeps its number of counters
  pub moved_wide : IsWide s new
  moved_wide w y found is =
      elim (same_pair w y (s.parent u) x) [
        | inl e ↦
            let at : (r : Rows) → r w y ≡ r (s.parent u) x = λ r i. r (e.0 i) (e.1 i) in
            let row_is : found ≡ next = some_is (sym is ∙ at new ∙ m.here) in
            ap (λ (f : Row). length f.outs) row_is ∙ m.size ∙ m.wide w y row (at old ∙ m.was)
        | inr ne ↦ m.wide w y found (sym (m.elsewhere w y ne) ∙ is)
      ]

  -- what every move keeps
  pub moved_sound : {ids : List ℕ} → IsSound s ids old → IsSound s ids new
  moved_sound sound = record {
    kept = λ w y. moved_kept w y ∙ sound.kept w y ∙ ap (nat_lt 0) (sym (moved_ins w y));
    wide = moved_wide;
    within = λ w y k. sound.within w y (sym (moved_kept w y) ∙ k);
  }

  -- the counter for another child stays
  pub other_counter : (c : ℕ) → IsLower s c → c ≢ u → (y : ℕ) (found : Row) → new (s.parent c) y ≡ Some found →
      (before : Row) × (old (s.parent c) y ≡ Some before) × (slice_index found.outs (number_in t c) ≡ slice_index before.outs (number_in t c))
  other_counter c low ne y found is =
      elim (same_pair (s.parent c) y (s.parent u) x) [
        | inl e ↦
            let at : (r : Rows) → r (s.parent c) y ≡ r (s.parent u) x = λ r i. r (e.0 i) (e.1 i) in
            let row_is : found ≡ next = some_is (sym is ∙ at new ∙ m.here) in
            (row, at old ∙ m.was, ap (λ (f : Row). slice_index f.outs (number_in t c)) row_is ∙ m.other (number_in t c) (number_apart s t m.shape c u low m.lower ne e.0))
        | inr other ↦ (found, sym (m.elsewhere (s.parent c) y other) ∙ is, refl)
      ]

  -- so the counters for that child agree as they did, where its layer's open members stay
  moved_others : (c : ℕ) → IsLower s c → c ≢ u → ((y : ℕ) → is_open new c y ≡ is_open old c y) → OutsAt s t old c → OutsAt s t new c
  moved_others c low ne same outs y found is =
      let b = other_counter c low ne y found is in
      let before = outs y b.0 b.1 in
      let due = due_alike s old new y c same in
      let counter = b.2 in omega (arith, before, due, counter)

  open_elsewhere : (c : ℕ) → c ≢ s.parent u → (y : ℕ) → is_open new c y ≡ is_open old c y
  open_elsewhere c ne y = ap has_all (in_other_layer c y ne)

  -- where the move opens and shuts nothing
  pub moved_alone : is_open new (s.parent u) x ≡ is_open old (s.parent u) x → MovesAbove s t u old new
  moved_alone same = record {
    wide = moved_wide;
    ins = moved_ins;
    kept = moved_kept;
    low = λ w y deep. in_deep_layer w y deep;
    others = λ c low ne outs. moved_others c low ne
        (λ y. elim (cases_eq c (s.parent u)) [
          | inl e ↦ ap (λ w. is_open new w y) e ∙ here y ∙ ap (λ w. is_open old w y) (sym e)
          | inr other ↦ open_elsewhere c other y
        ]) outs;
  }
    where
      here : (y : ℕ) → is_open new (s.parent u) y ≡ is_open old (s.parent u) y
      here y =
          elim (cases_eq y x) [
            | inl e ↦ ap (is_open new (s.parent u)) e ∙ same ∙ ap (is_open old (s.parent u)) (sym e)
            | inr ne ↦ ap has_all (m.elsewhere (s.parent u) y (λ q. ne q.1))
          ]

  -- where it opens or shuts (parent u, x), and the walk went on from there
  pub moved_on : {p : ℕ} {last : Rows} → p ≡ s.parent u → MovesAbove s t p new last → (p ≢ s.root → OutsAt s t last p) → MovesAbove s t u old last
  moved_on {p} {last} parent more counted =
      let M : ℕ → Type 0 = λ w. MovesAbove s t w new last in
      let C : ℕ → Type 0 = λ w. w ≢ s.root → OutsAt s t last w in
      on (subst M parent more) (subst C parent counted)
    where
      on : MovesAbove s t (s.parent u) new last → (s.parent u ≢ s.root → OutsAt s t last (s.parent u)) → MovesAbove s t u old last
      on more counted = record {
        wide = more.wide;
        ins = λ w y. more.ins w y ∙ moved_ins w y;
        kept = λ w y. more.kept w y ∙ moved_kept w y;
        low = λ w y deep. more.low w y (omega (arith, deep, deeper)) ∙ in_deep_layer w y deep;
        others = λ c low ne outs.
            elim (cases_eq c (s.parent u)) [
              | inl e ↦ let P : ℕ → Type 0 = λ w. OutsAt s t last w in subst P (sym e) (counted (λ f. low.apart (e ∙ f)))
              | inr other ↦ more.others c low other (moved_others c low ne (open_elsewhere c other) outs)
            ];
      }

  -- a raise shuts nothing, and a lowering opens nothing
  raise_full : (a b : Row) → length a.outs ≡ length b.outs → ((k : ℕ) → k ≢ number_in t u → slice_index b.outs k ≡ slice_index a.outs k) →
      slice_index a.outs (number_in t u) ≤ slice_index b.outs (number_in t u) → is_full a ≡ true → is_full b ≡ true
  raise_full a b size other more h =
      full_mono a.outs b.outs size (λ k.
      elim (cases_eq k (number_in t u)) [
        | inl e ↦ let P : ℕ → Type 0 = λ j. slice_index a.outs j ≤ slice_index b.outs j in subst P (sym e) more
        | inr ne ↦ let same = other k ne in omega (arith, same)
      ]) h

  -- a counter that grows shuts no pair
  pub raise_grows : slice_index row.outs (number_in t u) ≤ slice_index next.outs (number_in t u) → Grows old new
  raise_grows more = record {
    keeps = λ w y k. moved_kept w y ∙ k;
    opens = λ w y was.
        elim (same_pair w y (s.parent u) x) [
          | inl e ↦
              let at : (r : Rows) → r w y ≡ r (s.parent u) x = λ r i. r (e.0 i) (e.1 i) in
              ap has_all (at new ∙ m.here) ∙ raise_full row next (sym m.size) m.other more (sym (ap has_all (at old ∙ m.was)) ∙ was)
          | inr ne ↦ ap has_all (m.elsewhere w y ne) ∙ was
        ];
  }

  -- and one that falls opens none
  pub lower_grows : slice_index next.outs (number_in t u) ≤ slice_index row.outs (number_in t u) → Grows new old
  lower_grows less = record {
    keeps = λ w y k. sym (moved_kept w y) ∙ k;
    opens = λ w y was.
        elim (same_pair w y (s.parent u) x) [
          | inl e ↦
              let at : (r : Rows) → r w y ≡ r (s.parent u) x = λ r i. r (e.0 i) (e.1 i) in
              ap has_all (at old ∙ m.was) ∙ raise_full next row m.size (λ k ne. sym (m.other k ne)) less (sym (ap has_all (at new ∙ m.here)) ∙ was)
          | inr ne ↦ sym (ap has_all (m.elsewhere w y ne)) ∙ was
        ];
  }

  -- two layers up, nothing moved
  above_stays : s.parent u ≢ s.root → (y : ℕ) → new (s.parent (s.parent u)) y ≡ old (s.parent (s.parent u)) y
  above_stays root y =
      in_other_layer (s.parent (s.parent u)) y (λ e.
      let d = m.shape.tree.deeper (s.parent u) (m.shape.tree.parent u m.lower.inside m.lower.apart) root in let f = ap (depth t) e in absurd (omega (arith, d, f)))

  -- higher up, all agrees as it did
  pub above_next : OutsAbove s t old u → OutsAbove s t new (s.parent u)
  above_next above c low high =
      let other : c ≢ s.parent u = λ e. let f = ap (depth t) e in absurd (omega (arith, f, high)) in
      let ne : c ≢ u = λ e. let f = ap (depth t) e in absurd (omega (arith, f, high, deeper)) in
      moved_others c low ne (open_elsewhere c other) (above c low (omega (arith, high, deeper)))

  parent_outs : OutsAbove s t old u → s.parent u ≢ s.root → OutsAt s t old (s.parent u)
  parent_outs above root = above (s.parent u) (record { inside = m.shape.tree.parent u m.lower.inside m.lower.apart; apart = root }) (omega (arith, deeper))

  -- where (parent u, x) opened, or shut, its parents are late by its joints
  pub late_opened : OutsAbove s t old u → is_open old (s.parent u) x ≡ false → is_open new (s.parent u) x ≡ true → s.parent u ≢ s.root →
      OutsDebtAt s t new (s.parent u) (above_of s (s.parent u) x) []
  late_opened above shut opens root y found is =
      let before = parent_outs above root y found (sym (above_stays root y) ∙ is) in
      let more = opened s old new (s.parent u) x y shut opens (λ z ne. ap has_all (m.elsewhere (s.parent u) z (λ q. ne q.1))) in
      omega (arith, before, more)

  -- and by those that have to be counted off
  pub late_shut : OutsAbove s t old u → is_open old (s.parent u) x ≡ true → is_open new (s.parent u) x ≡ false → s.parent u ≢ s.root →
      OutsDebtAt s t new (s.parent u) [] (above_of s (s.parent u) x)
  late_shut above opens shut root y found is =
      let before = parent_outs above root y found (sym (above_stays root y) ∙ is) in
      let more = opened s new old (s.parent u) x y shut opens (λ z ne. sym (ap has_all (m.elsewhere (s.parent u) z (λ q. ne q.1)))) in
      omega (arith, before, more)

-- ---- the two moves

-- one pair of the layer has one joint more
one_out : (less more : Rows) (a b : Row) (p x j : ℕ) → less p x ≡ Some a → more p x ≡ Some b → slice_index b.outs j ≡ slice_index a.outs j + 1 → ((z : ℕ) → z ≢ x → more p z ≡ less p z) →
    (z : ℕ) → outs_in j (more p z) ≡ outs_in j (less p z) + cond (z == x) 1 0
one_out less more a b p x j was is count other z =
    elim (cases_eq z x) [
      | inl e ↦
          let now : outs_in j (more p z) ≡ slice_index b.outs j = ap (outs_in j) (ap (more p) e ∙ is) in
          let then : outs_in j (less p z) ≡ slice_index a.outs j = ap (outs_in j) (ap (less p) e ∙ was) in
          let one : bit (z == x) ≡ 1 = ap bit (eq-eqb z x e) in omega (arith, now, then, one, count)
      | inr ne ↦
          let same : outs_in j (more p z) ≡ outs_in j (less p z) = ap (outs_in j) (other z ne) in
          let zip : bit (z == x) ≡ 0 = ap bit (ne_eqb z x ne) in omega (arith, same, zip)
    ]

-- what a move of one counter comes to: `less` and `more` are the rows before and after, or after and before
pub record OutMoved (s : Layers) (t : QueryTree) (u x : ℕ) (less more old new : Rows) : Type 0 where
  pub row : Row
  pub next : Row
  pub move : OutMove s t u x row next old new
  pub counted : OneOutMore s t u x less more
  pub grows : Grows less more

module _ (s : Layers) (t : QueryTree) (u x p j : ℕ) (old new : Rows) (shape : IsShapeOf s t) (lower : IsLower s u) (wide : IsWide s old) (parent : p ≡ s.parent u) (number : j ≡ number_in t u)
    (row : Row) (was : old (s.parent u) x ≡ Some row) where
  -- one joint more
  pub raised : Changes old new p x (option_map (more_outs j) (old p x)) → OutMoved s t u x old new old new
  raised changes = record {
    row = row;
    next = next;
    move = move;
    counted = one_out old new row next (s.parent u) x (number_in t u) was move.here count (λ z ne. move.elsewhere (s.parent u) z (λ q. ne q.1));
    grows = raise_grows move (omega (arith, count));
  }
    where
      next : Row
      next = more_outs (number_in t u) row

      move : OutMove s t u x row next old new
      move = record {
        shape = shape;
        lower = lower;
        wide = wide;
        was = was;
        here = ap (λ w. new w x) (sym parent) ∙ changes.here ∙ (λ i. option_map (more_outs (number i)) ((ap (λ w. old w x) parent ∙ was) i));
        elsewhere = λ w y ne. changes.elsewhere w y (λ q. ne (q.0 ∙ parent, q.1));
        ins = refl;
        size = length-set row.outs (number_in t u) (slice_index row.outs (number_in t u) + 1);
        other = λ k ne. get_or-set_other row.outs (number_in t u) k (slice_index row.outs (number_in t u) + 1) 0 ne;
      }

      count : slice_index next.outs (number_in t u) ≡ slice_index row.outs (number_in t u) + 1
      count = get_or-set_same row.outs (number_in t u) (slice_index row.outs (number_in t u) + 1) 0 (wide_of move)

  -- one joint less
  pub lowered : 0 < slice_index row.outs (number_in t u) → Changes old new p x (option_map (fewer_outs j) (old p x)) → OutMoved s t u x new old old new
  lowered some changes = record {
    row = row;
    next = next;
    move = move;
    counted = one_out new old next row (s.parent u) x (number_in t u) move.here was count (λ z ne. sym (move.elsewhere (s.parent u) z (λ q. ne q.1)));
    grows = lower_grows move (omega (arith, count));
  }
    where
      next : Row
      next = fewer_outs (number_in t u) row

      move : OutMove s t u x row next old new
      move = record {
        shape = shape;
        lower = lower;
        wide = wide;
        was = was;
        here = ap (λ w. new w x) (sym parent) ∙ changes.here ∙ (λ i. option_map (fewer_outs (number i)) ((ap (λ w. old w x) parent ∙ was) i));
        elsewhere = λ w y ne. changes.elsewhere w y (λ q. ne (q.0 ∙ parent, q.1));
        ins = refl;
        size = length-set row.outs (number_in t u) (slice_index row.outs (number_in t u) - 1);
        other = λ k ne. get_or-set_other row.outs (number_in t u) k (slice_index row.outs (number_in t u) - 1) 0 ne;
      }

      count : slice_index row.outs (number_in t u) ≡ slice_index next.outs (number_in t u) + 1
      count = let h = get_or-set_same row.outs (number_in t u) (slice_index row.outs (number_in t u) - 1) 0 (wide_of move) in omega (arith, h, some)
