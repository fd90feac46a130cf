-- One in counter moved, up or down: what stays true of the rows, and what is late below a row that began or went.
use Rattle.std.proofs.Common.{◌≡◌, ◌≢◌, ℕ, zero, suc, ◌+◌, ◌-◌, ◌<◌, Bool, true, false, cond, nat_lt, List, inl, inr, refl, sym, ap, ◌∙◌, subst, arith, ◌==◌, length}
use Rattle.std.specs.Prelude.{count_by, Option, None, Some, is_some, slice_index, replicate}
use Rattle.std.specs.Option.{option_map_or}
use Rattle.std.specs.List.{list_any}
use Rattle.std.proofs.lemmas.Bool.{eq-eqb, ne_eqb, cases_eq, lt-ltb, ltb-true}
use Rattle.flux_model.specs.Exact.{Row}
use Rattle.flux_model.specs.Tree.{QueryTree}
use Rattle.query_tree.specs.Depth.{depth}
use Rattle.dcg_store.specs.Counters.{first_row, more_ins, fewer_ins}
use Rattle.dcg_store.proofs.CallerLemmas.{left_of}
use Rattle.dcg_moves.specs.Layers.{Layers, children, below_of}
use Rattle.dcg_moves.specs.Rows.{Rows, Changes, is_kept, ins_in, has_all, is_open}
use Rattle.dcg_moves.specs.Shape.{number_in}
use Rattle.dcg_moves.specs.Sound.{KeptByIns, IsSound}
use Rattle.dcg_moves.specs.Agree.{times, AgreesBelow}
use Rattle.dcg_moves.specs.Moves.{OneInMore, Frame}
use Rattle.dcg_moves.specs.Scan.{pending, HasBegun, HasGone}
use Rattle.dcg_moves.proofs.JointCounts.{same_pair, begun, due_below, due_alike, seen_alike}
use Rattle.dcg_moves.proofs.StateLemmas.{stands_row}
use Rattle.dcg_moves.proofs.WeightLemmas.{Grows}
use Rattle.dcg_moves.proofs.OutLemmas.{some_is}
use Rattle.dcg_moves.proofs.LateLemmas.{none_counted, only_pending, pending_all, pending_among}

-- ---- what a row is after one joint more, or one less

-- one joint more into it
abbrev pub entered : ℕ → Option Row → Option Row
entered width o = Some (option_map_or more_ins o (first_row width))

entered_open : (width : ℕ) (o : Option Row) → has_all o ≡ true → has_all (entered width o) ≡ true
entered_open width None h = absurd (let bad : false ≡ true = h in cc)
entered_open width (Some row) h = h

entered_ins : (width : ℕ) (o : Option Row) → ins_in (entered width o) ≡ ins_in o + 1
entered_ins width None = refl
entered_ins width (Some row) = refl

entered_alike : (width : ℕ) (o : Option Row) → is_some o ≡ true → has_all (entered width o) ≡ has_all o
entered_alike width None h = absurd (let bad : false ≡ true = h in cc)
entered_alike width (Some row) h = refl

left_ins : (o : Option Row) → 0 < ins_in o → ins_in (left_of o) + 1 ≡ ins_in o
left_ins None h = absurd (omega arith)
left_ins (Some row) h =
    elim (cases_eq row.ins 1) [
      | inl e ↦
          let hit : ins_in (left_of (Some row)) ≡ 0 = ap (λ b. ins_in (cond b None (Some (fewer_ins row)))) (eq-eqb row.ins 1 e) in omega (arith, hit, e)
      | inr ne ↦
          let miss : ins_in (left_of (Some row)) ≡ row.ins - 1 = ap (λ b. ins_in (cond b None (Some (fewer_ins row)))) (ne_eqb row.ins 1 ne) in
          let some : 0 < row.ins = h in omega (arith, miss, some)
    ]

-- what is left of a row has the same out counters
left_outs : (o : Option Row) (next : Row) → left_of o ≡ Some next → (row : Row) × (o ≡ Some row) × (next.outs ≡ row.outs)
left_outs None next is = absurd (let bad : None ≡ Some next = is in cc)
left_outs (Some row) next is = (row, refl, left (row.ins == 1) is)
  where
    left : (b : Bool) → cond b None (Some (fewer_ins row)) ≡ Some next → next.outs ≡ row.outs
    left true h = absurd (let bad : None ≡ Some next = h in cc)
    left false h = let e : fewer_ins row ≡ next = some_is h in sym (ap (λ (f : Row). f.outs) e)

left_alike : (o : Option Row) → is_some (left_of o) ≡ true → has_all o ≡ has_all (left_of o)
left_alike o h =
    let next = stands_row (left_of o) h in
    let l = left_outs o next.0 next.1 in
    ap has_all l.1 ∙ sym (ap has_all next.1 ∙ (λ i. has_all (Some (record { ins = next.0.ins; outs = l.2 i }))))

left_by_ins : (o : Option Row) → 0 < ins_in o → is_some (left_of o) ≡ nat_lt 0 (ins_in (left_of o))
left_by_ins None h = absurd (omega arith)
left_by_ins (Some row) h =
    elim (cases_eq row.ins 1) [
      | inl e ↦ let P : Bool → Type 0 = λ b. is_some (cond b None (Some (fewer_ins row))) ≡ nat_lt 0 (ins_in (cond b None (Some (fewer_ins row)))) in
          subst P (sym (eq-eqb row.ins 1 e)) refl
      | inr ne ↦ let P : Bool → Type 0 = λ b. is_some (cond b None (Some (fewer_ins row))) ≡ nat_lt 0 (ins_in (cond b None (Some (fewer_ins row)))) in
          let some : 0 < row.ins = h in
          subst P (sym (ne_eqb row.ins 1 ne)) (sym (lt-ltb 0 (row.ins - 1) (omega arith)))
    ]

zeros_length : (n : ℕ) → length {A = ℕ} (replicate n 0) ≡ n
zeros_length zero = refl
zeros_length (suc n) = let e = zeros_length n in omega (arith, e)

zeros_at : (n k : ℕ) → slice_index (replicate n 0) k ≡ 0
zeros_at zero k = refl
zeros_at (suc n) zero = refl
zeros_at (suc n) (suc k) = zeros_at n k

-- ---- one joint more into (c, w)

module _ (c w width : ℕ) (r r' : Rows) (m : Changes r r' c w (entered width (r c w))) where
  -- it only adds
  pub in_grows : Grows r r'
  in_grows = record {
    keeps = λ z y was.
        elim (same_pair z y c w) [
          | inl e ↦ (λ i. is_kept r' (e.0 i) (e.1 i)) ∙ ap is_some m.here
          | inr ne ↦ ap is_some (m.elsewhere z y ne) ∙ was
        ];
    opens = λ z y was.
        elim (same_pair z y c w) [
          | inl e ↦ (λ i. is_open r' (e.0 i) (e.1 i)) ∙ ap has_all m.here ∙ entered_open width (r c w) (sym (λ i. is_open r (e.0 i) (e.1 i)) ∙ was)
          | inr ne ↦ ap has_all (m.elsewhere z y ne) ∙ was
        ];
  }

  -- the pair has a row
  pub in_stands : is_kept r' c w ≡ true
  in_stands = ap is_some m.here

  -- its in counter is one more
  pub in_ins : ins_in (r' c w) ≡ ins_in (r c w) + 1
  in_ins = ap ins_in m.here ∙ entered_ins width (r c w)

  -- what every move keeps
  pub in_sound : (s : Layers) (ids : List ℕ) → width ≡ length (children s c) → c < s.count → list_any (λ z. z == w) ids ≡ true → IsSound s ids r → IsSound s ids r'
  in_sound s ids wide inside member sound = record {
    kept = λ z y.
        elim (same_pair z y c w) [
          | inl e ↦
              let at : r' z y ≡ entered width (r c w) = (λ i. r' (e.0 i) (e.1 i)) ∙ m.here in
              let some : 0 < ins_in (r' z y) = omega (arith, ap ins_in at, entered_ins width (r c w)) in
              ap is_some at ∙ sym (lt-ltb 0 (ins_in (r' z y)) some)
          | inr ne ↦ ap is_some (m.elsewhere z y ne) ∙ sound.kept z y ∙ ap (λ o. nat_lt 0 (ins_in o)) (sym (m.elsewhere z y ne))
        ];
    wide = λ z y row is.
        elim (same_pair z y c w) [
          | inl e ↦ let P : ℕ → Type 0 = λ k. length row.outs ≡ length (children s k) in subst P (sym e.0) (here (r c w) refl row (sym ((λ i. r' (e.0 i) (e.1 i)) ∙ m.here) ∙ is))
          | inr ne ↦ sound.wide z y row (sym (m.elsewhere z y ne) ∙ is)
        ];
    within = λ z y k.
        elim (same_pair z y c w) [
          | inl e ↦ let P : ℕ → Type 0 = λ j. j < s.count in (subst P (sym e.0) inside, ap (λ j. list_any (λ q. q == j) ids) e.1 ∙ member)
          | inr ne ↦ sound.within z y (sym (ap is_some (m.elsewhere z y ne)) ∙ k)
        ];
  }
    where
      here : (o : Option Row) → r c w ≡ o → (row : Row) → entered width o ≡ Some row → length row.outs ≡ length (children s c)
      here None was row is = let e : first_row width ≡ row = some_is is in sym (ap (λ (f : Row). length f.outs) e) ∙ zeros_length width ∙ wide
      here (Some old) was row is = let e : more_ins old ≡ row = some_is is in sym (ap (λ (f : Row). length f.outs) e) ∙ sound.wide c w old was

  -- the layers below a row that begins are late by its joints
  pub begins : (s : Layers) (t : QueryTree) → AgreesBelow s t r c → r c w ≡ None → HasBegun s t c w (children s c) r'
  begins s t below absent = record {
    only = λ z ne. (only_pending s c w (children s c) z ne, refl, only_pending s c w (children s c) z ne);
    among = λ z y. pending_among s c w (children s c) z y;
    ins = λ z y lz deep.
        let before = below.ins z y lz deep in
        let own = ap ins_in (m.elsewhere z y (λ q. let f = ap (depth t) q.0 in absurd (omega (arith, f, deep)))) in
        elim (cases_eq (s.parent z) c) [
          | inl p ↦
              let more = begun s r r' z w y (ap (λ k. is_kept r k w) p ∙ ap is_some absent) (ap (λ k. is_kept r' k w) p ∙ in_stands)
              (λ x ne. ap (λ k. is_kept r' k x) p ∙ ap is_some (m.elsewhere c x (λ q. ne q.1)) ∙ sym (ap (λ k. is_kept r k x) p)) in
              let late = ap (times y) (pending_all s c w z lz p) in omega (arith, before, own, more, late)
          | inr np ↦
              let seen = seen_alike s r r' z y (λ x. ap is_some (m.elsewhere (s.parent z) x (λ q. np q.0))) in
              let late = ap (times y) (only_pending s c w (children s c) z np) in omega (arith, before, own, seen, late)
        ];
    outs = λ z x row lz deep is.
        let ne : z ≢ c = λ e. let f = ap (depth t) e in absurd (omega (arith, f, deep)) in
        let due = due_alike s r r' x z (λ y. ap has_all (m.elsewhere z y (λ q. ne q.0))) in
        elim (same_pair (s.parent z) x c w) [
          | inl p ↦
              let is_first : row ≡ first_row width = some_is (sym is ∙ (λ i. r' (p.0 i) (p.1 i)) ∙ row_is) in
              let empty = ap (λ (f : Row). slice_index f.outs (number_in t z)) is_first ∙ zeros_at width (number_in t z) in
              let all = due_below s r' z x in
              let late : cond (x == w) (count_by (is_open r' z) (pending s c w (children s c) z)) 0 ≡ count_by (is_open r' z) (below_of s z x) =
              (λ i. cond (eq-eqb x w p.1 i) (count_by (is_open r' z) (pending_all s c w z lz p.0 i)) 0) ∙ ap (λ k. count_by (is_open r' z) (below_of s z k)) (sym p.1) in
              omega (arith, empty, all, late)
          | inr other ↦
              let before = below.outs z lz deep x row (sym (m.elsewhere (s.parent z) x other) ∙ is) in
              let late : cond (x == w) (count_by (is_open r' z) (pending s c w (children s c) z)) 0 ≡ 0 =
              elim (cases_eq (s.parent z) c) [
                | inl p ↦ ap (λ b. cond b (count_by (is_open r' z) (pending s c w (children s c) z)) 0) (ne_eqb x w (λ e. other (p, e)))
                | inr np ↦ ap (λ l. cond (x == w) (count_by (is_open r' z) l) 0) (only_pending s c w (children s c) z np) ∙ none_counted (x == w) (is_open r' z)
              ] in
              omega (arith, before, due, late)
        ];
  }
    where
      row_is : r' c w ≡ Some (first_row width)
      row_is = m.here ∙ ap (entered width) absent

-- ---- one joint less into (c, w), which has a row

module _ (c w : ℕ) (r r' : Rows) (m : Changes r r' c w (left_of (r c w))) where
  -- it only takes away
  pub in_shrinks : Grows r' r
  in_shrinks = record {
    keeps = λ z y was.
        elim (same_pair z y c w) [
          | inl e ↦ (λ i. is_kept r (e.0 i) (e.1 i)) ∙ some (r c w) (sym ((λ i. is_kept r' (e.0 i) (e.1 i)) ∙ ap is_some m.here) ∙ was)
          | inr ne ↦ sym (ap is_some (m.elsewhere z y ne)) ∙ was
        ];
    opens = λ z y was.
        elim (same_pair z y c w) [
          | inl e ↦ (λ i. is_open r (e.0 i) (e.1 i)) ∙ full (r c w) (left_of (r c w)) refl (sym ((λ i. is_open r' (e.0 i) (e.1 i)) ∙ ap has_all m.here) ∙ was)
          | inr ne ↦ sym (ap has_all (m.elsewhere z y ne)) ∙ was
        ];
  }
    where
      some : (o : Option Row) → is_some (left_of o) ≡ true → is_some o ≡ true
      some None h = h
      some (Some row) h = refl

      full : (o l : Option Row) → left_of o ≡ l → has_all l ≡ true → has_all o ≡ true
      full o None e h = absurd (let bad : false ≡ true = h in cc)
      full o (Some next) e h = left_alike o (ap is_some e) ∙ ap has_all e ∙ h

  -- what every move keeps
  pub left_sound : (s : Layers) (ids : List ℕ) → 0 < ins_in (r c w) → IsSound s ids r → IsSound s ids r'
  left_sound s ids some sound = record {
    kept = λ z y.
        elim (same_pair z y c w) [
          | inl e ↦ let at : r' z y ≡ left_of (r c w) = (λ i. r' (e.0 i) (e.1 i)) ∙ m.here in ap is_some at ∙ left_by_ins (r c w) some ∙ ap (λ o. nat_lt 0 (ins_in o)) (sym at)
          | inr ne ↦ ap is_some (m.elsewhere z y ne) ∙ sound.kept z y ∙ ap (λ o. nat_lt 0 (ins_in o)) (sym (m.elsewhere z y ne))
        ];
    wide = λ z y row is.
        elim (same_pair z y c w) [
          | inl e ↦
              let l = left_outs (r c w) row (sym ((λ i. r' (e.0 i) (e.1 i)) ∙ m.here) ∙ is) in
              let P : ℕ → Type 0 = λ k. length row.outs ≡ length (children s k) in
              subst P (sym e.0) (ap length l.2 ∙ sound.wide c w l.0 l.1)
          | inr ne ↦ sound.wide z y row (sym (m.elsewhere z y ne) ∙ is)
        ];
    within = λ z y k. sound.within z y (in_shrinks.keeps z y k);
  }

  -- the layers below a row that went are ahead by its joints
  pub goes : (s : Layers) (t : QueryTree) → AgreesBelow s t r c → is_kept r c w ≡ true → r' c w ≡ None → HasGone s t c w (children s c) r'
  goes s t below stood absent = record {
    only = λ z ne. (refl, only_pending s c w (children s c) z ne, refl);
    among = λ z y. omega arith;
    ins = λ z y lz deep.
        let before = below.ins z y lz deep in
        let own = ap ins_in (m.elsewhere z y (λ q. let f = ap (depth t) q.0 in absurd (omega (arith, f, deep)))) in
        elim (cases_eq (s.parent z) c) [
          | inl p ↦
              let less = begun s r' r z w y (ap (λ k. is_kept r' k w) p ∙ ap is_some absent) (ap (λ k. is_kept r k w) p ∙ stood)
              (λ x ne. ap (λ k. is_kept r k x) p ∙ sym (ap is_some (m.elsewhere c x (λ q. ne q.1))) ∙ sym (ap (λ k. is_kept r' k x) p)) in
              let late = ap (times y) (pending_all s c w z lz p) in omega (arith, before, own, less, late)
          | inr np ↦
              let seen = seen_alike s r r' z y (λ x. ap is_some (m.elsewhere (s.parent z) x (λ q. np q.0))) in
              let late = ap (times y) (only_pending s c w (children s c) z np) in omega (arith, before, own, seen, late)
        ];
    outs = λ z x row lz deep is.
        let ne : z ≢ c = λ e. let f = ap (depth t) e in absurd (omega (arith, f, deep)) in
        let due = due_alike s r r' x z (λ y. ap has_all (m.elsewhere z y (λ q. ne q.0))) in
        let zero = none_counted (x == w) (is_open r' z) in
        elim (same_pair (s.parent z) x c w) [
          | inl p ↦ absurd (let bad : None ≡ Some row = sym absent ∙ (λ i. r' (sym p.0 i) (sym p.1 i)) ∙ is in cc)
          | inr other ↦
              let before = below.outs z lz deep x row (sym (m.elsewhere (s.parent z) x other) ∙ is) in
              omega (arith, before, due, zero)
        ];
  }

-- ---- where only the in counter of a row moved, the layers below it stay as they are

stays : (s : Layers) (t : QueryTree) (c w : ℕ) (r r' : Rows) → AgreesBelow s t r c → (row next : Row) → r c w ≡ Some row → r' c w ≡ Some next → next.outs ≡ row.outs →
    ((z y : ℕ) → ((z ≡ c) × (y ≡ w) → ⊥) → r' z y ≡ r z y) → AgreesBelow s t r' c
stays s t c w r r' below row next was is same elsewhere = record {
  ins = λ z y lz deep.
      let before = below.ins z y lz deep in
      let own = ap ins_in (elsewhere z y (λ q. let f = ap (depth t) q.0 in absurd (omega (arith, f, deep)))) in
      let seen = seen_alike s r r' z y (λ x. kept (s.parent z) x) in omega (arith, before, own, seen);
  outs = λ z lz deep x found at.
      let ne : z ≢ c = λ e. let f = ap (depth t) e in absurd (omega (arith, f, deep)) in
      let due = due_alike s r r' x z (λ y. ap has_all (elsewhere z y (λ q. ne q.0))) in
      elim (same_pair (s.parent z) x c w) [
        | inl p ↦
            let found_is : found ≡ next = some_is (sym at ∙ (λ i. r' (p.0 i) (p.1 i)) ∙ is) in
            let before = below.outs z lz deep x row ((λ i. r (p.0 i) (p.1 i)) ∙ was) in
            let counter : slice_index found.outs (number_in t z) ≡ slice_index row.outs (number_in t z) = ap (λ (f : Row). slice_index f.outs (number_in t z)) found_is ∙ ap (λ l. slice_index l (number_in t z)) same in
            omega (arith, before, due, counter)
        | inr other ↦
            let before = below.outs z lz deep x found (sym (elsewhere (s.parent z) x other) ∙ at) in
            omega (arith, before, due)
      ];
}
  where
    kept : (z y : ℕ) → is_kept r' z y ≡ is_kept r z y
    kept z y =
        elim (same_pair z y c w) [
          | inl e ↦ (λ i. is_kept r' (e.0 i) (e.1 i)) ∙ ap is_some is ∙ sym ((λ i. is_kept r (e.0 i) (e.1 i)) ∙ ap is_some was)
          | inr ne ↦ ap is_some (elsewhere z y ne)
        ]

-- ---- what the move of the counter comes to, with the walk down from there

-- one more, and what it leaves right below
pub record InMoved (s : Layers) (t : QueryTree) (u v : ℕ) (less more new : Rows) : Type 0 where
  pub counted : OneInMore t u v less more
  pub below : AgreesBelow s t new u

module _ (s : Layers) (t : QueryTree) (u v : ℕ) (old new : Rows) where
  -- a row that stood before
  pub in_again : (width : ℕ) → AgreesBelow s t old u → is_kept old u v ≡ true → Changes old new u v (entered width (old u v)) → InMoved s t u v old new new
  in_again width below stood m =
      let row = stands_row (old u v) stood in
      record {
        counted = record { ins = in_ins u v width old new m; alike = λ _. ap has_all m.here ∙ entered_alike width (old u v) stood; others = λ z y _ ne. m.elsewhere z y ne };
        below = stays s t u v old new below row.0 (more_ins row.0) row.1 (m.here ∙ ap (entered width) row.1) refl m.elsewhere;
      }

  -- a new row, filled
  pub in_new : (width : ℕ) (mid : Rows) → old u v ≡ None → Changes old mid u v (entered width (old u v)) → Frame t u v mid new → AgreesBelow s t new u → InMoved s t u v old new new
  in_new width mid absent m frame below = record {
    counted = record {
      ins = frame.ins ∙ in_ins u v width old mid m;
      alike = λ k. absurd (let bad : false ≡ true = sym (ap is_some absent) ∙ k in cc);
      others = λ z y high ne. frame.high z y high ne ∙ m.elsewhere z y ne;
    };
    below = below;
  }

  -- a row that stands still
  pub left_again : AgreesBelow s t old u → 0 < ins_in (old u v) → is_kept new u v ≡ true → Changes old new u v (left_of (old u v)) → InMoved s t u v new old new
  left_again below some stands m =
      let left : is_some (left_of (old u v)) ≡ true = sym (ap is_some m.here) ∙ stands in
      let next = stands_row (left_of (old u v)) left in
      let row = left_outs (old u v) next.0 next.1 in
      record {
        counted = record {
          ins = sym (left_ins (old u v) some) ∙ ap (λ o. ins_in o + 1) (sym m.here);
          alike = λ _. left_alike (old u v) left ∙ ap has_all (sym m.here);
          others = λ z y _ ne. sym (m.elsewhere z y ne);
        };
        below = stays s t u v old new below row.0 next.0 row.1 (m.here ∙ next.1) row.2 m.elsewhere;
      }

  -- a row that went, with what hung from it
  pub left_gone : (mid : Rows) → KeptByIns new → 0 < ins_in (old u v) → mid u v ≡ None → Changes old mid u v (left_of (old u v)) → Frame t u v mid new → AgreesBelow s t new u → InMoved s t u v new old new
  left_gone mid kept some absent m frame below =
      let ins : ins_in (new u v) ≡ ins_in (left_of (old u v)) = frame.ins ∙ ap ins_in m.here in
      let none : ins_in (new u v) ≡ 0 = frame.ins ∙ ap ins_in absent in
      record {
        counted = record {
          ins = sym (left_ins (old u v) some) ∙ ap (λ n. n + 1) (sym ins);
          alike = λ k. absurd (let bad : false ≡ true = ap (nat_lt 0) (sym none) ∙ sym (kept u v) ∙ k in cc);
          others = λ z y high ne. sym (frame.high z y high ne ∙ m.elsewhere z y ne);
        };
        below = below;
      }

-- a joint leads into a pair that has a row
pub some_ins : {s : Layers} {ids : List ℕ} {r : Rows} → IsSound s ids r → (u v : ℕ) → is_kept r u v ≡ true → 0 < ins_in (r u v)
some_ins {r = r} sound u v stands = ltb-true 0 (ins_in (r u v)) (sym (sound.kept u v) ∙ stands)
