-- The rows after a vertex without triples came or went: only its pair with the root moves.
use Rattle.std.proofs.Common.{◌≡◌, ◌≢◌, ℕ, ◌-◌, ◌<◌, ◌≤◌, ◌^◌, Bool, true, false, not, cond, ◌&&◌, ◌==◌, nat_lt, List, [], ◌∷◌, length, inl, inr, refl, sym, ap, subst, ◌∙◌, arith}
use Rattle.std.specs.Prelude.{◌⊎◌, Option, None, Some, is_some, map, count_by, replicate, slice_index, slice_index_or, slice_get}
use Rattle.std.specs.Option.{ForSome, option_map_or}
use Rattle.std.specs.List.{filter_map, list_all, range_with_len}
use Rattle.std.proofs.lemmas.Bool.{cases_eq, and_parts, eq-eqb, ne_eqb, eqb-false, both_ways, false_from_ne_true, ltb-true, lt-ltb}
use Rattle.std.proofs.lemmas.List.FromFn.{length-map-range_with_len, get_or-map-range_with_len}
use Rattle.std.proofs.lemmas.List.Sums.{sum_by-cons}
use Rattle.std.proofs.lemmas.Option.{get_or_from_slice_get}
use Rattle.flux_model.specs.Exact.{Row, StateRows, row_at, IsExact}
use Rattle.flux_model.specs.Graph.{Graph, has_vertex}
use Rattle.flux_model.specs.Pattern.{PatternGraph, vertex_count, fits, fits_labels}
use Rattle.flux_model.specs.States.{Joint, joint_of, joined}
use Rattle.flux_model.specs.Tree.{QueryTree, children, BelongsTo}
use Rattle.flux_laws.proofs.JointsLemmas.{joints_alike, joints_away}
use Rattle.dcg_store.specs.Counters.{first_row, more_ins}
use Rattle.dcg_store.specs.Moves.{in_raised, in_lowered}
use Rattle.dcg_store.proofs.CallerLemmas.{left_of}
use Rattle.dcg_moves.specs.Between.{layers}
use Rattle.dcg_moves.specs.Layers.{Layers}
use Rattle.dcg_moves.specs.Layers as shown
use Rattle.dcg_moves.specs.Local.{ins_due, outs_due, IsLocal}
use Rattle.dcg_moves.specs.Rows.{Rows, Changes, is_kept, is_open, ins_in, has_all}
use Rattle.dcg_moves.specs.Store.{SameStore}
use Rattle.dcg_moves.proofs.JoinedLemmas.{children_same, local-from_exact}
use Rattle.dcg_moves.proofs.ShapeLemmas.{joins_fitting}
use Rattle.dcg_moves.proofs.StateLemmas.{none_row}
use Rattle.dcg_moves.proofs.StoreLemmas.{in_raised_changes, in_lowered_changes, same_in_raised, same_in_lowered}
use Rattle.dcg_updates.specs.VertexApart.{IsVertexApart}
use Rattle.dcg_updates.proofs.PermutationLemmas.{bit}
use Rattle.dcg_updates.proofs.UpdateLemmas.{exact_after}
use Rattle.dcg_updates.proofs.ViewLemmas.{member_stands}

-- what is no vertex fits nothing
pub fits_none : (q : PatternGraph) (u : ℕ) (g : Graph) (v : ℕ) → has_vertex g v ≡ false → fits q u g v ≡ false
fits_none q u g v none = false_from_ne_true (fits q u g v) (λ h. both_ways (has_vertex g v) none (member_stands q u g v h))

-- ---- counts

-- of joints of which each passes both tests or neither
count_on : (t p r : Joint → Bool) (es : List Joint) → list_all t es ≡ true → ((e : Joint) → t e ≡ true → p e ≡ r e) → count_by p es ≡ count_by r es
count_on t p r [] all h = refl
count_on t p r (e ∷ es) all h =
    let two = and_parts (t e) (list_all t es) all in
    let rest = count_on t p r es two.1 h in
    let here : bit (p e) ≡ bit (r e) = ap bit (h e two.0) in
    omega (arith, rest, here, sum_by-cons (λ x. bit (p x)) e es, sum_by-cons (λ x. bit (r x)) e es)

count_none : (es : List Joint) → count_by (λ (e : Joint). false) es ≡ 0
count_none [] = refl
count_none (e ∷ es) = omega (arith, count_none es, sum_by-cons (λ (x : Joint). 0) e es)

zeros : (f : ℕ → ℕ) (cs : List ℕ) → ((c : ℕ) → f c ≡ 0) → map f cs ≡ replicate (length cs) 0
zeros f [] h = refl
zeros f (c ∷ cs) h = λ i. h c i ∷ zeros f cs h i

not_is : (b : Bool) → not b ≡ true → b ≡ false
not_is true h = absurd (let bad : false ≡ true = h in cc)
not_is false h = refl

-- at the root, one for a member
due_root : (s : Layers) (r : Rows) (v : ℕ) → ins_due s r s.root v ≡ cond (s.is_member s.root v) 1 0
due_root s r v = rw (eq-eqb s.root s.root refl) refl

-- elsewhere, the joints from members that have a row
due_lower : (s : Layers) (r : Rows) (u v : ℕ) → u ≢ s.root → ins_due s r u v ≡ count_by (λ (e : Joint). (e.below == v) && is_kept r (s.parent u) e.above) (s.joints u)
due_lower s r u v other = rw (ne_eqb u s.root other) refl

-- ---- the rows

-- the row of a pair with the root
abbrev root_row : QueryTree → Row
root_row t = first_row (length (children t t.root))

module _ (q : PatternGraph) (t : QueryTree) (old new : Graph) (id : ℕ) (moved : IsVertexApart id old new) where
  joints_same : (u : ℕ) → filter_map (joint_of q t new u) new.triples ≡ filter_map (joint_of q t old u) old.triples
  joints_same u = ap (filter_map (joint_of q t new u)) moved.triples ∙ joints_alike q t old new id moved.others u old.triples moved.free

  fits_same : (u v : ℕ) → v ≢ id → fits q u new v ≡ fits q u old v
  fits_same u v other = ap (λ b. nat_lt u (vertex_count q) && b) (moved.others (slice_index_or q.labels u []) v other)

  -- where the pair of the vertex and the root has a row exactly where it fits there, all rows are exact
  module _ (belongs : BelongsTo q t) (d d' : StateRows) (exact : IsExact q t old d) (row : Option Row) (changes : Changes (row_at d) (row_at d') t.root id row) (is_row : row ≡ cond (fits q t.root new id) (Some (root_row t)) None) where
    abbrev s : Layers
    s = layers q t old

    abbrev s' : Layers
    s' = layers q t new

    abbrev r : Rows
    r = row_at d

    abbrev r' : Rows
    r' = row_at d'

    local : IsLocal s r
    local = local-from_exact (joined q t old) belongs.tree (joins_fitting q t old belongs (λ _. old.triples)) d exact

    elsewhere : (u v : ℕ) → v ≢ id → r' u v ≡ r u v
    elsewhere u v other = changes.elsewhere u v (λ both. other both.1)

    below : (u v : ℕ) → u ≢ t.root → r' u v ≡ r u v
    below u v other = changes.elsewhere u v (λ both. other both.0)

    at_pair : (u v : ℕ) → ((u ≡ t.root) × (v ≡ id)) ⊎ (r' u v ≡ r u v)
    at_pair u v = by (cases_eq u t.root) (cases_eq v id)
      where
        by : (u ≡ t.root) ⊎ (u ≡ t.root → ⊥) → (v ≡ id) ⊎ (v ≡ id → ⊥) → ((u ≡ t.root) × (v ≡ id)) ⊎ (r' u v ≡ r u v)
        by (inl a) (inl b) = inl (a, b)
        by (inl a) (inr b) = inr (elsewhere u v b)
        by (inr a) any = inr (below u v a)

    here : (u v : ℕ) → u ≡ t.root → v ≡ id → r' u v ≡ cond (fits q t.root new id) (Some (root_row t)) None
    here u v a b = (λ i. r' (a i) (b i)) ∙ changes.here ∙ is_row

    counts : (p p' : Joint → Bool) (u : ℕ) → ((e : Joint) → e.above ≢ id → e.below ≢ id → p' e ≡ p e) → count_by p' (s'.joints u) ≡ count_by p (s.joints u)
    counts p p' u h =
        ap (count_by p') (joints_same u)
        ∙ count_on (λ e. not (e.above == id) && not (e.below == id)) p' p (filter_map (joint_of q t old u) old.triples) (joints_away q t old new id moved.others u old.triples moved.free) (λ e away.
        let two = and_parts (not (e.above == id)) (not (e.below == id)) away in
        h e (eqb-false e.above id (not_is (e.above == id) two.0)) (eqb-false e.below id (not_is (e.below == id) two.1)))

    outs_same : (v c : ℕ) → outs_due s' r' v c ≡ outs_due s r v c
    outs_same v c =
        counts (λ e. (e.above == v) && is_open (row_at d) c e.below) (λ e. (e.above == v) && is_open (row_at d') c e.below) c (λ e above under. ap (λ o. (e.above == v) && has_all o) (elsewhere c e.below under))

    outs_none : (c : ℕ) → outs_due s' r' id c ≡ 0
    outs_none c =
        counts (λ e. false) (λ e. (e.above == id) && is_open (row_at d') c e.below) c (λ e above under. ap (λ b. b && is_open (row_at d') c e.below) (ne_eqb e.above id above)) ∙ count_none (filter_map (joint_of q t old c) old.triples)

    kept_at : (b : Bool) → is_some {T = Row} (cond b (Some (root_row t)) None) ≡ nat_lt 0 (ins_in (cond b (Some (root_row t)) None))
    kept_at true = refl
    kept_at false = refl

    ins_at : (b : Bool) → ins_in (cond b (Some (root_row t)) None) ≡ cond b 1 0
    ins_at true = refl
    ins_at false = refl

    outs_at : (b : Bool) (x : Row) → cond b (Some (root_row t)) None ≡ Some x → x.outs ≡ replicate (length (children t t.root)) 0
    outs_at true x e = let same : root_row t ≡ x = cc in sym (ap (λ (k : Row). k.outs) same)
    outs_at false x e = absurd (let bad : None ≡ Some x = e in cc)

    ins_root : (v : ℕ) → ins_in (r' t.root v) ≡ cond (fits q t.root new v) 1 0
    ins_root v = by (cases_eq v id)
      where
        by : (v ≡ id) ⊎ (v ≡ id → ⊥) → ins_in (r' t.root v) ≡ cond (fits q t.root new v) 1 0
        by (inl same) = ap ins_in (here t.root v refl same) ∙ ins_at (fits q t.root new id) ∙ ap (λ k. cond (fits q t.root new k) 1 0) (sym same)
        by (inr other) = ap ins_in (elsewhere t.root v other) ∙ local.ins t.root belongs.tree.root v ∙ due_root (layers q t old) (row_at d) v ∙ ap (λ b. cond b 1 0) (sym (fits_same t.root v other))

    ins_lower : (u v : ℕ) → u < s.count → u ≢ t.root → ins_in (r' u v) ≡ ins_due s' r' u v
    ins_lower u v low other =
        ap ins_in (below u v other) ∙ local.ins u low v ∙ due_lower (layers q t old) (row_at d) u v other
        ∙ sym (counts (λ e. (e.below == v) && is_kept (row_at d) ((layers q t old).parent u) e.above) (λ e. (e.below == v) && is_kept (row_at d') ((layers q t old).parent u) e.above) u
        (λ e above under. ap (λ o. (e.below == v) && is_some o) (elsewhere ((layers q t old).parent u) e.above above)))
        ∙ sym (due_lower (layers q t new) (row_at d') u v other)

    local' : IsLocal s' r'
    local' = record {
      kept = λ u v. elim (at_pair u v) [
        | inl at ↦ (let P : Option Row → Type 0 = λ o. is_some o ≡ nat_lt 0 (ins_in o) in subst P (sym (here u v at.0 at.1)) (kept_at (fits q t.root new id)))
        | inr same ↦ (let P : Option Row → Type 0 = λ o. is_some o ≡ nat_lt 0 (ins_in o) in subst P (sym same) (local.kept u v))
      ];
      none = λ u v high. below u v (λ same. omega (arith, high, same, belongs.tree.root)) ∙ local.none u v high;
      ins = λ u low v. elim (cases_eq u t.root) [
        | inl root ↦ (let P : ℕ → Type 0 = λ k. ins_in (row_at d' k v) ≡ ins_due (layers q t new) (row_at d') k v in subst P (sym root) (ins_root v ∙ sym (due_root (layers q t new) (row_at d') v)))
        | inr other ↦ ins_lower u v low other
      ];
      outs = λ u low v x is. elim (at_pair u v) [
        | inl at ↦
            outs_at (fits q t.root new id) x (sym (here u v at.0 at.1) ∙ is)
            ∙ ap (λ n. replicate n 0) (ap length (sym (children_same (joined q t new) belongs.tree (joins_fitting q t new belongs (λ _. new.triples)) t.root)))
            ∙ ap (λ k. replicate (length (shown.children (layers q t new) k)) 0) (sym at.0)
            ∙ sym (zeros (outs_due (layers q t new) (row_at d') v) (shown.children (layers q t new) u) (λ c. ap (λ k. outs_due (layers q t new) (row_at d') k c) at.1 ∙ outs_none c))
        | inr same ↦ local.outs u low v x (sym same ∙ is) ∙ (λ i. map (λ c. sym (outs_same v c) i) (shown.children (layers q t old) u))
      ];
    }

    -- the rows are exact over the new graph
    pub moved_exact : SameStore d d' → IsExact q t new d'
    moved_exact same = exact_after q t new d d' belongs exact.whole exact.children same local'

-- ---- the four ways

module _ {q : PatternGraph} {t : QueryTree} {old new : Graph} {id : ℕ} {d : StateRows} {root : ℕ} (belongs : BelongsTo q t) (moved : IsVertexApart id old new) (exact : IsExact q t old d) (is_root : root ≡ t.root) where
  root_low : t.root < vertex_count q
  root_low = omega (arith, belongs.tree.root, belongs.vertices)

  -- the root has rows of its own
  pub root_inside : root < length d.children
  root_inside = omega (arith, is_root, belongs.tree.root, ap length exact.children, length-counts)
    where
      length-counts : length (map (λ u. length (children t u)) (range_with_len 0 (length t.links))) ≡ length t.links
      length-counts = length-map-range_with_len (λ u. length (children t u)) 0 (length t.links)

  width_is : slice_index d.children t.root ≡ length (children t t.root)
  width_is =
      ap (λ cs. slice_index cs t.root) exact.children
      ∙ get_or-map-range_with_len (λ k. length (children t k)) 0 (length t.links) t.root t.root 0 belongs.tree.root (omega arith)

  was_local : IsLocal (layers q t old) (row_at d)
  was_local = local-from_exact (joined q t old) belongs.tree (joins_fitting q t old belongs (λ _. old.triples)) d exact

  ins_was : ins_in (row_at d t.root id) ≡ cond (fits q t.root old id) 1 0
  ins_was = was_local.ins t.root belongs.tree.root id ∙ due_root (layers q t old) (row_at d) id

  -- what was no vertex had no row
  none_before : has_vertex new id ≡ true → row_at d t.root id ≡ None
  none_before stands =
      let unfit = fits_none q t.root old id (moved.moved ∙ ap not stands) in
      none_row (row_at d t.root id) (was_local.kept t.root id ∙ ap (nat_lt 0) (ins_was ∙ ap (λ b. cond b 1 0) unfit))

  -- so its counter has room
  pub root_room : has_vertex new id ≡ true → ForSome (row_at d root id) (λ row. row.ins < 2 ^ 32 - 1)
  root_room stands row is = absurd (let bad : None ≡ Some row = sym (none_before stands) ∙ ap (λ k. row_at d k id) (sym is_root) ∙ is in cc)

  told_fits : (labels : List (List ℕ)) (b : Bool) → slice_get q.labels root ≡ Some labels → b ≡ fits_labels new labels id → fits q t.root new id ≡ b
  told_fits labels b at told =
      let is : slice_index_or q.labels root [] ≡ labels = get_or_from_slice_get q.labels root labels [] at in
      let here : slice_index_or q.labels t.root [] ≡ labels = ap (λ k. slice_index_or q.labels k []) (sym is_root) ∙ is in
      (λ i. lt-ltb t.root (vertex_count q) root_low i && fits_labels new (here i) id) ∙ sym told

  kept : fits q t.root new id ≡ false → row_at d t.root id ≡ None → IsExact q t new d
  kept unfit none =
      moved_exact q t old new id moved belongs d d exact (row_at d t.root id) (record { here = refl; elsewhere = λ w y other. refl })
      (none ∙ ap (λ b. cond b (Some (root_row t)) None) (sym unfit)) (record { whole = refl; children = refl })

  -- a vertex came that does not fit the root
  pub unfit_exact : (labels : List (List ℕ)) (b : Bool) → has_vertex new id ≡ true → slice_get q.labels root ≡ Some labels → b ≡ fits_labels new labels id → b ≡ false → IsExact q t new d
  unfit_exact labels b stands at told fails = kept (told_fits labels b at told ∙ fails) (none_before stands)

  raised_is : (o : Option Row) (n : ℕ) → o ≡ None → n ≡ length (children t t.root) → Some (option_map_or more_ins o (first_row n)) ≡ Some (first_row (length (children t t.root)))
  raised_is o n none width = ap (λ k. Some (option_map_or more_ins k (first_row n))) none ∙ ap (λ k. Some (first_row k)) width

  -- one came that fits it
  pub raised_exact : (labels : List (List ℕ)) (b : Bool) (d' : StateRows) → has_vertex new id ≡ true → slice_get q.labels root ≡ Some labels → b ≡ fits_labels new labels id → b ≡ true → d' ≡ in_raised d root id → IsExact q t new d'
  raised_exact labels b d' stands at told holds is =
      let is' : d' ≡ in_raised d t.root id = is ∙ ap (λ k. in_raised d k id) is_root in
      let row = raised_is (row_at d t.root id) (slice_index d.children t.root) (none_before stands) width_is in
      moved_exact q t old new id moved belongs d d' exact (Some (option_map_or more_ins (row_at d t.root id) (first_row (slice_index d.children t.root)))) (in_raised_changes d d' t.root id is')
      (row ∙ ap (λ b. cond b (Some (root_row t)) None) (sym (told_fits labels b at told ∙ holds))) (same_in_raised d d' t.root id is')

  -- one went that had no row
  pub absent_exact : has_vertex new id ≡ false → row_at d root id ≡ None → IsExact q t new d
  absent_exact gone none = kept (fits_none q t.root new id gone) (ap (λ k. row_at d k id) (sym is_root) ∙ none)

  lowered_is : (o : Option Row) → is_some o ≡ nat_lt 0 (ins_in o) → ins_in o ≤ 1 → left_of o ≡ None
  lowered_is None kept few = refl
  lowered_is (Some x) kept few =
      let some = ltb-true 0 x.ins (sym kept) in
      let one : x.ins ≡ 1 = omega (arith, some, few) in
      ap (λ b. cond b None (Some (record x { ins = x.ins - 1 }))) (eq-eqb x.ins 1 one)

  -- one went that had a row
  pub lowered_exact : (d' : StateRows) → has_vertex new id ≡ false → d' ≡ in_lowered d root id → IsExact q t new d'
  lowered_exact d' gone is =
      let is' : d' ≡ in_lowered d t.root id = is ∙ ap (λ k. in_lowered d k id) is_root in
      let few = most (fits q t.root old id) in
      let row = lowered_is (row_at d t.root id) (was_local.kept t.root id) (omega (arith, ins_was, few)) in
      moved_exact q t old new id moved belongs d d' exact (left_of (row_at d t.root id)) (in_lowered_changes d d' t.root id is')
      (row ∙ ap (λ b. cond b (Some (root_row t)) None) (sym (fits_none q t.root new id gone))) (same_in_lowered d d' t.root id is')
    where
      most : (b : Bool) → cond b 1 0 ≤ 1
      most true = omega arith
      most false = omega arith
