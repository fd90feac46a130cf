-- The out counters for one pattern vertex, at its parent.
use Rattle.std.proofs.Common.{◌≡◌, ◌≢◌, ℕ, suc, ◌+◌, ◌<◌, ◌≤◌, Bool, true, false, cond, ◌==◌, ◌&&◌, List, [], ◌∷◌, map, length, get_or, set, take, inl, inr, refl, sym, ap, ◌∙◌, arith}
use Rattle.std.specs.Prelude.{◌⊎◌, Option, None, Some, count_by, nat_eq, slice_index, slice_get}
use Rattle.std.specs.Option.{is_some, option_map, ForSome, IsSomeAnd}
use Rattle.std.specs.List.{sum_by, list_any, IsDistinct}
use Rattle.std.proofs.lemmas.Bool.{and_parts, eq-eqb, ne_eqb, cases_eq}
use Rattle.std.proofs.lemmas.List.{ext_get_or, get_or-map, get_or-set_same, get_or-set_other, length-map, length-set, take_all}
use Rattle.std.proofs.lemmas.List.Sums.{sum_by-take-le, sum_by_more, count_by-le-length}
use Rattle.std.proofs.lemmas.List.FromFn.{get_or-map-range_with_len}
use Rattle.std.proofs.lemmas.Option.{get_or_from_slice_get, slice_get-get_or, slice_get_within}
use Rattle.flux_model.specs.Graph.{Graph, has_vertex}
use Rattle.flux_model.specs.Pattern.{PatternGraph, fits}
use Rattle.flux_model.specs.Tree.{QueryTree, link_at, children, IsTree, BelongsTo}
use Rattle.flux_model.specs.States.{Joined, joined, reaches, extends, is_explicit}
use Rattle.flux_model.specs.Exact.{Row, StateRows, row_at, in_count, out_count, row_of, IsExactOver}
use Rattle.flux_model.specs.declared.limits.Limits.{Limits}
use Rattle.flux_model.specs.declared.tree.TreeLink.{TreeLink}
use Rattle.graph_traits.specs.WithinLimits.{IsWithinLimits}
use Rattle.query_tree.specs.Depth.{depth}
use Rattle.query_tree.proofs.CallerLemmas.{depth-below, child_once, parent_within}
use Rattle.flux_model.specs.Members.{In}
use Rattle.dcg_store.proofs.StateLemmas.{child_of, fits_of_reaches, full_is_extends}
use Rattle.graph_rows.specs.Branches.{IsBranchOf, ends}
use Rattle.dcg_transition.specs.Tallies.{opens_from, opens_among, IsTallied}
use Rattle.graph_rows.specs.Directions.{whole_row, ends_of}
use Rattle.dcg_transition.specs.Filled.{child_counts, is_open, opens, with_more_outs, HasMoreOuts, HasRoomFor, counted_row}
use Rattle.dcg_transition.specs.Levels.{is_after, IsCounted}
use Rattle.graph_rows.specs.declared.branch.Branch.{Branch}
use Rattle.graph_rows.proofs.CountLemmas.{count_same}
use Rattle.graph_rows.proofs.JointLemmas.{ends_few, apart, joints_of_row}
use Rattle.graph_rows.proofs.SumLemmas.{sum_alike, once}
use Rattle.dcg_transition.proofs.OutLemmas.{outs_same_option, outs_twice_option}
use Rattle.dcg_transition.proofs.LevelLemmas.{has_depths, after_other, after_here, after_not, after_deeper}
use Rattle.dcg_transition.proofs.ReachLemmas.{implied, vertex_of_fits}

-- ---- rows whose children are counted

map_alike : (f h : ℕ → ℕ) (cs : List ℕ) → ((c : ℕ) → In cs c → f c ≡ h c) → map f cs ≡ map h cs
map_alike f h [] e = refl
map_alike f h (c ∷ cs) e = λ i. e c (inl refl) i ∷ map_alike f h cs (λ d m. e d (inr m)) i

module _ (j : Joined) where
  -- an out counter while the children are counted
  abbrev counted : (ℕ → Bool) → ℕ → ℕ → ℕ
  counted done v c = cond (done c) (out_count j v c) 0

  pub row_alike : (done also : ℕ → Bool) (u v : ℕ) → ((c : ℕ) → In (children j.tree u) c → done c ≡ also c) → counted_row done j u v ≡ counted_row also j u v
  row_alike done also u v e =
      ap (λ outs. cond (reaches j u v) (Some (record { ins = in_count j u v; outs = outs })) None)
      (map_alike (counted done v) (counted also v) (children j.tree u) (λ c m. ap (λ b. cond b (out_count j v c) 0) (e c m)))

  pub row_settled : (done : ℕ → Bool) (u v : ℕ) → ((c : ℕ) → In (children j.tree u) c → done c ≡ true) → counted_row done j u v ≡ row_of j u v
  row_settled done u v e =
      ap (λ outs. cond (reaches j u v) (Some (record { ins = in_count j u v; outs = outs })) None)
      (map_alike (counted done v) (out_count j v) (children j.tree u) (λ c m. ap (λ b. cond b (out_count j v c) 0) (e c m)))

  pub counted_alike : (done also : ℕ → Bool) (d : StateRows) → ((c : ℕ) → done c ≡ also c) → IsCounted j done d → IsCounted j also d
  counted_alike done also d e is = record { whole = is.whole; children = is.children; rows = λ u v. is.rows u v ∙ row_alike done also u v (λ c _. e c) }

  -- exact, where each child is counted
  pub all_counted : (done : ℕ → Bool) (d : StateRows) → ((u c : ℕ) → In (children j.tree u) c → done c ≡ true) → IsCounted j done d → IsExactOver j d
  all_counted done d e is = record { whole = is.whole; children = is.children; rows = λ u v. is.rows u v ∙ row_settled done u v (e u) }

pub child_deeper : (t : QueryTree) → IsTree t → (u c : ℕ) → In (children t u) c → depth t c ≡ suc (depth t u)
child_deeper t is u c m =
    let child = child_of t u c m in
    depth-below t is c child.1 child.2 ∙ ap (λ p. suc (depth t p)) child.3

mapped_some : (f : Row → Row) (o : Option Row) → is_some (option_map f o) ≡ is_some o
mapped_some f None = refl
mapped_some f (Some row) = refl

pub some_and : (P : Row → Type 0) (o : Option Row) → ForSome o P → is_some o ≡ true → IsSomeAnd o P
some_and P None h some = absurd (let bad : false ≡ true = some in cc)
some_and P (Some row) h some = h row refl

-- ---- while a branch's child is counted

module _ (q : PatternGraph) (t : QueryTree) (belongs : BelongsTo q t) (b : Branch) (branch : IsBranchOf q t b) (g : Graph) (old : StateRows)
    (before : IsCounted (joined q t g) (is_after t (depth t b.child) b.child) old) where
  abbrev from_parent : Joined
  from_parent = joined q t g

  abbrev was : ℕ → Bool
  was = is_after t (depth t b.child) b.child

  abbrev now : ℕ → Bool
  now = is_after t (depth t b.child) (b.child + 1)

  child_row : (w : ℕ) → row_at old b.child w ≡ row_of from_parent b.child w
  child_row w =
      before.rows b.child w
      ∙ row_settled from_parent was b.child w (λ c m. after_deeper t (depth t b.child) b.child c (omega (arith, child_deeper t belongs.tree b.child c m)))

  child_open : (w : ℕ) → is_open (row_at old b.child w) ≡ is_explicit from_parent b.child w
  child_open w = ap is_open (child_row w) ∙ by (reaches from_parent b.child w) refl
    where
      by : (s : Bool) → reaches from_parent b.child w ≡ s
          → is_open (cond s (Some (record { ins = in_count from_parent b.child w; outs = map (out_count from_parent w) (children t b.child) })) None) ≡ (s && extends from_parent b.child w)
      by true reached = full_is_extends from_parent (depth t) (has_depths t belongs.tree) belongs.tree b.child w (in_count from_parent b.child w) reached
      by false reached = refl

  abbrev tally : StateRows → ℕ → ℕ
  tally d v = opens_from d b g v

  tally_few : (d : StateRows) (v : ℕ) → tally d v ≤ length g.triples
  tally_few d v = omega (arith, count_by-le-length (opens d b.child) (ends b g v), ends_few g b.direction b.label.now v)

  tally_joints : (v : ℕ) → reaches from_parent b.link.parent v ≡ true → tally old v ≡ out_count from_parent v b.child
  tally_joints v reached =
      count_same (opens old b.child) (λ x. fits q b.child g x && is_explicit from_parent b.child x) (ends b g v)
      (λ x. child_open x ∙ sym (implied (fits q b.child g x) (is_explicit from_parent b.child x) (λ h. fits_of_reaches from_parent (length t.links) b.child x (and_parts _ _ h).0)))
      ∙ (λ i. count_by (λ x. fits q b.child g x && is_explicit from_parent b.child x) (ends_of (branch.direction i) (branch.label i) (whole_row (branch.direction i) g v)))
      ∙ sym (joints_of_row q t belongs b.child b.link branch.link g v (is_explicit from_parent b.child) (fits_of_reaches from_parent (length t.links) b.link.parent v reached))

  abbrev so_many : List ℕ → ℕ → ℕ
  so_many vs y = opens_among old b g vs y

  so_many-all : (vs : List ℕ) (y : ℕ) → sum_by (λ v. cond (y == v) (tally old y) 0) vs ≡ tally old y → so_many vs y ≡ tally old y
  so_many-all vs y e = sum_alike (λ v. cond (v == y) (tally old v) 0) (λ v. cond (y == v) (tally old y) 0) vs one ∙ e
    where
      one : (v : ℕ) → cond (v == y) (tally old v) 0 ≡ cond (y == v) (tally old y) 0
      one v = by (cases_eq v y)
        where
          by : (v ≡ y) ⊎ (v ≡ y → ⊥) → cond (v == y) (tally old v) 0 ≡ cond (y == v) (tally old y) 0
          by (inl same) = (λ i. cond (eq-eqb v y same i) (tally old (same i)) 0) ∙ sym (ap (λ s. cond s (tally old y) 0) (eq-eqb y v (sym same)))
          by (inr other) = ap (λ s. cond s (tally old v) 0) (ne_eqb v y other) ∙ sym (ap (λ s. cond s (tally old y) 0) (ne_eqb y v (λ same. other (sym same))))

  pub none_tallied : IsTallied b g [] old old
  none_tallied = record {
    whole = refl;
    children = refl;
    rows = λ x y. by (cases_eq x b.link.parent) y;
  }
    where
      by : {x : ℕ} → (x ≡ b.link.parent) ⊎ (x ≡ b.link.parent → ⊥) → (y : ℕ) → row_at old x y ≡ cond (x == b.link.parent) (option_map (with_more_outs b.number 0) (row_at old b.link.parent y)) (row_at old x y)
      by {x} (inl same) y =
          (λ i. row_at old (same i) y) ∙ sym (outs_same_option b.number (row_at old b.link.parent y))
          ∙ sym (ap (λ s. cond s (option_map (with_more_outs b.number 0) (row_at old b.link.parent y)) (row_at old x y)) (eq-eqb x b.link.parent same))
      by {x} (inr other) y = sym (ap (λ s. cond s (option_map (with_more_outs b.number 0) (row_at old b.link.parent y)) (row_at old x y)) (ne_eqb x b.link.parent other))

  pub child_apart : b.child ≢ b.link.parent
  child_apart = apart q t belongs b.child b.link branch.link

  -- the children's rows stay meanwhile
  tally_same : (vs : List ℕ) (mid : StateRows) → IsTallied b g vs old mid → (v : ℕ) → tally mid v ≡ tally old v
  tally_same vs mid is v =
      count_same (opens mid b.child) (opens old b.child) (ends b g v) (λ x.
      ap is_open (is.rows b.child x ∙ ap (λ s. cond s (option_map (with_more_outs b.number (so_many vs x)) (row_at old b.link.parent x)) (row_at old b.child x)) (ne_eqb b.child b.link.parent child_apart)))

  parent_row : (y : ℕ) (row : Row) → row_at old b.link.parent y ≡ Some row → (reaches from_parent b.link.parent y ≡ true) × (row.outs ≡ map (counted from_parent was y) (children t b.link.parent))
  parent_row y row e = by (reaches from_parent b.link.parent y) refl (sym (before.rows b.link.parent y) ∙ e)
    where
      by : (s : Bool) → reaches from_parent b.link.parent y ≡ s
          → cond s (Some (record { ins = in_count from_parent b.link.parent y; outs = map (counted from_parent was y) (children t b.link.parent) })) None ≡ Some row
          → (reaches from_parent b.link.parent y ≡ true) × (row.outs ≡ map (counted from_parent was y) (children t b.link.parent))
      by true reached h = (reached, cc)
      by false reached h = let bad : None ≡ Some row = h in absurd cc

  number_inside : b.number < length (children t b.link.parent)
  number_inside = slice_get_within (children t b.link.parent) b.number b.child branch.number

  pub number_counted : (counts : List ℕ) → counts ≡ child_counts t → b.number < slice_index counts b.link.parent
  number_counted counts is =
      let width = ap (λ (l : List ℕ). slice_index l b.link.parent) is ∙ get_or-map-range_with_len (λ c. length (children t c)) 0 (length t.links) b.link.parent b.link.parent 0 (parent_within t belongs.tree b.child b.link branch.link) (omega arith) in
      omega (arith, width, number_inside)

  at_number : get_or (children t b.link.parent) b.number 0 ≡ b.child
  at_number = get_or_from_slice_get (children t b.link.parent) b.number b.child 0 branch.number

  counter_before : (y : ℕ) → get_or (map (counted from_parent was y) (children t b.link.parent)) b.number 0 ≡ 0
  counter_before y =
      get_or-map (counted from_parent was y) (children t b.link.parent) b.number 0 0 number_inside
      ∙ ap (counted from_parent was y) at_number ∙ ap (λ s. cond s (out_count from_parent y b.child) 0) (after_not t (depth t b.child) b.child refl)

  parent_wide : (y : ℕ) → ForSome (row_at old b.link.parent y) (λ row. b.number < length row.outs)
  parent_wide y row e =
      let size = ap (λ (l : List ℕ). length l) (parent_row y row e).1 in
      omega (arith, size, length-map (children t b.link.parent) (counted from_parent was y), number_inside)

  -- the vertices that have a row with the parent are those that it reaches
  parent_reaches : (y : ℕ) → is_some (row_at old b.link.parent y) ≡ reaches from_parent b.link.parent y
  parent_reaches y = ap is_some (before.rows b.link.parent y) ∙ by (reaches from_parent b.link.parent y)
    where
      by : (s : Bool) → is_some {T = Row} (cond s (Some (record { ins = in_count from_parent b.link.parent y; outs = map (counted from_parent was y) (children t b.link.parent) })) None) ≡ s
      by true = refl
      by false = refl

  pub in_rows_out : (vs : List ℕ) → ((v : ℕ) → list_any (nat_eq v) vs ≡ is_some (row_at old b.link.parent v)) → (v : ℕ) → reaches from_parent b.link.parent v ≡ true → list_any (nat_eq v) vs ≡ true
  in_rows_out vs rows v h = rows v ∙ (parent_reaches v ∙ h)

  pub row_stands_out : (v : ℕ) → is_some (row_at old b.link.parent v) ≡ true → has_vertex g v ≡ true
  row_stands_out v some = vertex_of_fits q b.link.parent g v (fits_of_reaches from_parent (length t.links) b.link.parent v (sym (parent_reaches v) ∙ some))

  -- the rows stay while their counters grow
  pub stays_there : (vs : List ℕ) (mid : StateRows) (v : ℕ) → IsTallied b g vs old mid → is_some (row_at old b.link.parent v) ≡ true → is_some (row_at mid b.link.parent v) ≡ true
  stays_there vs mid v is some =
      ap is_some (is.rows b.link.parent v
      ∙ ap (λ s. cond s (option_map (with_more_outs b.number (so_many vs v)) (row_at old b.link.parent v)) (row_at old b.link.parent v)) (eq-eqb b.link.parent b.link.parent refl))
      ∙ (mapped_some (with_more_outs b.number (so_many vs v)) (row_at old b.link.parent v) ∙ some)

  module _ (limits : Limits) (held : IsWithinLimits limits g) (listed : List ℕ) (distinct : IsDistinct nat_eq listed) (inside : (y : ℕ) → reaches from_parent b.link.parent y ≡ true → list_any (nat_eq y) listed ≡ true) where
    so_many-listed : (y : ℕ) → reaches from_parent b.link.parent y ≡ true → so_many listed y ≡ tally old y
    so_many-listed y reached = so_many-all listed y (once y (tally old y) listed distinct (inside y reached))

    -- no out counter comes to its bound
    pub room_out : (i v : ℕ) (mid : StateRows) → IsTallied b g (take i listed) old mid → ForSome (row_at mid b.link.parent v) (HasRoomFor b.number (tally mid v))
    room_out i v mid is row e = by (row_at old b.link.parent v) refl (sym grown ∙ e)
      where
        grown : row_at mid b.link.parent v ≡ option_map (with_more_outs b.number (so_many (take i listed) v)) (row_at old b.link.parent v)
        grown =
            is.rows b.link.parent v
            ∙ ap (λ s. cond s (option_map (with_more_outs b.number (so_many (take i listed) v)) (row_at old b.link.parent v)) (row_at old b.link.parent v)) (eq-eqb b.link.parent b.link.parent refl)

        by : (o : Option Row) → row_at old b.link.parent v ≡ o → option_map (with_more_outs b.number (so_many (take i listed) v)) o ≡ Some row → HasRoomFor b.number (tally mid v) row
        by None was_none h = let bad : None ≡ Some row = h in absurd cc
        by (Some first) was_some h =
            let told = parent_row v first was_some in
            let wide = parent_wide v first was_some in
            let outs : set first.outs b.number (get_or first.outs b.number 0 + so_many (take i listed) v) ≡ row.outs = cc in
            let size : length row.outs ≡ length first.outs = ap (λ (l : List ℕ). length l) (sym outs) ∙ length-set first.outs b.number (get_or first.outs b.number 0 + so_many (take i listed) v) in
            let counter : get_or row.outs b.number 0 ≡ get_or first.outs b.number 0 + so_many (take i listed) v =
            ap (λ (l : List ℕ). get_or l b.number 0) (sym outs) ∙ get_or-set_same first.outs b.number (get_or first.outs b.number 0 + so_many (take i listed) v) 0 wide in
            let fresh : get_or first.outs b.number 0 ≡ 0 = ap (λ (l : List ℕ). get_or l b.number 0) told.1 ∙ counter_before v in (
              omega (arith, size, wide),
              omega (
                arith,
                counter,
                fresh,
                sum_by-take-le (λ x. cond (x == v) (tally old x) 0) listed i,
                so_many-listed v told.0,
                tally_few old v,
                tally_few mid v,
                held.within.triples,
                held.fair.edges.1,
              ),
            )

    -- one vertex further
    pub tallied_further : (i v : ℕ) (mid new : StateRows) → slice_get listed i ≡ Some v → IsTallied b g (take i listed) old mid → HasMoreOuts b.link.parent v b.number (tally mid v) mid new → IsTallied b g (take (i + 1) listed) old new
    tallied_further i v mid new at is next = record {
      whole = next.whole ∙ is.whole;
      children = next.children ∙ is.children;
      rows = λ x y. next.rows x y ∙ by x y (cases_eq x b.link.parent) (cases_eq y v);
    }
      where
        p : ℕ
        p = b.link.parent

        more : (y : ℕ) → so_many (take (i + 1) listed) y ≡ so_many (take i listed) y + cond (v == y) (tally old v) 0
        more y =
            let within = slice_get_within listed i v at in
            sum_by_more (λ x. cond (x == y) (tally old x) 0) listed i v within
            ∙ ap (λ x. so_many (take i listed) y + cond (x == y) (tally old x) 0) (get_or_from_slice_get listed i v v at)

        result : ℕ → ℕ → Option Row
        result x y = cond (x == b.link.parent) (option_map (with_more_outs b.number (so_many (take (i + 1) listed) y)) (row_at old b.link.parent y)) (row_at old x y)

        by : (x y : ℕ) → (x ≡ b.link.parent) ⊎ (x ≡ b.link.parent → ⊥) → (y ≡ v) ⊎ (y ≡ v → ⊥)
            → cond (x == b.link.parent && y == v) (option_map (with_more_outs b.number (tally mid v)) (row_at mid b.link.parent v)) (row_at mid x y)
            ≡ cond (x == b.link.parent) (option_map (with_more_outs b.number (so_many (take (i + 1) listed) y)) (row_at old b.link.parent y)) (row_at old x y)
        by x y (inl own) (inl same) =
            let sum : so_many (take i listed) v + tally mid v ≡ so_many (take (i + 1) listed) v =
            (let grown = more v in let here = ap (λ s. cond s (tally old v) 0) (eq-eqb v v refl) in omega (arith, grown, here, tally_same (take i listed) mid is v)) in
            (λ k. cond (eq-eqb x b.link.parent own k && eq-eqb y v same k) (option_map (with_more_outs b.number (tally mid v)) (row_at mid b.link.parent v)) (row_at mid x y))
            ∙ ap (option_map (with_more_outs b.number (tally mid v)))
            (is.rows b.link.parent v ∙ ap (λ s. cond s (option_map (with_more_outs b.number (so_many (take i listed) v)) (row_at old b.link.parent v)) (row_at old b.link.parent v)) (eq-eqb b.link.parent b.link.parent refl))
            ∙ outs_twice_option b.number (so_many (take i listed) v) (tally mid v) (so_many (take (i + 1) listed) v) (row_at old b.link.parent v) sum (parent_wide v)
            ∙ (λ k. option_map (with_more_outs b.number (so_many (take (i + 1) listed) (sym same k))) (row_at old b.link.parent (sym same k)))
            ∙ sym (ap (λ s. cond s (option_map (with_more_outs b.number (so_many (take (i + 1) listed) y)) (row_at old b.link.parent y)) (row_at old x y)) (eq-eqb x b.link.parent own))
        by x y (inl own) (inr differs) =
            let sum : so_many (take i listed) y ≡ so_many (take (i + 1) listed) y =
            (let grown = more y in let here = ap (λ s. cond s (tally old v) 0) (ne_eqb v y (λ e. differs (sym e))) in omega (arith, grown, here)) in
            (λ k. cond (eq-eqb x b.link.parent own k && ne_eqb y v differs k) (option_map (with_more_outs b.number (tally mid v)) (row_at mid b.link.parent v)) (row_at mid x y))
            ∙ is.rows x y
            ∙ ap (λ n. cond (x == b.link.parent) (option_map (with_more_outs b.number n) (row_at old b.link.parent y)) (row_at old x y)) sum
        by x y (inr other) s =
            (λ k. cond (ne_eqb x b.link.parent other k && y == v) (option_map (with_more_outs b.number (tally mid v)) (row_at mid b.link.parent v)) (row_at mid x y))
            ∙ is.rows x y
            ∙ (λ k. cond (ne_eqb x b.link.parent other k) (option_map (with_more_outs b.number (so_many (take i listed) y)) (row_at old b.link.parent y)) (row_at old x y))
            ∙ sym (ap (λ s. cond s (option_map (with_more_outs b.number (so_many (take (i + 1) listed) y)) (row_at old b.link.parent y)) (row_at old x y)) (ne_eqb x b.link.parent other))

    -- the counters of the parent's rows, with the child's
    outs_now : (y : ℕ) → reaches from_parent b.link.parent y ≡ true
        → set (map (counted from_parent was y) (children t b.link.parent)) b.number (get_or (map (counted from_parent was y) (children t b.link.parent)) b.number 0 + so_many listed y)
        ≡ map (counted from_parent now y) (children t b.link.parent)
    outs_now y reached =
        ext_get_or 0 raised (map (counted from_parent now y) cs)
        (length-set (map (counted from_parent was y) cs) b.number n ∙ length-map cs (counted from_parent was y) ∙ sym (length-map cs (counted from_parent now y)))
        (λ i inside. at i (omega (arith, inside, length-set (map (counted from_parent was y) cs) b.number n, length-map cs (counted from_parent was y))) (cases_eq i b.number))
      where
        cs : List ℕ
        cs = children t b.link.parent

        n : ℕ
        n = get_or (map (counted from_parent was y) (children t b.link.parent)) b.number 0 + so_many listed y

        raised : List ℕ
        raised = set (map (counted from_parent was y) (children t b.link.parent)) b.number (get_or (map (counted from_parent was y) (children t b.link.parent)) b.number 0 + so_many listed y)

        at : (i : ℕ) → i < length (children t b.link.parent) → (i ≡ b.number) ⊎ (i ≡ b.number → ⊥) → get_or raised i 0 ≡ get_or (map (counted from_parent now y) (children t b.link.parent)) i 0
        at i inside (inl same) =
            let value : n ≡ out_count from_parent y b.child = omega (arith, counter_before y, so_many-listed y reached, tally_joints y reached) in
            let right : get_or (map (counted from_parent now y) (children t b.link.parent)) b.number 0 ≡ out_count from_parent y b.child =
            get_or-map (counted from_parent now y) (children t b.link.parent) b.number 0 0 number_inside
            ∙ ap (counted from_parent now y) at_number ∙ ap (λ s. cond s (out_count from_parent y b.child) 0) (after_here t (depth t b.child) b.child refl) in
            ap (λ k. get_or raised k 0) same
            ∙ get_or-set_same (map (counted from_parent was y) (children t b.link.parent)) b.number n 0 (omega (arith, number_inside, length-map (children t b.link.parent) (counted from_parent was y)))
            ∙ value ∙ sym right ∙ sym (ap (λ k. get_or (map (counted from_parent now y) (children t b.link.parent)) k 0) same)
        at i inside (inr other) =
            let c = get_or (children t b.link.parent) i 0 in
            let another : get_or (children t b.link.parent) i 0 ≢ b.child =
            λ e. other (child_once t b.link.parent i b.number b.child (slice_get-get_or (children t b.link.parent) i 0 inside ∙ ap (λ z. Some z) e) branch.number) in
            get_or-set_other (map (counted from_parent was y) (children t b.link.parent)) b.number i n 0 other
            ∙ get_or-map (counted from_parent was y) (children t b.link.parent) i 0 0 inside
            ∙ ap (λ s. cond s (out_count from_parent y (get_or (children t b.link.parent) i 0)) 0) (sym (after_other t (depth t b.child) b.child (get_or (children t b.link.parent) i 0) another))
            ∙ sym (get_or-map (counted from_parent now y) (children t b.link.parent) i 0 0 inside)

    own_row : (y : ℕ) → option_map (with_more_outs b.number (so_many listed y)) (counted_row was from_parent b.link.parent y) ≡ counted_row now from_parent b.link.parent y
    own_row y = by (reaches from_parent b.link.parent y) refl
      where
        row : List ℕ → Row
        row outs = record { ins = in_count from_parent b.link.parent y; outs = outs }

        by : (s : Bool) → reaches from_parent b.link.parent y ≡ s
            → option_map (with_more_outs b.number (so_many listed y)) (cond s (Some (record { ins = in_count from_parent b.link.parent y; outs = map (counted from_parent was y) (children t b.link.parent) })) None)
            ≡ cond s (Some (record { ins = in_count from_parent b.link.parent y; outs = map (counted from_parent now y) (children t b.link.parent) })) None
        by true reached = ap (λ outs. Some (row outs)) (outs_now y reached)
        by false reached = refl

    other_row : (x y : ℕ) → x ≢ b.link.parent → counted_row was from_parent x y ≡ counted_row now from_parent x y
    other_row x y other =
        row_alike from_parent was now x y (λ c m.
        let child = child_of t x c m in
        sym (after_other t (depth t b.child) b.child c (λ e.
        let same : Some child.1 ≡ Some b.link = sym child.2 ∙ ap (link_at t) e ∙ branch.link in
        let link : child.1 ≡ b.link = cc in
        other (sym child.3 ∙ ap (λ (l : TreeLink). l.parent) link))))

    -- all vertices
    pub child_counted : (i : ℕ) (new : StateRows) → length listed ≤ i → IsTallied b g (take i listed) old new → IsCounted from_parent now new
    child_counted i new end is = record {
      whole = is.whole ∙ before.whole;
      children = is.children ∙ before.children;
      rows = λ x y. is.rows x y ∙ by x y (cases_eq x b.link.parent);
    }
      where
        by : (x y : ℕ) → (x ≡ b.link.parent) ⊎ (x ≡ b.link.parent → ⊥)
            → cond (x == b.link.parent) (option_map (with_more_outs b.number (so_many (take i listed) y)) (row_at old b.link.parent y)) (row_at old x y) ≡ counted_row now from_parent x y
        by x y (inl own) =
            ap (λ s. cond s (option_map (with_more_outs b.number (so_many (take i listed) y)) (row_at old b.link.parent y)) (row_at old x y)) (eq-eqb x b.link.parent own)
            ∙ (λ k. option_map (with_more_outs b.number (so_many (take_all i listed end k) y)) (before.rows b.link.parent y k))
            ∙ own_row y ∙ (λ k. counted_row now from_parent (sym own k) y)
        by x y (inr other) =
            ap (λ s. cond s (option_map (with_more_outs b.number (so_many (take i listed) y)) (row_at old b.link.parent y)) (row_at old x y)) (ne_eqb x b.link.parent other)
            ∙ before.rows x y ∙ other_row x y other
