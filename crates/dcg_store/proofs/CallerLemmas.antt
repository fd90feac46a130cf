-- What a caller of `Dcg` needs: the row of any pair after each move, and what exact rows tell.
use Rattle.std.proofs.Common.{◌≡◌, ℕ, ◌+◌, ◌*◌, ◌≤◌, Bool, true, false, cond, length, refl, sym, ap, ◌∙◌, arith}
use Rattle.std.specs.Prelude.{Option, None, Some, map, ◌&&◌, ◌==◌, if◌then◌else◌, slice_index, count_by, nat_eq}
use Rattle.std.specs.Option.{option_map, option_map_or}
use Rattle.std.specs.List.{IsDistinct}
use Rattle.std.proofs.lemmas.Bool.{and_parts, eqb-true}
use Rattle.std.proofs.lemmas.List.{length-map}
use Rattle.std.specs.FinMap.{FinMap, len, get, insert, remove, get-insert, get-remove}
use Rattle.flux_model.specs.Exact.{Row, StateRows, pair_cmp, row_at, in_count, out_count, IsExactOver}
use Rattle.dcg_store.specs.Counters.{state_of_row, first_row, more_ins, fewer_ins, more_outs, fewer_outs}
use Rattle.flux_model.specs.declared.state.State.{State}
use Rattle.flux_model.specs.declared.state.State.TheVariants.{Implicit, Explicit}
use Rattle.flux_model.specs.declared.graph.Vertex.{Vertex}
use Rattle.flux_model.specs.Graph.{Graph, ids}
use Rattle.flux_model.specs.Pattern.{PatternGraph, vertex_count}
use Rattle.flux_model.specs.Tree.{QueryTree, children, IsTree, BelongsTo}
use Rattle.flux_model.specs.States.{Joined, joined, joint_of, reaches, extends, is_explicit, state, state_for}
use Rattle.dcg_store.specs.Moves.{with_changed, in_raised, in_lowered, out_raised, out_lowered}
use Rattle.dcg_store.specs.SoundRows.{live_count}
use Rattle.dcg_store.proofs.LiveLemmas.{has_full, count_by-alike, live_count-over}
use Rattle.dcg_store.proofs.BoundLemmas.{len-le-reached, fits-id, length-filter_map}
pub use Rattle.dcg_store.proofs.StateLemmas.{HasDepths}
use Rattle.dcg_store.proofs.StateLemmas.{full_is_extends, fits_of_reaches}
use Rattle.dcg_store.proofs.PairLemmas.{pair_cmp_total, same_pair}

-- whether a pair is the one of u and v
abbrev pub is_pair : ℕ → ℕ → ℕ → ℕ → Bool
is_pair u v x y = x == u && y == v

-- what is left of a row after one joint less, if anything
abbrev pub left_of : Option Row → Option Row
left_of None = None
left_of (Some row) = if row.ins == 1 then None else Some (fewer_ins row)

module _ (rows : FinMap pair_cmp Row) (u v x y : ℕ) where
  get_inserted_pair : (row : Row) → get (insert rows (u, v) row) (x, y) ≡ cond (is_pair u v x y) (Some row) (get rows (x, y))
  get_inserted_pair row = get-insert pair_cmp_total rows (u, v) row (x, y) ∙ ap (λ b. cond b (Some row) (get rows (x, y))) (same_pair (x, y) (u, v))

  get_removed_pair : get (remove rows (u, v)) (x, y) ≡ cond (is_pair u v x y) None (get rows (x, y))
  get_removed_pair = get-remove pair_cmp_total rows (u, v) (x, y) ∙ ap (λ b. cond b None (get rows (x, y))) (same_pair (x, y) (u, v))

  -- where there is no row at a pair, one that is taken away is the same
  no_change : get rows (u, v) ≡ None → get rows (x, y) ≡ cond (is_pair u v x y) None (get rows (x, y))
  no_change missing = at (x == u) (y == v) refl refl
    where
      at : (a b : Bool) → (x == u) ≡ a → (y == v) ≡ b → get rows (x, y) ≡ cond (a && b) None (get rows (x, y))
      at true true p q = (λ i. get rows (eqb-true x u p i, eqb-true y v q i)) ∙ missing
      at true false p q = refl
      at false b p q = refl

  get_changed : (change : Row → Row) → get (with_changed change rows (u, v)) (x, y) ≡ cond (is_pair u v x y) (option_map change (get rows (u, v))) (get rows (x, y))
  get_changed change = at (get rows (u, v)) refl
    where
      at : (o : Option Row) → get rows (u, v) ≡ o → get (option_map_or (λ row. insert rows (u, v) (change row)) o rows) (x, y) ≡ cond (is_pair u v x y) (option_map change o) (get rows (x, y))
      at None e = no_change e
      at (Some row) e = get_inserted_pair (change row)

module _ (d : StateRows) (u v x y : ℕ) where
  pub row_at-in_raised : row_at (in_raised d u v) x y ≡ cond (is_pair u v x y) (Some (option_map_or more_ins (row_at d u v) (first_row (slice_index d.children u)))) (row_at d x y)
  row_at-in_raised = get_inserted_pair d.rows u v x y (option_map_or more_ins (row_at d u v) (first_row (slice_index d.children u)))

  pub row_at-in_lowered : row_at (in_lowered d u v) x y ≡ cond (is_pair u v x y) (left_of (row_at d u v)) (row_at d x y)
  row_at-in_lowered = at (row_at d u v) refl
    where
      either : (row : Row) (b : Bool) → get (if b then remove d.rows (u, v) else insert d.rows (u, v) (fewer_ins row)) (x, y)
          ≡ cond (is_pair u v x y) (if b then None else Some (fewer_ins row)) (row_at d x y)
      either row true = get_removed_pair d.rows u v x y
      either row false = get_inserted_pair d.rows u v x y (fewer_ins row)

      at : (o : Option Row) → row_at d u v ≡ o
          → get (option_map_or (λ row. if row.ins == 1 then remove d.rows (u, v) else insert d.rows (u, v) (fewer_ins row)) o d.rows) (x, y) ≡ cond (is_pair u v x y) (left_of o) (row_at d x y)
      at None e = no_change d.rows u v x y e
      at (Some row) e = either row (row.ins == 1)

  pub row_at-out_raised : (j : ℕ) → row_at (out_raised d u v j) x y ≡ cond (is_pair u v x y) (option_map (more_outs j) (row_at d u v)) (row_at d x y)
  row_at-out_raised j = get_changed d.rows u v x y (more_outs j)

  pub row_at-out_lowered : (j : ℕ) → row_at (out_lowered d u v j) x y ≡ cond (is_pair u v x y) (option_map (fewer_outs j) (row_at d u v)) (row_at d x y)
  row_at-out_lowered j = get_changed d.rows u v x y (fewer_outs j)

-- ---- exact rows

-- the state that a row tells is the pair's
pub state_of_exact : (j : Joined) (depth : ℕ → ℕ) → IsTree j.tree → HasDepths j.tree depth → (d : StateRows) → IsExactOver j d → (u v : ℕ) → state_of_row (row_at d u v) ≡ state j u v
state_of_exact j depth is deep d exact u v = ap state_of_row (exact.rows u v) ∙ by (reaches j u v) refl
  where
    by : (b : Bool) → reaches j u v ≡ b
        → state_of_row (if b then Some (record { ins = in_count j u v; outs = map (out_count j v) (children j.tree u) }) else None) ≡ state_for b (extends j u v)
    by true reached = ap told (full_is_extends j depth deep is u v (in_count j u v) reached) ∙ shown (extends j u v)
      where
        told : Bool → State
        told b = if b then Explicit else Implicit

        shown : (b : Bool) → told b ≡ state_for true b
        shown true = refl
        shown false = refl
    by false reached = refl

-- how many rows there are: a vertex of the graph has one for the root, and a triple gives one for each other vertex of the pattern
pub len_of_exact : (q : PatternGraph) (t : QueryTree) (g : Graph) (d : StateRows) → BelongsTo q t → IsExactOver (joined q t g) d → len d.rows ≤ length g.triples * vertex_count q + length g.vertices
len_of_exact q t g d belongs exact =
    let most = len-le-reached (joined q t g) d belongs.tree exact (ids g) (length g.triples) (λ v h. fits-id q t.root g v h) (λ u. length-filter_map (joint_of q t g u) g.triples) in
    let same = ap (λ n. length g.triples * n) belongs.vertices in
    let vertices = length-map g.vertices (λ (v : Vertex). v.id) in
    omega (arith, most, same, vertices)

-- as many vertices of the graph are explicit
pub live_of_exact : (q : PatternGraph) (t : QueryTree) (g : Graph) (depth : ℕ → ℕ) (d : StateRows) → IsTree t → HasDepths t depth → IsDistinct nat_eq (ids g) → IsExactOver (joined q t g) d
    → (u : ℕ) → live_count d u ≡ count_by (is_explicit (joined q t g) u) (ids g)
live_of_exact q t g depth d is deep distinct exact u =
    live_count-over d u (ids g) distinct (λ v h. fits-id q u g v (fits_of_reaches (joined q t g) (length t.links) u v (and_parts _ _ (sym (full v) ∙ h)).0))
    ∙ count_by-alike (λ v. has_full (row_at d u v)) (is_explicit (joined q t g) u) (ids g) (λ v _. full v)
  where
    full : (v : ℕ) → has_full (row_at d u v) ≡ is_explicit (joined q t g) u v
    full v = ap has_full (exact.rows u v) ∙ by (reaches (joined q t g) u v) refl
      where
        by : (b : Bool) → reaches (joined q t g) u v ≡ b
            → has_full (if b then Some (record { ins = in_count (joined q t g) u v; outs = map (out_count (joined q t g) v) (children t u) }) else None) ≡ (b && extends (joined q t g) u v)
        by true reached = full_is_extends (joined q t g) depth deep is u v (in_count (joined q t g) u v) reached
        by false reached = refl
