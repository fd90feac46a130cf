-- The rows by which the next vertex can be reached: each leads to the ids that embeddings give to it.
use Rattle.std.proofs.Common.{◌≡◌, ℕ, ◌<◌, ◌≤◌, Bool, true, false, cond, ◌==◌, List, length, slice_index, Option, Some, None, refl, sym, ap, ◌∙◌, arith}
use Rattle.std.specs.Option.{unwrap_or}
use Rattle.std.specs.Prelude.{IfSome, count_by}
use Rattle.std.proofs.lemmas.Bool.{eqb-true}
use Rattle.std.proofs.lemmas.List.Sums.{length-filter}
use Rattle.flux_model.specs.Costs.{degree}
use Rattle.flux_model.specs.Embedding.{image, is_embedding}
use Rattle.flux_model.specs.Graph.{Graph, has_triple}
use Rattle.flux_model.specs.Partial.{id_of}
use Rattle.flux_model.specs.Pattern.{PatternGraph}
use Rattle.flux_model.specs.Tree.{edge_at}
use Rattle.flux_model.specs.declared.graph.Triple.{Triple}
use Rattle.flux_model.specs.declared.pattern.PatternEdge.{PatternEdge}
use Rattle.graph_rows.specs.Directions.{triple_of, direction_to, whole_row}
use Rattle.graph_rows.specs.declared.direction.Direction.{Direction}
use Rattle.graph_rows.specs.declared.direction.Direction.TheVariants.{Out, In as Inward}
use Rattle.graph_rows.specs.declared.graph_row.GraphRow.{GraphRow}
use Rattle.tree_search.specs.Members.{goes_on}
use Rattle.tree_search.specs.Ways.{turns, end_beside, IsWay, IsShorterWay}
use Rattle.tree_search.proofs.CostLemmas.{row_length}
use Rattle.tree_search.proofs.EmbeddingLemmas.{edge_has}
use Rattle.tree_search.proofs.MemberLemmas.{given_id}

-- ---- how many triples a row has

pub turns_out : (g : Graph) (r : GraphRow) → r.direction ≡ Out → turns g r ≡ count_by (λ (t : Triple). t.src == r.vertex) g.triples
turns_out g r is = ap (λ d. length (whole_row d g r.vertex)) is ∙ length-filter (λ (t : Triple). t.src == r.vertex) g.triples

pub turns_in : (g : Graph) (r : GraphRow) → r.direction ≡ Inward → turns g r ≡ count_by (λ (t : Triple). t.dst == r.vertex) g.triples
turns_in g r is = ap (λ d. length (whole_row d g r.vertex)) is ∙ length-filter (λ (t : Triple). t.dst == r.vertex) g.triples

-- no more than its vertex
pub turns_few : (g : Graph) (r : GraphRow) → turns g r ≤ degree g r.vertex
turns_few g r = row_length g r.vertex r.direction

-- ---- where a row leads

-- the triple in the row of the other end's id that leads to w's
goes_along : (m : List ℕ) (e : PatternEdge) (w b : ℕ) → end_beside e w ≡ Some b → triple_of (direction_to e w) (slice_index m b) e.label (slice_index m w) ≡ image m e
goes_along m e w b beside = by (e.head == w) (e.tail == w) refl refl beside
  where
    by : (x y : Bool) → (e.head == w) ≡ x → (e.tail == w) ≡ y → cond x (Some e.tail) (cond y (Some e.head) None) ≡ Some b
        → triple_of (cond x Out Inward) (slice_index m b) e.label (slice_index m w) ≡ image m e
    by true y head tail s =
        let other : b ≡ e.tail = cc in
        λ i. record { src = slice_index m (other i); label = e.label; dst = slice_index m (sym (eqb-true e.head w head) i) }
    by false true head tail s =
        let other : b ≡ e.head = cc in
        λ i. record { src = slice_index m (sym (eqb-true e.tail w tail) i); label = e.label; dst = slice_index m (other i) }
    by false false head tail s = absurd (let clash : None ≡ Some b = s in cc)

-- an edge that joins the vertex to one that has an id leads to what an embedding gives it
pub edge_leads : (q : PatternGraph) (g : Graph) (p : List (Option ℕ)) (w i : ℕ) → i < length q.edges → (e : PatternEdge) → edge_at q i ≡ e → (u : ℕ) → u ≡ w
    → (b v : ℕ) → end_beside e u ≡ Some b → id_of p b ≡ Some v → (direction : Direction) → direction ≡ direction_to e u
    → (m : List ℕ) → is_embedding q g m ≡ true → goes_on p m ≡ true → has_triple g (triple_of direction v e.label (slice_index m w)) ≡ true
edge_leads q g p w i within e read u at b v beside has direction leads m is goes =
    let given : slice_index m b ≡ v = given_id p m b v goes has in
    (λ j. has_triple g (triple_of (leads j) (sym given j) e.label (slice_index m (sym at j))))
    ∙ ap (has_triple g) (goes_along m e u b beside)
    ∙ ap (λ f. has_triple g (image m f)) (sym read)
    ∙ edge_has q g m is i within

module _ (texts : ℕ → Option (List ℕ)) (q : PatternGraph) (g : Graph) (p : List (Option ℕ)) (w : ℕ) (row : GraphRow) where
  -- the row that is walked is a way, as the anchor's is
  pub walked_way : IsWay texts q g p w row → (o : Option GraphRow) → IfSome o (IsShorterWay texts q g p w row) → IsWay texts q g p w (unwrap_or o row)
  walked_way way None shorter = way
  walked_way way (Some r) shorter = shorter.way

  -- and has no more triples than the anchor's id
  pub walked_short : (o : Option GraphRow) → IfSome o (IsShorterWay texts q g p w row) → turns g (unwrap_or o row) ≤ degree g row.vertex
  walked_short None shorter = turns_few g row
  walked_short (Some r) shorter = omega (arith, shorter.few, turns_few g row)
