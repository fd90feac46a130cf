-- A store after a vertex more or less.
use Rattle.std.proofs.Common.{◌≡◌, ℕ, ◌<◌, ◌^◌, true, false, ◌||◌, cond, Option, Some, None, List, [], ◌∷◌, ◌++◌, map, length, Ok, Err}
use Rattle.std.proofs.Common.{Result, refl, sym, ap, ◌∙◌, subst}
use Rattle.std.specs.Prelude.{◌==◌, IsPermutation, is_some, nat_eq, nat_le, nat_lt}
use Rattle.std.specs.List.{list_any}
use Rattle.std.specs.Map.{lookup}
use Rattle.std.proofs.lemmas.List.Sorted.{IsPermutation-map, IsPermutation-refl}
use Rattle.std.proofs.lemmas.Map.Made.{is_some-lookup}
use Rattle.indexmap.specs.IndexMap.{swap_remove_entry}
use Rattle.flux_model.specs.Graph.{Graph, IsVertex, add_vertex, drop_vertex, has_vertex, has_incident_triple, name_count, with_vertex}
use Rattle.flux_model.specs.Graph.{without_vertex}
use Rattle.flux_model.specs.Labels.{IsLabelSet}
use Rattle.flux_model.specs.declared.code.Code.{Code}
use Rattle.flux_model.specs.declared.code.Code.TheVariants as code
use Rattle.flux_model.specs.declared.graph.Vertex.{Vertex}
use Rattle.flux_model.specs.declared.graph.Update.TheVariants.{AddVertex, DropVertex}
use Rattle.flux_model.specs.declared.limits.Limits.{Limits}
use Rattle.label_graph.specs.declared.link.Link.{Link}
use Rattle.label_graph.specs.declared.link.Node.{Node}
use Rattle.label_graph.specs.declared.link.Places.{Places}
use Rattle.label_graph.specs.declared.names.Name.{Name}
use Rattle.graph_traits.specs.WithinLimits.{IsWithinLimits}
use Rattle.label_graph.specs.Names.{slot}
use Rattle.label_graph.specs.Places.{Row, ArePlaced, vertex_of, outs, ins}
use Rattle.label_graph.specs.SetNames.{lowered_in, IsRaised}
use Rattle.label_graph.specs.Store.{kept_graph, IsNamed}
use Rattle.label_graph.proofs.FullLemmas.{none_from}
use Rattle.label_graph.proofs.HeldLemmas.{held_after}
use Rattle.label_graph.proofs.StoreLemmas.{has_vertex_of, any_vertex, same_named, same_graph_of}
use Rattle.label_graph.proofs.VertexLemmas.{named_with, graph_with, removed_vertex_named, graph_without}
use Rattle.label_graph.proofs.VertexNodeLemmas.{taken, none_left, placed_left, pushed_first, placed_more, empty_rows}

-- ---- what the definitions answer

-- an id that is a vertex is refused first
pub add_vertex_stands : (limits : Limits) (g : Graph) (v : Vertex) → has_vertex g v.id ≡ true → add_vertex limits g v ≡ Err code.Exists
add_vertex_stands limits g v e = rw e refl

-- then one for which a limit leaves no room
pub add_vertex_full : (limits : Limits) (g : Graph) (v : Vertex) → has_vertex g v.id ≡ false →
    nat_le limits.vertices (length g.vertices) || nat_lt limits.labels (name_count g v.labels) ≡ true →
    add_vertex limits g v ≡ Err code.Full
add_vertex_full limits g v e f = rw (e, f) refl

-- any other is put in
pub add_vertex_done : (limits : Limits) (g : Graph) (v : Vertex) → has_vertex g v.id ≡ false →
    nat_le limits.vertices (length g.vertices) || nat_lt limits.labels (name_count g v.labels) ≡ false →
    add_vertex limits g v ≡ Ok (with_vertex g v)
add_vertex_done limits g v e f = rw (e, f) refl

-- an id that is no vertex is refused first
pub drop_vertex_unknown : (g : Graph) (id : ℕ) → has_vertex g id ≡ false → drop_vertex g id ≡ Err code.NoVertex
drop_vertex_unknown g id e = rw e refl

-- then a vertex with a triple
pub drop_vertex_busy : (g : Graph) (id : ℕ) → has_vertex g id ≡ true → has_incident_triple g id ≡ true → drop_vertex g id ≡ Err code.Busy
drop_vertex_busy g id e f = rw (e, f) refl

-- any other is taken away
pub drop_vertex_done : (g : Graph) (id : ℕ) → has_vertex g id ≡ true → has_incident_triple g id ≡ false →
    drop_vertex g id ≡ Ok (without_vertex g id)
drop_vertex_done g id e f = rw (e, f) refl

-- ---- a vertex less

module _ (es fs : List (ℕ × Node Row)) (places : List (Link × Places ℕ)) (id : ℕ) (placed : ArePlaced es places) (idle : nat_lt 0 (length (outs es id)) || nat_lt 0 (length (ins es id)) ≡ false)
    (set : (q : ℕ) → lookup (nat_eq q) fs ≡ cond (nat_eq id q) None (lookup (nat_eq q) es)) where
  -- rows and places belong together after it
  pub dropped_placed : ArePlaced fs places
  dropped_placed = let r = empty_rows (outs es id) (ins es id) idle in placed_left id es fs set places r.0 r.1 placed

module _ {R : Type 0} (names names' : List (Option Name)) (es fs : List (ℕ × Node R)) (links : List Link) (id : ℕ) (node : Node R)
    (named : IsNamed names (map vertex_of es) links) (found : lookup (nat_eq id) es ≡ Some node)
    (idle : has_incident_triple (kept_graph names (map vertex_of es) links) id ≡ false) (entries : fs ≡ swap_remove_entry (nat_eq id) es)
    (set : (q : ℕ) → lookup (nat_eq q) fs ≡ cond (nat_eq id q) None (lookup (nat_eq q) es)) (low : (q : ℕ) → slot names' q ≡ lowered_in node.labels (slot names q)) where
  without : IsPermutation (map vertex_of es) (vertex_of (id, node) ∷ map vertex_of fs)
  without =
      let P : List (ℕ × Node R) → Type 0 = λ l. IsPermutation (map vertex_of es) (vertex_of (id, node) ∷ map vertex_of l) in
      subst P (sym entries) (IsPermutation-map vertex_of es ((id, node) ∷ swap_remove_entry (nat_eq id) es) (taken id es node found))

  -- and so do names, vertices and links
  pub dropped_named : IsNamed names' (map vertex_of fs) links
  dropped_named = removed_vertex_named names names' (map vertex_of es) (map vertex_of fs) links (vertex_of (id, node)) named low without (none_left id es fs set)

  -- what is kept is the graph without the vertex
  pub dropped : drop_vertex (kept_graph names (map vertex_of es) links) id
      ≡ Ok (kept_graph names' (map vertex_of fs) links)
  dropped =
      let okay : Graph → Result Graph Code = λ g. Ok g in
      drop_vertex_done (kept_graph names (map vertex_of es) links) id (has_vertex_of names es links id ∙ ap is_some found) idle
      ∙ ap okay (graph_without names names' (map vertex_of es) (map vertex_of fs) links (vertex_of (id, node)) named low without (none_left id es fs set))

  -- which is within the limits
  pub dropped_held : (limits : Limits) → IsWithinLimits limits (kept_graph names (map vertex_of es) links) →
      IsWithinLimits limits (kept_graph names' (map vertex_of fs) links)
  dropped_held limits held = held_after limits (kept_graph names (map vertex_of es) links) (kept_graph names' (map vertex_of fs) links) (DropVertex id) held tt dropped

-- ---- a vertex more

module _ (es mid fs : List (ℕ × Node Row)) (places : List (Link × Places ℕ)) (id : ℕ) (node : Node Row)
    (placed : ArePlaced es places) (absent : is_some (lookup (nat_eq id) es) ≡ false)
    (no_outs : node.outs.items ≡ []) (no_ins : node.ins.items ≡ []) (same : mid ≡ es)
    (found : (q : ℕ) → lookup (nat_eq q) fs ≡ cond (nat_eq id q) (Some node) (lookup (nat_eq q) mid)) where
  -- rows and places belong together after it
  pub added_placed : ArePlaced fs places
  added_placed = placed_more id node es fs (λ q. found q ∙ ap (λ (l : List (ℕ × Node Row)). cond (nat_eq id q) (Some node) (lookup (nat_eq q) l)) same) (none_from (lookup (nat_eq id) es) absent) places no_outs no_ins placed

module _ {R : Type 0} (limits : Limits) (names names' : List (Option Name)) (es mid fs : List (ℕ × Node R)) (links : List Link) (id : ℕ) (node : Node R) (labels : List (List ℕ))
    (named : IsNamed names (map vertex_of es) links) (absent : is_some (lookup (nat_eq id) es) ≡ false)
    (room : nat_le limits.vertices (length (kept_graph names (map vertex_of es) links).vertices) || nat_lt limits.labels (name_count (kept_graph names (map vertex_of es) links) labels) ≡ false)
    (bears : node.labels ≡ labels) (same : mid ≡ es) (entries : fs ≡ mid ++ (id, node) ∷ []) (raised : IsRaised labels names names') where
  fresh : list_any (λ (w : Vertex). w.id == id) (map vertex_of es) ≡ false
  fresh = any_vertex es id ∙ (sym (is_some-lookup (nat_eq id) es) ∙ absent)

  first : IsPermutation (record { id = id; labels = labels } ∷ map vertex_of es) (map vertex_of fs)
  first =
      let P : List (List ℕ) → Type 0 = λ l. IsPermutation (record { id = id; labels = l } ∷ map vertex_of es) (map vertex_of fs) in
      subst P bears (pushed_first es (id, node) fs (entries ∙ ap (λ (l : List (ℕ × Node R)). l ++ (id, node) ∷ []) same))

  -- and so do names, vertices and links
  pub added_named : IsNamed names' (map vertex_of fs) links
  added_named = named_with names names' (map vertex_of es) (map vertex_of fs) links (record { id = id; labels = labels }) named raised fresh first

  -- what is kept is the graph with the vertex
  pub added_vertex : add_vertex limits (kept_graph names (map vertex_of es) links) (record { id = id; labels = labels })
      ≡ Ok (kept_graph names' (map vertex_of fs) links)
  added_vertex =
      let okay : Graph → Result Graph Code = λ g. Ok g in
      add_vertex_done limits (kept_graph names (map vertex_of es) links) (record { id = id; labels = labels }) (has_vertex_of names es links id ∙ absent) room
      ∙ ap okay (graph_with names names' (map vertex_of es) (map vertex_of fs) links (record { id = id; labels = labels }) named raised fresh first)

  -- which is within the limits
  pub added_held : id < 2 ^ 32 → IsLabelSet labels → IsWithinLimits limits (kept_graph names (map vertex_of es) links) →
      IsWithinLimits limits (kept_graph names' (map vertex_of fs) links)
  added_held small is_set held =
      let sound : IsVertex (record { id = id; labels = labels }) = record { id = small; labels = is_set } in
      held_after limits (kept_graph names (map vertex_of es) links) (kept_graph names' (map vertex_of fs) links) (AddVertex id labels) held sound added_vertex

-- ---- numbers that stand for what they stood for

module _ {R : Type 0} (names names' : List (Option Name)) (es fs : List (ℕ × Node R)) (links : List Link) (slots : (q : ℕ) → slot names' q ≡ slot names q)
    (entries : fs ≡ es) where
  -- they keep belonging to the vertices and links
  pub kept_named : IsNamed names (map vertex_of es) links → IsNamed names' (map vertex_of fs) links
  kept_named h = same_named names names' (map vertex_of es) (map vertex_of fs) links links slots (ap (map vertex_of) entries) (IsPermutation-refl links) h

  -- and mean the same graph with them
  pub kept_same : kept_graph names' (map vertex_of fs) links ≡ kept_graph names (map vertex_of es) links
  kept_same = same_graph_of names names' (map vertex_of es) (map vertex_of fs) links links slots (ap (map vertex_of) entries) (IsPermutation-refl links)
