-- An edge that is added, and one that is removed, over what a store keeps.
use Rattle.std.proofs.Common.{◌≡◌, ℕ, ◌+◌, ◌||◌, true, false, List, [], ◌∷◌, Option, Some, Ok, Result, map, length, sym, ap, ◌∙◌}
use Rattle.std.specs.Prelude.{nat_le, nat_lt, nat_eq, is_some, IsPermutation, MatchOption}
use Rattle.std.specs.List.{list_any}
use Rattle.std.specs.Map.{lookup, keys_of}
use Rattle.std.proofs.lemmas.Map.Made.{is_some-lookup}
use Rattle.flux_model.specs.Graph.{Graph, has_triple, add_edge, drop_edge, name_count}
use Rattle.flux_model.specs.declared.code.Code.{Code}
use Rattle.flux_model.specs.declared.graph.Vertex.{Vertex}
use Rattle.flux_model.specs.declared.graph.Triple.{Triple}
use Rattle.flux_model.specs.declared.limits.Limits.{Limits}
use Rattle.label_graph.specs.declared.link.Link.{Link}
use Rattle.label_graph.specs.declared.link.Node.{Node}
use Rattle.label_graph.specs.declared.names.Name.{Name}
use Rattle.label_graph.specs.Names.{slot, text_at, lowered, uses_of, IsTable, IsUnknown}
use Rattle.label_graph.specs.Places.{vertex_of, link_eq}
use Rattle.label_graph.specs.Store.{kept_graph, IsNamed}
use Rattle.label_graph.proofs.StoreLemmas.{both_ends, has_triple_found, drop_edge_done, removed_graph, added_graph}
use Rattle.label_graph.proofs.FullLemmas.{add_edge_done}

abbrev okay : Graph → Result Graph Code
okay g = Ok g

module _ {R : Type 0} {W : Type 0} (names : List (Option Name)) (es : List (ℕ × Node R)) (places : List (Link × W)) (t : Triple) (label : ℕ)
    (h : IsNamed names (map vertex_of es) (keys_of places)) (tab : IsTable names)
    (src : is_some (lookup (nat_eq t.src) es) ≡ true) (dst : is_some (lookup (nat_eq t.dst) es) ≡ true) where
  -- the link of the triple, and whether it stands
  abbrev pub link : Link
  link = record { src = t.src; label = label; dst = t.dst }

  -- whether a triple stands is whether its link has places
  pub stands : text_at names label ≡ Some t.label → has_triple (kept_graph names (map vertex_of es) (keys_of places)) t
      ≡ is_some (lookup (link_eq link) places)
  stands found = has_triple_found names (map vertex_of es) (keys_of places) h tab link t.label found ∙ sym (is_some-lookup (link_eq link) places)

  module _ (names' : List (Option Name)) (vertices' : List Vertex) (links' : List Link)
      (others : (q : ℕ) → (q ≡ label → ⊥) → slot names' q ≡ slot names q) (same : vertices' ≡ map vertex_of es) where
    -- a link less and a use of its label less is the graph without the triple
    pub edge_removed : text_at names label ≡ Some t.label → is_some (lookup (link_eq link) places) ≡ true →
        IsPermutation (keys_of places) (link ∷ links') → list_any (link_eq link) links' ≡ false →
        slot names' label ≡ lowered (slot names label) → drop_edge (kept_graph names (map vertex_of es) (keys_of places)) t ≡ Ok (kept_graph names' vertices' links')
    edge_removed found there parted gone here =
        drop_edge_done (kept_graph names (map vertex_of es) (keys_of places)) t (both_ends names es (keys_of places) t src dst) (stands found ∙ there)
        ∙ ap okay (removed_graph names names' (map vertex_of es) vertices' (keys_of places) links' link t.label h tab found parted gone here others same)

    -- a link more and a use of its label more is the graph with the triple
    pub edge_added : (limits : Limits) → has_triple (kept_graph names (map vertex_of es) (keys_of places)) t ≡ false →
        nat_le limits.edges (length (kept_graph names (map vertex_of es) (keys_of places)).triples) || nat_lt limits.labels (name_count (kept_graph names (map vertex_of es) (keys_of places)) (t.label ∷ [])) ≡ false →
        MatchOption (slot names label) (IsUnknown names t.label) (λ x. x.text ≡ t.label) → slot names' label ≡ Some (record { text = t.label; uses = uses_of (slot names label) + 1 }) → IsPermutation (link ∷ keys_of places) links' →
        add_edge limits (kept_graph names (map vertex_of es) (keys_of places)) t ≡ Ok (kept_graph names' vertices' links')
    edge_added limits absent room was here joined =
        add_edge_done limits (kept_graph names (map vertex_of es) (keys_of places)) t (both_ends names es (keys_of places) t src dst) absent room
        ∙ ap okay (added_graph names names' (map vertex_of es) (keys_of places) links' link t.label h tab was here others joined vertices' same)
