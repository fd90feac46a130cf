-- What a store means, and what it keeps.
use Rattle.std.specs.Prelude.{◌≡◌, ℕ, ◌+◌, ◌==◌, List, [], Option, Some, None, unwrap_or, map, drop, count_by}
use Rattle.std.specs.Map.{keys_of}
use Rattle.flux_model.specs.Text.{text_cmp}
use Rattle.flux_model.specs.Ordered.{is_in}
use Rattle.flux_model.specs.Graph.{Graph, vertex_cmp, triple_cmp}
use Rattle.flux_model.specs.declared.graph.Vertex.{Vertex}
use Rattle.flux_model.specs.declared.graph.Triple.{Triple}
use Rattle.label_graph.specs.declared.link.Link.{Link}
use Rattle.label_graph.specs.declared.link.Node.{Node}
use Rattle.label_graph.specs.declared.link.RowEntry.{RowEntry}
use Rattle.label_graph.specs.declared.names.Name.{Name}
use Rattle.label_graph.specs.Places.{vertex_of}
use Rattle.label_graph.specs.Names.{slot, text_at, IsUnknown}
use Rattle.flux_model.specs.Members.{In}
use Rattle.label_graph.specs.Sorted.{sorted}

-- the triple of a link, under the names
abbrev pub triple_of : List (Option Name) → Link → Triple
triple_of names k = record { src = k.src; label = unwrap_or (text_at names k.label) []; dst = k.dst }

-- the graph: its vertices and triples in ascending order
abbrev pub kept_graph : List (Option Name) → List Vertex → List Link → Graph
kept_graph names vertices links =
    record { vertices = sorted vertex_cmp vertices; triples = sorted triple_cmp (map (triple_of names) links) }

-- the graph of the nodes and of the triples that have places
abbrev pub node_graph : {R W : Type 0} → List (Option Name) → List (ℕ × Node R) → List (Link × W) → Graph
node_graph names nodes places = kept_graph names (map vertex_of nodes) (keys_of places)

-- how often a number is used: by triples, and by vertices that bear its name
abbrev pub use_count : List Vertex → List Link → ℕ → List ℕ → ℕ
use_count vertices links n text = count_by (λ k. k.label == n) links + count_by (λ v. is_in text_cmp text v.labels) vertices

-- what a store keeps beside its places
pub record IsNamed (names : List (Option Name)) (vertices : List Vertex) (links : List Link) : Type 0 where
  pub counted : (n : ℕ) (x : Name) → slot names n ≡ Some x → x.uses ≡ use_count vertices links n x.text
  pub unused : (n : ℕ) → slot names n ≡ None → count_by (λ k. k.label == n) links ≡ 0
  pub unborne : (text : List ℕ) → IsUnknown names text → count_by (λ v. is_in text_cmp text v.labels) vertices ≡ 0
  pub one_each : (v w : Vertex) → In vertices v → In vertices w → v.id ≡ w.id → v ≡ w

-- the triples of a row of entries from a place on
abbrev pub row_from : List (Option Name) → (RowEntry → Link) → List RowEntry → ℕ → List Triple
row_from names link row at = map (λ t. triple_of names (link t)) (drop at row)
