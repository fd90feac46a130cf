-- What a search is for: all embeddings, or those of one class of a triple.
use Rattle.std.specs.Prelude.{◌≡◌, ℕ, ◌<◌, ◌==◌, ◌||◌, ◌&&◌, not, Bool, true, List, length, Option, Some, false}
use Rattle.flux_model.specs.Embedding.{embeddings}
use Rattle.flux_model.specs.Graph.{Graph}
use Rattle.flux_model.specs.Partial.{id_of, is_sent_where_given, earlier}
use Rattle.flux_model.specs.Pattern.{PatternGraph}
use Rattle.flux_model.specs.Tree.{edge_at}
use Rattle.flux_model.specs.declared.graph.Triple.{Triple}
use Rattle.flux_model.specs.Classes.{edge_class}
use Rattle.tree_search.specs.declared.aim.Aim.{Aim}
use Rattle.tree_search.specs.declared.aim.Aim.TheVariants.{All, Edge}

-- the embeddings that are looked for
abbrev pub aimed : PatternGraph → Graph → Aim → List (List ℕ)
aimed q g All = embeddings q g
aimed q g (Edge i t) = edge_class q g t.now i

-- the edge is one of the pattern's, and has the triple's label
pub record IsEdgeFor (q : PatternGraph) (i : ℕ) (t : Triple) : Type 0 where
  pub within : i < length q.edges
  pub label : (edge_at q i).label ≡ t.label

-- it is one of all, or of an edge that has the label of its triple
abbrev pub IsAim : PatternGraph → Aim → Type 0
IsAim q All = Unit {0}
IsAim q (Edge i t) = IsEdgeFor q i t.now

-- edge i is sent to the triple where both ends have ids, the tail has one, and no edge of a lower number is sent to it
pub record IsPinned (q : PatternGraph) (i : ℕ) (t : Triple) (p : List (Option ℕ)) : Type 0 where
  pub edge : IsEdgeFor q i t
  pub tail : id_of p (edge_at q i).tail ≡ Some t.src
  pub head : (x : ℕ) → id_of p (edge_at q i).head ≡ Some x → x ≡ t.dst
  pub none : (k : ℕ) → k < i → is_sent_where_given t p (edge_at q k) ≡ false

-- what is known of an aim where some ids are given
abbrev pub IsAimed : PatternGraph → Aim → List (Option ℕ) → Type 0
IsAimed q All p = Unit {0}
IsAimed q (Edge i t) p = IsPinned q i t.now p

-- with x for w, that stays so
abbrev pub keeps_aim : PatternGraph → Aim → List (Option ℕ) → ℕ → ℕ → Bool
keeps_aim q All p w x = true
keeps_aim q (Edge i t) p w x = (not (w == (edge_at q i).head) || x == t.now.dst) && not (earlier q i p w x t.now)
