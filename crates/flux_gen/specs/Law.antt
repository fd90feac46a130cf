-- What the files of a number are read as.
use Rattle.std.specs.Prelude.{◌≡◌, ℕ, ◌+◌, ◌/◌, ◌<◌, ◌≤◌, ◌^◌, List, [], ◌∷◌, ◌++◌, length, map, codes, Ok, IsTrue, Contains}
use Rattle.std.specs.List.{list_all}
use Rattle.flux_model.specs.Text.{is_text}
use Rattle.flux_model.specs.Change.{gained, lost}
use Rattle.flux_model.specs.Report.{Outcome, Ignored, Rejected, Changed, outcome, next_graph, block_of, blocks}
use Rattle.flux_model.specs.Limits.{standard}
use Rattle.flux_model.specs.Lines.{open_end, lines}
use Rattle.flux_model.specs.Reading.{update_reading}
use Rattle.flux_model.specs.Ordered.{put}
use Rattle.flux_model.specs.Graph.{Graph, triple_cmp}
use Rattle.flux_model.specs.GraphFile.{graph_of}
use Rattle.flux_model.specs.Pattern.{PatternGraph, HaveDistinctNames}
use Rattle.flux_model.specs.PatternFile.{patterns_of}
use Rattle.flux_model.specs.declared.graph.Triple.{Triple}
use Rattle.flux_model.specs.declared.pattern.Mode.TheVariants.{Hom, Iso}
use Rattle.flux_model.specs.declared.pattern.PatternEdge.{PatternEdge}
use Rattle.flux_model.specs.declared.said.Said.{Said}
use Rattle.flux_model.specs.declared.limits.Limits.{Limits}
use Rattle.flux_model.specs.declared.said.Said.TheVariants.{Says}
use Rattle.flux_model.specs.declared.graph.Update.{Update}
use Rattle.flux_model.specs.Generated.{next, pick, steps, vertices_from, after_triple, triples_from, updates_from, generated}
use Rattle.flux_model.specs.Demo.{map_lines, summary, demo_text}

-- at most as many vertices and triples as the standard limits let a graph have
pub record AreSizes (n m : ℕ) : Type 0 where
  pub some : 1 ≤ n
  pub vertices : n ≤ 2 ^ 20
  pub triples : m ≤ 2 ^ 22

-- ---- the graph file

-- a set with more triples, each once and in order
abbrev pub put_triples : List Triple → List Triple → List Triple
put_triples set [] = set
put_triples set (t ∷ ts) = put_triples (put triple_cmp t set) ts

-- all vertices, and the triples that were drawn
unfoldable pub generated_graph : (number n m : ℕ) → Graph
generated_graph number n m =
    record { vertices = vertices_from n 0 number; triples = put_triples [] (triples_from n m (steps next n number)) }

-- whatever the number, the graph file is accepted under the standard limits
abbrev pub GraphFileIsAccepted : Type 0
GraphFileIsAccepted = (number n m u : ℕ) → AreSizes n m → graph_of standard (generated number n m u).graph ≡ Ok (generated_graph number n m)

-- it has as many vertices as were asked for
abbrev pub GraphHasAllVertices : Type 0
GraphHasAllVertices = (number n m : ℕ) → length (generated_graph number n m).vertices ≡ n

-- ---- the pattern file

abbrev pub edge_of : ℕ → ℕ → List ℕ → PatternEdge
edge_of tail head label = record { tail = tail; label = label; head = head }

abbrev pub star : PatternGraph
star = record {
  name = codes "star";
  mode = Hom;
  labels = (codes "L0" ∷ []) ∷ (codes "L1" ∷ []) ∷ (codes "L0" ∷ []) ∷ [] ∷ [];
  edges = edge_of 0 1 (codes "r0") ∷ edge_of 0 2 (codes "r1") ∷ edge_of 3 0 (codes "r2") ∷ [];
}

abbrev pub walk : PatternGraph
walk = record {
  name = codes "walk";
  mode = Iso;
  labels = [] ∷ [] ∷ [] ∷ [] ∷ [] ∷ [];
  edges = edge_of 0 1 (codes "r0") ∷ edge_of 1 2 (codes "r1") ∷ edge_of 2 3 (codes "r2") ∷ edge_of 3 4 (codes "r3") ∷ [];
}

abbrev pub fork : PatternGraph
fork = record {
  name = codes "fork";
  mode = Hom;
  labels = (codes "L0" ∷ []) ∷ (codes "L1" ∷ []) ∷ [] ∷ (codes "L0" ∷ []) ∷ [] ∷ (codes "L1" ∷ []) ∷ [];
  edges = edge_of 0 1 (codes "r0") ∷ edge_of 0 2 (codes "r1") ∷ edge_of 2 3 (codes "r2") ∷ edge_of 4 2 (codes "r3") ∷ edge_of 3 5 (codes "r0") ∷ [];
}

abbrev pub ring : PatternGraph
ring = record {
  name = codes "ring";
  mode = Hom;
  labels = [] ∷ [] ∷ [] ∷ [] ∷ [];
  edges = edge_of 0 1 (codes "r0") ∷ edge_of 1 2 (codes "r1") ∷ edge_of 2 3 (codes "r0") ∷ edge_of 3 0 (codes "r1") ∷ [];
}

-- whatever the number, the pattern file is accepted under the standard limits
abbrev pub PatternFileIsAccepted : Type 0
PatternFileIsAccepted = (number n m u : ℕ) → patterns_of standard (generated number n m u).patterns ≡ Ok (star ∷ walk ∷ fork ∷ ring ∷ [])

-- ---- their sizes

-- with the standard sizes the files together have less than two million bytes
abbrev pub FilesAreSmall : Type 0
FilesAreSmall =
    (number : ℕ) → let files = generated number 20000 60000 5000 in
    length files.graph + length files.patterns + length files.updates < 2000000

-- with any sizes each file is no longer than an input may be
abbrev pub FilesAreInputs : Type 0
FilesAreInputs =
    (number n m u : ℕ) → AreSizes n m → u ≤ 2 ^ 20 → let files = generated number n m u in
    (length files.graph ≤ standard.input_bytes) × (length files.patterns ≤ standard.input_bytes) × (length files.updates ≤ standard.input_bytes)

-- ---- the updates

-- what was drawn
unfoldable pub generated_updates : (number n m u : ℕ) → List Update
generated_updates number n m u =
    let edges = steps next n number in
    updates_from n u (triples_from n m edges) (steps after_triple m edges)

-- the lines of the updates say, one for one, what was drawn
abbrev pub UpdatesAreRead : Type 0
UpdatesAreRead =
    (number n m u : ℕ) → AreSizes n m →
    map update_reading (lines standard.line_bytes (generated number n m u).updates) ≡ map Says (generated_updates number n m u)

-- and they are as many as were asked for
abbrev pub UpdatesAreAll : Type 0
UpdatesAreAll = (number n m u : ℕ) → length (generated_updates number n m u) ≡ u

-- ---- the summary

-- both files are accepted, so there is a summary
abbrev pub DemoIsSummary : Type 0
DemoIsSummary =
    (number : ℕ) → demo_text number ≡ summary number (generated_graph number 20000 60000) (star ∷ walk ∷ fork ∷ ring ∷ [])
    (map update_reading (lines standard.line_bytes (generated number 20000 60000 5000).updates))

-- a report that comes in two parts, the first of whole lines: what the parts count adds up
abbrev pub CountsAddUp : Type 0
CountsAddUp =
    (sign name first second : List ℕ) → open_end first ≡ [] → map_lines sign name (first ++ second) ≡ map_lines sign name first + map_lines sign name second

-- ---- a row that was worked out by hand

-- the first draw from the number 7: the state, its upper 32 bits, and what is picked of two
abbrev pub SevenIsDrawn : Type 0
SevenIsDrawn = (next 7 ≡ 9098160460397411210) × (next 7 / 2 ^ 32 ≡ 2118330556) × (pick 7 2 ≡ 0)

-- ---- what the summary counts

-- how many maps a pattern gained by what one line came to, and how many it lost
abbrev pub gained_by : PatternGraph → Graph → Outcome → ℕ
gained_by q g (Changed h) = length (gained q g h)
gained_by q g (Rejected _) = 0
gained_by q g Ignored = 0

abbrev pub lost_by : PatternGraph → Graph → Outcome → ℕ
lost_by q g (Changed h) = length (lost q g h)
lost_by q g (Rejected _) = 0
lost_by q g Ignored = 0

-- what is counted of a line's block, for a pattern
pub record AreCounted (text : List ℕ) (q : PatternGraph) (g : Graph) (o : Outcome) : Type 0 where
  pub gains : map_lines (codes "+") q.name text ≡ gained_by q g o
  pub losses : map_lines (codes "-") q.name text ≡ lost_by q g o
  pub ended : open_end text ≡ []

-- among patterns with names of their own, the lines that are counted for a pattern are the maps that it gained and lost
abbrev pub BlockCountsMaps : Type 0
BlockCountsMaps =
    (k : ℕ) (patterns : List PatternGraph) (g : Graph) (o : Outcome) (q : PatternGraph) → k < 10 ^ 64 → IsTrue (list_all (λ (p : PatternGraph). is_text p.name) patterns) →
    HaveDistinctNames patterns → Contains patterns q → AreCounted (block_of k patterns g o) q g o

-- over all lines
abbrev pub gained_in : Limits → PatternGraph → Graph → List (Said Update) → ℕ
gained_in limits q g [] = 0
gained_in limits q g (said ∷ saids) = gained_by q g (outcome limits g said) + gained_in limits q (next_graph limits g said) saids

abbrev pub lost_in : Limits → PatternGraph → Graph → List (Said Update) → ℕ
lost_in limits q g [] = 0
lost_in limits q g (said ∷ saids) = lost_by q g (outcome limits g said) + lost_in limits q (next_graph limits g said) saids

pub record AreCountedIn (text : List ℕ) (limits : Limits) (q : PatternGraph) (g : Graph) (saids : List (Said Update)) : Type 0 where
  pub gains : map_lines (codes "+") q.name text ≡ gained_in limits q g saids
  pub losses : map_lines (codes "-") q.name text ≡ lost_in limits q g saids

-- and so for a whole report, with lines numbered from k
abbrev pub ReportCountsMaps : Type 0
ReportCountsMaps =
    (limits : Limits) (patterns : List PatternGraph) (g : Graph) (saids : List (Said Update)) (k : ℕ) (q : PatternGraph) → k + length saids < 10 ^ 64 →
    IsTrue (list_all (λ (p : PatternGraph). is_text p.name) patterns) → HaveDistinctNames patterns → Contains patterns q →
    AreCountedIn (blocks limits patterns g saids k) limits q g saids
