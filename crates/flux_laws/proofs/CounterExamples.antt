-- Laws without one of their premises, each with values for which they are false.
use Rattle.std.specs.Prelude.{◌≡◌, ℕ, zero, suc, ◌+◌, ◌≤◌, List, [], ◌∷◌, ◌++◌, codes, length, map, take, Option, None, Some, Result, Ok, Err, if◌then◌else◌}
use Rattle.std.proofs.Common.{true, refl, sym, ap, ◌∙◌, arith}
use Rattle.std.specs.List.{Any}
use Rattle.std.specs.Str.{bytes_eq}
use Rattle.std.specs.Fmt.{digits}
use Rattle.flux_model.specs.Limits.{standard}
use Rattle.flux_model.specs.Lines.{lines, open_end}
use Rattle.flux_model.specs.Reading.{graph_reading}
use Rattle.flux_model.specs.Graph.{Graph, IsGraph, empty_graph, apply}
use Rattle.flux_model.specs.GraphFile.{read_graph, graph_of}
use Rattle.flux_model.specs.GraphText.{graph_text}
use Rattle.flux_model.specs.Pattern.{PatternGraph, IsPattern, is_connected}
use Rattle.flux_model.specs.PatternFile.{patterns_of}
use Rattle.flux_model.specs.Report.{blocks}
use Rattle.flux_model.specs.Verdict.{Shape, Match, Save, Files, Accepted, Watched, Ending, Done, NoFile, TooMuch, graph_file, ending_of, ending_with, written_before}
use Rattle.flux_model.specs.declared.code.Bad.{Bad}
use Rattle.flux_model.specs.declared.code.Code.TheVariants as code
use Rattle.flux_model.specs.declared.graph.Update.TheVariants.{AddVertex}
use Rattle.flux_model.specs.declared.limits.Limits.{Limits}
use Rattle.flux_model.specs.declared.pattern.Mode.TheVariants.{Hom}
use Rattle.flux_model.specs.declared.pattern.PatternEdge.{PatternEdge}
use Rattle.flux_laws.specs.DividedLaws.{AreFileParts}
use Rattle.flux_laws.specs.ReportsLaws.{updates_in, graph_after_all}
use Rattle.flux_laws.specs.TextsLaws.{longest_line}
use Rattle.flux_laws.specs.VerdictsLaws.{graph_name, HaveSamePatterns, IsFrontOf}
use Rattle.flux_laws.specs.VerticesLaws.{ChangesNothing}

-- ---- chains that follow the edges in their direction alone

abbrev IsChainAlong : List PatternEdge → ℕ → List ℕ → ℕ → Type 0
IsChainAlong edges u [] v = u ≡ v
IsChainAlong edges u (w ∷ ws) v = Any (λ (e : PatternEdge). (e.tail ≡ u) × (e.head ≡ w)) edges × IsChainAlong edges w ws v

abbrev inward : List PatternEdge
inward = record { tail = 1; label = codes "r"; head = 0 } ∷ []

-- a connected pattern, in which no such chain leads from vertex 0 to vertex 1
connected_against_direction : (is_connected (record { name = codes "p"; mode = Hom; labels = [] ∷ [] ∷ []; edges = inward }) ≡ true) × ((ws : List ℕ) → IsChainAlong inward 0 ws 1 → ⊥)
connected_against_direction = (refl, none)
  where
    none : (ws : List ℕ) → IsChainAlong inward 0 ws 1 → ⊥
    none [] e = let apart : zero ≡ suc zero = e in cc
    none (w ∷ ws) ((zero, e, low, here, ends), rest) = let tail : 1 ≡ e.tail = ap (λ (f : PatternEdge). f.tail) here in absurd (omega (arith, tail, ends.0))
    none (w ∷ ws) ((suc k, e, low, here, ends), rest) = absurd (omega (arith, low))

-- ---- what stands behind the last line end of a front

abbrev one_vertex : Graph
one_vertex = record { vertices = record { id = 1; labels = [] } ∷ []; triples = [] }

abbrev FrontLinesRefuseGraphFile : Type 0
FrontLinesRefuseGraphFile = (limits : Limits) (bytes : List ℕ) (k : ℕ) (bad : Bad) → read_graph limits (map graph_reading (lines limits.line_bytes (take k bytes))) ≡ Err bad → graph_of limits bytes ≡ Err bad

-- it may go on, and then be no refusal
open_end_is_not_refused : FrontLinesRefuseGraphFile → ⊥
open_end_is_not_refused law =
    let bad : Bad = record { line = 1; code = code.Arity } in
    let accepted : ◌≡◌ {A = Result Graph Bad} (Ok one_vertex) (Err bad) = law standard (codes "v 1") 1 bad refl in cc

-- ---- more bytes than an input may have

abbrev WrittenBeforeIsFrontOfAny : Type 0
WrittenBeforeIsFrontOfAny = (limits : Limits) (files : Accepted) (r s : List ℕ) → IsFrontOf r s → IsFrontOf (written_before limits files r) (ending_with limits s files).text

abbrev one_byte : Limits
one_byte = record standard { input_bytes = 1 }

-- a line that they end has a block before, and none is due
more_than_an_input_is_no_front : WrittenBeforeIsFrontOfAny → ⊥
unfolding digits
more_than_an_input_is_no_front law =
    let front = law one_byte (Watched empty_graph []) (codes "x\n") (codes "x\n") ([], refl) in
    let none : [] ≡ codes "! 1 word\n" ++ front.0 = front.1 in cc

-- ---- a graph that was saved

abbrev one_file : List ℕ → List ℕ → Option (List ℕ) → Files
one_file name bytes others asked = if bytes_eq asked name then Some bytes else others

abbrev SavedGraphWritesTheSameOfAnyLength : Type 0
SavedGraphWritesTheSameOfAnyLength =
    (limits : Limits) (files saved : Files) (shape : Shape) (g : Graph) (s : List ℕ) →
    graph_file limits (files (graph_name shape)) ≡ Ok g → longest_line ≤ limits.line_bytes →
    saved (graph_name shape) ≡ Some (graph_text g) → HaveSamePatterns files saved shape →
    ending_of limits saved shape s ≡ ending_of limits files shape s

abbrev three_bytes : Limits
three_bytes = record standard { input_bytes = 3 }

-- a graph of which the file fits, and the text does not
longer_text_is_too_much : SavedGraphWritesTheSameOfAnyLength → ⊥
unfolding digits
longer_text_is_too_much law =
    let same = law three_bytes (one_file (codes "g") (codes "v 1") None) (one_file (codes "g") (codes "v 1\n") None) (Save (codes "g")) one_vertex [] refl (omega arith) refl tt in
    let verdicts : TooMuch ≡ Done = ap (λ (e : Ending). e.verdict) same in cc

abbrev SavedGraphWritesTheSameForAnyPatterns : Type 0
SavedGraphWritesTheSameForAnyPatterns =
    (limits : Limits) (files saved : Files) (shape : Shape) (g : Graph) (s : List ℕ) →
    graph_file limits (files (graph_name shape)) ≡ Ok g → longest_line ≤ limits.line_bytes → length (graph_text g) ≤ limits.input_bytes →
    saved (graph_name shape) ≡ Some (graph_text g) → ending_of limits saved shape s ≡ ending_of limits files shape s

-- a pattern file that is gone
other_patterns_end_otherwise : SavedGraphWritesTheSameForAnyPatterns → ⊥
unfolding digits
other_patterns_end_otherwise law =
    let same = law standard (one_file (codes "g") (codes "v 1\n") (Some [])) (one_file (codes "g") (codes "v 1\n") None) (Match (codes "g") (codes "p")) one_vertex [] refl (omega arith) (omega arith) refl in
    let verdicts : NoFile ≡ Done = ap (λ (e : Ending). e.verdict) same in cc

-- ---- a vertex that comes

abbrev lone : PatternGraph
lone = record { name = codes "p"; mode = Hom; labels = [] ∷ []; edges = [] }

lone_pattern : IsPattern lone
lone_pattern = record {
  name = refl;
  labels = (record { few = omega arith; ascending = refl; texts = refl }, tt);
  texts = tt;
  some_vertex = omega arith;
  few_vertices = omega arith;
  few_edges = omega arith;
  ends = tt;
  distinct = refl;
  connected = refl;
}

no_graph : IsGraph empty_graph
no_graph = record { ascending_vertices = refl; vertices = tt; ascending_triples = refl; texts = tt; ends = refl }

abbrev AddedVertexChangesNoEmbeddingOfAnyPattern : Type 0
AddedVertexChangesNoEmbeddingOfAnyPattern =
    (limits : Limits) (q : PatternGraph) (old new : Graph) (id : ℕ) (labels : List (List ℕ)) →
    IsPattern q → IsGraph old → apply limits old (AddVertex id labels) ≡ Ok new → ChangesNothing q old new

-- a pattern of one vertex and no edge gains it
lone_vertex_is_gained : AddedVertexChangesNoEmbeddingOfAnyPattern → ⊥
lone_vertex_is_gained law =
    let nothing = law standard lone empty_graph one_vertex 1 [] lone_pattern no_graph refl in
    let none : ◌≡◌ {A = List (List ℕ)} ((1 ∷ []) ∷ []) [] = nothing.0 in cc

-- ---- the report of updates in two parts

abbrev BlocksInAnyParts : Type 0
BlocksInAnyParts =
    (limits : Limits) (patterns : List PatternGraph) (g : Graph) (first second : List ℕ) →
    blocks limits patterns g (updates_in limits (first ++ second)) 1
    ≡ blocks limits patterns g (updates_in limits first) 1
    ++ blocks limits patterns (graph_after_all limits g (updates_in limits first)) (updates_in limits second) (length (lines limits.line_bytes first) + 1)

-- a line that is cut in two has another block
cut_line_has_another_block : BlocksInAnyParts → ⊥
unfolding digits
cut_line_has_another_block law = let same : [] ≡ codes "! 2 word\n" = law standard [] empty_graph (codes "#") (codes "x\n") in cc

-- ---- a pattern file that is cut inside a pattern

abbrev FileInAnyParts : Type 0
FileInAnyParts =
    (limits : Limits) (first second : List ℕ) (all : List PatternGraph) → open_end first ≡ [] → patterns_of limits (first ++ second) ≡ Ok all → AreFileParts limits first second all

abbrev begun : List ℕ
begun = codes "p a hom" ++ 10 ∷ codes "v 0" ++ 10 ∷ []

abbrev left : List ℕ
left = codes "v 1" ++ 10 ∷ codes "e 0 1 r" ++ 10 ∷ []

abbrev one_edge : PatternGraph
one_edge = record { name = codes "a"; mode = Hom; labels = [] ∷ [] ∷ []; edges = record { tail = 0; label = codes "r"; head = 1 } ∷ [] }

-- what is left has no name line, and is refused
cut_inside_is_refused : FileInAnyParts → ⊥
cut_inside_is_refused law =
    let parts : AreFileParts standard begun left (one_edge ∷ []) = law standard begun left (one_edge ∷ []) refl refl in
    let refused : ◌≡◌ {A = Result (List PatternGraph) Bad} (patterns_of standard left) (Err (record { line = 1; code = code.NoName })) = refl in
    absurd (never parts.rs (sym refused ∙ parts.second_part))
  where
    never : (rs : List PatternGraph) → ◌≡◌ {A = Result (List PatternGraph) Bad} (Err (record { line = 1; code = code.NoName })) (Ok rs) → ⊥
    never rs e = cc
