-- Worked examples: whole runs, computed from the definitions.
use Rattle.std.specs.Prelude.{◌≡◌, ℕ, replicate, Option, Some, List, [], ◌∷◌, ◌++◌, codes, map, Result, Ok, Err, refl}
use Rattle.std.specs.Fmt.{digits}
use Rattle.flux_model.specs.Limits.{standard}
use Rattle.flux_model.specs.Lines.{lines}
use Rattle.flux_model.specs.Reading.{update_reading}
use Rattle.flux_model.specs.Graph.{Graph}
use Rattle.flux_model.specs.GraphFile.{graph_of}
use Rattle.flux_model.specs.GraphText.{graph_text}
use Rattle.flux_model.specs.Pattern.{PatternGraph}
use Rattle.flux_model.specs.PatternFile.{patterns_of}
use Rattle.flux_model.specs.Report.{watch_text, match_text}
use Rattle.std.specs.Result.{result_err}
use Rattle.flux_model.specs.declared.code.Bad.{Bad}
use Rattle.flux_model.specs.declared.code.Code.TheVariants as code
use Rattle.flux_model.specs.declared.limits.Limits.{Limits}

-- what `watch` writes for a graph file, a pattern file and updates, and nothing where a file is refused
abbrev watch_under : Limits → List ℕ → List ℕ → List ℕ → List ℕ
watch_under limits g p s = for_files (graph_of limits g) (patterns_of limits p)
  where
    for_files : Result Graph Bad → Result (List PatternGraph) Bad → List ℕ
    for_files (Ok h) (Ok qs) = watch_text limits h qs (map update_reading (lines limits.line_bytes s))
    for_files (Err _) _ = []
    for_files (Ok _) (Err _) = []

abbrev watch : List ℕ → List ℕ → List ℕ → List ℕ
watch g p s = watch_under standard g p s

-- what `match` writes
abbrev matched : List ℕ → List ℕ → List ℕ
matched g p = for_files (graph_of standard g) (patterns_of standard p)
  where
    for_files : Result Graph Bad → Result (List PatternGraph) Bad → List ℕ
    for_files (Ok h) (Ok qs) = match_text h qs
    for_files (Err _) _ = []
    for_files (Ok _) (Err _) = []

-- what `save` writes
abbrev saved : List ℕ → List ℕ
saved g = for_file (graph_of standard g)
  where
    for_file : Result Graph Bad → List ℕ
    for_file (Ok h) = graph_text h
    for_file (Err _) = []

abbrev graph_fault : List ℕ → Option Bad
graph_fault g = result_err (graph_of standard g)

abbrev patterns_fault : List ℕ → Option Bad
patterns_fault p = result_err (patterns_of standard p)

abbrev ab_graph : List ℕ
ab_graph = codes "v 1 A\nv 2 B\n"

abbrev ab_pattern : List ℕ
ab_pattern = codes "p ab hom\nv 0 A\nv 1 B\ne 0 1 r\n"

abbrev ab_joined : List ℕ
ab_joined = codes "v 1 A\nv 2 B\ne 1 2 r\n"

abbrev path_patterns : List ℕ
path_patterns = codes "p path hom\nv 0\nv 1\nv 2\ne 0 1 r\ne 1 2 r\np ipath iso\nv 0\nv 1\nv 2\ne 0 1 r\ne 1 2 r\np loop hom\nv 0\ne 0 0 r\n"

abbrev tri_graph : List ℕ
tri_graph = codes "v 1\nv 2\nv 3\ne 1 2 r\ne 2 3 r\n"

abbrev tri_pattern : List ℕ
tri_pattern = codes "p tri hom\nv 0\nv 1\nv 2\ne 0 1 r\ne 1 2 r\ne 2 0 r\n"

-- an edge that is added makes a match
a_gained_match : watch ab_graph ab_pattern (codes "e 1 2 r\n")
    ≡ codes "+ 1 ab 1 2\n= 1 1 0\n"
unfolding digits
a_gained_match = refl

-- no updates
no_updates : watch ab_graph ab_pattern []
    ≡ codes "= 0 0 0\n"
unfolding digits
no_updates = refl

-- a vertex that is added to the empty graph makes no match of an edge
a_vertex_without_a_match : watch [] ab_pattern (codes "v 1 A\n")
    ≡ codes "= 1 1 0\n"
unfolding digits
a_vertex_without_a_match = refl

-- nothing matches in the empty graph
no_match_in_the_empty_graph : matched [] ab_pattern
    ≡ codes "= 0\n"
unfolding digits
no_match_in_the_empty_graph = refl

-- an edge against the direction makes none
against_the_direction : watch ab_graph ab_pattern (codes "e 2 1 r\n")
    ≡ codes "= 1 1 0\n"
unfolding digits
against_the_direction = refl

-- a self-loop is a path and a loop, and no injective path
a_self_loop : watch (codes "v 1\n") path_patterns (codes "e 1 1 r\n")
    ≡ codes "+ 1 path 1 1 1\n+ 1 loop 1\n= 1 1 0\n"
unfolding digits
a_self_loop = refl

-- two edges back and forth make two paths
there_and_back : watch (codes "v 1\nv 2\ne 1 2 r\n") path_patterns (codes "e 2 1 r\n")
    ≡ codes "+ 1 path 1 2 1\n+ 1 path 2 1 2\n= 1 1 0\n"
unfolding digits
there_and_back = refl

-- a triangle comes and goes in its three rotations
a_triangle : watch tri_graph tri_pattern (codes "e 3 1 r\n-e 3 1 r\n")
    ≡ codes "+ 1 tri 1 2 3\n+ 1 tri 2 3 1\n+ 1 tri 3 1 2\n- 2 tri 1 2 3\n- 2 tri 2 3 1\n- 2 tri 3 1 2\n= 2 2 0\n"
unfolding digits
a_triangle = refl

-- the last edge completes a chain
a_chain : watch (codes "v 1 A\nv 2 B\nv 3 C\ne 1 2 r\n") (codes "p chain hom\nv 0 A\nv 1 B\nv 2 C\ne 0 1 r\ne 1 2 r\n") (codes "e 2 3 r\n")
    ≡ codes "+ 1 chain 1 2 3\n= 1 1 0\n"
unfolding digits
a_chain = refl

-- an edge that is there already is refused
a_repeated_edge : watch ab_graph ab_pattern (codes "e 1 2 r\ne 1 2 r\n")
    ≡ codes "+ 1 ab 1 2\n! 2 exists\n= 2 1 1\n"
unfolding digits
a_repeated_edge = refl

-- an edge that is not there cannot go, nor one of a vertex that is not there
removed_and_absent : watch ab_graph ab_pattern (codes "-e 1 2 r\n-e 1 9 r\n")
    ≡ codes "! 1 absent\n! 2 novertex\n= 2 0 2\n"
unfolding digits
removed_and_absent = refl

-- a comment and a blank line have no block; tabs, blanks and a byte 13 divide and end words
silent_lines : watch ab_graph ab_pattern (codes "# note\n\ne\t1  2 r\r")
    ≡ codes "+ 3 ab 1 2\n= 3 1 0\n"
unfolding digits
silent_lines = refl

-- a line of 4096 bytes behind which a byte 13 is dropped is held, and one of 4097 is long; ids end below 2 ^ 32, and numbers have 10 digits at most
long_lines : watch ab_graph ab_pattern (codes "e 1 2 r" ++ replicate 4089 32 ++ codes "\r\n-e 1 2 r" ++ replicate 4089 32 ++ codes "\nv 4294967295\nv 4294967296\nv 00000000003\n")
    ≡ codes "+ 1 ab 1 2\n! 2 long\n! 4 number\n! 5 number\n= 5 2 3\n"
unfolding digits
long_lines = refl

-- one edge at most: a repeated edge is looked for first
one_edge_at_most : watch_under (record standard { edges = 1 }) ab_graph ab_pattern (codes "e 1 2 r\ne 2 1 r\ne 1 2 r\n")
    ≡ codes "+ 1 ab 1 2\n! 2 full\n! 3 exists\n= 3 1 2\n"
unfolding digits
one_edge_at_most = refl

-- two label names at most: a name that nothing bears any more is not counted
two_names_at_most : watch_under (record standard { labels = 2 }) ab_graph ab_pattern (codes "e 1 2 r\n-v 2\nv 3 C\ne 1 3 r\n")
    ≡ codes "! 1 full\n! 4 full\n= 4 2 2\n"
unfolding digits
two_names_at_most = refl

-- two vertices without an edge are apart
apart : patterns_fault (codes "p two hom\nv 0\nv 1\n")
    ≡ Some (record { line = 1; code = code.Apart })
apart = refl

-- a pattern of one vertex gains and loses it
one_vertex : watch [] (codes "p one hom\nv 0 A\n") (codes "v 5 A\n-v 5\n")
    ≡ codes "+ 1 one 5\n- 2 one 5\n= 2 2 0\n"
unfolding digits
one_vertex = refl

-- edges of two labels between the same vertices
two_labels_of_an_edge : watch (codes "v 1\nv 2\n") (codes "p both hom\nv 0\nv 1\ne 0 1 r\ne 0 1 s\np duo iso\nv 0\nv 1\ne 0 1 r\n") (codes "e 1 2 r\ne 1 2 s\ne 1 1 s\ne 1 1 r\n-e 1 2 r\n")
    ≡ codes "+ 1 duo 1 2\n+ 2 both 1 2\n+ 4 both 1 1\n- 5 both 1 2\n- 5 duo 1 2\n= 5 5 0\n"
unfolding digits
two_labels_of_an_edge = refl

-- each refusal of an update
refusals : watch ab_joined ab_pattern (codes "v 1 A\n-v 2\n-v 9\nx 1\ne 1 2\ne 1 x r\ne 1 2 r" ++ 127 ∷ codes "\ne 1 9 r\n")
    ≡ codes "! 1 exists\n! 2 busy\n! 3 novertex\n! 4 word\n! 5 arity\n! 6 number\n! 7 label\n! 8 novertex\n= 8 0 8\n"
unfolding digits
refusals = refl

-- an edge of a graph file whose end is not there
an_edge_without_its_end : graph_fault (codes "v 1 A\ne 1 2 r\n")
    ≡ Some (record { line = 2; code = code.NoVertex })
an_edge_without_its_end = refl

-- in a graph file an edge that is there already changes nothing
a_repeated_edge_of_a_file : matched (codes "v 1\nv 2\nv 3\ne 1 2 r\ne 2 3 r\ne 3 1 r\ne 3 1 r\n") tri_pattern
    ≡ codes "m tri 1 2 3\nm tri 2 3 1\nm tri 3 1 2\n= 3\n"
unfolding digits
a_repeated_edge_of_a_file = refl

-- the one text of a graph
the_graph_text : saved (codes "v 2 B A A\nv 1\ne 2 1 s\ne 2 1 r\ne 2 1 s\n")
    ≡ codes "v 1\nv 2 A B\ne 2 1 r\ne 2 1 s\n"
unfolding digits
the_graph_text = refl

-- each refusal of a pattern file, at its line
no_name : patterns_fault (codes "v 0\n") ≡ Some (record { line = 1; code = code.NoName })
no_name = refl

out_of_order : patterns_fault (codes "p a hom\nv 1\n") ≡ Some (record { line = 2; code = code.Order })
out_of_order = refl

empty_pattern : patterns_fault (codes "p a hom\np b hom\nv 0\n") ≡ Some (record { line = 1; code = code.Empty })
empty_pattern = refl

no_such_vertex : patterns_fault (codes "p a hom\nv 0\ne 0 1 r\n") ≡ Some (record { line = 3; code = code.NoVertex })
no_such_vertex = refl

same_name : patterns_fault (codes "p a hom\nv 0\np a iso\n") ≡ Some (record { line = 3; code = code.Exists })
same_name = refl

no_mode : patterns_fault (codes "p a any\n") ≡ Some (record { line = 1; code = code.Mode })
no_mode = refl

same_edge : patterns_fault (codes "p a hom\nv 0\ne 0 0 r\ne 0 0 r\n") ≡ Some (record { line = 4; code = code.Exists })
same_edge = refl

too_many_vertices : result_err (patterns_of (record standard { pattern_vertices = 1 }) (codes "p a hom\nv 0\nv 1\n")) ≡ Some (record { line = 3; code = code.Full })
too_many_vertices = refl

-- people, posts and what they like
a_realistic_use : watch (codes "v 100 Person\nv 101 Person\nv 102 Person Admin\nv 900 Post\ne 100 101 knows\ne 101 102 knows\ne 101 900 likes\n")
    (codes "p tip iso\nv 0 Person\nv 1 Person\nv 2 Post\ne 0 1 knows\ne 1 2 likes\np staff hom\nv 0 Admin\nv 1 Post\ne 0 1 likes\n")
    (codes "e 102 900 likes\ne 102 100 knows\n-e 101 900 likes\nv 901 Post\n-v 901\n")
    ≡ codes "+ 1 tip 101 102 900\n+ 1 staff 102 900\n- 3 tip 100 101 900\n= 5 5 0\n"
unfolding digits
a_realistic_use = refl
