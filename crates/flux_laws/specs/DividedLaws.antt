-- Patterns that are divided in two.
use Rattle.std.specs.Prelude.{◌≡◌, ℕ, suc, List, [], ◌∷◌, ◌++◌, map, flat_map, Ok}
use Rattle.flux_model.specs.Lines.{lines, open_end}
use Rattle.flux_model.specs.Reading.{pattern_reading}
use Rattle.flux_model.specs.Graph.{Graph}
use Rattle.flux_model.specs.Pattern.{PatternGraph}
use Rattle.flux_model.specs.PatternFile.{patterns_of}
use Rattle.flux_model.specs.Report.{Outcome, Ignored, Rejected, Changed, outcomes, next_graph, block, end_line_of, watch_text}
use Rattle.flux_model.specs.declared.limits.Limits.{Limits}
use Rattle.flux_model.specs.declared.pattern.Mode.{Mode}
use Rattle.flux_model.specs.declared.pattern.PatternPart.{PatternPart}
use Rattle.flux_model.specs.declared.pattern.PatternPart.TheVariants as part
use Rattle.flux_model.specs.declared.said.Said.{Said}
use Rattle.flux_model.specs.declared.said.Said.TheVariants.{Says}
use Rattle.flux_model.specs.declared.graph.Update.{Update}

-- ---- patterns

-- the block of each line, numbered from k
abbrev pub block_list : Limits → List PatternGraph → Graph → List (Said Update) → ℕ → List (List ℕ)
block_list limits patterns g [] k = []
block_list limits patterns g (said ∷ saids) k = block limits k patterns g said ∷ block_list limits patterns (next_graph limits g said) saids (suc k)

-- what two parts of the patterns wrote of a line: its refusal once, or what the first wrote and then what the second did
abbrev pub merged_block : Outcome → List ℕ → List ℕ → List ℕ
merged_block Ignored first second = first ++ second
merged_block (Rejected _) first second = first
merged_block (Changed _) first second = first ++ second

-- the same for each of the lines
abbrev pub merged : List Outcome → List (List ℕ) → List (List ℕ) → List (List ℕ)
merged (o ∷ os) (x ∷ xs) (y ∷ ys) = merged_block o x y ∷ merged os xs ys
merged _ _ _ = []

-- these blocks one after another, and then the end line, which is the same whatever the patterns are
abbrev pub report_of : Limits → Graph → List (Said Update) → List (List ℕ) → List ℕ
report_of limits g saids written = flat_map (λ b. b) written ++ end_line_of (outcomes limits g saids)

-- the reports of both parts, and that of all patterns, which is the two merged line by line
pub record AreMerged (limits : Limits) (qs rs : List PatternGraph) (g : Graph) (saids : List (Said Update)) : Type 0 where
  pub of_first : watch_text limits g qs saids ≡ report_of limits g saids (block_list limits qs g saids 1)
  pub of_second : watch_text limits g rs saids ≡ report_of limits g saids (block_list limits rs g saids 1)
  pub of_all : watch_text limits g (qs ++ rs) saids
      ≡ report_of limits g saids (merged (outcomes limits g saids) (block_list limits qs g saids 1) (block_list limits rs g saids 1))

abbrev pub PatternsInParts : Type 0
PatternsInParts = (limits : Limits) (qs rs : List PatternGraph) (g : Graph) (saids : List (Said Update)) → AreMerged limits qs rs g saids

-- ---- pattern files

-- both parts are accepted, and have the patterns one after the other
pub record AreFileParts (limits : Limits) (first second : List ℕ) (all : List PatternGraph) : Type 0 where
  pub qs : List PatternGraph
  pub rs : List PatternGraph
  pub first_part : patterns_of limits first ≡ Ok qs
  pub second_part : patterns_of limits second ≡ Ok rs
  pub in_parts : all ≡ qs ++ rs

-- The file is cut after the end of a line, or before its first one, and the next line begins a pattern.
abbrev pub PatternFileInParts : Type 0
PatternFileInParts =
    (limits : Limits) (first second name : List ℕ) (mode : Mode) (saids : List (Said PatternPart)) (all : List PatternGraph) → open_end first ≡ [] →
    map pattern_reading (lines limits.line_bytes second) ≡ Says (part.Name name mode) ∷ saids → patterns_of limits (first ++ second) ≡ Ok all →
    AreFileParts limits first second all
