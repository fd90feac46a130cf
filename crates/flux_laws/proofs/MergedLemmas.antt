-- The blocks of patterns in two parts.
use Rattle.std.proofs.Common.{◌≡◌, ℕ, suc, List, [], ◌∷◌, ◌++◌, refl, ap, ◌∙◌}
use Rattle.std.proofs.lemmas.Grind.{flat_map-append}
use Rattle.std.specs.Prelude.{flat_map}
use Rattle.flux_model.specs.Graph.{Graph}
use Rattle.flux_model.specs.Pattern.{PatternGraph}
use Rattle.flux_model.specs.Report.{Outcome, Ignored, Rejected, Changed, outcome, outcomes, next_graph, block, block_of, blocks, change_lines, end_line_of}
use Rattle.flux_model.specs.declared.limits.Limits.{Limits}
use Rattle.flux_model.specs.declared.said.Said.{Said}
use Rattle.flux_model.specs.declared.graph.Update.{Update}
use Rattle.flux_laws.specs.DividedLaws.{block_list, merged_block, merged, PatternsInParts}

-- the blocks are those of the lines, one after another
listed : (limits : Limits) (qs : List PatternGraph) (g : Graph) (saids : List (Said Update)) (k : ℕ) → blocks limits qs g saids k ≡ flat_map (λ b. b) (block_list limits qs g saids k)
listed limits qs g [] k = refl
listed limits qs g (said ∷ saids) k = ap (λ l. block limits k qs g said ++ l) (listed limits qs (next_graph limits g said) saids (suc k))

-- one block of all patterns
block_merged : (k : ℕ) (qs rs : List PatternGraph) (g : Graph) (o : Outcome) → block_of k (qs ++ rs) g o ≡ merged_block o (block_of k qs g o) (block_of k rs g o)
block_merged k qs rs g Ignored = refl
block_merged k qs rs g (Rejected _) = refl
block_merged k qs rs g (Changed h) = flat_map-append (change_lines k g h) qs rs

-- all of them
all_merged : (limits : Limits) (qs rs : List PatternGraph) (g : Graph) (saids : List (Said Update)) (k : ℕ)
    → block_list limits (qs ++ rs) g saids k ≡ merged (outcomes limits g saids) (block_list limits qs g saids k) (block_list limits rs g saids k)
all_merged limits qs rs g [] k = refl
all_merged limits qs rs g (said ∷ saids) k =
    let o : Outcome = outcome limits g said in
    ap (λ b. b ∷ block_list limits (qs ++ rs) (next_graph limits g said) saids (suc k)) (block_merged k qs rs g o)
    ∙ ap (λ l. merged_block o (block_of k qs g o) (block_of k rs g o) ∷ l) (all_merged limits qs rs (next_graph limits g said) saids (suc k))

-- the report of all patterns, merged
pub patterns_merged : PatternsInParts
patterns_merged limits qs rs g saids =
    let end : List ℕ = end_line_of (outcomes limits g saids) in
    record {
      of_first = ap (λ l. l ++ end) (listed limits qs g saids 1);
      of_second = ap (λ l. l ++ end) (listed limits rs g saids 1);
      of_all = ap (λ l. l ++ end) (listed limits (qs ++ rs) g saids 1 ∙ ap (flat_map (λ b. b)) (all_merged limits qs rs g saids 1));
    }
