-- Updates that come in parts.
use Rattle.std.proofs.Common.{◌≡◌, ℕ, suc, ◌+◌, List, [], ◌∷◌, ◌++◌, length, refl, sym, ap, ◌∙◌, arith, append_assoc}
use Rattle.flux_model.specs.Graph.{Graph}
use Rattle.flux_model.specs.Pattern.{PatternGraph}
use Rattle.flux_model.specs.Report.{block, blocks, outcome, outcomes, next_graph}
use Rattle.flux_model.specs.declared.said.Said.{Said}
use Rattle.flux_model.specs.declared.graph.Update.{Update}
use Rattle.flux_model.specs.declared.limits.Limits.{Limits}

-- the graph after all of the lines
abbrev pub graph_after_all : Limits → Graph → List (Said Update) → Graph
graph_after_all limits g [] = g
graph_after_all limits g (said ∷ saids) = graph_after_all limits (next_graph limits g said) saids

-- the blocks of lines in two parts
pub blocks-append : (limits : Limits) (patterns : List PatternGraph) (g : Graph) (xs ys : List (Said Update)) (k : ℕ)
    → blocks limits patterns g (xs ++ ys) k ≡ blocks limits patterns g xs k ++ blocks limits patterns (graph_after_all limits g xs) ys (length xs + k)
blocks-append limits patterns g [] ys k = ap (blocks limits patterns g ys) (omega arith)
blocks-append limits patterns g (x ∷ xs) ys k =
    ap (λ l. block limits k patterns g x ++ l) (blocks-append limits patterns (next_graph limits g x) xs ys (suc k))
    ∙ sym (append_assoc (block limits k patterns g x) (blocks limits patterns (next_graph limits g x) xs (suc k)) (blocks limits patterns (graph_after_all limits (next_graph limits g x) xs) ys (length xs + suc k)))
    ∙ ap (λ n. (block limits k patterns g x ++ blocks limits patterns (next_graph limits g x) xs (suc k)) ++ blocks limits patterns (graph_after_all limits (next_graph limits g x) xs) ys n) (omega arith)

-- what lines in two parts come to
pub outcomes-append : (limits : Limits) (g : Graph) (xs ys : List (Said Update))
    → outcomes limits g (xs ++ ys) ≡ outcomes limits g xs ++ outcomes limits (graph_after_all limits g xs) ys
outcomes-append limits g [] ys = refl
outcomes-append limits g (x ∷ xs) ys = ap (λ l. outcome limits g x ∷ l) (outcomes-append limits (next_graph limits g x) xs ys)

-- each line comes to one thing
pub length-outcomes : (limits : Limits) (g : Graph) (xs : List (Said Update)) → length (outcomes limits g xs) ≡ length xs
length-outcomes limits g [] = refl
length-outcomes limits g (x ∷ xs) = ap suc (length-outcomes limits (next_graph limits g x) xs)
