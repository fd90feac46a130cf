-- Updates that come in two parts.
use Rattle.std.proofs.Common.{◌≡◌, ℕ, suc, ◌+◌, true, ◌&&◌, List, [], ◌∷◌, ◌++◌, length, map, sym, ap, ◌∙◌, arith, append_assoc, append-nil}
use Rattle.std.proofs.lemmas.Grind.{flat_map-append}
use Rattle.std.proofs.lemmas.List.{map-append, length-map}
use Rattle.std.proofs.lemmas.List.Folds.{list_all-append}
use Rattle.std.specs.List.{list_all}
use Rattle.flux_model.specs.Lines.{InputLine, line_of, parts, all_but_last, open_end, last_line, lines, whole}
use Rattle.flux_model.specs.Reading.{update_reading}
use Rattle.flux_model.specs.Graph.{Graph}
use Rattle.flux_model.specs.Pattern.{PatternGraph}
use Rattle.flux_model.specs.Report.{block, blocks, next_graph}
use Rattle.flux_model.specs.declared.said.Said.{Said}
use Rattle.flux_model.specs.declared.graph.Update.{Update}
use Rattle.flux_model.specs.declared.limits.Limits.{Limits}
use Rattle.flux_laws.specs.LinesLaws.{has_no_end, ended_text}
use Rattle.flux_laws.specs.ReportsLaws.{updates_in, graph_after_all, BlocksInParts}
use Rattle.flux_laws.proofs.LinesLemmas.{give_back, no_end, unique}

-- the cut of two parts
pub cut_in_parts : (first second : List ℕ) → open_end first ≡ []
    → (all_but_last (parts (first ++ second)) ≡ all_but_last (parts first) ++ all_but_last (parts second)) × (open_end (first ++ second) ≡ open_end second)
cut_in_parts first second none =
    let xs : List (List ℕ) = all_but_last (parts first) in
    let ys : List (List ℕ) = all_but_last (parts second) in
    let end : List ℕ = open_end second in
    let front : ended_text xs ≡ first = sym (append-nil (ended_text xs)) ∙ ap (λ l. ended_text xs ++ l) (sym none) ∙ give_back first in
    let all : ended_text (xs ++ ys) ++ end ≡ first ++ second =
    ap (λ l. l ++ end) (flat_map-append (λ (line : List ℕ). line ++ 10 ∷ []) xs ys) ∙ append_assoc (ended_text xs) (ended_text ys) end
    ∙ ap (λ l. l ++ (ended_text ys ++ end)) front ∙ ap (λ l. first ++ l) (give_back second) in
    let none_has_end : list_all has_no_end (xs ++ ys) ≡ true =
    list_all-append has_no_end xs ys ∙ ap (λ b. b && list_all has_no_end ys) (no_end first).0 ∙ (no_end second).0 in
    let cut = unique (xs ++ ys) end none_has_end (no_end second).1 in
    (ap (λ b. all_but_last (parts b)) (sym all) ∙ cut.0, ap open_end (sym all) ∙ cut.1)

-- the lines of two parts
pub lines-append : (n : ℕ) (first second : List ℕ) → open_end first ≡ [] → lines n (first ++ second) ≡ lines n first ++ lines n second
lines-append n first second none =
    let cut = cut_in_parts first second none in
    let last : lines n first ≡ whole n first = ap (λ end. whole n first ++ last_line n end) none ∙ append-nil (whole n first) in
    ap (λ ls. map (line_of n) ls ++ last_line n (open_end (first ++ second))) cut.0
    ∙ ap (λ end. map (line_of n) (all_but_last (parts first) ++ all_but_last (parts second)) ++ last_line n end) cut.1
    ∙ ap (λ ls. ls ++ last_line n (open_end second)) (map-append (line_of n) (all_but_last (parts first)) (all_but_last (parts second)))
    ∙ append_assoc (whole n first) (whole n second) (last_line n (open_end second))
    ∙ ap (λ ls. ls ++ lines n second) (sym last)

-- the blocks of lines in two parts
pub blocks-append : (limits : Limits) (patterns : List PatternGraph) (g : Graph) (xs ys : List (Said Update)) (k : ℕ)
    → blocks limits patterns g (xs ++ ys) k ≡ blocks limits patterns g xs k ++ blocks limits patterns (graph_after_all limits g xs) ys (length xs + k)
blocks-append limits patterns g [] ys k = ap (blocks limits patterns g ys) (omega arith)
blocks-append limits patterns g (x ∷ xs) ys k =
    ap (λ l. block limits k patterns g x ++ l) (blocks-append limits patterns (next_graph limits g x) xs ys (suc k))
    ∙ sym (append_assoc (block limits k patterns g x) (blocks limits patterns (next_graph limits g x) xs (suc k)) (blocks limits patterns (graph_after_all limits (next_graph limits g x) xs) ys (length xs + suc k)))
    ∙ ap (λ n. (block limits k patterns g x ++ blocks limits patterns (next_graph limits g x) xs (suc k)) ++ blocks limits patterns (graph_after_all limits (next_graph limits g x) xs) ys n) (omega arith)

-- the blocks of bytes in two parts
pub in_parts : BlocksInParts
in_parts limits patterns g first second none =
    let xs : List InputLine = lines limits.line_bytes first in
    let ys : List InputLine = lines limits.line_bytes second in
    ap (λ ls. blocks limits patterns g (map update_reading ls) 1) (lines-append limits.line_bytes first second none)
    ∙ ap (λ saids. blocks limits patterns g saids 1) (map-append update_reading xs ys)
    ∙ blocks-append limits patterns g (updates_in limits first) (updates_in limits second) 1
    ∙ ap (λ n. blocks limits patterns g (updates_in limits first) 1 ++ blocks limits patterns (graph_after_all limits g (updates_in limits first)) (updates_in limits second) (n + 1)) (length-map xs update_reading)
