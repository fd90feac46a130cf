-- The report of updates in two parts.
use Rattle.std.proofs.Common.{◌≡◌, ℕ, suc, ◌+◌, ◌≤◌, false, cond, nat_lt, List, [], ◌∷◌, ◌++◌, length, map, Result, Ok, Err, refl, sym, ap, ◌∙◌, arith, append_assoc, append-nil}
use Rattle.std.proofs.lemmas.Bool.Decides.{nat_tests}
use Rattle.std.proofs.lemmas.Grind.{flat_map-append}
use Rattle.std.proofs.lemmas.List.{map-append, length-append}
use Rattle.std.proofs.lemmas.List.Sums.{sum_by-append}
use Rattle.std.specs.Prelude.{codes, flat_map, count_by}
use Rattle.std.specs.Fmt.{decimal}
use Rattle.flux_model.specs.Code.{code_word}
use Rattle.flux_model.specs.Lines.{lines}
use Rattle.flux_model.specs.Reading.{update_reading}
use Rattle.flux_model.specs.Graph.{Graph}
use Rattle.flux_model.specs.Pattern.{PatternGraph}
use Rattle.flux_model.specs.Change.{gained, lost}
use Rattle.flux_model.specs.Report.{Outcome, Ignored, Rejected, Changed, outcome, outcomes, next_graph, block_of, blocks, map_line, change_lines, is_accepted, is_refused, end_line, end_line_of, watch_text}
use Rattle.flux_model.specs.FileReading.{result_and_then}
use Rattle.flux_model.specs.Verdict.{Verdict, Watch, Watched, graph_file, pattern_file, accepted, ending_with, ends_with}
use Rattle.flux_model.specs.declared.limits.Limits.{Limits}
use Rattle.flux_model.specs.declared.said.Said.{Said}
use Rattle.flux_model.specs.declared.graph.Update.{Update}
use Rattle.flux_laws.specs.ReportsLaws.{updates_in, graph_after_all}
use Rattle.flux_laws.proofs.ReportsLemmas.{lines-append, blocks-append}
use Rattle.flux_laws.specs.StreamsLaws.{done_with, StreamsInParts}
use Rattle.flux_laws.proofs.BetweenLemmas.{between_file}
use Rattle.flux_laws.specs.ReportText.{BlockLine, Counts, moved_line, moved, counts_line, sum}

-- ---- the lines of a block

abbrev map_line_of : List ℕ → ℕ → PatternGraph → List ℕ → BlockLine
map_line_of sign k q m = record { sign = sign; number = k; words = q.name ∷ map decimal m }

abbrev change_lines_of : ℕ → Graph → Graph → PatternGraph → List BlockLine
change_lines_of k old new q = map (map_line_of (codes "+") k q) (gained q old new) ++ map (map_line_of (codes "-") k q) (lost q old new)

abbrev lines_of : ℕ → List PatternGraph → Graph → Outcome → List BlockLine
lines_of k qs g Ignored = []
lines_of k qs g (Rejected c) = record { sign = codes "!"; number = k; words = code_word c ∷ [] } ∷ []
lines_of k qs g (Changed h) = flat_map (change_lines_of k g h) qs

abbrev pub all_lines : Limits → List PatternGraph → Graph → List (Said Update) → ℕ → List BlockLine
all_lines limits qs g [] k = []
all_lines limits qs g (said ∷ saids) k = lines_of k qs g (outcome limits g said) ++ all_lines limits qs (next_graph limits g said) saids (suc k)

moved-append : (n : ℕ) (xs ys : List BlockLine) → moved n (xs ++ ys) ≡ moved n xs ++ moved n ys
moved-append n xs ys = flat_map-append (moved_line n) xs ys

moved_maps : (n k : ℕ) (sign : List ℕ) (q : PatternGraph) (ms : List (List ℕ)) → flat_map (map_line sign (n + k) q.name) ms ≡ moved n (map (map_line_of sign k q) ms)
moved_maps n k sign q [] = refl
moved_maps n k sign q (m ∷ ms) = ap (λ l. map_line sign (n + k) q.name m ++ l) (moved_maps n k sign q ms)

moved_changes : (n k : ℕ) (old new : Graph) (qs : List PatternGraph) → flat_map (change_lines (n + k) old new) qs ≡ moved n (flat_map (change_lines_of k old new) qs)
moved_changes n k old new [] = refl
moved_changes n k old new (q ∷ qs) =
    let came : List BlockLine = map (map_line_of (codes "+") k q) (gained q old new) in
    let went : List BlockLine = map (map_line_of (codes "-") k q) (lost q old new) in
    let one : change_lines (n + k) old new q ≡ moved n (came ++ went) =
    ap (λ l. l ++ flat_map (map_line (codes "-") (n + k) q.name) (lost q old new)) (moved_maps n k (codes "+") q (gained q old new))
    ∙ ap (λ l. moved n came ++ l) (moved_maps n k (codes "-") q (lost q old new)) ∙ sym (moved-append n came went) in
    ap (λ l. l ++ flat_map (change_lines (n + k) old new) qs) one ∙ ap (λ l. moved n (came ++ went) ++ l) (moved_changes n k old new qs)
    ∙ sym (moved-append n (came ++ went) (flat_map (change_lines_of k old new) qs))

moved_block : (n k : ℕ) (qs : List PatternGraph) (g : Graph) (o : Outcome) → block_of (n + k) qs g o ≡ moved n (lines_of k qs g o)
moved_block n k qs g Ignored = refl
moved_block n k qs g (Rejected c) = sym (append-nil (block_of (n + k) qs g (Rejected c)))
moved_block n k qs g (Changed h) = moved_changes n k g h qs

-- blocks that are numbered from n + k are those from k, moved by n
pub moved_blocks : (limits : Limits) (n k : ℕ) (qs : List PatternGraph) (g : Graph) (saids : List (Said Update)) → blocks limits qs g saids (n + k) ≡ moved n (all_lines limits qs g saids k)
moved_blocks limits n k qs g [] = refl
moved_blocks limits n k qs g (said ∷ saids) =
    let o : Outcome = outcome limits g said in
    let later : Graph = next_graph limits g said in
    let next : suc (n + k) ≡ n + suc k = omega arith in
    ap (λ l. l ++ blocks limits qs later saids (suc (n + k))) (moved_block n k qs g o)
    ∙ ap (λ m. moved n (lines_of k qs g o) ++ blocks limits qs later saids m) next
    ∙ ap (λ l. moved n (lines_of k qs g o) ++ l) (moved_blocks limits n (suc k) qs later saids)
    ∙ sym (moved-append n (lines_of k qs g o) (all_lines limits qs later saids (suc k)))

-- ---- the end line

abbrev pub counts_of : List Outcome → Counts
counts_of os = record { lines = length os; accepted = count_by is_accepted os; refused = count_by is_refused os }

outcomes-append : (limits : Limits) (g : Graph) (xs ys : List (Said Update)) → outcomes limits g (xs ++ ys) ≡ outcomes limits g xs ++ outcomes limits (graph_after_all limits g xs) ys
outcomes-append limits g [] ys = refl
outcomes-append limits g (x ∷ xs) ys = ap (λ l. outcome limits g x ∷ l) (outcomes-append limits (next_graph limits g x) xs ys)

length-outcomes : (limits : Limits) (g : Graph) (saids : List (Said Update)) → length (outcomes limits g saids) ≡ length saids
length-outcomes limits g [] = refl
length-outcomes limits g (said ∷ saids) = ap suc (length-outcomes limits (next_graph limits g said) saids)

counts-append : (os ps : List Outcome) → end_line_of (os ++ ps) ≡ counts_line (sum (counts_of os) (counts_of ps))
counts-append os ps =
    ap (λ n. end_line n (count_by is_accepted (os ++ ps)) (count_by is_refused (os ++ ps))) (length-append os ps)
    ∙ ap (λ n. end_line (length os + length ps) n (count_by is_refused (os ++ ps))) (sum_by-append (λ o. cond (is_accepted o) 1 0) os ps)
    ∙ ap (λ n. end_line (length os + length ps) (count_by is_accepted os + count_by is_accepted ps) n) (sum_by-append (λ o. cond (is_refused o) 1 0) os ps)

-- ---- the texts

-- what is written of updates in two parts
parts_text : (limits : Limits) (qs : List PatternGraph) (g : Graph) (xs ys : List (Said Update)) → let os = outcomes limits g xs in let h = graph_after_all limits g xs in
    watch_text limits g qs (xs ++ ys)
    ≡ moved 0 (all_lines limits qs g xs 1) ++ (moved (length os) (all_lines limits qs h ys 1) ++ counts_line (sum (counts_of os) (counts_of (outcomes limits h ys))))
parts_text limits qs g xs ys =
    let h : Graph = graph_after_all limits g xs in
    let os : List Outcome = outcomes limits g xs in
    let earlier : List ℕ = moved 0 (all_lines limits qs g xs 1) in
    let later : List ℕ = moved (length os) (all_lines limits qs h ys 1) in
    let end : List ℕ = end_line_of (outcomes limits g (xs ++ ys)) in
    let numbered : blocks limits qs h ys (length xs + 1) ≡ later =
    ap (λ n. blocks limits qs h ys (n + 1)) (sym (length-outcomes limits g xs)) ∙ moved_blocks limits (length os) 1 qs h ys in
    let written : blocks limits qs g (xs ++ ys) 1 ≡ earlier ++ later =
    blocks-append limits qs g xs ys 1 ∙ ap (λ l. l ++ blocks limits qs h ys (length xs + 1)) (moved_blocks limits 0 1 qs g xs) ∙ ap (λ l. earlier ++ l) numbered in
    ap (λ l. l ++ end) written ∙ append_assoc earlier later end
    ∙ ap (λ l. earlier ++ (later ++ l)) (ap end_line_of (outcomes-append limits g xs ys) ∙ counts-append os (outcomes limits h ys))

-- ---- a run

done_text : (limits : Limits) (s : List ℕ) (g : Graph) (qs : List PatternGraph) → length s ≤ limits.input_bytes
    → ending_with limits s (Watched g qs) ≡ done_with (watch_text limits g qs (updates_in limits s))
done_text limits s g qs few =
    let short : nat_lt limits.input_bytes (length s) ≡ false = grind (arith, nat_tests) in
    rw short refl

-- the files of an accepted watch are accepted
both_accepted : (r : Result Graph Verdict) (p : Result (List PatternGraph) Verdict) (g : Graph) (qs : List PatternGraph)
    → result_and_then (λ h. result_and_then (λ rs. Ok (Watched h rs)) p) r ≡ Ok (Watched g qs) → (r ≡ Ok g) × (p ≡ Ok qs)
both_accepted (Ok h) (Ok rs) g qs e = let graphs : h ≡ g = cc in let patterns : rs ≡ qs = cc in (ap ok_graph graphs, ap ok_patterns patterns)
  where
    ok_graph : Graph → Result Graph Verdict
    ok_graph x = Ok x

    ok_patterns : List PatternGraph → Result (List PatternGraph) Verdict
    ok_patterns x = Ok x
both_accepted (Ok h) (Err v) g qs e = cc
both_accepted (Err v) p g qs e = cc

pub streams_cut : StreamsInParts
streams_cut limits files between graph patterns g qs first second accepts none short room few at same =
    let xs : List (Said Update) = updates_in limits first in
    let ys : List (Said Update) = updates_in limits second in
    let h : Graph = graph_after_all limits g xs in
    let len = length-append first second in
    let found = both_accepted (graph_file limits (files graph)) (pattern_file limits (files patterns)) g qs accepts in
    let opened : accepted limits between (Watch graph patterns) ≡ Ok (Watched h qs) =
    let graphs : graph_file limits (between graph) ≡ Ok h = ap (graph_file limits) at ∙ between_file limits (files graph) g first found.0 room few in
    let names : pattern_file limits (between patterns) ≡ Ok qs = ap (pattern_file limits) same ∙ found.1 in
    rw (graphs, names) refl in
    let two : updates_in limits (first ++ second) ≡ xs ++ ys =
    ap (map update_reading) (lines-append limits.line_bytes first second none) ∙ map-append update_reading (lines limits.line_bytes first) (lines limits.line_bytes second) in
    record {
      earlier = all_lines limits qs g xs 1;
      later = all_lines limits qs h ys 1;
      before = counts_of (outcomes limits g xs);
      after = counts_of (outcomes limits h ys);
      first_part = ap (ends_with (ending_with limits first)) accepts ∙ done_text limits first g qs (omega (arith, len, short))
          ∙ ap (λ l. done_with (l ++ end_line_of (outcomes limits g xs))) (moved_blocks limits 0 1 qs g xs);
      second_part = ap (ends_with (ending_with limits second)) opened ∙ done_text limits second h qs (omega (arith, len, short))
          ∙ ap (λ l. done_with (l ++ end_line_of (outcomes limits h ys))) (moved_blocks limits 0 1 qs h ys);
      in_parts = ap (ends_with (ending_with limits (first ++ second))) accepts ∙ done_text limits (first ++ second) g qs short
          ∙ ap (λ saids. done_with (watch_text limits g qs saids)) two ∙ ap done_with (parts_text limits qs g xs ys);
    }
