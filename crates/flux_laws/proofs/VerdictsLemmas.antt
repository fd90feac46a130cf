-- Files that are accepted or refused alike, and updates of which a front was read.
use Rattle.std.proofs.Common.{◌≡◌, ℕ, ◌+◌, ◌-◌, ◌≤◌, Bool, true, false, ◌&&◌, cond, nat_lt, List, [], ◌++◌, length, take, drop, map, Option, Some, None, Result, Ok, Err, refl, sym, ap, subst, ◌∙◌, arith, append_assoc, append-nil}
use Rattle.std.proofs.lemmas.Bool.Decides.{nat_tests}
use Rattle.std.proofs.Math.Seq.{take-append-add}
use Rattle.std.proofs.lemmas.List.{map-append, take-append-drop}
use Rattle.std.specs.Prelude.{is_ok}
use Rattle.std.specs.Result.{result_map_both}
use Rattle.flux_model.specs.Lines.{InputLine, line_of, parts, all_but_last, open_end, last_line, lines, whole}
use Rattle.flux_model.specs.Reading.{graph_reading, update_reading, pattern_reading}
use Rattle.flux_model.specs.FileReading.{result_and_then, read_from}
use Rattle.flux_model.specs.Graph.{Graph, empty_graph}
use Rattle.flux_model.specs.GraphFile.{graph_after_line, read_graph, graph_of}
use Rattle.flux_model.specs.GraphText.{graph_text}
use Rattle.flux_model.specs.Pattern.{PatternGraph}
use Rattle.flux_model.specs.PatternFile.{close, empty_draft, patterns_after_line}
use Rattle.flux_model.specs.Report.{blocks, end_line_of, outcomes, watch_text}
use Rattle.flux_model.specs.Verdict.{Shape, Watch, Match, Save, Demo, Verdict, TooMuch, BadGraph, Files, Watched, Matched, Saved, Shown, file_as, graph_file, accepted, blocks_of, Ending, ending_with, ends_with, written_before}
use Rattle.flux_model.specs.declared.code.Bad.{Bad}
use Rattle.flux_model.specs.declared.limits.Limits.{Limits}
use Rattle.flux_model.proofs.FileReadingLemmas.{read_from-append}
use Rattle.flux_laws.specs.LinesLaws.{ended_text}
use Rattle.flux_laws.specs.TextsLaws.{longest_line}
use Rattle.flux_laws.specs.ReportsLaws.{graph_after_all}
use Rattle.flux_laws.specs.VerdictsLaws.{graph_name, HaveSamePatterns, SavedGraphWritesTheSame, FrontRefusesGraphFile, FrontRefusesPatternFile, IsFrontOf, WrittenBeforeIsFront}
use Rattle.flux_laws.proofs.LinesLemmas.{give_back, no_end, unique}
use Rattle.flux_laws.proofs.FilesLemmas.{makes_graph, within_limits}
use Rattle.flux_laws.proofs.TextsLemmas.{graph_read_back}
use Rattle.flux_laws.proofs.ReportsLemmas.{cut_in_parts, blocks-append}

-- ---- files

-- what an accepted file holds was accepted
pub held_accepted : {S T : Type 0} (n : ℕ) (front : List ℕ → Result S Bad) (all : List ℕ → Result T Bad) (bad : Bad → Verdict) (file : Option (List ℕ)) (x : T)
    → file_as n front all bad file ≡ Ok x → (bytes : List ℕ) × (all bytes ≡ Ok x)
held_accepted n front all bad None x e = cc
held_accepted n front all bad (Some bytes) x e = (bytes, by (nat_lt n (length bytes) && is_ok (front (take n bytes))) (all bytes) e)
  where
    by : (b : Bool) (r : Result _ Bad) → cond b (Err TooMuch) (result_map_both (λ y. y) bad r) ≡ Ok x → r ≡ Ok x
    by true r f = cc
    by false (Ok y) f = cc
    by false (Err e) f = cc

-- a file that is not too long is accepted as what it holds is
pub accepted_as : {S T : Type 0} (n : ℕ) (front : List ℕ → Result S Bad) (all : List ℕ → Result T Bad) (bad : Bad → Verdict) (bytes : List ℕ) (x : T)
    → length bytes ≤ n → all bytes ≡ Ok x → file_as n front all bad (Some bytes) ≡ Ok x
accepted_as n front all bad bytes x few e =
    let short : nat_lt n (length bytes) ≡ false = grind (arith, nat_tests) in
    rw (short, e) refl

-- the text of an accepted graph is accepted as that graph
pub saved_file : (limits : Limits) (file : Option (List ℕ)) (g : Graph) → graph_file limits file ≡ Ok g → longest_line ≤ limits.line_bytes → length (graph_text g) ≤ limits.input_bytes
    → graph_file limits (Some (graph_text g)) ≡ Ok g
saved_file limits file g e room few =
    let front : List ℕ → Result Graph Bad = λ b. read_graph limits (map graph_reading (whole limits.line_bytes b)) in
    let was = held_accepted limits.input_bytes front (graph_of limits) BadGraph file g e in
    accepted_as limits.input_bytes front (graph_of limits) BadGraph (graph_text g) g few
    (graph_read_back limits g (makes_graph limits was.0 g was.1) (within_limits limits was.0 g was.1) room)

-- the saved file is accepted as the same
pub saved_accepted : (limits : Limits) (files saved : Files) (shape : Shape) (g : Graph) → graph_file limits (files (graph_name shape)) ≡ Ok g → longest_line ≤ limits.line_bytes
    → length (graph_text g) ≤ limits.input_bytes → saved (graph_name shape) ≡ Some (graph_text g) → HaveSamePatterns files saved shape
    → accepted limits saved shape ≡ accepted limits files shape
saved_accepted limits files saved shape g e room few at same = by shape (ap (graph_file limits) at ∙ saved_file limits (files (graph_name shape)) g e room few ∙ sym e) same
  where
    by : (shape : Shape) → graph_file limits (saved (graph_name shape)) ≡ graph_file limits (files (graph_name shape)) → HaveSamePatterns files saved shape
        → accepted limits saved shape ≡ accepted limits files shape
    by (Watch graph patterns) graphs names = rw (graphs, names) refl
    by (Match graph patterns) graphs names = rw (graphs, names) refl
    by (Save graph) graphs names = rw graphs refl
    by (Demo number) graphs names = refl

-- the run ends the same
pub saved_the_same : SavedGraphWritesTheSame
saved_the_same limits files saved shape g s e room few at same =
    ap (ends_with (ending_with limits s)) (saved_accepted limits files saved shape g e room few at same)

-- ---- lines of a front

-- the bytes up to the last byte 10
abbrev ended : List ℕ → List ℕ
ended b = ended_text (all_but_last (parts b))

-- the lines of bytes with others behind them are the whole ones, and then those from the open end on
cut_behind : (b c : List ℕ)
    → (all_but_last (parts (b ++ c)) ≡ all_but_last (parts b) ++ all_but_last (parts (open_end b ++ c))) × (open_end (b ++ c) ≡ open_end (open_end b ++ c))
cut_behind b c =
    let ls : List (List ℕ) = all_but_last (parts b) in
    let once = unique ls [] (no_end b).0 refl in
    let none : open_end (ended b) ≡ [] = ap open_end (sym (append-nil (ended b))) ∙ once.1 in
    let kept : all_but_last (parts (ended b)) ≡ ls = ap (λ l. all_but_last (parts l)) (sym (append-nil (ended b))) ∙ once.0 in
    let split : b ++ c ≡ ended b ++ (open_end b ++ c) = ap (λ l. l ++ c) (sym (give_back b)) ∙ append_assoc (ended b) (open_end b) c in
    let cut = cut_in_parts (ended b) (open_end b ++ c) none in
    (ap (λ l. all_but_last (parts l)) split ∙ cut.0 ∙ ap (λ l. l ++ all_but_last (parts (open_end b ++ c))) kept, ap open_end split ∙ cut.1)

-- the whole lines of bytes in two parts
pub whole-front : (n : ℕ) (b c : List ℕ) → whole n (b ++ c) ≡ whole n b ++ whole n (open_end b ++ c)
whole-front n b c =
    ap (map (line_of n)) (cut_behind b c).0 ∙ map-append (line_of n) (all_but_last (parts b)) (all_but_last (parts (open_end b ++ c)))

-- all lines of bytes in two parts
pub lines-front : (n : ℕ) (b c : List ℕ) → lines n (b ++ c) ≡ whole n b ++ lines n (open_end b ++ c)
lines-front n b c =
    ap (λ ls. ls ++ last_line n (open_end (b ++ c))) (whole-front n b c)
    ∙ ap (λ end. (whole n b ++ whole n (open_end b ++ c)) ++ last_line n end) (cut_behind b c).1
    ∙ append_assoc (whole n b) (whole n (open_end b ++ c)) (last_line n (open_end (open_end b ++ c)))

-- ---- a refusal in a front

-- lines that are refused, with others behind them
pub refused_before : {S L : Type 0} (take_line : ℕ → S → L → Result S Bad) (start : S) (read : InputLine → L) (front later : List InputLine) (bad : Bad)
    → read_from take_line 1 start (map read front) ≡ Err bad → read_from take_line 1 start (map read (front ++ later)) ≡ Err bad
refused_before take_line start read front later bad e =
    ap (read_from take_line 1 start) (map-append read front later)
    ∙ read_from-append take_line 1 start (map read front) (map read later)
    ∙ ap (result_and_then (λ next. read_from take_line (length (map read front) + 1) next (map read later))) e

front_refuses : {S L : Type 0} (take_line : ℕ → S → L → Result S Bad) (start : S) (read : InputLine → L) (n k : ℕ) (bytes : List ℕ) (bad : Bad)
    → read_from take_line 1 start (map read (whole n (take k bytes))) ≡ Err bad → read_from take_line 1 start (map read (lines n bytes)) ≡ Err bad
front_refuses take_line start read n k bytes bad e =
    ap (λ b. read_from take_line 1 start (map read (lines n b))) (sym (take-append-drop k bytes))
    ∙ ap (λ ls. read_from take_line 1 start (map read ls)) (lines-front n (take k bytes) (drop k bytes))
    ∙ refused_before take_line start read (whole n (take k bytes)) (lines n (open_end (take k bytes) ++ drop k bytes)) bad e

-- a graph file that is refused in its front
pub graph_refused : FrontRefusesGraphFile
graph_refused limits bytes k bad e = front_refuses (graph_after_line limits) empty_graph graph_reading limits.line_bytes k bytes bad e

-- a pattern file that is refused in its front
pub patterns_refused : FrontRefusesPatternFile
patterns_refused limits bytes k bad e =
    ap (result_and_then close) (front_refuses (patterns_after_line limits) empty_draft pattern_reading limits.line_bytes k bytes bad e)

-- ---- a front of the report

-- the blocks of the first lines, and those of the lines behind them
abbrev later_blocks : Limits → Graph → List PatternGraph → (front later : List InputLine) → List ℕ
later_blocks limits g qs front later =
    let saids = map update_reading front in blocks limits qs (graph_after_all limits g saids) (map update_reading later) (length saids + 1)

blocks_front : (limits : Limits) (g : Graph) (qs : List PatternGraph) (front later : List InputLine)
    → blocks_of limits g qs (front ++ later) ≡ blocks_of limits g qs front ++ later_blocks limits g qs front later
blocks_front limits g qs front later =
    ap (λ saids. blocks limits qs g saids 1) (map-append update_reading front later)
    ∙ blocks-append limits qs g (map update_reading front) (map update_reading later) 1

-- the first bytes begin with a front that is not longer
take-front : (n : ℕ) (r rest : List ℕ) → length r ≤ n → take n (r ++ rest) ≡ r ++ take (n - length r) rest
take-front n r rest few = ap (λ k. take k (r ++ rest)) (omega arith) ∙ take-append-add r rest (n - length r)

-- what is written before is a front of the blocks up to the limit
front_of_first : (limits : Limits) (g : Graph) (qs : List PatternGraph) (r rest : List ℕ) → length r ≤ limits.input_bytes
    → IsFrontOf (written_before limits (Watched g qs) r) (blocks_of limits g qs (whole limits.line_bytes (take limits.input_bytes (r ++ rest))))
front_of_first limits g qs r rest few =
    let n : ℕ = limits.line_bytes in
    let more : List ℕ = take (limits.input_bytes - length r) rest in
    let later : List InputLine = whole n (open_end r ++ more) in
    let cut : whole n (take limits.input_bytes (r ++ rest)) ≡ whole n r ++ later = ap (whole n) (take-front limits.input_bytes r rest few) ∙ whole-front n r more in
    (later_blocks limits g qs (whole n r) later, ap (blocks_of limits g qs) cut ∙ blocks_front limits g qs (whole n r) later)

-- and of the text for all updates
front_of_all : (limits : Limits) (g : Graph) (qs : List PatternGraph) (r rest : List ℕ)
    → IsFrontOf (written_before limits (Watched g qs) r) (watch_text limits g qs (map update_reading (lines limits.line_bytes (r ++ rest))))
front_of_all limits g qs r rest =
    let n : ℕ = limits.line_bytes in
    let later : List InputLine = lines n (open_end r ++ rest) in
    let end : List ℕ = end_line_of (outcomes limits g (map update_reading (lines n (r ++ rest)))) in (
      later_blocks limits g qs (whole n r) later ++ end,
      ap (λ ls. blocks_of limits g qs ls ++ end) (lines-front n r rest)
          ∙ ap (λ l. l ++ end) (blocks_front limits g qs (whole n r) later)
          ∙ append_assoc (blocks_of limits g qs (whole n r)) (later_blocks limits g qs (whole n r) later) end,
    )

front_of_either : (test : Bool) (front : List ℕ) (x y : Ending) → IsFrontOf front x.text → IsFrontOf front y.text → IsFrontOf front (cond test x y).text
front_of_either true front x y a b = a
front_of_either false front x y a b = b

-- what is written before a read fails is a front
pub written : WrittenBeforeIsFront
written limits (Watched g qs) r s (rest, e) few =
    subst (λ all. IsFrontOf (written_before limits (Watched g qs) r) (ending_with limits all (Watched g qs)).text) (sym e)
    (front_of_either (nat_lt limits.input_bytes (length (r ++ rest))) _ _ _ (front_of_first limits g qs r rest few) (front_of_all limits g qs r rest))
written limits (Matched g qs) r s front few = ((ending_with limits s (Matched g qs)).text, refl)
written limits (Saved g) r s front few = ((ending_with limits s (Saved g)).text, refl)
written limits (Shown number) r s front few = ((ending_with limits s (Shown number)).text, refl)
