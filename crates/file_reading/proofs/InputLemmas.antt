-- Files that are read through what is kept of them.
use Rattle.std.proofs.Common.{◌≡◌, ℕ, suc, List, [], ◌∷◌, map, take, false, Option, None, Some, Result, Ok, Err, IsOk, IfSome, refl, sym, ap, ◌∙◌}
use Rattle.std.specs.Result.{result_map_both, is_ok}
use Rattle.flux_outside.specs.Told.{Files}
use Rattle.flux_model.specs.Lines.{InputLine, whole, lines}
use Rattle.flux_model.specs.FileReading.{result_and_then, read_from}
use Rattle.flux_model.specs.Graph.{Graph, LimitedGraph, empty_graph}
use Rattle.flux_model.specs.GraphFile.{graph_after_line, graph_of, read_graph}
use Rattle.flux_model.specs.Pattern.{PatternGraph}
use Rattle.flux_model.specs.PatternFile.{Draft, empty_draft, patterns_after_line, read_patterns, close, patterns_of}
use Rattle.flux_model.specs.Reading.{graph_reading, pattern_reading}
use Rattle.flux_model.specs.Verdict.{Verdict, BadGraph, BadPatterns, file_as, graph_file, pattern_file}
use Rattle.flux_model.specs.declared.code.Bad.{Bad}
use Rattle.flux_model.specs.declared.limits.Limits.{Limits}
use Rattle.pattern_check.specs.Reading.{PatternReading}
use Rattle.file_reading.specs.AskedOfFile.{NoLineRefused, graph_front, pattern_front}
use Rattle.file_reading.specs.FileContents.{FileIs}
use Rattle.file_reading.specs.AfterLine.{after_graph_line, after_pattern_line}
use Rattle.file_reading.specs.ReadingStops.{read_as, StopWhere}
use Rattle.file_reading.specs.declared.stop.Stop.{Stop}
use Rattle.file_reading.specs.declared.stop.Stop.TheVariants as stop
use Rattle.file_reading.proofs.JudgedLemmas.{file_as-next}

module _ {S T K L : Type 0} (step : ℕ → S → K → Result S Bad) (read : L → K) (wrap : S → T) where
  -- a line is read, taken, and what comes of it is wrapped up
  abbrev wrapped : ℕ → S → L → Result T Bad
  wrapped k s line = result_and_then (λ next. Ok (wrap next)) (step k s (read line))

  -- so are all lines
  pub read_from-wrapped : (outer : ℕ → T → L → Result T Bad) → ((k : ℕ) (s : S) (line : L) → outer k (wrap s) line ≡ wrapped k s line)
      → (k : ℕ) (s : S) (ls : List L) → read_from outer k (wrap s) ls ≡ result_and_then (λ next. Ok (wrap next)) (read_from step k s (map read ls))
  read_from-wrapped outer same k s [] = refl
  read_from-wrapped outer same k s (line ∷ ls) =
      ap (result_and_then (λ next. read_from outer (suc k) next ls)) (same k s line) ∙ by (step k s (read line)) (λ next. read_from-wrapped outer same (suc k) next ls)
    where
      by : (r : Result S Bad) → ((next : S) → read_from outer (suc k) (wrap next) ls ≡ result_and_then (λ last. Ok (wrap last)) (read_from step (suc k) next (map read ls)))
          → result_and_then (λ next. read_from outer (suc k) next ls) (result_and_then (λ next. Ok (wrap next)) r)
          ≡ result_and_then (λ next. Ok (wrap next)) (result_and_then (λ next. read_from step (suc k) next (map read ls)) r)
      by (Ok next) later = later next
      by (Err bad) later = refl

module _ {S T E : Type 0} (wrap : S → T) where
  -- what was wrapped up
  pub unwrapped : (r : Result S E) (t : T) → result_and_then (λ s. Ok (wrap s)) r ≡ Ok t → (s : S) × (r ≡ Ok s) × (wrap s ≡ t)
  unwrapped (Ok s) t e = (s, refl, cc)
  unwrapped (Err bad) t e = cc

  -- what was refused before it was wrapped up
  pub refused_within : (r : Result S E) (e : E) → result_and_then (λ s. Ok (wrap s)) r ≡ Err e → r ≡ Err e
  refused_within (Ok s) e is = cc
  refused_within (Err b) e is = cc

  -- wrapping up refuses nothing
  pub accepted_within : (r : Result S E) → is_ok (result_and_then (λ s. Ok (wrap s)) r) ≡ is_ok r
  accepted_within (Ok s) = refl
  accepted_within (Err b) = refl

-- one judgement of a file follows from another
pub FileIs-map : {X Y : Type 0} (files : Option Files) (name : List ℕ) (f : Option (List ℕ) → X) (g : Option (List ℕ) → Y) (x : X) (y : Y)
    → ((o : Option (List ℕ)) → f o ≡ x → g o ≡ y) → FileIs files name f x → FileIs files name g y
FileIs-map None name f g x y so h = tt
FileIs-map (Some m) name f g x y so h = so (m name) h

-- ---- graph files

-- a graph under its limits
abbrev pub kept_under : Limits → Graph → LimitedGraph
kept_under limits g = record { limits = limits; graph = g }

graph-read : (limits : Limits) (ls : List InputLine) → read_from after_graph_line 1 (kept_under limits empty_graph) ls
    ≡ result_and_then (λ g. Ok (kept_under limits g)) (read_graph limits (map graph_reading ls))
graph-read limits ls = read_from-wrapped (graph_after_line limits) graph_reading (kept_under limits) after_graph_line (λ k s line. refl) 1 empty_graph ls

graph-as : (limits : Limits) (o : Option (List ℕ)) → read_as after_graph_line limits (kept_under limits empty_graph) BadGraph o ≡ result_and_then (λ g. Ok (kept_under limits g)) (graph_file limits o)
graph-as limits o =
    file_as-next limits.input_bytes (λ b. read_graph limits (map graph_reading (whole limits.line_bytes b))) (graph_of limits) BadGraph
    (λ b. read_from after_graph_line 1 (kept_under limits empty_graph) (whole limits.line_bytes b)) (λ b. read_from after_graph_line 1 (kept_under limits empty_graph) (lines limits.line_bytes b))
    (λ g. Ok (kept_under limits g))
    (λ b. ap is_ok (graph-read limits (whole limits.line_bytes b)) ∙ accepted_within (kept_under limits) (read_graph limits (map graph_reading (whole limits.line_bytes b))))
    (λ b. graph-read limits (lines limits.line_bytes b)) o

-- of what was empty at first
graph-from : (limits : Limits) (first : LimitedGraph) (o : Option (List ℕ)) → first ≡ kept_under limits empty_graph
    → read_as after_graph_line limits first BadGraph o ≡ result_and_then (λ g. Ok (kept_under limits g)) (graph_file limits o)
graph-from limits first o is = ap (λ s. read_as after_graph_line limits s BadGraph o) is ∙ graph-as limits o

-- the graph file is accepted
pub graph-accepted : (limits : Limits) (files : Option Files) (name : List ℕ) (first now : LimitedGraph) → first ≡ kept_under limits empty_graph
    → FileIs files name (read_as after_graph_line limits first BadGraph) (Ok now) → FileIs files name (graph_file limits) (Ok now.graph)
graph-accepted limits files name first now is h =
    FileIs-map files name (read_as after_graph_line limits first BadGraph) (graph_file limits) (Ok now) (Ok now.graph)
    (λ o e.
    let u = unwrapped (kept_under limits) (graph_file limits o) now (sym (graph-from limits first o is) ∙ e) in
    u.1 ∙ ap (λ (l : LimitedGraph). Ok l.graph) u.2) h

graph-refused : (limits : Limits) (files : Option Files) (name : List ℕ) (first : LimitedGraph) (v : Verdict) → first ≡ kept_under limits empty_graph
    → FileIs files name (read_as after_graph_line limits first BadGraph) (Err v) → FileIs files name (graph_file limits) (Err v)
graph-refused limits files name first v is h =
    FileIs-map files name (read_as after_graph_line limits first BadGraph) (graph_file limits) (Err v) (Err v)
    (λ o e. refused_within (kept_under limits) (graph_file limits o) v (sym (graph-from limits first o is) ∙ e)) h

-- the limits stay
pub graph-limits : (limits : Limits) (first now : LimitedGraph) (ls : List InputLine) → first ≡ kept_under limits empty_graph
    → read_from after_graph_line 1 first ls ≡ Ok now → now.limits ≡ limits
graph-limits limits first now ls is e =
    let u = unwrapped (kept_under limits) (read_graph limits (map graph_reading ls)) now (sym (graph-read limits ls) ∙ ap (λ s. read_from after_graph_line 1 s ls) (sym is) ∙ e) in
    sym (ap (λ (l : LimitedGraph). l.limits) u.2)

-- why the reading of a graph file stops
pub graph-stops : (limits : Limits) (files : Option Files) (name : List ℕ) (first : LimitedGraph) (reads : Type 0) (s : Stop) → first ≡ kept_under limits empty_graph
    → ((bad : Bad → Verdict) → StopWhere (λ v. FileIs files name (read_as after_graph_line limits first bad) (Err v)) bad reads s)
    → StopWhere (λ v. FileIs files name (graph_file limits) (Err v)) BadGraph reads s
graph-stops limits files name first reads stop.Memory is h = tt
graph-stops limits files name first reads stop.Read is h = h BadGraph
graph-stops limits files name first reads stop.NoFile is h = graph-refused limits files name first _ is (h BadGraph)
graph-stops limits files name first reads stop.TooMuch is h = graph-refused limits files name first _ is (h BadGraph)
graph-stops limits files name first reads (stop.Bad bad) is h = graph-refused limits files name first _ is (h BadGraph)

-- what an empty store keeps
pub empty_under : (limits : Limits) (kept : LimitedGraph) → kept.limits ≡ limits → kept.graph ≡ empty_graph → kept ≡ kept_under limits empty_graph
empty_under limits kept under empty = ap (λ (l : Limits). record kept { limits = l }) under ∙ ap (kept_under limits) empty

-- none of its first whole lines is refused
IsOk-same : {S T E : Type 0} (r : Result S E) (t : Result T E) → is_ok t ≡ is_ok r → IsOk t → IsOk r
IsOk-same (Ok x) (Ok y) same so = refl
IsOk-same (Ok x) (Err e) same so = refl
IsOk-same (Err e) (Ok y) same so = cc
IsOk-same (Err e) (Err f) same so = cc

NoLineRefused-map : {S T : Type 0} (files : Option Files) (name : List ℕ) (f : List ℕ → Result S Bad) (g : List ℕ → Result T Bad) (n : ℕ)
    → ((b : List ℕ) → is_ok (f b) ≡ is_ok (g b)) → NoLineRefused files name f n → NoLineRefused files name g n
NoLineRefused-map None name f g n same so = tt
NoLineRefused-map (Some m) name f g n same so = by (m name) so
  where
    by : (o : Option (List ℕ)) → IfSome o (λ b. IsOk (f (take n b))) → IfSome o (λ b. IsOk (g (take n b)))
    by None so = tt
    by (Some b) so = IsOk-same (g (take n b)) (f (take n b)) (same (take n b)) so

pub graph-unrefused : (limits : Limits) (files : Option Files) (name : List ℕ) (first : LimitedGraph) (n : ℕ)
    → first ≡ kept_under limits empty_graph
    → NoLineRefused files name (λ b. read_from after_graph_line 1 first (whole limits.line_bytes b)) n
    → NoLineRefused files name (graph_front limits) n
graph-unrefused limits files name first n is so =
    NoLineRefused-map files name (λ b. read_from after_graph_line 1 first (whole limits.line_bytes b)) (graph_front limits) n
    (λ b. ap (λ s. is_ok (read_from after_graph_line 1 s (whole limits.line_bytes b))) is
    ∙ ap is_ok (graph-read limits (whole limits.line_bytes b)) ∙ accepted_within (kept_under limits) (graph_front limits b)) so

-- ---- pattern files

abbrev reading_under : Limits → Draft → PatternReading
reading_under limits draft = record { limits = limits; draft = draft; spent = false }

drafted-read : (limits : Limits) (ls : List InputLine) → read_from after_pattern_line 1 (reading_under limits empty_draft) ls
    ≡ result_and_then (λ d. Ok (reading_under limits d)) (read_patterns limits (map pattern_reading ls))
drafted-read limits ls = read_from-wrapped (patterns_after_line limits) pattern_reading (reading_under limits) after_pattern_line (λ k s line. refl) 1 empty_draft ls

-- the patterns of the file, with the last one still open
abbrev draft_file : Limits → Option (List ℕ) → Result Draft Verdict
draft_file limits o =
    file_as limits.input_bytes (λ b. read_patterns limits (map pattern_reading (whole limits.line_bytes b))) (λ b. read_patterns limits (map pattern_reading (lines limits.line_bytes b))) BadPatterns o

draft-as : (limits : Limits) (first : PatternReading) (o : Option (List ℕ)) → first ≡ reading_under limits empty_draft
    → read_as after_pattern_line limits first BadPatterns o ≡ result_and_then (λ d. Ok (reading_under limits d)) (draft_file limits o)
draft-as limits first o is =
    ap (λ s. read_as after_pattern_line limits s BadPatterns o) is
    ∙ file_as-next limits.input_bytes (λ b. read_patterns limits (map pattern_reading (whole limits.line_bytes b))) (λ b. read_patterns limits (map pattern_reading (lines limits.line_bytes b))) BadPatterns
    (λ b. read_from after_pattern_line 1 (reading_under limits empty_draft) (whole limits.line_bytes b)) (λ b. read_from after_pattern_line 1 (reading_under limits empty_draft) (lines limits.line_bytes b))
    (λ d. Ok (reading_under limits d))
    (λ b. ap is_ok (drafted-read limits (whole limits.line_bytes b)) ∙ accepted_within (reading_under limits) (read_patterns limits (map pattern_reading (whole limits.line_bytes b))))
    (λ b. drafted-read limits (lines limits.line_bytes b)) o

pattern-as : (limits : Limits) (o : Option (List ℕ)) → pattern_file limits o ≡ result_and_then (λ d. result_map_both (λ y. y) BadPatterns (close d)) (draft_file limits o)
pattern-as limits o =
    file_as-next limits.input_bytes (λ b. read_patterns limits (map pattern_reading (whole limits.line_bytes b))) (λ b. read_patterns limits (map pattern_reading (lines limits.line_bytes b))) BadPatterns
    (λ b. read_patterns limits (map pattern_reading (whole limits.line_bytes b))) (patterns_of limits) close (λ b. refl) (λ b. refl) o

-- what closing the last pattern comes to is what the file does
pub patterns-closed : (limits : Limits) (files : Option Files) (name : List ℕ) (first now : PatternReading) (r : Result (List PatternGraph) Bad) → first ≡ reading_under limits empty_draft
    → FileIs files name (read_as after_pattern_line limits first BadPatterns) (Ok now) → r ≡ close now.draft
    → FileIs files name (pattern_file limits) (result_map_both (λ y. y) BadPatterns r)
patterns-closed limits files name first now r is h closed =
    FileIs-map files name (read_as after_pattern_line limits first BadPatterns) (pattern_file limits) (Ok now) (result_map_both (λ y. y) BadPatterns r)
    (λ o e.
    let u = unwrapped (reading_under limits) (draft_file limits o) now (sym (draft-as limits first o is) ∙ e) in
    pattern-as limits o ∙ ap (result_and_then (λ d. result_map_both (λ y. y) BadPatterns (close d))) u.1
    ∙ ap (λ (p : PatternReading). result_map_both (λ y. y) BadPatterns (close p.draft)) u.2 ∙ ap (result_map_both (λ y. y) BadPatterns) (sym closed)) h

patterns-refused : (limits : Limits) (files : Option Files) (name : List ℕ) (first : PatternReading) (v : Verdict) → first ≡ reading_under limits empty_draft
    → FileIs files name (read_as after_pattern_line limits first BadPatterns) (Err v) → FileIs files name (pattern_file limits) (Err v)
patterns-refused limits files name first v is h =
    FileIs-map files name (read_as after_pattern_line limits first BadPatterns) (pattern_file limits) (Err v) (Err v)
    (λ o e.
    pattern-as limits o
    ∙ ap (result_and_then (λ d. result_map_both (λ y. y) BadPatterns (close d))) (refused_within (reading_under limits) (draft_file limits o) v (sym (draft-as limits first o is) ∙ e))) h

-- why the reading of a pattern file stops
pub patterns-stops : (limits : Limits) (files : Option Files) (name : List ℕ) (first : PatternReading) (reads : Type 0) (s : Stop) → first ≡ reading_under limits empty_draft
    → ((bad : Bad → Verdict) → StopWhere (λ v. FileIs files name (read_as after_pattern_line limits first bad) (Err v)) bad reads s)
    → StopWhere (λ v. FileIs files name (pattern_file limits) (Err v)) BadPatterns reads s
patterns-stops limits files name first reads stop.Memory is h = tt
patterns-stops limits files name first reads stop.Read is h = h BadPatterns
patterns-stops limits files name first reads stop.NoFile is h = patterns-refused limits files name first _ is (h BadPatterns)
patterns-stops limits files name first reads stop.TooMuch is h = patterns-refused limits files name first _ is (h BadPatterns)
patterns-stops limits files name first reads (stop.Bad bad) is h = patterns-refused limits files name first _ is (h BadPatterns)

pub patterns-unrefused : (limits : Limits) (files : Option Files) (name : List ℕ) (first : PatternReading) (n : ℕ)
    → first ≡ reading_under limits empty_draft
    → NoLineRefused files name (λ b. read_from after_pattern_line 1 first (whole limits.line_bytes b)) n
    → NoLineRefused files name (pattern_front limits) n
patterns-unrefused limits files name first n is so =
    NoLineRefused-map files name (λ b. read_from after_pattern_line 1 first (whole limits.line_bytes b)) (pattern_front limits) n
    (λ b. ap (λ s. is_ok (read_from after_pattern_line 1 s (whole limits.line_bytes b))) is
    ∙ ap is_ok (drafted-read limits (whole limits.line_bytes b)) ∙ accepted_within (reading_under limits) (pattern_front limits b)) so
