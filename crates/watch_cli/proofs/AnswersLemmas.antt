-- What was put of the answers, and what waits in the report.
use Rattle.std.proofs.Common.{◌≡◌, ℕ, ◌+◌, ◌≤◌, List, [], ◌∷◌, ◌++◌, length, take, drop, Option, Some, refl, sym, ap, ◌∙◌, subst, append_assoc, append-nil, arith, IsTrue}
use Rattle.std.specs.List.{flat_map, slice_get}
use Rattle.std.specs.Prelude.{IsPermutation, IsSorted}
use Rattle.std.specs.Ordering.{nat_cmp}
use Rattle.std.specs.Cmp.Lexicographic.{slice_cmp}
use Rattle.std.proofs.KnownBytes.{Appends-nil, Appends-trans}
use Rattle.std.proofs.lemmas.List.{length-append, take-append-drop, take_all}
use Rattle.std.proofs.lemmas.List.Concat.{flat_map-append}
use Rattle.std.proofs.lemmas.List.Sorted.{IsPermutation-sym}
use Rattle.std.proofs.lemmas.Option.{same_Some}
use Rattle.flux_outside.specs.Told.{AppendsFront}
use Rattle.flux_model.specs.Embedding.{embeddings}
use Rattle.flux_model.specs.Graph.{Graph, vertex_cmp}
use Rattle.flux_model.specs.Ordered.{is_ascending}
use Rattle.flux_model.specs.Pattern.{PatternGraph}
use Rattle.flux_model.specs.Report.{answer_lines, match_text}
use Rattle.flux_model.proofs.GrownLemmas.{flat_map_next}
use Rattle.flux_model.proofs.PlaceLemmas.{take_next}
use Rattle.delta_report.specs.Answers.{answer_line, total_line}
use Rattle.delta_report.proofs.EmbeddingsLemmas.{embeddings-sorted}
use Rattle.delta_report.proofs.SortedLemmas.{sorted_maps_unique}
use Rattle.watch_cli.specs.ReportProgress.{Wrote}
use Rattle.watch_cli.proofs.ReportLemmas.{AppendsFront-longer, AppendsFront-after}

-- ---- a text, and then one more

-- nothing was written
pub Wrote-none : (put : Option (List ℕ)) (report : List ℕ) → Wrote put put report report []
Wrote-none put report = record { part = []; put = Appends-nil put; whole = sym (append-nil report) }

whole_then : (part r0 r1 done text : List ℕ) → part ++ r1 ≡ r0 ++ done → part ++ (r1 ++ text) ≡ r0 ++ (done ++ text)
whole_then part r0 r1 done text e = sym (append_assoc part r1 text) ∙ ap (λ t. t ++ text) e ∙ append_assoc r0 done text

-- both were written
pub Wrote-then : (p0 p1 p2 : Option (List ℕ)) (r0 r1 r2 done text : List ℕ) → Wrote p0 p1 r0 r1 done → Wrote p1 p2 r1 r2 text → Wrote p0 p2 r0 r2 (done ++ text)
Wrote-then p0 p1 p2 r0 r1 r2 done text first next = record {
  part = first.part ++ next.part;
  put = Appends-trans p0 p1 p2 first.part next.part first.put next.put;
  whole = append_assoc first.part next.part r2 ∙ ap (λ t. first.part ++ t) next.whole ∙ whole_then first.part r0 r1 done text first.whole;
}

-- a front part of what waited and of the second was put
pub Wrote-short : (p0 p1 p2 : Option (List ℕ)) (r0 r1 done text : List ℕ) → Wrote p0 p1 r0 r1 done → AppendsFront p1 p2 (r1 ++ text) → AppendsFront p0 p2 (r0 ++ (done ++ text))
Wrote-short p0 p1 p2 r0 r1 done text first front =
    subst (AppendsFront p0 p2) (whole_then first.part r0 r1 done text first.whole) (AppendsFront-after p0 p1 p2 first.part (r1 ++ text) first.put front)

-- ---- a text for each element of a list

module _ {X : Type 0} (F : X → List ℕ) (xs : List X) (i : ℕ) where
  -- that of one element more
  pub Wrote-next : (x : X) (p0 p1 p2 : Option (List ℕ)) (r0 r1 r2 : List ℕ) → slice_get xs i ≡ Some x → Wrote p0 p1 r0 r1 (flat_map F (take i xs)) → Wrote p1 p2 r1 r2 (F x)
      → Wrote p0 p2 r0 r2 (flat_map F (take (i + 1) xs))
  Wrote-next x p0 p1 p2 r0 r1 r2 here before now =
      subst (Wrote p0 p2 r0 r2) (flat_map_next F [] (flat_map F (take i xs)) (flat_map F (take i xs) ++ F x) xs i x here refl refl)
      (Wrote-then p0 p1 p2 r0 r1 r2 (flat_map F (take i xs)) (F x) before now)

  -- those of all, the element's and those behind it
  all_texts : (x : X) → slice_get xs i ≡ Some x → (flat_map F (take i xs) ++ F x) ++ flat_map F (drop (i + 1) xs) ≡ flat_map F xs
  all_texts x here =
      ap (λ t. t ++ flat_map F (drop (i + 1) xs)) (flat_map_next F [] (flat_map F (take i xs)) (flat_map F (take i xs) ++ F x) xs i x here refl refl)
      ∙ sym (flat_map-append F (take (i + 1) xs) (drop (i + 1) xs)) ∙ ap (flat_map F) (take-append-drop (i + 1) xs)

  -- it stopped in that of an element
  pub Wrote-stops : (x : X) (p0 p1 p2 : Option (List ℕ)) (r0 r1 : List ℕ) → slice_get xs i ≡ Some x → Wrote p0 p1 r0 r1 (flat_map F (take i xs)) → AppendsFront p1 p2 (r1 ++ F x)
      → AppendsFront p0 p2 (r0 ++ flat_map F xs)
  Wrote-stops x p0 p1 p2 r0 r1 here before front =
      let done : List ℕ = flat_map F (take i xs) ++ F x in
      subst (AppendsFront p0 p2) (append_assoc r0 done (flat_map F (drop (i + 1) xs)) ∙ ap (λ t. r0 ++ t) (all_texts x here))
      (AppendsFront-longer p0 p2 (r0 ++ done) (flat_map F (drop (i + 1) xs)) (Wrote-short p0 p1 p2 r0 r1 (flat_map F (take i xs)) (F x) before front))

  -- it is at the end of the list
  pub Wrote-each : (p0 p1 : Option (List ℕ)) (r0 r1 : List ℕ) → length xs ≤ i → Wrote p0 p1 r0 r1 (flat_map F (take i xs)) → Wrote p0 p1 r0 r1 (flat_map F xs)
  Wrote-each p0 p1 r0 r1 end wrote = subst (λ ys. Wrote p0 p1 r0 r1 (flat_map F ys)) (take_all i xs end) wrote

-- ---- the answers of a pattern

-- those that were found, once they are in order
pub in_order : (q : PatternGraph) (g : Graph) (found sorted : List (List ℕ)) → IsTrue (is_ascending vertex_cmp g.vertices) → IsPermutation (embeddings q g) found → IsPermutation found sorted
    → IsSorted (slice_cmp nat_cmp) sorted → sorted ≡ embeddings q g
in_order q g found sorted ascending are same order =
    sorted_maps_unique found sorted (embeddings q g) same (IsPermutation-sym (embeddings q g) found are) order (embeddings-sorted q g ascending)

-- their lines, under the name that was looked up
pub lines_named : (patterns : List PatternGraph) (k : ℕ) (g : Graph) (p q : PatternGraph) (name : List ℕ) (maps : List (List ℕ)) → slice_get patterns k ≡ Some p → slice_get patterns k ≡ Some q → name ≡ p.name
    → maps ≡ embeddings q g → flat_map (answer_line name) maps ≡ answer_lines g q
lines_named patterns k g p q name maps here is named are =
    let same : name ≡ q.name = named ∙ ap (λ (r : PatternGraph). r.name) (same_Some p q (sym here ∙ is)) in
    λ i. flat_map (answer_line (same i)) (are i)

-- ---- all patterns

-- how many embeddings one pattern more makes
pub count_next : (g : Graph) (patterns : List PatternGraph) (k : ℕ) (q : PatternGraph) (total more : ℕ) → slice_get patterns k ≡ Some q → total ≡ length (flat_map (λ p. embeddings p g) (take k patterns))
    → more ≡ length (embeddings q g) → total + more ≡ length (flat_map (λ p. embeddings p g) (take (k + 1) patterns))
count_next g patterns k q total more here before now =
    let next : flat_map (λ p. embeddings p g) (take (k + 1) patterns) ≡ flat_map (λ p. embeddings p g) (take k patterns) ++ embeddings q g =
    ap (flat_map (λ p. embeddings p g)) (take_next patterns k q here) ∙ flat_map-append (λ p. embeddings p g) (take k patterns) (q ∷ [])
    ∙ ap (λ t. flat_map (λ p. embeddings p g) (take k patterns) ++ t) (append-nil (embeddings q g)) in
    omega (arith, before, now, ap length next, length-append (flat_map (λ p. embeddings p g) (take k patterns)) (embeddings q g))

-- the lines of all patterns with the last line behind them
pub text_whole : (g : Graph) (patterns : List PatternGraph) (k total : ℕ) → length patterns ≤ k → total ≡ length (flat_map (λ p. embeddings p g) (take k patterns))
    → flat_map (answer_lines g) (take k patterns) ++ total_line total ≡ match_text g patterns
text_whole g patterns k total end count =
    let all : take k patterns ≡ patterns = take_all k patterns end in
    ap (λ n. flat_map (answer_lines g) (take k patterns) ++ total_line n) count
    ∙ ap (λ ps. flat_map (answer_lines g) ps ++ total_line (length (flat_map (λ p. embeddings p g) ps))) all

-- it stopped in the lines of a pattern
pub text_stops : (g : Graph) (patterns : List PatternGraph) (k : ℕ) (q : PatternGraph) (p0 p1 p2 : Option (List ℕ)) (report : List ℕ) → slice_get patterns k ≡ Some q
    → Wrote p0 p1 [] report (flat_map (answer_lines g) (take k patterns)) → AppendsFront p1 p2 (report ++ answer_lines g q) → AppendsFront p0 p2 (match_text g patterns)
text_stops g patterns k q p0 p1 p2 report here before front =
    AppendsFront-longer p0 p2 (flat_map (answer_lines g) patterns) (total_line (length (flat_map (λ p. embeddings p g) patterns)))
    (Wrote-stops (answer_lines g) patterns k q p0 p1 p2 [] report here before front)
