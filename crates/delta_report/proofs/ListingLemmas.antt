-- What callers need: what `match` writes is the text of its deltas, in whatever order the maps of each were found.
use Rattle.std.proofs.Common.{◌≡◌, ℕ, suc, ◌+◌, ◌<◌, List, [], ◌∷◌, ◌++◌, length, refl, sym, ap, ◌∙◌, append_assoc, arith, IsTrue}
use Rattle.std.specs.List.{AllByRecursion, flat_map}
use Rattle.std.proofs.lemmas.List.{length-append}
use Rattle.std.proofs.lemmas.List.Elements.{All-from_recursion}
use Rattle.std.proofs.lemmas.List.Sorted.{IsPermutation-sym}
use Rattle.std.proofs.lemmas.List.Sums.{sum_by-cons}
use borrow.Author.Tests.{lt-ltb}
use Rattle.flux_model.specs.Ordered.{is_ascending}
use Rattle.flux_model.specs.Graph.{Graph, vertex_cmp}
use Rattle.flux_model.specs.Pattern.{PatternGraph}
use Rattle.flux_model.specs.Embedding.{embeddings}
use Rattle.flux_model.specs.Report.{answer_lines, match_text}
use Rattle.flux_model.specs.Grown.{GrewByFront}
use Rattle.flux_model.specs.Deltas.{IsReordered, IsInOrder, AreReordered, with_delta, answer_deltas}
use Rattle.flux_model.specs.declared.maps.Delta.{Delta}
use Rattle.flux_model.proofs.GrownLemmas.{grew_same}
use Rattle.delta_report.specs.Block.{HavePatterns, name_at}
use Rattle.delta_report.specs.Answers.{gained_lines, listing, answer_count, total_line, answers_text}
use Rattle.delta_report.specs.Sorted.{AreSorted}
use Rattle.delta_report.proofs.EmbeddingsLemmas.{embeddings-sorted}
use Rattle.delta_report.proofs.CallerLemmas.{name_here, with_delta-all}

-- ---- the text

-- a delta that gained nothing has no line
listing-with_delta : (patterns : List PatternGraph) (i : ℕ) (maps : List (List ℕ)) (ds : List Delta) →
    let d : Delta = record { pattern = i; gained = maps; lost = [] } in
    listing patterns (with_delta d ds) ≡ gained_lines (name_at patterns i) d ++ listing patterns ds
listing-with_delta patterns i [] ds = refl
listing-with_delta patterns i (m ∷ ms) ds = rw (lt-ltb 0 (length ((m ∷ ms) ++ [])) (omega arith)) refl

-- and counts for nothing
count-with_delta : (i : ℕ) (maps : List (List ℕ)) (ds : List Delta) → answer_count (with_delta (record { pattern = i; gained = maps; lost = [] }) ds) ≡ length maps + answer_count ds
count-with_delta i [] ds = omega arith
count-with_delta i (m ∷ ms) ds =
    let d : Delta = record { pattern = i; gained = m ∷ ms; lost = [] } in
    rw (lt-ltb 0 (length ((m ∷ ms) ++ [])) (omega arith)) (sum_by-cons (λ (e : Delta). length e.gained) d ds)

lines_from : (g : Graph) (patterns front qs : List PatternGraph) (i : ℕ) → patterns ≡ front ++ qs → i ≡ length front → listing patterns (answer_deltas i g qs) ≡ flat_map (answer_lines g) qs
lines_from g patterns front [] i e n = refl
lines_from g patterns front (q ∷ qs) i e n =
    let name : name_at patterns i ≡ q.name = rw (e, n) (name_here front q qs) in
    let rest : listing patterns (answer_deltas (suc i) g qs) ≡ flat_map (answer_lines g) qs =
    lines_from g patterns (front ++ q ∷ []) qs (suc i) (e ∙ sym (append_assoc front (q ∷ []) qs)) (omega (arith, length-append front (q ∷ []))) in
    listing-with_delta patterns i (embeddings q g) (answer_deltas (suc i) g qs)
    ∙ ap (λ w. gained_lines w (record { pattern = i; gained = embeddings q g; lost = [] }) ++ listing patterns (answer_deltas (suc i) g qs)) name
    ∙ ap (λ t. answer_lines g q ++ t) rest

count_from : (g : Graph) (qs : List PatternGraph) (i : ℕ) → answer_count (answer_deltas i g qs) ≡ length (flat_map (λ q. embeddings q g) qs)
count_from g [] i = refl
count_from g (q ∷ qs) i =
    count-with_delta i (embeddings q g) (answer_deltas (suc i) g qs)
    ∙ ap (λ n. length (embeddings q g) + n) (count_from g qs (suc i))
    ∙ sym (length-append (embeddings q g) (flat_map (λ q. embeddings q g) qs))

-- what `match` writes
pub answers_text-answer_deltas : (g : Graph) (patterns : List PatternGraph) → answers_text patterns (answer_deltas 0 g patterns) ≡ match_text g patterns
answers_text-answer_deltas g patterns =
    ap (λ t. t ++ total_line (answer_count (answer_deltas 0 g patterns))) (lines_from g patterns [] patterns 0 refl refl)
    ∙ ap (λ n. flat_map (answer_lines g) patterns ++ total_line n) (count_from g patterns 0)

-- ---- the patterns

abbrev IsPatternBelow : ℕ → Delta → Type 0
IsPatternBelow n d = d.pattern < n

below_all : (n : ℕ) (g : Graph) (qs : List PatternGraph) (i : ℕ) → i + length qs ≡ n → AllByRecursion (IsPatternBelow n) (answer_deltas i g qs)
below_all n g [] i e = tt
below_all n g (q ∷ qs) i e =
    with_delta-all (IsPatternBelow n) (record { pattern = i; gained = embeddings q g; lost = [] }) (answer_deltas (suc i) g qs) (omega arith) (below_all n g qs (suc i) (omega arith))

-- a new order of the maps leaves the patterns
below_reordered : (n : ℕ) (ds es : List Delta) → AreReordered ds es → AllByRecursion (IsPatternBelow n) ds → AllByRecursion (IsPatternBelow n) es
below_reordered n [] [] r a = tt
below_reordered n [] (e ∷ es) r a = absurd r
below_reordered n (d ∷ ds) [] r a = absurd r
below_reordered n (d ∷ ds) (e ∷ es) r a = (rw r.0.pattern a.0, below_reordered n ds es r.1 a.1)

-- what `write_answers` requires
pub answer_deltas-have_patterns : (g : Graph) (patterns : List PatternGraph) (ds : List Delta) → AreReordered (answer_deltas 0 g patterns) ds → HavePatterns (length patterns) ds
answer_deltas-have_patterns g patterns ds r =
    All-from_recursion (IsPatternBelow (length patterns)) ds
    (below_reordered (length patterns) (answer_deltas 0 g patterns) ds r (below_all (length patterns) g patterns 0 (omega arith)))

-- ---- the order

in_order_all : (i : ℕ) (g : Graph) (qs : List PatternGraph) → IsTrue (is_ascending vertex_cmp g.vertices) → AllByRecursion IsInOrder (answer_deltas i g qs)
in_order_all i g [] a = tt
in_order_all i g (q ∷ qs) a =
    with_delta-all IsInOrder (record { pattern = i; gained = embeddings q g; lost = [] }) (answer_deltas (suc i) g qs)
    (record { gained = embeddings-sorted q g a; lost = λ k d low high. absurd (omega arith) })
    (in_order_all (suc i) g qs a)

reversed : (d e : Delta) → IsReordered d e → IsReordered e d
reversed d e r = record {
  pattern = sym r.pattern;
  gained = IsPermutation-sym d.gained e.gained r.gained;
  lost = IsPermutation-sym d.lost e.lost r.lost;
}

-- deltas in order are the sorted form of each of their reorderings
pub AreSorted-from_reordered : (ds es : List Delta) → AllByRecursion IsInOrder ds → AreReordered ds es → AreSorted es ds
AreSorted-from_reordered [] [] a r = tt
AreSorted-from_reordered [] (e ∷ es) a r = absurd r
AreSorted-from_reordered (d ∷ ds) [] a r = absurd r
AreSorted-from_reordered (d ∷ ds) (e ∷ es) a r = (record { same = reversed d e r.0; order = a.0 }, AreSorted-from_reordered ds es a.1 r.1)

-- the deltas of a listing are the sorted form of each of their reorderings
pub answer_deltas-sorted : (g : Graph) (patterns : List PatternGraph) (ds : List Delta) → IsTrue (is_ascending vertex_cmp g.vertices) → AreReordered (answer_deltas 0 g patterns) ds → AreSorted ds (answer_deltas 0 g patterns)
answer_deltas-sorted g patterns ds a r = AreSorted-from_reordered (answer_deltas 0 g patterns) ds (in_order_all 0 g patterns a) r

-- ---- after the call

-- from `write_answers.ok`
pub match_text-written : (g : Graph) (patterns : List PatternGraph) (ds : List Delta) (old new : List ℕ) → IsTrue (is_ascending vertex_cmp g.vertices) → AreReordered (answer_deltas 0 g patterns) ds → ((sorted : List Delta) → AreSorted ds sorted → new ≡ old ++ answers_text patterns sorted) → new ≡ old ++ match_text g patterns
match_text-written g patterns ds old new a r written =
    written (answer_deltas 0 g patterns) (answer_deltas-sorted g patterns ds a r) ∙ ap (λ t. old ++ t) (answers_text-answer_deltas g patterns)

-- from `write_answers.err`
pub match_text-grew : (g : Graph) (patterns : List PatternGraph) (ds : List Delta) (old new : List ℕ) → IsTrue (is_ascending vertex_cmp g.vertices) → AreReordered (answer_deltas 0 g patterns) ds → ((sorted : List Delta) → AreSorted ds sorted → GrewByFront old new (answers_text patterns sorted)) → GrewByFront old new (match_text g patterns)
match_text-grew g patterns ds old new a r grew =
    grew_same old new (match_text g patterns) (answers_text patterns (answer_deltas 0 g patterns)) (sym (answers_text-answer_deltas g patterns))
    (grew (answer_deltas 0 g patterns) (answer_deltas-sorted g patterns ds a r))
