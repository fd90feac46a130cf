-- What callers need: the block of a change is the text of its deltas, which stand in order.
use Rattle.std.proofs.Common.{◌≡◌, ℕ, suc, ◌+◌, ◌<◌, Bool, true, false, not, List, [], ◌∷◌, ◌++◌, length, refl, sym, ap, ◌∙◌, append_assoc, arith, IsTrue, Some, nat_lt, cond}
use Rattle.std.specs.List.{AllByRecursion, flat_map, list_any}
use Rattle.std.proofs.lemmas.List.{length-append, get_or_at}
use Rattle.std.proofs.lemmas.List.Elements.{All-from_recursion, All-cons, All-head, All-tail}
use Rattle.std.proofs.lemmas.List.Sorted.{IsPermutation-refl}
use Rattle.std.proofs.lemmas.Option.{slice_get-get_or}
use borrow.Author.Tests.{lt-ltb, le-ltb}
use Rattle.flux_model.specs.Ordered.{is_ascending}
use Rattle.flux_model.specs.Graph.{Graph, vertex_cmp}
use Rattle.flux_model.specs.Pattern.{PatternGraph}
use Rattle.flux_model.specs.Embedding.{embeddings}
use Rattle.flux_model.specs.Change.{gained, lost, same_map}
use Rattle.flux_model.specs.Report.{change_lines}
use Rattle.flux_model.specs.Deltas.{HasMap, IsReordered, IsInOrder, with_delta, change_deltas}
use Rattle.flux_model.specs.declared.maps.Delta.{Delta}
use Rattle.flux_model.proofs.DeltasLemmas.{with_delta-append}
use Rattle.delta_report.specs.Block.{HavePatterns, delta_lines, name_at, deltas_text}
use Rattle.delta_report.specs.Sorted.{AreSorted}
use Rattle.delta_report.proofs.BlockLemmas.{name_at-get}
use Rattle.delta_report.proofs.EmbeddingsLemmas.{kept-sorted}

-- ---- the text

-- a delta without a map has no lines
deltas_text-with_delta : (k : ℕ) (patterns : List PatternGraph) (d : Delta) (ds : List Delta) → deltas_text k patterns (with_delta d ds) ≡ delta_lines k (name_at patterns d.pattern) d ++ deltas_text k patterns ds
deltas_text-with_delta k patterns d ds = by d.gained d.lost refl refl
  where
    by : (gained lost : List (List ℕ)) → d.gained ≡ gained → d.lost ≡ lost → deltas_text k patterns (with_delta d ds) ≡ delta_lines k (name_at patterns d.pattern) d ++ deltas_text k patterns ds
    by [] [] e f = rw (e, f) refl
    by [] (m ∷ ms) e f = rw (e, f, lt-ltb 0 (length (m ∷ ms)) (omega arith)) refl
    by (m ∷ ms) lost e f = rw (e, f, lt-ltb 0 (length ((m ∷ ms) ++ lost)) (omega arith)) refl

-- the name of the pattern behind a front part
pub name_here : (front : List PatternGraph) (q : PatternGraph) (qs : List PatternGraph) → name_at (front ++ q ∷ qs) (length front) ≡ q.name
name_here front q qs =
    let within : length front < length (front ++ q ∷ qs) = omega (arith, length-append front (q ∷ qs)) in
    name_at-get (front ++ q ∷ qs) (length front) q
    (slice_get-get_or (front ++ q ∷ qs) (length front) q within ∙ ap Some (get_or_at front q qs q (length front) refl))

text_from : (k : ℕ) (g h : Graph) (patterns front qs : List PatternGraph) (i : ℕ) → patterns ≡ front ++ qs → i ≡ length front → deltas_text k patterns (change_deltas i g h qs) ≡ flat_map (change_lines k g h) qs
text_from k g h patterns front [] i e n = refl
text_from k g h patterns front (q ∷ qs) i e n =
    let d : Delta = record { pattern = i; gained = gained q g h; lost = lost q g h } in
    let name : name_at patterns i ≡ q.name = rw (e, n) (name_here front q qs) in
    let rest : deltas_text k patterns (change_deltas (suc i) g h qs) ≡ flat_map (change_lines k g h) qs =
    text_from k g h patterns (front ++ q ∷ []) qs (suc i) (e ∙ sym (append_assoc front (q ∷ []) qs)) (omega (arith, length-append front (q ∷ []))) in
    deltas_text-with_delta k patterns d (change_deltas (suc i) g h qs)
    ∙ ap (λ w. delta_lines k w d ++ deltas_text k patterns (change_deltas (suc i) g h qs)) name
    ∙ ap (λ t. delta_lines k q.name d ++ t) rest

-- the block of an accepted change
pub deltas_text-change_deltas : (k : ℕ) (g h : Graph) (patterns : List PatternGraph) → deltas_text k patterns (change_deltas 0 g h patterns) ≡ flat_map (change_lines k g h) patterns
deltas_text-change_deltas k g h patterns = text_from k g h patterns [] patterns 0 refl refl

-- ---- one pattern more

-- the deltas of some patterns, followed by those of the next ones
pub change_deltas-append : (i : ℕ) (g h : Graph) (qs rs : List PatternGraph) → change_deltas i g h (qs ++ rs) ≡ change_deltas i g h qs ++ change_deltas (i + length qs) g h rs
change_deltas-append i g h [] rs = ap (λ n. change_deltas n g h rs) (omega arith)
change_deltas-append i g h (q ∷ qs) rs =
    let d : Delta = record { pattern = i; gained = gained q g h; lost = lost q g h } in
    let number : suc i + length qs ≡ i + length (q ∷ qs) = omega arith in
    ap (with_delta d) (change_deltas-append (suc i) g h qs rs)
    ∙ with_delta-append d (change_deltas (suc i) g h qs) (change_deltas (suc i + length qs) g h rs)
    ∙ ap (λ n. with_delta d (change_deltas (suc i) g h qs) ++ change_deltas n g h rs) number

-- a delta with a map stays
pub with_delta-map : (d : Delta) (ds : List Delta) → HasMap d → with_delta d ds ≡ d ∷ ds
with_delta-map d ds m = rw (lt-ltb 0 (length (d.gained ++ d.lost)) m) refl

-- a delta without a map is left out
pub with_delta-none : (d : Delta) (ds : List Delta) → length d.gained ≡ 0 → length d.lost ≡ 0 → with_delta d ds ≡ ds
with_delta-none d ds e f = rw (le-ltb 0 (length (d.gained ++ d.lost)) (omega (arith, length-append d.gained d.lost))) refl

-- ---- the patterns

abbrev IsPatternBelow : ℕ → Delta → Type 0
IsPatternBelow n d = d.pattern < n

-- what is so of a delta and of those behind it is so of all that stay
pub with_delta-all : (P : Delta → Type 0) (d : Delta) (ds : List Delta) → P d → AllByRecursion P ds → AllByRecursion P (with_delta d ds)
with_delta-all P d ds p a = by (nat_lt 0 (length (d.gained ++ d.lost)))
  where
    by : (b : Bool) → AllByRecursion P (cond b (d ∷ ds) ds)
    by true = (p, a)
    by false = a

patterns_below : (n : ℕ) (g h : Graph) (qs : List PatternGraph) (i : ℕ) → i + length qs ≡ n → AllByRecursion (IsPatternBelow n) (change_deltas i g h qs)
patterns_below n g h [] i e = tt
patterns_below n g h (q ∷ qs) i e =
    with_delta-all (IsPatternBelow n) (record { pattern = i; gained = gained q g h; lost = lost q g h }) (change_deltas (suc i) g h qs) (omega arith) (patterns_below n g h qs (suc i) (omega arith))

-- each delta of a change is of one of the patterns
pub change_deltas-have_patterns : (g h : Graph) (patterns : List PatternGraph) → HavePatterns (length patterns) (change_deltas 0 g h patterns)
change_deltas-have_patterns g h patterns =
    All-from_recursion (IsPatternBelow (length patterns)) (change_deltas 0 g h patterns) (patterns_below (length patterns) g h patterns 0 (omega arith))

-- deltas that have this sorted form speak of the same patterns
pub HavePatterns-from_sorted : (n : ℕ) (ds es : List Delta) → AreSorted ds es → HavePatterns n es → HavePatterns n ds
HavePatterns-from_sorted n [] [] s h = h
HavePatterns-from_sorted n [] (e ∷ es) s h = absurd s
HavePatterns-from_sorted n (d ∷ ds) [] s h = absurd s
HavePatterns-from_sorted n (d ∷ ds) (e ∷ es) s h =
    All-cons (IsPatternBelow n) d ds
    (rw (← s.0.same.pattern) (All-head (IsPatternBelow n) e es h))
    (HavePatterns-from_sorted n ds es s.1 (All-tail (IsPatternBelow n) e es h))

-- ---- the order

with_delta-sorted : (d : Delta) (ds : List Delta) → IsInOrder d → AreSorted ds ds → AreSorted (with_delta d ds) (with_delta d ds)
with_delta-sorted d ds o s = by (nat_lt 0 (length (d.gained ++ d.lost)))
  where
    same : IsReordered d d
    same = record { pattern = refl; gained = IsPermutation-refl d.gained; lost = IsPermutation-refl d.lost }

    by : (b : Bool) → AreSorted (cond b (d ∷ ds) ds) (cond b (d ∷ ds) ds)
    by true = (record { same = same; order = o }, s)
    by false = s

-- the deltas of a change are in order
pub change_deltas-sorted : (i : ℕ) (g h : Graph) (qs : List PatternGraph) → IsTrue (is_ascending vertex_cmp g.vertices) → IsTrue (is_ascending vertex_cmp h.vertices) → AreSorted (change_deltas i g h qs) (change_deltas i g h qs)
change_deltas-sorted i g h [] a b = tt
change_deltas-sorted i g h (q ∷ qs) a b =
    with_delta-sorted (record { pattern = i; gained = gained q g h; lost = lost q g h }) (change_deltas (suc i) g h qs)
    (record {
      gained = kept-sorted (λ m. not (list_any (same_map m) (embeddings q g))) q h b;
      lost = kept-sorted (λ m. not (list_any (same_map m) (embeddings q h))) q g a;
    })
    (change_deltas-sorted (suc i) g h qs a b)
