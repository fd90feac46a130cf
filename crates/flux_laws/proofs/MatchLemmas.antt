-- The lines that are written of the embeddings in a graph.
use Rattle.std.proofs.Common.{◌≡◌, ℕ, ◌+◌, ◌==◌, Bool, true, false, not, ◌&&◌, ◌||◌, List, [], ◌∷◌, ◌++◌, length, map, refl, sym, ap, ◌∙◌, append-nil, length-append}
use Rattle.std.proofs.lemmas.Grind.{flat_map-append}
use Rattle.std.proofs.lemmas.List.{length-map}
use Rattle.std.proofs.lemmas.List.Folds.{list_all-append}
use Rattle.std.proofs.lemmas.Bool.{eqb-true}
use Rattle.std.specs.Prelude.{codes}
use Rattle.std.specs.List.{list_any, list_all, flat_map, join_with_byte}
use Rattle.std.specs.Fmt.{decimal}
use Rattle.flux_model.specs.Reading.{is_digit}
use Rattle.flux_model.specs.Graph.{Graph}
use Rattle.flux_model.specs.Pattern.{PatternGraph}
use Rattle.flux_model.specs.Embedding.{embeddings}
use Rattle.flux_model.specs.Report.{answer_lines, match_text}
use Rattle.flux_model.specs.Lines.{parts, all_but_last, open_end}
use Rattle.flux_laws.specs.LinesLaws.{has_no_end, ended_text}
use Rattle.flux_laws.specs.ReportsLaws.{is_answer, EndLineCountsAnswers}
use Rattle.flux_laws.proofs.LinesLemmas.{unique}
use Rattle.flux_laws.proofs.WordsLemmas.{decimal_digits}
use Rattle.flux_laws.proofs.TestLemmas.{both}

-- ---- no byte 10

no_end-append : (xs ys : List ℕ) → has_no_end xs ≡ true → has_no_end ys ≡ true → has_no_end (xs ++ ys) ≡ true
no_end-append [] ys a b = b
no_end-append (x ∷ xs) ys a b = by (x == 10) refl a (no_end-append xs ys)
  where
    by : (t : Bool) → (x == 10) ≡ t → not (t || list_any (λ y. y == 10) xs) ≡ true → (has_no_end xs ≡ true → has_no_end ys ≡ true → has_no_end (xs ++ ys) ≡ true)
        → not (t || list_any (λ y. y == 10) (xs ++ ys)) ≡ true
    by true e h ih = cc
    by false e h ih = ih h b

no_end-digits : (ds : List ℕ) → list_all is_digit ds ≡ true → has_no_end ds ≡ true
no_end-digits [] h = refl
no_end-digits (c ∷ cs) h = by (c == 10) refl h (no_end-digits cs)
  where
    by : (t : Bool) → (c == 10) ≡ t → is_digit c && list_all is_digit cs ≡ true → (list_all is_digit cs ≡ true → has_no_end cs ≡ true)
        → not (t || list_any (λ y. y == 10) cs) ≡ true
    by true e k ih =
        let ten : is_digit c ≡ false = ap is_digit (eqb-true c 10 e) in
        let digit = (both (is_digit c) (list_all is_digit cs) k).0 in
        cc
    by false e k ih = ih (both (is_digit c) (list_all is_digit cs) k).1

no_end-decimal : (n : ℕ) → has_no_end (decimal n) ≡ true
no_end-decimal n = no_end-digits (decimal n) (decimal_digits n)

no_end-join : (words : List (List ℕ)) → list_all has_no_end words ≡ true → has_no_end (join_with_byte 32 words) ≡ true
no_end-join [] h = refl
no_end-join (w ∷ []) h = (both (has_no_end w) true h).0
no_end-join (w ∷ v ∷ ws) h =
    let here = both (has_no_end w) (list_all has_no_end (v ∷ ws)) h in
    no_end-append w (32 ∷ join_with_byte 32 (v ∷ ws)) here.0 (no_end-join (v ∷ ws) here.1)

no_end-ids : (m : List ℕ) → list_all has_no_end (map decimal m) ≡ true
no_end-ids [] = refl
no_end-ids (n ∷ ns) = rw (no_end-decimal n) (no_end-ids ns)

-- ---- the answers

abbrev answer : List ℕ → List ℕ → List ℕ
answer name m = join_with_byte 32 (codes "m" ∷ name ∷ map decimal m)

abbrev answers_of : Graph → List PatternGraph → List (List ℕ)
answers_of g patterns = flat_map (λ (q : PatternGraph). map (answer q.name) (embeddings q g)) patterns

all_answers : (p : List ℕ → Bool) (name : List ℕ) (ms : List (List ℕ)) → ((m : List ℕ) → p (answer name m) ≡ true) → list_all p (map (answer name) ms) ≡ true
all_answers p name [] h = refl
all_answers p name (m ∷ ms) h = rw (h m) (all_answers p name ms h)

answers-marked : (g : Graph) (patterns : List PatternGraph) → list_all is_answer (answers_of g patterns) ≡ true
answers-marked g [] = refl
answers-marked g (q ∷ qs) =
    list_all-append is_answer (map (answer q.name) (embeddings q g)) (answers_of g qs)
    ∙ rw (all_answers is_answer q.name (embeddings q g) (λ m. refl)) (answers-marked g qs)

answers-no_end : (g : Graph) (patterns : List PatternGraph) → list_all (λ (q : PatternGraph). has_no_end q.name) patterns ≡ true
    → list_all has_no_end (answers_of g patterns) ≡ true
answers-no_end g [] h = refl
answers-no_end g (q ∷ qs) h =
    let here = both (has_no_end q.name) (list_all (λ (q : PatternGraph). has_no_end q.name) qs) h in
    list_all-append has_no_end (map (answer q.name) (embeddings q g)) (answers_of g qs)
    ∙ rw (all_answers has_no_end q.name (embeddings q g) (λ m. no_end-join (codes "m" ∷ q.name ∷ map decimal m) (rw here.0 (no_end-ids m)))) (answers-no_end g qs here.1)

text-answers : (name : List ℕ) (ms : List (List ℕ)) → flat_map (λ m. answer name m ++ 10 ∷ []) ms ≡ ended_text (map (answer name) ms)
text-answers name [] = refl
text-answers name (m ∷ ms) = ap (λ l. (answer name m ++ 10 ∷ []) ++ l) (text-answers name ms)

text-all : (g : Graph) (patterns : List PatternGraph) → flat_map (answer_lines g) patterns ≡ ended_text (answers_of g patterns)
text-all g [] = refl
text-all g (q ∷ qs) =
    ap (λ l. l ++ flat_map (answer_lines g) qs) (text-answers q.name (embeddings q g))
    ∙ ap (λ l. ended_text (map (answer q.name) (embeddings q g)) ++ l) (text-all g qs)
    ∙ sym (flat_map-append (λ (line : List ℕ). line ++ 10 ∷ []) (map (answer q.name) (embeddings q g)) (answers_of g qs))

length-answers : (g : Graph) (patterns : List PatternGraph) → length (answers_of g patterns) ≡ length (flat_map (λ q. embeddings q g) patterns)
length-answers g [] = refl
length-answers g (q ∷ qs) =
    length-append (map (answer q.name) (embeddings q g)) (answers_of g qs)
    ∙ ap (λ n. n + length (answers_of g qs)) (length-map (embeddings q g) (answer q.name))
    ∙ ap (λ n. length (embeddings q g) + n) (length-answers g qs)
    ∙ sym (length-append (embeddings q g) (flat_map (λ q. embeddings q g) qs))

-- the last line of a listing counts its answers
pub counted : EndLineCountsAnswers
counted g patterns h =
    let answers : List (List ℕ) = answers_of g patterns in
    let last : List ℕ = codes "= " ++ decimal (length answers) in
    let lines : List (List ℕ) = answers ++ last ∷ [] in
    let text : ended_text lines ++ [] ≡ match_text g patterns =
    append-nil (ended_text lines) ∙ flat_map-append (λ (line : List ℕ). line ++ 10 ∷ []) answers (last ∷ [])
    ∙ ap (λ l. ended_text answers ++ l) (append-nil (last ++ 10 ∷ []))
    ∙ ap (λ l. l ++ (last ++ 10 ∷ [])) (sym (text-all g patterns))
    ∙ ap (λ n. flat_map (answer_lines g) patterns ++ ((codes "= " ++ decimal n) ++ 10 ∷ [])) (length-answers g patterns) in
    let none : list_all has_no_end lines ≡ true =
    list_all-append has_no_end answers (last ∷ [])
    ∙ rw (answers-no_end g patterns h, no_end-append (codes "= ") (decimal (length answers)) refl (no_end-decimal (length answers))) refl in
    let cut = unique lines [] none refl in
    record {
      answers = answers;
      marked = answers-marked g patterns;
      lines = ap (λ b. all_but_last (parts b)) (sym text) ∙ cut.0;
      closed = ap open_end (sym text) ∙ cut.1;
    }
