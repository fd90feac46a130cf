-- The text of a graph, read line by line, makes the graph.
use Rattle.std.proofs.Common.{◌≡◌, ◌⊎◌, inl, inr, ℕ, suc, ◌+◌, ◌<◌, ◌≤◌, ◌^◌, ◌==◌, Bool, true, false, ◌&&◌, ◌||◌, nat_le, nat_lt, List, [], ◌∷◌, ◌++◌, length, map, Result, Ok, refl, sym, ap, subst, ◌∙◌, arith, append_assoc, append-nil, length-append}
use Rattle.std.proofs.lemmas.Bool.Decides.{nat_tests}
use Rattle.std.proofs.lemmas.Bool.{eqb-true}
use Rattle.std.proofs.lemmas.Grind.{flat_map-append}
use Rattle.std.proofs.lemmas.List.{map-append}
use Rattle.std.proofs.lemmas.List.Folds.{list_all-append, list_any-append}
use Rattle.std.specs.Cmp.{nat_eq_equiv, unsigned_ties}
use Rattle.std.specs.Cmp.Lexicographic.{nat_list_cmp_total}
use Rattle.std.specs.Ordering.{is_eq, nat_cmp}
use Rattle.std.specs.List.{list_any, list_all, flat_map, join_with_byte, AllByRecursion}
use Rattle.flux_model.specs.Text.{IsText, text_cmp}
use Rattle.flux_model.specs.Lines.{held, lines}
use Rattle.flux_model.specs.Ordered.{is_ascending, is_in, put}
use Rattle.flux_model.specs.Labels.{is_within, put_all, label_set}
use Rattle.flux_model.specs.Reading.{graph_reading}
use Rattle.flux_model.specs.FileReading.{result_and_then, read_from}
use Rattle.flux_model.specs.Graph.{Graph, IsVertex, IsGraph, IsWithin, vertex_cmp, triple_cmp, has_vertex, has_both_ends, names_of, name_count}
use Rattle.flux_model.specs.GraphFile.{graph_after_line}
use Rattle.flux_model.specs.GraphText.{text_line, triple_line, graph_text}
use Rattle.flux_model.specs.declared.code.Bad.{Bad}
use Rattle.flux_model.specs.declared.said.Said.{Said}
use Rattle.flux_model.specs.declared.said.Said.TheVariants.{Says}
use Rattle.flux_model.specs.declared.graph.Update.{Update}
use Rattle.flux_model.specs.declared.graph.Update.TheVariants.{AddVertex, AddEdge}
use Rattle.flux_model.specs.declared.graph.Triple.{Triple}
use Rattle.flux_model.specs.declared.graph.Vertex.{Vertex}
use Rattle.flux_model.specs.declared.limits.Limits.{Limits}
use Rattle.flux_model.proofs.OrderedLemmas.{put-list_all}
use Rattle.flux_model.proofs.FileReadingLemmas.{read_from-append}
use Rattle.flux_laws.specs.LinesLaws.{ended_text, is_plain}
use Rattle.flux_laws.specs.TextsLaws.{GraphIsReadBack}
use Rattle.flux_laws.proofs.TestLemmas.{both, either, or_right}
use Rattle.flux_laws.proofs.PlainLemmas.{list_all-weaker, plain_lines}
use Rattle.flux_laws.proofs.SetsLemmas.{vertex_total, triple_total, in_put_all, label_set_ascending, text_membership}
use Rattle.flux_laws.proofs.FormsLemmas.{IsSmall, vertex_words, vertex_plain, vertex_says, triple_words, triple_plain, triple_says}
use Rattle.flux_laws.proofs.FrontLemmas.{absent_in_front, put_behind}
use Rattle.flux_laws.proofs.AscendingLemmas.{within-length}

-- ---- the lines of the text

module _ {X : Type 0} (words : X → List (List ℕ)) where
  abbrev body : X → List ℕ
  body x = join_with_byte 32 (words x)

  text-lines : (xs : List X) → flat_map (λ x. text_line (words x)) xs ≡ ended_text (map body xs)
  text-lines [] = refl
  text-lines (x ∷ xs) = ap (λ l. text_line (words x) ++ l) (text-lines xs)

  module _ (P : X → Type 0) where
    plain_each : (n : ℕ) → ((x : X) → P x → is_plain n (body x) ≡ true) → (xs : List X) → AllByRecursion P xs → list_all (is_plain n) (map body xs) ≡ true
    plain_each n plain [] all = refl
    plain_each n plain (x ∷ xs) all = let here = plain x all.0 in rw here (plain_each n plain xs all.1)

    says_each : (f : X → Said Update) → ((x : X) → P x → graph_reading (held (body x)) ≡ f x) → (xs : List X) → AllByRecursion P xs
        → map graph_reading (map held (map body xs)) ≡ map f xs
    says_each f says [] all = refl
    says_each f says (x ∷ xs) all = let first = says x all.0 in let rest = says_each f says xs all.1 in λ i. first i ∷ rest i

id_is_small : (vs : List Vertex) (id : ℕ) → AllByRecursion IsVertex vs → list_any (λ (v : Vertex). v.id == id) vs ≡ true → id < 2 ^ 32
id_is_small [] id all h = cc
id_is_small (v ∷ vs) id all h = by (either (v.id == id) (list_any (λ (v : Vertex). v.id == id) vs) h) (id_is_small vs id all.1)
  where
    by : (v.id == id ≡ true) ⊎ (list_any (λ (v : Vertex). v.id == id) vs ≡ true) → (list_any (λ (v : Vertex). v.id == id) vs ≡ true → id < 2 ^ 32) → id < 2 ^ 32
    by (inl here) rest = subst (λ k. k < 2 ^ 32) (eqb-true v.id id here) all.0.id
    by (inr later) rest = rest later

all_small : (g : Graph) → AllByRecursion IsVertex g.vertices → (ts : List Triple) → AllByRecursion (λ (t : Triple). IsText t.label) ts → list_all (has_both_ends g) ts ≡ true
    → AllByRecursion IsSmall ts
all_small g vs [] texts ends = tt
all_small g vs (t ∷ ts) texts ends =
    let parts = both (has_both_ends g t) (list_all (has_both_ends g) ts) ends in
    let two = both (has_vertex g t.src) (has_vertex g t.dst) parts.0 in
    (record { src = id_is_small g.vertices t.src vs two.0; dst = id_is_small g.vertices t.dst vs two.1; label = texts.0 }, all_small g vs ts texts.1 parts.1)

abbrev says_vertex : Vertex → Said Update
says_vertex v = Says (AddVertex v.id v.labels)

abbrev says_triple : Triple → Said Update
says_triple t = Says (AddEdge t)

text_says : (n : ℕ) (g : Graph) → 1052 ≤ n → IsGraph g → map graph_reading (lines n (graph_text g)) ≡ map says_vertex g.vertices ++ map says_triple g.triples
text_says n g room is =
    let vs : List (List ℕ) = map (body vertex_words) g.vertices in
    let ts : List (List ℕ) = map (body triple_words) g.triples in
    let small = all_small g is.vertices g.triples is.texts is.ends in
    let text : graph_text g ≡ ended_text (vs ++ ts) =
    ap (λ l. l ++ flat_map triple_line g.triples) (text-lines vertex_words g.vertices)
    ∙ ap (λ l. ended_text vs ++ l) (text-lines triple_words g.triples)
    ∙ sym (flat_map-append (λ (line : List ℕ). line ++ 10 ∷ []) vs ts) in
    let plain : list_all (is_plain n) (vs ++ ts) ≡ true =
    list_all-append (is_plain n) vs ts
    ∙ rw (plain_each vertex_words IsVertex n (λ v. vertex_plain n v room) g.vertices is.vertices) (plain_each triple_words IsSmall n (λ t. triple_plain n t room) g.triples small) in
    ap (λ b. map graph_reading (lines n b)) text ∙ ap (map graph_reading) (plain_lines n (vs ++ ts) plain ∙ map-append held vs ts)
    ∙ map-append graph_reading (map held vs) (map held ts)
    ∙ ap (λ l. l ++ map graph_reading (map held ts)) (says_each vertex_words IsVertex says_vertex vertex_says g.vertices is.vertices)
    ∙ ap (λ l. map says_vertex g.vertices ++ l) (says_each triple_words IsSmall says_triple triple_says g.triples small)

-- ---- the names in use

in_itself : (x : List ℕ) → is_in text_cmp x (x ∷ []) ≡ true
in_itself x = (text_membership x (x ∷ [])).1 (0, omega arith, refl)

within-more : (xs ys zs : List (List ℕ)) → ((x : List ℕ) → is_in text_cmp x ys ≡ true → is_in text_cmp x zs ≡ true) → is_within xs ys ≡ true → is_within xs zs ≡ true
within-more xs ys zs f h = list_all-weaker (λ x. is_in text_cmp x ys) (λ x. is_in text_cmp x zs) f xs h

in-left : (x : List ℕ) (ys zs : List (List ℕ)) → is_in text_cmp x ys ≡ true → is_in text_cmp x (ys ++ zs) ≡ true
in-left x ys zs h = list_any-append (λ y. is_eq (text_cmp x y)) ys zs ∙ rw h refl

in-right : (x : List ℕ) (ys zs : List (List ℕ)) → is_in text_cmp x zs ≡ true → is_in text_cmp x (ys ++ zs) ≡ true
in-right x ys zs h = list_any-append (λ y. is_eq (text_cmp x y)) ys zs ∙ or_right (is_in text_cmp x ys) (is_in text_cmp x zs) h

within-self : (xs : List (List ℕ)) → is_within xs xs ≡ true
within-self [] = refl
within-self (x ∷ xs) = rw (in-left x (x ∷ []) xs (in_itself x)) (within-more xs xs (x ∷ xs) (λ y. in-right y (x ∷ []) xs) (within-self xs))

within-both : (xs ys zs : List (List ℕ)) → is_within xs zs ≡ true → is_within ys zs ≡ true → is_within (xs ++ ys) zs ≡ true
within-both xs ys zs a b = list_all-append (λ x. is_in text_cmp x zs) xs ys ∙ rw a b

-- names among others are not more
put_all-all : (p : List ℕ → Bool) (set names : List (List ℕ)) → list_all p set ≡ true → list_all p names ≡ true → list_all p (put_all set names) ≡ true
put_all-all p set [] a b = a
put_all-all p set (name ∷ names) a b =
    let parts = both (p name) (list_all p names) b in
    put_all-all p (put text_cmp name set) names (put-list_all text_cmp p name set parts.0 a) parts.1

fewer_names : (xs ys : List (List ℕ)) → is_within xs ys ≡ true → length (label_set xs) ≤ length (label_set ys)
fewer_names xs ys h =
    within-length text_cmp nat_list_cmp_total (label_set ys) (label_set xs) (label_set_ascending ys) (label_set_ascending xs)
    (put_all-all (λ x. is_in text_cmp x (label_set ys)) [] xs refl
    (within-more xs ys (label_set ys) (λ x e. in_put_all x [] ys ∙ rw e refl) h))

-- ---- vertex by vertex

abbrev graph_with : List Vertex → List Triple → Graph
graph_with vs ts = record { vertices = vs; triples = ts }

room : (limit count names in_use : ℕ) → count < limit → in_use ≤ names → (nat_le limit count || nat_lt names in_use) ≡ false
room limit count names in_use a b = grind (arith, nat_tests)

in_ids : (v : Vertex) (vs : List Vertex) → is_in vertex_cmp v vs ≡ list_any (λ (w : Vertex). w.id == v.id) vs
in_ids v [] = refl
in_ids v (w ∷ ws) = (λ i. same i || in_ids v ws i)
  where
    same : is_eq (nat_cmp v.id w.id) ≡ (w.id == v.id)
    same = sym (unsigned_ties v.id w.id) ∙ nat_eq_equiv.symm v.id w.id

abbrev labels_of : List Vertex → List (List ℕ)
labels_of vs = flat_map (λ (v : Vertex). v.labels) vs

module _ (limits : Limits) (g : Graph) (is : IsGraph g) (within : IsWithin limits g) where
  abbrev take_line : ℕ → Graph → Said Update → Result Graph Bad
  take_line k h said = graph_after_line limits k h said

  step_vertex : (k : ℕ) (front : List Vertex) (v : Vertex) (rest : List Vertex) → g.vertices ≡ front ++ v ∷ rest
      → take_line k (graph_with front []) (says_vertex v) ≡ Ok (graph_with (front ++ v ∷ []) [])
  step_vertex k front v rest e =
      let ascending : is_ascending vertex_cmp (front ++ v ∷ rest) ≡ true = subst (λ vs. is_ascending vertex_cmp vs ≡ true) e is.ascending_vertices in
      let absent : list_any (λ (w : Vertex). w.id == v.id) front ≡ false = sym (in_ids v front) ∙ absent_in_front vertex_cmp vertex_total v front rest ascending in
      let behind : put vertex_cmp v front ≡ front ++ v ∷ [] = put_behind vertex_cmp vertex_total v front rest ascending in
      let fewer : length front < limits.vertices = omega (arith, ap length e, length-append front (v ∷ rest), within.vertices) in
      let all : List (List ℕ) = names_of g ++ [] in
      let split : labels_of g.vertices ≡ labels_of front ++ (v.labels ++ labels_of rest) =
      ap labels_of e ∙ flat_map-append (λ (w : Vertex). w.labels) front (v ∷ rest) in
      let there : (x : List ℕ) → is_in text_cmp x (labels_of front ++ (v.labels ++ labels_of rest)) ≡ true → is_in text_cmp x all ≡ true =
      λ x h. in-left x (names_of g) [] (in-left x (labels_of g.vertices) (map (λ (t : Triple). t.label) g.triples) (ap (is_in text_cmp x) split ∙ h)) in
      let old : is_within (labels_of front ++ []) all ≡ true =
      within-both (labels_of front) [] all
      (within-more (labels_of front) (labels_of front) all (λ x h. there x (in-left x (labels_of front) (v.labels ++ labels_of rest) h)) (within-self (labels_of front))) refl in
      let own : is_within v.labels all ≡ true =
      within-more v.labels v.labels all (λ x h. there x (in-right x (labels_of front) (v.labels ++ labels_of rest) (in-left x v.labels (labels_of rest) h))) (within-self v.labels) in
      let names : name_count (graph_with front []) v.labels ≤ limits.labels =
      let le = fewer_names ((labels_of front ++ []) ++ v.labels) all (within-both (labels_of front ++ []) v.labels all old own) in
      let most = within.names in omega arith in
      let free = room limits.vertices (length front) limits.labels (name_count (graph_with front []) v.labels) fewer names in
      rw (absent, free) (ap (λ vs. Ok (graph_with vs [])) behind)

  read_vertices : (k : ℕ) (front rest : List Vertex) → g.vertices ≡ front ++ rest → read_from take_line k (graph_with front []) (map says_vertex rest) ≡ Ok (graph_with g.vertices [])
  read_vertices k front [] e = ap (λ vs. Ok (graph_with vs [])) (sym (e ∙ append-nil front))
  read_vertices k front (v ∷ rest) e =
      ap (result_and_then (λ next. read_from take_line (suc k) next (map says_vertex rest))) (step_vertex k front v rest e)
      ∙ read_vertices (suc k) (front ++ v ∷ []) rest (e ∙ sym (append_assoc front (v ∷ []) rest))

  -- ---- triple by triple

  step_triple : (k : ℕ) (front : List Triple) (t : Triple) (rest : List Triple) → g.triples ≡ front ++ t ∷ rest
      → take_line k (graph_with g.vertices front) (says_triple t) ≡ Ok (graph_with g.vertices (front ++ t ∷ []))
  step_triple k front t rest e =
      let ascending : is_ascending triple_cmp (front ++ t ∷ rest) ≡ true = subst (λ ts. is_ascending triple_cmp ts ≡ true) e is.ascending_triples in
      let absent : is_in triple_cmp t front ≡ false = absent_in_front triple_cmp triple_total t front rest ascending in
      let behind : put triple_cmp t front ≡ front ++ t ∷ [] = put_behind triple_cmp triple_total t front rest ascending in
      let all_ends : (list_all (has_both_ends g) front && list_all (has_both_ends g) (t ∷ rest)) ≡ true =
      sym (list_all-append (has_both_ends g) front (t ∷ rest)) ∙ subst (λ ts. list_all (has_both_ends g) ts ≡ true) e is.ends in
      let ends : has_both_ends g t ≡ true =
      (both (has_both_ends g t) (list_all (has_both_ends g) rest) (both (list_all (has_both_ends g) front) (list_all (has_both_ends g) (t ∷ rest)) all_ends).1).0 in
      let fewer : length front < limits.edges = omega (arith, ap length e, length-append front (t ∷ rest), within.triples) in
      let all : List (List ℕ) = names_of g ++ [] in
      let split : map (λ (s : Triple). s.label) g.triples ≡ map (λ (s : Triple). s.label) front ++ (t.label ∷ map (λ (s : Triple). s.label) rest) =
      ap (map (λ (s : Triple). s.label)) e ∙ map-append (λ (s : Triple). s.label) front (t ∷ rest) in
      let before : List (List ℕ) = map (λ (s : Triple). s.label) front in
      let after : List (List ℕ) = map (λ (s : Triple). s.label) rest in
      let there : (x : List ℕ) → is_in text_cmp x (before ++ (t.label ∷ after)) ≡ true → is_in text_cmp x all ≡ true =
      λ x h. in-left x (names_of g) [] (in-right x (labels_of g.vertices) (map (λ (s : Triple). s.label) g.triples) (ap (is_in text_cmp x) split ∙ h)) in
      let on_vertices : is_within (labels_of g.vertices) all ≡ true =
      within-more (labels_of g.vertices) (labels_of g.vertices) all
      (λ x h. in-left x (names_of g) [] (in-left x (labels_of g.vertices) (map (λ (s : Triple). s.label) g.triples) h)) (within-self (labels_of g.vertices)) in
      let on_triples : is_within before all ≡ true =
      within-more before before all (λ x h. there x (in-left x before (t.label ∷ after) h)) (within-self before) in
      let own : is_within (t.label ∷ []) all ≡ true =
      within-more (t.label ∷ []) (t.label ∷ []) all (λ x h. there x (in-right x before (t.label ∷ after) (in-left x (t.label ∷ []) after h))) (within-self (t.label ∷ [])) in
      let names : name_count (graph_with g.vertices front) (t.label ∷ []) ≤ limits.labels =
      let le = fewer_names ((labels_of g.vertices ++ before) ++ t.label ∷ []) all
      (within-both (labels_of g.vertices ++ before) (t.label ∷ []) all (within-both (labels_of g.vertices) before all on_vertices on_triples) own) in
      let most = within.names in omega arith in
      let free = room limits.edges (length front) limits.labels (name_count (graph_with g.vertices front) (t.label ∷ [])) fewer names in
      rw (absent, ends, free) (ap (λ ts. Ok (graph_with g.vertices ts)) behind)

  read_triples : (k : ℕ) (front rest : List Triple) → g.triples ≡ front ++ rest
      → read_from take_line k (graph_with g.vertices front) (map says_triple rest) ≡ Ok g
  read_triples k front [] e = ap (λ ts. Ok (graph_with g.vertices ts)) (sym (e ∙ append-nil front))
  read_triples k front (t ∷ rest) e =
      ap (result_and_then (λ next. read_from take_line (suc k) next (map says_triple rest))) (step_triple k front t rest e)
      ∙ read_triples (suc k) (front ++ t ∷ []) rest (e ∙ sym (append_assoc front (t ∷ []) rest))

-- the text of a graph makes the graph again
pub graph_read_back : GraphIsReadBack
graph_read_back limits g is within room =
    let vs : List (Said Update) = map says_vertex g.vertices in
    let ts : List (Said Update) = map says_triple g.triples in
    let start : Graph = graph_with [] [] in
    ap (read_from (graph_after_line limits) 1 start) (text_says limits.line_bytes g room is)
    ∙ read_from-append (graph_after_line limits) 1 start vs ts
    ∙ ap (result_and_then (λ next. read_from (graph_after_line limits) (length vs + 1) next ts)) (read_vertices limits g is within 1 [] g.vertices refl)
    ∙ read_triples limits g is within (length vs + 1) [] g.triples refl
