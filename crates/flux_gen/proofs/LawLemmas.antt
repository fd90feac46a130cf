-- The files of a number are accepted.
use Rattle.std.proofs.Common.{◌≡◌, ℕ, zero, suc, ◌+◌, ◌*◌, ◌/◌, ◌<◌, ◌≤◌, ◌^◌, ◌==◌, Bool, true, false, ◌||◌, nat_le, nat_lt, List, [], ◌∷◌, ◌++◌, length, map, Result, Ok, refl, sym, ap, ◌∙◌, arith, append-nil}
use Rattle.std.proofs.Math.Nat.{mul-le-mul_left, div-lt_iff_lt-mul}
use Rattle.std.proofs.lemmas.Bool.Decides.{nat_tests}
use Rattle.std.proofs.lemmas.Grind.{flat_map-append}
use Rattle.std.proofs.lemmas.List.{map-append}
use Rattle.std.proofs.lemmas.List.Folds.{list_all-append}
use Rattle.std.specs.Prelude.{codes}
use Rattle.std.specs.declared.cmp.Ordering.{Ordering}
use Rattle.std.specs.declared.cmp.Ordering.TheVariants.{Less, Equal, Greater}
use Rattle.std.specs.Ordering.{is_lt, nat_cmp}
use Rattle.std.specs.List.{list_any, list_all, flat_map, join_with_byte, AllByRecursion}
use Rattle.std.proofs.lemmas.Fmt.{decimal_digit}
use Rattle.flux_model.specs.Text.{is_text, IsText, text_cmp}
use Rattle.flux_model.specs.Limits.{standard}
use Rattle.flux_model.specs.Lines.{held, lines}
use Rattle.flux_model.specs.Ordered.{is_ascending, is_in, put}
use Rattle.flux_model.specs.Reading.{graph_reading}
use Rattle.flux_model.specs.FileReading.{result_and_then, read_from}
use Rattle.flux_model.specs.Graph.{Graph, IsVertex, IsGraph, IsWithin, empty_graph, vertex_cmp, triple_cmp, has_vertex, has_both_ends, name_count}
use Rattle.flux_model.specs.GraphFile.{graph_after_line}
use Rattle.flux_model.specs.GraphText.{text_line, vertex_line, triple_line}
use Rattle.flux_model.specs.declared.code.Bad.{Bad}
use Rattle.flux_model.specs.declared.said.Said.{Said}
use Rattle.flux_model.specs.declared.said.Said.TheVariants.{Says}
use Rattle.flux_model.specs.declared.graph.Update.{Update}
use Rattle.flux_model.specs.declared.graph.Update.TheVariants.{AddVertex, AddEdge}
use Rattle.flux_model.specs.declared.graph.Triple.{Triple}
use Rattle.flux_model.specs.declared.graph.Vertex.{Vertex}
use Rattle.flux_model.proofs.OrderedLemmas.{put-equal, put-greater, in-greater, in-less, put-ascending, put-list_all}
use Rattle.flux_model.proofs.FileReadingLemmas.{read_from-append}
use Rattle.flux_laws.specs.LinesLaws.{ended_text, is_plain}
use Rattle.flux_laws.proofs.AscendingLemmas.{tail_ascending}
use Rattle.flux_laws.proofs.FormsLemmas.{IsSmall, vertex_words, vertex_plain, vertex_says, triple_words, triple_plain, triple_says}
use Rattle.flux_laws.proofs.LimitLemmas.{NamesPass, name_count-within, length-put}
use Rattle.flux_laws.proofs.PlainLemmas.{plain_lines}
use Rattle.flux_laws.proofs.SetsLemmas.{triple_total}
use Rattle.flux_laws.proofs.TextsLemmas.{graph_read_back}
use Rattle.flux_model.specs.Generated.{next, pick, steps, vertex_label, edge_label, vertex_of, vertices_from, triple_from, after_triple, triples_from, generated}
use Rattle.flux_gen.specs.Law.{put_triples, generated_graph, GraphFileIsAccepted, PatternFileIsAccepted, GraphHasAllVertices}

-- ---- draws

scaled_below : (x k : ℕ) → x < 4294967296 → 1 ≤ k → x * k / 4294967296 < k
scaled_below x k h some =
    let room : 0 < 4294967296 = omega arith in
    let le : x + 1 ≤ 4294967296 = omega arith in
    let most : k * (x + 1) ≤ k * 4294967296 = mul-le-mul_left k le in
    (div-lt_iff_lt-mul room).1 (omega arith)

pub pick_below : (s k : ℕ) → 1 ≤ k → pick s k < k
unfolding pick next
pick_below s k some = scaled_below _ k (omega arith) some

-- ---- labels

abbrev drawn_labels : List (List ℕ)
drawn_labels = codes "L0" ∷ codes "L1" ∷ codes "r0" ∷ codes "r1" ∷ codes "r2" ∷ codes "r3" ∷ []

pub vertex_label_is : (x : ℕ) → x < 10 → vertex_label x ≡ 76 ∷ (48 + x) ∷ []
vertex_label_is x h = ap (λ d. 76 ∷ d) (decimal_digit x h)

pub edge_label_is : (y : ℕ) → y < 10 → edge_label y ≡ 114 ∷ (48 + y) ∷ []
edge_label_is y h = ap (λ d. 114 ∷ d) (decimal_digit y h)

abbrev is_drawn : List ℕ → Bool
is_drawn x = is_in text_cmp x drawn_labels

few_names : (g : Graph) (more : List (List ℕ)) → NamesPass is_drawn g more → name_count g more ≤ 6
few_names g more n =
    let le = name_count-within g empty_graph more drawn_labels n in
    let six : name_count empty_graph drawn_labels ≡ 6 = refl in
    omega arith

vertex_text : (x : ℕ) → x < 2 → list_all is_text (vertex_label x ∷ []) ≡ true
vertex_text zero l = ap (λ w. list_all is_text (w ∷ [])) (vertex_label_is 0 (omega arith))
vertex_text (suc zero) l = ap (λ w. list_all is_text (w ∷ [])) (vertex_label_is 1 (omega arith))
vertex_text (suc (suc x)) l = absurd (omega arith)

pub vertex_is : (id x : ℕ) → id < 2 ^ 32 → x < 2 → IsVertex (vertex_of id x)
vertex_is id x h l = record { id = h; labels = record { few = omega arith; ascending = refl; texts = vertex_text x l } }

vertex_drawn : (x : ℕ) → x < 2 → is_drawn (vertex_label x) ≡ true
vertex_drawn zero l = ap is_drawn (vertex_label_is 0 (omega arith))
vertex_drawn (suc zero) l = ap is_drawn (vertex_label_is 1 (omega arith))
vertex_drawn (suc (suc x)) l = absurd (omega arith)

pub edge_text : (y : ℕ) → y < 4 → IsText (edge_label y)
edge_text zero l = ap is_text (edge_label_is 0 (omega arith))
edge_text (suc zero) l = ap is_text (edge_label_is 1 (omega arith))
edge_text (suc (suc zero)) l = ap is_text (edge_label_is 2 (omega arith))
edge_text (suc (suc (suc zero))) l = ap is_text (edge_label_is 3 (omega arith))
edge_text (suc (suc (suc (suc y)))) l = absurd (omega arith)

edge_drawn : (y : ℕ) → y < 4 → is_drawn (edge_label y) ≡ true
edge_drawn zero l = ap is_drawn (edge_label_is 0 (omega arith))
edge_drawn (suc zero) l = ap is_drawn (edge_label_is 1 (omega arith))
edge_drawn (suc (suc zero)) l = ap is_drawn (edge_label_is 2 (omega arith))
edge_drawn (suc (suc (suc zero))) l = ap is_drawn (edge_label_is 3 (omega arith))
edge_drawn (suc (suc (suc (suc y)))) l = absurd (omega arith)

-- ---- vertices

vertices_all : (left id s : ℕ) → id + left ≤ 2 ^ 20 → AllByRecursion IsVertex (vertices_from left id s)
vertices_all zero id s h = tt
vertices_all (suc left) id s h =
    (vertex_is id (pick s 2) (omega arith) (pick_below s 2 (omega arith)), vertices_all left (suc id) (next s) (omega arith))

below_next : (id : ℕ) → is_lt (nat_cmp id (suc id)) ≡ true
below_next id = grind (arith, nat_tests)

vertices_ascending : (left id s : ℕ) → is_ascending vertex_cmp (vertices_from left id s) ≡ true
vertices_ascending zero id s = refl
vertices_ascending (suc zero) id s = refl
vertices_ascending (suc (suc left)) id s = rw (below_next id) (vertices_ascending (suc left) (suc id) (next s))

length-vertices : (left id s : ℕ) → length (vertices_from left id s) ≡ left
length-vertices zero id s = refl
length-vertices (suc left) id s = omega (arith, length-vertices left (suc id) (next s))

vertices_drawn : (left id s : ℕ) → list_all (λ (v : Vertex). list_all is_drawn v.labels) (vertices_from left id s) ≡ true
vertices_drawn zero id s = refl
vertices_drawn (suc left) id s = rw (vertex_drawn (pick s 2) (pick_below s 2 (omega arith))) (vertices_drawn left (suc id) (next s))

same_id : (id : ℕ) → (id == id) ≡ true
same_id id = grind (arith, nat_tests)

later : (id k : ℕ) → id ≤ k → (id == k) ≡ false → suc id ≤ k
later id k a e = grind (arith, nat_tests)

has_vertices : (left id s k : ℕ) → id ≤ k → k < id + left → list_any (λ (v : Vertex). v.id == k) (vertices_from left id s) ≡ true
has_vertices zero id s k a b = absurd (omega arith)
has_vertices (suc left) id s k a b = by (id == k) refl (has_vertices left (suc id) (next s) k)
  where
    by : (t : Bool) → (id == k) ≡ t → (suc id ≤ k → k < suc id + left → list_any (λ (v : Vertex). v.id == k) (vertices_from left (suc id) (next s)) ≡ true)
        → list_any (λ (v : Vertex). v.id == k) (vertices_from (suc left) id s) ≡ true
    by true e rest = rw e refl
    by false e rest = rw e (rest (later id k a e) (omega arith))

abbrev graph_with : List Vertex → List Triple → Graph
graph_with vs ts = record { vertices = vs; triples = ts }

small_ids : (n : ℕ) → n ≤ 2 ^ 20 → n < 2 ^ 32
small_ids n h = omega arith

is_graph : (n s : ℕ) → n ≤ 2 ^ 20 → IsGraph (graph_with (vertices_from n 0 s) [])
is_graph n s few = record {
  ascending_vertices = vertices_ascending n 0 s;
  vertices = vertices_all n 0 s (omega arith);
  ascending_triples = refl;
  texts = tt;
  ends = refl;
}

is_within_limits : (n s : ℕ) → n ≤ 2 ^ 20 → IsWithin standard (graph_with (vertices_from n 0 s) [])
is_within_limits n s few = record {
  vertices = omega (arith, length-vertices n 0 s);
  triples = omega arith;
  names = omega (arith, few_names (graph_with (vertices_from n 0 s) []) [] (record { on_vertices = vertices_drawn n 0 s; on_triples = refl; others = refl }));
}

-- ---- the lines of the text

module _ {X : Type 0} (words : X → List (List ℕ)) where
  abbrev body : X → List ℕ
  body x = join_with_byte 32 (words x)

  text-lines : (xs : List X) → flat_map (λ x. text_line (words x)) xs ≡ ended_text (map body xs)
  text-lines [] = refl
  text-lines (x ∷ xs) = ap (λ l. text_line (words x) ++ l) (text-lines xs)

  module _ (P : X → Type 0) where
    plain_each : (n : ℕ) → ((x : X) → P x → is_plain n (body x) ≡ true) → (xs : List X) → AllByRecursion P xs → list_all (is_plain n) (map body xs) ≡ true
    plain_each n plain [] all = refl
    plain_each n plain (x ∷ xs) all = let here = plain x all.0 in rw here (plain_each n plain xs all.1)

    says_each : (f : X → Said Update) → ((x : X) → P x → graph_reading (held (body x)) ≡ f x) → (xs : List X) → AllByRecursion P xs
        → map graph_reading (map held (map body xs)) ≡ map f xs
    says_each f says [] all = refl
    says_each f says (x ∷ xs) all = let first = says x all.0 in let rest = says_each f says xs all.1 in λ i. first i ∷ rest i

abbrev says_vertex : Vertex → Said Update
says_vertex v = Says (AddVertex v.id v.labels)

abbrev says_triple : Triple → Said Update
says_triple t = Says (AddEdge t)

text_says : (vs : List Vertex) (ts : List Triple) → AllByRecursion IsVertex vs → AllByRecursion IsSmall ts
    → map graph_reading (lines 4096 (flat_map vertex_line vs ++ flat_map triple_line ts)) ≡ map says_vertex vs ++ map says_triple ts
text_says vs ts sound small =
    let room : 1052 ≤ 4096 = omega arith in
    let v : List (List ℕ) = map (body vertex_words) vs in
    let t : List (List ℕ) = map (body triple_words) ts in
    let text : flat_map vertex_line vs ++ flat_map triple_line ts ≡ ended_text (v ++ t) =
    ap (λ l. l ++ flat_map triple_line ts) (text-lines vertex_words vs)
    ∙ ap (λ l. ended_text v ++ l) (text-lines triple_words ts)
    ∙ sym (flat_map-append (λ (line : List ℕ). line ++ 10 ∷ []) v t) in
    let plain : list_all (is_plain 4096) (v ++ t) ≡ true =
    list_all-append (is_plain 4096) v t
    ∙ rw (plain_each vertex_words IsVertex 4096 (λ x. vertex_plain 4096 x room) vs sound) (plain_each triple_words IsSmall 4096 (λ x. triple_plain 4096 x room) ts small) in
    ap (λ b. map graph_reading (lines 4096 b)) text ∙ ap (map graph_reading) (plain_lines 4096 (v ++ t) plain ∙ map-append held v t)
    ∙ map-append graph_reading (map held v) (map held t)
    ∙ ap (λ l. l ++ map graph_reading (map held t)) (says_each vertex_words IsVertex says_vertex vertex_says vs sound)
    ∙ ap (λ l. map says_vertex vs ++ l) (says_each triple_words IsSmall says_triple triple_says ts small)

abbrev take_line : ℕ → Graph → Said Update → Result Graph Bad
take_line k g said = graph_after_line standard k g said

vertices_read : (n s : ℕ) → n ≤ 2 ^ 20 → read_from (graph_after_line standard) 1 empty_graph (map says_vertex (vertices_from n 0 s)) ≡ Ok (graph_with (vertices_from n 0 s) [])
vertices_read n s few =
    let vs : List Vertex = vertices_from n 0 s in
    let says : map graph_reading (lines 4096 (flat_map vertex_line vs ++ [])) ≡ map says_vertex vs ++ [] = text_says vs [] (vertices_all n 0 s (omega arith)) tt in
    ap (read_from (graph_after_line standard) 1 empty_graph) (sym (says ∙ append-nil (map says_vertex vs)))
    ∙ graph_read_back standard (graph_with vs []) (is_graph n s few) (is_within_limits n s few) (omega arith)

-- ---- triples

pub triple_small : (n s : ℕ) → 1 ≤ n → n ≤ 2 ^ 20 → IsSmall (triple_from n s)
triple_small n s some few = record {
  src = omega (arith, pick_below s n some);
  dst = omega (arith, pick_below (next s) n some);
  label = edge_text (pick (next (next s)) 4) (pick_below (next (next s)) 4 (omega arith));
}

triples_small : (n m s : ℕ) → 1 ≤ n → n ≤ 2 ^ 20 → AllByRecursion IsSmall (triples_from n m s)
triples_small n zero s some few = tt
triples_small n (suc m) s some few = (triple_small n s some few, triples_small n m (after_triple s) some few)

-- what is there already is not put in again
put_there : (t : Triple) (ts : List Triple) → is_ascending triple_cmp ts ≡ true → is_in triple_cmp t ts ≡ true → put triple_cmp t ts ≡ ts
put_there t [] a h = cc
put_there t (u ∷ us) a h = by (triple_cmp t u) refl (put_there t us)
  where
    by : (r : Ordering) → triple_cmp t u ≡ r → (is_ascending triple_cmp us ≡ true → is_in triple_cmp t us ≡ true → put triple_cmp t us ≡ us) → put triple_cmp t (u ∷ us) ≡ u ∷ us
    by Less e rest = let none = in-less triple_cmp triple_total t u us a e in cc
    by Equal e rest = put-equal triple_cmp t u us e
    by Greater e rest =
        put-greater triple_cmp t u us e
        ∙ ap (λ l. u ∷ l) (rest (tail_ascending triple_cmp triple_total u us a) (sym (in-greater triple_cmp t u us e) ∙ h))

-- the triples that were read by then
record AreRead (k : ℕ) (ts : List Triple) : Type 0 where
  ascending : is_ascending triple_cmp ts ≡ true
  few : length ts ≤ k
  names : list_all (λ (t : Triple). is_drawn t.label) ts ≡ true

room : (limit count names in_use : ℕ) → count < limit → in_use ≤ names → (nat_le limit count || nat_lt names in_use) ≡ false
room limit count names in_use a b = grind (arith, nat_tests)

step_triple : (vs : List Vertex) (line k : ℕ) (ts : List Triple) (t : Triple) → k < 2 ^ 22 → list_all (λ (v : Vertex). list_all is_drawn v.labels) vs ≡ true
    → AreRead k ts → is_drawn t.label ≡ true → has_both_ends (graph_with vs ts) t ≡ true
    → graph_after_line standard line (graph_with vs ts) (says_triple t) ≡ Ok (graph_with vs (put triple_cmp t ts))
step_triple vs line k ts t few on_vertices read drawn ends = by (is_in triple_cmp t ts) refl
  where
    by : (b : Bool) → is_in triple_cmp t ts ≡ b → graph_after_line standard line (graph_with vs ts) (says_triple t) ≡ Ok (graph_with vs (put triple_cmp t ts))
    by true e = rw e (ap (λ l. Ok (graph_with vs l)) (sym (put_there t ts read.ascending e)))
    by false e =
        let names = few_names (graph_with vs ts) (t.label ∷ []) (record { on_vertices = on_vertices; on_triples = read.names; others = rw drawn refl }) in
        let free = room 4194304 (length ts) 65535 (name_count (graph_with vs ts) (t.label ∷ [])) (omega (arith, read.few)) (omega arith) in
        rw (e, ends, free) refl

more_read : (k : ℕ) (ts : List Triple) (t : Triple) → AreRead k ts → is_drawn t.label ≡ true → AreRead (suc k) (put triple_cmp t ts)
more_read k ts t read drawn = record {
  ascending = put-ascending triple_cmp triple_total t ts read.ascending;
  few = omega (arith, length-put triple_cmp t ts, read.few);
  names = put-list_all triple_cmp (λ (u : Triple). is_drawn u.label) t ts drawn read.names;
}

read_triples : (n number m s line k : ℕ) (ts : List Triple) → 1 ≤ n → k + m ≤ 2 ^ 22 → AreRead k ts
    → read_from (graph_after_line standard) line (graph_with (vertices_from n 0 number) ts) (map says_triple (triples_from n m s)) ≡ Ok (graph_with (vertices_from n 0 number) (put_triples ts (triples_from n m s)))
read_triples n number zero s line k ts some few read = refl
read_triples n number (suc m) s line k ts some few read =
    let vs : List Vertex = vertices_from n 0 number in
    let t : Triple = triple_from n s in
    let drawn : is_drawn t.label ≡ true = edge_drawn (pick (next (next s)) 4) (pick_below (next (next s)) 4 (omega arith)) in
    let src : has_vertex (graph_with vs ts) t.src ≡ true = has_vertices n 0 number (pick s n) (omega arith) (omega (arith, pick_below s n some)) in
    let dst : has_vertex (graph_with vs ts) t.dst ≡ true = has_vertices n 0 number (pick (next s) n) (omega arith) (omega (arith, pick_below (next s) n some)) in
    let ends : has_both_ends (graph_with vs ts) t ≡ true = rw (src, dst) refl in
    ap (result_and_then (λ g. read_from (graph_after_line standard) (suc line) g (map says_triple (triples_from n m (after_triple s)))))
    (step_triple vs line k ts t (omega arith) (vertices_drawn n 0 number) read drawn ends)
    ∙ read_triples n number m (after_triple s) (suc line) (suc k) (put triple_cmp t ts) some (omega arith) (more_read k ts t read drawn)

-- ---- the law

pub graph_file_accepted : GraphFileIsAccepted
unfolding generated generated_graph
graph_file_accepted number n m u sizes =
    let vs : List Vertex = vertices_from n 0 number in
    let ts : List Triple = triples_from n m (steps next n number) in
    let few : n ≤ 2 ^ 20 = sizes.vertices in
    ap (read_from (graph_after_line standard) 1 empty_graph) (text_says vs ts (vertices_all n 0 number (omega arith)) (triples_small n m (steps next n number) sizes.some few))
    ∙ read_from-append (graph_after_line standard) 1 empty_graph (map says_vertex vs) (map says_triple ts)
    ∙ ap (result_and_then (λ g. read_from (graph_after_line standard) (length (map says_vertex vs) + 1) g (map says_triple ts))) (vertices_read n number few)
    ∙ read_triples n number m (steps next n number) (length (map says_vertex vs) + 1) 0 [] sizes.some (omega (arith, sizes.triples)) (record { ascending = refl; few = omega arith; names = refl })

pub pattern_file_accepted : PatternFileIsAccepted
unfolding generated
pattern_file_accepted number n m u = refl

pub graph_has_all : GraphHasAllVertices
unfolding generated_graph
graph_has_all number n m = length-vertices n 0 number
