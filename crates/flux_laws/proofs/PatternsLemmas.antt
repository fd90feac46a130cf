-- What the lines of an accepted pattern file make.
use Rattle.std.proofs.Common.{◌≡◌, ℕ, ◌+◌, ◌<◌, ◌≤◌, Bool, true, false, not, ◌||◌, ◌&&◌, ◌==◌, nat_le, List, [], ◌∷◌, ◌++◌, length, map, Result, Ok, Err, refl, sym, ◌∙◌, subst, arith}
use Rattle.std.specs.Prelude.{Option, Some, None, ◌≢◌}
use borrow.Author.Tests.{leb-false, eqb-false}
use Rattle.std.specs.List.{list_any, AllByRecursion}
use Rattle.std.specs.Str.{bytes_eq}
use Rattle.std.specs.Cmp.{nat_eq_equiv}
use Rattle.std.proofs.lemmas.Cmp.{nat_list_eq_equiv}
use Rattle.std.proofs.lemmas.List.{length-append}
use Rattle.std.proofs.lemmas.List.Elements.{All-from_recursion}
use Rattle.flux_model.specs.Text.{IsText}
use Rattle.flux_model.specs.Ordered.{are_distinct_by}
use Rattle.flux_model.specs.Labels.{IsLabelSet}
use Rattle.flux_model.specs.Lines.{lines}
use Rattle.flux_model.specs.Reading.{pattern_reading}
use Rattle.flux_model.specs.FileReading.{result_and_then}
use Rattle.flux_model.specs.Pattern.{PatternGraph, IsPattern, HasEnds, vertex_count, same_edge, same_name, is_connected}
use Rattle.flux_model.specs.PatternFile.{OpenPattern, Draft, empty_draft, refuse_at, close, new_pattern, begin_pattern, add_pattern_vertex, add_pattern_edge, change_last, take_part, patterns_after_line, read_patterns, patterns_of}
use Rattle.flux_model.specs.declared.code.Code.TheVariants as code
use Rattle.flux_model.specs.declared.code.Bad.{Bad}
use Rattle.flux_model.specs.declared.said.Said.{Said}
use Rattle.flux_model.specs.declared.said.Said.TheVariants.{Nothing, Says, Refused}
use Rattle.flux_model.specs.declared.pattern.Mode.{Mode}
use Rattle.flux_model.specs.declared.pattern.PatternEdge.{PatternEdge}
use Rattle.flux_model.specs.declared.pattern.PatternPart.{PatternPart}
use Rattle.flux_model.specs.declared.pattern.PatternPart.TheVariants as part
use Rattle.flux_model.specs.declared.limits.Limits.{Limits}
use Rattle.flux_laws.specs.PatternsLaws.{IsPatternWithin, PatternFileMakesPatterns, PatternFileNamesDiffer, PatternFileKeepsLimits}
use Rattle.flux_laws.proofs.TestLemmas.{both, neither}
use Rattle.flux_laws.proofs.ReadingLemmas.{read_keeps, all-map, Saying, IsSoundPart, pattern_line}

-- ---- lists

all-push : {X : Type 0} (P : X → Type 0) (xs : List X) (x : X) → AllByRecursion P xs → P x → AllByRecursion P (xs ++ x ∷ [])
all-push P [] x a p = (p, tt)
all-push P (y ∷ ys) x a p = (a.0, all-push P ys x a.1 p)

all-weaker : {X : Type 0} (P Q : X → Type 0) → ((x : X) → P x → Q x) → (xs : List X) → AllByRecursion P xs → AllByRecursion Q xs
all-weaker P Q f [] a = tt
all-weaker P Q f (x ∷ xs) a = (f x a.0, all-weaker P Q f xs a.1)

any-push : {X : Type 0} (p : X → Bool) (xs : List X) (x : X) → list_any p xs ≡ false → p x ≡ false → list_any p (xs ++ x ∷ []) ≡ false
any-push p [] x a h = rw h refl
any-push p (y ∷ ys) x a h =
    let two = neither (p y) (list_any p ys) a in
    rw two.0 (any-push p ys x two.1 h)

-- an element that is the same as none before it
distinct-push : {X : Type 0} (same : X → X → Bool) (xs : List X) (x : X) → are_distinct_by same xs ≡ true → list_any (λ y. same y x) xs ≡ false → are_distinct_by same (xs ++ x ∷ []) ≡ true
distinct-push same [] x d a = refl
distinct-push same (y ∷ ys) x d a =
    let two = neither (same y x) (list_any (λ z. same z x) ys) a in
    let parts = both (not (list_any (same y) ys)) (are_distinct_by same ys) d in
    rw (any-push (same y) ys x (was_not (list_any (same y) ys) parts.0) two.0) (distinct-push same ys x parts.1 two.1)
  where
    was_not : (b : Bool) → not b ≡ true → b ≡ false
    was_not true e = cc
    was_not false e = refl

turned_edge : (e f : PatternEdge) → same_edge e f ≡ same_edge f e
turned_edge e f = λ i. nat_eq_equiv.symm e.tail f.tail i && nat_list_eq_equiv.symm e.label f.label i && nat_eq_equiv.symm e.head f.head i

turned_any : (e : PatternEdge) (fs : List PatternEdge) → list_any (λ f. same_edge f e) fs ≡ list_any (same_edge e) fs
turned_any e [] = refl
turned_any e (f ∷ fs) = λ i. turned_edge f e i || turned_any e fs i

-- ---- a pattern that grows

record IsGrown (limits : Limits) (q : PatternGraph) : Type 0 where
  name : IsText q.name
  labels : AllByRecursion IsLabelSet q.labels
  texts : AllByRecursion (λ (e : PatternEdge). IsText e.label) q.edges
  vertices : vertex_count q ≤ limits.pattern_vertices
  edges : length q.edges ≤ limits.pattern_edges
  ends : AllByRecursion (HasEnds (vertex_count q)) q.edges
  distinct : are_distinct_by same_edge q.edges ≡ true

record IsComplete (limits : Limits) (q : PatternGraph) : Type 0 where
  grown : IsGrown limits q
  some_vertex : 1 ≤ vertex_count q
  connected : is_connected q ≡ true

record AreComplete (limits : Limits) (qs : List PatternGraph) : Type 0 where
  each : AllByRecursion (IsComplete limits) qs
  names : are_distinct_by same_name qs ≡ true
  count : length qs ≤ limits.patterns

-- there is room for the pattern, and its name is new
record HasPlace (limits : Limits) (qs : List PatternGraph) (name : List ℕ) : Type 0 where
  new : list_any (λ (r : PatternGraph). bytes_eq r.name name) qs ≡ false
  room : length qs + 1 ≤ limits.patterns

abbrev MayGrow : Limits → List PatternGraph → Option OpenPattern → Type 0
MayGrow limits qs None = Unit {0}
MayGrow limits qs (Some o) = IsGrown limits o.pattern × HasPlace limits qs o.pattern.name

record IsDraft (limits : Limits) (draft : Draft) : Type 0 where
  complete : AreComplete limits draft.complete
  last : MayGrow limits draft.complete draft.last

abbrev with_pattern : List PatternGraph → PatternGraph → Result (List PatternGraph) Bad
with_pattern complete q = Ok (complete ++ q ∷ [])

close_keeps : (limits : Limits) (complete : List PatternGraph) (last : Option OpenPattern) (qs : List PatternGraph) → AreComplete limits complete → MayGrow limits complete last
    → close (record { complete = complete; last = last }) ≡ Ok qs → AreComplete limits qs
close_keeps limits complete None qs all may e = let same : complete ≡ qs = cc in subst (AreComplete limits) same all
close_keeps limits complete (Some o) qs all may e = by (vertex_count o.pattern == 0) refl (is_connected o.pattern) refl e
  where
    closed : 1 ≤ vertex_count o.pattern → is_connected o.pattern ≡ true → AreComplete limits (complete ++ o.pattern ∷ [])
    closed some connected = record {
      each = all-push (IsComplete limits) complete o.pattern all.each (record { grown = may.0; some_vertex = some; connected = connected });
      names = distinct-push same_name complete o.pattern all.names may.1.new;
      count = omega (arith, length-append complete (o.pattern ∷ []), may.1.room);
    }

    by : (b : Bool) → (vertex_count o.pattern == 0) ≡ b → (c : Bool) → is_connected o.pattern ≡ c
        → result_and_then (with_pattern complete) (refuse_at o.line b code.Empty (refuse_at o.line (not c) code.Apart (Ok o.pattern))) ≡ Ok qs → AreComplete limits qs
    by true p c r f = cc
    by false p false r f = cc
    by false p true r f =
        let same : complete ++ o.pattern ∷ [] ≡ qs = cc in
        let some : vertex_count o.pattern ≢ 0 = eqb-false (vertex_count o.pattern) 0 p in
        subst (AreComplete limits) same (closed (omega arith) r)

begin_keeps : (limits : Limits) (line : ℕ) (name : List ℕ) (mode : Mode) (complete : List PatternGraph) (draft : Draft) → AreComplete limits complete → IsText name
    → begin_pattern limits line name mode complete ≡ Ok draft → IsDraft limits draft
begin_keeps limits line name mode complete draft all text e = by (list_any (λ (q : PatternGraph). bytes_eq q.name name) complete) refl (nat_le limits.patterns (length complete)) refl e
  where
    begun : Draft
    begun = record { complete = complete; last = Some (record { line = line; pattern = new_pattern name mode }) }

    by : (b : Bool) → list_any (λ (q : PatternGraph). bytes_eq q.name name) complete ≡ b → (c : Bool) → nat_le limits.patterns (length complete) ≡ c
        → refuse_at line b code.Exists (refuse_at line c code.Full (Ok begun)) ≡ Ok draft → IsDraft limits draft
    by true p c r f = cc
    by false p true r f = cc
    by false p false r f =
        let same : begun ≡ draft = cc in
        let grown : IsGrown limits (new_pattern name mode) = record { name = text; labels = tt; texts = tt; vertices = omega arith; edges = omega arith; ends = tt; distinct = refl } in
        let more : length complete < limits.patterns = leb-false limits.patterns (length complete) r in
        let place : HasPlace limits complete name = record { new = p; room = omega arith } in
        subst (IsDraft limits) same (record { complete = all; last = (grown, place) })

-- a change of a pattern that leaves its name
record Grows (limits : Limits) (q r : PatternGraph) : Type 0 where
  grown : IsGrown limits r
  name : r.name ≡ q.name

vertex_grows : (limits : Limits) (line n : ℕ) (labels : List (List ℕ)) (q r : PatternGraph) → IsLabelSet labels → IsGrown limits q → add_pattern_vertex limits line n labels q ≡ Ok r → Grows limits q r
vertex_grows limits line n labels q r set g e = by (n == vertex_count q) (nat_le limits.pattern_vertices (vertex_count q)) refl e
  where
    more : PatternGraph
    more = record q { labels = q.labels ++ labels ∷ [] }

    count : vertex_count more ≡ vertex_count q + 1
    count = omega (arith, length-append q.labels (labels ∷ []))

    by : (b c : Bool) → nat_le limits.pattern_vertices (vertex_count q) ≡ c → refuse_at line (not b) code.Order (refuse_at line c code.Full (Ok more)) ≡ Ok r → Grows limits q r
    by false c p f = cc
    by true true p f = cc
    by true false p f =
        let same : more ≡ r = cc in
        let room : vertex_count q < limits.pattern_vertices = leb-false limits.pattern_vertices (vertex_count q) p in
        subst (Grows limits q) same (record {
          grown = record {
            name = g.name;
            labels = all-push IsLabelSet q.labels labels g.labels set;
            texts = g.texts;
            vertices = omega (arith, count, room);
            edges = g.edges;
            ends = all-weaker (HasEnds (vertex_count q)) (HasEnds (vertex_count more)) (λ e h. (omega (arith, count, h.0), omega (arith, count, h.1))) q.edges g.ends;
            distinct = g.distinct;
          };
          name = refl;
        })

edge_grows : (limits : Limits) (line : ℕ) (e : PatternEdge) (q r : PatternGraph) → IsText e.label → IsGrown limits q → add_pattern_edge limits line e q ≡ Ok r → Grows limits q r
edge_grows limits line e q r text g h =
    by (nat_le (vertex_count q) e.tail || nat_le (vertex_count q) e.head) refl (list_any (same_edge e) q.edges) refl (nat_le limits.pattern_edges (length q.edges)) refl h
  where
    more : PatternGraph
    more = record q { edges = q.edges ++ e ∷ [] }

    by : (b : Bool) → (nat_le (vertex_count q) e.tail || nat_le (vertex_count q) e.head) ≡ b → (c : Bool) → list_any (same_edge e) q.edges ≡ c → (d : Bool) → nat_le limits.pattern_edges (length q.edges) ≡ d
        → refuse_at line b code.NoVertex (refuse_at line c code.Exists (refuse_at line d code.Full (Ok more))) ≡ Ok r → Grows limits q r
    by true p c s d t f = cc
    by false p true s d t f = cc
    by false p false s true t f = cc
    by false p false s false t f =
        let same : more ≡ r = cc in
        let ends = neither (nat_le (vertex_count q) e.tail) (nat_le (vertex_count q) e.head) p in
        let room : length q.edges < limits.pattern_edges = leb-false limits.pattern_edges (length q.edges) t in
        subst (Grows limits q) same (record {
          grown = record {
            name = g.name;
            labels = g.labels;
            texts = all-push (λ (f : PatternEdge). IsText f.label) q.edges e g.texts text;
            vertices = g.vertices;
            edges = omega (arith, length-append q.edges (e ∷ []), room);
            ends = all-push (HasEnds (vertex_count q)) q.edges e g.ends (leb-false (vertex_count q) e.tail ends.0, leb-false (vertex_count q) e.head ends.1);
            distinct = distinct-push same_edge q.edges e g.distinct (turned_any e q.edges ∙ s);
          };
          name = refl;
        })

change_keeps : (limits : Limits) (line : ℕ) (complete : List PatternGraph) (last : Option OpenPattern) (next : Draft) (change : PatternGraph → Result PatternGraph Bad)
    → AreComplete limits complete → MayGrow limits complete last → ((q r : PatternGraph) → IsGrown limits q → change q ≡ Ok r → Grows limits q r)
    → change_last line (record { complete = complete; last = last }) change ≡ Ok next → IsDraft limits next
change_keeps limits line complete None next change all may grows e = cc
change_keeps limits line complete (Some o) next change all may grows e = by (change o.pattern) refl e
  where
    with : PatternGraph → Draft
    with q = record { complete = complete; last = Some (record o { pattern = q }) }

    place : (q : PatternGraph) → q.name ≡ o.pattern.name → HasPlace limits complete q.name
    place q same = subst (HasPlace limits complete) (sym same) may.1

    by : (r : Result PatternGraph Bad) → change o.pattern ≡ r → result_and_then (λ q. Ok (with q)) r ≡ Ok next → IsDraft limits next
    by (Err bad) p f = cc
    by (Ok q) p f =
        let same : with q ≡ next = cc in
        let g = grows o.pattern q may.0 p in
        subst (IsDraft limits) same (record { complete = all; last = (g.grown, place q g.name) })

part_keeps : (limits : Limits) (line : ℕ) (draft next : Draft) (p : PatternPart) → IsSoundPart p → IsDraft limits draft → take_part limits line draft p ≡ Ok next → IsDraft limits next
part_keeps limits line draft next (part.Name name mode) sound d e = by (close draft) refl e
  where
    by : (r : Result (List PatternGraph) Bad) → close draft ≡ r → result_and_then (begin_pattern limits line name mode) r ≡ Ok next → IsDraft limits next
    by (Err bad) q f = cc
    by (Ok complete) q f = begin_keeps limits line name mode complete next (close_keeps limits draft.complete draft.last complete d.complete d.last q) sound f
part_keeps limits line draft next (part.Vertex n labels) sound d e =
    change_keeps limits line draft.complete draft.last next (add_pattern_vertex limits line n labels) d.complete d.last (λ q r g f. vertex_grows limits line n labels q r sound g f) e
part_keeps limits line draft next (part.Edge tail head label) sound d e =
    let edge : PatternEdge = record { tail = tail; label = label; head = head } in
    change_keeps limits line draft.complete draft.last next (add_pattern_edge limits line edge) d.complete d.last (λ q r g f. edge_grows limits line edge q r sound g f) e

line_keeps : (limits : Limits) (k : ℕ) (draft next : Draft) (said : Said PatternPart) → Saying IsSoundPart said → IsDraft limits draft → patterns_after_line limits k draft said ≡ Ok next → IsDraft limits next
line_keeps limits k draft next Nothing sound d e = let same : draft ≡ next = cc in subst (IsDraft limits) same d
line_keeps limits k draft next (Refused c) sound d e = cc
line_keeps limits k draft next (Says p) sound d e = part_keeps limits k draft next p sound d e

file_keeps : (limits : Limits) (bytes : List ℕ) (qs : List PatternGraph) → patterns_of limits bytes ≡ Ok qs → AreComplete limits qs
file_keeps limits bytes qs e = by (read_patterns limits saids) refl e
  where
    saids : List (Said PatternPart)
    saids = map pattern_reading (lines limits.line_bytes bytes)

    none : IsDraft limits empty_draft
    none = record { complete = record { each = tt; names = refl; count = omega arith }; last = tt }

    by : (r : Result Draft Bad) → read_patterns limits saids ≡ r → result_and_then close r ≡ Ok qs → AreComplete limits qs
    by (Err bad) p f = cc
    by (Ok draft) p f =
        let d = read_keeps (IsDraft limits) (Saying IsSoundPart) (patterns_after_line limits) (line_keeps limits) 1 empty_draft draft saids
        (all-map (Saying IsSoundPart) pattern_reading pattern_line (lines limits.line_bytes bytes)) none p in
        close_keeps limits draft.complete draft.last qs d.complete d.last f

-- ---- the laws

-- an accepted pattern file makes patterns
pub makes_patterns : PatternFileMakesPatterns
makes_patterns limits bytes qs fair e = All-from_recursion IsPattern qs (all-weaker (IsComplete limits) IsPattern pattern qs (file_keeps limits bytes qs e).each)
  where
    pattern : (q : PatternGraph) → IsComplete limits q → IsPattern q
    pattern q c = record {
      name = c.grown.name;
      labels = c.grown.labels;
      texts = c.grown.texts;
      some_vertex = c.some_vertex;
      few_vertices = omega (arith, c.grown.vertices, fair.pattern_vertices.1);
      few_edges = omega (arith, c.grown.edges, fair.pattern_edges.1);
      ends = c.grown.ends;
      distinct = c.grown.distinct;
      connected = c.connected;
    }

-- no two have one name
pub names_differ : PatternFileNamesDiffer
names_differ limits bytes qs e = (file_keeps limits bytes qs e).names

-- within the limits
pub within_limits : PatternFileKeepsLimits
within_limits limits bytes qs e =
    let all = file_keeps limits bytes qs e in
    (all.count, All-from_recursion (IsPatternWithin limits) qs (all-weaker (IsComplete limits) (IsPatternWithin limits) (λ q c. record { vertices = c.grown.vertices; edges = c.grown.edges }) qs all.each))
