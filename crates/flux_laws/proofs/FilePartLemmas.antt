-- An accepted pattern file in two parts, the second of which begins with a pattern.
use Rattle.std.proofs.Common.{◌≡◌, ℕ, suc, ◌+◌, Bool, true, false, ◌||◌, ◌==◌, not, nat_le, List, [], ◌∷◌, ◌++◌, length, map, Option, Some, None, Result, Ok, Err, refl, sym, ap, subst, ◌∙◌, arith, append_assoc, append-nil}
use Rattle.std.proofs.lemmas.Bool.Decides.{nat_tests}
use Rattle.std.proofs.lemmas.List.{map-append, length-append}
use Rattle.std.proofs.lemmas.List.Folds.{list_any-append}
use Rattle.std.specs.List.{list_any}
use Rattle.std.specs.Str.{bytes_eq}
use Rattle.flux_model.specs.Lines.{lines}
use Rattle.flux_model.specs.Reading.{pattern_reading}
use Rattle.flux_model.specs.FileReading.{result_and_then, read_from}
use Rattle.flux_model.specs.Pattern.{PatternGraph, vertex_count, same_edge, is_connected}
use Rattle.flux_model.specs.PatternFile.{OpenPattern, Draft, empty_draft, refuse_at, close_open, close, new_pattern, begin_pattern, add_pattern_vertex, add_pattern_edge, change_last, take_part, patterns_after_line, read_patterns}
use Rattle.flux_model.specs.declared.code.Code.{Code}
use Rattle.flux_model.specs.declared.code.Code.TheVariants as code
use Rattle.flux_model.specs.declared.code.Bad.{Bad}
use Rattle.flux_model.specs.declared.said.Said.{Said}
use Rattle.flux_model.specs.declared.said.Said.TheVariants.{Nothing, Says, Refused}
use Rattle.flux_model.specs.declared.pattern.Mode.{Mode}
use Rattle.flux_model.specs.declared.pattern.PatternEdge.{PatternEdge}
use Rattle.flux_model.specs.declared.pattern.PatternPart.{PatternPart}
use Rattle.flux_model.specs.declared.pattern.PatternPart.TheVariants as part
use Rattle.flux_model.specs.declared.limits.Limits.{Limits}
use Rattle.flux_model.proofs.FileReadingLemmas.{read_from-append}
use Rattle.flux_laws.proofs.ReportsLemmas.{lines-append}
use Rattle.flux_laws.specs.DividedLaws.{AreFileParts, PatternFileInParts}

-- ---- tests that refuse

-- what passes a test that would refuse it
passed : {T : Type 0} (line : ℕ) (b : Bool) (c : Code) (next : Result T Bad) (x : T) → refuse_at line b c next ≡ Ok x → (b ≡ false) × (next ≡ Ok x)
passed line true c next x e = cc
passed line false c next x e = (refl, e)

passes : {T : Type 0} (line : ℕ) (b : Bool) (c : Code) (next : Result T Bad) (x : T) → b ≡ false → next ≡ Ok x → refuse_at line b c next ≡ Ok x
passes line true c next x is_false e = cc
passes line false c next x is_false e = e

abbrev okay : PatternGraph → Result PatternGraph Bad
okay q = Ok q

-- ---- a draft with other patterns before it

-- an open pattern of one and of the other, which may have begun at another line
abbrev IsSameOpen : Option OpenPattern → Option OpenPattern → Type 0
IsSameOpen None None = Unit {0}
IsSameOpen None (Some p) = ⊥
IsSameOpen (Some o) None = ⊥
IsSameOpen (Some o) (Some p) = o.pattern ≡ p.pattern

-- the draft d is e behind the patterns qs
record IsBehind (qs : List PatternGraph) (d e : Draft) : Type 0 where
  pub complete : d.complete ≡ qs ++ e.complete
  pub open_last : IsSameOpen d.last e.last

abbrev draft : List PatternGraph → Option OpenPattern → Draft
draft complete last = record { complete = complete; last = last }

close_alike : (o p : OpenPattern) (q : PatternGraph) → o.pattern ≡ p.pattern → close_open o ≡ Ok q → close_open p ≡ Ok q
close_alike o p q same e =
    let a = passed o.line (vertex_count o.pattern == 0) code.Empty (refuse_at o.line (not (is_connected o.pattern)) code.Apart (Ok o.pattern)) q e in
    let b = passed o.line (not (is_connected o.pattern)) code.Apart (Ok o.pattern) q a.1 in
    passes p.line (vertex_count p.pattern == 0) code.Empty (refuse_at p.line (not (is_connected p.pattern)) code.Apart (Ok p.pattern)) q
    (subst (λ (r : PatternGraph). (vertex_count r == 0) ≡ false) same a.0)
    (passes p.line (not (is_connected p.pattern)) code.Apart (Ok p.pattern) q (subst (λ (r : PatternGraph). not (is_connected r) ≡ false) same b.0) (ap okay (sym same) ∙ b.1))

close_behind : (qs c ec : List PatternGraph) (l m : Option OpenPattern) (cs : List PatternGraph) → c ≡ qs ++ ec → IsSameOpen l m → close (draft c l) ≡ Ok cs
    → (rs : List PatternGraph) × (close (draft ec m) ≡ Ok rs) × (cs ≡ qs ++ rs)
close_behind qs c ec None None cs at same e = let as_is : c ≡ cs = cc in (ec, refl, sym as_is ∙ at)
close_behind qs c ec None (Some p) cs at same e = absurd same
close_behind qs c ec (Some o) None cs at same e = absurd same
close_behind qs c ec (Some o) (Some p) cs at same e = by (close_open o) refl e
  where
    by : (r : Result PatternGraph Bad) → close_open o ≡ r → result_and_then (λ q. Ok (c ++ q ∷ [])) r ≡ Ok cs
        → (rs : List PatternGraph) × (close (draft ec (Some p)) ≡ Ok rs) × (cs ≡ qs ++ rs)
    by (Ok q) f closed =
        let as_is : c ++ q ∷ [] ≡ cs = cc in
        (ec ++ q ∷ [], rw (close_alike o p q same f) refl, sym as_is ∙ ap (λ l. l ++ q ∷ []) at ∙ append_assoc qs ec (q ∷ []))
    by (Err bad) f closed = cc

-- ---- a line of the second part

abbrev begun : ℕ → List ℕ → Mode → List PatternGraph → Draft
begun line name mode complete = draft complete (Some (record { line = line; pattern = new_pattern name mode }))

begin_behind : (limits : Limits) (l m : ℕ) (name : List ℕ) (mode : Mode) (qs xs : List PatternGraph) (d : Draft) → begin_pattern limits l name mode (qs ++ xs) ≡ Ok d
    → (begin_pattern limits m name mode xs ≡ Ok (begun m name mode xs)) × (begun l name mode (qs ++ xs) ≡ d)
begin_behind limits l m name mode qs xs d e =
    let named : PatternGraph → Bool = λ (q : PatternGraph). bytes_eq q.name name in
    let a = passed l (list_any named (qs ++ xs)) code.Exists (refuse_at l (nat_le limits.patterns (length (qs ++ xs))) code.Full (Ok (begun l name mode (qs ++ xs)))) d e in
    let b = passed l (nat_le limits.patterns (length (qs ++ xs))) code.Full (Ok (begun l name mode (qs ++ xs))) d a.1 in
    let none : list_any named xs ≡ false = other (list_any named qs) (list_any named xs) (sym (list_any-append named qs xs) ∙ a.0) in
    let few : nat_le limits.patterns (length xs) ≡ false = let len = length-append qs xs in let over = b.0 in grind (arith, nat_tests) in
    let as_is : begun l name mode (qs ++ xs) ≡ d = got (begun l name mode (qs ++ xs)) d b.1 in (
      passes m (list_any named xs) code.Exists (refuse_at m (nat_le limits.patterns (length xs)) code.Full (Ok (begun m name mode xs))) (begun m name mode xs) none
          (passes m (nat_le limits.patterns (length xs)) code.Full (Ok (begun m name mode xs)) (begun m name mode xs) few refl),
      as_is,
    )
  where
    other : (a b : Bool) → (a || b) ≡ false → b ≡ false
    other false b e = e
    other true b e = cc

    got : (x y : Draft) → ◌≡◌ {A = Result Draft Bad} (Ok x) (Ok y) → x ≡ y
    got x y e = cc

vertex_alike : (limits : Limits) (l m n : ℕ) (labels : List (List ℕ)) (q r : PatternGraph) → add_pattern_vertex limits l n labels q ≡ Ok r → add_pattern_vertex limits m n labels q ≡ Ok r
vertex_alike limits l m n labels q r e =
    let last : Result PatternGraph Bad = Ok (record q { labels = q.labels ++ labels ∷ [] }) in
    let a = passed l (not (n == vertex_count q)) code.Order (refuse_at l (nat_le limits.pattern_vertices (vertex_count q)) code.Full last) r e in
    let b = passed l (nat_le limits.pattern_vertices (vertex_count q)) code.Full last r a.1 in
    passes m (not (n == vertex_count q)) code.Order (refuse_at m (nat_le limits.pattern_vertices (vertex_count q)) code.Full last) r a.0
    (passes m (nat_le limits.pattern_vertices (vertex_count q)) code.Full last r b.0 b.1)

edge_alike : (limits : Limits) (l m : ℕ) (f : PatternEdge) (q r : PatternGraph) → add_pattern_edge limits l f q ≡ Ok r → add_pattern_edge limits m f q ≡ Ok r
edge_alike limits l m f q r e =
    let last : Result PatternGraph Bad = Ok (record q { edges = q.edges ++ f ∷ [] }) in
    let outside : Bool = nat_le (vertex_count q) f.tail || nat_le (vertex_count q) f.head in
    let full : ℕ → Result PatternGraph Bad = λ k. refuse_at k (nat_le limits.pattern_edges (length q.edges)) code.Full last in
    let a = passed l outside code.NoVertex (refuse_at l (list_any (same_edge f) q.edges) code.Exists (full l)) r e in
    let b = passed l (list_any (same_edge f) q.edges) code.Exists (full l) r a.1 in
    let c = passed l (nat_le limits.pattern_edges (length q.edges)) code.Full last r b.1 in
    passes m outside code.NoVertex (refuse_at m (list_any (same_edge f) q.edges) code.Exists (full m)) r a.0
    (passes m (list_any (same_edge f) q.edges) code.Exists (full m) r b.0
    (passes m (nat_le limits.pattern_edges (length q.edges)) code.Full last r c.0 c.1))

-- a line that makes a draft of d makes one of e
abbrev GoesOn : List PatternGraph → Draft → Result Draft Bad → Type 0
GoesOn qs d result = (e : Draft) × (result ≡ Ok e) × IsBehind qs d e

change_behind : (qs c ec : List PatternGraph) (lo mo : Option OpenPattern) (l m : ℕ) (f h : PatternGraph → Result PatternGraph Bad) (d : Draft)
    → ((q r : PatternGraph) → f q ≡ Ok r → h q ≡ Ok r) → c ≡ qs ++ ec → IsSameOpen lo mo → change_last l (draft c lo) f ≡ Ok d → GoesOn qs d (change_last m (draft ec mo) h)
change_behind qs c ec None mo l m f h d alike at same e = cc
change_behind qs c ec (Some o) None l m f h d alike at same e = absurd same
change_behind qs c ec (Some o) (Some p) l m f h d alike at same e = by (f o.pattern) refl e
  where
    by : (r : Result PatternGraph Bad) → f o.pattern ≡ r → result_and_then (λ q. Ok (draft c (Some (record o { pattern = q })))) r ≡ Ok d → GoesOn qs d (change_last m (draft ec (Some p)) h)
    by (Ok q) g changed =
        let as_is : draft c (Some (record o { pattern = q })) ≡ d = cc in
        let then : h p.pattern ≡ Ok q = subst (λ r. h r ≡ Ok q) same (alike o.pattern q g) in
        let behind : IsBehind qs (draft c (Some (record o { pattern = q }))) (draft ec (Some (record p { pattern = q }))) = record { complete = at; open_last = refl } in
        (draft ec (Some (record p { pattern = q })), rw then refl, subst (λ x. IsBehind qs x (draft ec (Some (record p { pattern = q })))) as_is behind)
    by (Err bad) g changed = cc

part_behind : (limits : Limits) (l m : ℕ) (qs : List PatternGraph) (d e : Draft) (p : PatternPart) (next : Draft) → IsBehind qs d e → take_part limits l d p ≡ Ok next
    → GoesOn qs next (take_part limits m e p)
part_behind limits l m qs d e (part.Vertex n labels) next behind taken =
    change_behind qs d.complete e.complete d.last e.last l m (add_pattern_vertex limits l n labels) (add_pattern_vertex limits m n labels) next (vertex_alike limits l m n labels) behind.complete behind.open_last taken
part_behind limits l m qs d e (part.Edge tail head label) next behind taken =
    let f : PatternEdge = record { tail = tail; label = label; head = head } in
    change_behind qs d.complete e.complete d.last e.last l m (add_pattern_edge limits l f) (add_pattern_edge limits m f) next (edge_alike limits l m f) behind.complete behind.open_last taken
part_behind limits l m qs d e (part.Name name mode) next behind taken = by (close d) refl taken
  where
    by : (r : Result (List PatternGraph) Bad) → close d ≡ r → result_and_then (begin_pattern limits l name mode) r ≡ Ok next → GoesOn qs next (take_part limits m e (part.Name name mode))
    by (Ok cs) closed begins =
        let (rs, others, cut) = close_behind qs d.complete e.complete d.last e.last cs behind.complete behind.open_last closed in
        let two = begin_behind limits l m name mode qs rs next (subst (λ x. begin_pattern limits l name mode x ≡ Ok next) cut begins) in
        let same : IsBehind qs (begun l name mode (qs ++ rs)) (begun m name mode rs) = record { complete = refl; open_last = refl } in
        (begun m name mode rs, rw others two.0, subst (λ x. IsBehind qs x (begun m name mode rs)) two.1 same)
    by (Err bad) closed begins = cc

line_behind : (limits : Limits) (l m : ℕ) (qs : List PatternGraph) (d e : Draft) (said : Said PatternPart) (next : Draft) → IsBehind qs d e → patterns_after_line limits l d said ≡ Ok next
    → GoesOn qs next (patterns_after_line limits m e said)
line_behind limits l m qs d e Nothing next behind taken = let as_is : d ≡ next = cc in (e, refl, subst (λ x. IsBehind qs x e) as_is behind)
line_behind limits l m qs d e (Refused c) next behind taken = cc
line_behind limits l m qs d e (Says p) next behind taken = part_behind limits l m qs d e p next behind taken

-- all lines of it
lines_behind : (limits : Limits) (l m : ℕ) (qs : List PatternGraph) (d e : Draft) (saids : List (Said PatternPart)) (last : Draft) → IsBehind qs d e
    → read_from (patterns_after_line limits) l d saids ≡ Ok last → GoesOn qs last (read_from (patterns_after_line limits) m e saids)
lines_behind limits l m qs d e [] last behind read = let as_is : d ≡ last = cc in (e, refl, subst (λ x. IsBehind qs x e) as_is behind)
lines_behind limits l m qs d e (said ∷ saids) last behind read =
    by (patterns_after_line limits l d said) refl read (λ next other. lines_behind limits (suc l) (suc m) qs next other saids last)
  where
    take : ℕ → Draft → Said PatternPart → Result Draft Bad
    take = patterns_after_line limits

    by : (r : Result Draft Bad) → take l d said ≡ r → result_and_then (λ next. read_from take (suc l) next saids) r ≡ Ok last
        → ((next other : Draft) → IsBehind qs next other → read_from take (suc l) next saids ≡ Ok last → GoesOn qs last (read_from take (suc m) other saids))
        → GoesOn qs last (read_from take m e (said ∷ saids))
    by (Ok next) taken rest on =
        let (other, then, after) = line_behind limits l m qs d e said next behind taken in
        let (end, ended, at_end) = on next other after rest in
        (end, rw then ended, at_end)
    by (Err bad) taken rest on = cc

-- ---- both parts

-- the lines from the one that begins a pattern on make the patterns behind those that are complete, and the same from nothing
from_name : (limits : Limits) (n : ℕ) (name : List ℕ) (mode : Mode) (saids : List (Said PatternPart)) (d : Draft) (qs all : List PatternGraph) → close d ≡ Ok qs
    → result_and_then close (read_from (patterns_after_line limits) n d (Says (part.Name name mode) ∷ saids)) ≡ Ok all
    → (rs : List PatternGraph) × (result_and_then close (read_patterns limits (Says (part.Name name mode) ∷ saids)) ≡ Ok rs) × (all ≡ qs ++ rs)
from_name limits n name mode saids d qs all closed accepted =
    by (begin_pattern limits n name mode qs) refl
    (subst (λ r. result_and_then close (result_and_then (λ next. read_from take (suc n) next saids) (result_and_then (begin_pattern limits n name mode) r)) ≡ Ok all) closed accepted)
  where
    take : ℕ → Draft → Said PatternPart → Result Draft Bad
    take = patterns_after_line limits

    Parts : Type 0
    Parts = (rs : List PatternGraph) × (result_and_then close (read_patterns limits (Says (part.Name name mode) ∷ saids)) ≡ Ok rs) × (all ≡ qs ++ rs)

    ends : (next : Draft) → begin_pattern limits 1 name mode [] ≡ Ok (begun 1 name mode []) → IsBehind qs next (begun 1 name mode []) → (r : Result Draft Bad)
        → read_from take (suc n) next saids ≡ r → result_and_then close r ≡ Ok all → Parts
    ends next starts behind (Ok last) read f =
        let (e, ended, after) = lines_behind limits (suc n) 2 qs next (begun 1 name mode []) saids last behind read in
        let (rs, others, cut) = close_behind qs last.complete e.complete last.last e.last all after.complete after.open_last f in
        (rs, rw (starts, ended) others, cut)
    ends next starts behind (Err bad) read f = cc

    by : (r : Result Draft Bad) → begin_pattern limits n name mode qs ≡ r → result_and_then close (result_and_then (λ next. read_from take (suc n) next saids) r) ≡ Ok all → Parts
    by (Ok next) begins f =
        let two = begin_behind limits n 1 name mode qs [] next (subst (λ x. begin_pattern limits n name mode x ≡ Ok next) (sym (append-nil qs)) begins) in
        let same : IsBehind qs (begun n name mode (qs ++ [])) (begun 1 name mode []) = record { complete = refl; open_last = refl } in
        ends next two.0 (subst (λ x. IsBehind qs x (begun 1 name mode [])) two.1 same) (read_from take (suc n) next saids) refl f
    by (Err bad) begins f = cc

pub file_in_parts : PatternFileInParts
file_in_parts limits first second name mode saids all none begins accepted =
    by (read_patterns limits before) refl (subst (λ r. result_and_then close r ≡ Ok all) (ap (read_patterns limits) whole ∙ cut) accepted)
  where
    take : ℕ → Draft → Said PatternPart → Result Draft Bad
    take = patterns_after_line limits

    before : List (Said PatternPart)
    before = map pattern_reading (lines limits.line_bytes first)

    rest : List (Said PatternPart)
    rest = Says (part.Name name mode) ∷ saids

    whole : map pattern_reading (lines limits.line_bytes (first ++ second)) ≡ before ++ rest
    whole = ap (map pattern_reading) (lines-append limits.line_bytes first second none) ∙ map-append pattern_reading (lines limits.line_bytes first) (lines limits.line_bytes second)
        ∙ ap (λ l. before ++ l) begins

    cut : read_patterns limits (before ++ rest) ≡ result_and_then (λ next. read_from take (length before + 1) next rest) (read_patterns limits before)
    cut = read_from-append take 1 empty_draft before rest

    closes : (d : Draft) → read_patterns limits before ≡ Ok d → (r : Result (List PatternGraph) Bad) → close d ≡ r
        → result_and_then close (read_from take (length before + 1) d rest) ≡ Ok all → AreFileParts limits first second all
    closes d read (Ok qs) closed f =
        let (rs, others, in_two) = from_name limits (length before + 1) name mode saids d qs all closed f in
        record {
          qs = qs;
          rs = rs;
          first_part = rw read closed;
          second_part = subst (λ l. result_and_then close (read_patterns limits l) ≡ Ok rs) (sym begins) others;
          in_parts = in_two;
        }
    closes d read (Err bad) closed f = absurd (never (subst (λ r. result_and_then close (result_and_then (λ next. read_from take (suc (length before + 1)) next saids)
        (result_and_then (begin_pattern limits (length before + 1) name mode) r)) ≡ Ok all) closed f))
      where
        never : ◌≡◌ {A = Result (List PatternGraph) Bad} (Err bad) (Ok all) → ⊥
        never e = cc

    by : (r : Result Draft Bad) → read_patterns limits before ≡ r → result_and_then close (result_and_then (λ next. read_from take (length before + 1) next rest) r) ≡ Ok all
        → AreFileParts limits first second all
    by (Ok d) read f = closes d read (close d) refl f
    by (Err bad) read f = cc
