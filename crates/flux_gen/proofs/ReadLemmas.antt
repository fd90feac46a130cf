-- The lines of the updates are read as what was drawn.
use Rattle.std.proofs.Common.{◌≡◌, ℕ, zero, suc, ◌-◌, ◌<◌, ◌≤◌, ◌^◌, ◌==◌, true, false, ◌&&◌, not, nat_le, nat_lt, List, [], ◌∷◌, ◌++◌, length, map, get_or, refl, sym, ap, ◌∙◌, arith}
use Rattle.std.proofs.lemmas.Bool.Decides.{nat_tests}
use Rattle.std.proofs.lemmas.Fmt.{decimal_is_IsNumeral_wide}
use Rattle.std.specs.Prelude.{codes}
use Rattle.std.specs.Fmt.{decimal}
use Rattle.std.specs.List.{list_all, list_any, flat_map, join_with_byte, AllByRecursion}
use Rattle.flux_model.specs.Lines.{held, lines}
use Rattle.flux_model.specs.Reading.{is_blank, is_digit, words_of, update_reading, read_words, read_graph_form, read_update_form, dropped_edge}
use Rattle.flux_model.specs.Graph.{IsVertex}
use Rattle.flux_model.specs.declared.said.Said.TheVariants.{Says}
use Rattle.flux_model.specs.declared.graph.Update.{Update}
use Rattle.flux_model.specs.declared.graph.Update.TheVariants.{AddVertex, DropVertex, AddEdge, DropEdge}
use Rattle.flux_model.specs.declared.graph.Triple.{Triple}
use Rattle.flux_model.specs.declared.graph.Vertex.{Vertex}
use Rattle.flux_laws.specs.LinesLaws.{has_no_end, ended_text, is_plain}
use Rattle.flux_laws.specs.WordsLaws.{is_word}
use Rattle.flux_laws.proofs.FormsLemmas.{IsSmall, vertex_words, vertex_plain, vertex_says, triple_words, triple_plain, triple_says}
use Rattle.flux_laws.proofs.PlainLemmas.{plain_lines}
use Rattle.flux_laws.proofs.TestLemmas.{both}
use Rattle.flux_laws.proofs.WordsLemmas.{read_back, decimal_digits, decimal_read_back, id_number}
use Rattle.flux_model.specs.Generated.{next, pick, steps, vertex_label, edge_label, vertex_of, after_triple, triples_from, updates_from, update_line, generated}
use Rattle.flux_gen.specs.Law.{generated_updates, UpdatesAreRead, UpdatesAreAll}
use Rattle.flux_gen.proofs.LawLemmas.{pick_below, vertex_is, triple_small, vertex_label_is, edge_label_is, edge_text}
use Rattle.flux_gen.proofs.SizesLemmas.{length-updates}
use Rattle.flux_gen.proofs.TurnsLemmas.{Makes, all_drawn, all_updates}

-- ---- words

digit_not_blank : (c : ℕ) → is_digit c ≡ true → is_blank c ≡ false
digit_not_blank c h = let low = (both (nat_le 48 c) (nat_le c 57) h).0 in grind (arith, nat_tests)

pub digits_not_blank : (bs : List ℕ) → list_all is_digit bs ≡ true → list_any is_blank bs ≡ false
digits_not_blank [] h = refl
digits_not_blank (c ∷ cs) h =
    let parts = both (is_digit c) (list_all is_digit cs) h in
    let blank = digit_not_blank c parts.0 in
    rw blank (digits_not_blank cs parts.1)

wide : (n : ℕ) → n < 2 ^ 32 → n < 10 ^ 64
wide n h = omega arith

decimal_word : (n : ℕ) → n < 2 ^ 32 → is_word (decimal n) ≡ true
decimal_word n h =
    let l = (decimal_is_IsNumeral_wide n (wide n h)).0.0 in
    let some : nat_lt 0 (length (decimal n)) ≡ true = grind (arith, nat_tests) in
    rw (some, digits_not_blank (decimal n) (decimal_digits n)) refl

vertex_word : (x : ℕ) → x < 2 → is_word (vertex_label x) ≡ true
vertex_word zero l = ap is_word (vertex_label_is 0 (omega arith))
vertex_word (suc zero) l = ap is_word (vertex_label_is 1 (omega arith))
vertex_word (suc (suc x)) l = absurd (omega arith)

edge_word : (y : ℕ) → y < 4 → is_word (edge_label y) ≡ true
edge_word zero l = ap is_word (edge_label_is 0 (omega arith))
edge_word (suc zero) l = ap is_word (edge_label_is 1 (omega arith))
edge_word (suc (suc zero)) l = ap is_word (edge_label_is 2 (omega arith))
edge_word (suc (suc (suc zero))) l = ap is_word (edge_label_is 3 (omega arith))
edge_word (suc (suc (suc (suc y)))) l = absurd (omega arith)

-- ---- updates

abbrev update_words : Update → List (List ℕ)
update_words (AddVertex id labels) = codes "v" ∷ decimal id ∷ labels
update_words (DropVertex id) = codes "-v" ∷ decimal id ∷ []
update_words (AddEdge t) = triple_words t
update_words (DropEdge t) = codes "-e" ∷ decimal t.src ∷ decimal t.dst ∷ t.label ∷ []

abbrev update_bytes : Update → List ℕ
update_bytes u = join_with_byte 32 (update_words u)

record IsPlainTriple (t : Triple) : Type 0 where
  small : IsSmall t
  word : is_word t.label ≡ true

-- the line is plain, and says the update
record IsReadUpdate (u : Update) : Type 0 where
  line : update_line u ≡ update_bytes u ++ 10 ∷ []
  plain : is_plain 4096 (update_bytes u) ≡ true
  says : update_reading (held (update_bytes u)) ≡ Says u

-- a line that begins with a minus sign
get-later : (c : ℕ) (cs : List ℕ) → get_or (45 ∷ c ∷ cs) (length (45 ∷ c ∷ cs) - 1) 0 ≡ get_or (c ∷ cs) (length (c ∷ cs) - 1) 0
get-later c cs =
    let a : length (45 ∷ c ∷ cs) - 1 ≡ suc (length cs) = omega arith in
    let b : length (c ∷ cs) - 1 ≡ length cs = omega arith in
    ap (λ k. get_or (45 ∷ c ∷ cs) k 0) a ∙ sym (ap (λ k. get_or (c ∷ cs) k 0) b)

fits_more : (l n : ℕ) → nat_le l n ≡ true → nat_le (suc l) (suc n) ≡ true
fits_more l n h = grind (arith, nat_tests)

plain_minus : (c : ℕ) (cs : List ℕ) → is_plain 4095 (c ∷ cs) ≡ true → is_plain 4096 (45 ∷ c ∷ cs) ≡ true
plain_minus c cs h =
    let line : List ℕ = c ∷ cs in
    let outer = both (has_no_end line && not (get_or line (length line - 1) 0 == 13)) (nat_le (length line) 4095) h in
    let inner = both (has_no_end line) (not (get_or line (length line - 1) 0 == 13)) outer.0 in
    let ends = inner.0 in
    let last : not (get_or (45 ∷ line) (length (45 ∷ line) - 1) 0 == 13) ≡ true = ap (λ b. not (b == 13)) (get-later c cs) ∙ inner.1 in
    let short = fits_more (length line) 4095 outer.1 in
    rw (ends, last, short) refl

triple_is : (t : Triple) → IsPlainTriple t → list_all is_word (decimal t.src ∷ decimal t.dst ∷ t.label ∷ []) ≡ true
triple_is t is =
    let src = decimal_word t.src is.small.src in
    let dst = decimal_word t.dst is.small.dst in
    let label = is.word in
    rw (src, dst, label) refl

adds_edge : (t : Triple) → IsPlainTriple t → IsReadUpdate (AddEdge t)
adds_edge t is =
    let words : words_of (update_bytes (AddEdge t)) ≡ triple_words t = read_back (triple_words t) (triple_is t is) in
    record {
      line = refl;
      plain = triple_plain 4096 t (omega arith) is.small;
      says = ap (read_words read_update_form) words ∙ sym (ap (read_words read_graph_form) words) ∙ triple_says t is.small;
    }

drops_edge : (t : Triple) → IsPlainTriple t → IsReadUpdate (DropEdge t)
drops_edge t is =
    let words : words_of (update_bytes (DropEdge t)) ≡ update_words (DropEdge t) = read_back (update_words (DropEdge t)) (triple_is t is) in
    let from = id_number t.src is.small.src in
    let to = id_number t.dst is.small.dst in
    let text = is.small.label in
    let src = decimal_read_back t.src (wide t.src is.small.src) in
    let dst = decimal_read_back t.dst (wide t.dst is.small.dst) in
    record {
      line = refl;
      plain = plain_minus 101 (32 ∷ (decimal t.src ++ 32 ∷ (decimal t.dst ++ 32 ∷ t.label))) (triple_plain 4095 t (omega arith) is.small);
      says = ap (read_words read_update_form) words ∙ rw (from, to, text) (λ i. Says (dropped_edge (src i) t.label (dst i)));
    }

adds_vertex : (id x : ℕ) → id < 2 ^ 32 → x < 2 → IsReadUpdate (AddVertex id (vertex_label x ∷ []))
adds_vertex id x small l =
    let v : Vertex = vertex_of id x in
    let is = vertex_is id x small l in
    let number = decimal_word id small in
    let label = vertex_word x l in
    let all : list_all is_word (vertex_words v) ≡ true = rw (number, label) refl in
    let words : words_of (update_bytes (AddVertex id (vertex_label x ∷ []))) ≡ vertex_words v = read_back (vertex_words v) all in
    record {
      line = refl;
      plain = vertex_plain 4096 v (omega arith) is;
      says = ap (read_words read_update_form) words ∙ sym (ap (read_words read_graph_form) words) ∙ vertex_says v is;
    }

drops_vertex : (id : ℕ) → id < 2 ^ 32 → IsReadUpdate (DropVertex id)
drops_vertex id small =
    let v : Vertex = record { id = id; labels = [] } in
    let is : IsVertex v = record { id = small; labels = record { few = omega arith; ascending = refl; texts = refl } } in
    let word = decimal_word id small in
    let all : list_all is_word (update_words (DropVertex id)) ≡ true = rw word refl in
    let words : words_of (update_bytes (DropVertex id)) ≡ update_words (DropVertex id) = read_back (update_words (DropVertex id)) all in
    let number = id_number id small in
    let value = decimal_read_back id (wide id small) in
    record {
      line = refl;
      plain = plain_minus 118 (32 ∷ decimal id) (vertex_plain 4095 v (omega arith) is);
      says = ap (read_words read_update_form) words ∙ rw number (λ i. Says (DropVertex (value i)));
    }

makes_read : (v : ℕ) → 1 ≤ v → v ≤ 2 ^ 20 → Makes v IsPlainTriple IsReadUpdate
makes_read v some few = record {
  new = λ s. record { small = triple_small v s some few; word = edge_word (pick (next (next s)) 4) (pick_below (next (next s)) 4 (omega arith)) };
  none = record { small = record { src = omega arith; dst = omega arith; label = edge_text 0 (omega arith) }; word = edge_word 0 (omega arith) };
  adds = adds_edge;
  drops = drops_edge;
  comes = λ id x low l. adds_vertex id x (omega arith) l;
  goes = λ id low. drops_vertex id (omega arith);
}

-- ---- all lines

text_of : (us : List Update) → AllByRecursion IsReadUpdate us → flat_map update_line us ≡ ended_text (map update_bytes us)
text_of [] all = refl
text_of (u ∷ us) all = let rest = text_of us all.1 in λ i. all.0.line i ++ rest i

plain_of : (us : List Update) → AllByRecursion IsReadUpdate us → list_all (is_plain 4096) (map update_bytes us) ≡ true
plain_of [] all = refl
plain_of (u ∷ us) all = let here = all.0.plain in rw here (plain_of us all.1)

says_of : (us : List Update) → AllByRecursion IsReadUpdate us → map update_reading (map held (map update_bytes us)) ≡ map Says us
says_of [] all = refl
says_of (u ∷ us) all = let first = all.0.says in let rest = says_of us all.1 in λ i. first i ∷ rest i

lines_say : (us : List Update) → AllByRecursion IsReadUpdate us → map update_reading (lines 4096 (flat_map update_line us)) ≡ map Says us
lines_say us all =
    ap (λ b. map update_reading (lines 4096 b)) (text_of us all)
    ∙ ap (map update_reading) (plain_lines 4096 (map update_bytes us) (plain_of us all))
    ∙ says_of us all

pub updates_read : UpdatesAreRead
unfolding generated generated_updates
updates_read number n m u sizes =
    let edges : ℕ = steps next n number in
    let ts : List Triple = triples_from n m edges in
    let makes = makes_read n sizes.some sizes.vertices in
    lines_say (updates_from n u ts (steps after_triple m edges))
    (all_updates n IsPlainTriple IsReadUpdate makes u (steps after_triple m edges) ts (all_drawn IsPlainTriple n m edges makes.new))

pub updates_all : UpdatesAreAll
unfolding generated_updates
updates_all number n m u = length-updates n u (steps after_triple m (steps next n number)) (triples_from n m (steps next n number))
