-- The lines of a graph's text are read as what they say.
use Rattle.std.proofs.Common.{◌≡◌, ℕ, zero, suc, ◌+◌, ◌-◌, ◌*◌, ◌<◌, ◌≤◌, ◌^◌, ◌==◌, Bool, true, false, ◌&&◌, nat_le, nat_lt, List, [], ◌∷◌, ◌++◌, length, get_or, refl, ap, ◌∙◌, arith, length-append}
use Rattle.std.proofs.lemmas.Bool.Decides.{nat_tests}
use Rattle.std.proofs.lemmas.Fmt.{decimal_is_IsNumeral_wide, length-decimal-le_wide}
use Rattle.std.proofs.lemmas.List.Folds.{list_all-append}
use Rattle.std.proofs.lemmas.Map.Lookups.{exact_bytes}
use Rattle.std.specs.Prelude.{codes}
use Rattle.std.specs.Cmp.Lexicographic.{nat_list_cmp_total}
use Rattle.std.specs.List.{list_all, list_any, join_with_byte}
use Rattle.std.specs.Fmt.{decimal}
use Rattle.flux_model.specs.Text.{is_text_byte, is_text, IsText, text_cmp}
use Rattle.flux_model.specs.Lines.{held}
use Rattle.flux_model.specs.Labels.{IsLabelSet, label_set}
use Rattle.flux_model.specs.Reading.{is_blank, is_digit, words_of, graph_reading, read_words, read_graph_form, added_edge}
use Rattle.flux_model.specs.Graph.{IsVertex}
use Rattle.flux_model.specs.declared.said.Said.TheVariants.{Says}
use Rattle.flux_model.specs.declared.graph.Update.TheVariants.{AddVertex, AddEdge}
use Rattle.flux_model.specs.declared.graph.Triple.{Triple}
use Rattle.flux_model.specs.declared.graph.Vertex.{Vertex}
use Rattle.flux_laws.specs.LinesLaws.{is_plain}
use Rattle.flux_laws.specs.WordsLaws.{is_word}
use Rattle.flux_laws.proofs.TestLemmas.{both}
use Rattle.flux_laws.proofs.PlainLemmas.{list_all-weaker}
use Rattle.flux_laws.proofs.SetsLemmas.{determined, label_set_ascending, label_set_members}
use Rattle.flux_laws.proofs.WordsLemmas.{read_back, decimal_digits, decimal_read_back, id_number}

-- ---- bytes above the space

abbrev is_solid : ℕ → Bool
is_solid c = nat_le 33 c

-- the space, and what is above it
abbrev is_printed : ℕ → Bool
is_printed c = nat_le 32 c

abbrev is_solid_word : List ℕ → Bool
is_solid_word w = nat_le 1 (length w) && list_all is_solid w

solid_printed : (c : ℕ) → is_solid c ≡ true → is_printed c ≡ true
solid_printed c h = grind (arith, nat_tests)

solid_not_blank : (c : ℕ) → is_solid c ≡ true → is_blank c ≡ false
solid_not_blank c h = grind (arith, nat_tests)

text_solid : (c : ℕ) → is_text_byte c ≡ true → is_solid c ≡ true
text_solid c h = (both (nat_le 33 c) (nat_le c 126) h).0

digit_solid : (c : ℕ) → is_digit c ≡ true → is_solid c ≡ true
digit_solid c h = let low = (both (nat_le 48 c) (nat_le c 57) h).0 in grind (arith, nat_tests)

no_blank-solid : (bs : List ℕ) → list_all is_solid bs ≡ true → list_any is_blank bs ≡ false
no_blank-solid [] h = refl
no_blank-solid (c ∷ cs) h =
    let parts = both (is_solid c) (list_all is_solid cs) h in
    let blank = solid_not_blank c parts.0 in
    rw blank (no_blank-solid cs parts.1)

some_bytes : (n : ℕ) → nat_le 1 n ≡ true → nat_lt 0 n ≡ true
some_bytes n h = grind (arith, nat_tests)

solid_is_word : (w : List ℕ) → is_solid_word w ≡ true → is_word w ≡ true
solid_is_word w h =
    let parts = both (nat_le 1 (length w)) (list_all is_solid w) h in
    let some = some_bytes (length w) parts.0 in
    rw (some, no_blank-solid w parts.1) refl

solid_is_printed : (w : List ℕ) → is_solid_word w ≡ true → list_all is_printed w ≡ true
solid_is_printed w h = list_all-weaker is_solid is_printed solid_printed w (both (nat_le 1 (length w)) (list_all is_solid w) h).1

text_is_solid : (w : List ℕ) → is_text w ≡ true → is_solid_word w ≡ true
text_is_solid w h =
    let outer = both (nat_le 1 (length w) && nat_le (length w) 64) (list_all is_text_byte w) h in
    let some = (both (nat_le 1 (length w)) (nat_le (length w) 64) outer.0).0 in
    rw (some, list_all-weaker is_text_byte is_solid text_solid w outer.1) refl

length-text : (w : List ℕ) → is_text w ≡ true → length w ≤ 64
length-text w h =
    let outer = both (nat_le 1 (length w) && nat_le (length w) 64) (list_all is_text_byte w) h in
    let few = (both (nat_le 1 (length w)) (nat_le (length w) 64) outer.0).1 in
    grind (arith, nat_tests)

wide : (n : ℕ) → n < 2 ^ 32 → n < 10 ^ 64
wide n h = omega arith

decimal_is_solid : (n : ℕ) → n < 2 ^ 32 → is_solid_word (decimal n) ≡ true
decimal_is_solid n h =
    let l = (decimal_is_IsNumeral_wide n (wide n h)).0.0 in
    let some : nat_le 1 (length (decimal n)) ≡ true = grind (arith, nat_tests) in
    rw (some, list_all-weaker is_digit is_solid digit_solid (decimal n) (decimal_digits n)) refl

length-id : (n : ℕ) → n < 2 ^ 32 → length (decimal n) ≤ 10
length-id n h = length-decimal-le_wide 10 n (omega arith) (omega arith) (wide n h)

-- ---- a line of words

printed-join : (words : List (List ℕ)) → list_all is_solid_word words ≡ true → list_all is_printed (join_with_byte 32 words) ≡ true
printed-join [] h = refl
printed-join (w ∷ []) h = solid_is_printed w (both (is_solid_word w) true h).0
printed-join (w ∷ v ∷ ws) h =
    let parts = both (is_solid_word w) (list_all is_solid_word (v ∷ ws)) h in
    list_all-append is_printed w (32 ∷ join_with_byte 32 (v ∷ ws)) ∙ rw (solid_is_printed w parts.0) (printed-join (v ∷ ws) parts.1)

printed-not : (c d : ℕ) → d < 32 → is_printed c ≡ true → (c == d) ≡ false
printed-not c d low h = grind (arith, nat_tests)

no_end-printed : (bs : List ℕ) → list_all is_printed bs ≡ true → list_any (λ x. x == 10) bs ≡ false
no_end-printed [] h = refl
no_end-printed (c ∷ cs) h =
    let parts = both (is_printed c) (list_all is_printed cs) h in
    let other = printed-not c 10 (omega arith) parts.0 in
    rw other (no_end-printed cs parts.1)

no_return-printed : (bs : List ℕ) (k : ℕ) → list_all is_printed bs ≡ true → (get_or bs k 0 == 13) ≡ false
no_return-printed [] zero h = refl
no_return-printed [] (suc k) h = refl
no_return-printed (c ∷ cs) zero h = printed-not c 13 (omega arith) (both (is_printed c) (list_all is_printed cs) h).0
no_return-printed (c ∷ cs) (suc k) h = no_return-printed cs k (both (is_printed c) (list_all is_printed cs) h).1

fits : (l n : ℕ) → l ≤ n → nat_le l n ≡ true
fits l n h = grind (arith, nat_tests)

plain-join : (n : ℕ) (words : List (List ℕ)) → list_all is_solid_word words ≡ true → length (join_with_byte 32 words) ≤ n → is_plain n (join_with_byte 32 words) ≡ true
plain-join n words h few =
    let line : List ℕ = join_with_byte 32 words in
    let printed = printed-join words h in
    let last = no_return-printed line (length line - 1) printed in
    let ends = no_end-printed line printed in
    let short = fits (length line) n few in
    rw (ends, last, short) refl

reads-join : (words : List (List ℕ)) → list_all is_solid_word words ≡ true → words_of (join_with_byte 32 words) ≡ words
reads-join words h = read_back words (list_all-weaker is_solid_word is_word solid_is_word words h)

-- ---- vertices

-- the words of a vertex line
abbrev pub vertex_words : Vertex → List (List ℕ)
vertex_words v = codes "v" ∷ decimal v.id ∷ v.labels

vertex_solid : (v : Vertex) → IsVertex v → list_all is_solid_word (vertex_words v) ≡ true
vertex_solid v is =
    let id = decimal_is_solid v.id is.id in
    rw id (list_all-weaker is_text is_solid_word text_is_solid v.labels is.labels.texts)

length-labels : (w : List ℕ) (labels : List (List ℕ)) → list_all is_text labels ≡ true → length (join_with_byte 32 (w ∷ labels)) ≤ length w + 65 * length labels
length-labels w [] h = omega arith
length-labels w (l ∷ ls) h =
    let parts = both (is_text l) (list_all is_text ls) h in
    let rest = length-labels l ls parts.1 in
    let here = length-text l parts.0 in
    omega (arith, length-append w (32 ∷ join_with_byte 32 (l ∷ ls)))

-- the line is read as it stands
pub vertex_plain : (n : ℕ) (v : Vertex) → 1052 ≤ n → IsVertex v → is_plain n (join_with_byte 32 (vertex_words v)) ≡ true
vertex_plain n v room is =
    let labels = length-labels (decimal v.id) v.labels is.labels.texts in
    let id = length-id v.id is.id in
    let few = is.labels.few in
    plain-join n (vertex_words v) (vertex_solid v is) (omega arith)

same_set : (labels : List (List ℕ)) → IsLabelSet labels → label_set labels ≡ labels
same_set labels is = determined text_cmp nat_list_cmp_total exact_bytes (label_set labels) labels (label_set_ascending labels) is.ascending (label_set_members labels)

not_many : (n : ℕ) → n ≤ 16 → nat_lt 16 n ≡ false
not_many n h = grind (arith, nat_tests)

-- and it says that vertex
pub vertex_says : (v : Vertex) → IsVertex v → graph_reading (held (join_with_byte 32 (vertex_words v))) ≡ Says (AddVertex v.id v.labels)
vertex_says v is =
    let few = not_many (length v.labels) is.labels.few in
    let number = id_number v.id is.id in
    let texts = is.labels.texts in
    let value = decimal_read_back v.id (wide v.id is.id) in
    let set = same_set v.labels is.labels in
    ap (read_words read_graph_form) (reads-join (vertex_words v) (vertex_solid v is)) ∙ rw (few, number, texts) (λ i. Says (AddVertex (value i) (set i)))

-- ---- triples

-- the words of an edge line
abbrev pub triple_words : Triple → List (List ℕ)
triple_words t = codes "e" ∷ decimal t.src ∷ decimal t.dst ∷ t.label ∷ []

-- the ids have 32 bits, and the label is a text
pub record IsSmall (t : Triple) : Type 0 where
  pub src : t.src < 2 ^ 32
  pub dst : t.dst < 2 ^ 32
  pub label : IsText t.label

triple_solid : (t : Triple) → IsSmall t → list_all is_solid_word (triple_words t) ≡ true
triple_solid t is =
    let src = decimal_is_solid t.src is.src in
    let dst = decimal_is_solid t.dst is.dst in
    let label = text_is_solid t.label is.label in
    rw (src, dst, label) refl

-- the line is read as it stands
pub triple_plain : (n : ℕ) (t : Triple) → 1052 ≤ n → IsSmall t → is_plain n (join_with_byte 32 (triple_words t)) ≡ true
triple_plain n t room is =
    let src = length-id t.src is.src in
    let dst = length-id t.dst is.dst in
    let label = length-text t.label is.label in
    plain-join n (triple_words t) (triple_solid t is)
    (omega (arith, length-append (decimal t.src) (32 ∷ (decimal t.dst ++ 32 ∷ t.label)), length-append (decimal t.dst) (32 ∷ t.label)))

-- and it says that triple
pub triple_says : (t : Triple) → IsSmall t → graph_reading (held (join_with_byte 32 (triple_words t))) ≡ Says (AddEdge t)
triple_says t is =
    let from = id_number t.src is.src in
    let to = id_number t.dst is.dst in
    let text = is.label in
    let src = decimal_read_back t.src (wide t.src is.src) in
    let dst = decimal_read_back t.dst (wide t.dst is.dst) in
    ap (read_words read_graph_form) (reads-join (triple_words t) (triple_solid t is))
    ∙ rw (from, to, text) (λ i. Says (added_edge (src i) t.label (dst i)))
