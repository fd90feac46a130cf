-- What a line says is sound: its numbers have 32 bits, and its labels are texts.
use Rattle.std.proofs.Common.{◌≡◌, ℕ, suc, ◌+◌, ◌<◌, ◌≤◌, Bool, true, false, ◌&&◌, cond, nat_le, nat_lt, List, [], ◌∷◌, length, map, Result, Ok, Err, refl, subst, arith}
use borrow.Author.Tests.{ltb-true, ltb-false}
use Rattle.std.specs.Prelude.{codes, ◌^◌}
use Rattle.std.specs.List.{list_all, AllByRecursion}
use Rattle.std.specs.Str.{bytes_eq}
use Rattle.flux_model.specs.Text.{IsText, is_text, text_cmp}
use Rattle.flux_model.specs.Ordered.{put}
use Rattle.flux_model.specs.Labels.{IsLabelSet, put_all, label_set, most_labels}
use Rattle.flux_model.specs.Lines.{InputLine, held, long}
use Rattle.flux_model.specs.FileReading.{result_and_then, read_from}
use Rattle.flux_model.specs.Reading.{is_digit, is_number, digits_value, is_comment, with_number, with_labels, read_vertex, read_edge, read_name, read_mode, read_words, words_of, read_graph_form, read_pattern_form, added_edge, pattern_edge, graph_reading, pattern_reading}
use Rattle.flux_model.specs.declared.pattern.Mode.TheVariants.{Hom, Iso}
use Rattle.flux_model.specs.declared.pattern.PatternPart.{PatternPart}
use Rattle.flux_model.specs.declared.pattern.PatternPart.TheVariants as part
use Rattle.flux_model.specs.declared.code.Code.TheVariants as code
use Rattle.flux_model.specs.declared.code.Bad.{Bad}
use Rattle.flux_model.specs.declared.said.Said.{Said}
use Rattle.flux_model.specs.declared.said.Said.TheVariants.{Nothing, Says, Refused}
use Rattle.flux_model.specs.declared.graph.Update.TheVariants.{AddVertex}
use Rattle.flux_laws.specs.GraphsLaws.{IsSound}
use Rattle.flux_laws.proofs.TestLemmas.{both}
use Rattle.flux_laws.proofs.LimitLemmas.{length-put}
use Rattle.flux_laws.proofs.NameSetLemmas.{put_all-list_all, put_all-ascending}

-- ---- lines that are taken one after another

-- what each sound line keeps, all of them keep
module _ {S L : Type 0} (P : S → Type 0) (Good : L → Type 0) (take : ℕ → S → L → Result S Bad) where
  -- what each accepted line keeps, an accepted file keeps
  pub read_keeps : ((k : ℕ) (s t : S) (line : L) → Good line → P s → take k s line ≡ Ok t → P t)
      → (k : ℕ) (s t : S) (ls : List L) → AllByRecursion Good ls → P s → read_from take k s ls ≡ Ok t → P t
  read_keeps step k s t [] all p e = let same : s ≡ t = cc in subst P same p
  read_keeps step k s t (line ∷ ls) all p e = by (take k s line) refl e (λ next. read_keeps step (suc k) next t ls all.1)
    where
      by : (r : Result S Bad) → take k s line ≡ r → result_and_then (λ next. read_from take (suc k) next ls) r ≡ Ok t → ((next : S) → P next → read_from take (suc k) next ls ≡ Ok t → P t) → P t
      by (Ok next) q f rest = rest next (step k s next line all.0 p q) f
      by (Err bad) q f rest = cc

-- what holds of each reading holds of all
pub all-map : {K L : Type 0} (Good : L → Type 0) (read : K → L) → ((x : K) → Good (read x)) → (xs : List K) → AllByRecursion Good (map read xs)
all-map Good read f [] = tt
all-map Good read f (x ∷ xs) = (f x, all-map Good read f xs)

-- ---- the parts of a line

-- what a line says passes the test, if it says anything
abbrev pub Saying : {T : Type 0} → (T → Type 0) → Said T → Type 0
Saying P Nothing = Unit {0}
Saying P (Refused c) = Unit {0}
Saying P (Says x) = P x

module _ {T : Type 0} (P : T → Type 0) where
  -- what both cases say
  pub either_way : (b : Bool) (x y : Said T) → (b ≡ true → Saying P x) → (b ≡ false → Saying P y) → Saying P (cond b x y)
  either_way true x y f g = f refl
  either_way false x y f g = g refl

  -- what a form with a number says
  pub number_said : (word : List ℕ) (next : ℕ → Said T) → ((n : ℕ) → n < 2 ^ 32 → Saying P (next n)) → Saying P (with_number word next)
  number_said word next f = either_way (is_number word) (next (digits_value word)) (Refused code.Number) (λ e. f (digits_value word) (small e)) (λ e. tt)
    where
      small : is_number word ≡ true → digits_value word < 2 ^ 32
      small e = ltb-true (digits_value word) 4294967296 (both (nat_le 1 (length word) && nat_le (length word) 10 && list_all is_digit word) (nat_lt (digits_value word) 4294967296) e).1

  -- what a form with labels says
  pub labels_said : (words : List (List ℕ)) (next : Said T) → (list_all is_text words ≡ true → Saying P next) → Saying P (with_labels words next)
  labels_said words next f = either_way (list_all is_text words) next (Refused code.Label) f (λ e. tt)

  length-put_all : (set names : List (List ℕ)) → length (put_all set names) ≤ length set + length names
  length-put_all set [] = omega arith
  length-put_all set (name ∷ names) =
      let rest = length-put_all (put text_cmp name set) names in
      let one = length-put text_cmp name set in omega arith

  label_set-set : (names : List (List ℕ)) → length names ≤ most_labels → list_all is_text names ≡ true → IsLabelSet (label_set names)
  label_set-set names few texts = record {
    few = omega (arith, length-put_all [] names, few);
    ascending = put_all-ascending [] names refl;
    texts = put_all-list_all is_text [] names refl texts;
  }

  -- what a vertex form says
  pub vertex_said : (make : ℕ → List (List ℕ) → T) → ((n : ℕ) (labels : List (List ℕ)) → n < 2 ^ 32 → IsLabelSet labels → P (make n labels)) → (words : List (List ℕ)) → Saying P (read_vertex make words)
  vertex_said make f [] = tt
  vertex_said make f (id ∷ labels) =
      either_way (nat_lt most_labels (length labels)) (Refused code.Arity) _ (λ e. tt)
      (λ e. number_said id (λ n. with_labels labels (Says (make n (label_set labels))))
      (λ n small. labels_said labels (Says (make n (label_set labels)))
      (λ texts. f n (label_set labels) small (label_set-set labels (ltb-false most_labels (length labels) e) texts))))

  -- what an edge form says
  pub edge_said : (make : ℕ → List ℕ → ℕ → T) → ((s : ℕ) (label : List ℕ) (d : ℕ) → IsText label → P (make s label d)) → (words : List (List ℕ)) → Saying P (read_edge make words)
  edge_said make f [] = tt
  edge_said make f (from ∷ []) = tt
  edge_said make f (from ∷ to ∷ []) = tt
  edge_said make f (from ∷ to ∷ label ∷ []) =
      number_said from (λ s. with_number to (λ d. with_labels (label ∷ []) (Says (make s label d))))
      (λ s a. number_said to (λ d. with_labels (label ∷ []) (Says (make s label d)))
      (λ d b. labels_said (label ∷ []) (Says (make s label d)) (λ texts. f s label d (both (is_text label) true texts).0)))
  edge_said make f (from ∷ to ∷ label ∷ more ∷ words) = tt

  -- what the words of a line say
  pub words_said : (form : List ℕ → List (List ℕ) → Said T) → ((word : List ℕ) (others : List (List ℕ)) → Saying P (form word others)) → (words : List (List ℕ)) → Saying P (read_words form words)
  words_said form f [] = tt
  words_said form f (word ∷ others) = either_way (is_comment word) Nothing (form word others) (λ e. tt) (λ e. f word others)

-- ---- a line of a graph file

pub graph_form : (word : List ℕ) (others : List (List ℕ)) → Saying IsSound (read_graph_form word others)
graph_form word others =
    either_way IsSound (bytes_eq word (codes "v")) (read_vertex AddVertex others) _
    (λ e. vertex_said IsSound AddVertex (λ n labels small set. record { id = small; labels = set }) others)
    (λ e. either_way IsSound (bytes_eq word (codes "e")) (read_edge added_edge others) (Refused code.Word)
    (λ d. edge_said IsSound added_edge (λ s label d text. text) others) (λ d. tt))

-- a line of a graph file says what may stand in a graph
pub graph_line : (line : InputLine) → Saying IsSound (graph_reading line)
graph_line long = tt
graph_line (held bytes) = words_said IsSound read_graph_form graph_form (words_of bytes)

-- ---- a line of a pattern file

-- what a part of a pattern file says is sound
abbrev pub IsSoundPart : PatternPart → Type 0
IsSoundPart (part.Name name mode) = IsText name
IsSoundPart (part.Vertex n labels) = IsLabelSet labels
IsSoundPart (part.Edge tail head label) = IsText label

mode_said : (name word : List ℕ) → IsText name → Saying IsSoundPart (read_mode name word)
mode_said name word text =
    either_way IsSoundPart (bytes_eq word (codes "hom")) (Says (part.Name name Hom)) _ (λ e. text)
    (λ e. either_way IsSoundPart (bytes_eq word (codes "iso")) (Says (part.Name name Iso)) (Refused code.Mode) (λ d. text) (λ d. tt))

name_said : (words : List (List ℕ)) → Saying IsSoundPart (read_name words)
name_said [] = tt
name_said (name ∷ []) = tt
name_said (name ∷ mode ∷ []) = labels_said IsSoundPart (name ∷ []) (read_mode name mode) (λ texts. mode_said name mode (both (is_text name) true texts).0)
name_said (name ∷ mode ∷ more ∷ words) = tt

pattern_form : (word : List ℕ) (others : List (List ℕ)) → Saying IsSoundPart (read_pattern_form word others)
pattern_form word others =
    either_way IsSoundPart (bytes_eq word (codes "p")) (read_name others) _ (λ e. name_said others)
    (λ e. either_way IsSoundPart (bytes_eq word (codes "v")) (read_vertex part.Vertex others) _
    (λ d. vertex_said IsSoundPart part.Vertex (λ n labels small set. set) others)
    (λ d. either_way IsSoundPart (bytes_eq word (codes "e")) (read_edge pattern_edge others) (Refused code.Word)
    (λ c. edge_said IsSoundPart pattern_edge (λ s label d text. text) others) (λ c. tt)))

-- a line of a pattern file says what may stand in a pattern
pub pattern_line : (line : InputLine) → Saying IsSoundPart (pattern_reading line)
pattern_line long = tt
pattern_line (held bytes) = words_said IsSoundPart read_pattern_form pattern_form (words_of bytes)
