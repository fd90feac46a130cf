-- What is counted of the block of a line.
use Rattle.std.proofs.Common.{◌≡◌, ◌⊎◌, inl, inr, ℕ, suc, ◌+◌, ◌<◌, ◌^◌, ◌==◌, Bool, true, false, ◌&&◌, ◌||◌, not, cond, nat_le, nat_lt, List, [], ◌∷◌, ◌++◌, length, map, refl, sym, ap, subst, ◌∙◌, arith, append-nil, Contains, count_by}
use Rattle.std.proofs.lemmas.Bool.{eqb-true}
use Rattle.std.proofs.lemmas.Bool.Decides.{nat_tests}
use Rattle.std.proofs.lemmas.Cmp.{nat_list_eq_equiv}
use Rattle.std.proofs.lemmas.Fmt.{decimal_is_IsNumeral_wide}
use Rattle.std.proofs.lemmas.Grind.{flat_map-append}
use Rattle.std.proofs.lemmas.List.Folds.{list_all-append}
use Rattle.std.proofs.lemmas.List.Sums.{sum_by-append}
use Rattle.std.specs.Prelude.{codes}
use Rattle.std.specs.Fmt.{decimal}
use Rattle.std.specs.List.{list_all, list_any, flat_map, join_with_byte}
use Rattle.std.specs.Str.{bytes_eq}
use Rattle.flux_model.specs.Text.{is_text_byte, is_text}
use Rattle.flux_model.specs.Lines.{parts, all_but_last, open_end}
use Rattle.flux_model.specs.Reading.{is_blank, is_digit, words_of}
use Rattle.flux_model.specs.Code.{code_word}
use Rattle.flux_model.specs.Ordered.{are_distinct_by}
use Rattle.flux_model.specs.Graph.{Graph}
use Rattle.flux_model.specs.Pattern.{PatternGraph, same_name}
use Rattle.flux_model.specs.Change.{gained, lost}
use Rattle.flux_model.specs.Report.{outcome, next_graph, block, blocks, Ignored, Rejected, Changed, map_line, change_lines, refusal_line}
use Rattle.flux_model.specs.declared.code.Code.{Code}
use Rattle.flux_model.specs.declared.code.Code.TheVariants.{Long, Word, Arity, Number, Label, Exists, NoVertex, Absent, Busy, Full, Mode, NoName, Order, Empty, Apart}
use Rattle.flux_laws.specs.LinesLaws.{has_no_end, ended_text}
use Rattle.flux_laws.specs.WordsLaws.{is_word}
use Rattle.flux_laws.proofs.LinesLemmas.{unique}
use Rattle.flux_laws.proofs.MemberLemmas.{first_or_later, none_in}
use Rattle.flux_laws.proofs.TestLemmas.{both, neither}
use Rattle.flux_laws.proofs.WordsLemmas.{in_parts, word_read, decimal_digits}
use Rattle.flux_model.specs.Demo.{begin_with, is_map_line, map_lines}
use Rattle.flux_gen.specs.Law.{BlockCountsMaps, ReportCountsMaps}
use Rattle.flux_gen.proofs.DemoLemmas.{counts_add_up}
use Rattle.flux_gen.proofs.ReadLemmas.{digits_not_blank}

-- ---- no byte 10

no_end-append : (xs ys : List ℕ) → has_no_end xs ≡ true → has_no_end ys ≡ true → has_no_end (xs ++ ys) ≡ true
no_end-append [] ys a b = b
no_end-append (x ∷ xs) ys a b = by (x == 10) refl a (no_end-append xs ys)
  where
    by : (t : Bool) → (x == 10) ≡ t → not (t || list_any (λ y. y == 10) xs) ≡ true → (has_no_end xs ≡ true → has_no_end ys ≡ true → has_no_end (xs ++ ys) ≡ true)
        → not (t || list_any (λ y. y == 10) (xs ++ ys)) ≡ true
    by true e h ih = cc
    by false e h ih = ih h b

-- bytes that pass a test that byte 10 fails
no_end-all : (p : ℕ → Bool) → p 10 ≡ false → (bs : List ℕ) → list_all p bs ≡ true → has_no_end bs ≡ true
no_end-all p not_ten [] h = refl
no_end-all p not_ten (c ∷ cs) h = by (c == 10) refl h (no_end-all p not_ten cs)
  where
    by : (t : Bool) → (c == 10) ≡ t → p c && list_all p cs ≡ true → (list_all p cs ≡ true → has_no_end cs ≡ true) → not (t || list_any (λ y. y == 10) cs) ≡ true
    by true e k ih =
        let ten : p c ≡ false = ap p (eqb-true c 10 e) ∙ not_ten in
        let passes = (both (p c) (list_all p cs) k).0 in
        cc
    by false e k ih = ih (both (p c) (list_all p cs) k).1

no_end-decimal : (n : ℕ) → has_no_end (decimal n) ≡ true
no_end-decimal n = no_end-all is_digit refl (decimal n) (decimal_digits n)

no_end-join : (words : List (List ℕ)) → list_all has_no_end words ≡ true → has_no_end (join_with_byte 32 words) ≡ true
no_end-join [] h = refl
no_end-join (w ∷ []) h = (both (has_no_end w) true h).0
no_end-join (w ∷ v ∷ ws) h =
    let here = both (has_no_end w) (list_all has_no_end (v ∷ ws)) h in
    no_end-append w (32 ∷ join_with_byte 32 (v ∷ ws)) here.0 (no_end-join (v ∷ ws) here.1)

no_end-ids : (m : List ℕ) → list_all has_no_end (map decimal m) ≡ true
no_end-ids [] = refl
no_end-ids (n ∷ ns) = rw (no_end-decimal n) (no_end-ids ns)

-- ---- words

-- a word without a byte 10
record IsGood (w : List ℕ) : Type 0 where
  word : is_word w ≡ true
  no_end : has_no_end w ≡ true

text_not_blank : (c : ℕ) → is_text_byte c ≡ true → is_blank c ≡ false
text_not_blank c h = let low = (both (nat_le 33 c) (nat_le c 126) h).0 in grind (arith, nat_tests)

texts_not_blank : (bs : List ℕ) → list_all is_text_byte bs ≡ true → list_any is_blank bs ≡ false
texts_not_blank [] h = refl
texts_not_blank (c ∷ cs) h =
    let two = both (is_text_byte c) (list_all is_text_byte cs) h in
    let blank = text_not_blank c two.0 in
    rw blank (texts_not_blank cs two.1)

some_bytes : (n : ℕ) → nat_le 1 n ≡ true → nat_lt 0 n ≡ true
some_bytes n h = grind (arith, nat_tests)

text_good : (w : List ℕ) → is_text w ≡ true → IsGood w
text_good w h =
    let outer = both (nat_le 1 (length w) && nat_le (length w) 64) (list_all is_text_byte w) h in
    let some = some_bytes (length w) (both (nat_le 1 (length w)) (nat_le (length w) 64) outer.0).0 in
    record { word = rw (some, texts_not_blank w outer.1) refl; no_end = no_end-all is_text_byte refl w outer.1 }

decimal_good : (n : ℕ) → n < 10 ^ 64 → IsGood (decimal n)
decimal_good n h =
    let l = (decimal_is_IsNumeral_wide n h).0.0 in
    let some : nat_lt 0 (length (decimal n)) ≡ true = grind (arith, nat_tests) in
    record { word = rw (some, digits_not_blank (decimal n) (decimal_digits n)) refl; no_end = no_end-decimal n }

code_good : (c : Code) → IsGood (code_word c)
code_good Long = record { word = refl; no_end = refl }
code_good Word = record { word = refl; no_end = refl }
code_good Arity = record { word = refl; no_end = refl }
code_good Number = record { word = refl; no_end = refl }
code_good Label = record { word = refl; no_end = refl }
code_good Exists = record { word = refl; no_end = refl }
code_good NoVertex = record { word = refl; no_end = refl }
code_good Absent = record { word = refl; no_end = refl }
code_good Busy = record { word = refl; no_end = refl }
code_good Full = record { word = refl; no_end = refl }
code_good Mode = record { word = refl; no_end = refl }
code_good NoName = record { word = refl; no_end = refl }
code_good Order = record { word = refl; no_end = refl }
code_good Empty = record { word = refl; no_end = refl }
code_good Apart = record { word = refl; no_end = refl }

-- a word, and others after it
first_word : (w : List ℕ) (more : List (List ℕ)) → is_word w ≡ true → (ws : List (List ℕ)) × (words_of (join_with_byte 32 (w ∷ more)) ≡ w ∷ ws)
first_word w [] h = ([], word_read w h)
first_word w (v ∷ vs) h =
    (words_of (join_with_byte 32 (v ∷ vs)), in_parts w (join_with_byte 32 (v ∷ vs)) 32 refl ∙ ap (λ l. l ++ words_of (join_with_byte 32 (v ∷ vs))) (word_read w h))

-- ---- one line

abbrev line_body : (sign : List ℕ) (k : ℕ) (name m : List ℕ) → List ℕ
line_body sign k name m = join_with_byte 32 (sign ∷ decimal k ∷ name ∷ map decimal m)

line_counts : (s name sign nm : List ℕ) (k : ℕ) (m : List ℕ) → IsGood sign → k < 10 ^ 64 → IsGood nm
    → is_map_line s name (line_body sign k nm m) ≡ (bytes_eq sign s && bytes_eq nm name)
line_counts s name sign nm k m a h b =
    let third = first_word nm (map decimal m) b.word in
    let second : words_of (join_with_byte 32 (decimal k ∷ nm ∷ map decimal m)) ≡ decimal k ∷ words_of (join_with_byte 32 (nm ∷ map decimal m)) =
    in_parts (decimal k) (join_with_byte 32 (nm ∷ map decimal m)) 32 refl ∙ ap (λ l. l ++ words_of (join_with_byte 32 (nm ∷ map decimal m))) (word_read (decimal k) (decimal_good k h).word) in
    let first : words_of (line_body sign k nm m) ≡ sign ∷ words_of (join_with_byte 32 (decimal k ∷ nm ∷ map decimal m)) =
    in_parts sign (join_with_byte 32 (decimal k ∷ nm ∷ map decimal m)) 32 refl ∙ ap (λ l. l ++ words_of (join_with_byte 32 (decimal k ∷ nm ∷ map decimal m))) (word_read sign a.word) in
    ap (begin_with s name) (first ∙ ap (λ l. sign ∷ l) second ∙ ap (λ l. sign ∷ decimal k ∷ l) third.1)

line_no_end : (sign nm : List ℕ) (k : ℕ) (m : List ℕ) → IsGood sign → IsGood nm → has_no_end (line_body sign k nm m) ≡ true
line_no_end sign nm k m a b =
    let one = a.no_end in
    let two = no_end-decimal k in
    let three = b.no_end in
    no_end-join (sign ∷ decimal k ∷ nm ∷ map decimal m) (rw (one, two, three) (no_end-ids m))

-- ---- lines of one pattern and sign

abbrev bodies : (sign : List ℕ) (k : ℕ) (name : List ℕ) → List (List ℕ) → List (List ℕ)
bodies sign k name ms = map (line_body sign k name) ms

bodies_text : (sign : List ℕ) (k : ℕ) (name : List ℕ) (ms : List (List ℕ)) → flat_map (map_line sign k name) ms ≡ ended_text (bodies sign k name ms)
bodies_text sign k name [] = refl
bodies_text sign k name (m ∷ ms) = ap (λ l. (line_body sign k name m ++ 10 ∷ []) ++ l) (bodies_text sign k name ms)

bodies_no_end : (sign : List ℕ) (k : ℕ) (name : List ℕ) (ms : List (List ℕ)) → IsGood sign → IsGood name → list_all has_no_end (bodies sign k name ms) ≡ true
bodies_no_end sign k name [] a b = refl
bodies_no_end sign k name (m ∷ ms) a b = rw (line_no_end sign name k m a b) (bodies_no_end sign k name ms a b)

abbrev counted : (s name : List ℕ) → List (List ℕ) → ℕ
counted s name ls = count_by (is_map_line s name) ls

counted-append : (s name : List ℕ) (xs ys : List (List ℕ)) → counted s name (xs ++ ys) ≡ counted s name xs + counted s name ys
counted-append s name xs ys = sum_by-append (λ line. cond (is_map_line s name line) 1 0) xs ys

bodies_count : (s name sign nm : List ℕ) (k : ℕ) (ms : List (List ℕ)) (t : Bool) → IsGood sign → k < 10 ^ 64 → IsGood nm → (bytes_eq sign s && bytes_eq nm name) ≡ t
    → count_by (is_map_line s name) (bodies sign k nm ms) ≡ cond t (length ms) 0
bodies_count s name sign nm k [] true a h b e = refl
bodies_count s name sign nm k [] false a h b e = refl
bodies_count s name sign nm k (m ∷ ms) t a h b e =
    counted-append s name (line_body sign k nm m ∷ []) (bodies sign k nm ms)
    ∙ ap (λ c. (0 + cond c 1 0) + counted s name (bodies sign k nm ms)) (line_counts s name sign nm k m a h b ∙ e)
    ∙ by t (bodies_count s name sign nm k ms t a h b e)
  where
    by : (c : Bool) → counted s name (bodies sign k nm ms) ≡ cond c (length ms) 0 → (0 + cond c 1 0) + counted s name (bodies sign k nm ms) ≡ cond c (suc (length ms)) 0
    by true ih = omega arith
    by false ih = omega arith

-- ---- a block

plus_good : IsGood (codes "+")
plus_good = record { word = refl; no_end = refl }

minus_good : IsGood (codes "-")
minus_good = record { word = refl; no_end = refl }

abbrev pattern_bodies : ℕ → Graph → Graph → PatternGraph → List (List ℕ)
pattern_bodies k g h p = bodies (codes "+") k p.name (gained p g h) ++ bodies (codes "-") k p.name (lost p g h)

abbrev block_bodies : ℕ → Graph → Graph → List PatternGraph → List (List ℕ)
block_bodies k g h patterns = flat_map (pattern_bodies k g h) patterns

ended-append : (xs ys : List (List ℕ)) → ended_text (xs ++ ys) ≡ ended_text xs ++ ended_text ys
ended-append xs ys = flat_map-append (λ (line : List ℕ). line ++ 10 ∷ []) xs ys

block_text : (k : ℕ) (g h : Graph) (patterns : List PatternGraph) → flat_map (change_lines k g h) patterns ≡ ended_text (block_bodies k g h patterns)
block_text k g h [] = refl
block_text k g h (p ∷ ps) =
    let plus : List (List ℕ) = bodies (codes "+") k p.name (gained p g h) in
    let minus : List (List ℕ) = bodies (codes "-") k p.name (lost p g h) in
    (λ i. (bodies_text (codes "+") k p.name (gained p g h) i ++ bodies_text (codes "-") k p.name (lost p g h) i) ++ block_text k g h ps i)
    ∙ ap (λ l. l ++ ended_text (block_bodies k g h ps)) (sym (ended-append plus minus))
    ∙ sym (ended-append (plus ++ minus) (block_bodies k g h ps))

abbrev are_named : List PatternGraph → Bool
are_named patterns = list_all (λ (p : PatternGraph). is_text p.name) patterns

block_no_end : (k : ℕ) (g h : Graph) (patterns : List PatternGraph) → are_named patterns ≡ true → list_all has_no_end (block_bodies k g h patterns) ≡ true
block_no_end k g h [] named = refl
block_no_end k g h (p ∷ ps) named =
    let two = both (is_text p.name) (are_named ps) named in
    let good = text_good p.name two.0 in
    list_all-append has_no_end (pattern_bodies k g h p) (block_bodies k g h ps)
    ∙ ap (λ b. b && list_all has_no_end (block_bodies k g h ps)) (list_all-append has_no_end (bodies (codes "+") k p.name (gained p g h)) (bodies (codes "-") k p.name (lost p g h)))
    ∙ rw (bodies_no_end (codes "+") k p.name (gained p g h) plus_good good, bodies_no_end (codes "-") k p.name (lost p g h) minus_good good) (block_no_end k g h ps two.1)

-- the maps of the patterns with this name
abbrev total : (PatternGraph → ℕ) → (name : List ℕ) → List PatternGraph → ℕ
total f name [] = 0
total f name (p ∷ ps) = cond (bytes_eq p.name name) (f p) 0 + total f name ps

gains_total : (k : ℕ) (g h : Graph) (patterns : List PatternGraph) (name : List ℕ) → k < 10 ^ 64 → are_named patterns ≡ true
    → counted (codes "+") name (block_bodies k g h patterns) ≡ total (λ p. length (gained p g h)) name patterns
gains_total k g h [] name small named = refl
gains_total k g h (p ∷ ps) name small named =
    let two = both (is_text p.name) (are_named ps) named in
    let good = text_good p.name two.0 in
    let plus = bodies_count (codes "+") name (codes "+") p.name k (gained p g h) (bytes_eq p.name name) plus_good small good refl in
    let minus = bodies_count (codes "+") name (codes "-") p.name k (lost p g h) false minus_good small good refl in
    let rest = gains_total k g h ps name small two.1 in
    counted-append (codes "+") name (pattern_bodies k g h p) (block_bodies k g h ps)
    ∙ omega (arith, counted-append (codes "+") name (bodies (codes "+") k p.name (gained p g h)) (bodies (codes "-") k p.name (lost p g h)), plus, minus, rest)

losses_total : (k : ℕ) (g h : Graph) (patterns : List PatternGraph) (name : List ℕ) → k < 10 ^ 64 → are_named patterns ≡ true
    → counted (codes "-") name (block_bodies k g h patterns) ≡ total (λ p. length (lost p g h)) name patterns
losses_total k g h [] name small named = refl
losses_total k g h (p ∷ ps) name small named =
    let two = both (is_text p.name) (are_named ps) named in
    let good = text_good p.name two.0 in
    let plus = bodies_count (codes "-") name (codes "+") p.name k (gained p g h) false plus_good small good refl in
    let minus = bodies_count (codes "-") name (codes "-") p.name k (lost p g h) (bytes_eq p.name name) minus_good small good refl in
    let rest = losses_total k g h ps name small two.1 in
    counted-append (codes "-") name (pattern_bodies k g h p) (block_bodies k g h ps)
    ∙ omega (arith, counted-append (codes "-") name (bodies (codes "+") k p.name (gained p g h)) (bodies (codes "-") k p.name (lost p g h)), plus, minus, rest)

-- ---- one of several patterns

none_passes : {X : Type 0} (p : X → Bool) (xs : List X) (y : X) → list_any p xs ≡ false → Contains xs y → p y ≡ false
none_passes p [] y a c = absurd (none_in y c)
none_passes p (x ∷ xs) y a c = by (first_or_later y x xs c) (none_passes p xs y)
  where
    two : (p x ≡ false) × (list_any p xs ≡ false)
    two = neither (p x) (list_any p xs) a

    by : (y ≡ x) ⊎ Contains xs y → (list_any p xs ≡ false → Contains xs y → p y ≡ false) → p y ≡ false
    by (inl e) rest = ap p e ∙ two.0
    by (inr d) rest = rest two.1 d

was_not : (b : Bool) → not b ≡ true → b ≡ false
was_not true e = cc
was_not false e = refl

-- no other pattern has the name
total_none : (f : PatternGraph → ℕ) (q : PatternGraph) (ps : List PatternGraph) → list_any (same_name q) ps ≡ false → total f q.name ps ≡ 0
total_none f q [] a = refl
total_none f q (p ∷ ps) a =
    let two = neither (same_name q p) (list_any (same_name q) ps) a in
    let other : bytes_eq p.name q.name ≡ false = nat_list_eq_equiv.symm p.name q.name ∙ two.0 in
    rw other (omega (arith, total_none f q ps two.1))

total_one : (f : PatternGraph → ℕ) (q : PatternGraph) (ps : List PatternGraph) → are_distinct_by same_name ps ≡ true → Contains ps q → total f q.name ps ≡ f q
total_one f q [] d c = absurd (none_in q c)
total_one f q (p ∷ ps) d c = by (first_or_later q p ps c) (total_one f q ps)
  where
    two : (not (list_any (same_name p) ps) ≡ true) × (are_distinct_by same_name ps ≡ true)
    two = both (not (list_any (same_name p) ps)) (are_distinct_by same_name ps) d

    alone : list_any (same_name p) ps ≡ false
    alone = was_not (list_any (same_name p) ps) two.0

    head : total f p.name (p ∷ ps) ≡ f p
    head = let own : bytes_eq p.name p.name ≡ true = nat_list_eq_equiv.refl p.name in rw own (omega (arith, total_none f p ps alone))

    by : (q ≡ p) ⊎ Contains ps q → (are_distinct_by same_name ps ≡ true → Contains ps q → total f q.name ps ≡ f q) → total f q.name (p ∷ ps) ≡ f q
    by (inl e) rest = subst (λ (r : PatternGraph). total f r.name (p ∷ ps) ≡ f r) (sym e) head
    by (inr later) rest =
        let other : bytes_eq p.name q.name ≡ false = none_passes (same_name p) ps q alone later in
        rw other (omega (arith, rest two.1 later))

-- ---- the law

cut_of : (ls : List (List ℕ)) → list_all has_no_end ls ≡ true → (all_but_last (parts (ended_text ls)) ≡ ls) × (open_end (ended_text ls) ≡ [])
cut_of ls none =
    let cut = unique ls [] none refl in
    let same = append-nil (ended_text ls) in
    (ap (λ b. all_but_last (parts b)) (sym same) ∙ cut.0, ap open_end (sym same) ∙ cut.1)

refusal_body : ℕ → Code → List ℕ
refusal_body k c = line_body (codes "!") k (code_word c) []

bang_good : IsGood (codes "!")
bang_good = record { word = refl; no_end = refl }

pub block_counts_maps : BlockCountsMaps
block_counts_maps k patterns g Ignored q small named distinct c = record { gains = refl; losses = refl; ended = refl }
block_counts_maps k patterns g (Rejected code) q small named distinct c =
    let body : List ℕ = line_body (codes "!") k (code_word code) [] in
    let none = line_no_end (codes "!") (code_word code) k [] bang_good (code_good code) in
    let cut = cut_of (body ∷ []) (rw none refl) in
    let same : refusal_line k code ≡ ended_text (body ∷ []) = sym (append-nil (refusal_line k code)) in
    let plus = line_counts (codes "+") q.name (codes "!") (code_word code) k [] bang_good small (code_good code) in
    let minus = line_counts (codes "-") q.name (codes "!") (code_word code) k [] bang_good small (code_good code) in
    record {
      gains = ap (map_lines (codes "+") q.name) same ∙ ap (counted (codes "+") q.name) cut.0 ∙ ap (λ b. 0 + cond b 1 0) plus;
      losses = ap (map_lines (codes "-") q.name) same ∙ ap (counted (codes "-") q.name) cut.0 ∙ ap (λ b. 0 + cond b 1 0) minus;
      ended = ap open_end same ∙ cut.1;
    }
block_counts_maps k patterns g (Changed h) q small named distinct c =
    let ls : List (List ℕ) = block_bodies k g h patterns in
    let cut = cut_of ls (block_no_end k g h patterns named) in
    let same = block_text k g h patterns in
    record {
      gains = ap (map_lines (codes "+") q.name) same ∙ ap (counted (codes "+") q.name) cut.0 ∙ gains_total k g h patterns q.name small named ∙ total_one (λ p. length (gained p g h)) q patterns distinct c;
      losses = ap (map_lines (codes "-") q.name) same ∙ ap (counted (codes "-") q.name) cut.0 ∙ losses_total k g h patterns q.name small named ∙ total_one (λ p. length (lost p g h)) q patterns distinct c;
      ended = ap open_end same ∙ cut.1;
    }

pub report_counts_maps : ReportCountsMaps
report_counts_maps limits patterns g [] k q small named distinct c = record { gains = refl; losses = refl }
report_counts_maps limits patterns g (said ∷ saids) k q small named distinct c =
    let text : List ℕ = block limits k patterns g said in
    let more : List ℕ = blocks limits patterns (next_graph limits g said) saids (suc k) in
    let here = block_counts_maps k patterns g (outcome limits g said) q (omega arith) named distinct c in
    let rest = report_counts_maps limits patterns (next_graph limits g said) saids (suc k) q (omega arith) named distinct c in
    record {
      gains = counts_add_up (codes "+") q.name text more here.ended ∙ (λ i. here.gains i + rest.gains i);
      losses = counts_add_up (codes "-") q.name text more here.ended ∙ (λ i. here.losses i + rest.losses i);
    }
