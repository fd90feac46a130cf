-- The bytes that are kept of a stream stand for all of it.
use Rattle.std.proofs.Common.{◌≡◌, slice_index, ℕ, ◌+◌, ◌-◌, ◌==◌, ◌≤◌, ◌<◌, List, [], ◌∷◌, ◌++◌, length, take, drop, map, min, refl, sym, ap, ◌∙◌, append_assoc, append-nil, length-append, take-append-drop, arith, if◌then◌else◌, ◌⊎◌, inl, inr, Option, Some, Bool, true, false, nat_le, subst}
use Rattle.std.proofs.Math.Nat.{eq-or-lt_of_le}
use Rattle.std.proofs.Math.Seq.{take-add}
use Rattle.std.proofs.lemmas.List.{length-take, length-drop, take_all, drop-append-le}
use Rattle.std.proofs.lemmas.Bool.Decides.{nat_tests}
use Rattle.flux_model.specs.Lines.{InputLine, held, long, without_return, line_of, parts, all_but_last, last_part, open_end, whole, rest_of, rest, last_line, lines}
use Rattle.stream_lines.specs.Buffer.{IsFirstLen, IsOpenPlace, Stands}
use Rattle.stream_lines.specs.Waiting.{Waiting}
use Rattle.stream_lines.specs.Follows.{Follows, rest_line}
use Rattle.stream_lines.proofs.PartsLemmas.{onto, parts-cons, parts-front, whole-onto, open_end-onto, open_end-no_lines, whole-first}

-- a rest tells all that matters of the bytes of a line
held_same : (s t : List ℕ) → held s ≡ held t → s ≡ t
held_same s t e = grind arith

not_within : (a n : ℕ) → n < a → nat_le a n ≡ false
not_within a n lt = grind (arith, nat_tests)

-- too many bytes are long
rest_of-long : (n : ℕ) (l : List ℕ) → n + 1 < length l → rest_of n l ≡ long
rest_of-long n l lt = grind (arith, nat_tests)

without_return-len : (l : List ℕ) (b : Bool) → length l ≤ length (if b then take (length l - 1) l else l) + 1
without_return-len l true = omega (arith, length-take (length l - 1) l)
without_return-len l false = omega arith

line_of-long : (n : ℕ) (l : List ℕ) → n + 1 < length l → line_of n l ≡ long
line_of-long n l lt =
    let len = without_return-len l (slice_index l (length l - 1) == 13) in
    ap (λ b. if b then held (without_return l) else long) (not_within (length (without_return l)) n (omega (arith, len)))

rest_of-cases : (n : ℕ) (s t q : List ℕ) (a b : Bool) → nat_le (length s) (n + 1) ≡ a → nat_le (length t) (n + 1) ≡ b
    → (if a then held s else long) ≡ (if b then held t else long) → (rest_of n (s ++ q) ≡ rest_of n (t ++ q)) × (line_of n (s ++ q) ≡ line_of n (t ++ q))
rest_of-cases n s t q true true e f same = let is = held_same s t same in (ap (λ l. rest_of n (l ++ q)) is, ap (λ l. line_of n (l ++ q)) is)
rest_of-cases n s t q true false e f same = absurd (grind arith)
rest_of-cases n s t q false true e f same = absurd (grind arith)
rest_of-cases n s t q false false e f same =
    let s_long : n + 1 < length s = grind (arith, nat_tests) in
    let t_long : n + 1 < length t = grind (arith, nat_tests) in
    let s_more : n + 1 < length (s ++ q) = omega (arith, length-append s q) in
    let t_more : n + 1 < length (t ++ q) = omega (arith, length-append t q) in
    (rest_of-long n (s ++ q) s_more ∙ sym (rest_of-long n (t ++ q) t_more), line_of-long n (s ++ q) s_more ∙ sym (line_of-long n (t ++ q) t_more))

-- bytes of the same rest have the same rest with more behind them
pub rest_of-append : (n : ℕ) (s t q : List ℕ) → rest_of n s ≡ rest_of n t → (rest_of n (s ++ q) ≡ rest_of n (t ++ q)) × (line_of n (s ++ q) ≡ line_of n (t ++ q))
rest_of-append n s t q same = rest_of-cases n s t q (nat_le (length s) (n + 1)) (nat_le (length t) (n + 1)) refl refl same

-- the lines and the rest behind two open ends with one rest
onto-same : (n : ℕ) (s t q : List ℕ) (qs : List (List ℕ)) → rest_of n s ≡ rest_of n t
    → (map (line_of n) (all_but_last (onto s (q ∷ qs))) ≡ map (line_of n) (all_but_last (onto t (q ∷ qs))))
    × (rest_of n (last_part (onto s (q ∷ qs))) ≡ rest_of n (last_part (onto t (q ∷ qs))))
onto-same n s t q [] same = (refl, (rest_of-append n s t q same).0)
onto-same n s t q (c ∷ qs) same = (ap (λ l. l ∷ map (line_of n) (all_but_last (c ∷ qs))) (rest_of-append n s t q same).1, refl)

-- the same, over any bytes
pub same-further : (n : ℕ) (b w p : List ℕ) → rest n b ≡ rest n w
    → (map (line_of n) (all_but_last (onto (open_end b) (parts p))) ≡ map (line_of n) (all_but_last (onto (open_end w) (parts p))))
    × (rest n (b ++ p) ≡ rest n (w ++ p))
same-further n b w p same =
    let d = parts-cons p in
    let both = onto-same n (open_end b) (open_end w) d.0 d.1 same in (
      ap (λ l. map (line_of n) (all_but_last (onto (open_end b) l))) d.2 ∙ both.0 ∙ ap (λ l. map (line_of n) (all_but_last (onto (open_end w) l))) (sym d.2),
      ap (rest_of n) (open_end-onto b p) ∙ ap (λ l. rest_of n (last_part (onto (open_end b) l))) d.2 ∙ both.1
          ∙ ap (λ l. rest_of n (last_part (onto (open_end w) l))) (sym d.2) ∙ ap (rest_of n) (sym (open_end-onto w p)),
    )

-- a piece follows the bytes that are kept, as it follows the bytes that came
pub Follows-kept : (n : ℕ) (w piece kept : List ℕ) (left : ℕ) (old seen : Waiting)
    → seen ≡ record { line_bytes = n; queue = whole n w; rest = rest n w } → seen ≡ old → Stands n (w ++ piece) (w ++ kept) left
    → (b : List ℕ) → rest old.line_bytes b ≡ old.rest
    → Follows b piece old (record { line_bytes = n; queue = whole n (w ++ kept); rest = rest n (w ++ kept) })
Follows-kept n w piece kept left old seen is same stands =
    subst (λ (s : Waiting). (b : List ℕ) → rest s.line_bytes b ≡ s.rest → Follows b piece s (record { line_bytes = n; queue = whole n (w ++ kept); rest = rest n (w ++ kept) }))
    (sym is ∙ same)
    (λ b before.
    let both = same-further n b w piece before in
    record {
      more = map (line_of n) (all_but_last (onto (open_end b) (parts piece)));
      lines = whole-onto n b piece;
      queue = stands.whole ∙ whole-onto n w piece ∙ ap (λ l. whole n w ++ l) (sym both.0);
      rest = stands.rest ∙ sym both.1;
    })

-- behind bytes that no further line end follows
whole-behind : (n : ℕ) (b p : List ℕ) → parts p ≡ p ∷ [] → whole n (b ++ p) ≡ whole n b
whole-behind n b p one = whole-onto n b p ∙ rw one (append-nil _)

open_end-behind : (b p : List ℕ) → parts p ≡ p ∷ [] → open_end (b ++ p) ≡ open_end b ++ p
open_end-behind b p one = open_end-onto b p ∙ rw one refl

-- of a line that is long no more is needed
rest_of-take-by : (n m : ℕ) (s p : List ℕ) → length s ≤ n + 2 → m ≡ min (length p) (n + 2 - length s) → (m ≡ length p) ⊎ (m < length p) → rest_of n (s ++ take m p) ≡ rest_of n (s ++ p)
rest_of-take-by n m s p le e (inl all) = ap (λ l. rest_of n (s ++ l)) (take_all m p (omega arith))
rest_of-take-by n m s p le e (inr some) =
    rest_of-long n (s ++ take m p) (omega (arith, length-append s (take m p), length-take m p)) ∙ sym (rest_of-long n (s ++ p) (omega (arith, length-append s p)))

rest_of-take : (n m : ℕ) (s p : List ℕ) → length s ≤ n + 2 → m ≡ min (length p) (n + 2 - length s) → rest_of n (s ++ take m p) ≡ rest_of n (s ++ p)
rest_of-take n m s p le e = rest_of-take-by n m s p le e (eq-or-lt_of_le (omega arith))

parts-take : (m : ℕ) (p : List ℕ) → parts p ≡ p ∷ [] → parts (take m p) ≡ take m p ∷ []
parts-take m p one = parts-front (take m p) (drop m p) (subst (λ l. parts l ≡ l ∷ []) (sym (take-append-drop m p)) one)

Stands-open : (n m left : ℕ) (b p : List ℕ) → parts p ≡ p ∷ [] → length (open_end b) ≡ left → left ≤ n + 2 → m ≡ min (length p) (n + 2 - left)
    → Stands n (b ++ p) (b ++ take m p) (left + m)
Stands-open n m left b p one is le e =
    let front = parts-take m p one in
    record {
      whole = whole-behind n b (take m p) front ∙ sym (whole-behind n b p one);
      rest = ap (rest_of n) (open_end-behind b (take m p) front) ∙ rest_of-take n m (open_end b) p (omega (arith, is)) (e ∙ ap (λ l. min (length p) (n + 2 - l)) (sym is))
          ∙ ap (rest_of n) (sym (open_end-behind b p one));
      open_len = ap length (open_end-behind b (take m p) front) ∙ grind (arith, length-append (open_end b) (take m p), length-take m p);
    }

-- the bytes of a piece that are kept stand for all of it
pub Stands-place : (n m before_len place left : ℕ) (b p kept : List ℕ) → IsOpenPlace p before_len place left → before_len ≤ n + 2 → length (open_end b) ≡ before_len
    → m ≡ min (length p - place) (n + 2 - left) → kept ≡ take (place + m) p → Stands n (b ++ p) (b ++ kept) (left + m)
Stands-place n m before_len place left b p kept at le is e k =
    let came : (b ++ take place p) ++ drop place p ≡ b ++ p = append_assoc b (take place p) (drop place p) ∙ ap (λ l. b ++ l) (take-append-drop place p) in
    let front : (b ++ take place p) ++ take m (drop place p) ≡ b ++ kept = append_assoc b (take place p) (take m (drop place p)) ∙ ap (λ l. b ++ l) (sym (take-add place m p) ∙ sym k) in
    subst (λ l. Stands n l (b ++ kept) (left + m)) came (subst (λ l. Stands n ((b ++ take place p) ++ drop place p) l (left + m)) front
    (Stands-open n m left (b ++ take place p) (drop place p) at.open_part (at.open_len b is) (omega (arith, at.fewer)) (e ∙ ap (λ l. min l (n + 2 - left)) (sym (length-drop place p)))))

-- a push that adds the bytes that are kept
pub Follows-push : (n start left : ℕ) (bytes after piece kept : List ℕ) (old seen : Waiting) → start ≤ length bytes → after ≡ bytes ++ kept
    → seen ≡ record { line_bytes = n; queue = whole n (drop start bytes); rest = rest n (drop start bytes) } → seen ≡ old
    → Stands n (drop start bytes ++ piece) (drop start bytes ++ kept) left → (b : List ℕ) → rest old.line_bytes b ≡ old.rest
    → Follows b piece old (record { line_bytes = n; queue = whole n (drop start after); rest = rest n (drop start after) })
Follows-push n start left bytes after piece kept old seen le grown is same stands =
    subst (λ l. (b : List ℕ) → rest old.line_bytes b ≡ old.rest → Follows b piece old (record { line_bytes = n; queue = whole n l; rest = rest n l }))
    (sym (ap (drop start) grown ∙ drop-append-le start bytes kept le))
    (Follows-kept n (drop start bytes) piece kept left old seen is same stands)

-- the first line that waits
pub first-line : (n len : ℕ) (w text : List ℕ) (first : Option ℕ) (line : InputLine) → IsFirstLen w first → first ≡ Some len → line ≡ line_of n text → text ≡ take len w
    → line ∷ [] ≡ take 1 (whole n w)
first-line n len w text first line h is f e =
    let found = subst (IsFirstLen w) is h in
    ap (λ l. l ∷ []) (f ∙ ap (line_of n) e) ∙ ap (take 1) (sym (whole-first n w (take len w) (drop (len + 1) w) found.1))

-- a rest as a line
rest_line-by : (n : ℕ) (s : List ℕ) (b : Bool) → nat_le (length s) (n + 1) ≡ b → rest_line n (if b then held s else long) ≡ last_line n s
rest_line-by n s true e = refl
rest_line-by n [] false e = absurd (grind (arith, nat_tests))
rest_line-by n (x ∷ s) false e = ap (λ l. l ∷ []) (sym (line_of-long n (x ∷ s) (grind (arith, nat_tests))))

-- the line of a rest is the last line
pub rest_line-rest_of : (n : ℕ) (s : List ℕ) → rest_line n (rest_of n s) ≡ last_line n s
rest_line-rest_of n s = rest_line-by n s (nat_le (length s) (n + 1)) refl

one_line-of : (n : ℕ) (w : List ℕ) → 0 < length w → line_of n w ∷ [] ≡ last_line n w
one_line-of n [] lt = absurd (omega arith)
one_line-of n (x ∷ w) lt = refl

-- where no line waits, the last line is that of the bytes kept
pub last-line : (n : ℕ) (w text : List ℕ) (line : InputLine) → whole n w ≡ [] → line ≡ line_of n text → text ≡ w → 0 < length text → line ∷ [] ≡ rest_line n (rest n w)
last-line n w text line none f e lt =
    ap (λ l. l ∷ []) f ∙ one_line-of n text lt ∙ ap (last_line n) (e ∙ sym (open_end-no_lines n w none)) ∙ sym (rest_line-rest_of n (open_end w))

-- the lines are those that were ended, and the last one
pub last-lines : (n : ℕ) (r : InputLine) (last : List InputLine) → last ≡ rest_line n r → (b : List ℕ) → rest n b ≡ r → lines n b ≡ whole n b ++ last
last-lines n r last e b is = ap (λ l. whole n b ++ l) (sym (rest_line-rest_of n (open_end b)) ∙ ap (rest_line n) is ∙ sym e)
