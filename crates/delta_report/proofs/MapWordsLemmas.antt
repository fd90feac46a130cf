-- The line of a map, as its beginning and the words with which it ends.
use Rattle.std.proofs.Common.{◌≡◌, ℕ, ◌+◌, ◌-◌, ◌<◌, ◌≤◌, List, [], ◌∷◌, ◌++◌, length, map, take, drop, slice_range, flat_map, Some, codes, refl, sym, ap, subst, ◌∙◌, append_assoc, arith}
use Rattle.std.proofs.Math.Seq.{take-append_seam, drop-append_seam}
use Rattle.std.proofs.lemmas.List.{append-nil, drop-append-le, length-drop, take-append-drop}
use Rattle.std.specs.Fmt.{decimal}
use Rattle.std.specs.List.{slice_get}
use Rattle.flux_model.specs.Grown.{GrewByFront}
use Rattle.flux_model.specs.Report.{map_line}
use Rattle.flux_model.proofs.GrownLemmas.{grew_at, grew_first, grew_later, grew_same, flat_map_next}
use Rattle.line_words.specs.Words.{spaced, rest_of_line}
use Rattle.line_words.proofs.LineLemmas.{text_line-cons, text_line-start}
use Rattle.delta_report.specs.Answers.{answer_line}
use Rattle.delta_report.specs.MapWords.{spaced_ids, map_end, line_from, map_words}

rest_of_line-ids : (m : List ℕ) → rest_of_line (map decimal m) ≡ spaced_ids m ++ 10 ∷ []
rest_of_line-ids [] = refl
rest_of_line-ids (n ∷ ns) =
    ap (λ t. spaced (decimal n) ++ t) (rest_of_line-ids ns)
    ∙ sym (append_assoc (spaced (decimal n)) (spaced_ids ns) (10 ∷ []))

-- the parts of a map's line, as they are written
pub map_line-parts : (sign : List ℕ) (k : ℕ) (name m : List ℕ) → map_line sign k name m ≡ (sign ++ spaced (decimal k)) ++ map_words name m
map_line-parts sign k name m =
    text_line-start sign (decimal k) (name ∷ map decimal m)
    ∙ ap (λ t. (sign ++ spaced (decimal k)) ++ (spaced name ++ t)) (rest_of_line-ids m)

-- and those of a line of the answers
pub answer_line-parts : (name m : List ℕ) → answer_line name m ≡ codes "m" ++ map_words name m
answer_line-parts name m =
    text_line-cons (codes "m") (name ∷ map decimal m)
    ∙ ap (λ t. codes "m" ++ (spaced name ++ t)) (rest_of_line-ids m)

-- ---- lines that begin alike

-- what the lines of a delta begin with
abbrev pub map_front : List ℕ → ℕ → List ℕ → List ℕ
map_front sign k name = (sign ++ spaced (decimal k)) ++ spaced name

pub map_line-front : (sign : List ℕ) (k : ℕ) (name m : List ℕ) → map_line sign k name m ≡ line_from (map_front sign k name) m
map_line-front sign k name m = map_line-parts sign k name m ∙ sym (append_assoc (sign ++ spaced (decimal k)) (spaced name) (map_end m))

each_line : (F : List ℕ → List ℕ) (front : List ℕ) (ms : List (List ℕ)) → ((m : List ℕ) → F m ≡ line_from front m) → flat_map F ms ≡ flat_map (line_from front) ms
each_line F front [] alike = refl
each_line F front (m ∷ ms) alike = ap (λ t. t ++ flat_map F ms) (alike m) ∙ ap (λ t. line_from front m ++ t) (each_line F front ms alike)

-- the front of the first line stays where it is
pub front_stays : (old rest : List ℕ) (from to : ℕ) → from ≤ length old → to ≡ length old → slice_range (old ++ rest) from to ≡ drop from old
front_stays old rest from to within end =
    ap (λ xs. take (to - from) xs) (drop-append-le from old rest within)
    ∙ ap (λ n. take n (drop from old ++ rest)) (ap (λ n. n - from) end ∙ sym (length-drop from old))
    ∙ take-append_seam (drop from old) rest

module _ (F : List ℕ → List ℕ) (front : List ℕ) (alike : (m : List ℕ) → F m ≡ line_from front m) (old mid : List ℕ) (from : ℕ) (start : from ≡ length old) (begun : mid ≡ old ++ front) where
  before_is : take from mid ≡ old
  before_is = ap (λ n. take n mid) start ∙ ap (take (length old)) begun ∙ take-append_seam old front

  front_is : drop from mid ≡ front
  front_is = ap (λ n. drop n mid) start ∙ ap (drop (length old)) begun ∙ drop-append_seam old front

  lines_are : (ms : List (List ℕ)) → flat_map (line_from (drop from mid)) ms ≡ flat_map F ms
  lines_are ms = ap (λ f. flat_map (line_from f) ms) front_is ∙ sym (each_line F front ms alike)

  -- the lines were written behind what stood before their front
  pub lines_written : (ms : List (List ℕ)) (new : List ℕ) → new ≡ take from mid ++ flat_map (line_from (drop from mid)) ms → new ≡ old ++ flat_map F ms
  lines_written ms new now = now ∙ ap (λ t. t ++ flat_map (line_from (drop from mid)) ms) before_is ∙ ap (λ t. old ++ t) (lines_are ms)

  -- or a front part of them was
  pub lines_stopped : (ms : List (List ℕ)) (new : List ℕ) → GrewByFront (take from mid) new (flat_map (line_from (drop from mid)) ms) → GrewByFront old new (flat_map F ms)
  lines_stopped ms new g = grew_same old new (flat_map F ms) (flat_map (line_from (drop from mid)) ms) (sym (lines_are ms)) (subst (λ t. GrewByFront t new (flat_map (line_from (drop from mid)) ms)) before_is g)

-- writing stopped in the front of the first line
pub front_stopped : (F : List ℕ → List ℕ) (front old new : List ℕ) (ms : List (List ℕ)) → ((m : List ℕ) → F m ≡ line_from front m) → 0 < length ms → GrewByFront old new front → GrewByFront old new (flat_map F ms)
front_stopped F front old new [] alike some g = absurd (omega (arith, some))
front_stopped F front old new (m ∷ ms) alike some g =
    grew_same old new (flat_map F (m ∷ ms)) (line_from front m ++ flat_map F ms) (ap (λ t. t ++ flat_map F ms) (alike m))
    (grew_first _ _ _ _ (grew_first old new front (map_end m) g))

-- ---- the loop over the lines, the first of which has begun behind what stood before

module _ (from : ℕ) (old : List ℕ) (maps : List (List ℕ)) where
  parts : (m : List ℕ) → old ++ map_end m ≡ take from old ++ line_from (drop from old) m
  parts m = ap (λ t. t ++ map_end m) (sym (take-append-drop from old)) ∙ append_assoc (take from old) (drop from old) (map_end m)

  -- the first line was ended
  pub first_line : (m new : List ℕ) → slice_get maps 0 ≡ Some m → new ≡ old ++ map_end m → new ≡ take from old ++ flat_map (line_from (drop from old)) (take 1 maps)
  first_line m new here now =
      flat_map_next (line_from (drop from old)) (take from old) (take from old) new maps 0 m here (sym (append-nil (take from old))) (now ∙ parts m)

  -- or writing stopped in it
  pub first_stopped : (m new : List ℕ) → slice_get maps 0 ≡ Some m → GrewByFront old new (map_end m) → GrewByFront (take from old) new (flat_map (line_from (drop from old)) maps)
  first_stopped m new here g =
      grew_at (line_from (drop from old)) (take from old) (take from old) new maps 0 m here (sym (append-nil (take from old)))
      (grew_later (take from old) old new (drop from old) (map_end m) (sym (take-append-drop from old)) g)

  module _ (to i : ℕ) (m mid rest new : List ℕ) (within : from ≤ length old) (end : to ≡ length old) (here : slice_get maps i ≡ Some m) (text : mid ≡ take from old ++ flat_map (line_from (drop from old)) (take i maps)) (stays : mid ≡ old ++ rest) where
    copied : slice_range mid from to ≡ drop from old
    copied = ap (λ t. slice_range t from to) stays ∙ front_stays old rest from to within end

    -- one line more was copied
    pub next_line : new ≡ mid ++ line_from (slice_range mid from to) m → new ≡ take from old ++ flat_map (line_from (drop from old)) (take (i + 1) maps)
    next_line now =
        flat_map_next (line_from (drop from old)) (take from old) mid new maps i m here text (now ∙ ap (λ f. mid ++ line_from f m) copied)

    -- behind it the first one stays
    pub next_stays : new ≡ mid ++ line_from (slice_range mid from to) m → new ≡ old ++ (rest ++ line_from (slice_range mid from to) m)
    next_stays now = now ∙ ap (λ t. t ++ line_from (slice_range mid from to) m) stays ∙ append_assoc old rest (line_from (slice_range mid from to) m)

    -- or writing stopped in it
    pub next_stopped : GrewByFront mid new (line_from (slice_range mid from to) m) → GrewByFront (take from old) new (flat_map (line_from (drop from old)) maps)
    next_stopped g =
        grew_at (line_from (drop from old)) (take from old) mid new maps i m here text (subst (λ f. GrewByFront mid new (line_from f m)) copied g)

-- a text, once both of its parts were written
pub written_both : (old mid new first rest text : List ℕ) → text ≡ first ++ rest → mid ≡ old ++ first → new ≡ mid ++ rest → new ≡ old ++ text
written_both old mid new first rest text parts a b =
    b ∙ ap (λ t. t ++ rest) a ∙ append_assoc old first rest ∙ ap (λ t. old ++ t) (sym parts)
