-- What holds of the lines of an input.
use Rattle.std.specs.Prelude.{◌≡◌, ℕ, ◌-◌, ◌==◌, ◌&&◌, not, nat_le, Bool, List, [], ◌∷◌, ◌++◌, length, map, flat_map, slice_index, IsTrue}
use Rattle.std.specs.List.{list_any, list_all}
use Rattle.flux_model.specs.Lines.{held, parts, all_but_last, open_end, lines}

-- whether the bytes have no byte 10
abbrev pub has_no_end : List ℕ → Bool
has_no_end bytes = not (list_any (λ x. x == 10) bytes)

-- the lines, each with its byte 10
abbrev pub ended_text : List (List ℕ) → List ℕ
ended_text ended = flat_map (λ line. line ++ 10 ∷ []) ended

-- the ended lines and the open end give the bytes back
abbrev pub LinesGiveBack : Type 0
LinesGiveBack = (bytes : List ℕ) → ended_text (all_but_last (parts bytes)) ++ open_end bytes ≡ bytes

-- neither a line nor the open end has a byte 10
abbrev pub NoLineHasAnEnd : Type 0
NoLineHasAnEnd =
    (bytes : List ℕ) → IsTrue (list_all has_no_end (all_but_last (parts bytes))) × IsTrue (has_no_end (open_end bytes))

-- lines and an open end that have no byte 10 are found in the bytes that they make
abbrev pub CutIsUnique : Type 0
CutIsUnique =
    (ended : List (List ℕ)) (end : List ℕ) → IsTrue (list_all has_no_end ended) → IsTrue (has_no_end end) →
    let bytes = ended_text ended ++ end in
    (all_but_last (parts bytes) ≡ ended) × (open_end bytes ≡ end)

-- whether the bytes are a line as they stand: no byte 10, no byte 13 at the end, and no more than n
abbrev pub is_plain : ℕ → List ℕ → Bool
is_plain n line = has_no_end line && not (slice_index line (length line - 1) == 13) && nat_le (length line) n

abbrev pub LinesAreReadBack : Type 0
LinesAreReadBack = (n : ℕ) (ls : List (List ℕ)) → IsTrue (list_all (is_plain n) ls) → lines n (ended_text ls) ≡ map held ls

-- a byte 13 before each byte 10
abbrev pub ReturnsAreDropped : Type 0
ReturnsAreDropped =
    (n : ℕ) (ls : List (List ℕ)) → IsTrue (list_all (λ line. has_no_end line && nat_le (length line) n) ls) →
    lines n (flat_map (λ line. line ++ 13 ∷ 10 ∷ []) ls) ≡ map held ls
