-- A file that is read piece by piece.
use Rattle.std.proofs.Common.{◌≡◌, ℕ, ◌-◌, ◌+◌, ◌≤◌, ◌<◌, List, [], ◌∷◌, ◌++◌, length, take, drop, refl, sym, ap, ◌∙◌, append_assoc, append-nil, length-append, arith, Option, None, Some, Result, Ok, Err, IfSome, MatchOption, subst, take-append-drop, length-take}
use Rattle.std.proofs.Math.Seq.{drop-append_seam, take-append_seam, take-append-add}
use Rattle.std.proofs.lemmas.Grind.{common_steps}
use Rattle.std.specs.Result.{result_map_both}
use Rattle.flux_outside.specs.Told.{Files, AnswersFor}
use Rattle.flux_model.specs.Lines.{InputLine, open_end, whole, rest, lines}
use Rattle.flux_model.specs.FileReading.{result_and_then, read_from}
use Rattle.flux_model.specs.declared.code.Bad.{Bad}
use Rattle.flux_model.proofs.FileReadingLemmas.{read_from-append}
use Rattle.stream_lines.specs.Waiting.{Waiting}
use Rattle.stream_lines.specs.Follows.{Follows}
use Rattle.stream_lines.proofs.CallerLemmas.{lines-append, whole-append, length-whole}
use Rattle.flux_model.specs.Verdict.{Verdict, NoFile, TooMuch}
use Rattle.flux_model.specs.declared.limits.Limits.{Limits}
use Rattle.file_reading.specs.FileContents.{HasFile, FileIs}
use Rattle.file_reading.specs.FileProgress.{IsFront, HasFront, FileRead}
use Rattle.file_reading.specs.ReadingStops.{read_as, LinesStop, StopWhere}
use Rattle.file_reading.proofs.JudgedLemmas.{short-judged, refused-judged, longer-judged, no_file-judged}
use Rattle.file_reading.specs.declared.stop.Stop.{Stop}
use Rattle.file_reading.specs.declared.stop.Stop.TheVariants as stop

-- ---- what is known of a file

-- what follows from it for all bytes
pub HasFile-map : (files : Option Files) (name : List ℕ) (P Q : List ℕ → Type 0) → ((b : List ℕ) → P b → Q b) → HasFile files name P → HasFile files name Q
HasFile-map None name P Q f h = tt
HasFile-map (Some m) name P Q f h = by (m name) h
  where
    by : (o : Option (List ℕ)) → MatchOption o ⊥ P → MatchOption o ⊥ Q
    by None h = h
    by (Some b) h = f b h

-- the text stands at the front of the file
abbrev Begins : List ℕ → List ℕ → Type 0
Begins text b = (more : List ℕ) × (b ≡ text ++ more)

-- so does it where the file is told
pub HasFront-from : (files : Option Files) (name text : List ℕ) → HasFile files name (Begins text) → HasFront files name text
HasFront-from None name text h = tt
HasFront-from (Some m) name text h = by (m name) h
  where
    by : (o : Option (List ℕ)) → MatchOption o ⊥ (Begins text) → IsFront o text
    by None h = absurd h
    by (Some b) h = h

-- a read gave more of the file
more_of : (o : Option (List ℕ)) (text buf : List ℕ) (n : ℕ) → IsFront o text → AnswersFor o (Some n) (length text) buf → MatchOption o ⊥ (λ b. Begins (text ++ take n buf) b × (length text + n ≤ length b))
more_of None text buf n front answer = answer
more_of (Some b) text buf n front answer =
    let here : take n buf ≡ take n front.0 = answer.given ∙ ap (λ l. take n (drop (length text) l)) front.1 ∙ ap (take n) (drop-append_seam text front.0) in
    let left : drop (length text) b ≡ front.0 = ap (drop (length text)) front.1 ∙ drop-append_seam text front.0 in (
      (drop n front.0, front.1 ∙ ap (λ l. text ++ l) (sym (take-append-drop n front.0) ∙ ap (λ l. l ++ drop n front.0) (sym here)) ∙ sym (append_assoc text (take n buf) (drop n front.0))),
      omega (arith, answer.within, ap length left, ap length front.1, length-append text front.0),
    )

-- no read gave more: this is the file
all_of : (o : Option (List ℕ)) (text buf : List ℕ) (n : ℕ) → n ≡ 0 → 0 < length buf → IsFront o text → AnswersFor o (Some n) (length text) buf → MatchOption o ⊥ (λ b. b ≡ text)
all_of None text buf n zero room front answer = answer
all_of (Some b) text buf n zero room front answer =
    let short : length front.0 ≡ 0 = omega (arith, answer.ended zero room, ap length front.1, length-append text front.0) in
    let none : front.0 ≡ [] = grind (arith, common_steps) in
    front.1 ∙ ap (λ l. text ++ l) none ∙ append-nil text

-- what a read says, of the files as they were at first
pub told_at_first : (files0 files1 : Option Files) (name buf : List ℕ) (answer : Option ℕ) (from : ℕ) (n : ℕ) → files1 ≡ files0 → answer ≡ Some n
    → IfSome files1 (λ m. AnswersFor (m name) answer from buf) → IfSome files0 (λ m. AnswersFor (m name) (Some n) from buf)
told_at_first files0 files1 name buf answer from n same is told =
    subst (λ (fs : Option Files). IfSome fs (λ m. AnswersFor (m name) (Some n) from buf)) same
    (subst (λ (a : Option ℕ). IfSome files1 (λ m. AnswersFor (m name) a from buf)) is told)

-- the same of a file that may be told
pub HasFile-more : (files : Option Files) (name text buf : List ℕ) (n given : ℕ) → length text ≡ given → HasFront files name text
    → IfSome files (λ m. AnswersFor (m name) (Some n) given buf) → HasFile files name (λ b. Begins (text ++ take n buf) b × (length text + n ≤ length b))
HasFile-more None name text buf n given count front told = tt
HasFile-more (Some m) name text buf n given count front told = more_of (m name) text buf n front (subst (λ (k : ℕ). AnswersFor (m name) (Some n) k buf) (sym count) told)

-- the same of a file that may be told
pub HasFile-end : (files : Option Files) (name text buf : List ℕ) (n given : ℕ) → length text ≡ given → n ≡ 0 → 0 < length buf → HasFront files name text
    → IfSome files (λ m. AnswersFor (m name) (Some n) given buf) → HasFile files name (λ b. b ≡ text)
HasFile-end None name text buf n given count zero room front told = tt
HasFile-end (Some m) name text buf n given count zero room front told = all_of (m name) text buf n zero room front (subst (λ (k : ℕ). AnswersFor (m name) (Some n) k buf) (sym count) told)

-- ---- the lines of what was read

-- a read gave as many bytes as it says
pub piece_len : (n : ℕ) (buf : List ℕ) → n ≤ length buf → n ≡ length (take n buf)
piece_len n buf bound = omega (arith, length-take n buf)

-- the first bytes of a text and what follows it, where the text is no longer
take-longer : (k : ℕ) (text more : List ℕ) → length text ≤ k → take k (text ++ more) ≡ text ++ take (k - length text) more
take-longer k text more le = ap (λ j. take j (text ++ more)) (omega (arith, le)) ∙ take-append-add text more (k - length text)

module _ {S : Type 0} (step : ℕ → S → InputLine → Result S Bad) (n : ℕ) where
  -- lines that are refused stay refused, whatever follows
  pub refused-more : (k : ℕ) (s : S) (xs ys : List InputLine) (bad : Bad) → read_from step k s xs ≡ Err bad → read_from step k s (xs ++ ys) ≡ Err bad
  refused-more k s xs ys bad e =
      read_from-append step k s xs ys ∙ ap (result_and_then (λ next. read_from step (length xs + k) next ys)) e

  -- lines that were taken, and then more
  pub taken-more : (k : ℕ) (s t : S) (xs ys : List InputLine) → read_from step k s xs ≡ Ok t → read_from step k s (xs ++ ys) ≡ read_from step (length xs + k) t ys
  taken-more k s t xs ys e = read_from-append step k s xs ys ∙ ap (result_and_then (λ next. read_from step (length xs + k) next ys)) e

  -- what a push adds
  pushed : (given taken : ℕ) (first now : S) (w0 w1 : Waiting) (files : Option Files) (name piece : List ℕ) (so : FileRead step n given taken first now w0 files name)
      → ((b : List ℕ) → rest w0.line_bytes b ≡ w0.rest → Follows b piece w0 w1)
      → (whole n (so.bytes ++ piece) ≡ whole n so.bytes ++ w1.queue) × (w1.rest ≡ rest n (so.bytes ++ piece))
  pushed given taken first now w0 w1 files name piece so follows =
      let f = follows so.bytes (ap (λ k. rest k so.bytes) so.limit ∙ sym so.rest) in
      let waits : w1.queue ≡ f.more = f.queue ∙ ap (λ q. q ++ f.more) so.queue in (
        ap (λ k. whole k (so.bytes ++ piece)) (sym so.limit) ∙ f.lines ∙ ap (λ k. whole k so.bytes ++ f.more) so.limit ∙ ap (λ q. whole n so.bytes ++ q) (sym waits),
        f.rest ∙ ap (λ k. rest k (so.bytes ++ piece)) so.limit,
      )

  -- the number of lines stays below that of bytes
  pub lines_fit : (given count taken : ℕ) (first now : S) (w0 w1 : Waiting) (files : Option Files) (name piece : List ℕ)
      → FileRead step n given taken first now w0 files name
      → ((b : List ℕ) → rest w0.line_bytes b ≡ w0.rest → Follows b piece w0 w1) → count ≡ length piece
      → taken + length w1.queue ≤ given + count
  lines_fit given count taken first now w0 w1 files name piece so follows len =
      let add = (pushed given taken first now w0 w1 files name piece so follows).0 in
      omega (arith, so.number, so.count, len, length-whole n (so.bytes ++ piece), ap length add, length-append (whole n so.bytes) w1.queue, length-append so.bytes piece)

  -- so does the number of lines before a read
  pub some_lines_fit : (given taken : ℕ) (first now : S) (w : Waiting) (files : Option Files) (name : List ℕ) → FileRead step n given taken first now w files name → taken ≤ given
  some_lines_fit given taken first now w files name so = omega (arith, so.number, so.count, length-whole n so.bytes)

  -- the lines that a piece ends were taken
  pub FileRead-next : (given count taken taken2 : ℕ) (first now now2 : S) (w0 w1 w2 : Waiting) (files : Option Files) (name buf : List ℕ)
      → FileRead step n given taken first now w0 files name
      → IfSome files (λ m. AnswersFor (m name) (Some count) given buf) → count ≡ length (take count buf)
      → ((b : List ℕ) → rest w0.line_bytes b ≡ w0.rest → Follows b (take count buf) w0 w1) → w1.line_bytes ≡ w0.line_bytes
      → read_from step (taken + 1) now w1.queue ≡ Ok now2 → taken2 ≡ taken + length w1.queue → w2 ≡ record w1 { queue = [] }
      → FileRead step n (given + count) taken2 first now2 w2 files name
  FileRead-next given count taken taken2 first now now2 w0 w1 w2 files name buf so told len follows limit read number passed =
      let piece : List ℕ = take count buf in
      let add = pushed given taken first now w0 w1 files name piece so follows in
      record {
        bytes = so.bytes ++ piece;
        count = omega (arith, length-append so.bytes piece, so.count, len);
        front = HasFront-from files name (so.bytes ++ piece)
            (HasFile-map files name (λ b. Begins (so.bytes ++ piece) b × (length so.bytes + count ≤ length b)) (Begins (so.bytes ++ piece)) (λ b h. h.0)
            (HasFile-more files name so.bytes buf count given so.count so.front told));
        taken = ap (read_from step 1 first) add.0 ∙ taken-more 1 first now (whole n so.bytes) w1.queue so.taken ∙ ap (λ k. read_from step k now w1.queue) (omega (arith, so.number)) ∙ read;
        number = omega (arith, number, so.number, ap length add.0, length-append (whole n so.bytes) w1.queue);
        limit = ap (λ (w : Waiting). w.line_bytes) passed ∙ limit ∙ so.limit;
        queue = ap (λ (w : Waiting). w.queue) passed;
        rest = ap (λ (w : Waiting). w.rest) passed ∙ add.1;
      }

  -- one of the lines that a piece ends was refused, of the file and of its first bytes up to a limit
  pub FileRead-refused : (limit given count taken : ℕ) (first now : S) (w0 w1 : Waiting) (files : Option Files) (name buf : List ℕ) (bad : Bad)
      → FileRead step n given taken first now w0 files name
      → IfSome files (λ m. AnswersFor (m name) (Some count) given buf) → count ≡ length (take count buf) → given + count ≤ limit
      → ((b : List ℕ) → rest w0.line_bytes b ≡ w0.rest → Follows b (take count buf) w0 w1)
      → read_from step (taken + 1) now w1.queue ≡ Err bad
      → HasFile files name (λ b. (read_from step 1 first (whole n (take limit b)) ≡ Err bad) × (read_from step 1 first (lines n b) ≡ Err bad))
  FileRead-refused limit given count taken first now w0 w1 files name buf bad so told len within follows read =
      let piece : List ℕ = take count buf in
      let text : List ℕ = so.bytes ++ piece in
      let add = pushed given taken first now w0 w1 files name piece so follows in
      let here : read_from step 1 first (whole n text) ≡ Err bad =
      ap (read_from step 1 first) add.0 ∙ taken-more 1 first now (whole n so.bytes) w1.queue so.taken ∙ ap (λ k. read_from step k now w1.queue) (omega (arith, so.number)) ∙ read in
      let short : length text ≤ limit = omega (arith, length-append so.bytes piece, so.count, len, within) in
      HasFile-map files name (λ b. Begins text b × (length so.bytes + count ≤ length b))
      (λ b. (read_from step 1 first (whole n (take limit b)) ≡ Err bad) × (read_from step 1 first (lines n b) ≡ Err bad))
      (λ b h. (
        ap (λ t. read_from step 1 first (whole n (take limit t))) h.0.1 ∙ ap (λ t. read_from step 1 first (whole n t)) (take-longer limit text h.0.0 short)
            ∙ ap (read_from step 1 first) (whole-append n text (take (limit - length text) h.0.0))
            ∙ refused-more 1 first (whole n text) (whole n (open_end text ++ take (limit - length text) h.0.0)) bad here,
        ap (λ t. read_from step 1 first (lines n t)) h.0.1 ∙ ap (read_from step 1 first) (lines-append n text h.0.0)
            ∙ refused-more 1 first (whole n text) (lines n (open_end text ++ h.0.0)) bad here,
      ))
      (HasFile-more files name so.bytes buf count given so.count so.front told)

  -- the file goes on past the limit
  pub FileRead-longer : (given count taken : ℕ) (first now : S) (w : Waiting) (files : Option Files) (name buf : List ℕ)
      → FileRead step n given taken first now w files name
      → IfSome files (λ m. AnswersFor (m name) (Some count) given buf) → 0 < count
      → HasFile files name (λ b. (given < length b) × (read_from step 1 first (whole n (take given b)) ≡ Ok now))
  FileRead-longer given count taken first now w files name buf so told some =
      HasFile-map files name (λ b. Begins (so.bytes ++ take count buf) b × (length so.bytes + count ≤ length b))
      (λ b. (given < length b) × (read_from step 1 first (whole n (take given b)) ≡ Ok now))
      (λ b h. (
        omega (arith, h.1, some, so.count),
        ap (λ t. read_from step 1 first (whole n t)) (ap (take given) (h.0.1 ∙ append_assoc so.bytes (take count buf) h.0.0) ∙ ap (λ k. take k (so.bytes ++ (take count buf ++ h.0.0))) (sym so.count) ∙ take-append_seam so.bytes (take count buf ++ h.0.0)) ∙ so.taken,
      ))
      (HasFile-more files name so.bytes buf count given so.count so.front told)

  -- the same where the limit was reached
  pub FileRead-at_limit : (limit given count taken : ℕ) (first now : S) (w : Waiting) (files : Option Files) (name buf : List ℕ) → given ≡ limit
      → FileRead step n given taken first now w files name
      → IfSome files (λ m. AnswersFor (m name) (Some count) given buf) → 0 < count
      → HasFile files name (λ b. (limit < length b) × (read_from step 1 first (whole n (take limit b)) ≡ Ok now))
  FileRead-at_limit limit given count taken first now w files name buf full so told some =
      subst (λ (k : ℕ). HasFile files name (λ b. (k < length b) × (read_from step 1 first (whole n (take k b)) ≡ Ok now))) full
      (FileRead-longer given count taken first now w files name buf so told some)

  -- what is left of the file's lines is its last one
  pub FileRead-end : (given count taken : ℕ) (first now : S) (w : Waiting) (files : Option Files) (name buf : List ℕ) (last : List InputLine)
      → FileRead step n given taken first now w files name
      → IfSome files (λ m. AnswersFor (m name) (Some count) given buf) → count ≡ 0 → 0 < length buf
      → ((b : List ℕ) → rest w.line_bytes b ≡ w.rest → lines w.line_bytes b ≡ whole w.line_bytes b ++ last)
      → HasFile files name (λ b. (length b ≡ given) × (read_from step 1 first (lines n b) ≡ read_from step (taken + 1) now last))
  FileRead-end given count taken first now w files name buf last so told zero room ended =
      let so_rest : rest w.line_bytes so.bytes ≡ w.rest = ap (λ k. rest k so.bytes) so.limit ∙ sym so.rest in
      let all : lines n so.bytes ≡ whole n so.bytes ++ last = ap (λ k. lines k so.bytes) (sym so.limit) ∙ ended so.bytes so_rest ∙ ap (λ k. whole k so.bytes ++ last) so.limit in
      HasFile-map files name (λ b. b ≡ so.bytes) (λ b. (length b ≡ given) × (read_from step 1 first (lines n b) ≡ read_from step (taken + 1) now last))
      (λ b e. (
        ap length e ∙ so.count,
        ap (λ t. read_from step 1 first (lines n t)) e ∙ ap (read_from step 1 first) all ∙ taken-more 1 first now (whole n so.bytes) last so.taken ∙ ap (λ k. read_from step k now last) (omega (arith, so.number)),
      ))
      (HasFile-end files name so.bytes buf count given so.count zero room so.front told)

  -- one line alone
  pub one-line : (k : ℕ) (s : S) (line : InputLine) → read_from step k s (line ∷ []) ≡ step k s line
  one-line k s line = by (step k s line)
    where
      by : (r : Result S Bad) → result_and_then (λ next. Ok next) r ≡ r
      by (Ok x) = refl
      by (Err e) = refl

  -- the lines that were taken, with the last one
  pub taken-last : (given taken : ℕ) (first now : S) (w : Waiting) (files : Option Files) (name : List ℕ) (line : InputLine) (last : S) → FileRead step n given taken first now w files name
      → step (taken + 1) now line ≡ Ok last → (ls : List InputLine) × (read_from step 1 first ls ≡ Ok last)
  taken-last given taken first now w files name line last so e = (
    whole n so.bytes ++ line ∷ [],
    taken-more 1 first now (whole n so.bytes) (line ∷ []) so.taken ∙ ap (λ k. read_from step k now (line ∷ [])) (omega (arith, so.number)) ∙ one-line (taken + 1) now line ∙ e,
  )

-- ---- what the file is read as

module _ {S : Type 0} (step : ℕ → S → InputLine → Result S Bad) (limits : Limits) (bad : Bad → Verdict) where
  -- a file that ends within the limit, and whose last lines come to this
  pub ReadAs-end : (given count taken : ℕ) (first now : S) (w : Waiting) (files : Option Files) (name buf : List ℕ) (last : List InputLine) (r : Result S Bad)
      → FileRead step limits.line_bytes given taken first now w files name
      → IfSome files (λ m. AnswersFor (m name) (Some count) given buf) → count ≡ 0 → 0 < length buf → given ≤ limits.input_bytes
      → ((b : List ℕ) → rest w.line_bytes b ≡ w.rest → lines w.line_bytes b ≡ whole w.line_bytes b ++ last)
      → read_from step (taken + 1) now last ≡ r
      → FileIs files name (read_as step limits first bad) (result_map_both (λ x. x) bad r)
  ReadAs-end given count taken first now w files name buf last r so told zero room within ended e =
      short-judged limits.input_bytes (λ b. read_from step 1 first (whole limits.line_bytes b)) (λ b. read_from step 1 first (lines limits.line_bytes b)) bad files name r
      (HasFile-map files name (λ b. (length b ≡ given) × (read_from step 1 first (lines limits.line_bytes b) ≡ read_from step (taken + 1) now last))
      (λ b. (length b ≤ limits.input_bytes) × (read_from step 1 first (lines limits.line_bytes b) ≡ r))
      (λ b h. (omega (arith, h.0, within), h.1 ∙ e))
      (FileRead-end step limits.line_bytes given count taken first now w files name buf last so told zero room ended))

  pub StopWhere-last : (given count taken : ℕ) (first now : S) (w : Waiting) (files : Option Files) (name buf : List ℕ) (line : InputLine) (reads : Type 0) (s : Stop)
      → FileRead step limits.line_bytes given taken first now w files name
      → IfSome files (λ m. AnswersFor (m name) (Some count) given buf) → count ≡ 0 → 0 < length buf → given ≤ limits.input_bytes
      → ((b : List ℕ) → rest w.line_bytes b ≡ w.rest → lines w.line_bytes b ≡ whole w.line_bytes b ++ line ∷ [])
      → LinesStop (step (taken + 1) now line) s
      → StopWhere (λ v. FileIs files name (read_as step limits first bad) (Err v)) bad reads s
  StopWhere-last given count taken first now w files name buf line reads stop.Memory so told zero room within ended e = tt
  StopWhere-last given count taken first now w files name buf line reads (stop.Bad b) so told zero room within ended e =
      ReadAs-end given count taken first now w files name buf (line ∷ []) (Err b) so told zero room within ended (one-line step limits.line_bytes (taken + 1) now line ∙ e)
  StopWhere-last given count taken first now w files name buf line reads stop.Read so told zero room within ended e = absurd e
  StopWhere-last given count taken first now w files name buf line reads stop.NoFile so told zero room within ended e = absurd e
  StopWhere-last given count taken first now w files name buf line reads stop.TooMuch so told zero room within ended e = absurd e

  pub StopWhere-refused : (given count taken : ℕ) (first now : S) (w0 w1 : Waiting) (files : Option Files) (name buf : List ℕ) (reads : Type 0) (s : Stop)
      → FileRead step limits.line_bytes given taken first now w0 files name
      → IfSome files (λ m. AnswersFor (m name) (Some count) given buf) → count ≡ length (take count buf) → given + count ≤ limits.input_bytes
      → ((b : List ℕ) → rest w0.line_bytes b ≡ w0.rest → Follows b (take count buf) w0 w1)
      → LinesStop (read_from step (taken + 1) now w1.queue) s
      → StopWhere (λ v. FileIs files name (read_as step limits first bad) (Err v)) bad reads s
  StopWhere-refused given count taken first now w0 w1 files name buf reads stop.Memory so told len within follows read = tt
  StopWhere-refused given count taken first now w0 w1 files name buf reads (stop.Bad b) so told len within follows read =
      refused-judged limits.input_bytes (λ b. read_from step 1 first (whole limits.line_bytes b)) (λ b. read_from step 1 first (lines limits.line_bytes b)) bad files name b
      (FileRead-refused step limits.line_bytes limits.input_bytes given count taken first now w0 w1 files name buf b so told len within follows read)
  StopWhere-refused given count taken first now w0 w1 files name buf reads stop.Read so told len within follows read = absurd read
  StopWhere-refused given count taken first now w0 w1 files name buf reads stop.NoFile so told len within follows read = absurd read
  StopWhere-refused given count taken first now w0 w1 files name buf reads stop.TooMuch so told len within follows read = absurd read

  -- a file that goes on past the limit
  pub ReadAs-longer : (given count taken : ℕ) (first now : S) (w : Waiting) (files : Option Files) (name buf : List ℕ) → given ≡ limits.input_bytes
      → FileRead step limits.line_bytes given taken first now w files name
      → IfSome files (λ m. AnswersFor (m name) (Some count) given buf) → 0 < count
      → FileIs files name (read_as step limits first bad) (Err TooMuch)
  ReadAs-longer given count taken first now w files name buf full so told some =
      longer-judged limits.input_bytes (λ b. read_from step 1 first (whole limits.line_bytes b)) (λ b. read_from step 1 first (lines limits.line_bytes b)) bad files name now
      (FileRead-at_limit step limits.line_bytes limits.input_bytes given count taken first now w files name buf full so told some)

  -- a file that is not there
  pub ReadAs-none : (first : S) (files0 files1 : Option Files) (name buf : List ℕ) (answer : Option ℕ) (from : ℕ) → files1 ≡ files0 → answer ≡ None
      → IfSome files1 (λ m. AnswersFor (m name) answer from buf) → FileIs files0 name (read_as step limits first bad) (Err NoFile)
  ReadAs-none first files0 files1 name buf answer from same is told =
      no_file-judged limits.input_bytes (λ b. read_from step 1 first (whole limits.line_bytes b)) (λ b. read_from step 1 first (lines limits.line_bytes b)) bad files0 name buf from
      (subst (λ (fs : Option Files). IfSome fs (λ m. AnswersFor (m name) None from buf)) same (subst (λ (a : Option ℕ). IfSome files1 (λ m. AnswersFor (m name) a from buf)) is told))
