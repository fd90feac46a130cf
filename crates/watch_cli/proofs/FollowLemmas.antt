-- What the updates come to, as far as they were read.
use Rattle.std.proofs.Common.{◌≡◌, ℕ, ◌+◌, ◌≤◌, ◌<◌, List, [], ◌++◌, length, take, map, refl, sym, ap, ◌∙◌, append_assoc, append-nil, length-append, arith, Option, None, Some, subst}
use Rattle.std.proofs.Math.Seq.{take-append_seam}
use Rattle.std.proofs.KnownBytes.{Consumes-trans, Consumes-kept, Consumes-whole, Appends-trans}
use Rattle.std.specs.Io.KnownBytes.{Appends, Consumes, Keeps, IsAtEnd}
use borrow.Author.Tests.{lt-ltb, le-ltb}
use Rattle.flux_outside.specs.Causes.{Rose}
use Rattle.flux_outside.specs.Told.{AppendsFront}
use Rattle.flux_model.specs.Lines.{InputLine, whole, rest, lines}
use Rattle.flux_model.specs.Reading.{update_reading}
use Rattle.flux_model.specs.Graph.{Graph}
use Rattle.flux_model.specs.Pattern.{PatternGraph}
use Rattle.flux_model.specs.Report.{watch_text}
use Rattle.flux_model.specs.Verdict.{Verdict, Done, TooMuch, Watched, Ending, blocks_of, ending_with, written_before}
use Rattle.flux_model.specs.declared.limits.Limits.{Limits}
use Rattle.flux_laws.proofs.VerdictsLemmas.{written}
use Rattle.stream_lines.specs.Waiting.{Waiting}
use Rattle.stream_lines.specs.Follows.{Follows}
use Rattle.watch_core.specs.Session.{WatchState, first_state, said_by, after_all, next_blocks, last_text}
use Rattle.watch_cli.specs.UpdatesProgress.{Followed}
use Rattle.watch_cli.specs.RunEnds.{KnownOrSome, EndsAs, EndsBefore, EndsAtFault, StatusWhere}
use Rattle.watch_cli.specs.EarlyEnds.{IsEarly, WriteEnds}
use Rattle.watch_cli.specs.Kept.{after_bytes}
use Rattle.watch_cli.specs.declared.status.Status.{Status}
use Rattle.watch_cli.specs.declared.status.Status.TheVariants as status
use Rattle.watch_cli.proofs.ReportLemmas.{last_text-first, AppendsFront-all, AppendsFront-longer, AppendsFront-after, Followed-short, whole_text, whole_state}

-- ---- bytes that may not be told

-- what follows from it for all bytes
pub KnownOrSome-map : (o : Option (List ℕ)) (P Q : List ℕ → Type 0) → ((s : List ℕ) → P s → Q s) → KnownOrSome o P → KnownOrSome o Q
KnownOrSome-map None P Q f h = (h.0, f h.0 h.1)
KnownOrSome-map (Some s) P Q f h = f s h

-- what is so of all bytes
pub KnownOrSome-any : (o : Option (List ℕ)) (P : List ℕ → Type 0) → ((s : List ℕ) → P s) → KnownOrSome o P
KnownOrSome-any None P f = ([], f [])
KnownOrSome-any (Some s) P f = f s

-- some of them were taken
pub KnownOrSome-front : (l0 l1 : Option (List ℕ)) (b : List ℕ) (P : List ℕ → Type 0) → Consumes l0 l1 b → ((more : List ℕ) → P (b ++ more)) → KnownOrSome l0 P
KnownOrSome-front None l1 b P read f = (b ++ [], f [])
KnownOrSome-front (Some s) None b P read f = absurd read
KnownOrSome-front (Some s) (Some t) b P read f = subst P (sym read) (f t)

-- all of them were taken
pub KnownOrSome-whole : (l0 l1 : Option (List ℕ)) (b : List ℕ) (P : List ℕ → Type 0) → Consumes l0 l1 b → IsAtEnd l1 → P b → KnownOrSome l0 P
KnownOrSome-whole None l1 b P read end p = (b, p)
KnownOrSome-whole (Some s) l1 b P read end p = Consumes-whole (Some s) l1 b P read end p

-- nothing was read
pub Consumes-none : (a b : Option (List ℕ)) (buf : List ℕ) (n : ℕ) → n ≡ 0 → Consumes a b (take n buf) → Consumes a b []
Consumes-none a b buf n zero read = subst (λ (k : ℕ). Consumes a b (take k buf)) zero read

-- all that is due is a front part of it
pub EndsAs-before : (left : Option (List ℕ)) (ending : List ℕ → Ending) (p0 p1 : Option (List ℕ)) (v : Verdict) → EndsAs left ending p0 p1 v → EndsBefore left ending p0 p1
EndsAs-before left ending p0 p1 v h =
    KnownOrSome-map left (λ s. ((ending s).verdict ≡ v) × Appends p0 p1 (ending s).text) (λ s. AppendsFront p0 p1 (ending s).text) (λ s so. AppendsFront-all p0 p1 (ending s).text so.1) h

-- ---- the state before the first line

-- it is told by its graph and patterns
pub is_first : (w : WatchState) (l limits : Limits) (g : Graph) (qs : List PatternGraph) → w ≡ first_state l g qs → l ≡ limits → w ≡ first_state limits w.graph w.patterns
is_first w l limits g qs is same =
    is ∙ ap (λ k. first_state k g qs) same ∙ ap (λ (v : WatchState). first_state limits v.graph v.patterns) (sym is)

-- ---- the ending of the updates

module _ (limits : Limits) (g : Graph) (qs : List PatternGraph) where
  -- how the updates end, by their bytes
  abbrev pub ending : List ℕ → Ending
  ending s = ending_with limits s (Watched g qs)

  -- the blocks of whole lines
  abbrev said : List ℕ → List ℕ
  said b = blocks_of limits g qs (whole limits.line_bytes b)

  -- the blocks of the whole lines, from the first state on
  pub first-blocks : (first : WatchState) (b : List ℕ) → first ≡ first_state limits g qs → next_blocks first (said_by (whole limits.line_bytes b)) ≡ said b
  first-blocks first b is = ap (λ f. next_blocks f (said_by (whole limits.line_bytes b))) is

  short-ending : (s : List ℕ) → length s ≤ limits.input_bytes → ending s ≡ record { verdict = Done; text = watch_text limits g qs (map update_reading (lines limits.line_bytes s)) }
  short-ending s le = rw (le-ltb limits.input_bytes (length s) le) refl

  long-ending : (s : List ℕ) → limits.input_bytes < length s → ending s ≡ record { verdict = TooMuch; text = said (take limits.input_bytes s) }
  long-ending s lt = rw (lt-ltb limits.input_bytes (length s) lt) refl

  -- some bytes were read, and a front part of the blocks of their whole lines was written
  pub ends-before : (l0 l1 p0 p1 : Option (List ℕ)) (b : List ℕ) → Consumes l0 l1 b → length b ≤ limits.input_bytes → AppendsFront p0 p1 (said b) → EndsBefore l0 ending p0 p1
  ends-before l0 l1 p0 p1 b read within front =
      KnownOrSome-front l0 l1 b (λ s. AppendsFront p0 p1 (ending s).text) read
      (λ more.
      let w = written limits (Watched g qs) b (b ++ more) (more, refl) within in
      subst (AppendsFront p0 p1) (sym w.1) (AppendsFront-longer p0 p1 (said b) w.0 front))

  -- more was read than the limit
  pub ends-long : (l0 l1 p0 p1 : Option (List ℕ)) (b piece : List ℕ) → Consumes l0 l1 (b ++ piece) → length b ≡ limits.input_bytes → 0 < length piece → Appends p0 p1 (said b) → EndsAs l0 ending p0 p1 TooMuch
  ends-long l0 l1 p0 p1 b piece read full some put =
      KnownOrSome-front l0 l1 (b ++ piece) (λ s. ((ending s).verdict ≡ TooMuch) × Appends p0 p1 (ending s).text) read
      (λ more.
      let s : List ℕ = (b ++ piece) ++ more in
      let is : ending s ≡ record { verdict = TooMuch; text = said (take limits.input_bytes s) } =
      long-ending s (omega (arith, full, some, length-append (b ++ piece) more, length-append b piece)) in
      let front : take limits.input_bytes s ≡ b =
      ap (take limits.input_bytes) (append_assoc b piece more) ∙ ap (λ k. take k (b ++ (piece ++ more))) (sym full) ∙ take-append_seam b (piece ++ more) in
      (ap (λ (e : Ending). e.verdict) is, subst (Appends p0 p1) (sym (ap (λ (e : Ending). e.text) is ∙ ap said front)) put))

  -- all was read
  pub ends-done : (l0 l1 p0 p1 : Option (List ℕ)) (b : List ℕ) → Consumes l0 l1 b → IsAtEnd l1 → length b ≤ limits.input_bytes
      → Appends p0 p1 (last_text (first_state limits g qs) (said_by (lines limits.line_bytes b))) → EndsAs l0 ending p0 p1 Done
  ends-done l0 l1 p0 p1 b read end within put =
      let is = short-ending b within in
      KnownOrSome-whole l0 l1 b (λ s. ((ending s).verdict ≡ Done) × Appends p0 p1 (ending s).text) read end (
        ap (λ (e : Ending). e.verdict) is,
        subst (Appends p0 p1) (last_text-first limits g qs (said_by (lines limits.line_bytes b)) ∙ sym (ap (λ (e : Ending). e.text) is)) put,
      )

  -- all was read, and a front part of the text was put
  pub ends-done_short : (l0 l1 p0 p1 : Option (List ℕ)) (b : List ℕ) → Consumes l0 l1 b → IsAtEnd l1 → length b ≤ limits.input_bytes
      → AppendsFront p0 p1 (last_text (first_state limits g qs) (said_by (lines limits.line_bytes b))) → EndsBefore l0 ending p0 p1
  ends-done_short l0 l1 p0 p1 b read end within front =
      KnownOrSome-whole l0 l1 b (λ s. AppendsFront p0 p1 (ending s).text) read end
      (subst (AppendsFront p0 p1) (last_text-first limits g qs (said_by (lines limits.line_bytes b)) ∙ sym (ap (λ (e : Ending). e.text) (short-ending b within))) front)

  -- ---- as far as the updates were followed

  module _ (given : ℕ) (l0 l1 p0 p1 : Option (List ℕ)) (first now : WatchState) (w : Waiting) (is : first ≡ first_state limits g qs) where
    -- a front part of what is due was put
    pub Followed-before : Followed limits.line_bytes given l0 l1 p0 p1 first now w → given ≤ limits.input_bytes → EndsBefore l0 ending p0 p1
    Followed-before so within =
        ends-before l0 l1 p0 p1 so.bytes so.read (omega (arith, so.count, within)) (AppendsFront-all p0 p1 (said so.bytes) (subst (Appends p0 p1) (first-blocks first so.bytes is) so.written))

    -- a read failed
    pub Followed-fault : (l2 : Option (List ℕ)) → Followed limits.line_bytes given l0 l1 p0 p1 first now w → Keeps l1 l2 → EndsAtFault l0 l2 (written_before limits (Watched g qs)) p0 p1
    Followed-fault l2 so kept = (so.bytes, Consumes-kept l0 l1 l2 so.bytes so.read kept, subst (Appends p0 p1) (first-blocks first so.bytes is) so.written)

    -- the updates go on past the limit
    pub Followed-long : (l2 : Option (List ℕ)) (count : ℕ) (piece : List ℕ) → Followed limits.line_bytes given l0 l1 p0 p1 first now w → Consumes l1 l2 piece → count ≡ length piece → 0 < count
        → given ≡ limits.input_bytes → EndsAs l0 ending p0 p1 TooMuch
    Followed-long l2 count piece so read len some full =
        ends-long l0 l2 p0 p1 so.bytes piece (Consumes-trans l0 l1 l2 so.bytes piece so.read read) (so.count ∙ full) (omega (arith, len, some))
        (subst (Appends p0 p1) (first-blocks first so.bytes is) so.written)

    -- a front part of the blocks of the last piece was put
    pub Followed-stops : (l2 p2 : Option (List ℕ)) (count : ℕ) (piece : List ℕ) (w1 : Waiting) → Followed limits.line_bytes given l0 l1 p0 p1 first now w → Consumes l1 l2 piece → count ≡ length piece
        → given + count ≤ limits.input_bytes → ((b : List ℕ) → rest w.line_bytes b ≡ w.rest → Follows b piece w w1)
        → AppendsFront p1 p2 (next_blocks now (said_by w1.queue)) → EndsBefore l0 ending p0 p2
    Followed-stops l2 p2 count piece w1 so read len within follows front =
        ends-before l0 l2 p0 p2 (so.bytes ++ piece) (Consumes-trans l0 l1 l2 so.bytes piece so.read read) (omega (arith, length-append so.bytes piece, so.count, len, within))
        (subst (AppendsFront p0 p2) (first-blocks first (so.bytes ++ piece) is) (Followed-short limits.line_bytes given l0 l1 p0 p1 p2 first now w w1 piece so follows front))

    -- the source is at its end, and all was put
    pub Followed-done : (l2 p2 : Option (List ℕ)) (last : List InputLine) → Followed limits.line_bytes given l0 l1 p0 p1 first now w → Consumes l1 l2 [] → IsAtEnd l2 → given ≤ limits.input_bytes
        → ((b : List ℕ) → rest w.line_bytes b ≡ w.rest → lines w.line_bytes b ≡ whole w.line_bytes b ++ last)
        → Appends p1 p2 (last_text now (said_by last)) → EndsAs l0 ending p0 p2 Done
    Followed-done l2 p2 last so read end within ended put =
        ends-done l0 l2 p0 p2 so.bytes (subst (Consumes l0 l2) (append-nil so.bytes) (Consumes-trans l0 l1 l2 so.bytes [] so.read read)) end (omega (arith, so.count, within))
        (subst (Appends p0 p2) (whole_text limits.line_bytes given l0 l1 p0 p1 first now w last so ended ∙ ap (λ f. last_text f (said_by (lines limits.line_bytes so.bytes))) is)
        (Appends-trans p0 p1 p2 (next_blocks first (said_by (whole limits.line_bytes so.bytes))) (last_text now (said_by last)) so.written put))

    -- the source is at its end, and all lines were taken
    pub Followed-stands : (l2 : Option (List ℕ)) (next : WatchState) (last : List InputLine) → Followed limits.line_bytes given l0 l1 p0 p1 first now w → Consumes l1 l2 [] → IsAtEnd l2
        → ((b : List ℕ) → rest w.line_bytes b ≡ w.rest → lines w.line_bytes b ≡ whole w.line_bytes b ++ last)
        → next ≡ after_all now (said_by last) → KnownOrSome l0 (λ s. next ≡ after_bytes limits first s)
    Followed-stands l2 next last so read end ended after =
        KnownOrSome-whole l0 l2 so.bytes (λ s. next ≡ after_bytes limits first s) (subst (Consumes l0 l2) (append-nil so.bytes) (Consumes-trans l0 l1 l2 so.bytes [] so.read read)) end
        (whole_state limits.line_bytes given l0 l1 p0 p1 first now next w last so ended after)

    -- the source is at its end, and a front part was put
    pub Followed-done_short : (l2 p2 : Option (List ℕ)) (last : List InputLine) → Followed limits.line_bytes given l0 l1 p0 p1 first now w → Consumes l1 l2 [] → IsAtEnd l2 → given ≤ limits.input_bytes
        → ((b : List ℕ) → rest w.line_bytes b ≡ w.rest → lines w.line_bytes b ≡ whole w.line_bytes b ++ last)
        → AppendsFront p1 p2 (last_text now (said_by last)) → EndsBefore l0 ending p0 p2
    Followed-done_short l2 p2 last so read end within ended front =
        ends-done_short l0 l2 p0 p2 so.bytes (subst (Consumes l0 l2) (append-nil so.bytes) (Consumes-trans l0 l1 l2 so.bytes [] so.read read)) end (omega (arith, so.count, within))
        (subst (AppendsFront p0 p2) (whole_text limits.line_bytes given l0 l1 p0 p1 first now w last so ended ∙ ap (λ f. last_text f (said_by (lines limits.line_bytes so.bytes))) is)
        (AppendsFront-after p0 p1 p2 (next_blocks first (said_by (whole limits.line_bytes so.bytes))) (last_text now (said_by last)) so.written front))

-- ---- what writing ends

-- as writing ends a run, so does following
pub write-ends : (w0 w1 w2 : ℕ) (ends : Verdict → Type 0) (reads : Type 0) (s : Status) → w0 ≤ w1 → WriteEnds w1 w2 s → StatusWhere ends reads (Rose w0 w2) s
write-ends w0 w1 w2 ends reads status.Memory le e = tt
write-ends w0 w1 w2 ends reads status.WriteFault le e = omega arith
write-ends w0 w1 w2 ends reads status.ReadFault le e = absurd e
write-ends w0 w1 w2 ends reads status.Done le e = absurd e
write-ends w0 w1 w2 ends reads status.Usage le e = absurd e
write-ends w0 w1 w2 ends reads status.NoFile le e = absurd e
write-ends w0 w1 w2 ends reads status.TooMuch le e = absurd e
write-ends w0 w1 w2 ends reads (status.BadGraph line why) le e = absurd e
write-ends w0 w1 w2 ends reads (status.BadPatterns line why) le e = absurd e

-- it ends it early
pub write-early : (w0 w1 : ℕ) (s : Status) → WriteEnds w0 w1 s → IsEarly s
write-early w0 w1 status.Memory e = tt
write-early w0 w1 status.WriteFault e = tt
write-early w0 w1 status.ReadFault e = tt
write-early w0 w1 status.Done e = e
write-early w0 w1 status.Usage e = e
write-early w0 w1 status.NoFile e = tt
write-early w0 w1 status.TooMuch e = tt
write-early w0 w1 (status.BadGraph line why) e = tt
write-early w0 w1 (status.BadPatterns line why) e = tt
