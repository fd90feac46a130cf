-- What has been put of the blocks, and what waits in the report.
use Rattle.std.proofs.Common.{◌≡◌, ℕ, ◌+◌, ◌≤◌, Bool, true, false, cond, List, [], ◌∷◌, ◌++◌, length, refl, sym, ap, ◌∙◌, append_assoc, append-nil, length-append, arith, Option, Result, Ok, Err, OnOk, OnErr, take, drop, subst}
use Rattle.std.specs.List.{count_by}
use Rattle.std.proofs.lemmas.List.{map-append, length-map}
use Rattle.std.proofs.lemmas.List.Sums.{sum_by-cons}
use Rattle.std.proofs.KnownBytes.{Consumes-nil, Consumes-trans, Appends-nil, Appends-trans}
use Rattle.std.specs.Io.KnownBytes.{Appends, Consumes}
use Rattle.flux_outside.specs.Told.{AppendsFront}
use Rattle.flux_model.specs.Grown.{GrewByFront}
use Rattle.flux_model.specs.Lines.{InputLine, held, whole, rest, lines}
use Rattle.flux_model.specs.Reading.{update_reading}
use Rattle.flux_model.specs.Graph.{Graph}
use Rattle.flux_model.specs.Pattern.{PatternGraph}
use Rattle.flux_model.specs.Report.{outcome, outcomes, blocks, next_graph, is_accepted, is_refused, end_line, watch_text}
use Rattle.flux_model.proofs.ReportLemmas.{length-outcomes}
use Rattle.flux_model.specs.declared.said.Said.{Said}
use Rattle.flux_model.specs.declared.graph.Update.{Update}
use Rattle.flux_model.specs.declared.limits.Limits.{Limits}
use Rattle.stream_lines.specs.Waiting.{Waiting}
use Rattle.stream_lines.specs.Follows.{Follows}
use Rattle.stream_lines.proofs.CallerLemmas.{length-whole, rest-nil}
use Rattle.watch_core.specs.Session.{WatchState, first_state, said_by, counted, after_said, after_all, next_block, next_blocks, end_text, last_text}
use Rattle.watch_cli.specs.ReportProgress.{Wrote}
use Rattle.watch_cli.specs.UpdatesProgress.{Followed}

-- ---- the session, line by line

-- after lines and then more
pub after_all-append : (s : WatchState) (xs ys : List (Said Update)) → after_all s (xs ++ ys) ≡ after_all (after_all s xs) ys
after_all-append s [] ys = refl
after_all-append s (x ∷ xs) ys = after_all-append (after_said s x) xs ys

-- the block of the next line, and then those of the others
next_blocks-cons : (s : WatchState) (x : Said Update) (xs : List (Said Update)) → next_blocks s (x ∷ xs) ≡ next_block s x ++ next_blocks (after_said s x) xs
next_blocks-cons s x xs = ap (λ k. next_block s x ++ blocks s.limits s.patterns (next_graph s.limits s.graph x) xs k) (omega arith)

-- the blocks of lines and then of more
pub next_blocks-append : (s : WatchState) (xs ys : List (Said Update)) → next_blocks s (xs ++ ys) ≡ next_blocks s xs ++ next_blocks (after_all s xs) ys
next_blocks-append s [] ys = refl
next_blocks-append s (x ∷ xs) ys =
    next_blocks-cons s x (xs ++ ys) ∙ ap (λ t. next_block s x ++ t) (next_blocks-append (after_said s x) xs ys)
    ∙ sym (append_assoc (next_block s x) (next_blocks (after_said s x) xs) (next_blocks (after_all (after_said s x) xs) ys))
    ∙ ap (λ t. t ++ next_blocks (after_all (after_said s x) xs) ys) (sym (next_blocks-cons s x xs))

-- the last text of lines and then of more
pub last_text-append : (s : WatchState) (xs ys : List (Said Update)) → last_text s (xs ++ ys) ≡ next_blocks s xs ++ last_text (after_all s xs) ys
last_text-append s xs ys =
    ap (λ t. t ++ end_text (after_all s (xs ++ ys))) (next_blocks-append s xs ys)
    ∙ append_assoc (next_blocks s xs) (next_blocks (after_all s xs) ys) (end_text (after_all s (xs ++ ys)))
    ∙ ap (λ z. next_blocks s xs ++ (next_blocks (after_all s xs) ys ++ end_text z)) (after_all-append s xs ys)

-- each line counts as one
pub lines-after : (s : WatchState) (xs : List (Said Update)) → (after_all s xs).lines ≡ s.lines + length xs
lines-after s [] = omega arith
lines-after s (x ∷ xs) = lines-after (after_said s x) xs ∙ omega arith

accepted-after : (s : WatchState) (xs : List (Said Update)) → (after_all s xs).accepted ≡ s.accepted + count_by is_accepted (outcomes s.limits s.graph xs)
accepted-after s [] = omega arith
accepted-after s (x ∷ xs) = accepted-after (after_said s x) xs ∙ by (is_accepted (outcome s.limits s.graph x)) ∙ sym (ap (λ n. s.accepted + n) (sum_by-cons (λ o. cond (is_accepted o) 1 0) (outcome s.limits s.graph x) (outcomes s.limits (next_graph s.limits s.graph x) xs)))
  where
    by : (b : Bool) → counted b s.accepted + count_by is_accepted (outcomes s.limits (next_graph s.limits s.graph x) xs) ≡ s.accepted + (cond b 1 0 + count_by is_accepted (outcomes s.limits (next_graph s.limits s.graph x) xs))
    by true = omega arith
    by false = omega arith

refused-after : (s : WatchState) (xs : List (Said Update)) → (after_all s xs).refused ≡ s.refused + count_by is_refused (outcomes s.limits s.graph xs)
refused-after s [] = omega arith
refused-after s (x ∷ xs) = refused-after (after_said s x) xs ∙ by (is_refused (outcome s.limits s.graph x)) ∙ sym (ap (λ n. s.refused + n) (sum_by-cons (λ o. cond (is_refused o) 1 0) (outcome s.limits s.graph x) (outcomes s.limits (next_graph s.limits s.graph x) xs)))
  where
    by : (b : Bool) → counted b s.refused + count_by is_refused (outcomes s.limits (next_graph s.limits s.graph x) xs) ≡ s.refused + (cond b 1 0 + count_by is_refused (outcomes s.limits (next_graph s.limits s.graph x) xs))
    by true = omega arith
    by false = omega arith

-- from the first line on, the blocks and the end line are the whole text
pub last_text-first : (limits : Limits) (g : Graph) (patterns : List PatternGraph) (xs : List (Said Update)) → last_text (first_state limits g patterns) xs ≡ watch_text limits g patterns xs
last_text-first limits g patterns xs =
    let s = first_state limits g patterns in
    let count : (after_all s xs).lines ≡ length (outcomes limits g xs) = lines-after s xs ∙ omega (arith, length-outcomes limits g xs) in
    let accepted : (after_all s xs).accepted ≡ count_by is_accepted (outcomes limits g xs) = accepted-after s xs ∙ omega arith in
    let refused : (after_all s xs).refused ≡ count_by is_refused (outcomes limits g xs) = refused-after s xs ∙ omega arith in
    ap (λ t. next_blocks s xs ++ t) (
    ap (λ n. end_line n (after_all s xs).accepted (after_all s xs).refused) count
    ∙ ap (λ n. end_line (length (outcomes limits g xs)) n (after_all s xs).refused) accepted
    ∙ ap (λ n. end_line (length (outcomes limits g xs)) (count_by is_accepted (outcomes limits g xs)) n) refused)

-- ---- known bytes and front parts

-- where nothing was put
pub AppendsFront-nothing : (put : Option (List ℕ)) (text : List ℕ) → AppendsFront put put text
AppendsFront-nothing put text = ([], text, refl, Appends-nil put)

-- where all was put
pub AppendsFront-all : (p0 p1 : Option (List ℕ)) (text : List ℕ) → Appends p0 p1 text → AppendsFront p0 p1 text
AppendsFront-all p0 p1 text put = (text, [], sym (append-nil text), put)

-- of a longer text
pub AppendsFront-longer : (p0 p1 : Option (List ℕ)) (text more : List ℕ) → AppendsFront p0 p1 text → AppendsFront p0 p1 (text ++ more)
AppendsFront-longer p0 p1 text more front =
    (front.0, front.1 ++ more, ap (λ t. t ++ more) front.2 ∙ append_assoc front.0 front.1 more, front.3)

-- of what comes behind what was put
pub AppendsFront-after : (p0 p1 p2 : Option (List ℕ)) (done text : List ℕ) → Appends p0 p1 done → AppendsFront p1 p2 text → AppendsFront p0 p2 (done ++ text)
AppendsFront-after p0 p1 p2 done text put front =
    (done ++ front.0, front.1, ap (λ t. done ++ t) front.2 ∙ sym (append_assoc done front.0 front.1), Appends-trans p0 p1 p2 done front.0 put front.3)

-- ---- a line's block

-- the block waits
pub Wrote-waits : (put : Option (List ℕ)) (waited waits text : List ℕ) → waits ≡ waited ++ text → Wrote put put waited waits text
Wrote-waits put waited waits text e = record { part = []; put = Appends-nil put; whole = e }

-- all was put
pub Wrote-put : (p0 p1 : Option (List ℕ)) (waited report waits text : List ℕ) → report ≡ waited ++ text → Appends p0 p1 report → waits ≡ [] → Wrote p0 p1 waited waits text
Wrote-put p0 p1 waited report waits text e put none =
    record { part = report; put = put; whole = ap (λ t. report ++ t) none ∙ append-nil report ∙ e }

-- what was gathered of it was put, or a front part of that
pub gathered_put : (p0 p1 : Option (List ℕ)) (waited report text : List ℕ) → GrewByFront waited report text → AppendsFront p0 p1 report → AppendsFront p0 p1 (waited ++ text)
gathered_put p0 p1 waited report text grew front =
    subst (AppendsFront p0 p1) (ap (λ t. t ++ grew.left) grew.new_is ∙ append_assoc waited grew.part grew.left ∙ ap (λ t. waited ++ t) (sym grew.text_is))
    (AppendsFront-longer p0 p1 report grew.left front)

-- a put that ended one way or the other
pub put_either : {T E : Type 0} (r : Result T E) (p0 p1 : Option (List ℕ)) (text : List ℕ) → OnOk r (Appends p0 p1 text) → OnErr r (AppendsFront p0 p1 text) → AppendsFront p0 p1 text
put_either (Ok x) p0 p1 text put front = AppendsFront-all p0 p1 text put
put_either (Err e) p0 p1 text put front = front

-- ---- the blocks of the lines that wait

-- of the blocks of all lines a part was put, then comes what waits in the report, and then the blocks of the lines that are left
pub record Reported (put0 put1 : Option (List ℕ)) (report : List ℕ) (first now : WatchState) (all left : List (Said Update)) : Type 0 where
  pub part : List ℕ
  pub put : Appends put0 put1 part
  pub whole : part ++ (report ++ next_blocks now left) ≡ next_blocks first all
  pub state : after_all now left ≡ after_all first all

-- before the first line
pub Reported-start : (put : Option (List ℕ)) (report : List ℕ) (s : WatchState) (all : List (Said Update)) → report ≡ [] → Reported put put report s s all all
Reported-start put report s all none = record { part = []; put = Appends-nil put; whole = ap (λ t. t ++ next_blocks s all) none; state = refl }

-- a line more
pub Reported-next : (p0 p1 p2 : Option (List ℕ)) (report1 report2 : List ℕ) (first now next : WatchState) (all left : List (Said Update)) (said : Said Update)
    → Reported p0 p1 report1 first now all (said ∷ left) → Wrote p1 p2 report1 report2 (next_block now said) → next ≡ after_said now said
    → Reported p0 p2 report2 first next all left
Reported-next p0 p1 p2 report1 report2 first now next all left said so wrote after =
    let rest : List ℕ = next_blocks (after_said now said) left in
    record {
      part = so.part ++ wrote.part;
      put = Appends-trans p0 p1 p2 so.part wrote.part so.put wrote.put;
      whole = append_assoc so.part wrote.part (report2 ++ next_blocks next left)
          ∙ ap (λ (z : WatchState). so.part ++ (wrote.part ++ (report2 ++ next_blocks z left))) after
          ∙ ap (λ t. so.part ++ t) (sym (append_assoc wrote.part report2 rest) ∙ ap (λ t. t ++ rest) wrote.whole ∙ append_assoc report1 (next_block now said) rest ∙ ap (λ t. report1 ++ t) (sym (next_blocks-cons now said left)))
          ∙ so.whole;
      state = ap (λ (z : WatchState). after_all z left) after ∙ so.state;
    }

-- a line of which a front part was put
pub Reported-short : (p0 p1 p2 : Option (List ℕ)) (report1 : List ℕ) (first now : WatchState) (all left : List (Said Update)) (said : Said Update)
    → Reported p0 p1 report1 first now all (said ∷ left) → AppendsFront p1 p2 (report1 ++ next_block now said) → AppendsFront p0 p2 (next_blocks first all)
Reported-short p0 p1 p2 report1 first now all left said so front =
    let rest : List ℕ = next_blocks (after_said now said) left in
    subst (AppendsFront p0 p2) (ap (λ t. so.part ++ t) (append_assoc report1 (next_block now said) rest ∙ ap (λ t. report1 ++ t) (sym (next_blocks-cons now said left))) ∙ so.whole)
    (AppendsFront-after p0 p1 p2 so.part ((report1 ++ next_block now said) ++ rest) so.put (AppendsFront-longer p1 p2 (report1 ++ next_block now said) rest front))

-- the first of the lines that wait
pub queue-cons : (q : List InputLine) (x : InputLine) → x ∷ [] ≡ take 1 q → said_by q ≡ update_reading x ∷ said_by (drop 1 q)
queue-cons [] x e = cc
queue-cons (y ∷ q) x e = let same : y ≡ x = cc in ap (λ z. update_reading z ∷ said_by q) same

-- the first of the lines that wait is taken
pub Reported-turn : (p0 p1 p2 : Option (List ℕ)) (report1 report2 : List ℕ) (first now next : WatchState) (all : List (Said Update)) (q : List InputLine) (x : InputLine)
    → x ∷ [] ≡ take 1 q → Reported p0 p1 report1 first now all (said_by q) → Wrote p1 p2 report1 report2 (next_block now (update_reading x)) → next ≡ after_said now (update_reading x)
    → Reported p0 p2 report2 first next all (said_by (drop 1 q))
Reported-turn p0 p1 p2 report1 report2 first now next all q x e so wrote after =
    Reported-next p0 p1 p2 report1 report2 first now next all (said_by (drop 1 q)) (update_reading x) (subst (Reported p0 p1 report1 first now all) (queue-cons q x e) so) wrote after

-- the first of the lines that wait stops it
pub Reported-stops : (p0 p1 p2 : Option (List ℕ)) (report1 : List ℕ) (first now : WatchState) (all : List (Said Update)) (q : List InputLine) (x : InputLine)
    → x ∷ [] ≡ take 1 q → Reported p0 p1 report1 first now all (said_by q) → AppendsFront p1 p2 (report1 ++ next_block now (update_reading x)) → AppendsFront p0 p2 (next_blocks first all)
Reported-stops p0 p1 p2 report1 first now all q x e so front =
    Reported-short p0 p1 p2 report1 first now all (said_by (drop 1 q)) (update_reading x) (subst (Reported p0 p1 report1 first now all) (queue-cons q x e) so) front

-- a line that is taken waits no more
pub one_less : (q : List InputLine) (x : InputLine) → x ∷ [] ≡ take 1 q → length q ≡ length (drop 1 q) + 1
one_less [] x e = cc
one_less (y ∷ q) x e = omega arith

-- where there is no first line
pub nothing_waits : (q : List InputLine) → [] ≡ take 1 q → q ≡ []
nothing_waits [] e = refl
nothing_waits (x ∷ q) e = cc

-- no line is left: the report is what is left of the blocks
all_reported : (p0 p1 : Option (List ℕ)) (report : List ℕ) (first now : WatchState) (all : List (Said Update)) (so : Reported p0 p1 report first now all []) → so.part ++ report ≡ next_blocks first all
all_reported p0 p1 report first now all so = ap (λ t. so.part ++ t) (sym (append-nil report)) ∙ so.whole

-- then the report was put
pub Reported-end : (p0 p1 p2 : Option (List ℕ)) (report : List ℕ) (first now : WatchState) (all : List (Said Update))
    → Reported p0 p1 report first now all [] → Appends p1 p2 report → Appends p0 p2 (next_blocks first all)
Reported-end p0 p1 p2 report first now all so put =
    subst (Appends p0 p2) (all_reported p0 p1 report first now all so) (Appends-trans p0 p1 p2 so.part report so.put put)

-- then a front part of the report was put
pub Reported-end_short : (p0 p1 p2 : Option (List ℕ)) (report : List ℕ) (first now : WatchState) (all : List (Said Update))
    → Reported p0 p1 report first now all [] → AppendsFront p1 p2 report → AppendsFront p0 p2 (next_blocks first all)
Reported-end_short p0 p1 p2 report first now all so front =
    subst (AppendsFront p0 p2) (all_reported p0 p1 report first now all so) (AppendsFront-after p0 p1 p2 so.part report so.put front)

-- ---- the last line and the end line

-- the end line was put behind it
pub ended_by : (p0 p1 p2 : Option (List ℕ)) (report text end : List ℕ) → Wrote p0 p1 [] report text → Appends p1 p2 (report ++ end) → Appends p0 p2 (text ++ end)
ended_by p0 p1 p2 report text end wrote put =
    subst (Appends p0 p2) (sym (append_assoc wrote.part report end) ∙ ap (λ t. t ++ end) wrote.whole) (Appends-trans p0 p1 p2 wrote.part (report ++ end) wrote.put put)

-- a front part of it with the end line was put
pub ended_short : (p0 p1 p2 : Option (List ℕ)) (report text end : List ℕ) → Wrote p0 p1 [] report text → AppendsFront p1 p2 (report ++ end) → AppendsFront p0 p2 (text ++ end)
ended_short p0 p1 p2 report text end wrote front =
    subst (AppendsFront p0 p2) (sym (append_assoc wrote.part report end) ∙ ap (λ t. t ++ end) wrote.whole) (AppendsFront-after p0 p1 p2 wrote.part (report ++ end) wrote.put front)

-- the last text where one line is left
pub last_one : (s : WatchState) (x : Said Update) → last_text s (x ∷ []) ≡ next_block s x ++ end_text (after_said s x)
last_one s x = ap (λ t. t ++ end_text (after_said s x)) (append-nil (next_block s x))

-- the last line and the end line were put
pub last_put : (p0 p1 p2 : Option (List ℕ)) (waited report : List ℕ) (s next : WatchState) (x : Said Update) → waited ≡ [] → Wrote p0 p1 waited report (next_block s x) → next ≡ after_said s x
    → Appends p1 p2 (report ++ end_text next) → Appends p0 p2 (last_text s (x ∷ []))
last_put p0 p1 p2 waited report s next x none wrote after put =
    subst (Appends p0 p2) (sym (last_one s x))
    (ended_by p0 p1 p2 report (next_block s x) (end_text (after_said s x)) (subst (λ w. Wrote p0 p1 w report (next_block s x)) none wrote)
    (subst (λ (z : WatchState). Appends p1 p2 (report ++ end_text z)) after put))

-- a front part of the last line and the end line was put
pub last_short : (p0 p1 p2 : Option (List ℕ)) (waited report : List ℕ) (s next : WatchState) (x : Said Update) → waited ≡ [] → Wrote p0 p1 waited report (next_block s x) → next ≡ after_said s x
    → AppendsFront p1 p2 (report ++ end_text next) → AppendsFront p0 p2 (last_text s (x ∷ []))
last_short p0 p1 p2 waited report s next x none wrote after front =
    subst (AppendsFront p0 p2) (sym (last_one s x))
    (ended_short p0 p1 p2 report (next_block s x) (end_text (after_said s x)) (subst (λ w. Wrote p0 p1 w report (next_block s x)) none wrote)
    (subst (λ (z : WatchState). AppendsFront p1 p2 (report ++ end_text z)) after front))

-- the last line stopped it
pub last_stopped : (p0 p1 : Option (List ℕ)) (waited : List ℕ) (s : WatchState) (x : Said Update) → waited ≡ [] → AppendsFront p0 p1 (waited ++ next_block s x) → AppendsFront p0 p1 (last_text s (x ∷ []))
last_stopped p0 p1 waited s x none front =
    subst (AppendsFront p0 p1) (sym (last_one s x)) (AppendsFront-longer p0 p1 (next_block s x) (end_text (after_said s x)) (subst (λ w. AppendsFront p0 p1 (w ++ next_block s x)) none front))

-- no last line
pub none_put : (p0 p1 : Option (List ℕ)) (waited : List ℕ) (s : WatchState) → waited ≡ [] → Appends p0 p1 (waited ++ end_text s) → Appends p0 p1 (last_text s [])
none_put p0 p1 waited s none put = subst (λ w. Appends p0 p1 (w ++ end_text s)) none put

-- no last line, and a front part of the end line was put
pub none_short : (p0 p1 : Option (List ℕ)) (waited : List ℕ) (s : WatchState) → waited ≡ [] → AppendsFront p0 p1 (waited ++ end_text s) → AppendsFront p0 p1 (last_text s [])
none_short p0 p1 waited s none front = subst (λ w. AppendsFront p0 p1 (w ++ end_text s)) none front

-- ---- the updates, piece by piece

-- before the first read
pub Followed-start : (n : ℕ) (left put : Option (List ℕ)) (s : WatchState) (waiting : Waiting) → waiting ≡ record { line_bytes = n; queue = []; rest = held [] }
    → (start : Followed n 0 left left put put s s waiting) × (start.bytes ≡ [])
Followed-start n left put s waiting is = (
  record {
    bytes = [];
    count = refl;
    read = Consumes-nil left;
    written = Appends-nil put;
    state = refl;
    limit = ap (λ (w : Waiting). w.line_bytes) is;
    queue = ap (λ (w : Waiting). w.queue) is;
    rest = ap (λ (w : Waiting). w.rest) is ∙ sym (rest-nil n);
  },
  refl,
)

-- what a push adds
pub pushed : (n given : ℕ) (l0 l1 p0 p1 : Option (List ℕ)) (first now : WatchState) (w0 w1 : Waiting) (piece : List ℕ) (so : Followed n given l0 l1 p0 p1 first now w0)
    → ((b : List ℕ) → rest w0.line_bytes b ≡ w0.rest → Follows b piece w0 w1)
    → (whole n (so.bytes ++ piece) ≡ whole n so.bytes ++ w1.queue) × (w1.rest ≡ rest n (so.bytes ++ piece))
pushed n given l0 l1 p0 p1 first now w0 w1 piece so follows =
    let f = follows so.bytes (ap (λ k. rest k so.bytes) so.limit ∙ sym so.rest) in
    let waits : w1.queue ≡ f.more = f.queue ∙ ap (λ q. q ++ f.more) so.queue in (
      ap (λ k. whole k (so.bytes ++ piece)) (sym so.limit) ∙ f.lines ∙ ap (λ k. whole k so.bytes ++ f.more) so.limit ∙ ap (λ q. whole n so.bytes ++ q) (sym waits),
      f.rest ∙ ap (λ k. rest k (so.bytes ++ piece)) so.limit,
    )

-- what the lines of a front and those that wait say
pub said-pushed : (n : ℕ) (bytes piece : List ℕ) (queue : List InputLine) → whole n (bytes ++ piece) ≡ whole n bytes ++ queue → said_by (whole n (bytes ++ piece)) ≡ said_by (whole n bytes) ++ said_by queue
said-pushed n bytes piece queue e = ap said_by e ∙ map-append update_reading (whole n bytes) queue

-- the number of lines stays below that of bytes
pub lines_fit : (n given count : ℕ) (l0 l1 p0 p1 : Option (List ℕ)) (first now : WatchState) (w0 w1 : Waiting) (piece : List ℕ) → Followed n given l0 l1 p0 p1 first now w0
    → ((b : List ℕ) → rest w0.line_bytes b ≡ w0.rest → Follows b piece w0 w1) → count ≡ length piece
    → now.lines + length w1.queue ≤ first.lines + (given + count)
lines_fit n given count l0 l1 p0 p1 first now w0 w1 piece so follows len =
    let add = (pushed n given l0 l1 p0 p1 first now w0 w1 piece so follows).0 in
    let before : now.lines ≡ first.lines + length (said_by (whole n so.bytes)) = ap (λ (s : WatchState). s.lines) so.state ∙ lines-after first (said_by (whole n so.bytes)) in
    omega (arith, before, length-map (whole n so.bytes) update_reading, so.count, len, length-whole n (so.bytes ++ piece), ap length add, length-append (whole n so.bytes) w1.queue, length-append so.bytes piece)

-- so does the number of lines before a read
pub some_lines_fit : (n given : ℕ) (l0 l1 p0 p1 : Option (List ℕ)) (first now : WatchState) (w : Waiting) → Followed n given l0 l1 p0 p1 first now w → now.lines ≤ first.lines + given
some_lines_fit n given l0 l1 p0 p1 first now w so =
    let before : now.lines ≡ first.lines + length (said_by (whole n so.bytes)) = ap (λ (s : WatchState). s.lines) so.state ∙ lines-after first (said_by (whole n so.bytes)) in
    omega (arith, before, length-map (whole n so.bytes) update_reading, so.count, length-whole n so.bytes)

-- the blocks of the lines that a piece ends were put
pub Followed-next : (n given count : ℕ) (l0 l1 l2 p0 p1 p2 : Option (List ℕ)) (first now next : WatchState) (w0 w1 w2 : Waiting) (piece : List ℕ) (so : Followed n given l0 l1 p0 p1 first now w0)
    → Consumes l1 l2 piece → count ≡ length piece
    → ((b : List ℕ) → rest w0.line_bytes b ≡ w0.rest → Follows b piece w0 w1) → w1.line_bytes ≡ w0.line_bytes
    → Appends p1 p2 (next_blocks now (said_by w1.queue)) → next ≡ after_all now (said_by w1.queue) → w2 ≡ record w1 { queue = [] }
    → (after : Followed n (given + count) l0 l2 p0 p2 first next w2) × (after.bytes ≡ so.bytes ++ piece)
Followed-next n given count l0 l1 l2 p0 p1 p2 first now next w0 w1 w2 piece so read len follows limit put after passed =
    let add = pushed n given l0 l1 p0 p1 first now w0 w1 piece so follows in
    let said : said_by (whole n (so.bytes ++ piece)) ≡ said_by (whole n so.bytes) ++ said_by w1.queue = said-pushed n so.bytes piece w1.queue add.0 in (
      record {
        bytes = so.bytes ++ piece;
        count = omega (arith, length-append so.bytes piece, so.count, len);
        read = Consumes-trans l0 l1 l2 so.bytes piece so.read read;
        written = subst (Appends p0 p2)
            (ap (λ (s : WatchState). next_blocks first (said_by (whole n so.bytes)) ++ next_blocks s (said_by w1.queue)) so.state
            ∙ sym (ap (next_blocks first) said ∙ next_blocks-append first (said_by (whole n so.bytes)) (said_by w1.queue)))
            (Appends-trans p0 p1 p2 (next_blocks first (said_by (whole n so.bytes))) (next_blocks now (said_by w1.queue)) so.written put);
        state = after ∙ ap (λ (s : WatchState). after_all s (said_by w1.queue)) so.state ∙ sym (ap (after_all first) said ∙ after_all-append first (said_by (whole n so.bytes)) (said_by w1.queue));
        limit = ap (λ (w : Waiting). w.line_bytes) passed ∙ limit ∙ so.limit;
        queue = ap (λ (w : Waiting). w.queue) passed;
        rest = ap (λ (w : Waiting). w.rest) passed ∙ add.1;
      },
      refl,
    )

-- a front part of the blocks of the lines that a piece ends was put
pub Followed-short : (n given : ℕ) (l0 l1 p0 p1 p2 : Option (List ℕ)) (first now : WatchState) (w0 w1 : Waiting) (piece : List ℕ) (so : Followed n given l0 l1 p0 p1 first now w0)
    → ((b : List ℕ) → rest w0.line_bytes b ≡ w0.rest → Follows b piece w0 w1)
    → AppendsFront p1 p2 (next_blocks now (said_by w1.queue)) → AppendsFront p0 p2 (next_blocks first (said_by (whole n (so.bytes ++ piece))))
Followed-short n given l0 l1 p0 p1 p2 first now w0 w1 piece so follows front =
    let add = (pushed n given l0 l1 p0 p1 first now w0 w1 piece so follows).0 in
    subst (AppendsFront p0 p2)
    (ap (λ (s : WatchState). next_blocks first (said_by (whole n so.bytes)) ++ next_blocks s (said_by w1.queue)) so.state
    ∙ sym (ap (next_blocks first) (said-pushed n so.bytes piece w1.queue add) ∙ next_blocks-append first (said_by (whole n so.bytes)) (said_by w1.queue)))
    (AppendsFront-after p0 p1 p2 (next_blocks first (said_by (whole n so.bytes))) (next_blocks now (said_by w1.queue)) so.written front)

-- all lines of what was read, where the source is at its end
pub all_lines : (n given : ℕ) (l0 l1 p0 p1 : Option (List ℕ)) (first now : WatchState) (w : Waiting) (last : List InputLine) (so : Followed n given l0 l1 p0 p1 first now w)
    → ((b : List ℕ) → rest w.line_bytes b ≡ w.rest → lines w.line_bytes b ≡ whole w.line_bytes b ++ last) → lines n so.bytes ≡ whole n so.bytes ++ last
all_lines n given l0 l1 p0 p1 first now w last so ended =
    ap (λ k. lines k so.bytes) (sym so.limit) ∙ ended so.bytes (ap (λ k. rest k so.bytes) so.limit ∙ sym so.rest) ∙ ap (λ k. whole k so.bytes ++ last) so.limit

-- the text of all that was read, where the source is at its end
pub whole_text : (n given : ℕ) (l0 l1 p0 p1 : Option (List ℕ)) (first now : WatchState) (w : Waiting) (last : List InputLine) (so : Followed n given l0 l1 p0 p1 first now w)
    → ((b : List ℕ) → rest w.line_bytes b ≡ w.rest → lines w.line_bytes b ≡ whole w.line_bytes b ++ last)
    → next_blocks first (said_by (whole n so.bytes)) ++ last_text now (said_by last) ≡ last_text first (said_by (lines n so.bytes))
whole_text n given l0 l1 p0 p1 first now w last so ended =
    let all = all_lines n given l0 l1 p0 p1 first now w last so ended in
    ap (λ (s : WatchState). next_blocks first (said_by (whole n so.bytes)) ++ last_text s (said_by last)) so.state
    ∙ sym (ap (λ ls. last_text first (said_by ls)) all ∙ ap (last_text first) (map-append update_reading (whole n so.bytes) last) ∙ last_text-append first (said_by (whole n so.bytes)) (said_by last))

-- the state after all that was read, where the source is at its end
pub whole_state : (n given : ℕ) (l0 l1 p0 p1 : Option (List ℕ)) (first now next : WatchState) (w : Waiting) (last : List InputLine) (so : Followed n given l0 l1 p0 p1 first now w)
    → ((b : List ℕ) → rest w.line_bytes b ≡ w.rest → lines w.line_bytes b ≡ whole w.line_bytes b ++ last) → next ≡ after_all now (said_by last)
    → next ≡ after_all first (said_by (lines n so.bytes))
whole_state n given l0 l1 p0 p1 first now next w last so ended after =
    let all = all_lines n given l0 l1 p0 p1 first now w last so ended in
    after ∙ ap (λ (s : WatchState). after_all s (said_by last)) so.state
    ∙ sym (ap (λ ls. after_all first (said_by ls)) all ∙ ap (after_all first) (map-append update_reading (whole n so.bytes) last) ∙ after_all-append first (said_by (whole n so.bytes)) (said_by last))
