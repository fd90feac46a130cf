-- What the lines of the updates have cost, as far as they were taken, and what a run has.
use Rattle.std.proofs.Common.{◌≡◌, ℕ, ◌+◌, ◌≤◌, List, [], ◌∷◌, ◌++◌, length, take, drop, append-nil, Option, None, Some, Result, Ok, Err, sym, ap, ◌∙◌, subst, arith}
use Rattle.std.specs.Io.KnownBytes.{Appends, Consumes, IsAtEnd}
use Rattle.std.proofs.KnownBytes.{Consumes-trans}
use Rattle.std.proofs.lemmas.List.{map-append}
use Rattle.flux_outside.specs.Told.{Files}
use Rattle.flux_model.specs.FileReading.{result_and_then}
use Rattle.flux_model.specs.Graph.{Graph}
use Rattle.flux_model.specs.Lines.{InputLine, held, whole, rest, lines}
use Rattle.flux_model.specs.Pattern.{PatternGraph}
use Rattle.flux_model.specs.Reading.{update_reading}
use Rattle.flux_model.specs.Tree.{QueryTree}
use Rattle.flux_model.specs.Verdict.{Shape, Save, Verdict, Watched, Matched, Saved, graph_file}
use Rattle.flux_model.specs.declared.said.Said.{Said}
use Rattle.flux_model.specs.declared.graph.Update.{Update}
use Rattle.flux_model.specs.declared.limits.Limits.{Limits}
use Rattle.pattern_registry.specs.AnswerCosts.{MeetNoDeadEnd, no_dead_end_costs}
use Rattle.pattern_registry.specs.States.{trees_over}
use Rattle.stream_lines.specs.Waiting.{Waiting}
use Rattle.stream_lines.specs.Follows.{Follows}
use Rattle.watch_core.specs.Session.{WatchState, first_state, said_by, after_said, after_all, next_blocks}
use Rattle.watch_cli.specs.RunCosts.{next_cost, next_costs, starts_cost, StaysWithin, RunStaysWithin}
use Rattle.watch_cli.specs.RunEnds.{KnownOrSome, inputs}
use Rattle.watch_cli.specs.UpdatesProgress.{Followed}
use Rattle.watch_cli.proofs.FollowLemmas.{KnownOrSome-map, KnownOrSome-any, KnownOrSome-whole}
use Rattle.watch_cli.proofs.ReportLemmas.{Followed-start, Followed-next, queue-cons, pushed, said-pushed, all_lines}
use Rattle.watch_cli.proofs.TopLemmas.{Judged}

-- ---- lines and then more

pub next_costs-append : (s : WatchState) (trees : List QueryTree) (xs ys : List (Said Update)) → next_costs s trees (xs ++ ys) ≡ next_costs s trees xs + next_costs (after_all s xs) trees ys
next_costs-append s trees [] ys = omega arith
next_costs-append s trees (x ∷ xs) ys = omega (arith, next_costs-append (after_said s x) trees xs ys)

-- ---- the lines that wait

-- the first of them is taken: what it cost, and what the others may
pub waiting-turn : (s next : WatchState) (now trees : List QueryTree) (q : List InputLine) (x : InputLine) (old new most : ℕ) → x ∷ [] ≡ take 1 q → next ≡ after_said s (update_reading x) → now ≡ trees
    → new ≤ old + next_cost s now (update_reading x) → old + next_costs s trees (said_by q) ≤ most → new + next_costs next trees (said_by (drop 1 q)) ≤ most
waiting-turn s next now trees q x old new most first after same cost before =
    let all : next_costs s trees (said_by q) ≡ next_cost s trees (update_reading x) + next_costs (after_said s (update_reading x)) trees (said_by (drop 1 q)) = ap (next_costs s trees) (queue-cons q x first) in
    let here : next_cost s now (update_reading x) ≡ next_cost s trees (update_reading x) = ap (λ ts. next_cost s ts (update_reading x)) same in
    let others : next_costs next trees (said_by (drop 1 q)) ≡ next_costs (after_said s (update_reading x)) trees (said_by (drop 1 q)) = ap (λ (z : WatchState). next_costs z trees (said_by (drop 1 q))) after in
    omega (arith, all, here, others, cost, before)

-- ---- the updates, piece by piece

module _ (n given : ℕ) (l0 l1 p0 p1 : Option (List ℕ)) (first now : WatchState) (w0 : Waiting) (so : Followed n given l0 l1 p0 p1 first now w0) (trees own : List QueryTree) (same : own ≡ trees) (start old new : ℕ)
    (before : old ≤ start + next_costs first trees (said_by (whole n so.bytes))) where
  -- the lines that a piece ends
  pub followed-spent : (w1 : Waiting) (piece : List ℕ) → ((b : List ℕ) → rest w0.line_bytes b ≡ w0.rest → Follows b piece w0 w1) → new ≤ old + next_costs now own (said_by w1.queue)
      → new ≤ start + next_costs first trees (said_by (whole n (so.bytes ++ piece)))
  followed-spent w1 piece follows cost =
      let said = said-pushed n so.bytes piece w1.queue (pushed n given l0 l1 p0 p1 first now w0 w1 piece so follows).0 in
      let all : next_costs first trees (said_by (whole n (so.bytes ++ piece))) ≡ next_costs first trees (said_by (whole n so.bytes)) + next_costs (after_all first (said_by (whole n so.bytes))) trees (said_by w1.queue) =
      ap (next_costs first trees) said ∙ next_costs-append first trees (said_by (whole n so.bytes)) (said_by w1.queue) in
      let here : next_costs now own (said_by w1.queue) ≡ next_costs (after_all first (said_by (whole n so.bytes))) trees (said_by w1.queue) =
      ap (λ ts. next_costs now ts (said_by w1.queue)) same ∙ ap (λ (z : WatchState). next_costs z trees (said_by w1.queue)) so.state in
      omega (arith, all, here, cost, before)

  -- the last line
  pub followed-all : (l2 : Option (List ℕ)) (last : List InputLine) → Consumes l1 l2 [] → IsAtEnd l2 → ((b : List ℕ) → rest w0.line_bytes b ≡ w0.rest → lines w0.line_bytes b ≡ whole w0.line_bytes b ++ last)
      → new ≤ old + next_costs now own (said_by last) → KnownOrSome l0 (λ s. new ≤ start + next_costs first trees (said_by (lines n s)))
  followed-all l2 last read end ended cost =
      let said = ap said_by (all_lines n given l0 l1 p0 p1 first now w0 last so ended) ∙ map-append update_reading (whole n so.bytes) last in
      let all : next_costs first trees (said_by (lines n so.bytes)) ≡ next_costs first trees (said_by (whole n so.bytes)) + next_costs (after_all first (said_by (whole n so.bytes))) trees (said_by last) =
      ap (next_costs first trees) said ∙ next_costs-append first trees (said_by (whole n so.bytes)) (said_by last) in
      let here : next_costs now own (said_by last) ≡ next_costs (after_all first (said_by (whole n so.bytes))) trees (said_by last) =
      ap (λ ts. next_costs now ts (said_by last)) same ∙ ap (λ (z : WatchState). next_costs z trees (said_by last)) so.state in
      KnownOrSome-whole l0 l2 so.bytes (λ s. new ≤ start + next_costs first trees (said_by (lines n s))) (subst (Consumes l0 l2) (append-nil so.bytes) (Consumes-trans l0 l1 l2 so.bytes [] so.read read)) end
      (omega (arith, all, here, cost, before))

-- how far the updates were followed, and what their lines have cost
pub record FollowedAt (n given : ℕ) (l0 l1 p0 p1 : Option (List ℕ)) (first now : WatchState) (w : Waiting) (trees : List QueryTree) (start steps : ℕ) : Type 0 where
  pub followed : Followed n given l0 l1 p0 p1 first now w
  pub spent : steps ≤ start + next_costs first trees (said_by (whole n followed.bytes))

-- before the first read
pub FollowedAt-start : (n : ℕ) (left put : Option (List ℕ)) (s : WatchState) (w : Waiting) (trees : List QueryTree) (steps : ℕ) → w ≡ record { line_bytes = n; queue = []; rest = held [] } → FollowedAt n 0 left left put put s s w trees steps steps
FollowedAt-start n left put s w trees steps is =
    let begun = Followed-start n left put s w is in
    record { followed = begun.0; spent = omega arith }

-- the lines that a piece ends were taken
pub FollowedAt-next : (n given count : ℕ) (l0 l1 l2 p0 p1 p2 : Option (List ℕ)) (first now next : WatchState) (w0 w1 w2 : Waiting) (piece : List ℕ) (trees own : List QueryTree) (start old new : ℕ)
    → FollowedAt n given l0 l1 p0 p1 first now w0 trees start old → Consumes l1 l2 piece → count ≡ length piece
    → ((b : List ℕ) → rest w0.line_bytes b ≡ w0.rest → Follows b piece w0 w1) → w1.line_bytes ≡ w0.line_bytes
    → Appends p1 p2 (next_blocks now (said_by w1.queue)) → next ≡ after_all now (said_by w1.queue) → w2 ≡ record w1 { queue = [] }
    → own ≡ trees → new ≤ old + next_costs now own (said_by w1.queue) → FollowedAt n (given + count) l0 l2 p0 p2 first next w2 trees start new
FollowedAt-next n given count l0 l1 l2 p0 p1 p2 first now next w0 w1 w2 piece trees own start old new so read len follows limit put after passed same cost =
    let further = Followed-next n given count l0 l1 l2 p0 p1 p2 first now next w0 w1 w2 piece so.followed read len follows limit put after passed in
    record {
      followed = further.0;
      spent = subst (λ bytes. new ≤ start + next_costs first trees (said_by (whole n bytes))) (sym further.1)
          (followed-spent n given l0 l1 p0 p1 first now w0 so.followed trees own same start old new so.spent w1 piece follows cost);
    }

-- ---- a run

-- of a watch: its start, and then the lines
pub watch-stays : (limits : Limits) (files : Option Files) (shape : Shape) (left : Option (List ℕ)) (g : Graph) (qs : List PatternGraph) (first : WatchState) (trees : List QueryTree) (old mid new : ℕ)
    → Judged limits files (Some shape) (Ok (Watched g qs)) → first ≡ first_state limits g qs → trees ≡ trees_over g qs → mid ≤ old + starts_cost g qs
    → KnownOrSome left (λ s. new ≤ mid + next_costs first trees (said_by (lines limits.line_bytes s))) → RunStaysWithin limits files (Some shape) left old new
watch-stays limits None shape left g qs first trees old mid new judged is chosen start after = tt
watch-stays limits (Some m) shape left g qs first trees old mid new judged is chosen start after =
    KnownOrSome-map left (λ s. new ≤ mid + next_costs first trees (said_by (lines limits.line_bytes s))) (λ s. StaysWithin limits (inputs limits m (Some shape)) s old new)
    (λ s so.
    let costs : next_costs first trees (said_by (lines limits.line_bytes s)) ≡ next_costs (first_state limits g qs) (trees_over g qs) (said_by (lines limits.line_bytes s)) =
    ap (λ (z : WatchState). next_costs z trees (said_by (lines limits.line_bytes s))) is ∙ ap (λ ts. next_costs (first_state limits g qs) ts (said_by (lines limits.line_bytes s))) chosen in
    let within : new ≤ old + starts_cost g qs + next_costs (first_state limits g qs) (trees_over g qs) (said_by (lines limits.line_bytes s)) = omega (arith, costs, start, so) in
    subst (λ r. StaysWithin limits r s old new) (sym judged) within) after

-- of a match
pub match-stays : (limits : Limits) (files : Option Files) (shape : Shape) (left : Option (List ℕ)) (g : Graph) (qs : List PatternGraph) (old new : ℕ) → Judged limits files (Some shape) (Ok (Matched g qs))
    → (MeetNoDeadEnd qs (trees_over g qs) → new ≤ old + starts_cost g qs + no_dead_end_costs g qs (trees_over g qs)) → RunStaysWithin limits files (Some shape) left old new
match-stays limits None shape left g qs old new judged within = tt
match-stays limits (Some m) shape left g qs old new judged within =
    KnownOrSome-any left (λ s. StaysWithin limits (inputs limits m (Some shape)) s old new) (λ s. subst (λ r. StaysWithin limits r s old new) (sym judged) within)

-- of a save: nothing is said
pub save-stays : (limits : Limits) (files : Option Files) (name : List ℕ) (left : Option (List ℕ)) (old new : ℕ) → RunStaysWithin limits files (Some (Save name)) left old new
save-stays limits None name left old new = tt
save-stays limits (Some m) name left old new =
    KnownOrSome-any left (λ s. StaysWithin limits (inputs limits m (Some (Save name))) s old new) (λ s. by s (graph_file limits (m name)))
  where
    by : (s : List ℕ) (r : Result Graph Verdict) → StaysWithin limits (result_and_then (λ g. Ok (Saved g)) r) s old new
    by s (Ok g) = tt
    by s (Err v) = tt

-- all answers of a registry that has just begun
pub answers-stay : (g : Graph) (qs ps : List PatternGraph) (ts : List QueryTree) (old mid new : ℕ) → ps ≡ qs → ts ≡ trees_over g qs → mid ≤ old + starts_cost g qs
    → (MeetNoDeadEnd ps ts → new ≤ mid + no_dead_end_costs g ps ts) → MeetNoDeadEnd qs (trees_over g qs) → new ≤ old + starts_cost g qs + no_dead_end_costs g qs (trees_over g qs)
answers-stay g qs ps ts old mid new patterns trees start search straight =
    let same : MeetNoDeadEnd ps ts ≡ MeetNoDeadEnd qs (trees_over g qs) = λ i. MeetNoDeadEnd (patterns i) (trees i) in
    let costs : no_dead_end_costs g ps ts ≡ no_dead_end_costs g qs (trees_over g qs) = λ i. no_dead_end_costs g (patterns i) (trees i) in
    omega (arith, search (subst (λ (T : Type 0). T) (sym same) straight), costs, start)
