-- The lines of a stream do not depend on how it is cut.
use Rattle.std.proofs.Common.{◌≡◌, ℕ, List, [], ◌∷◌, ◌++◌, refl, sym, ap, ◌∙◌, append_assoc, append-nil, subst}
use Rattle.flux_model.specs.Lines.{InputLine, open_end, whole, rest}
use Rattle.stream_lines.specs.Waiting.{Waiting}
use Rattle.stream_lines.specs.Follows.{rest_line}
use Rattle.stream_lines.specs.Cuts.{Event, came, taken, joined, taken_lines, Came, Taken, Leads, nothing_yet, AnyCut}
use Rattle.stream_lines.proofs.KeptLemmas.{rest_line-rest_of}
use Rattle.stream_lines.proofs.CallerLemmas.{Follows-rest, Follows-whole, whole-nil, rest-nil}

-- the lines that are done, those that wait and the rest are those of the bytes so far
record Stand (n : ℕ) (b : List ℕ) (done : List InputLine) (now : Waiting) : Type 0 where
  limit : now.line_bytes ≡ n
  whole : done ++ now.queue ≡ whole now.line_bytes b
  rest : rest now.line_bytes b ≡ now.rest

Stand-came : (n : ℕ) (b piece : List ℕ) (done : List InputLine) (old new : Waiting) → Stand n b done old → Came piece old new → Stand n (b ++ piece) done new
Stand-came n b piece done old new at event =
    let follows = event.lines b at.rest in
    record {
      limit = event.line_bytes ∙ at.limit;
      whole = Follows-whole b piece old new done follows at.whole ∙ ap (λ k. whole k (b ++ piece)) (sym event.line_bytes);
      rest = Follows-rest b piece old new follows event.line_bytes;
    }

Stand-taken : (n : ℕ) (b : List ℕ) (done : List InputLine) (line : InputLine) (old new : Waiting) → Stand n b done old → Taken line old new → Stand n b (done ++ line ∷ []) new
Stand-taken n b done line old new at event = record {
  limit = event.line_bytes ∙ at.limit;
  whole = append_assoc done (line ∷ []) new.queue ∙ ap (λ l. done ++ l) (sym event.queue) ∙ at.whole ∙ ap (λ k. whole k b) (sym event.line_bytes);
  rest = ap (λ k. rest k b) event.line_bytes ∙ at.rest ∙ sym event.rest;
}

Stand-leads : (n : ℕ) (b : List ℕ) (done : List InputLine) (events : List Event) (old new : Waiting) → Stand n b done old → Leads events old new
    → Stand n (b ++ joined events) (done ++ taken_lines events) new
Stand-leads n b done [] old new at leads =
    subst (λ s. Stand n (b ++ []) (done ++ []) s) (sym leads) (subst (λ l. Stand n l (done ++ []) old) (sym (append-nil b)) (subst (λ l. Stand n b l old) (sym (append-nil done)) at))
Stand-leads n b done (came piece ∷ events) old new at leads =
    subst (λ l. Stand n l (done ++ taken_lines events) new) (append_assoc b piece (joined events))
    (Stand-leads n (b ++ piece) done events leads.0 new (Stand-came n b piece done old leads.0 at leads.1) leads.2)
Stand-leads n b done (taken line ∷ events) old new at leads =
    subst (λ l. Stand n (b ++ joined events) l new) (append_assoc done (line ∷ []) (taken_lines events))
    (Stand-leads n b (done ++ line ∷ []) events leads.0 new (Stand-taken n b done line old leads.0 at leads.1) leads.2)

-- the law of all cuts
pub any : AnyCut
any n events now leads =
    let at = Stand-leads n [] [] events (nothing_yet n) now (record { limit = refl; whole = sym (whole-nil n); rest = rest-nil n }) leads in
    let whole_lines : taken_lines events ++ now.queue ≡ whole n (joined events) = at.whole ∙ ap (λ k. whole k (joined events)) at.limit in
    let left : now.rest ≡ rest n (joined events) = sym at.rest ∙ ap (λ k. rest k (joined events)) at.limit in
    record {
      whole = whole_lines;
      rest = left;
      lines = ap (λ l. l ++ rest_line n now.rest) whole_lines
          ∙ ap (λ r. whole n (joined events) ++ rest_line n r) left ∙ ap (λ l. whole n (joined events) ++ l) (rest_line-rest_of n (open_end (joined events)));
    }
