-- How a checkpoint ends, from how its parts do.
use Rattle.std.proofs.Common.{◌≡◌, ◌⊎◌, ◌↔◌, ℕ, List, [], ◌++◌, Option, None, Some, refl, sym, ap, ◌∙◌, subst, inl, inr}
use Rattle.std.specs.Io.KnownBytes.{Appends}
use Rattle.std.proofs.KnownBytes.{Appends-nil}
use Rattle.flux_outside.specs.Told.{Files, AppendsFront}
use Rattle.flux_model.specs.Verdict.{Verdict, Ending}
use Rattle.flux_model.specs.Verdict as verdict
use Rattle.flux_model.specs.declared.limits.Limits.{Limits}
use Rattle.watch_cli.specs.EarlyEnds.{IsEarly}
use Rattle.watch_cli.specs.RunEnds.{verdict_of, StatusWhere}
use Rattle.watch_cli.specs.declared.status.Status.{Status}
use Rattle.watch_cli.specs.declared.status.Status.TheVariants as status
use Rattle.watch_cli.proofs.ReportLemmas.{AppendsFront-nothing}
use Rattle.graph_checkpoint.specs.Checkpoint.{checkpoint_for, OfDue}

module _ (limits : Limits) (files : Option Files) (left : Option (List ℕ)) (name : Option (List ℕ)) where
  -- what follows from it of the ending that is due
  due-map : (P Q : Ending → Type 0) → ((due : Ending) → P due → Q due) → OfDue limits files left name P → OfDue limits files left name Q
  due-map P Q f h = by files left h
    where
      by : (fs : Option Files) (l : Option (List ℕ)) → OfDue limits fs l name P → OfDue limits fs l name Q
      by None l h = tt
      by (Some m) None h = tt
      by (Some m) (Some s) h = f (checkpoint_for limits m name s) h

  -- what is so of every ending
  due-any : (P : Ending → Type 0) → ((due : Ending) → P due) → OfDue limits files left name P
  due-any P f = by files left
    where
      by : (fs : Option Files) (l : Option (List ℕ)) → OfDue limits fs l name P
      by None l = tt
      by (Some m) None = tt
      by (Some m) (Some s) = f (checkpoint_for limits m name s)

  -- it ends with this verdict, and wrote what is due
  abbrev pub EndsAsDue : (p0 p1 : Option (List ℕ)) → Verdict → Type 0
  EndsAsDue p0 p1 v = OfDue limits files left name (λ due. (due.verdict ≡ v) × Appends p0 p1 due.text)

  -- the text that is due was written
  pub written-due : (p0 p1 : Option (List ℕ)) (v : Verdict) (text : List ℕ) → OfDue limits files left name (λ due. due ≡ record { verdict = v; text = text })
      → Appends p0 p1 text → EndsAsDue p0 p1 v
  written-due p0 p1 v text is put =
      due-map (λ due. due ≡ record { verdict = v; text = text }) (λ due. (due.verdict ≡ v) × Appends p0 p1 due.text)
      (λ due e. (ap (λ (d : Ending). d.verdict) e, subst (Appends p0 p1) (sym (ap (λ (d : Ending). d.text) e)) put)) is

  -- a front part of it was written
  pub front-due : (p0 p1 : Option (List ℕ)) (v : Verdict) (text : List ℕ) → OfDue limits files left name (λ due. due ≡ record { verdict = v; text = text })
      → AppendsFront p0 p1 text → OfDue limits files left name (λ due. AppendsFront p0 p1 due.text)
  front-due p0 p1 v text is front =
      due-map (λ due. due ≡ record { verdict = v; text = text }) (λ due. AppendsFront p0 p1 due.text)
      (λ due e. subst (AppendsFront p0 p1) (sym (ap (λ (d : Ending). d.text) e)) front) is

  -- nothing was written
  pub nothing-due : (p : Option (List ℕ)) → OfDue limits files left name (λ due. AppendsFront p p due.text)
  nothing-due p = due-any (λ due. AppendsFront p p due.text) (λ due. AppendsFront-nothing p due.text)

  -- the watch ended early, and nothing was written
  pub early-due : (p : Option (List ℕ)) (reads writes : Type 0) (s : Status)
      → StatusWhere (λ v. OfDue limits files left name (λ due. due ≡ record { verdict = v; text = [] })) reads ⊥ s
      → StatusWhere (EndsAsDue p p) reads writes s
  early-due p reads writes status.Memory so = tt
  early-due p reads writes status.ReadFault so = so
  early-due p reads writes status.WriteFault so = absurd so
  early-due p reads writes status.Done so = written-due p p verdict.Done [] so (Appends-nil p)
  early-due p reads writes status.Usage so = written-due p p verdict.Usage [] so (Appends-nil p)
  early-due p reads writes status.NoFile so = written-due p p verdict.NoFile [] so (Appends-nil p)
  early-due p reads writes status.TooMuch so = written-due p p verdict.TooMuch [] so (Appends-nil p)
  early-due p reads writes (status.BadGraph line why) so = written-due p p (verdict.BadGraph (record { line = line; code = why })) [] so (Appends-nil p)
  early-due p reads writes (status.BadPatterns line why) so = written-due p p (verdict.BadPatterns (record { line = line; code = why })) [] so (Appends-nil p)

  -- where no count rose, it ended with the verdict or for want of memory
  pub complete-due : (p0 p1 : Option (List ℕ)) (reads writes : Type 0) (s : Status) → StatusWhere (EndsAsDue p0 p1) reads writes s
      → OfDue limits files left name (λ due. ¬ reads → ¬ writes → (verdict_of s ≡ Some due.verdict) ⊎ (s ≡ status.Memory))
  complete-due p0 p1 reads writes s so = by s so
    where
      Complete : Status → Ending → Type 0
      Complete s due = ¬ reads → ¬ writes → (verdict_of s ≡ Some due.verdict) ⊎ (s ≡ status.Memory)

      told : (s : Status) (v : Verdict) → verdict_of s ≡ Some v → EndsAsDue p0 p1 v → OfDue limits files left name (Complete s)
      told s v is e =
          due-map (λ due. (due.verdict ≡ v) × Appends p0 p1 due.text) (Complete s) (λ due so not_read not_written. inl (is ∙ ap Some (sym so.0))) e

      by : (s : Status) → StatusWhere (EndsAsDue p0 p1) reads writes s → OfDue limits files left name (Complete s)
      by status.Memory so = due-any (Complete status.Memory) (λ due not_read not_written. inr refl)
      by status.ReadFault so = due-any (Complete status.ReadFault) (λ due not_read not_written. absurd (not_read so))
      by status.WriteFault so = due-any (Complete status.WriteFault) (λ due not_read not_written. absurd (not_written so))
      by status.Done so = told status.Done verdict.Done refl so
      by status.Usage so = told status.Usage verdict.Usage refl so
      by status.NoFile so = told status.NoFile verdict.NoFile refl so
      by status.TooMuch so = told status.TooMuch verdict.TooMuch refl so
      by (status.BadGraph line why) so = told (status.BadGraph line why) (verdict.BadGraph (record { line = line; code = why })) refl so
      by (status.BadPatterns line why) so = told (status.BadPatterns line why) (verdict.BadPatterns (record { line = line; code = why })) refl so

-- what was put is the text of the graph
pub text_is : (put items before made due : List ℕ) → put ≡ items → items ≡ before ++ made → before ≡ [] → made ≡ due → put ≡ due
text_is put items before made due a b c d = a ∙ b ∙ ap (λ l. l ++ made) c ∙ d

-- words that are not one name
pub usage-due : (limits : Limits) (files : Option Files) (left name p : Option (List ℕ)) → name ≡ None → EndsAsDue limits files left name p p verdict.Usage
usage-due limits files left name p none = by files left
  where
    by : (fs : Option Files) (l : Option (List ℕ)) → EndsAsDue limits fs l name p p verdict.Usage
    by None l = tt
    by (Some m) None = tt
    by (Some m) (Some s) = rw none (refl, Appends-nil p)

-- an early status is neither of these
pub early-usage : (s : Status) (name : Option (List ℕ)) (word : List ℕ) → IsEarly s → name ≡ Some word → (s ≡ status.Usage) ↔ (name ≡ None)
early-usage s name word early is = (λ usage. absurd (subst IsEarly usage early), λ none. cc)

pub early-done : (s : Status) (P : Type 0) → IsEarly s → s ≡ status.Done → P
early-done s P early done = absurd (subst IsEarly done early)
