-- How a checkpoint is due to end, and what it is due to have written by then, where nothing fails.
use Rattle.std.specs.Prelude.{ℕ, nat_lt, List, [], ◌∷◌, length, Option, None, Some, Result, Ok, Err, IfSome, if◌then◌else◌}
use Rattle.flux_laws.specs.ReportsLaws.{updates_in, graph_after_all}
use Rattle.flux_model.specs.Graph.{Graph}
use Rattle.flux_model.specs.GraphText.{graph_text}
use Rattle.flux_model.specs.Verdict.{Verdict, Files, Ending, Done, Usage, TooMuch, graph_file}
use Rattle.flux_model.specs.declared.limits.Limits.{Limits}

-- the one word is the name of the graph file
abbrev pub graph_name : List (List ℕ) → Option (List ℕ)
graph_name (name ∷ []) = Some name
graph_name words = None

-- over an accepted graph, where s are the bytes of the updates: the text of the graph after all lines, of which those that are refused
-- change nothing; and no text where the updates are longer than the limit
abbrev pub checkpoint_with : Limits → List ℕ → Graph → Ending
checkpoint_with limits s g =
    if nat_lt limits.input_bytes (length s)
    then record { verdict = TooMuch; text = [] }
    else record { verdict = Done; text = graph_text (graph_after_all limits g (updates_in limits s)) }

-- a graph file that is not accepted ends it with nothing written
abbrev pub checkpoint_over : Limits → List ℕ → Result Graph Verdict → Ending
checkpoint_over limits s (Ok g) = checkpoint_with limits s g
checkpoint_over limits s (Err verdict) = record { verdict = verdict; text = [] }

abbrev pub checkpoint_for : Limits → Files → Option (List ℕ) → List ℕ → Ending
checkpoint_for limits files None s = record { verdict = Usage; text = [] }
checkpoint_for limits files (Some name) s = checkpoint_over limits s (graph_file limits (files name))

-- what is so of the ending that is due, where the files and the updates are told
abbrev pub OfDue : Limits → Option Files → Option (List ℕ) → Option (List ℕ) → (Ending → Type 0) → Type 0
OfDue limits files left name P = IfSome files (λ m. IfSome left (λ s. P (checkpoint_for limits m name s)))
