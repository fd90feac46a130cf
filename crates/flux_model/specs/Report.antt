-- The texts that a run writes.
use Rattle.std.specs.Prelude.{ℕ, suc, Bool, true, false, List, [], ◌∷◌, ◌++◌, length, map, codes, Result, Ok, Err, flat_map, count_by}
use Rattle.std.specs.Fmt.{decimal}
use Rattle.flux_model.specs.Code.{code_word}
use Rattle.flux_model.specs.Graph.{Graph, apply}
use Rattle.flux_model.specs.GraphText.{text_line}
use Rattle.flux_model.specs.Pattern.{PatternGraph}
use Rattle.flux_model.specs.Embedding.{embeddings}
use Rattle.flux_model.specs.Change.{gained, lost}
use Rattle.flux_model.specs.declared.code.Code.{Code}
use Rattle.flux_model.specs.declared.said.Said.{Said}
use Rattle.flux_model.specs.declared.said.Said.TheVariants.{Nothing, Says, Refused}
use Rattle.flux_model.specs.declared.graph.Update.{Update}
use Rattle.flux_model.specs.declared.limits.Limits.{Limits}

-- ---- one line of the updates

-- what a line comes to: nothing, a refusal, or the changed graph
pub data Outcome : Type 0 where
  Ignored : Outcome
  Rejected : Code → Outcome
  Changed : Graph → Outcome

-- a change, or its refusal
abbrev pub applied : Result Graph Code → Outcome
applied (Ok h) = Changed h
applied (Err code) = Rejected code

abbrev pub outcome : Limits → Graph → Said Update → Outcome
outcome limits g Nothing = Ignored
outcome limits g (Refused code) = Rejected code
outcome limits g (Says update) = applied (apply limits g update)

-- a line that says nothing or is refused changes nothing
abbrev pub graph_after : Graph → Outcome → Graph
graph_after g Ignored = g
graph_after g (Rejected _) = g
graph_after g (Changed h) = h

abbrev pub next_graph : Limits → Graph → Said Update → Graph
next_graph limits g said = graph_after g (outcome limits g said)

-- ---- its block

-- `+ 3 name 1 2`: the sign, the number of the line, the pattern's name and the ids
abbrev pub map_line : List ℕ → ℕ → List ℕ → List ℕ → List ℕ
map_line sign k name m = text_line (sign ∷ decimal k ∷ name ∷ map decimal m)

-- first what a pattern gained, and then what it lost
abbrev pub change_lines : ℕ → Graph → Graph → PatternGraph → List ℕ
change_lines k old new q =
    flat_map (map_line (codes "+") k q.name) (gained q old new) ++ flat_map (map_line (codes "-") k q.name) (lost q old new)

-- `! 3 full`
abbrev pub refusal_line : ℕ → Code → List ℕ
refusal_line k code = text_line (codes "!" ∷ decimal k ∷ code_word code ∷ [])

abbrev pub block_of : ℕ → List PatternGraph → Graph → Outcome → List ℕ
block_of k patterns g Ignored = []
block_of k patterns g (Rejected code) = refusal_line k code
block_of k patterns g (Changed h) = flat_map (change_lines k g h) patterns

-- the block of line k
abbrev pub block : Limits → ℕ → List PatternGraph → Graph → Said Update → List ℕ
block limits k patterns g said = block_of k patterns g (outcome limits g said)

-- ---- all lines

-- what each line comes to, in order
abbrev pub outcomes : Limits → Graph → List (Said Update) → List Outcome
outcomes limits g [] = []
outcomes limits g (said ∷ saids) = outcome limits g said ∷ outcomes limits (next_graph limits g said) saids

-- the blocks, numbered from k
abbrev pub blocks : Limits → List PatternGraph → Graph → List (Said Update) → ℕ → List ℕ
blocks limits patterns g [] k = []
blocks limits patterns g (said ∷ saids) k =
    block limits k patterns g said ++ blocks limits patterns (next_graph limits g said) saids (suc k)

abbrev pub is_accepted : Outcome → Bool
is_accepted Ignored = false
is_accepted (Rejected _) = false
is_accepted (Changed _) = true

abbrev pub is_refused : Outcome → Bool
is_refused Ignored = false
is_refused (Rejected _) = true
is_refused (Changed _) = false

-- `= 3 2 1`: how many lines, how many that changed the graph, how many that were refused
abbrev pub end_line : ℕ → ℕ → ℕ → List ℕ
end_line count accepted refused = text_line (codes "=" ∷ decimal count ∷ decimal accepted ∷ decimal refused ∷ [])

abbrev pub end_line_of : List Outcome → List ℕ
end_line_of os = end_line (length os) (count_by is_accepted os) (count_by is_refused os)

-- what `watch` writes where this is what the lines of the updates say
abbrev pub watch_text : Limits → Graph → List PatternGraph → List (Said Update) → List ℕ
watch_text limits g patterns saids = blocks limits patterns g saids 1 ++ end_line_of (outcomes limits g saids)

-- ---- all embeddings of one graph

-- `m name 1 2`
abbrev pub answer_lines : Graph → PatternGraph → List ℕ
answer_lines g q = flat_map (λ m. text_line (codes "m" ∷ q.name ∷ map decimal m)) (embeddings q g)

-- what `match` writes: a line for each embedding, and how many these are
abbrev pub match_text : Graph → List PatternGraph → List ℕ
match_text g patterns =
    flat_map (answer_lines g) patterns ++ text_line (codes "=" ∷ decimal (length (flat_map (λ q. embeddings q g) patterns)) ∷ [])
