use Rattle.std.proofs.Common.{◌∙◌, sym, ap, subst}
use Rattle.std.specs.Prelude.{IsPermutation}
use Rattle.std.specs.List.{slice_get}
use Rattle.std.proofs.lemmas.Option.{same_Some}
use Rattle.std.proofs.lemmas.Result.{IfOk-weaker, on_ok_weaker}
use Rattle.flux_model.specs.Embedding.{embeddings}
use Rattle.flux_model.specs.Pattern.{PatternGraph}
use Rattle.pattern_registry.specs.States.{PatternStates}
use Rattle.pattern_registry.proofs.AnswerLemmas.{stays_here}
use Rattle.pattern_registry.proofs.registry.Registry.answers_of.Goals as goal

pub embeddings-requires-clause-belongs : goal.embeddings-requires-clause-belongs
embeddings-requires-clause-belongs g c =
    c.index_of-index.ensures.belongs c.get-pattern.result.now (ap (λ (s : PatternStates). slice_get s.patterns c.args.k) (sym c.self.view_is) ∙ c.get-pattern.ensures)

pub returns-clause-answers : goal.returns-clause-answers
returns-clause-answers g c =
    let here = ap (λ (s : PatternStates). slice_get s.patterns c.args.k) (sym c.self.view_is) ∙ c.get-pattern.ensures in
    IfOk-weaker c.embeddings.result _ _
    (λ maps found q is. subst (λ (p : PatternGraph). IsPermutation (embeddings p (g.G.HoldGraph.graph c.args.graph.now)) maps) (same_Some c.get-pattern.result.now q (sym here ∙ is)) found)
    c.embeddings.ensures.all

pub returns-clause-steps : goal.returns-clause-steps
returns-clause-steps g c =
    let here = ap (λ (s : PatternStates). slice_get s.patterns c.args.k) (sym c.self.view_is) ∙ c.get-pattern.ensures in
    on_ok_weaker c.embeddings.result
    (stays_here c.args.self.now c.args.k (g.G.HoldGraph.graph c.args.graph.now) c.get-pattern.result.now c.index_of-index.result.now.tree c.args.steps.now c.embeddings.new.steps here c.index_of-index.ensures.tree)
    c.embeddings.ensures.steps
