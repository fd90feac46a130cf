use Rattle.std.proofs.Common.{[], ◌∷◌, ap, ◌∙◌}
use Rattle.std.specs.Prelude.{codes, string_bytes}
use Rattle.flux_model.specs.Verdict.{shape_of}
use Rattle.watch_cli.specs.CommandWords.{texts}
use Rattle.graph_checkpoint.proofs.SessionLemmas.{kept_due}
use Rattle.graph_checkpoint.proofs.session.session_after.Goals as goal

pub returns-in-Watch-clause-session : goal.returns-in-Watch-clause-session
returns-in-Watch-clause-session g c =
    let are = ap (λ words. shape_of (texts words)) c.deref.ensures.value ∙ ap shape_of c.in-Ok.ensures ∙ ap (λ p. shape_of (codes "watch" ∷ c.args.graph.now ∷ p ∷ [])) c.name.ensures in
    rw c.in-Watch.session-is (kept_due c.args.limits.now (g.F.Shelf.files c.args.shelf.now.shelf) (g.S.Source.left c.args.updates.now) c.args.graph.now (string_bytes c.args.shelf.now.name)
    (texts c.deref.result.now) c.run-ended.result.status c.run-ended.result.kept are c.requires.other c.run-ended.ensures.verdict c.run-ended.ensures.kept
    c.in-Watch.session c.in-Watch.is)
