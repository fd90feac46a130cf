use Rattle.std.proofs.Common.{sym, arith, ◌∙◌}
use Rattle.std.specs.Str.{bytes_eq}
use Rattle.flux_model.specs.declared.pattern.PatternEdge.{PatternEdge}
use Rattle.pattern_registry.proofs.RouteLemmas.{any_before, none_next}
use Rattle.pattern_registry.proofs.routes.is_named_before.Goals as goal

pub returns-then-eq : goal.returns-then-eq
returns-then-eq c =
    sym (any_before (λ (f : PatternEdge). bytes_eq f.label c.args.label.now) c.args.pattern.now.edges c.loop-j.j c.args.i c.edge.result.now (omega arith) c.edge.ensures.edge (sym c.eq.ensures ∙ c.if-eq.true))

pub loop-j-preserved : goal.loop-j-preserved
loop-j-preserved c =
    none_next (λ (f : PatternEdge). bytes_eq f.label c.args.label.now) c.args.pattern.now.edges c.loop-j.j c.edge.result.now c.edge.ensures.edge c.loop-j.invariant (sym c.eq.ensures ∙ c.if-eq.false)
