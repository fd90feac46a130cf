use Rattle.std.proofs.Common.{◌≡◌, ◌+◌, [], take, get_or, arith}
use Rattle.std.specs.Prelude.{Some}
use Rattle.std.specs.List.{list_any, slice_get}
use Rattle.std.specs.Str.{bytes_eq}
use Rattle.std.proofs.lemmas.Option.{slice_get-get_or}
use Rattle.flux_model.specs.declared.pattern.PatternEdge.{PatternEdge}
use Rattle.pattern_registry.specs.Routes.{route}
use Rattle.pattern_registry.proofs.RouteLemmas.{any_next, grown_next}
use Rattle.pattern_registry.proofs.routes.add_pattern.Goals as goal

pub loop-i-preserved : goal.loop-i-preserved
loop-i-preserved c = λ label.
    let edges = c.args.pattern.now.edges in
    let i = c.loop-i.i in
    let e : PatternEdge = get_or edges i (record { tail = 0; label = []; head = 0 }) in
    let here : slice_get edges i ≡ Some e = slice_get-get_or edges i (record { tail = 0; label = []; head = 0 }) (omega arith) in
    let test = λ (f : PatternEdge). bytes_eq f.label label in
    grown_next (route c.args.routes.now.entries label) (route c.loop-i.routes.entries label) (route c.add_edge.new.routes.entries label) c.args.k
    (list_any test (take i edges)) (bytes_eq e.label label) (list_any test (take (i + 1) edges))
    (c.loop-i.invariant label) (any_next test edges i e here) (c.in_ok-add_edge.ensures label e here)
