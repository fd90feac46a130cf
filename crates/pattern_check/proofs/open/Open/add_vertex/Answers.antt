use Rattle.std.proofs.Common.{◌≡◌, ◌∙◌, List, ℕ, length, arith, subst, sym}
use Rattle.flux_model.specs.Pattern.{PatternGraph}
use Rattle.pattern_check.specs.Reading.{IsOpen}
use Rattle.pattern_check.proofs.OpenLemmas.{with_vertex}
use Rattle.pattern_check.proofs.open.Open.add_vertex.Goals as goal

pub invariant_of-self-2 : goal.invariant_of-self-2
invariant_of-self-2 c =
    let before : PatternGraph = record { name = c.self.inside.name; mode = c.self.inside.mode; labels = c.self.inside.labels.items; edges = c.self.inside.edges.items } in
    let count : c.len-count.result ≡ length before.labels = c.len-count.ensures ∙ c.self.inside.labels.ok.0 in
    subst (λ (labels : List (List (List ℕ))). IsOpen (record before { labels = labels })) (sym c.in_ok-push.ensures.items)
    (with_vertex before c.args.labels c.self.invariant c.len.ensures.set (omega arith))
