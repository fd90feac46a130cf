use Rattle.std.proofs.Common.{◌∙◌, rules}
use Rattle.match_order.specs.FrontierState.{is_open}
use Rattle.match_order.proofs.FrontierLemmas.{next_none, next_some, open_anchored}
use Rattle.match_order.proofs.frontier.Frontier.next.Goals as goal

pub unwrap-anchor-requires : goal.unwrap-anchor-requires
unwrap-anchor-requires c =
    let f = c.args.self.now in
    let u = c.in_ok-vertex.vertex in
    open_anchored f c.args.live.now u (c.in_ok-vertex.ensures.least (is_open f) (λ k b h p. search rules))

pub returns-in_err-vertex-clause-next : goal.returns-in_err-vertex-clause-next
returns-in_err-vertex-clause-next c = λ t before marks many.
    c.from_residual.ensures ∙ next_none t before c.args.live.now c.args.self.now marks many (c.in_err-vertex.ensures.least (is_open c.args.self.now) (λ k b h p. search rules))

pub returns-clause-next : goal.returns-clause-next
returns-clause-next c = λ t before marks many.
    let f = c.args.self.now in
    let u = c.in_ok-vertex.vertex in
    next_some t before c.args.live.now f marks many u c.unwrap-anchor.result (c.in_ok-vertex.ensures.least (is_open f) (λ k b h p. search rules)) c.unwrap-anchor.ensures
