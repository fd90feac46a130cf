use Rattle.std.proofs.Common.{ℕ, ◌-◌, List, [], ◌∷◌, ◌++◌, length, ◌∙◌, ap, subst, ◌≤◌, vec_len}
use Rattle.flux_model.specs.Graph.{ids}
use Rattle.plain_match.specs.Extensions.{extensions}
use Rattle.plain_match.proofs.SearchLemmas.{push_onto, pop_rest, by_next_id, found_step, found_all}
use Rattle.plain_match.proofs.search.+extend.Goals as goal

pub loop-i-preserved : goal.loop-i-preserved
loop-i-preserved t c =
    let before = c.args.prefix.now.items in
    let pushed = push_onto before c.loop-i.prefix.items c.push.new.self.items c.id.result c.in_ok-push.ensures.items c.loop-i.invariant.0 in (
      pop_rest before c.pop-last.new.self.items c.push.new.self.items c.extend.new.prefix.items c.id.result (vec_len c.extend.new.prefix) pushed c.in_ok-extend.ensures.prefix c.extend.new.prefix.ok.0 c.pop-last.ensures.rest,
      found_step c.args.pattern.now c.args.graph.now.graph c.extend.new.found c.loop-i.found _ before c.push.new.self.items (c.args.left - 1) c.loop-i.i c.id.result c.id.ensures pushed c.in_ok-extend.ensures.found c.loop-i.invariant.1,
    )

pub returns-clause-found : goal.returns-clause-found
returns-clause-found t c =
    let q = c.args.pattern.now in
    let g = c.args.graph.now.graph in
    let before = c.args.prefix.now.items in
    let more : ℕ → List (List ℕ) = λ w. extensions q g (before ++ w ∷ []) (c.args.left - 1) in
    let all : length (ids g) ≤ c.loop-i.i = subst (λ n. n ≤ c.loop-i.i) c.vertex_count-i-end.ensures.count c.loop-i-test.false in
    found_all q g c.loop-i.found more c.loop-i.i all ∙ c.loop-i.invariant.1
    ∙ ap (λ (l : List (List ℕ)). c.args.found.now ++ l) (by_next_id q g before c.args.left c.if-left-eq0.false)
