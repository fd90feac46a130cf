use Rattle.std.proofs.Common.{◌≡◌, ℕ, true, List, Option, Some, None, ◌∙◌, ap, subst, rules}
use Rattle.query_tree.specs.Choice.{lower_end}
use Rattle.query_tree.proofs.ChooseLemmas.{least_of_all, root_none, root_some}
use Rattle.query_tree.proofs.tree.root_of.Goals as goal

pub returns-in-Some : goal.returns-in-Some
returns-in-Some c =
    let least_is = subst (λ (l : List ℕ). Some c.in-Some.i ≡ least_of_all l) c.edges.ensures (c.in-Some.ensures.least (λ _. true) (λ k b h p. search rules)) in
    c.lower_end.ensures
    ∙ ap (λ (l : List ℕ). lower_end l c.edge.result.now) c.vertices.ensures
    ∙ root_some c.args.pattern.now c.args.cards.now.edges c.args.cards.now.vertices c.requires.edges c.in-Some.i c.edge.result.now least_is c.requires.vertices c.edge.ensures.edge

pub returns-in-None : goal.returns-in-None
returns-in-None c =
    let none : Option ℕ = None in
    let least_is = subst (λ (l : List ℕ). none ≡ least_of_all l) c.edges.ensures (c.in-None.ensures.least (λ _. true) (λ k b h p. search rules)) in
    root_none c.args.pattern.now c.args.cards.now.edges c.args.cards.now.vertices c.requires.edges least_is
