use Rattle.std.proofs.Common.{◌≡◌, ◌==◌, ◌||◌, ◌∙◌, sym, ap, rules}
use Rattle.std.specs.Option.{unwrap_or}
use Rattle.query_tree.proofs.ChooseLemmas.{ends_in, some_end}
use Rattle.query_tree.proofs.tree.lower_end.Goals as goal

pub unwrap-requires : goal.unwrap-requires
unwrap-requires c =
    let e = c.args.edge.now in
    some_end c.args.cards.now e c.requires.0 c.least_by.result (c.least_by.ensures.least (λ u. u == e.tail || u == e.head) (λ k b h p. search rules))

pub returns : goal.returns
returns c =
    let e = c.args.edge.now in
    let least_is : c.least_by.result ≡ ends_in c.args.cards.now e = c.least_by.ensures.least (λ u. u == e.tail || u == e.head) (λ k b h p. search rules) in
    ap (λ o. unwrap_or o 0) (sym c.unwrap.ensures ∙ least_is)
