use Rattle.std.proofs.Common.{◌≡◌, ℕ, Some, ap, sym, subst, ◌∙◌}
use Rattle.std.specs.Prelude.{nat_eq, option_map}
use Rattle.std.specs.Map.{lookup}
use Rattle.std.specs.Map.Iter.{deref_pair}
use Rattle.std.proofs.lemmas.Option.{MatchOption-at_some, same_Some, slice_get-map}
use Rattle.label_graph.proofs.NodeLemmas.{within}
use Rattle.block_graph.specs.Chains.{chain_of}
use Rattle.block_graph.proofs.chain.chain_of_member.Goals as goal

pub unwrap-requires : goal.unwrap-requires
unwrap-requires c = c.get_index.ensures.found.1 (within c.args.nodes.now c.args.v c.requires)

pub returns-then-incoming : goal.returns-then-incoming
returns-then-incoming c =
    let es = c.args.nodes.now.entries in
    let found = MatchOption-at_some _ (λ p. lookup (nat_eq p.0.now) es ≡ Some p.1.now) c.unwrap.result c.unwrap.ensures c.get_index.ensures.value in
    let key : Some c.unwrap.result.0.now ≡ Some c.args.v.id =
    sym (slice_get-map (λ e. e.0) es c.args.v.index ∙ ap (option_map (λ e. e.0)) (sym c.get_index.ensures.entry ∙ ap (option_map deref_pair) c.unwrap.ensures)) ∙ c.requires in
    let P : ℕ → Type 0 = λ k. lookup (nat_eq k) es ≡ Some c.unwrap.result.1.now in
    sym (ap (chain_of c.args.incoming) (subst P (same_Some c.unwrap.result.0.now c.args.v.id key) found)
    ∙ ap (λ b. chain_of b (Some c.unwrap.result.1.now)) c.if-incoming.true)

pub returns-else-incoming : goal.returns-else-incoming
returns-else-incoming c =
    let es = c.args.nodes.now.entries in
    let found = MatchOption-at_some _ (λ p. lookup (nat_eq p.0.now) es ≡ Some p.1.now) c.unwrap.result c.unwrap.ensures c.get_index.ensures.value in
    let key : Some c.unwrap.result.0.now ≡ Some c.args.v.id =
    sym (slice_get-map (λ e. e.0) es c.args.v.index ∙ ap (option_map (λ e. e.0)) (sym c.get_index.ensures.entry ∙ ap (option_map deref_pair) c.unwrap.ensures)) ∙ c.requires in
    let P : ℕ → Type 0 = λ k. lookup (nat_eq k) es ≡ Some c.unwrap.result.1.now in
    sym (ap (chain_of c.args.incoming) (subst P (same_Some c.unwrap.result.0.now c.args.v.id key) found)
    ∙ ap (λ b. chain_of b (Some c.unwrap.result.1.now)) c.if-incoming.false)
