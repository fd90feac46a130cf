use Rattle.std.proofs.Common.{◌≡◌, ℕ, Some, ap, sym, subst, ◌∙◌, arith}
use Rattle.std.specs.Prelude.{nat_eq, option_map}
use Rattle.std.specs.Map.{keys_of, lookup}
use Rattle.std.specs.Map.Iter.{deref_pair}
use Rattle.std.proofs.lemmas.Map.Entries.{length-keys_of}
use Rattle.std.proofs.lemmas.Option.{MatchOption-at_some, same_Some, slice_get-map, slice_get_within}
use Rattle.label_graph.proofs.store.LabelGraph.node_at.Goals as goal

pub unwrap-requires : goal.unwrap-requires
unwrap-requires c =
    let es = c.args.self.now.nodes.entries in
    let within = slice_get_within (keys_of es) c.args.at.node c.args._v c.requires in
    c.get_index.ensures.found.1 (omega (arith, within, length-keys_of es))

pub returns : goal.returns
returns c =
    let es = c.args.self.now.nodes.entries in
    let found = MatchOption-at_some _ (λ p. lookup (nat_eq p.0.now) es ≡ Some p.1.now) c.unwrap.result c.unwrap.ensures c.get_index.ensures.value in
    let key : Some c.unwrap.result.0.now ≡ Some c.args._v =
    sym (slice_get-map (λ e. e.0) es c.args.at.node ∙ ap (option_map (λ e. e.0)) (sym c.get_index.ensures.entry ∙ ap (option_map deref_pair) c.unwrap.ensures)) ∙ c.requires in
    let P : ℕ → Type 0 = λ k. lookup (nat_eq k) es ≡ Some c.unwrap.result.1.now in
    subst P (same_Some c.unwrap.result.0.now c.args._v key) found
