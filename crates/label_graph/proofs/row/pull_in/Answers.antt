use Rattle.std.proofs.Common.{◌<◌, length, refl, subst, sym, ap, ◌∙◌}
use Rattle.std.specs.Prelude.{nat_eq, slice_get}
use Rattle.std.specs.Option.{option_copied_mut}
use Rattle.std.specs.Map.{lookup}
use Rattle.indexmap.specs.IndexMap.{set_value_at}
use Rattle.label_graph.specs.declared.link.Node.{Node}
use Rattle.label_graph.specs.Places.{Row, outs_of, ins_of, IsPulled}
use Rattle.label_graph.proofs.NodeLemmas.{found, here, same, other, keys, vertices}
use Rattle.label_graph.proofs.row.pull_in.Goals as goal

pub pull-requires : goal.pull-requires
pull-requires c =
    let old = c.unwrap-node.result.now in
    let was = sym c.get_index_mut.ensures.value ∙ ap option_copied_mut c.unwrap-node.ensures in
    subst (λ o. c.args.i < length (ins_of o)) (found c.args.nodes.now c.args.v old old c.get_index_mut.ensures.unique c.requires.at was) c.requires.within

pub returns-clause-row : goal.returns-clause-row
returns-clause-row c =
    let old = c.unwrap-node.result.now in
    let new : Node Row = record { labels = c.unwrap-node.result.now.labels; outs = c.unwrap-node.result.now.outs; ins = c.pull.new.row } in
    let was = sym c.get_index_mut.ensures.value ∙ ap option_copied_mut c.unwrap-node.ensures in
    let rows = ap ins_of (here c.args.nodes.now c.args.v old new c.get_index_mut.ensures.unique c.requires.at was) in
    let before = ap ins_of (found c.args.nodes.now c.args.v old new c.get_index_mut.ensures.unique c.requires.at was) in
    subst (λ l. IsPulled c.args.i l (ins_of (lookup (nat_eq c.args.v.id) (set_value_at c.args.nodes.now.entries c.args.v.index new)))) (sym before) (subst (IsPulled c.args.i old.ins.items) (sym rows) c.pull.ensures.row)

pub returns-clause-moved : goal.returns-clause-moved
returns-clause-moved c =
    let old = c.unwrap-node.result.now in
    let new : Node Row = record { labels = c.unwrap-node.result.now.labels; outs = c.unwrap-node.result.now.outs; ins = c.pull.new.row } in
    let was = sym c.get_index_mut.ensures.value ∙ ap option_copied_mut c.unwrap-node.ensures in
    c.pull.ensures.moved ∙ ap (λ o. slice_get (ins_of o) c.args.i) (sym (here c.args.nodes.now c.args.v old new c.get_index_mut.ensures.unique c.requires.at was))

pub returns-clause-others : goal.returns-clause-others
returns-clause-others c =
    let old = c.unwrap-node.result.now in
    let new : Node Row = record { labels = c.unwrap-node.result.now.labels; outs = c.unwrap-node.result.now.outs; ins = c.pull.new.row } in
    let was = sym c.get_index_mut.ensures.value ∙ ap option_copied_mut c.unwrap-node.ensures in
    other c.args.nodes.now c.args.v old new c.get_index_mut.ensures.unique c.requires.at was ins_of

pub returns-clause-outs : goal.returns-clause-outs
returns-clause-outs c =
    let old = c.unwrap-node.result.now in
    let new : Node Row = record { labels = c.unwrap-node.result.now.labels; outs = c.unwrap-node.result.now.outs; ins = c.pull.new.row } in
    let was = sym c.get_index_mut.ensures.value ∙ ap option_copied_mut c.unwrap-node.ensures in
    same c.args.nodes.now c.args.v old new c.get_index_mut.ensures.unique c.requires.at was outs_of refl

pub returns-clause-vertices : goal.returns-clause-vertices
returns-clause-vertices c =
    let old = c.unwrap-node.result.now in
    let new : Node Row = record { labels = c.unwrap-node.result.now.labels; outs = c.unwrap-node.result.now.outs; ins = c.pull.new.row } in
    let was = sym c.get_index_mut.ensures.value ∙ ap option_copied_mut c.unwrap-node.ensures in
    vertices c.args.nodes.now c.args.v old new c.get_index_mut.ensures.unique c.requires.at was refl

pub returns-clause-keys : goal.returns-clause-keys
returns-clause-keys c =
    let old = c.unwrap-node.result.now in
    let new : Node Row = record { labels = c.unwrap-node.result.now.labels; outs = c.unwrap-node.result.now.outs; ins = c.pull.new.row } in
    let was = sym c.get_index_mut.ensures.value ∙ ap option_copied_mut c.unwrap-node.ensures in
    keys c.args.nodes.now c.args.v old new c.get_index_mut.ensures.unique c.requires.at was
