use Rattle.std.proofs.Common.{rules, ◌≡◌, ◌<◌, [], ◌∷◌, ◌++◌, length, refl, arith, subst, sym, ap, ◌∙◌}
use Rattle.std.specs.Prelude.{IsSomeAnd, vec_len, vec_capacity}
use Rattle.std.specs.Option.{option_copied_mut}
use Rattle.label_graph.specs.declared.link.Node.{Node}
use Rattle.label_graph.specs.Places.{Row, outs_of, ins_of}
use Rattle.label_graph.proofs.NodeLemmas.{found, here, same, other, keys, vertices}
use Rattle.label_graph.proofs.row.push_in.Goals as goal

pub unreachable-requires : goal.unreachable-requires
unreachable-requires c =
    let old = c.unwrap-node.result.now in
    let was = sym c.get_index_mut.ensures.value ∙ ap option_copied_mut c.unwrap-node.ensures in
    let room = subst (λ o. IsSomeAnd o (λ p. vec_len p.ins < vec_capacity p.ins)) (found c.args.nodes.now c.args.v old old c.get_index_mut.ensures.unique c.requires.at was) c.requires.room in
    let full = c.in-Err.ensures.full in
    absurd (omega (arith, room, full))

pub returns-clause-row : goal.returns-clause-row
returns-clause-row c =
    let old = c.unwrap-node.result.now in
    let new : Node Row = record { labels = c.unwrap-node.result.now.labels; outs = c.unwrap-node.result.now.outs; ins = c.push.new.self } in
    let was = sym c.get_index_mut.ensures.value ∙ ap option_copied_mut c.unwrap-node.ensures in
    ap ins_of (here c.args.nodes.now c.args.v old new c.get_index_mut.ensures.unique c.requires.at was) ∙ c.in-Ok.ensures.items ∙ ap (λ o. ins_of o ++ c.args.entry ∷ []) (sym (found c.args.nodes.now c.args.v old new c.get_index_mut.ensures.unique c.requires.at was))

pub returns-clause-others : goal.returns-clause-others
returns-clause-others c =
    let old = c.unwrap-node.result.now in
    let new : Node Row = record { labels = c.unwrap-node.result.now.labels; outs = c.unwrap-node.result.now.outs; ins = c.push.new.self } in
    let was = sym c.get_index_mut.ensures.value ∙ ap option_copied_mut c.unwrap-node.ensures in
    other c.args.nodes.now c.args.v old new c.get_index_mut.ensures.unique c.requires.at was ins_of

pub returns-clause-outs : goal.returns-clause-outs
returns-clause-outs c =
    let old = c.unwrap-node.result.now in
    let new : Node Row = record { labels = c.unwrap-node.result.now.labels; outs = c.unwrap-node.result.now.outs; ins = c.push.new.self } in
    let was = sym c.get_index_mut.ensures.value ∙ ap option_copied_mut c.unwrap-node.ensures in
    same c.args.nodes.now c.args.v old new c.get_index_mut.ensures.unique c.requires.at was outs_of refl

pub returns-clause-vertices : goal.returns-clause-vertices
returns-clause-vertices c =
    let old = c.unwrap-node.result.now in
    let new : Node Row = record { labels = c.unwrap-node.result.now.labels; outs = c.unwrap-node.result.now.outs; ins = c.push.new.self } in
    let was = sym c.get_index_mut.ensures.value ∙ ap option_copied_mut c.unwrap-node.ensures in
    vertices c.args.nodes.now c.args.v old new c.get_index_mut.ensures.unique c.requires.at was refl

pub returns-clause-keys : goal.returns-clause-keys
returns-clause-keys c =
    let old = c.unwrap-node.result.now in
    let new : Node Row = record { labels = c.unwrap-node.result.now.labels; outs = c.unwrap-node.result.now.outs; ins = c.push.new.self } in
    let was = sym c.get_index_mut.ensures.value ∙ ap option_copied_mut c.unwrap-node.ensures in
    keys c.args.nodes.now c.args.v old new c.get_index_mut.ensures.unique c.requires.at was

pub returns-clause-place : goal.returns-clause-place
returns-clause-place c =
    let old = c.unwrap-node.result.now in
    let new : Node Row = record { labels = c.unwrap-node.result.now.labels; outs = c.unwrap-node.result.now.outs; ins = c.push.new.self } in
    let was = sym c.get_index_mut.ensures.value ∙ ap option_copied_mut c.unwrap-node.ensures in
    let len : c.len-at.result ≡ length c.unwrap-node.result.now.ins.items = search rules in
    len ∙ ap (λ o. length (ins_of o)) (sym (found c.args.nodes.now c.args.v old new c.get_index_mut.ensures.unique c.requires.at was))
