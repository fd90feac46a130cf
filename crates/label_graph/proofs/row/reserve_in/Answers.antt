use Rattle.std.proofs.Common.{◌<◌, refl, arith, sym, ap, ◌∙◌}
use Rattle.std.specs.Prelude.{vec_len, vec_capacity}
use Rattle.std.specs.Option.{option_copied_mut}
use Rattle.label_graph.specs.declared.link.Node.{Node}
use Rattle.label_graph.specs.Places.{Row, outs_of, ins_of}
use Rattle.label_graph.proofs.NodeLemmas.{same, keys, vertices, keeps, holds_here}
use Rattle.label_graph.proofs.row.reserve_in.Goals as goal

pub returns-clause-ins : goal.returns-clause-ins
returns-clause-ins c =
    let old = c.unwrap-node.result.now in
    let new : Node Row = record { labels = c.unwrap-node.result.now.labels; outs = c.unwrap-node.result.now.outs; ins = c.reserve.new.self } in
    let was = sym c.get_index_mut.ensures.value ∙ ap option_copied_mut c.unwrap-node.ensures in
    same c.args.nodes.now c.args.v old new c.get_index_mut.ensures.unique c.requires was ins_of c.reserve.ensures.items

pub returns-clause-outs : goal.returns-clause-outs
returns-clause-outs c =
    let old = c.unwrap-node.result.now in
    let new : Node Row = record { labels = c.unwrap-node.result.now.labels; outs = c.unwrap-node.result.now.outs; ins = c.reserve.new.self } in
    let was = sym c.get_index_mut.ensures.value ∙ ap option_copied_mut c.unwrap-node.ensures in
    same c.args.nodes.now c.args.v old new c.get_index_mut.ensures.unique c.requires was outs_of refl

pub returns-clause-vertices : goal.returns-clause-vertices
returns-clause-vertices c =
    let old = c.unwrap-node.result.now in
    let new : Node Row = record { labels = c.unwrap-node.result.now.labels; outs = c.unwrap-node.result.now.outs; ins = c.reserve.new.self } in
    let was = sym c.get_index_mut.ensures.value ∙ ap option_copied_mut c.unwrap-node.ensures in
    vertices c.args.nodes.now c.args.v old new c.get_index_mut.ensures.unique c.requires was refl

pub returns-clause-keys : goal.returns-clause-keys
returns-clause-keys c =
    let old = c.unwrap-node.result.now in
    let new : Node Row = record { labels = c.unwrap-node.result.now.labels; outs = c.unwrap-node.result.now.outs; ins = c.reserve.new.self } in
    let was = sym c.get_index_mut.ensures.value ∙ ap option_copied_mut c.unwrap-node.ensures in
    keys c.args.nodes.now c.args.v old new c.get_index_mut.ensures.unique c.requires was

pub returns-clause-room : goal.returns-clause-room
returns-clause-room c =
    let old = c.unwrap-node.result.now in
    let new : Node Row = record { labels = c.unwrap-node.result.now.labels; outs = c.unwrap-node.result.now.outs; ins = c.reserve.new.self } in
    let was = sym c.get_index_mut.ensures.value ∙ ap option_copied_mut c.unwrap-node.ensures in
    holds_here c.args.nodes.now c.args.v old new c.get_index_mut.ensures.unique c.requires was (λ p. vec_len p.ins < vec_capacity p.ins) c.reserve.result (λ h. omega (arith, h)) c.reserve.ensures.ok

pub returns-clause-keeps : goal.returns-clause-keeps
returns-clause-keeps c =
    let old = c.unwrap-node.result.now in
    let new : Node Row = record { labels = c.unwrap-node.result.now.labels; outs = c.unwrap-node.result.now.outs; ins = c.reserve.new.self } in
    let was = sym c.get_index_mut.ensures.value ∙ ap option_copied_mut c.unwrap-node.ensures in
    keeps c.args.nodes.now c.args.v old new c.get_index_mut.ensures.unique c.requires was (λ p. vec_len p.outs < vec_capacity p.outs) (λ h. h)
