use Rattle.std.proofs.Common.{ℕ, sym}
use Rattle.std.specs.Map.{lookup}
use Rattle.label_graph.specs.declared.link.Link.{Link}
use Rattle.label_graph.specs.declared.link.Places.{Places}
use Rattle.label_graph.specs.Places.{outs, link_eq, out_link, out_place}
use Rattle.label_graph.proofs.PlaceLemmas.{pulled_within, IsSome-mapped, last_left, moved_left, moved_stands}
use Rattle.label_graph.proofs.step.leave_out.Goals as goal

pub pull_out-requires-clause-within : goal.pull_out-requires-clause-within
pull_out-requires-clause-within c = pulled_within out_link (outs c.args.nodes.now.entries) c.args.k.src c.args.at c.args.k (out_place c.args.places.now.entries) c.requires.placed

pub set_out-requires : goal.set_out-requires
set_out-requires c =
    let k : Link = record { src = c.args.k.src; label = c.in-Some.entry.label; dst = c.in-Some.entry.other } in
    IsSome-mapped (λ (p : Places ℕ). (k.src, p.out_at)) (lookup (link_eq k) c.args.places.now.entries) _
    (moved_stands out_link (outs c.args.nodes.now.entries) (outs c.pull_out.new.nodes.entries) c.args.k.src c.args.at c.args.k (out_place c.args.places.now.entries) c.requires.placed c.requires.gone
    c.in-Some.ensures.row c.in-Some.ensures.others c.in-Some.entry (sym c.in-Some.ensures.moved))

pub returns-in-Some-clause-placed : goal.returns-in-Some-clause-placed
returns-in-Some-clause-placed c =
    moved_left out_link (outs c.args.nodes.now.entries) (outs c.pull_out.new.nodes.entries) c.args.k.src c.args.at c.args.k (out_place c.args.places.now.entries) c.requires.placed c.requires.gone
    c.in-Some.ensures.row c.in-Some.ensures.others c.in-Some.entry (sym c.in-Some.ensures.moved) (out_place c.set_out.new.places.entries) c.set_out.ensures.out

pub returns-in_default-clause-placed : goal.returns-in_default-clause-placed
returns-in_default-clause-placed c =
    last_left out_link (outs c.args.nodes.now.entries) (outs c.pull_out.new.nodes.entries) c.args.k.src c.args.at c.args.k (out_place c.args.places.now.entries) c.requires.placed c.requires.gone
    c.in_default.ensures.row c.in_default.ensures.others (sym c.in_default.ensures.moved)
