use Rattle.std.proofs.Common.{ℕ, sym}
use Rattle.std.specs.Map.{lookup}
use Rattle.label_graph.specs.declared.link.Link.{Link}
use Rattle.label_graph.specs.declared.link.Places.{Places}
use Rattle.label_graph.specs.Places.{ins, link_eq, in_link, in_place}
use Rattle.label_graph.proofs.PlaceLemmas.{pulled_within, IsSome-mapped, last_left, moved_left, moved_stands}
use Rattle.label_graph.proofs.step.leave_in.Goals as goal

pub pull_in-requires-clause-within : goal.pull_in-requires-clause-within
pull_in-requires-clause-within c = pulled_within in_link (ins c.args.nodes.now.entries) c.args.k.dst c.args.at c.args.k (in_place c.args.places.now.entries) c.requires.placed

pub set_in-requires : goal.set_in-requires
set_in-requires c =
    let k : Link = record { src = c.in-Some.entry.other; label = c.in-Some.entry.label; dst = c.args.k.dst } in
    IsSome-mapped (λ (p : Places ℕ). (k.dst, p.in_at)) (lookup (link_eq k) c.args.places.now.entries) _
    (moved_stands in_link (ins c.args.nodes.now.entries) (ins c.pull_in.new.nodes.entries) c.args.k.dst c.args.at c.args.k (in_place c.args.places.now.entries) c.requires.placed c.requires.gone
    c.in-Some.ensures.row c.in-Some.ensures.others c.in-Some.entry (sym c.in-Some.ensures.moved))

pub returns-in-Some-clause-placed : goal.returns-in-Some-clause-placed
returns-in-Some-clause-placed c =
    moved_left in_link (ins c.args.nodes.now.entries) (ins c.pull_in.new.nodes.entries) c.args.k.dst c.args.at c.args.k (in_place c.args.places.now.entries) c.requires.placed c.requires.gone
    c.in-Some.ensures.row c.in-Some.ensures.others c.in-Some.entry (sym c.in-Some.ensures.moved) (in_place c.set_in.new.places.entries) c.set_in.ensures.ins

pub returns-in_default-clause-placed : goal.returns-in_default-clause-placed
returns-in_default-clause-placed c =
    last_left in_link (ins c.args.nodes.now.entries) (ins c.pull_in.new.nodes.entries) c.args.k.dst c.args.at c.args.k (in_place c.args.places.now.entries) c.requires.placed c.requires.gone
    c.in_default.ensures.row c.in_default.ensures.others (sym c.in_default.ensures.moved)
