use Rattle.std.proofs.Common.{Some, sym, ap, ◌∙◌, subst}
use Rattle.label_graph.specs.declared.link.Link.{Link}
use Rattle.std.specs.Prelude.{IsSome, cond}
use Rattle.std.specs.Map.{lookup}
use Rattle.label_graph.specs.Places.{link_eq}
use Rattle.block_graph.specs.Blocks.{row_link}
use Rattle.block_graph.specs.Places.{noted}
use Rattle.block_graph.specs.Rows.{at, row_of, last_of}
use Rattle.block_graph.proofs.SideLemmas.{leaves_from, last_placed, last_side, moved_known, moved_placed, moved_side}
use Rattle.block_graph.proofs.links.leave.Goals as goal

pub pull-requires-clause-seen : goal.pull-requires-clause-seen
pull-requires-clause-seen c = leaves_from c.args.blocks.now.slots (at c.args.place) c.args.incoming c.args.k c.args.places.now.entries c.requires.placed

pub note-requires : goal.note-requires
note-requires c =
    let P : Link → Type 0 = λ m. IsSome (lookup (link_eq m) c.args.places.now.entries) in
    subst P (sym c.link_beside.ensures) (moved_known c.args.blocks.now.slots (at c.args.place) c.args.incoming c.args.k c.args.places.now.entries c.requires.placed
    c.pull.new.blocks.slots (last_of c.args.nodes.now.entries c.args.blocks.now.slots (row_of c.args.incoming c.args.k)) c.requires.gone c.in-Some.ensures.pulled
    (row_link (row_of c.args.incoming c.args.k) c.in-Some.entry) c.in-Some.ensures.moved.0 c.in-Some.ensures.moved.1)

pub returns-in-Some-clause-placed : goal.returns-in-Some-clause-placed
returns-in-Some-clause-placed c =
    moved_placed c.args.blocks.now.slots (at c.args.place) c.args.incoming c.args.k c.args.places.now.entries c.requires.placed
    c.pull.new.blocks.slots (last_of c.args.nodes.now.entries c.args.blocks.now.slots (row_of c.args.incoming c.args.k)) c.requires.gone c.in-Some.ensures.pulled
    (row_link (row_of c.args.incoming c.args.k) c.in-Some.entry) c.in-Some.ensures.moved.0 c.in-Some.ensures.moved.1 (noted c.args.incoming c.note.new.places.entries)
    (λ q. c.note.ensures.here q ∙ ap (λ (m : Link). cond (link_eq m q) (Some (at c.args.place)) (noted c.args.incoming c.args.places.now.entries q)) c.link_beside.ensures)

pub returns-in-Some-clause-side : goal.returns-in-Some-clause-side
returns-in-Some-clause-side c =
    moved_side c.args.blocks.now.slots (at c.args.place) c.args.incoming c.args.k c.args.places.now.entries c.requires.placed
    c.pull.new.blocks.slots (last_of c.args.nodes.now.entries c.args.blocks.now.slots (row_of c.args.incoming c.args.k)) c.requires.gone c.in-Some.ensures.pulled
    (row_link (row_of c.args.incoming c.args.k) c.in-Some.entry) c.in-Some.ensures.moved.0 c.in-Some.ensures.moved.1

pub returns-in_default-clause-placed : goal.returns-in_default-clause-placed
returns-in_default-clause-placed c =
    last_placed c.args.blocks.now.slots (at c.args.place) c.args.incoming c.args.k c.args.places.now.entries c.requires.placed
    c.pull.new.blocks.slots (last_of c.args.nodes.now.entries c.args.blocks.now.slots (row_of c.args.incoming c.args.k)) c.requires.gone c.in_default.ensures.pulled c.in_default.ensures.moved

pub returns-in_default-clause-side : goal.returns-in_default-clause-side
returns-in_default-clause-side c =
    last_side c.args.blocks.now.slots (at c.args.place) c.args.incoming c.args.k c.args.places.now.entries c.requires.placed
    c.pull.new.blocks.slots (last_of c.args.nodes.now.entries c.args.blocks.now.slots (row_of c.args.incoming c.args.k)) c.requires.gone c.in_default.ensures.pulled c.in_default.ensures.moved
