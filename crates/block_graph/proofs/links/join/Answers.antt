use Rattle.std.proofs.Common.{◌≡◌, true, false, None, ap, refl, ◌∙◌, ◌∷◌}
use Rattle.std.specs.Prelude.{option_map}
use Rattle.std.specs.Map.{lookup, keys_of}
use Rattle.std.proofs.lemmas.List.Sorted.{IsPermutation-trans, IsPermutation-cons, IsPermutation-map}
use Rattle.std.proofs.lemmas.Option.{MatchOption-at_none}
use Rattle.std.proofs.lemmas.Result.{err_from_is_err_and}
use Rattle.label_graph.specs.declared.link.Link.{Link}
use Rattle.label_graph.specs.declared.link.Places.{Places}
use Rattle.label_graph.specs.Places.{link_eq}
use Rattle.block_graph.specs.declared.row.Place.{Place}
use Rattle.block_graph.specs.Places.{ArePlaced, place_in, noted}
use Rattle.block_graph.specs.Rows.{at}
use Rattle.block_graph.proofs.SideLemmas.{same_placed, inserted, joined_placed}
use Rattle.block_graph.proofs.links.join.Goals as goal

pub returns-in_err-make_place-clause-placed : goal.returns-in_err-make_place-clause-placed
returns-in_err-make_place-clause-placed c =
    same_placed c.args.nodes.now.entries c.args.blocks.now.slots c.args.blocks.now.slots c.args.places.now.entries c.make_place.new.places.entries
    refl c.make_place.ensures.found c.requires.placed

pub returns-in_err-make_place-clause-same : goal.returns-in_err-make_place-clause-same
returns-in_err-make_place-clause-same c =
    let p = err_from_is_err_and c.from_residual.result c.from_residual.ensures.1 in
    rw p.1 (IsPermutation-map (λ (e : Link × Places Place). e.0) c.args.places.now.entries c.make_place.new.places.entries c.make_place.ensures.entries)

pub returns-in_err-make_room-clause-placed : goal.returns-in_err-make_room-clause-placed
returns-in_err-make_room-clause-placed c =
    same_placed c.args.nodes.now.entries c.args.blocks.now.slots c.make_room.new.blocks.slots c.args.places.now.entries c.make_place.new.places.entries
    c.make_room.ensures.slots c.make_place.ensures.found c.requires.placed

pub returns-in_err-make_room-clause-same : goal.returns-in_err-make_room-clause-same
returns-in_err-make_room-clause-same c =
    let p = err_from_is_err_and c.from_residual-in_err-make_room.result c.from_residual-in_err-make_room.ensures.1 in
    rw p.1 (IsPermutation-map (λ (e : Link × Places Place). e.0) c.args.places.now.entries c.make_place.new.places.entries c.make_place.ensures.entries)

pub push-in_at-requires-clause-room : goal.push-in_at-requires-clause-room
push-in_at-requires-clause-room c = c.push-out_at.ensures.keeps 1 c.in_ok-make_room.ensures.room

pub returns-clause-joined : goal.returns-clause-joined
returns-clause-joined c =
    let new : Places Place = record { out_at = c.push-out_at.result; in_at = c.push-in_at.result } in
    IsPermutation-trans (c.args.k ∷ keys_of c.args.places.now.entries) (c.args.k ∷ keys_of c.make_place.new.places.entries) (keys_of c.insert.new.self.entries)
    (IsPermutation-cons c.args.k (keys_of c.args.places.now.entries) (keys_of c.make_place.new.places.entries)
    (IsPermutation-map (λ (e : Link × Places Place). e.0) c.args.places.now.entries c.make_place.new.places.entries c.make_place.ensures.entries))
    (IsPermutation-map (λ (e : Link × Places Place). e.0) ((c.args.k, new) ∷ c.make_place.new.places.entries) c.insert.new.self.entries
    (MatchOption-at_none _ _ (c.in-Ok.ensures.old ∙ (c.make_place.ensures.found c.args.k ∙ c.requires.absent)) c.in-Ok.ensures.entries))

pub returns-clause-placed : goal.returns-clause-placed
returns-clause-placed c =
    let new : Places Place = record { out_at = c.push-out_at.result; in_at = c.push-in_at.result } in
    let h : ArePlaced c.args.nodes.now.entries c.make_room.new.blocks.slots c.make_place.new.places.entries = same_placed c.args.nodes.now.entries c.args.blocks.now.slots c.make_room.new.blocks.slots c.args.places.now.entries c.make_place.new.places.entries
    c.make_room.ensures.slots c.make_place.ensures.found c.requires.placed in
    let free : lookup (link_eq c.args.k) c.make_place.new.places.entries ≡ None = c.make_place.ensures.found c.args.k ∙ c.requires.absent in
    record {
      rows = c.push-in_at.ensures.rows;
      placed = joined_placed c.make_room.new.blocks.slots c.push-out_at.new.blocks.slots c.push-in_at.new.blocks.slots (at c.push-out_at.result) (at c.push-in_at.result) c.args.k
          c.push-out_at.ensures.free c.push-out_at.ensures.here c.push-out_at.ensures.others c.push-in_at.ensures.free c.push-in_at.ensures.here c.push-in_at.ensures.others
          (λ s. noted s c.make_place.new.places.entries) (λ s. noted s c.insert.new.self.entries) h.placed (λ s. ap (option_map (place_in s)) free)
          (inserted false c.make_place.new.places.entries c.insert.new.self.entries c.args.k new c.in-Ok.ensures.updates.0)
          (inserted true c.make_place.new.places.entries c.insert.new.self.entries c.args.k new c.in-Ok.ensures.updates.0);
    }
