use Rattle.std.proofs.Common.{ℕ, ◌≡◌, Some, refl, sym, ap, ◌∙◌, subst, List, ◌∷◌, cond, false}
use Rattle.std.specs.Prelude.{IsPermutation, is_some, slice_get}
use Rattle.std.specs.List.{list_any}
use Rattle.std.proofs.lemmas.Map.Made.{is_some-lookup}
use Rattle.std.specs.Map.{lookup, keys_of, remove_entry}
use Rattle.std.proofs.lemmas.List.Sorted.{IsPermutation-trans, IsPermutation-cons, IsPermutation-map}
use Rattle.label_graph.specs.declared.link.Link.{Link}
use Rattle.label_graph.specs.declared.link.Places.{Places}
use Rattle.label_graph.specs.Places.{link_eq, outs, ins, out_link, in_link, out_place, in_place, link_at}
use Rattle.label_graph.proofs.LinkLemmas.{same_inverse, same_rows, restored_part, keys_removed}
use Rattle.label_graph.proofs.links.part.Goals as goal

pub leave_out-requires-clause-placed : goal.leave_out-requires-clause-placed
leave_out-requires-clause-placed c =
    let k = c.args.k in
    let was : lookup (link_eq c.args.k) c.args.places.now.entries ≡ Some c.in-Some.at = sym c.in-Some.ensures.value in
    same_inverse (link_at out_link (outs c.args.nodes.now.entries)) (link_at out_link (outs c.args.nodes.now.entries)) (out_place c.args.places.now.entries)
    (λ q. cond (link_eq c.args.k q) (Some (c.args.k.src, c.in-Some.at.out_at)) (out_place c.remove.new.self.entries q))
    (λ a. refl) (restored_part (λ q p. (q.src, p.out_at)) c.args.places.now.entries c.remove.new.self.entries c.args.k c.in-Some.at was c.in-Some.ensures.updates.0) c.requires.placed.outs

pub leave_in-requires-clause-dst : goal.leave_in-requires-clause-dst
leave_in-requires-clause-dst c = ap (λ ks. slice_get ks c.args.dst) c.leave_out.ensures.keys ∙ c.requires.dst

pub leave_in-requires-clause-placed : goal.leave_in-requires-clause-placed
leave_in-requires-clause-placed c =
    let was : lookup (link_eq c.args.k) c.args.places.now.entries ≡ Some c.in-Some.at = sym c.in-Some.ensures.value in
    same_inverse (link_at in_link (ins c.args.nodes.now.entries)) (link_at in_link (ins c.leave_out.new.nodes.entries)) (in_place c.args.places.now.entries)
    (λ q. cond (link_eq c.args.k q) (Some (c.args.k.dst, c.in-Some.at.in_at)) (in_place c.leave_out.new.places.entries q))
    (same_rows in_link (ins c.args.nodes.now.entries) (ins c.leave_out.new.nodes.entries) c.leave_out.ensures.ins)
    (λ q. rw (c.leave_out.ensures.others q) (restored_part (λ q p. (q.dst, p.in_at)) c.args.places.now.entries c.remove.new.self.entries c.args.k c.in-Some.at was c.in-Some.ensures.updates.0 q)) c.requires.placed.ins

pub returns-clause-parted : goal.returns-clause-parted
returns-clause-parted c =
    let was : lookup (link_eq c.args.k) c.args.places.now.entries ≡ Some c.in-Some.at = sym c.in-Some.ensures.value in
    let left : List (Link × Places ℕ) = remove_entry (link_eq c.args.k) c.args.places.now.entries in
    let P : List Link → Type 0 = λ ks. IsPermutation (keys_of c.args.places.now.entries) (c.args.k ∷ ks) in
    subst P (sym (c.leave_in.ensures.links ∙ c.leave_out.ensures.links))
    (IsPermutation-trans (keys_of c.args.places.now.entries) (c.args.k ∷ keys_of left) (c.args.k ∷ keys_of c.remove.new.self.entries)
    (keys_removed c.args.k c.args.places.now.entries c.in-Some.at was)
    (IsPermutation-cons c.args.k (keys_of left) (keys_of c.remove.new.self.entries)
    (IsPermutation-map (λ (e : Link × Places ℕ). e.0) left c.remove.new.self.entries c.in-Some.ensures.entries)))

pub returns-clause-gone : goal.returns-clause-gone
returns-clause-gone c =
    let P : List Link → Type 0 = λ ks. list_any (link_eq c.args.k) ks ≡ false in
    subst P (sym (c.leave_in.ensures.links ∙ c.leave_out.ensures.links))
    (sym (is_some-lookup (link_eq c.args.k) c.remove.new.self.entries) ∙ (ap is_some c.in-Some.ensures.updates.1))
