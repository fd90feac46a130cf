use Rattle.std.proofs.Common.{ℕ, ◌≡◌, Some, refl, sym, ap, ◌∙◌}
use Rattle.std.specs.Option.{option_copied_mut}
use Rattle.std.specs.Map.{lookup}
use Rattle.label_graph.specs.declared.link.Places.{Places}
use Rattle.label_graph.specs.Places.{link_eq}
use Rattle.label_graph.proofs.PlaceLemmas.{same_part}
use Rattle.label_graph.proofs.place.set_out.Goals as goal

pub returns-clause-ins : goal.returns-clause-ins
returns-clause-ins c =
    let w : Places ℕ = record { out_at = c.args.at; in_at = c.unwrap-p.result.now.in_at } in
    let was : lookup (link_eq c.args.k) c.args.places.now.entries ≡ Some c.unwrap-p.result.now = sym c.get_mut.ensures.value ∙ ap option_copied_mut c.unwrap-p.ensures in
    same_part (λ k p. (k.dst, p.in_at)) c.args.places.now.entries (c.get_mut.follows.lender w).entries c.args.k c.unwrap-p.result.now w was refl
    ((c.get_mut.follows.holds w).3 c.requires).0
