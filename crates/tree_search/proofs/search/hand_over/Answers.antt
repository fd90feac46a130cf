use Rattle.std.proofs.Common.{◌≡◌, ◌++◌, [], ◌∷◌, List, ℕ, subst, arith, take}
use Rattle.std.specs.Prelude.{OnOk}
use Rattle.tree_search.specs.Members.{ids_of}
use Rattle.tree_search.proofs.TieLemmas.{front_is}
use Rattle.tree_search.proofs.search.hand_over.Goals as goal

pub returns-clause-ok : goal.returns-clause-ok
returns-clause-ok g c =
    let p = c.args.partial.now in
    let list = g.F.Found.list in
    let count = c.len-count.result in
    let same : take count c.loop-u.ids ≡ ids_of p = front_is count c.loop-u.ids p c.len-count.ensures (omega (arith, c.requires, c.len-count.ensures, c.loop-u.invariant.size)) (λ j h. c.loop-u.invariant.ids j (omega (arith, h, c.loop-u-test.false))) in
    subst (λ (l : List ℕ). OnOk c.take.result (list c.take.new.self ≡ list c.args.found.now ++ l ∷ [])) same c.take.ensures.ok
