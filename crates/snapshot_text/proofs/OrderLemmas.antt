-- The orders of ids and of triples.
use Rattle.std.proofs.Common.{◌≡◌, ℕ, ◌≤◌, refl, sym, arith}
use Rattle.std.specs.declared.cmp.Ordering.{Ordering}
use Rattle.std.specs.declared.cmp.Ordering.TheVariants.{Less, Equal, Greater}
use Rattle.std.specs.Ordering.{nat_cmp, ordering_then}
use Rattle.std.specs.Cmp.{IsTotalOrder}
use Rattle.std.specs.Cmp.Lexicographic.{nat_list_cmp_total}
use Rattle.std.proofs.lemmas.Cmp.{nat_cmp_total, on_total, then_total, ranked}
use Rattle.flux_model.specs.Text.{text_cmp}
use Rattle.flux_model.specs.Graph.{triple_cmp}
use Rattle.flux_model.specs.declared.graph.Triple.{Triple}

-- triples are totally ordered
pub triple_total : IsTotalOrder triple_cmp
triple_total =
    then_total (on_total (λ (t : Triple). t.src) nat_cmp_total)
    (then_total (on_total (λ (t : Triple). t.label) nat_list_cmp_total) (on_total (λ (t : Triple). t.dst) nat_cmp_total))

-- numbers that are equal in their order are the same
pub same_number : (x y : ℕ) → nat_cmp x y ≡ Equal → x ≡ y
same_number x y e = ranked x y Equal (sym e)

-- a lower triple has no higher source
pub source_rises : (s t : Triple) → triple_cmp s t ≡ Less → s.src ≤ t.src
source_rises s t e = by (nat_cmp s.src t.src) refl e
  where
    by : (r : Ordering) → nat_cmp s.src t.src ≡ r → ordering_then r (ordering_then (text_cmp s.label t.label) (nat_cmp s.dst t.dst)) ≡ Less → s.src ≤ t.src
    by Less q h = let l = ranked s.src t.src Less (sym q) in omega arith
    by Equal q h = let l = ranked s.src t.src Equal (sym q) in omega arith
    by Greater q h = cc
