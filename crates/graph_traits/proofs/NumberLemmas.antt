-- What a caller learns of a label's number.
use Rattle.std.proofs.Common.{◌≡◌, ℕ, Bool, true, false, Option, Some, None, List, [], ◌∷◌, refl, sym, ap}
use Rattle.std.specs.List.{list_any}
use Rattle.std.specs.Str.{bytes_eq}
use Rattle.std.specs.Cmp.Lexicographic.{bytes_decides}
use Rattle.std.specs.declared.cmp.Ordering.{Ordering}
use Rattle.std.specs.declared.cmp.Ordering.TheVariants.{Less, Equal, Greater}
use Rattle.std.specs.Ordering.{nat_cmp, is_eq, ordering_then}
use Rattle.std.proofs.lemmas.Map.Lookups.{exact_bytes, exact_unsigned}
use Rattle.flux_model.specs.Text.{text_cmp}
use Rattle.flux_model.specs.Graph.{Graph, triple_cmp, has_triple}
use Rattle.flux_model.specs.declared.graph.Triple.{Triple}
use Rattle.graph_traits.specs.Numbers.{LacksLabel, has_triple_by, IsNumberIn}

-- ---- triples that are equal in their order

then_equal : (r s : Ordering) → ordering_then r s ≡ Equal → (r ≡ Equal) × (s ≡ Equal)
then_equal Less s e = cc
then_equal Equal s e = (refl, e)
then_equal Greater s e = cc

same_triple : (a : ℕ) (b : List ℕ) (c x : ℕ) (y : List ℕ) (z : ℕ) → a ≡ x → b ≡ y → c ≡ z → ◌≡◌ {A = Triple} (record { src = a; label = b; dst = c }) (record { src = x; label = y; dst = z })
same_triple a b c x y z p q r = cc

-- they are the same
pub triple_exact : (s t : Triple) → triple_cmp s t ≡ Equal → s ≡ t
triple_exact s t e =
    let p = then_equal (nat_cmp s.src t.src) (ordering_then (text_cmp s.label t.label) (nat_cmp s.dst t.dst)) e in
    let q = then_equal (text_cmp s.label t.label) (nat_cmp s.dst t.dst) p.1 in
    same_triple _ _ _ _ _ _ (exact_unsigned s.src t.src p.0) (exact_bytes s.label t.label q.0) (exact_unsigned s.dst t.dst q.1)

-- a test that an order is `Equal`
pub is_equal : (r : Ordering) → is_eq r ≡ true → r ≡ Equal
is_equal Less e = cc
is_equal Equal e = refl
is_equal Greater e = cc

-- ---- a label that no triple has

none_equal : (t : Triple) (ts : List Triple) → LacksLabel t.label ts → list_any (λ s. is_eq (triple_cmp t s)) ts ≡ false
none_equal t [] h = refl
none_equal t (s ∷ ts) h = by (bytes_eq t.label s.label) refl h (none_equal t ts) (is_eq (triple_cmp t s)) refl
  where
    by : (b : Bool) → bytes_eq t.label s.label ≡ b → LacksLabel t.label (s ∷ ts) → (LacksLabel t.label ts → list_any (λ s. is_eq (triple_cmp t s)) ts ≡ false) →
        (e : Bool) → is_eq (triple_cmp t s) ≡ e → list_any (λ s. is_eq (triple_cmp t s)) (s ∷ ts) ≡ false
    by true q l ih e p = let r = rw q at l in cc
    by false q l ih true p =
        let same = triple_exact t s (is_equal (triple_cmp t s) p) in
        let yes = (bytes_decides t.label s.label).1 (ap (λ (z : Triple). z.label) same) in cc
    by false q l ih false p = rw p (ih (rw q at l))

-- whether a triple stands, by the number that the store has for its label
pub lacks_triple : (texts : ℕ → Option (List ℕ)) (g : Graph) (label : List ℕ) (src dst : ℕ) → IsNumberIn texts g label None → false ≡ has_triple g (record { src = src; label = label; dst = dst })
lacks_triple texts g label src dst h = sym (none_equal (record { src = src; label = label; dst = dst }) g.triples h.absent)

-- where it has one, the number's text is the label
pub has_triple_by_number : (texts : ℕ → Option (List ℕ)) (g : Graph) (label : List ℕ) (n src dst : ℕ) → IsNumberIn texts g label (Some n) → has_triple_by g (texts n) src dst ≡ has_triple g (record { src = src; label = label; dst = dst })
has_triple_by_number texts g label n src dst h = ap (λ o. has_triple_by g o src dst) ((h.tells n).1 refl)
