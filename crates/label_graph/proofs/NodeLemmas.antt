-- Vertices with rows.
use Rattle.std.proofs.Common.{◌≡◌, ℕ, zero, suc, ◌<◌, Option, Some, None, cond, length, refl, arith, Bool, true, false, List, [], ◌∷◌, map, ap, sym, ◌∙◌, subst}
use Rattle.std.specs.Prelude.{nat_eq, position, slice_get, IfSome, IsSome, IsSomeAnd, Result, Ok, Err, OnOk}
use Rattle.std.specs.Map.{lookup, keys_of, values_of}
use Rattle.std.specs.Cmp.{nat_eq_equiv}
use Rattle.std.proofs.lemmas.Bool.{eqb-true, ne_eqb}
use Rattle.std.proofs.lemmas.Map.Entries.{length-keys_of, lookup_from_place}
use Rattle.std.proofs.lemmas.List.Quantifiers.{position-Some}
use Rattle.std.proofs.lemmas.Option.{same_Some, none-some, slice_get_within, slice_get-get_or}
use Rattle.indexmap.specs.IndexMap.{IndexMap, IsUnique, index_map_len, values, set_value_at}
use Rattle.indexmap.proofs.CallerLemmas.{keys-with_value_at, updates-with_value_at}
use Rattle.label_graph.specs.declared.link.Node.{Node}
use Rattle.label_graph.specs.declared.link.Member.{Member}
use Rattle.label_graph.specs.Places.{Row, outs_of, ins_of, vertex_of, IsAt}

-- who has an entry in an out row is a vertex
pub stands_out : (p : Option (Node Row)) (i : ℕ) → i < length (outs_of p) → IsSome p
stands_out None i lt = absurd (omega arith)
stands_out (Some p) i lt = refl

-- who has an entry in an in row is a vertex
pub stands_in : (p : Option (Node Row)) (i : ℕ) → i < length (ins_of p) → IsSome p
stands_in None i lt = absurd (omega arith)
stands_in (Some p) i lt = refl

-- the entry whose key and value are known
entry_of : {X : Type 0} (es : List (ℕ × X)) (i v : ℕ) (w : X) → slice_get (keys_of es) i ≡ Some v → slice_get (values_of es) i ≡ Some w →
    slice_get es i ≡ Some (v, w)
entry_of [] i v w p q = absurd (none-some v p)
entry_of {X} (e ∷ es) zero v w p q = pair e.0 v e.1 w (same_Some e.0 v p) (same_Some e.1 w q)
  where
    pair : (a b : ℕ) (x y : X) → a ≡ b → x ≡ y → ◌≡◌ {A = Option (ℕ × X)} (Some (a, x)) (Some (b, y))
    pair a b x y p q = cc
entry_of (e ∷ es) (suc i) v w p q = entry_of es i v w p q

-- a vertex that changes and keeps its labels is the same vertex
vertices_written : {R : Type 0} (es : List (ℕ × Node R)) (i v : ℕ) (old new : Node R) → slice_get es i ≡ Some (v, old) → new.labels ≡ old.labels →
    map vertex_of (set_value_at es i new) ≡ map vertex_of es
vertices_written {R} [] i v old new h e = refl
vertices_written {R} (x ∷ xs) zero v old new h e = let s = ap (λ (p : ℕ × Node R). p.1.labels) (same_Some x (v, old) h) in rw (e, s) refl
vertices_written {R} (x ∷ xs) (suc i) v old new h e = ap (λ r. vertex_of x ∷ r) (vertices_written xs i v old new h e)

-- a vertex that stands at an index is found there
pub within : {R S : Type 0} (m : IndexMap ℕ (Node R) S) (v : Member) → IsAt m.entries v → v.index < index_map_len m
within m v at =
    let inside = slice_get_within (keys_of m.entries) v.index v.id at in
    omega (arith, inside, length-keys_of m.entries)

-- an id that was found among the ids stands where it was found
pub at_position : (keys : List ℕ) (v : ℕ) (o : Option ℕ) → o ≡ position (nat_eq v) keys → IfSome o (λ i. slice_get keys i ≡ Some v)
at_position keys v None e = tt
at_position keys v (Some i) e =
    let at = position-Some (nat_eq v) keys i v (sym e) in
    slice_get-get_or keys i v at.0 ∙ ap Some (sym (eqb-true v _ at.1))

-- ---- what is kept of a vertex, written by its index
module _ {R S : Type 0} (m : IndexMap ℕ (Node R) S) (v : Member) (old new : Node R) (unique : IsUnique nat_eq m) (at : IsAt m.entries v)
    (was : slice_get (values m) v.index ≡ Some old) where
  entry : slice_get m.entries v.index ≡ Some (v.id, old)
  entry = entry_of m.entries v.index v.id old at was

  -- what was found at its id
  pub found : lookup (nat_eq v.id) m.entries ≡ Some old
  found = lookup_from_place nat_eq_equiv m.entries v.index v.id old unique entry

  sets : (q : ℕ) → lookup (nat_eq q) (set_value_at m.entries v.index new) ≡ cond (nat_eq v.id q) (Some new) (lookup (nat_eq q) m.entries)
  sets = (updates-with_value_at m v.index new nat_eq_equiv unique v.id old entry).0

  -- what is found at its id
  pub here : lookup (nat_eq v.id) (set_value_at m.entries v.index new) ≡ Some new
  here = (updates-with_value_at m v.index new nat_eq_equiv unique v.id old entry).1

  pub keys : keys_of (set_value_at m.entries v.index new) ≡ keys_of m.entries
  keys = keys-with_value_at m v.index new

  pub vertices : new.labels ≡ old.labels → map vertex_of (set_value_at m.entries v.index new) ≡ map vertex_of m.entries
  vertices same = vertices_written m.entries v.index v.id old new entry same

  -- other vertices have what they had
  pub other : {X : Type 0} (part : Option (Node R) → X) (q : ℕ) → (q ≡ v.id → ⊥) →
      part (lookup (nat_eq q) (set_value_at m.entries v.index new)) ≡ part (lookup (nat_eq q) m.entries)
  other part q n = ap part (sets q ∙ ap (λ b. cond b (Some new) (lookup (nat_eq q) m.entries)) (ne_eqb v.id q (λ e. n (sym e))))

  -- and all have it, of a part that stays
  pub same : {X : Type 0} (part : Option (Node R) → X) → part (Some new) ≡ part (Some old) → (q : ℕ) →
      part (lookup (nat_eq q) (set_value_at m.entries v.index new)) ≡ part (lookup (nat_eq q) m.entries)
  same {X} part h q = by (nat_eq v.id q) refl
    where
      by : (b : Bool) → nat_eq v.id q ≡ b → part (lookup (nat_eq q) (set_value_at m.entries v.index new)) ≡ part (lookup (nat_eq q) m.entries)
      by true e =
          let P : ℕ → Type 0 = λ k. part (lookup (nat_eq k) (set_value_at m.entries v.index new)) ≡ part (lookup (nat_eq k) m.entries) in
          subst P (eqb-true v.id q e) (ap part here ∙ h ∙ sym (ap part found))
      by false e = ap part (sets q ∙ ap (λ b. cond b (Some new) (lookup (nat_eq q) m.entries)) e)

  -- what holds of its old value and of its new one
  pub keeps : (P : Node R → Type 0) → (P old → P new) → (q : ℕ) → IsSomeAnd (lookup (nat_eq q) m.entries) P →
      IsSomeAnd (lookup (nat_eq q) (set_value_at m.entries v.index new)) P
  keeps P h q some = by (nat_eq v.id q) refl
    where
      by : (b : Bool) → nat_eq v.id q ≡ b → IsSomeAnd (lookup (nat_eq q) (set_value_at m.entries v.index new)) P
      by true e =
          let Q : ℕ → Type 0 = λ k. IsSomeAnd (lookup (nat_eq k) m.entries) P in
          let Then : ℕ → Type 0 = λ k. IsSomeAnd (lookup (nat_eq k) (set_value_at m.entries v.index new)) P in
          subst Then (eqb-true v.id q e) (subst (λ o. IsSomeAnd o P) (sym here) (h (subst (λ o. IsSomeAnd o P) found (subst Q (sym (eqb-true v.id q e)) some))))
      by false e = subst (λ o. IsSomeAnd o P) (sym (sets q ∙ ap (λ b. cond b (Some new) (lookup (nat_eq q) m.entries)) e)) some

  -- and what holds of the new value, where a call succeeds
  pub holds_here : {T E Q : Type 0} (P : Node R → Type 0) (r : Result T E) → (Q → P new) → OnOk r Q →
      OnOk r (IsSomeAnd (lookup (nat_eq v.id) (set_value_at m.entries v.index new)) P)
  holds_here P (Ok x) f h = subst (λ o. IsSomeAnd o P) (sym here) (f h)
  holds_here P (Err e) f h = tt
