-- Rows whose out counters lie in one list.
use Rattle.std.proofs.Common.{◌≡◌, ℕ, zero, suc, ◌+◌, ◌-◌, ◌*◌, ◌<◌, ◌≤◌, Bool, true, false, cond, List, [], ◌∷◌, ◌++◌, length, take, drop, replicate, refl, sym, ap, subst, ◌∙◌, arith}
use Rattle.std.specs.Prelude.{Option, None, Some, option_map, slice_get, slice_set, slice_index, slice_index_or, position, is_some, min, nat_eq, ◌==◌}
use Rattle.std.specs.List.{swap_remove, copy_within, IsDistinct}
use Rattle.std.specs.Option.{option_map_or}
use Rattle.std.specs.Map.{lookup, set_value, keys_of}
use Rattle.std.specs.Cmp.{nat_eq_equiv}
use Rattle.std.proofs.lemmas.Bool.{eqb-true, ne_eqb}
use Rattle.std.proofs.lemmas.Nat.{mul-le}
use Rattle.std.proofs.lemmas.Option.{same_Some, none-some, slice_get_within, slice_get-get_or}
use Rattle.std.proofs.lemmas.List.{append_assoc, length-append, length-take, length-drop, take_all, take_at, drop_at, take-take, drop-take, drop-drop, take-append-le, drop-append-le, take-set-le, drop-set-lt, drop-set-add, get_or-take, get_or-drop, nil_from_length, length-replicate}
use Rattle.std.proofs.lemmas.List.Quantifiers.{position-Some}
use Rattle.std.proofs.lemmas.Map.Entries.{length-keys_of, lookup_from_place}
use Rattle.std.proofs.lemmas.List.Edits.{length-paste}
use lib.Seq.{paste}
use native.Mathlib.Nat.{add_comm, mul-suc, mul-zero}
use Rattle.indexmap.specs.IndexMap.{set_value_at, swap_remove_entry}
use Rattle.indexmap.specs.Layout.{hash_map}
use Rattle.indexmap.proofs.CallerLemmas.{updates-with_value_at}
use Rattle.indexmap.proofs.RemoveLemmas.{swap_out}
use Rattle.flux_model.specs.Exact.{Row}
use Rattle.std.specs.FinMap.{get, from_entries}
use Rattle.dcg_store.specs.Counters.{first_row, is_full}
use Rattle.dcg_store.specs.Layers.{HasWidth}
use Rattle.dcg_store.specs.Flat.{flat_rows, IsFlat}
use Rattle.dcg_store.proofs.LayerLemmas.{Entries, Sets, written, get_found, live_of_none}

abbrev pub Ins : Type 0
Ins = List (ℕ × ℕ)

abbrev row : ℕ → List ℕ → Row
row n outs = record { ins = n; outs = outs }

-- a place within what is taken can be set before or after
take-set_within : (n : ℕ) (xs : List ℕ) (j x : ℕ) → take n (slice_set xs j x) ≡ slice_set (take n xs) j x
take-set_within zero xs j x = refl
take-set_within (suc n) [] j x = refl
take-set_within (suc n) (y ∷ xs) zero x = refl
take-set_within (suc n) (y ∷ xs) (suc j) x = ap (λ l. y ∷ l) (take-set_within n xs j x)

-- one row more, and none
next_row : (width n : ℕ) → width * suc n ≡ width + width * n
next_row width n = mul-suc width n ∙ add_comm (width * n) width

no_row : (width : ℕ) → width * 0 ≡ 0
no_row width = mul-zero width

module _ (width : ℕ) where
  -- the vertices stay
  pub flat-keys : (ins : Ins) (outs : List ℕ) → keys_of (flat_rows width ins outs) ≡ keys_of ins
  flat-keys [] outs = refl
  flat-keys (e ∷ ins) outs = ap (λ l. e.0 ∷ l) (flat-keys ins (drop width outs))

  pub flat-length : (ins : Ins) (outs : List ℕ) → length (flat_rows width ins outs) ≡ length ins
  flat-length [] outs = refl
  flat-length (e ∷ ins) outs = ap suc (flat-length ins (drop width outs))

  -- a row by its place
  pub flat_at : (ins : Ins) (outs : List ℕ) (i v n : ℕ) → slice_get ins i ≡ Some (v, n) →
      slice_get (flat_rows width ins outs) i ≡ Some (v, record { ins = n; outs = take width (drop (width * i) outs) })
  flat_at [] outs i v n at = absurd (none-some (v, n) at)
  flat_at (e ∷ ins) outs zero v n at = let same = same_Some e (v, n) at in ap (λ (p : ℕ × ℕ). Some (p.0, row p.1 (take width outs))) same ∙ ap (λ k. Some (v, row n (take width (drop k outs)))) (sym (no_row width))
  flat_at (e ∷ ins) outs (suc i) v n at =
      flat_at ins (drop width outs) i v n at
      ∙ ap (λ l. Some (v, row n (take width l))) (drop-drop (width * i) width outs ∙ ap (λ k. drop k outs) (sym (next_row width i)))

  -- the in counters of the rows that are found are those that are found
  pub flat-lookup : (test : ℕ → Bool) (ins : Ins) (outs : List ℕ) → option_map (λ (r : Row). r.ins) (lookup test (flat_rows width ins outs)) ≡ lookup test ins
  flat-lookup test [] outs = refl
  flat-lookup test (e ∷ ins) outs = by (test e.0) refl (flat-lookup test ins (drop width outs))
    where
      by : (b : Bool) → test e.0 ≡ b → option_map (λ (r : Row). r.ins) (lookup test (flat_rows width ins (drop width outs))) ≡ lookup test ins →
          option_map (λ (r : Row). r.ins) (lookup test (flat_rows width (e ∷ ins) outs)) ≡ lookup test (e ∷ ins)
      by true q rest = rw q refl
      by false q rest = rw q rest

  -- an in counter is written
  pub flat-set_value : (test : ℕ → Bool) (ins : Ins) (outs : List ℕ) (n : ℕ) (r : Row) → lookup test (flat_rows width ins outs) ≡ Some r →
      flat_rows width (set_value test ins n) outs ≡ set_value test (flat_rows width ins outs) (record r { ins = n })
  flat-set_value test [] outs n r found = refl
  flat-set_value test (e ∷ ins) outs n r found = by (test e.0) refl (flat-set_value test ins (drop width outs) n r)
    where
      by : (b : Bool) → test e.0 ≡ b →
          (lookup test (flat_rows width ins (drop width outs)) ≡ Some r → flat_rows width (set_value test ins n) (drop width outs) ≡ set_value test (flat_rows width ins (drop width outs)) (record r { ins = n })) →
          flat_rows width (set_value test (e ∷ ins) n) outs ≡ set_value test (flat_rows width (e ∷ ins) outs) (record r { ins = n })
      by true q rest = rw q (ap (λ l. (e.0, row n l) ∷ flat_rows width ins (drop width outs)) (ap (λ (x : Row). x.outs) (same_Some (row e.1 (take width outs)) r (rw q at found))))
      by false q rest = rw q (ap (λ l. (e.0, row e.1 (take width outs)) ∷ l) (rest (rw q at found)))

  -- an out counter is written
  pub flat-set : (ins : Ins) (outs : List ℕ) (i j x v : ℕ) (r : Row) → j < width → slice_get (flat_rows width ins outs) i ≡ Some (v, r) →
      flat_rows width ins (slice_set outs (width * i + j) x) ≡ set_value_at (flat_rows width ins outs) i (record r { outs = slice_set r.outs j x })
  flat-set [] outs i j x v r within at = absurd (none-some (v, r) at)
  flat-set (e ∷ ins) outs zero j x v r within at =
      let here : width * 0 + j ≡ j = omega (arith, no_row width) in
      let same = ap (λ (p : ℕ × Row). p.1) (same_Some (e.0, row e.1 (take width outs)) (v, r) at) in
      ap (λ k. flat_rows width (e ∷ ins) (slice_set outs k x)) here
      ∙ (λ k. (e.0, row e.1 (take-set_within width outs j x k)) ∷ flat_rows width ins (drop-set-lt width outs j x within k))
      ∙ ap (λ (q : Row). (e.0, record q { outs = slice_set q.outs j x }) ∷ flat_rows width ins (drop width outs)) same
  flat-set (e ∷ ins) outs (suc i) j x v r within at =
      let later : width * suc i + j ≡ width + (width * i + j) = omega (arith, next_row width i) in
      ap (λ k. flat_rows width (e ∷ ins) (slice_set outs k x)) later
      ∙ (λ k. (e.0, row e.1 (take-set-le width outs (width + (width * i + j)) x (let past : width ≤ width + (width * i + j) = omega arith in past) k)) ∷ flat_rows width ins (drop-set-add width outs (width * i + j) x k))
      ∙ ap (λ l. (e.0, row e.1 (take width outs)) ∷ l) (flat-set ins (drop width outs) i j x v r within at)

  -- a row behind the others
  pub flat-push : (ins : Ins) (outs : List ℕ) (v : ℕ) → length outs ≡ width * length ins →
      flat_rows width (ins ++ (v, 1) ∷ []) (outs ++ replicate width 0) ≡ flat_rows width ins outs ++ (v, first_row width) ∷ []
  flat-push [] outs v filled =
      ap (λ l. (v, row 1 (take width (l ++ replicate width 0))) ∷ []) (nil_from_length outs (filled ∙ no_row width))
      ∙ ap (λ l. (v, row 1 l) ∷ []) (take_all width (replicate width 0) (omega (arith, length-replicate {A = ℕ} width 0)))
  flat-push (e ∷ ins) outs v filled =
      let long : width ≤ length outs = omega (arith, filled, next_row width (length ins)) in
      (λ k. (e.0, row e.1 (take-append-le width outs (replicate width 0) long k)) ∷ flat_rows width (ins ++ (v, 1) ∷ []) (drop-append-le width outs (replicate width 0) long k))
      ∙ ap (λ l. (e.0, row e.1 (take width outs)) ∷ l) (flat-push ins (drop width outs) v (omega (arith, filled, length-drop width outs, next_row width (length ins))))

  -- the first rows
  pub flat-take : (m : ℕ) (ins : Ins) (outs : List ℕ) → flat_rows width (take m ins) (take (width * m) outs) ≡ take m (flat_rows width ins outs)
  flat-take zero ins outs = refl
  flat-take (suc m) [] outs = refl
  flat-take (suc m) (e ∷ ins) outs =
      let more = next_row width m in
      ap (λ k. flat_rows width (e ∷ take m ins) (take k outs)) more
      ∙ (λ k. (e.0, row e.1 (take-take width (width + width * m) outs (let past : width ≤ width + width * m = omega arith in past) k)) ∷ flat_rows width (take m ins) (drop-take width (width * m) outs k))
      ∙ ap (λ l. (e.0, row e.1 (take width outs)) ∷ l) (flat-take m ins (drop width outs))

  -- a whole row is written
  pub flat-paste : (ins : Ins) (outs block : List ℕ) (i : ℕ) (e : ℕ × ℕ) → i < length ins → length outs ≡ width * length ins → length block ≡ width →
      flat_rows width (slice_set ins i e) (paste outs (width * i) block width) ≡ slice_set (flat_rows width ins outs) i (e.0, record { ins = e.1; outs = block })
  flat-paste [] outs block i e within filled whole = absurd (omega (arith, within))
  flat-paste (x ∷ ins) outs block zero e within filled whole =
      let all = take_all width block (omega (arith, whole)) in
      let start : width * 0 + width ≡ width = omega (arith, no_row width) in
      (λ k. flat_rows width (e ∷ ins) (take (no_row width k) outs ++ all k ++ drop (start k) outs))
      ∙ (λ k. (e.0, row e.1 (take_at block (drop width outs) width whole k)) ∷ flat_rows width ins (drop_at block (drop width outs) width whole k))
  flat-paste (x ∷ ins) outs block (suc i) e within filled whole =
      let long : width ≤ length outs = omega (arith, filled, next_row width (length ins)) in
      let front : width ≤ length (take (width + width * i) outs) = omega (arith, long, length-take (width + width * i) outs) in
      let past : width ≤ width + width * i = omega arith in
      let far : width * suc i + width ≡ width + (width * i + width) = omega (arith, next_row width i) in
      let rest = take width block ++ drop (width * suc i + width) outs in
      ap (λ k. flat_rows width (x ∷ slice_set ins i e) (take k outs ++ take width block ++ drop (width * suc i + width) outs)) (next_row width i)
      ∙ ap (flat_rows width (x ∷ slice_set ins i e)) (append_assoc (take (width + width * i) outs) (take width block) (drop (width * suc i + width) outs))
      ∙ (λ k. (x.0, row x.1 (take-append-le width (take (width + width * i) outs) rest front k)) ∷ flat_rows width (slice_set ins i e) (drop-append-le width (take (width + width * i) outs) rest front k))
      ∙ (λ k. (x.0, row x.1 (take-take width (width + width * i) outs past k)) ∷ flat_rows width (slice_set ins i e) (drop-take width (width * i) outs k ++ rest))
      ∙ ap (λ l. (x.0, row x.1 (take width outs)) ∷ flat_rows width (slice_set ins i e) (take (width * i) (drop width outs) ++ (take width block ++ l)))
      (ap (λ k. drop k outs) far ∙ sym (drop-drop (width * i + width) width outs))
      ∙ ap (λ l. (x.0, row x.1 (take width outs)) ∷ flat_rows width (slice_set ins i e) l) (sym (append_assoc (take (width * i) (drop width outs)) (take width block) (drop (width * i + width) (drop width outs))))
      ∙ ap (λ l. (x.0, row x.1 (take width outs)) ∷ l) (flat-paste ins (drop width outs) block i e (omega (arith, within)) (omega (arith, filled, length-drop width outs, next_row width (length ins))) whole)

  -- the last row goes into the place of one that ends
  pub flat-swap_remove : (ins : Ins) (outs : List ℕ) (i : ℕ) (d : ℕ × ℕ) (p : ℕ × Row) → i < length ins → length outs ≡ width * length ins →
      flat_rows width (swap_remove ins i d) (take (width * (length ins - 1)) (paste outs (width * i) (drop (width * (length ins - 1)) outs) width))
      ≡ swap_remove (flat_rows width ins outs) i p
  flat-swap_remove ins outs i d p within filled =
      let m = length ins - 1 in
      let some : 0 < length ins = omega (arith, within) in
      let rows : width * length ins ≡ width * (length ins - 1) + width = ap (λ k. width * k) (let k : length ins ≡ suc (length ins - 1) = omega (arith, some) in k) ∙ mul-suc width (length ins - 1) in
      let block = drop (width * (length ins - 1)) outs in
      let whole : length (drop (width * (length ins - 1)) outs) ≡ width = omega (arith, filled, rows, length-drop (width * (length ins - 1)) outs) in
      let last : slice_get ins (length ins - 1) ≡ Some (slice_index_or ins (length ins - 1) d) = slice_get-get_or ins (length ins - 1) d (omega (arith, some)) in
      let e = slice_index_or ins (length ins - 1) d in
      let at = flat_at ins outs (length ins - 1) (slice_index_or ins (length ins - 1) d).0 (slice_index_or ins (length ins - 1) d).1 last in
      let long : length ins - 1 < length (flat_rows width ins outs) = omega (arith, some, flat-length ins outs) in
      let own = same_Some _ _ (sym (slice_get-get_or (flat_rows width ins outs) (length ins - 1) p long) ∙ at) in
      flat-take (length ins - 1) (slice_set ins i (slice_index_or ins (length ins - 1) d)) (paste outs (width * i) (drop (width * (length ins - 1)) outs) width)
      ∙ ap (take (length ins - 1)) (flat-paste ins outs (drop (width * (length ins - 1)) outs) i (slice_index_or ins (length ins - 1) d) within filled whole)
      ∙ ap (λ l. take (length ins - 1) (slice_set (flat_rows width ins outs) i ((slice_index_or ins (length ins - 1) d).0, row (slice_index_or ins (length ins - 1) d).1 l))) (sym (take_all width (drop (width * (length ins - 1)) outs) (omega (arith, whole))))
      ∙ sym (λ k. take (flat-length ins outs k - 1) (slice_set (flat_rows width ins outs) i (own k)))
      ∙ ap (λ n. take (length (flat_rows width ins outs) - 1) (slice_set (flat_rows width ins outs) i (slice_index_or (flat_rows width ins outs) (n - 1) p))) (sym (flat-length ins outs))

-- ---- the row of a vertex, by its index

pub entry_from_key : {X : Type 0} (es : List (ℕ × X)) (i v : ℕ) → slice_get (keys_of es) i ≡ Some v → (x : X) × (slice_get es i ≡ Some (v, x))
entry_from_key [] i v e = absurd (none-some v e)
entry_from_key (x ∷ es) zero v e = (x.1, ap (λ k. Some (k, x.1)) (same_Some x.0 v e))
entry_from_key (x ∷ es) (suc i) v e = entry_from_key es i v e

-- what the rows are once the value at an index is written
pub sets_at : (es : Entries) (i v : ℕ) (old new : Row) → IsDistinct nat_eq (keys_of es) → slice_get es i ≡ Some (v, old) → Sets es (set_value_at es i new) v (Some new)
sets_at es i v old new unique at = (updates-with_value_at (hash_map {S = Unit {0}} es tt 0) i new nat_eq_equiv unique v old at).0

module _ (width : ℕ) (ins : Ins) (outs : List ℕ) (filled : length outs ≡ width * length ins) (unique : IsDistinct nat_eq (keys_of ins)) (v i : ℕ)
    (index : position (nat_eq v) (keys_of ins) ≡ Some i) where
  pub key : slice_get (keys_of ins) i ≡ Some v
  key = let at = position-Some (nat_eq v) (keys_of ins) i v index in slice_get-get_or (keys_of ins) i v at.0 ∙ ap Some (sym (eqb-true v _ at.1))

  pub within : i < length ins
  within = let at = slice_get_within (keys_of ins) i v key in omega (arith, at, length-keys_of ins)

  -- the row's counters lie inside
  pub inside : width * i + width ≤ length outs
  inside = let rows = mul-le width (suc i) width (length ins) (omega arith) within in omega (arith, rows, next_row width i, filled)

  abbrev pub here : Row
  here = record { ins = (entry_from_key ins i v key).0; outs = take width (drop (width * i) outs) }

  pub at : slice_get (flat_rows width ins outs) i ≡ Some (v, here)
  at = flat_at width ins outs i v (entry_from_key ins i v key).0 (entry_from_key ins i v key).1

  pub keys-unique : IsDistinct nat_eq (keys_of (flat_rows width ins outs))
  keys-unique = subst (IsDistinct nat_eq) (sym (flat-keys width ins outs)) unique

  pub found : Some here ≡ lookup (nat_eq v) (flat_rows width ins outs)
  found = sym (lookup_from_place nat_eq_equiv (flat_rows width ins outs) i v here keys-unique at)

  -- a counter of the row
  pub child : (j : ℕ) → j < length (take width (drop (width * i) outs)) → j < width
  child j low = omega (arith, low, length-take width (drop (width * i) outs))

  pub counter : (j : ℕ) → j < width → slice_index (take width (drop (width * i) outs)) j ≡ slice_index outs (width * i + j)
  counter j low = get_or-take width (drop (width * i) outs) j 0 low ∙ get_or-drop (width * i) outs j 0

  -- what a write to it makes of the rows
  pub sets : (j x : ℕ) → j < width → Sets (flat_rows width ins outs) (flat_rows width ins (slice_set outs (width * i + j) x)) v (Some (record { ins = (entry_from_key ins i v key).0; outs = slice_set (take width (drop (width * i) outs)) j x }))
  sets j x low = subst (λ fs. Sets (flat_rows width ins outs) fs v (Some (record { ins = (entry_from_key ins i v key).0; outs = slice_set (take width (drop (width * i) outs)) j x })))
      (sym (flat-set width ins outs i j x v here low at)) (sets_at (flat_rows width ins outs) i v here _ keys-unique at)

  pub written_counters : (j x : ℕ) → take width (drop (width * i) (slice_set outs (width * i + j) x)) ≡ slice_set (take width (drop (width * i) outs)) j x
  written_counters j x = ap (take width) (drop-set-add (width * i) outs j x) ∙ take-set_within width (drop (width * i) outs) j x

  -- what the end of the row makes of the rows
  pub ends : (d : ℕ × ℕ) → Sets (flat_rows width ins outs) (flat_rows width (swap_remove ins i d) (take (width * (length ins - 1)) (paste outs (width * i) (drop (width * (length ins - 1)) outs) width))) v None
  ends d =
      let es = flat_rows width ins outs in
      let same_index : position (nat_eq v) (keys_of (flat_rows width ins outs)) ≡ Some i = ap (position (nat_eq v)) (flat-keys width ins outs) ∙ index in
      (swap_out nat_eq nat_eq_equiv (nat_eq v) (nat_eq_equiv.congr v) (flat_rows width ins outs) i (v, here) same_index at keys-unique _ (flat-swap_remove width ins outs i d (v, here) within filled)).updated.0

-- ---- the in counter of a vertex

module _ (width : ℕ) (ins : Ins) (outs : List ℕ) (v : ℕ) where
  -- who has no in counter has no row
  pub missing_row : None ≡ lookup (nat_eq v) ins → None ≡ lookup (nat_eq v) (flat_rows width ins outs)
  missing_row missing = by (lookup (nat_eq v) (flat_rows width ins outs)) (flat-lookup width (nat_eq v) ins outs)
    where
      by : (o : Option Row) → option_map (λ (r : Row). r.ins) o ≡ lookup (nat_eq v) ins → None ≡ o
      by None e = refl
      by (Some r) e = absurd (none-some r.ins (missing ∙ sym e))

  -- and who has no row has no in counter
  pub missing_ins : None ≡ lookup (nat_eq v) (flat_rows width ins outs) → lookup (nat_eq v) ins ≡ None
  missing_ins missing = sym (flat-lookup width (nat_eq v) ins outs) ∙ ap (option_map (λ (r : Row). r.ins)) (sym missing)

  -- the row of an in counter
  pub row_of : (n : ℕ) → Some n ≡ lookup (nat_eq v) ins → (r : Row) × (Some r ≡ lookup (nat_eq v) (flat_rows width ins outs)) × (r.ins ≡ n)
  row_of n found = by (lookup (nat_eq v) (flat_rows width ins outs)) refl
    where
      by : (o : Option Row) → lookup (nat_eq v) (flat_rows width ins outs) ≡ o → (r : Row) × (Some r ≡ lookup (nat_eq v) (flat_rows width ins outs)) × (r.ins ≡ n)
      by None e = absurd (none-some n (ap (option_map (λ (r : Row). r.ins)) (sym e) ∙ flat-lookup width (nat_eq v) ins outs ∙ sym found))
      by (Some r) e = (r, sym e, same_Some r.ins n (ap (option_map (λ (r : Row). r.ins)) (sym e) ∙ flat-lookup width (nat_eq v) ins outs ∙ sym found))

  -- what a write to it makes of the rows
  pub ins_written : (ins' : Ins) (m : ℕ) (r : Row) → Some r ≡ lookup (nat_eq v) (flat_rows width ins outs) → ins' ≡ set_value (nat_eq v) ins m →
      Sets (flat_rows width ins outs) (flat_rows width ins' outs) v (Some (record r { ins = m }))
  ins_written ins' m r found e =
      written (flat_rows width ins outs) (flat_rows width ins' outs) v r (record r { ins = m }) found
      (ap (λ l. flat_rows width l outs) e ∙ flat-set_value width (nat_eq v) ins outs m r (sym found))

  -- the same, of a counter that changes by its own value
  pub ins_changed : (ins' : Ins) (n : ℕ) (found : Some n ≡ lookup (nat_eq v) ins) (change : ℕ → ℕ) → ins' ≡ set_value (nat_eq v) ins (change n) →
      Sets (flat_rows width ins outs) (flat_rows width ins' outs) v (Some (record (row_of n found).0 { ins = change (row_of n found).0.ins }))
  ins_changed ins' n found change e =
      let r = row_of n found in
      ins_written ins' (change (row_of n found).0.ins) r.0 r.1 (e ∙ ap (λ k. set_value (nat_eq v) ins (change k)) (sym r.2))

-- who is not found is none
pub none_of : (o : Option ℕ) → false ≡ is_some o → None ≡ o
none_of None e = refl
none_of (Some n) e = absurd (let bad : false ≡ true = e in cc)

-- ---- a row that begins

push_sets : (es : Entries) (v : ℕ) (r : Row) → None ≡ lookup (nat_eq v) es → Sets es (es ++ (v, r) ∷ []) v (Some r)
push_sets [] v r missing q = ap (λ b. cond b (Some r) None) (nat_eq_equiv.symm q v)
push_sets (e ∷ es) v r missing q = by (nat_eq v e.0) refl (push_sets es v r)
  where
    by : (b : Bool) → nat_eq v e.0 ≡ b → (None ≡ lookup (nat_eq v) es → Sets es (es ++ (v, r) ∷ []) v (Some r)) →
        lookup (nat_eq q) ((e ∷ es) ++ (v, r) ∷ []) ≡ cond (nat_eq v q) (Some r) (lookup (nat_eq q) (e ∷ es))
    by true p rest = absurd (none-some e.1 (missing ∙ ap (λ b. cond b (Some e.1) (lookup (nat_eq v) es)) p))
    by false p rest = at (nat_eq q e.0) refl
      where
        at : (b : Bool) → nat_eq q e.0 ≡ b → lookup (nat_eq q) ((e ∷ es) ++ (v, r) ∷ []) ≡ cond (nat_eq v q) (Some r) (lookup (nat_eq q) (e ∷ es))
        at true t = rw t (ap (λ b. cond b (Some r) (Some e.1)) (sym (ap (nat_eq v) (eqb-true q e.0 t) ∙ p)))
        at false t = rw t (rest (missing ∙ ap (λ b. cond b (Some e.1) (lookup (nat_eq v) es)) p) q)

-- rows of one width have every width where there are none
pub width_same : (was width : ℕ) (ins : Ins) (outs : List ℕ) → length outs ≡ was * length ins → HasWidth width (from_entries (flat_rows was ins outs)) →
    (flat_rows was ins outs ≡ flat_rows width ins outs) × (length outs ≡ width * length ins)
width_same was width [] outs filled wide = (refl, filled ∙ no_row was ∙ sym (no_row width))
width_same was width (e ∷ ins) outs filled wide =
    let r = row e.1 (take was outs) in
    let there : get (from_entries (flat_rows was (e ∷ ins) outs)) e.0 ≡ Some (row e.1 (take was outs)) =
    get_found (flat_rows was (e ∷ ins) outs) e.0 ∙ ap (λ b. cond b (Some (row e.1 (take was outs))) (lookup (nat_eq e.0) (flat_rows was ins (drop was outs)))) (nat_eq_equiv.refl e.0) in
    let long = wide e.0 (row e.1 (take was outs)) there in
    let same : was ≡ width = omega (arith, filled, long, length-take was outs, next_row was (length ins)) in
    let P : ℕ → Type 0 = λ w. (flat_rows was (e ∷ ins) outs ≡ flat_rows w (e ∷ ins) outs) × (length outs ≡ w * length (e ∷ ins)) in
    subst P same (refl, filled)

module _ (was width : ℕ) (ins ins' : Ins) (outs outs' : List ℕ) (filled : length outs ≡ was * length ins) (wide : HasWidth width (from_entries (flat_rows was ins outs)))
    (v : ℕ) (missing : None ≡ lookup (nat_eq v) (flat_rows was ins outs)) (more : ins' ≡ ins ++ (v, 1) ∷ []) (more_outs : outs' ≡ outs ++ replicate width 0) where
  pub begun_filled : length outs' ≡ width * length ins'
  begun_filled =
      let before = (width_same was width ins outs filled wide).1 in
      let longer : length outs' ≡ length outs + width = ap length more_outs ∙ length-append outs (replicate width 0) ∙ ap (λ n. length outs + n) (length-replicate {A = ℕ} width 0) in
      let rows : length ins' ≡ suc (length ins) = ap length more ∙ length-append ins ((v, 1) ∷ []) ∙ omega arith in
      longer ∙ ap (λ n. n + width) before ∙ sym (mul-suc width (length ins)) ∙ ap (λ n. width * n) (sym rows)

  pub begun_sets : Sets (flat_rows was ins outs) (flat_rows width ins' outs') v (Some (first_row width))
  begun_sets =
      let same = width_same was width ins outs filled wide in
      let grown : flat_rows width ins' outs' ≡ flat_rows was ins outs ++ (v, first_row width) ∷ [] =
      (λ k. flat_rows width (more k) (more_outs k)) ∙ flat-push width ins outs v same.1 ∙ ap (λ l. l ++ (v, first_row width) ∷ []) (sym same.0) in
      subst (λ fs. Sets (flat_rows was ins outs) fs v (Some (first_row width))) (sym grown) (push_sets (flat_rows was ins outs) v (first_row width) missing)

-- a row begins full where it has no counters
pub first_full : (width : ℕ) → is_full (first_row width) ≡ (width == 0)
first_full zero = refl
first_full (suc n) = sym (ne_eqb (suc n) 0 (λ e. omega (arith, e)))

-- ---- no rows

pub flat_none : (ins : Ins) (outs : List ℕ) → ins ≡ [] → outs ≡ [] → IsFlat 0 ins outs 0
flat_none ins outs no_ins no_outs = record {
  filled = ap length no_outs ∙ (let none : 0 ≡ 0 * length ins = omega arith in none);
  counted = live_of_none (flat_rows 0 ins outs) (ap (λ l. flat_rows 0 l outs) no_ins);
}

-- ---- a row that ends

swap_at : (ins : Ins) (v i : ℕ) → position (nat_eq v) (keys_of ins) ≡ Some i → (d : ℕ × ℕ) × (swap_remove_entry (nat_eq v) ins ≡ swap_remove ins i d)
swap_at [] v i index = absurd (none-some i index)
swap_at (e ∷ es) v i index = (e, ap (λ o. option_map_or (λ k. swap_remove (e ∷ es) k e) o (e ∷ es)) index)

module _ (width : ℕ) (ins : Ins) (outs : List ℕ) (filled : length outs ≡ width * length ins) (unique : IsDistinct nat_eq (keys_of ins)) (v i : ℕ)
    (index : position (nat_eq v) (keys_of ins) ≡ Some i) (ins' : Ins) (less : ins' ≡ swap_remove_entry (nat_eq v) ins) (fewer : length ins' + 1 ≡ length ins)
    (last n : ℕ) (start : last ≡ width * length ins') (all : n ≡ length outs) where
  -- the last row lies behind the others
  pub behind : n ≡ last + width
  behind =
      let rows : width * suc (length ins') ≡ width * length ins = ap (λ k. width * k) (let k : suc (length ins') ≡ length ins = omega (arith, fewer) in k) in
      omega (arith, rows, mul-suc width (length ins'), start, all, filled)

  -- and the row that ends with it, or before
  pub before : width * i + width ≤ n
  before = let low = inside width ins outs filled unique v i index in omega (arith, low, all)

  module _ (outs' : List ℕ) (left : outs' ≡ take last (copy_within outs last n (width * i))) where
    moved : outs' ≡ take (width * (length ins - 1)) (paste outs (width * i) (drop (width * (length ins - 1)) outs) width)
    moved =
        let place : last ≡ width * (length ins - 1) = start ∙ ap (λ k. width * k) (let k : length ins' ≡ length ins - 1 = omega (arith, fewer) in k) in
        let many : n - last ≡ width = let b = behind in omega (arith, b) in
        left ∙ (λ k. take (place k) (paste outs (width * i) (drop (place k) outs) (many k)))

    pub ended_sets : Sets (flat_rows width ins outs) (flat_rows width ins' outs') v None
    ended_sets =
        let d = swap_at ins v i index in
        subst (λ fs. Sets (flat_rows width ins outs) fs v None) (sym (λ k. flat_rows width ((less ∙ d.1) k) (moved k))) (ends width ins outs filled unique v i index d.0)

    pub ended_filled : length outs' ≡ width * length ins'
    ended_filled =
        let b = behind in
        let low = before in
        let long = length-paste outs (width * i) (drop last outs) (n - last) (omega (arith, b, low, all)) (omega (arith, b, all, length-drop last outs)) in
        ap length left ∙ length-take last (copy_within outs last n (width * i)) ∙ (let k : min last (length (copy_within outs last n (width * i))) ≡ last = omega (arith, long, b, all) in k) ∙ start

-- a list made longer by zeros
pub resized : (outs : List ℕ) (n len width : ℕ) → n ≡ length outs → len ≡ n + width → take len outs ++ replicate (len - n) 0 ≡ outs ++ replicate width 0
resized outs n len width all more =
    let longer : length outs ≤ len = omega (arith, all, more) in
    let rest : len - n ≡ width = omega (arith, more) in
    λ k. take_all len outs longer k ++ replicate (rest k) 0
