-- The rows of one pattern vertex, as they lie in a map that is found by hashing.
use Rattle.std.proofs.Common.{◌≡◌, ℕ, suc, ◌+◌, ◌-◌, ◌≤◌, Bool, true, false, cond, ltb, List, [], ◌∷◌, length, refl, sym, ap, subst, ◌∙◌, arith}
use Rattle.std.specs.Prelude.{Option, None, Some, is_some, IsSome, IsSomeAnd, nat_eq, ◌==◌, if◌then◌else◌}
use Rattle.std.specs.List.{list_all}
use Rattle.std.specs.Option.{option_map_or}
use Rattle.std.specs.Ordering.{nat_cmp, eq_by_cmp}
use Rattle.std.specs.Cmp.{nat_cmp_total, unsigned_tied, unsigned_ties, nat_eq_equiv}
use Rattle.std.specs.Map.{lookup, set_value}
use Rattle.std.proofs.lemmas.Map.{lookup-set_value}
use Rattle.std.specs.FinMap.{nat_cmp-IsAntisymmetric, get, insert, remove, len, find, from_entries, get-from_entries, get-insert, get-remove, len-insert, len-empty, same_map}
use Rattle.flux_model.specs.Exact.{Row}
use Rattle.dcg_store.specs.Counters.{is_full, fewer_ins, has_last_in}
use Rattle.dcg_store.specs.Moves.{with_changed, with_fewer_ins}
use Rattle.dcg_store.specs.Layers.{Layer, live_in}
use Rattle.dcg_store.proofs.CountLemmas.{bit, count-insert_new, count-insert_found, count-remove, count-le-len, get_inserted, remove-insert}

abbrev pub Entries : Type 0
Entries = List (ℕ × Row)

-- the map of the entries, and the look-up among them
pub get_found : (es : Entries) (v : ℕ) → get (from_entries {R = nat_cmp} es) v ≡ lookup (nat_eq v) es
get_found es v = get-from_entries nat_cmp_total es v ∙ find_is_lookup es
  where
    find_is_lookup : (es : Entries) → find nat_cmp v es ≡ lookup (nat_eq v) es
    find_is_lookup [] = refl
    find_is_lookup (e ∷ es) = λ i. cond (unsigned_tied v e.0 i) (Some e.1) (find_is_lookup es i)

pub len-le-length : (es : Entries) → len (from_entries {R = nat_cmp} es) ≤ length es
len-le-length [] = let none = len-empty nat_cmp Row in omega (arith, none)
len-le-length (e ∷ es) =
    let before = len-le-length es in
    let after = len-insert nat_cmp_total (from_entries es) e.0 e.1 in
    at_most (is_some (get (from_entries es) e.0)) (len (from_entries es)) (length es) (len (from_entries (e ∷ es))) before after
  where
    at_most : (b : Bool) (n most m : ℕ) → n ≤ most → m ≡ cond b n (n + 1) → m ≤ suc most
    at_most true n most m h e = omega (arith, h, e)
    at_most false n most m h e = omega (arith, h, e)

same_key : (v q : ℕ) → nat_eq v q ≡ eq_by_cmp nat_cmp q v
same_key v q = nat_eq_equiv.symm v q ∙ unsigned_ties q v

-- what the map has afterwards: w at v, and at each other key what it had
abbrev pub Sets : Entries → Entries → ℕ → Option Row → Type 0
Sets es fs v w = (q : ℕ) → lookup (nat_eq q) fs ≡ cond (nat_eq v q) w (lookup (nat_eq q) es)

pub written : (es fs : Entries) (v : ℕ) (row next : Row) → Some row ≡ lookup (nat_eq v) es → fs ≡ set_value (nat_eq v) es next → Sets es fs v (Some next)
written es fs v row next found e q =
    ap (lookup (nat_eq q)) e ∙ lookup-set_value nat_eq_equiv (nat_eq v) (λ x y t. nat_eq_equiv.congr v x y t) q next es (ap is_some (sym found))

found_after : (es fs : Entries) (v : ℕ) (w : Option Row) → Sets es fs v w → (q : ℕ) → get (from_entries {R = nat_cmp} fs) q ≡ cond (eq_by_cmp nat_cmp q v) w (get (from_entries {R = nat_cmp} es) q)
found_after es fs v w sets q =
    get_found fs q ∙ sets q ∙ ap (λ b. cond b w (lookup (nat_eq q) es)) (same_key v q)
    ∙ ap (cond (eq_by_cmp nat_cmp q v) w) (sym (get_found es q))

pub inserted : (es fs : Entries) (v : ℕ) (row : Row) → Sets es fs v (Some row) → from_entries {R = nat_cmp} fs ≡ insert (from_entries es) v row
inserted es fs v row sets =
    same_map nat_cmp_total nat_cmp-IsAntisymmetric (from_entries fs) (insert (from_entries es) v row)
    (λ q. found_after es fs v (Some row) sets q ∙ sym (get-insert nat_cmp_total (from_entries es) v row q))

pub removed : (es fs : Entries) (v : ℕ) → Sets es fs v None → from_entries {R = nat_cmp} fs ≡ remove (from_entries es) v
removed es fs v sets =
    same_map nat_cmp_total nat_cmp-IsAntisymmetric (from_entries fs) (remove (from_entries es) v)
    (λ q. found_after es fs v None sets q ∙ sym (get-remove nat_cmp_total (from_entries es) v q))

-- ---- a write seen from the layer, which is the map of the entries

pub get_in : (layer : Layer) (es : Entries) (v : ℕ) (o : Option Row) → from_entries es ≡ layer → o ≡ lookup (nat_eq v) es → get layer v ≡ o
get_in layer es v o view found = ap (λ m. get m v) (sym view) ∙ get_found es v ∙ sym found

pub changed : (change : Row → Row) (layer : Layer) (es fs : Entries) (v : ℕ) (row : Row) → from_entries es ≡ layer → Some row ≡ lookup (nat_eq v) es → Sets es fs v (Some (change row))
    → from_entries fs ≡ with_changed change layer v
changed change layer es fs v row view found sets =
    inserted es fs v (change row) sets ∙ ap (λ m. insert m v (change row)) view
    ∙ ap (λ o. option_map_or (λ r. insert layer v (change r)) o layer) (sym (get_in layer es v (Some row) view found))

pub unchanged : (change : Row → Row) (layer : Layer) (es fs : Entries) (v : ℕ) → from_entries es ≡ layer → None ≡ lookup (nat_eq v) es → fs ≡ es
    → from_entries fs ≡ with_changed change layer v
unchanged change layer es fs v view missing same =
    ap from_entries same ∙ view ∙ ap (λ o. option_map_or (λ r. insert layer v (change r)) o layer) (sym (get_in layer es v None view missing))

-- ---- the count of explicit rows

module _ (es fs : Entries) (v live : ℕ) (counted : live ≡ live_in (from_entries es)) where
  pub live_after_first : (row : Row) (now : ℕ) → None ≡ lookup (nat_eq v) es → Sets es fs v (Some row) → now ≡ bit (is_full row) → live + now ≡ live_in (from_entries fs)
  live_after_first row now missing sets this =
      let all = count-insert_new nat_cmp_total nat_cmp-IsAntisymmetric (λ e. is_full e.1) (from_entries es) v row (get_found es v ∙ sym missing) in
      let here = ap live_in (inserted es fs v row sets) in
      omega (arith, all, here, this, counted)

  pub live_after_last : (row : Row) (was : ℕ) → Some row ≡ lookup (nat_eq v) es → Sets es fs v None → was ≡ bit (is_full row) → was + live_in (from_entries fs) ≡ live
  live_after_last row was found sets this =
      let all = count-remove nat_cmp_total nat_cmp-IsAntisymmetric (λ e. is_full e.1) (from_entries es) v row (get_found es v ∙ sym found) in
      let here = ap live_in (removed es fs v sets) in
      omega (arith, all, here, this, counted)

  pub live_after : (row next : Row) (now was : ℕ) → Some row ≡ lookup (nat_eq v) es → Sets es fs v (Some next) → now ≡ bit (is_full next) → was ≡ bit (is_full row)
      → (was ≤ live) × (live - was + now ≡ live_in (from_entries fs))
  live_after row next now was found sets new old =
      let there = get_found es v ∙ sym found in
      let without = count-remove nat_cmp_total nat_cmp-IsAntisymmetric (λ e. is_full e.1) (from_entries es) v row there in
      let all = count-insert_found nat_cmp_total nat_cmp-IsAntisymmetric (λ e. is_full e.1) (from_entries es) v row next there in
      let here = ap live_in (inserted es fs v next sets) in
      (omega (arith, without, counted, old), omega (arith, without, all, here, counted, new, old))

-- where the out counters stay
pub same_live : (es fs : Entries) (v live : ℕ) → live ≡ live_in (from_entries es) → (row next : Row) → Some row ≡ lookup (nat_eq v) es → Sets es fs v (Some next) → next.outs ≡ row.outs
    → live ≡ live_in (from_entries fs)
same_live es fs v live counted row next found sets outs =
    let after = live_after es fs v live counted row next (bit (is_full next)) (bit (is_full row)) found sets refl refl in
    let same = ap (λ (counters : List ℕ). bit (list_all (ltb 0) counters)) outs in
    omega (arith, after.0, after.1, same)

-- as many explicit rows as entries, at most
pub live-le-length : (es : Entries) → live_in (from_entries es) ≤ length es
live-le-length es =
    let counted = count-le-len nat_cmp_total nat_cmp-IsAntisymmetric (λ e. is_full e.1) (from_entries es) in
    let fewer = len-le-length es in
    omega (arith, counted, fewer)

pub live_of_none : (es : Entries) → es ≡ [] → 0 ≡ live_in (from_entries es)
live_of_none es none =
    let most = live-le-length es in
    let no_length = ap length none in
    omega (arith, most, no_length)

-- the same look-ups, where the layer is known
pub missing_in : (layer : Layer) (es : Entries) (v : ℕ) → from_entries es ≡ layer → get layer v ≡ None → None ≡ lookup (nat_eq v) es
missing_in layer es v view missing = sym missing ∙ ap (λ m. get m v) (sym view) ∙ get_found es v

pub none_there : (layer : Layer) (es : Entries) (v : ℕ) → from_entries es ≡ layer → None ≡ lookup (nat_eq v) es → IsSome (get layer v) → ⊥
none_there layer es v view missing there = let bad : false ≡ true = ap is_some (sym (get_in layer es v None view missing)) ∙ there in absurd (let no_bool : false ≡ true = bad in cc)

pub some_there : (P : Row → Type 0) (layer : Layer) (es : Entries) (v : ℕ) (row : Row) → from_entries es ≡ layer → Some row ≡ lookup (nat_eq v) es → IsSomeAnd (get layer v) P → P row
some_there P layer es v row view found there = subst (λ o. IsSomeAnd o P) (get_in layer es v (Some row) view found) there

pub none_there_and : (P : Row → Type 0) (layer : Layer) (es : Entries) (v : ℕ) → from_entries es ≡ layer → None ≡ lookup (nat_eq v) es → IsSomeAnd (get layer v) P → ⊥
none_there_and P layer es v view missing there = subst (λ o. IsSomeAnd o P) (get_in layer es v None view missing) there

-- ---- the last joint into a row

pub there_after : (P : Row → Type 0) (layer : Layer) (v : ℕ) → IsSomeAnd (get layer v) P → IsSome (get (with_changed fewer_ins layer v) v)
there_after P layer v there = by (get layer v) there refl
  where
    by : (o : Option Row) → IsSomeAnd o P → get layer v ≡ o → IsSome (get (option_map_or (λ row. insert layer v (fewer_ins row)) o layer) v)
    by None h e = absurd h
    by (Some row) h e = ap is_some (get_inserted nat_cmp_total nat_cmp-IsAntisymmetric layer v (fewer_ins row))

pub last_goes : (layer : Layer) (v : ℕ) → has_last_in (get layer v) ≡ true → remove (with_changed fewer_ins layer v) v ≡ with_fewer_ins layer v
last_goes layer v last = by (get layer v) last
  where
    by : (o : Option Row) → has_last_in o ≡ true → remove (option_map_or (λ row. insert layer v (fewer_ins row)) o layer) v ≡ option_map_or (λ row. if row.ins == 1 then remove layer v else insert layer v (fewer_ins row)) o layer
    by None e = absurd (let bad : false ≡ true = e in cc)
    by (Some row) e = remove-insert nat_cmp_total nat_cmp-IsAntisymmetric layer v (fewer_ins row) ∙ ap (λ b. if b then remove layer v else insert layer v (fewer_ins row)) (sym e)
