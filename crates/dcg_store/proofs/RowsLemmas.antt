-- A change of one layer, seen as a change of all rows.
use Rattle.std.proofs.Common.{◌≡◌, ℕ, zero, suc, ◌+◌, ◌-◌, ◌<◌, Bool, true, false, cond, List, length, replicate, refl, sym, ap, subst, ◌∙◌, arith, length-set}
use Rattle.std.specs.Prelude.{Option, None, Some, unwrap_or, is_some, IsSomeAnd, ◌&&◌, ◌==◌, if◌then◌else◌, slice_index, slice_index_or, slice_set}
use Rattle.std.specs.Option.{option_map_or}
use Rattle.std.specs.Ordering.{eq_by_cmp, nat_cmp}
use Rattle.std.specs.Cmp.{nat_cmp_total, unsigned_tied}
use Rattle.std.specs.FinMap.{FinMap, get, empty, insert, remove, len, get-empty, len-empty, get-insert, get-remove, len-insert, same_map}
use Rattle.std.proofs.lemmas.Bool.{eqb-true, eqb-false}
use Rattle.std.proofs.lemmas.List.{length-replicate, get_or-set_same, get_or-set_other, set-get_or, get_or_read}
use Rattle.flux_model.specs.Exact.{Row, StateRows, pair_cmp, row_at}
use Rattle.dcg_store.specs.Counters.{first_row, more_ins, fewer_ins, more_outs, fewer_outs, has_last_in}
use Rattle.dcg_store.specs.Moves.{with_changed, with_more_ins, with_fewer_ins, in_raised, in_lowered}
use Rattle.dcg_store.specs.SoundRows.{HasSoundRows, IsSoundRow}
use Rattle.dcg_store.specs.Layers.{Layer, HasWidth, rows_of, layer_at, state_rows, IsStored}
use Rattle.dcg_store.proofs.CountLemmas.{bit, insert-remove, insert_found, get_removed}
use Rattle.dcg_store.proofs.PairLemmas.{pair_cmp_total, pair_cmp-IsAntisymmetric, same_pair, get-rows_of}

-- ---- the rows, where one layer is changed at v

module _ (layers : List Layer) (u : ℕ) (inside : u < length layers) (v : ℕ) where
  get-set : (layer : Layer) (w : Option Row) → ((x : ℕ) → get layer x ≡ cond (eq_by_cmp nat_cmp x v) w (get (layer_at layers u) x))
      → (q : ℕ × ℕ) → get (rows_of (slice_set layers u layer)) q ≡ cond (eq_by_cmp pair_cmp q (u, v)) w (get (rows_of layers) q)
  get-set layer w sets q =
      get-rows_of (slice_set layers u layer) q.0 q.1 ∙ by (q.0 == u) refl ∙ sym (λ i. cond (same_pair q (u, v) i) w (get-rows_of layers q.0 q.1 i))
    where
      by : (b : Bool) → (q.0 == u) ≡ b → get (layer_at (slice_set layers u layer) q.0) q.1 ≡ cond (b && q.1 == v) w (get (layer_at layers q.0) q.1)
      by true e =
          let here = eqb-true q.0 u e in
          ap (λ x. get (layer_at (slice_set layers u layer) x) q.1) here ∙ ap (λ l. get l q.1) (get_or-set_same layers u layer empty inside) ∙ sets q.1
          ∙ ap (λ b. cond b w (get (layer_at layers u) q.1)) (unsigned_tied q.1 v) ∙ ap (λ x. cond (q.1 == v) w (get (layer_at layers x) q.1)) (sym here)
      by false e = ap (λ l. get l q.1) (get_or-set_other layers u q.0 layer empty (eqb-false q.0 u e))

  pub rows-insert : (row : Row) → rows_of (slice_set layers u (insert (layer_at layers u) v row)) ≡ insert (rows_of layers) (u, v) row
  rows-insert row =
      same_map pair_cmp_total pair_cmp-IsAntisymmetric _ _
      (λ q. get-set (insert (layer_at layers u) v row) (Some row) (λ x. get-insert nat_cmp_total (layer_at layers u) v row x) q ∙ sym (get-insert pair_cmp_total (rows_of layers) (u, v) row q))

  pub rows-remove : rows_of (slice_set layers u (remove (layer_at layers u) v)) ≡ remove (rows_of layers) (u, v)
  rows-remove =
      same_map pair_cmp_total pair_cmp-IsAntisymmetric _ _
      (λ q. get-set (remove (layer_at layers u) v) None (λ x. get-remove nat_cmp_total (layer_at layers u) v x) q ∙ sym (get-remove pair_cmp_total (rows_of layers) (u, v) q))

  pub rows-changed : (change : Row → Row) → rows_of (slice_set layers u (with_changed change (layer_at layers u) v)) ≡ with_changed change (rows_of layers) (u, v)
  rows-changed change =
      by (get (layer_at layers u) v) ∙ ap (λ o. option_map_or (λ row. insert (rows_of layers) (u, v) (change row)) o (rows_of layers)) (sym (get-rows_of layers u v))
    where
      by : (o : Option Row) → rows_of (slice_set layers u (option_map_or (λ row. insert (layer_at layers u) v (change row)) o (layer_at layers u)))
          ≡ option_map_or (λ row. insert (rows_of layers) (u, v) (change row)) o (rows_of layers)
      by None = ap rows_of (set-get_or layers u empty)
      by (Some row) = rows-insert (change row)

  pub rows-fewer_ins : rows_of (slice_set layers u (with_fewer_ins (layer_at layers u) v)) ≡ with_fewer_ins (rows_of layers) (u, v)
  rows-fewer_ins =
      by (get (layer_at layers u) v)
      ∙ ap (λ o. option_map_or (λ row. if row.ins == 1 then remove (rows_of layers) (u, v) else insert (rows_of layers) (u, v) (fewer_ins row)) o (rows_of layers)) (sym (get-rows_of layers u v))
    where
      either : (b : Bool) (row : Row) → rows_of (slice_set layers u (if b then remove (layer_at layers u) v else insert (layer_at layers u) v row))
          ≡ (if b then remove (rows_of layers) (u, v) else insert (rows_of layers) (u, v) row)
      either true row = rows-remove
      either false row = rows-insert row

      by : (o : Option Row) → rows_of (slice_set layers u (option_map_or (λ row. if row.ins == 1 then remove (layer_at layers u) v else insert (layer_at layers u) v (fewer_ins row)) o (layer_at layers u)))
          ≡ option_map_or (λ row. if row.ins == 1 then remove (rows_of layers) (u, v) else insert (rows_of layers) (u, v) (fewer_ins row)) o (rows_of layers)
      by None = ap rows_of (set-get_or layers u empty)
      by (Some row) = either (row.ins == 1) (fewer_ins row)

-- ---- each row stays as it has to be

same_some : (row r : Row) → Some row ≡ Some r → row ≡ r
same_some row r e = ap (λ o. unwrap_or o row) e

no_some : {A : Type 0} (r : Row) → None ≡ Some r → A
no_some r e = absurd (let bad : false ≡ true = ap is_some e in cc)

module _ (d : StateRows) (kept : HasSoundRows d) (u v : ℕ) where
  kept-insert : (row : Row) → IsSoundRow d.children u row → HasSoundRows (record d { rows = insert d.rows (u, v) row })
  kept-insert row new = record { rows = λ x y r e. at x y r (x == u) (y == v) refl (ap (λ b. cond b (Some row) (get d.rows (x, y))) (sym (same_pair (x, y) (u, v))) ∙ sym (get-insert pair_cmp_total d.rows (u, v) row (x, y)) ∙ e) }
    where
      at : (x y : ℕ) (r : Row) (a b : Bool) → (x == u) ≡ a → cond (a && b) (Some row) (get d.rows (x, y)) ≡ Some r → IsSoundRow d.children x r
      at x y r true true p e = subst (λ z. IsSoundRow d.children z r) (sym (eqb-true x u p)) (subst (λ z. IsSoundRow d.children u z) (same_some row r e) new)
      at x y r true false p e = kept.rows x y r e
      at x y r false b p e = kept.rows x y r e

  kept-remove : HasSoundRows (record d { rows = remove d.rows (u, v) })
  kept-remove = record { rows = λ x y r e. at x y r (eq_by_cmp pair_cmp (x, y) (u, v)) (sym (get-remove pair_cmp_total d.rows (u, v) (x, y)) ∙ e) }
    where
      at : (x y : ℕ) (r : Row) (b : Bool) → cond b None (get d.rows (x, y)) ≡ Some r → IsSoundRow d.children x r
      at x y r true e = no_some r e
      at x y r false e = kept.rows x y r e

  kept-changed : (change : Row → Row) → ((row : Row) → IsSoundRow d.children u row → IsSoundRow d.children u (change row)) → HasSoundRows (record d { rows = with_changed change d.rows (u, v) })
  kept-changed change keeps = at (get d.rows (u, v)) refl
    where
      at : (o : Option Row) → get d.rows (u, v) ≡ o → HasSoundRows (record d { rows = option_map_or (λ row. insert d.rows (u, v) (change row)) o d.rows })
      at None e = kept
      at (Some row) e = kept-insert (change row) (keeps row (kept.rows u v row e))

  kept-fewer_ins : HasSoundRows (record d { rows = with_fewer_ins d.rows (u, v) })
  kept-fewer_ins = at (get d.rows (u, v)) refl
    where
      either : (row : Row) (b : Bool) → (row.ins == 1) ≡ b → IsSoundRow d.children u row → HasSoundRows (record d { rows = if b then remove d.rows (u, v) else insert d.rows (u, v) (fewer_ins row) })
      either row true e this = kept-remove
      either row false e this =
          let more = eqb-false row.ins 1 e in
          kept-insert (fewer_ins row) (record { inside = this.inside; has_ins = omega (arith, this.has_ins, more); width = this.width })

      at : (o : Option Row) → get d.rows (u, v) ≡ o → HasSoundRows (record d { rows = option_map_or (λ row. if row.ins == 1 then remove d.rows (u, v) else insert d.rows (u, v) (fewer_ins row)) o d.rows })
      at None e = kept
      at (Some row) e = either row (row.ins == 1) refl (kept.rows u v row e)

-- ---- how many rows there are

len-changed : (change : Row → Row) (rows : FinMap pair_cmp Row) (k : ℕ × ℕ) → len (with_changed change rows k) ≡ len rows
len-changed change rows k = at (get rows k) refl
  where
    at : (o : Option Row) → get rows k ≡ o → len (option_map_or (λ row. insert rows k (change row)) o rows) ≡ len rows
    at None e = refl
    at (Some row) e = len-insert pair_cmp_total rows k (change row) ∙ ap (λ o. cond (is_some o) (len rows) (len rows + 1)) e

len-first : (rows : FinMap pair_cmp Row) (k : ℕ × ℕ) (row : Row) → get rows k ≡ None → len (insert rows k row) ≡ len rows + 1
len-first rows k row missing = len-insert pair_cmp_total rows k row ∙ ap (λ o. cond (is_some o) (len rows) (len rows + 1)) missing

len-last : (rows : FinMap pair_cmp Row) (k : ℕ × ℕ) (row : Row) → get rows k ≡ Some row → len rows ≡ len (remove rows k) + 1
len-last rows k row there =
    ap len (sym (insert-remove pair_cmp_total pair_cmp-IsAntisymmetric rows k row ∙ insert_found pair_cmp_total pair_cmp-IsAntisymmetric rows k row there))
    ∙ len-first (remove rows k) k row (get_removed pair_cmp_total pair_cmp-IsAntisymmetric rows k)

len-fewer_ins : (rows : FinMap pair_cmp Row) (k : ℕ × ℕ) → len rows ≡ len (with_fewer_ins rows k) + bit (has_last_in (get rows k))
len-fewer_ins rows k = at (get rows k) refl
  where
    either : (row : Row) (b : Bool) → get rows k ≡ Some row → len rows ≡ len (if b then remove rows k else insert rows k (fewer_ins row)) + bit b
    either row true e = len-last rows k row e
    either row false e = let same = len-insert pair_cmp_total rows k (fewer_ins row) ∙ ap (λ o. cond (is_some o) (len rows) (len rows + 1)) e in omega (arith, same)

    at : (o : Option Row) → get rows k ≡ o → len rows ≡ len (option_map_or (λ row. if row.ins == 1 then remove rows k else insert rows k (fewer_ins row)) o rows) + bit (has_last_in o)
    at None e = omega arith
    at (Some row) e = either row (row.ins == 1) e

-- ---- all of it, after each move

module _ (broken : Bool) (children : List ℕ) (layers : List Layer) (stored : ℕ) (sound : IsStored layers stored (state_rows broken children layers)) (u v : ℕ) (inside : u < length children) where
  in_layers : u < length layers
  in_layers = omega (arith, inside, sound.each)

  abbrev with_rows : FinMap pair_cmp Row → StateRows
  with_rows rows = record { is_broken = broken; children = children; rows = rows }

  -- the layers ls and the number n of rows are those of these rows
  abbrev pub Holds : List Layer → ℕ → FinMap pair_cmp Row → Type 0
  Holds ls n rows = (state_rows broken children ls ≡ record { is_broken = broken; children = children; rows = rows }) × IsStored ls n (state_rows broken children ls)

  holds : (ls : List Layer) (layer : Layer) (n : ℕ) (rows : FinMap pair_cmp Row) → ls ≡ slice_set layers u layer → rows_of ls ≡ rows → n ≡ len rows → HasSoundRows (with_rows rows) → Holds ls n rows
  holds ls layer n rows set same count kept =
      (ap with_rows same, record { each = ap length set ∙ length-set layers u layer ∙ sound.each; counted = count ∙ ap len (sym same); kept = subst (λ r. HasSoundRows (with_rows r)) (sym same) kept })

  pub holds-changed : (change : Row → Row) → ((row : Row) → IsSoundRow children u row → IsSoundRow children u (change row)) → (ls : List Layer)
      → ls ≡ slice_set layers u (with_changed change (layer_at layers u) v) → Holds ls stored (with_changed change (rows_of layers) (u, v))
  holds-changed change keeps ls set =
      holds ls (with_changed change (layer_at layers u) v) stored (with_changed change (rows_of layers) (u, v)) set (ap rows_of set ∙ rows-changed layers u in_layers v change)
      (sound.counted ∙ sym (len-changed change (rows_of layers) (u, v))) (kept-changed (with_rows (rows_of layers)) sound.kept u v change keeps)

  pub holds-first : get (rows_of layers) (u, v) ≡ None → (ls : List Layer) (n : ℕ) → n ≡ stored + 1 → ls ≡ slice_set layers u (insert (layer_at layers u) v (first_row (slice_index children u)))
      → Holds ls n (with_more_ins (slice_index children u) (rows_of layers) (u, v))
  holds-first missing ls n more set =
      let row = first_row (slice_index children u) in
      let new : IsSoundRow children u row = record { inside = inside; has_ins = omega arith; width = length-replicate (slice_index children u) 0 } in
      subst (Holds ls n) (ap (λ o. insert (rows_of layers) (u, v) (option_map_or more_ins o row)) (sym missing))
      (holds ls (insert (layer_at layers u) v row) n (insert (rows_of layers) (u, v) row) set (ap rows_of set ∙ rows-insert layers u in_layers v row)
      (more ∙ ap (λ m. m + 1) sound.counted ∙ sym (len-first (rows_of layers) (u, v) row missing)) (kept-insert (with_rows (rows_of layers)) sound.kept u v row new))

  pub holds-fewer_ins : (ls : List Layer) (n : ℕ) → stored ≡ n + bit (has_last_in (get (rows_of layers) (u, v))) → ls ≡ slice_set layers u (with_fewer_ins (layer_at layers u) v)
      → Holds ls n (with_fewer_ins (rows_of layers) (u, v))
  holds-fewer_ins ls n fewer set =
      let counts = len-fewer_ins (rows_of layers) (u, v) in
      holds ls (with_fewer_ins (layer_at layers u) v) n (with_fewer_ins (rows_of layers) (u, v)) set (ap rows_of set ∙ rows-fewer_ins layers u in_layers v)
      (omega (arith, counts, fewer, sound.counted)) (kept-fewer_ins (with_rows (rows_of layers)) sound.kept u v)

  -- a row that goes was counted
  pub some-stored : has_last_in (get (rows_of layers) (u, v)) ≡ true → 0 < stored
  some-stored last =
      let counts = len-fewer_ins (rows_of layers) (u, v) in
      let one = ap bit last in
      omega (arith, counts, one, sound.counted)

-- ---- what a move keeps

pub keeps-more_ins : (children : List ℕ) (u : ℕ) (row : Row) → IsSoundRow children u row → IsSoundRow children u (more_ins row)
keeps-more_ins children u row this = record { inside = this.inside; has_ins = omega arith; width = this.width }

pub keeps-more_outs : (j : ℕ) (children : List ℕ) (u : ℕ) (row : Row) → IsSoundRow children u row → IsSoundRow children u (more_outs j row)
keeps-more_outs j children u row this = record { inside = this.inside; has_ins = this.has_ins; width = length-set row.outs j (slice_index row.outs j + 1) ∙ this.width }

pub keeps-fewer_outs : (j : ℕ) (children : List ℕ) (u : ℕ) (row : Row) → IsSoundRow children u row → IsSoundRow children u (fewer_outs j row)
keeps-fewer_outs j children u row this = record { inside = this.inside; has_ins = this.has_ins; width = length-set row.outs j (slice_index row.outs j - 1) ∙ this.width }

-- where there is a row, none begins
pub raised_found : (width : ℕ) (rows : FinMap pair_cmp Row) (k : ℕ × ℕ) → is_some (get rows k) ≡ true → with_changed more_ins rows k ≡ with_more_ins width rows k
raised_found width rows k there = at (get rows k) there
  where
    at : (o : Option Row) → is_some o ≡ true → option_map_or (λ row. insert rows k (more_ins row)) o rows ≡ insert rows k (option_map_or more_ins o (first_row width))
    at None e = absurd (let bad : false ≡ true = e in cc)
    at (Some row) e = refl

pub raised_missing : (rows : FinMap pair_cmp Row) (k : ℕ × ℕ) → is_some (get rows k) ≡ false → with_changed more_ins rows k ≡ rows
raised_missing rows k missing = at (get rows k) missing
  where
    at : (o : Option Row) → is_some o ≡ false → option_map_or (λ row. insert rows k (more_ins row)) o rows ≡ rows
    at None e = refl
    at (Some row) e = absurd (let bad : true ≡ false = e in cc)

pub none_from : (o : Option Row) → is_some o ≡ false → o ≡ None
none_from None e = refl
none_from (Some row) e = absurd (let bad : true ≡ false = e in cc)

abbrev changed_at : (Row → Row) → ℕ → ℕ → StateRows → StateRows
changed_at change u v d = record d { rows = with_changed change d.rows (u, v) }

abbrev pub begun : List ℕ → FinMap pair_cmp Row → StateRows
begun children rows = record { is_broken = false; children = children; rows = rows }

abbrev pub with_rows_of : StateRows → FinMap pair_cmp Row → StateRows
with_rows_of d rows = record d { rows = rows }

-- ---- from what a contract sees

module _ (broken : Bool) (children : List ℕ) (layers : List Layer) (stored : ℕ) (d : StateRows) (view : state_rows broken children layers ≡ d) (sound : IsStored layers stored (state_rows broken children layers)) (u : ℕ) (vertex : u < length d.children) where
  pub in_children : u < length children
  in_children = let same = ap (λ e. length e.children) view in omega (arith, vertex, same)

  -- what is read of the layers at u
  pub layer_read : (layer : Layer) → layer ≡ slice_index_or layers u layer → layer ≡ layer_at layers u
  layer_read layer read = get_or_read layers u layer (in_layers broken children layers stored sound u 0 in_children) read empty

  pub row_read : (layer : Layer) (v : ℕ) → layer ≡ slice_index_or layers u layer → get layer v ≡ row_at d u v
  row_read layer v read = ap (λ l. get l v) (layer_read layer read) ∙ sym (get-rows_of layers u v) ∙ ap (λ e. row_at e u v) view

  kept_row : (v : ℕ) (row : Row) → row_at d u v ≡ Some row → IsSoundRow children u row
  kept_row v row there = sound.kept.rows u v row (ap (λ e. row_at e u v) view ∙ there)

  -- the rows of the layer have a counter for each child
  pub has_width : (layer : Layer) (width : ℕ) → layer ≡ slice_index_or layers u layer → width ≡ slice_index children u → HasWidth width layer
  has_width layer width read own v row there = (kept_row v row (sym (row_read layer v read) ∙ there)).width ∙ sym own

  -- a row that is there allows what a kept row does
  pub allows : (P Q : Row → Type 0) → ((row : Row) → IsSoundRow children u row → P row → Q row) → (layer : Layer) (v : ℕ) → layer ≡ slice_index_or layers u layer → IsSomeAnd (row_at d u v) P → IsSomeAnd (get layer v) Q
  allows P Q turns layer v read there = subst (λ o. IsSomeAnd o Q) (sym (row_read layer v read)) (at (row_at d u v) refl there)
    where
      at : (o : Option Row) → row_at d u v ≡ o → IsSomeAnd o P → IsSomeAnd o Q
      at None e h = h
      at (Some row) e h = turns row (kept_row v row e) h

  -- the layers with another one at u, and the number n of rows, are those of these rows
  abbrev pub Changes : Layer → ℕ → FinMap pair_cmp Row → Type 0
  Changes layer n rows =
      (state_rows broken children (slice_set layers u layer) ≡ record d { rows = rows }) × IsStored (slice_set layers u layer) n (state_rows broken children (slice_set layers u layer))

  pub moves-changed : (change : Row → Row) → ((row : Row) → IsSoundRow children u row → IsSoundRow children u (change row)) → (v : ℕ) (layer after : Layer)
      → layer ≡ slice_index_or layers u layer → after ≡ with_changed change layer v → Changes after stored (with_changed change d.rows (u, v))
  moves-changed change keeps v layer after read e =
      let done = holds-changed broken children layers stored sound u v in_children change keeps (slice_set layers u after) (ap (slice_set layers u) (e ∙ ap (λ l. with_changed change l v) (layer_read layer read))) in
      (done.0 ∙ ap (changed_at change u v) view, done.1)

  pub moves-first : (v : ℕ) (layer after : Layer) (n : ℕ) → row_at d u v ≡ None → layer ≡ slice_index_or layers u layer → n ≡ stored + 1 → after ≡ insert layer v (first_row (slice_index children u))
      → Changes after n (with_more_ins (slice_index d.children u) d.rows (u, v))
  moves-first v layer after n missing read more e =
      let done = holds-first broken children layers stored sound u v in_children (ap (λ r. row_at r u v) view ∙ missing) (slice_set layers u after) n more
      (ap (slice_set layers u) (e ∙ ap (λ l. insert l v (first_row (slice_index children u))) (layer_read layer read))) in
      (done.0 ∙ ap (λ r. in_raised r u v) view, done.1)

  -- where `gone` says whether the row has gone
  pub moves-fewer_ins : (v : ℕ) (layer after : Layer) (n : ℕ) (gone : Bool) → layer ≡ slice_index_or layers u layer → gone ≡ has_last_in (get layer v) → stored ≡ n + bit gone → after ≡ with_fewer_ins layer v
      → Changes after n (with_fewer_ins d.rows (u, v))
  moves-fewer_ins v layer after n gone read last fewer e =
      let tells = last ∙ ap has_last_in (row_read layer v read ∙ ap (λ r. row_at r u v) (sym view)) in
      let done = holds-fewer_ins broken children layers stored sound u v in_children (slice_set layers u after) n (fewer ∙ ap (λ b. n + bit b) tells)
      (ap (slice_set layers u) (e ∙ ap (λ l. with_fewer_ins l v) (layer_read layer read))) in
      (done.0 ∙ ap (λ r. in_lowered r u v) view, done.1)

  -- a row that goes was counted
  pub was_stored : (v : ℕ) (layer : Layer) → layer ≡ slice_index_or layers u layer → has_last_in (get layer v) ≡ true → 0 < stored
  was_stored v layer read last =
      some-stored broken children layers stored sound u v in_children (ap (λ r. has_last_in (row_at r u v)) view ∙ ap has_last_in (sym (row_read layer v read)) ∙ last)

-- ---- no rows

layer_of_none : (n i : ℕ) → layer_at (replicate n empty) i ≡ empty
layer_of_none zero i = refl
layer_of_none (suc n) zero = refl
layer_of_none (suc n) (suc i) = layer_of_none n i

pub rows_of-none : (n : ℕ) → rows_of (replicate n empty) ≡ empty
rows_of-none n =
    same_map pair_cmp_total pair_cmp-IsAntisymmetric (rows_of (replicate n empty)) empty
    (λ q. get-rows_of (replicate n empty) q.0 q.1 ∙ ap (λ l. get l q.1) (layer_of_none n q.0) ∙ get-empty nat_cmp q.1 ∙ sym (get-empty pair_cmp q))

-- the layers of a store that begins
pub begins : (children : List ℕ) (layers : List Layer) (n : ℕ) → n ≡ length children → layers ≡ replicate n empty
    → (state_rows false children layers ≡ record { is_broken = false; children = children; rows = empty }) × IsStored layers 0 (state_rows false children layers)
begins children layers n same none =
    let no_rows = ap rows_of none ∙ rows_of-none n in (
      ap (begun children) no_rows,
      record {
        each = ap length none ∙ length-replicate n empty ∙ same;
        counted = sym (ap len no_rows ∙ len-empty pair_cmp Row);
        kept = record { rows = λ u v row e. no_some row (sym (ap (λ rows. get rows (u, v)) no_rows ∙ get-empty pair_cmp (u, v)) ∙ e) };
      },
    )
