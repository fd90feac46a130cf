-- One step of a walk along a row.
use Rattle.std.proofs.Common.{◌≡◌, ℕ, zero, suc, ◌+◌, ◌*◌, ◌-◌, ◌<◌, ◌≤◌, Bool, true, false, cond, Option, Some, None, List, [], ◌∷◌, length, get_or, refl, sym, ap, ◌∙◌, subst, inl, arith}
use Rattle.std.specs.Prelude.{IsSome, slice_get}
use Rattle.std.proofs.lemmas.Bool.{lt-ltb}
use Rattle.label_graph.specs.declared.link.Node.{Node}
use Rattle.label_graph.specs.declared.link.RowEntry.{RowEntry}
use Rattle.flux_model.specs.Members.{In}
use Rattle.block_graph.specs.declared.block.Block.{Block}
use Rattle.block_graph.specs.declared.chain.Chain.{Chain}
use Rattle.block_graph.specs.Blocks.{block_at, len_of, next_of, entry_of, len_at, next_at, entry_at, IsBlock}
use Rattle.block_graph.specs.Chains.{chain_at, keys_from, IsLinked, AreRows}
use Rattle.block_graph.specs.Walks.{entries_from, left_from, IsPlace, IsAmongEntries}
use Rattle.block_graph.proofs.ChainLemmas.{to_in, from_in}
use Rattle.block_graph.proofs.RowsLemmas.{owner_some}
use Rattle.block_graph.proofs.WalkLemmas.{Ends, ends_linked, next_among, left_cons, left_over, left_none, length_linked}

get_of : {X : Type 0} (xs : List X) (i : ℕ) (d : X) → i < length xs → slice_get xs i ≡ Some (get_or xs i d)
get_of [] i d lt = absurd (omega (arith, lt))
get_of (x ∷ xs) zero d lt = refl
get_of (x ∷ xs) (suc i) d lt = get_of xs i d (omega (arith, lt))

module _ (nodes : List (ℕ × Node Chain)) (slots : List (Option Block)) (rows : AreRows nodes slots) (r : Bool × ℕ) where
  abbrev n : ℕ
  n = (chain_at nodes r).blocks

  abbrev f : ℕ
  f = (chain_at nodes r).first

  ends : Ends (next_at slots) (chain_at nodes r).blocks (chain_at nodes r).first
  ends = ends_linked (next_at slots) (len_at slots) (chain_at nodes r).blocks (chain_at nodes r).first (rows.row r).linked

  key_stands : (b : ℕ) → In (keys_from (next_at slots) (chain_at nodes r).blocks (chain_at nodes r).first) b → IsSome (block_at slots b)
  key_stands b i = let x = owner_some (block_at slots b) r ((rows.row r).stands b i) in rw x.1 refl

  -- ---- the start of a walk

  module _ (c : Chain) (is : c ≡ chain_at nodes r) (y : Block) (read : block_at slots c.first ≡ Some y) where
    row_length : (m : ℕ) → c.blocks ≡ suc m → 6 * m + y.len ≡ length (entries_from slots (chain_at nodes r).blocks (chain_at nodes r).first)
    row_length m e =
        let P : Chain → Type 0 = λ z. 6 * m + y.len ≡ length (entries_from slots z.blocks z.first) in
        let Q : ℕ → Type 0 = λ b. 6 * m + y.len ≡ length (entries_from slots b c.first) in
        let R : Chain → Type 0 = λ z. IsLinked (next_at slots) (len_at slots) z.blocks z.first in
        let S : ℕ → Type 0 = λ b. IsLinked (next_at slots) (len_at slots) b c.first in
        let T : Chain → Type 0 = λ z. (b : ℕ) → In (keys_from (next_at slots) z.blocks z.first) b → IsSome (block_at slots b) in
        let U : ℕ → Type 0 = λ k. (b : ℕ) → In (keys_from (next_at slots) k c.first) b → IsSome (block_at slots b) in
        let l = length_linked slots rows.sound m c.first (subst S e (subst R (sym is) (rows.row r).linked)) (subst U e (subst T (sym is) key_stands)) in
        let h : len_at slots c.first ≡ y.len = ap len_of read in
        subst P is (subst Q (sym e) (omega (arith, l, h)))

    pub degree_is : 0 < c.blocks → 6 * (c.blocks - 1) + y.len ≡ length (entries_from slots (chain_at nodes r).blocks (chain_at nodes r).first)
    degree_is lt = row_length (c.blocks - 1) (omega (arith, lt))

    head_in : (m g : ℕ) → 0 < m → In (keys_from (next_at slots) m g) g
    head_in zero g lt = absurd (omega (arith, lt))
    head_in (suc m) g lt = inl refl

    pub first_place : 0 < c.blocks → IsPlace slots (chain_at nodes r) c.first y.len
    first_place lt = let P : Chain → Type 0 = λ z. IsPlace slots z c.first y.len in
        subst P is (record {
          among = λ p. from_in (keys_from (next_at slots) c.blocks c.first) c.first (head_in c.blocks c.first lt);
          within = λ p. (let h : len_at slots c.first ≡ y.len = ap len_of read in omega (arith, h));
          end = λ e. absurd (let s = (rows.sound c.first y read).some in omega (arith, e, s));
        })

  -- ---- a step

  module _ (b k : ℕ) (place : IsPlace slots (chain_at nodes r) b k) (some : 0 < k) where
    here : In (keys_from (next_at slots) (chain_at nodes r).blocks (chain_at nodes r).first) b
    here = to_in (keys_from (next_at slots) (chain_at nodes r).blocks (chain_at nodes r).first) b (place.among some)

    module _ (y : Block) (read : block_at slots b ≡ Some y) where
      sound : IsBlock y
      sound = rows.sound b y read

      below : k ≤ y.len
      below = let w = place.within some in let h : len_at slots b ≡ y.len = ap len_of read in omega (arith, w, h)

      pub step_fits : k ≤ 6
      step_fits = let w = below in let f = sound.fits in omega (arith, w, f)

      module _ (d : RowEntry) where
        abbrev t : RowEntry
        t = get_or y.entries (k - 1) d

        step_entry : entry_at slots (b, k - 1) ≡ Some (get_or y.entries (k - 1) d)
        step_entry =
            let w = below in
            let r = sound.room in
            let g = step_fits in
            ap (entry_of (k - 1)) read ∙ (ap (λ (c : Bool). cond c (slice_get y.entries (k - 1)) None) (lt-ltb (k - 1) y.len (omega (arith, w, some))) ∙ get_of y.entries (k - 1) d (omega (arith, g, r, some)))

        pub step_here : left_from slots (chain_at nodes r).blocks (chain_at nodes r).first b k ≡ get_or y.entries (k - 1) d ∷ left_from slots (chain_at nodes r).blocks (chain_at nodes r).first b (k - 1)
        step_here =
            let P : ℕ → Type 0 = λ j. left_from slots (chain_at nodes r).blocks (chain_at nodes r).first b j ≡ get_or y.entries (k - 1) d ∷ left_from slots (chain_at nodes r).blocks (chain_at nodes r).first b (k - 1) in
            let e : suc (k - 1) ≡ k = omega (arith, some) in
            subst P e (left_cons slots (chain_at nodes r).blocks (chain_at nodes r).first b (k - 1) (get_or y.entries (k - 1) d) here step_entry)

        pub step_among : IsAmongEntries slots (chain_at nodes r) (get_or y.entries (k - 1) d)
        step_among = (b, k - 1, place.among some, step_entry)

      -- at the end of the row
      pub step_last : k - 1 ≤ 0 → y.more ≡ false → IsPlace slots (chain_at nodes r) b (k - 1)
      step_last le ended =
          let P : ℕ → Type 0 = λ j. left_from slots (chain_at nodes r).blocks (chain_at nodes r).first b j ≡ [] in
          let e : 0 ≡ k - 1 = omega (arith, le) in
          record {
            among = λ p. place.among some;
            within = λ p. (let w = place.within some in omega (arith, w));
            end = λ p. subst P e (left_none slots (chain_at nodes r).blocks (chain_at nodes r).first b ends here (ap next_of read ∙ ap (λ (m : Bool). cond m (Some y.next) None) ended));
          }

      -- on to the next block
      module _ (more : y.more ≡ true) where
        leads : next_at slots b ≡ Some y.next
        leads = ap next_of read ∙ ap (λ (m : Bool). cond m (Some y.next) None) more

        there : In (keys_from (next_at slots) (chain_at nodes r).blocks (chain_at nodes r).first) y.next
        there = next_among (next_at slots) (chain_at nodes r).blocks (chain_at nodes r).first b y.next ends here leads

        pub next_stands : IsSome (block_at slots y.next)
        next_stands = key_stands y.next there

        module _ (z : Block) (behind : block_at slots y.next ≡ Some z) where
          pub step_over : k - 1 ≤ 0 → (d : RowEntry) → left_from slots (chain_at nodes r).blocks (chain_at nodes r).first b k ≡ get_or y.entries (k - 1) d ∷ left_from slots (chain_at nodes r).blocks (chain_at nodes r).first y.next z.len
          step_over le d =
              let P : ℕ → Type 0 = λ j. left_from slots (chain_at nodes r).blocks (chain_at nodes r).first b j ≡ left_from slots (chain_at nodes r).blocks (chain_at nodes r).first y.next z.len in
              let e : 0 ≡ k - 1 = omega (arith, le) in
              step_here d ∙ ap (λ (l : List RowEntry). get_or y.entries (k - 1) d ∷ l) (subst P e
              (left_over slots (chain_at nodes r).blocks (chain_at nodes r).first b y.next ends (rows.row r).once here leads
              ∙ ap (left_from slots (chain_at nodes r).blocks (chain_at nodes r).first y.next) (ap len_of behind)))

          pub over_place : IsPlace slots (chain_at nodes r) y.next z.len
          over_place = record {
            among = λ p. from_in (keys_from (next_at slots) (chain_at nodes r).blocks (chain_at nodes r).first) y.next there;
            within = λ p. (let h : len_at slots y.next ≡ z.len = ap len_of behind in omega (arith, h));
            end = λ e. absurd (let s = (rows.sound y.next z behind).some in omega (arith, e, s));
          }
