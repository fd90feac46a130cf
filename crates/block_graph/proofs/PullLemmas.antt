-- An entry less in a row.
use Rattle.std.proofs.Common.{◌≡◌, ℕ, zero, suc, ◌-◌, ◌<◌, ◌≤◌, Bool, true, false, cond, Option, Some, None, List, refl, sym, ap, ◌∙◌, subst, arith}
use Rattle.std.specs.Prelude.{nat_lt, nat_eq, option_map, unwrap_or, IsSome, slice_get}
use Rattle.std.specs.Map.{lookup}
use Rattle.std.proofs.lemmas.Bool.{ltb-true, true≢false}
use Rattle.std.proofs.lemmas.Option.{none-some, same_Some}
use Rattle.std.proofs.lemmas.List.{length-set}
use Rattle.label_graph.specs.declared.link.Link.{Link}
use Rattle.label_graph.specs.declared.link.RowEntry.{RowEntry}
use Rattle.label_graph.specs.declared.link.Node.{Node}
use Rattle.flux_model.specs.Members.{In}
use Rattle.block_graph.specs.declared.block.Block.{Block}
use Rattle.block_graph.specs.declared.chain.Chain.{Chain}
use Rattle.block_graph.specs.Blocks.{block_at, owner_of, len_of, len_at, next_of, next_at, entry_of, entry_at, seen_of, seen_at, row_link, IsBlock, shortened, written}
use Rattle.block_graph.specs.Chains.{chain_of, chain_at, keys_from, IsEnd, IsLinked, AreRows}
use Rattle.block_graph.specs.Rows.{row_of, last_of, IsPulled}
use Rattle.block_graph.proofs.RowsLemmas.{rows_first, rows_closed, rows_written}
use Rattle.block_graph.proofs.SeenLemmas.{write_here, write_others}
use Rattle.block_graph.proofs.PushLemmas.{first_block}
use Rattle.block_graph.proofs.ChainLemmas.{to_in}

-- ---- the last entry goes

module _ (nodes nodes' : List (ℕ × Node Chain)) (slots slots' : List (Option Block)) (r : Bool × ℕ) (chain : Chain) (rows : AreRows nodes slots) (is : chain ≡ chain_at nodes r) (some : 0 < chain.blocks) where
  abbrev x : Block
  x = (first_block nodes slots r chain rows is some).0

  was : block_at slots chain.first ≡ Some x
  was = (first_block nodes slots r chain rows is some).1

  own : (x.incoming, x.vertex) ≡ r
  own = (first_block nodes slots r chain rows is some).2

  sound : IsBlock x
  sound = rows.sound chain.first x was

  pub first_fits : (0 < len_at slots chain.first) × (len_at slots chain.first < 7)
  first_fits =
      let l : len_at slots chain.first ≡ x.len = ap len_of was in
      let s = sound.some in
      let f = sound.fits in (omega (arith, l, s), omega (arith, l, f))

  module _ (y : Block) (read : block_at slots chain.first ≡ Some y) where
    same : x ≡ y
    same = same_Some x y (sym was ∙ read)

    module _ (others : (q : ℕ) → (q ≡ chain.first → ⊥) → block_at slots' q ≡ block_at slots q) where
      -- of a block of more than one
      module _ (long : 1 < y.len) (here : block_at slots' chain.first ≡ option_map shortened (block_at slots chain.first)) where
        now : block_at slots' chain.first ≡ Some (shortened x)
        now = here ∙ ap (option_map shortened) was

        long_x : 1 < x.len
        long_x = let P : Block → Type 0 = λ z. 1 < z.len in subst P (sym same) long

        pub shortened_rows : AreRows nodes slots'
        shortened_rows = rows_first nodes nodes slots slots' r chain.first rows others (λ q n. refl) x (shortened x) was now own own refl
            (record { some = let l = long_x in omega (arith, l); fits = let f = sound.fits in omega (arith, f); room = sound.room }) (ap (λ (c : Chain). c.first) (sym is)) refl

      -- with its block
      module _ (short : y.len ≤ 1) (here : block_at slots' chain.first ≡ None) where
        one : x.len ≡ 1
        one = let P : Block → Type 0 = λ z. z.len ≤ 1 in let a = subst P (sym same) short in let s = sound.some in omega (arith, a, s)

        leads : (n : ℕ) → (o : Bool) → IsEnd (cond o (Some x.next) None) n → 0 < n → unwrap_or (cond o (Some x.next) None) 0 ≡ x.next
        leads zero o e lt = absurd (omega arith)
        leads (suc n) true e lt = refl
        leads (suc n) false e lt = absurd (true≢false (sym e))

        count : (n : ℕ) → (chain_at nodes r).blocks ≡ n → 0 < n → (chain_at nodes r).blocks ≡ suc (n - 1)
        count n e lt = omega (arith, e, lt)

        ends : IsEnd (next_of (Some x)) (chain.blocks - 1)
        ends = by (chain_at nodes r).blocks (ap (λ (c : Chain). c.blocks) is) (rows.row r).linked
          where
            by : (n : ℕ) → chain.blocks ≡ n → IsLinked (next_at slots) (len_at slots) n (chain_at nodes r).first → IsEnd (next_of (Some x)) (chain.blocks - 1)
            by zero e l = absurd (let s = some in omega (arith, e, s))
            by (suc n) e l =
                let P : ℕ → Type 0 = λ m. IsEnd (next_of (Some x)) m in
                let Q : Option ℕ → Type 0 = λ o. IsEnd o n in
                let R : ℕ → Type 0 = λ f. IsEnd (next_at slots f) n in
                let m : n ≡ chain.blocks - 1 = omega (arith, e) in
                subst P m (subst Q (ap next_of was) (subst R (ap (λ (c : Chain). c.first) (sym is)) l.0))

        pub closed_rows : (c : Chain) → c.first ≡ y.next → c.blocks ≡ chain.blocks - 1 → ((q : Bool × ℕ) → (q ≡ r → ⊥) → chain_at nodes' q ≡ chain_at nodes q) → chain_at nodes' r ≡ c → AreRows nodes' slots'
        closed_rows c first blocks chains begins =
            rows_closed nodes nodes' slots slots' r chain.first rows others chains x (chain.blocks - 1) x.next was here own (ap (λ (c : Chain). c.first) (sym is))
            (let e : (chain_at nodes r).blocks ≡ chain.blocks = ap (λ (c : Chain). c.blocks) (sym is) in let s = some in omega (arith, e, s))
            (λ lt. leads (chain.blocks - 1) x.more ends lt)
            (begins ∙ chain_is c.first c.blocks x.next (chain.blocks - 1) (first ∙ ap (λ (z : Block). z.next) (sym same)) blocks)
          where
            chain_is : (f n g m : ℕ) → f ≡ g → n ≡ m → ◌≡◌ {A = Chain} (record { first = f; blocks = n }) (record { first = g; blocks = m })
            chain_is f n g m p q = cc

-- ---- a place that a triple has

abbrev true_row : ℕ → Bool × ℕ
true_row n = (true, n)

abbrev false_row : ℕ → Bool × ℕ
false_row n = (false, n)

pub link_row : (o : Bool) (v : ℕ) (t : RowEntry) (s : Bool) (k : Link) → o ≡ s → row_link (o, v) t ≡ k → ◌≡◌ {A = Bool × ℕ} (o, v) (row_of s k)
link_row true v t true k e f = ap (λ (l : Link). true_row l.dst) f
link_row true v t false k e f = absurd (true≢false e)
link_row false v t true k e f = absurd (true≢false (sym e))
link_row false v t false k e f = ap (λ (l : Link). false_row l.src) f

pub seen_block : (o : Option Block) (i : ℕ) (s : Bool) (k : Link) → seen_of i o ≡ Some (s, k) → (x : Block) × (o ≡ Some x) × (◌≡◌ {A = Bool × ℕ} (x.incoming, x.vertex) (row_of s k)) × (i < x.len)
seen_block None i s k e = absurd (none-some (s, k) e)
seen_block (Some x) i s k e = by (nat_lt i x.len) refl e
  where
    entry : (o : Option RowEntry) → option_map {U = Bool × Link} (λ (t : RowEntry). (x.incoming, row_link (x.incoming, x.vertex) t)) o ≡ Some (s, k) → ◌≡◌ {A = Bool × ℕ} (x.incoming, x.vertex) (row_of s k)
    entry None f = absurd (none-some (s, k) f)
    entry (Some t) f =
        let p = same_Some (x.incoming, row_link (x.incoming, x.vertex) t) (s, k) f in
        link_row x.incoming x.vertex t s k (ap (λ (z : Bool × Link). z.0) p) (ap (λ (z : Bool × Link). z.1) p)

    by : (b : Bool) → nat_lt i x.len ≡ b → option_map {U = Bool × Link} (λ (t : RowEntry). (x.incoming, row_link (x.incoming, x.vertex) t)) (cond (nat_lt i x.len) (slice_get x.entries i) None) ≡ Some (s, k) →
        (y : Block) × (Some x ≡ Some y) × (◌≡◌ {A = Bool × ℕ} (y.incoming, y.vertex) (row_of s k)) × (i < y.len)
    by true b f = (x, refl, entry (slice_get x.entries i) (rw b at f), ltb-true i x.len b)
    by false b f = absurd (none-some (s, k) (rw b at f))

chain_stands : (o : Option (Node Chain)) (s : Bool) → 0 < (chain_of s o).blocks → IsSome o
chain_stands None s lt = absurd (omega (arith, lt))
chain_stands (Some p) s lt = refl

in_some : (next : ℕ → Option ℕ) (n f b : ℕ) → In (keys_from next n f) b → 0 < n
in_some next zero f b i = absurd i
in_some next (suc n) f b i = omega arith

pub seen_entry : (r : Bool × ℕ) (o : Option Block) (i : ℕ) (x : Block) (t : RowEntry) → o ≡ Some x → (◌≡◌ {A = Bool × ℕ} (x.incoming, x.vertex) r) → entry_of i o ≡ Some t → seen_of i o ≡ Some (r.0, row_link r t)
seen_entry r None i x t e mine f = absurd (none-some t f)
seen_entry r (Some y) i x t e mine f =
    let same : y ≡ x = same_Some y x e in
    let P : Block → Type 0 = λ z. ◌≡◌ {A = Bool × ℕ} (z.incoming, z.vertex) r in
    ap (option_map (λ (t : RowEntry). (y.incoming, row_link (y.incoming, y.vertex) t))) f ∙ ap (λ (q : Bool × ℕ). Some (q.0, row_link q t)) (subst P (sym same) mine)

module _ (nodes : List (ℕ × Node Chain)) (slots : List (Option Block)) (rows : AreRows nodes slots) (p : ℕ × ℕ) (s : Bool) (k : Link) (seen : seen_at slots p ≡ Some (s, k)) (r : Bool × ℕ) (is : r ≡ row_of s k) where
  pub row_some : 0 < (chain_at nodes r).blocks
  row_some =
      let x = seen_block (block_at slots p.0) p.1 s k seen in
      in_some (next_at slots) (chain_at nodes r).blocks (chain_at nodes r).first p.0 (to_in (keys_from (next_at slots) (chain_at nodes r).blocks (chain_at nodes r).first) p.0 ((rows.row r).all p.0 (ap owner_of x.1 ∙ ap Some (x.2 ∙ sym is))))

  pub vertex_stands : IsSome (lookup (nat_eq r.1) nodes)
  vertex_stands = chain_stands (lookup (nat_eq r.1) nodes) r.0 row_some

  pub chain_some : (c : Chain) → c ≡ chain_at nodes r → 0 < c.blocks
  chain_some c e = let P : Chain → Type 0 = λ z. 0 < z.blocks in subst P (sym e) row_some

  -- the last entry of the row
  pub last_seen : (c : Chain) → c ≡ chain_at nodes r → (l : ℕ × ℕ) → l ≡ last_of nodes slots r → (t : RowEntry) → entry_at slots l ≡ Some t → seen_at slots (last_of nodes slots (row_of s k)) ≡ Some (s, row_link (row_of s k) t)
  last_seen c e l at t read =
      let x = first_block nodes slots r c rows e (chain_some c e) in
      let P : ℕ × ℕ → Type 0 = λ z. entry_at slots z ≡ Some t in
      let Q : Chain → Type 0 = λ z. block_at slots z.first ≡ Some x.0 in
      let R : Bool × ℕ → Type 0 = λ z. seen_at slots (last_of nodes slots z) ≡ Some (z.0, row_link z t) in
      subst R is (seen_entry r (block_at slots (chain_at nodes r).first) (len_at slots (chain_at nodes r).first - 1) x.0 t (subst Q e x.1) x.2 (subst P at read))

pub last_at : (nodes : List (ℕ × Node Chain)) (slots : List (Option Block)) (r q : Bool × ℕ) (c : Chain) (b n : ℕ) → c ≡ chain_at nodes r → r ≡ q → b ≡ c.first → n ≡ len_at slots c.first - 1 → ◌≡◌ {A = ℕ × ℕ} (b, n) (last_of nodes slots q)
last_at nodes slots r q c b n e f g h =
    let P : Chain → Type 0 = λ z. ◌≡◌ {A = ℕ × ℕ} (b, n) (z.first, len_at slots z.first - 1) in
    let Q : Bool × ℕ → Type 0 = λ z. ◌≡◌ {A = ℕ × ℕ} (b, n) (last_of nodes slots z) in
    let two : ◌≡◌ {A = ℕ × ℕ} (b, n) (c.first, len_at slots c.first - 1) = cc in
    subst Q f (subst P e two)

-- ---- another entry at the place

module _ (nodes' : List (ℕ × Node Chain)) (slots slots' : List (Option Block)) (p last : ℕ × ℕ) (s : Bool) (k : Link) (seen : seen_at slots p ≡ Some (s, k)) (apart : p ≡ last → ⊥)
    (rows : AreRows nodes' slots') (gone : seen_at slots' last ≡ None) (others : (a : ℕ × ℕ) → (a ≡ last → ⊥) → seen_at slots' a ≡ seen_at slots a) where
  stands : seen_at slots' p ≡ Some (s, k)
  stands = others p apart ∙ seen

  abbrev z : Block
  z = (seen_block (block_at slots' p.0) p.1 s k stands).0

  there : block_at slots' p.0 ≡ Some z
  there = (seen_block (block_at slots' p.0) p.1 s k stands).1

  row_is : ◌≡◌ {A = Bool × ℕ} (z.incoming, z.vertex) (row_of s k)
  row_is = (seen_block (block_at slots' p.0) p.1 s k stands).2

  below : p.1 < z.len
  below = (seen_block (block_at slots' p.0) p.1 s k stands).3

  pub place_stands : IsSome (block_at slots' p.0)
  place_stands = rw there refl

  pub place_within : p.1 < 6
  place_within = let b = below in let f = (rows.sound p.0 z there).fits in omega (arith, b, f)

  module _ (slots2 : List (Option Block)) (t : RowEntry) (made : block_at slots2 p.0 ≡ option_map (written p.1 t) (block_at slots' p.0)) (rest : (q : ℕ) → (q ≡ p.0 → ⊥) → block_at slots2 q ≡ block_at slots' q) where
    set : block_at slots2 p.0 ≡ Some (written p.1 t z)
    set = made ∙ ap (option_map (written p.1 t)) there

    pub replaced_rows : AreRows nodes' slots2
    replaced_rows =
        let sound = rows.sound p.0 z there in
        rows_written nodes' nodes' slots' slots2 (row_of s k) p.0 rows rest (λ q n. refl) z (written p.1 t z) there set refl refl refl
        (record { some = sound.some; fits = sound.fits; room = length-set z.entries p.1 t ∙ sound.room }) (λ q. refl)

    pub replaced : seen_at slots last ≡ Some (s, row_link (row_of s k) t) → IsPulled p last (seen_at slots) (seen_at slots2)
    replaced was = record {
      gone = write_others slots' slots2 p.0 rest z there (rows.sound p.0 z there) p.1 t below set last (λ e. apart (sym e)) ∙ gone;
      moved = λ n. write_here slots' slots2 p.0 rest z there (rows.sound p.0 z there) p.1 t below set ∙ (ap (λ (q : Bool × ℕ). Some (q.0, row_link q t)) row_is ∙ sym was);
      others = λ a n m. write_others slots' slots2 p.0 rest z there (rows.sound p.0 z there) p.1 t below set a n ∙ others a m;
    }
