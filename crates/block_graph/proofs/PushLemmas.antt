-- An entry more in a row.
use Rattle.std.proofs.Common.{◌≡◌, ℕ, zero, suc, ◌+◌, ◌<◌, Bool, true, false, ◌&&◌, Option, Some, None, List, length, refl, sym, ap, ◌∙◌, subst, ⊎_elim, arith}
use Rattle.std.specs.Prelude.{nat_lt, option_map, unwrap_or, IsSome}
use Rattle.std.proofs.lemmas.Bool.{and_parts, cases_lt, lt-ltb, ltb-true, true≢false}
use Rattle.std.proofs.lemmas.List.{length-set}
use Rattle.label_graph.specs.declared.link.RowEntry.{RowEntry}
use Rattle.label_graph.specs.declared.link.Node.{Node}
use Rattle.block_graph.specs.declared.block.Block.{Block}
use Rattle.block_graph.specs.declared.chain.Chain.{Chain}
use Rattle.block_graph.specs.Blocks.{block_at, owner_at, len_of, len_at, next_of, seen_at, row_link, IsBlock, appended}
use Rattle.block_graph.specs.Chains.{chain_at, IsEnd, AreRows}
use Rattle.block_graph.proofs.RowsLemmas.{owner_some, first_owner, rows_first, rows_opened}
use Rattle.block_graph.proofs.SeenLemmas.{append_here, append_others}

module _ (nodes : List (ℕ × Node Chain)) (slots : List (Option Block)) (r : Bool × ℕ) (chain : Chain) (rows : AreRows nodes slots) (is : chain ≡ chain_at nodes r) where
  pub first_block : 0 < chain.blocks → (x : Block) × (block_at slots chain.first ≡ Some x) × ((x.incoming, x.vertex) ≡ r)
  first_block lt =
      let P : Chain → Type 0 = λ c. 0 < c.blocks in
      let Q : Chain → Type 0 = λ c. owner_at slots c.first ≡ Some r in
      owner_some (block_at slots chain.first) r (subst Q (sym is) (first_owner _ _ _ r (chain_at nodes r).blocks (chain_at nodes r).first (rows.row r) (subst P is lt)))

  pub first_stands : 0 < chain.blocks → IsSome (block_at slots chain.first)
  first_stands lt = let x = first_block lt in rw x.1 refl

  -- ---- into the first block
  module _ (slots' : List (Option Block)) (t : RowEntry) (space : nat_lt 0 chain.blocks && nat_lt (len_at slots chain.first) 6 ≡ true) where
    some : 0 < chain.blocks
    some = ltb-true 0 chain.blocks (and_parts (nat_lt 0 chain.blocks) (nat_lt (len_at slots chain.first) 6) space).0

    pub space_stands : IsSome (block_at slots chain.first)
    space_stands = first_stands some

    abbrev x : Block
    x = (first_block some).0

    was : block_at slots chain.first ≡ Some x
    was = (first_block some).1

    own : (x.incoming, x.vertex) ≡ r
    own = (first_block some).2

    short : x.len < 6
    short = let P : Option Block → Type 0 = λ o. len_of o < 6 in subst P was (ltb-true (len_at slots chain.first) 6 (and_parts (nat_lt 0 chain.blocks) (nat_lt (len_at slots chain.first) 6) space).1)

    module _ (made : block_at slots' chain.first ≡ option_map (appended t) (block_at slots chain.first)) (others : (q : ℕ) → (q ≡ chain.first → ⊥) → block_at slots' q ≡ block_at slots q) where
      here : block_at slots' chain.first ≡ Some (appended t x)
      here = made ∙ ap (option_map (appended t)) was

      sound : IsBlock x
      sound = rows.sound chain.first x was

      pub pushed_rows : AreRows nodes slots'
      pushed_rows = rows_first nodes nodes slots slots' r chain.first rows others (λ q n. refl) x (appended t x) was here own own refl
          (record { some = omega arith; fits = let s = short in omega (arith, s); room = length-set x.entries x.len t ∙ sound.room }) (ap (λ (c : Chain). c.first) (sym is)) refl

      number_is : (n : ℕ) → n ≡ len_at slots chain.first → x.len ≡ n
      number_is n e = sym (ap len_of was) ∙ sym e

      pub pushed_here : (n : ℕ) → n ≡ len_at slots chain.first → seen_at slots' (chain.first, n) ≡ Some (r.0, row_link r t)
      pushed_here n e =
          let P : ℕ → Type 0 = λ m. seen_at slots' (chain.first, m) ≡ Some (x.incoming, row_link (x.incoming, x.vertex) t) in
          subst P (number_is n e) (append_here slots slots' chain.first others x t was sound here short) ∙ ap (λ (q : Bool × ℕ). Some (q.0, row_link q t)) own

      pub pushed_others : (n : ℕ) → n ≡ len_at slots chain.first → (a : ℕ × ℕ) → (a ≡ (chain.first, n) → ⊥) → seen_at slots' a ≡ seen_at slots a
      pushed_others n e =
          let P : ℕ → Type 0 = λ m. (a : ℕ × ℕ) → (a ≡ (chain.first, m) → ⊥) → seen_at slots' a ≡ seen_at slots a in
          subst P (number_is n e) (append_others slots slots' chain.first others x t was sound here)

  -- ---- into a new block
  module _ (nodes' : List (ℕ × Node Chain)) (slots' : List (Option Block)) (b : ℕ) (y : Block) (t : RowEntry) (space : nat_lt 0 chain.blocks && nat_lt (len_at slots chain.first) 6 ≡ false)
      (free : block_at slots b ≡ None) (here : block_at slots' b ≡ Some y) (others : (q : ℕ) → (q ≡ b → ⊥) → block_at slots' q ≡ block_at slots q)
      (chains : (q : Bool × ℕ) → (q ≡ r → ⊥) → chain_at nodes' q ≡ chain_at nodes q) (begins : chain_at nodes' r ≡ record { first = b; blocks = chain.blocks + 1 })
      (own : (y.incoming, y.vertex) ≡ r) (one : y.len ≡ 1) (whole : length y.entries ≡ 6) (next : y.next ≡ chain.first) (more : y.more ≡ nat_lt 0 chain.blocks) where
    full : 0 < chain.blocks → len_at slots chain.first ≡ 6
    full lt = by (nat_lt (len_at slots chain.first) 6) refl
      where
        by : (c : Bool) → nat_lt (len_at slots chain.first) 6 ≡ c → len_at slots chain.first ≡ 6
        by true e = absurd (true≢false (sym (rw (lt-ltb 0 chain.blocks lt, e) refl) ∙ space))
        by false e =
            let x = first_block lt in
            let s = rows.sound chain.first x.0 x.1 in
            let f = s.fits in
            let l : len_at slots chain.first ≡ x.0.len = ap len_of x.1 in
            ⊎_elim (λ m. absurd (true≢false (sym (lt-ltb (len_at slots chain.first) 6 m) ∙ e))) (λ ge. omega (arith, ge, f, l)) (cases_lt (len_at slots chain.first) 6)

    ends : (n : ℕ) → chain.blocks ≡ n → IsEnd (next_of (Some y)) n
    ends zero e = rw (more, e) refl
    ends (suc n) e = rw (more ∙ (ap (nat_lt 0) e ∙ lt-ltb 0 (suc n) (omega arith))) refl

    leads : 0 < chain.blocks → unwrap_or (next_of (Some y)) 0 ≡ chain.first
    leads lt = rw (more, lt-ltb 0 chain.blocks lt) next

    pub grown_rows : AreRows nodes' slots'
    grown_rows =
        let P : Chain → Type 0 = λ c. IsEnd (next_of (Some y)) c.blocks in
        let Q : Chain → Type 0 = λ c. 0 < c.blocks → unwrap_or (next_of (Some y)) 0 ≡ c.first in
        let R : Chain → Type 0 = λ c. 0 < c.blocks → len_at slots c.first ≡ 6 in
        let S : Chain → Type 0 = λ c. chain_at nodes' r ≡ record { first = b; blocks = suc c.blocks } in
        let plus : chain_at nodes' r ≡ record { first = b; blocks = suc chain.blocks } = begins ∙ ap (λ (n : ℕ). record { first = b; blocks = n }) (omega arith) in
        rows_opened nodes nodes' slots slots' r b rows others chains y free here own (record { some = omega (arith, one); fits = omega (arith, one); room = whole })
        (subst P is (ends chain.blocks refl)) (subst Q is leads) (subst R is full) (subst S is plus)
