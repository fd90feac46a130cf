-- Vertices that come and go, and rows that stay.
use Rattle.std.proofs.Common.{◌≡◌, ℕ, zero, suc, ◌<◌, Bool, true, false, ◌||◌, cond, Option, Some, None, List, map, refl, sym, ap, ◌∙◌, subst, ⊎_elim, ◌⊎◌, inl, inr, arith}
use Rattle.std.specs.Prelude.{◌==◌, nat_eq, nat_lt, is_some}
use Rattle.std.specs.Map.{lookup, keys_of}
use Rattle.std.specs.List.{list_any}
use Rattle.std.proofs.lemmas.Bool.{eq-eqb, eqb-true, true≢false, lt-ltb, ltb-true}
use Rattle.flux_model.specs.Graph.{has_incident_triple}
use Rattle.flux_model.specs.declared.graph.Vertex.{Vertex}
use Rattle.label_graph.specs.declared.link.Link.{Link}
use Rattle.label_graph.specs.declared.link.RowEntry.{RowEntry}
use Rattle.label_graph.specs.declared.link.Node.{Node}
use Rattle.label_graph.specs.declared.link.Places.{Places}
use Rattle.label_graph.specs.declared.names.Name.{Name}
use Rattle.label_graph.specs.Names.{slot}
use Rattle.flux_model.specs.Members.{In}
use Rattle.label_graph.specs.Store.{triple_of, kept_graph}
use Rattle.label_graph.proofs.SameLemmas.{same_entries}
use Rattle.flux_model.proofs.MemberLemmas.{in_any, any_in}
use Rattle.label_graph.proofs.FullLemmas.{none_from}
use Rattle.label_graph.proofs.VertexNodeLemmas.{is_end, incident_links, or_false}
use Rattle.block_graph.specs.declared.block.Block.{Block}
use Rattle.block_graph.specs.declared.chain.Chain.{Chain}
use Rattle.block_graph.specs.declared.row.Place.{Place}
use Rattle.block_graph.specs.Blocks.{block_at, owner_at, len_at, next_at, row_link}
use Rattle.block_graph.specs.Chains.{no_chain, chain_of, chain_at, keys_from, IsRow, AreRows}
use Rattle.block_graph.specs.Places.{ArePlaced}
use Rattle.block_graph.specs.Walks.{entries_from, left_from}
use Rattle.block_graph.proofs.RowsLemmas.{owner_some, first_owner}
use Rattle.block_graph.proofs.SideRowLemmas.{row_entries, row_stands, row_found}
use Rattle.block_graph.proofs.WalkLemmas.{block_entry, place_entry}

-- ---- rows that stay

-- a row of no blocks, wherever it begins
row_zero : (owner : ℕ → Option (Bool × ℕ)) (next : ℕ → Option ℕ) (len : ℕ → ℕ) (r : Bool × ℕ) (n f g : ℕ) → n ≡ 0 → IsRow owner next len r n f → IsRow owner next len r 0 g
row_zero owner next len r n f g e h =
    let P : ℕ → Type 0 = λ m. IsRow owner next len r m f in
    let z : IsRow owner next len r 0 f = subst P e h in
    record { stands = z.stands; all = z.all; once = z.once; linked = z.linked }

module _ (es fs : List (ℕ × Node Chain)) (slots : List (Option Block)) (same : (r : Bool × ℕ) → (chain_at fs r ≡ chain_at es r) ⊎ (((chain_at fs r).blocks ≡ 0) × ((chain_at es r).blocks ≡ 0))) where
  rows_kept : AreRows es slots → AreRows fs slots
  rows_kept h = record {
    sound = h.sound;
    row = λ r. ⊎_elim
        (λ e. (let P : Chain → Type 0 = λ c. IsRow (owner_at slots) (next_at slots) (len_at slots) r c.blocks c.first in subst P (sym e) (h.row r)))
        (λ z. (let P : ℕ → Type 0 = λ n. IsRow (owner_at slots) (next_at slots) (len_at slots) r n (chain_at fs r).first in
        subst P (sym z.0) (row_zero (owner_at slots) (next_at slots) (len_at slots) r (chain_at es r).blocks (chain_at es r).first (chain_at fs r).first z.1 (h.row r)))) (same r);
  }

  pub placed_kept : (places : List (Link × Places Place)) → ArePlaced es slots places → ArePlaced fs slots places
  placed_kept places h = record { rows = rows_kept h.rows; placed = h.placed }

no_blocks : (n : ℕ) → nat_lt 0 n ≡ false → n ≡ 0
no_blocks zero e = refl
no_blocks (suc n) e = absurd (true≢false (sym (lt-ltb 0 (suc n) (omega arith)) ∙ e))

module _ (id : ℕ) (es fs : List (ℕ × Node Chain)) where
  -- a vertex less
  pub chains_left : ((q : ℕ) → lookup (nat_eq q) fs ≡ cond (nat_eq id q) None (lookup (nat_eq q) es)) → nat_lt 0 (chain_at es (false, id)).blocks || nat_lt 0 (chain_at es (true, id)).blocks ≡ false →
      (r : Bool × ℕ) → (chain_at fs r ≡ chain_at es r) ⊎ (((chain_at fs r).blocks ≡ 0) × ((chain_at es r).blocks ≡ 0))
  chains_left set idle r = by r.0 (nat_eq id r.1) refl
    where
      none : (s : Bool) → (chain_at es (s, id)).blocks ≡ 0
      none true = no_blocks (chain_at es (true, id)).blocks (or_false (nat_lt 0 (chain_at es (false, id)).blocks) (nat_lt 0 (chain_at es (true, id)).blocks) idle).1
      none false = no_blocks (chain_at es (false, id)).blocks (or_false (nat_lt 0 (chain_at es (false, id)).blocks) (nat_lt 0 (chain_at es (true, id)).blocks) idle).0

      by : (s b : Bool) → nat_eq id r.1 ≡ b → (chain_at fs (s, r.1) ≡ chain_at es (s, r.1)) ⊎ (((chain_at fs (s, r.1)).blocks ≡ 0) × ((chain_at es (s, r.1)).blocks ≡ 0))
      by s true e =
          let P : ℕ → Type 0 = λ q. (chain_at es (s, q)).blocks ≡ 0 in
          inr (ap (λ (o : Option (Node Chain)). (chain_of s o).blocks) (set r.1 ∙ ap (λ (b : Bool). cond b None (lookup (nat_eq r.1) es)) e), subst P (eqb-true id r.1 e) (none s))
      by s false e = inl (ap (chain_of s) (set r.1 ∙ ap (λ (b : Bool). cond b None (lookup (nat_eq r.1) es)) e))

  -- a vertex more
  pub chains_more : (mid : List (ℕ × Node Chain)) (node : Node Chain) → mid ≡ es → ((q : ℕ) → lookup (nat_eq q) fs ≡ cond (nat_eq id q) (Some node) (lookup (nat_eq q) mid)) → is_some (lookup (nat_eq id) es) ≡ false → node.outs ≡ no_chain → node.ins ≡ no_chain →
      (r : Bool × ℕ) → (chain_at fs r ≡ chain_at es r) ⊎ (((chain_at fs r).blocks ≡ 0) × ((chain_at es r).blocks ≡ 0))
  chains_more mid node same found absent os is r = by r.0 (nat_eq id r.1) refl
    where
      set : (q : ℕ) → lookup (nat_eq q) fs ≡ cond (nat_eq id q) (Some node) (lookup (nat_eq q) es)
      set q = found q ∙ ap (λ (l : List (ℕ × Node Chain)). cond (nat_eq id q) (Some node) (lookup (nat_eq q) l)) same

      bare : (s : Bool) → (chain_of s (Some node)).blocks ≡ 0
      bare true = ap (λ (c : Chain). c.blocks) is
      bare false = ap (λ (c : Chain). c.blocks) os

      by : (s b : Bool) → nat_eq id r.1 ≡ b → (chain_at fs (s, r.1) ≡ chain_at es (s, r.1)) ⊎ (((chain_at fs (s, r.1)).blocks ≡ 0) × ((chain_at es (s, r.1)).blocks ≡ 0))
      by s true e =
          let P : ℕ → Type 0 = λ q. (chain_at es (s, q)).blocks ≡ 0 in
          inr (
            ap (λ (o : Option (Node Chain)). (chain_of s o).blocks) (set r.1 ∙ ap (λ (b : Bool). cond b (Some node) (lookup (nat_eq r.1) es)) e) ∙ bare s,
            subst P (eqb-true id r.1 e) (ap (λ (o : Option (Node Chain)). (chain_of s o).blocks) (none_from (lookup (nat_eq id) es) absent)),
          )
      by s false e = inl (ap (chain_of s) (set r.1 ∙ ap (λ (b : Bool). cond b (Some node) (lookup (nat_eq r.1) es)) e))

-- the triples of a row from a place on, where nothing changed
pub same_rows : (names names' : List (Option Name)) (nodes nodes' : List (ℕ × Node Chain)) (slots slots' : List (Option Block)) → ((q : ℕ) → slot names' q ≡ slot names q) → nodes' ≡ nodes → slots' ≡ slots → (r : Bool × ℕ) (b k : ℕ) →
    map (λ (t : RowEntry). triple_of names' (row_link r t)) (left_from slots' (chain_at nodes' r).blocks (chain_at nodes' r).first b k) ≡ map (λ (t : RowEntry). triple_of names (row_link r t)) (left_from slots (chain_at nodes r).blocks (chain_at nodes r).first b k)
same_rows names names' nodes nodes' slots slots' same e f r b k =
    let P : List (ℕ × Node Chain) → Type 0 = λ z. map (λ (t : RowEntry). triple_of names' (row_link r t)) (left_from slots' (chain_at z r).blocks (chain_at z r).first b k) ≡ map (λ (t : RowEntry). triple_of names (row_link r t)) (left_from slots (chain_at nodes r).blocks (chain_at nodes r).first b k) in
    let Q : List (Option Block) → Type 0 = λ z. map (λ (t : RowEntry). triple_of names' (row_link r t)) (left_from z (chain_at nodes r).blocks (chain_at nodes r).first b k) ≡ map (λ (t : RowEntry). triple_of names (row_link r t)) (left_from slots (chain_at nodes r).blocks (chain_at nodes r).first b k) in
    subst P (sym e) (subst Q (sym f) (same_entries names names' same (row_link r) (left_from slots (chain_at nodes r).blocks (chain_at nodes r).first b k)))

-- ---- vertices with triples

module _ (nodes : List (ℕ × Node Chain)) (slots : List (Option Block)) (places : List (Link × Places Place)) (h : ArePlaced nodes slots places) (id : ℕ) where
  head_in : (m g : ℕ) → 0 < m → In (keys_from (next_at slots) m g) g
  head_in zero g lt = absurd (omega (arith, lt))
  head_in (suc m) g lt = inl refl

  some_entry : (r : Bool × ℕ) → nat_lt 0 (chain_at nodes r).blocks ≡ true → (t : RowEntry) × In (row_entries nodes slots places h r) t
  some_entry r e =
      let lt = ltb-true 0 (chain_at nodes r).blocks e in
      let x = owner_some (block_at slots (chain_at nodes r).first) r (first_owner (owner_at slots) (next_at slots) (len_at slots) r (chain_at nodes r).blocks (chain_at nodes r).first (h.rows.row r) lt) in
      let s = h.rows.sound (chain_at nodes r).first x.0 x.1 in
      let t = block_entry slots (chain_at nodes r).first 0 x.0 x.1 s s.some in
      (t.0, place_entry slots (chain_at nodes r).blocks (chain_at nodes r).first (chain_at nodes r).first 0 t.0 (head_in (chain_at nodes r).blocks (chain_at nodes r).first lt) t.1)

  no_entries : (r : Bool × ℕ) → nat_lt 0 (chain_at nodes r).blocks ≡ false → (t : RowEntry) → In (row_entries nodes slots places h r) t → ⊥
  no_entries r e t i = let P : ℕ → Type 0 = λ n. In (entries_from slots n (chain_at nodes r).first) t in subst P (no_blocks (chain_at nodes r).blocks e) i

  true_left : (a b : Bool) → a ≡ true → a || b ≡ true
  true_left true b e = refl
  true_left false b e = absurd (true≢false (sym e))

  true_right : (a b : Bool) → b ≡ true → a || b ≡ true
  true_right true b e = refl
  true_right false b e = e

  busy : nat_lt 0 (chain_at nodes (false, id)).blocks || nat_lt 0 (chain_at nodes (true, id)).blocks ≡ true → list_any (is_end id) (keys_of places) ≡ true
  busy e = by (nat_lt 0 (chain_at nodes (false, id)).blocks) refl e
    where
      by : (b : Bool) → nat_lt 0 (chain_at nodes (false, id)).blocks ≡ b → b || nat_lt 0 (chain_at nodes (true, id)).blocks ≡ true → list_any (is_end id) (keys_of places) ≡ true
      by true f g =
          let t = some_entry (false, id) f in
          any_in (is_end id) (keys_of places) (row_link (false, id) t.0) (row_stands nodes slots places h (false, id) t.0 t.1) (true_left (id == id) (t.0.other == id) (eq-eqb id id refl))
      by false f g =
          let t = some_entry (true, id) g in
          any_in (is_end id) (keys_of places) (row_link (true, id) t.0) (row_stands nodes slots places h (true, id) t.0 t.1) (true_right (t.0.other == id) (id == id) (eq-eqb id id refl))

  idle : nat_lt 0 (chain_at nodes (false, id)).blocks ≡ false → nat_lt 0 (chain_at nodes (true, id)).blocks ≡ false → list_any (is_end id) (keys_of places) ≡ false
  idle os is = by (list_any (is_end id) (keys_of places)) refl
    where
      clash : (k : Link) → In (keys_of places) k → (b : Bool) → (k.src == id) ≡ b → b || (k.dst == id) ≡ true → ⊥
      clash k i true f g =
          let t = row_found nodes slots places h false k i in
          let P : ℕ → Type 0 = λ v. In (row_entries nodes slots places h (false, v)) t.0 in
          no_entries (false, id) os t.0 (subst P (eqb-true k.src id f) t.1)
      clash k i false f g =
          let t = row_found nodes slots places h true k i in
          let P : ℕ → Type 0 = λ v. In (row_entries nodes slots places h (true, v)) t.0 in
          no_entries (true, id) is t.0 (subst P (eqb-true k.dst id g) t.1)

      by : (b : Bool) → list_any (is_end id) (keys_of places) ≡ b → list_any (is_end id) (keys_of places) ≡ false
      by true e = let k = in_any (is_end id) (keys_of places) e in absurd (clash k.0 k.1 (k.0.src == id) refl k.2)
      by false e = e

  pub incident_is : (names : List (Option Name)) (vertices : List Vertex) → has_incident_triple (kept_graph names vertices (keys_of places)) id ≡ nat_lt 0 (chain_at nodes (false, id)).blocks || nat_lt 0 (chain_at nodes (true, id)).blocks
  incident_is names vertices = incident_links id names vertices (keys_of places) ∙ by (nat_lt 0 (chain_at nodes (false, id)).blocks || nat_lt 0 (chain_at nodes (true, id)).blocks) refl
    where
      by : (b : Bool) → nat_lt 0 (chain_at nodes (false, id)).blocks || nat_lt 0 (chain_at nodes (true, id)).blocks ≡ b → list_any (is_end id) (keys_of places) ≡ nat_lt 0 (chain_at nodes (false, id)).blocks || nat_lt 0 (chain_at nodes (true, id)).blocks
      by true e = busy e ∙ sym e
      by false e = let r = or_false (nat_lt 0 (chain_at nodes (false, id)).blocks) (nat_lt 0 (chain_at nodes (true, id)).blocks) e in idle r.0 r.1 ∙ sym e
