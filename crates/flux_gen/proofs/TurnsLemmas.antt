-- What is so of each update, from what is so of each triple that is drawn.
use Rattle.std.proofs.Common.{ℕ, zero, suc, ◌+◌, ◌/◌, ◌<◌, ◌≤◌, ◌==◌, Bool, true, false, nat_le, cond, List, [], ◌∷◌, ◌++◌, length, get_or, arith}
use Rattle.std.specs.List.{AllByRecursion}
use Rattle.flux_model.specs.declared.graph.Triple.{Triple}
use Rattle.flux_model.specs.declared.graph.Update.{Update}
use Rattle.flux_model.specs.declared.graph.Update.TheVariants.{AddVertex, DropVertex, AddEdge, DropEdge}
use Rattle.flux_model.specs.Generated.{next, pick, vertex_label, triple_of, triple_from, triples_from, after_triple, Turn, turn, turn_in, turn_out, turn_vertex, updates_from}
use Rattle.flux_gen.proofs.LawLemmas.{pick_below}

module _ (P : Triple → Type 0) where
  all-at : (ts : List Triple) (i : ℕ) (d : Triple) → AllByRecursion P ts → P d → P (get_or ts i d)
  all-at [] i d all p = p
  all-at (t ∷ ts) zero d all p = all.0
  all-at (t ∷ ts) (suc i) d all p = all-at ts i d all.1 p

  all-push : (ts : List Triple) (t : Triple) → AllByRecursion P ts → P t → AllByRecursion P (ts ++ t ∷ [])
  all-push [] t all p = (p, tt)
  all-push (u ∷ us) t all p = (all.0, all-push us t all.1 p)

  pub all_drawn : (v m s : ℕ) → ((r : ℕ) → P (triple_from v r)) → AllByRecursion P (triples_from v m s)
  all_drawn v zero s each = tt
  all_drawn v (suc m) s each = (each s, all_drawn v m (after_triple s) each)

-- what makes each update so, among v vertices
pub record Makes (v : ℕ) (P : Triple → Type 0) (Q : Update → Type 0) : Type 0 where
  pub new : (s : ℕ) → P (triple_from v s)
  pub none : P (triple_of 0 0 0)
  pub adds : (t : Triple) → P t → Q (AddEdge t)
  pub drops : (t : Triple) → P t → Q (DropEdge t)
  pub comes : (id x : ℕ) → id ≤ v + v / 10 → x < 2 → Q (AddVertex id (vertex_label x ∷ []))
  pub goes : (id : ℕ) → id ≤ v + v / 10 → Q (DropVertex id)

module _ (v : ℕ) (P : Triple → Type 0) (Q : Update → Type 0) (makes : Makes v P Q) where
  record IsSoTurn (t : Turn) : Type 0 where
    update : Q t.update
    drawn : AllByRecursion P t.drawn

  vertex_turn : (s : ℕ) (drawn : List Triple) → AllByRecursion P drawn → IsSoTurn (turn_vertex v drawn s)
  vertex_turn s drawn all = record { update = by (pick (next s) 2 == 0); drawn = all }
    where
      id : ℕ
      id = v + pick s (v / 10 + 1)

      low : id ≤ v + v / 10
      low = omega (arith, pick_below s (v / 10 + 1) (omega arith))

      by : (b : Bool) → Q (cond b (AddVertex id (vertex_label (pick (next (next s)) 2) ∷ [])) (DropVertex id))
      by true = makes.comes id (pick (next (next s)) 2) low (pick_below (next (next s)) 2 (omega arith))
      by false = makes.goes id low

  turn_is : (s : ℕ) (drawn : List Triple) → AllByRecursion P drawn → IsSoTurn (turn v drawn s)
  turn_is s drawn all = by (nat_le (pick s 10) 5) (nat_le (pick s 10) 8)
    where
      by : (b c : Bool) → IsSoTurn (cond b (turn_in v drawn (next s)) (cond c (turn_out drawn (next s)) (turn_vertex v drawn (next s))))
      by true c =
          let new = makes.new (next s) in
          record { update = makes.adds (triple_from v (next s)) new; drawn = all-push P drawn (triple_from v (next s)) all new }
      by false true =
          record { update = makes.drops _ (all-at P drawn (pick (next s) (length drawn)) (triple_of 0 0 0) all makes.none); drawn = all }
      by false false = vertex_turn (next s) drawn all

  pub all_updates : (u s : ℕ) (drawn : List Triple) → AllByRecursion P drawn → AllByRecursion Q (updates_from v u drawn s)
  all_updates zero s drawn all = tt
  all_updates (suc u) s drawn all =
      let this : Turn = turn v drawn s in
      let first = turn_is s drawn all in
      (first.update, all_updates u this.state this.drawn first.drawn)
