-- All counters agree but those of one joint, which is still counted.
use Rattle.std.specs.Prelude.{◌≡◌, ◌≢◌, ℕ, ◌+◌, ◌==◌, ◌&&◌, cond, slice_index, Some}
use Rattle.flux_model.specs.Exact.{Row}
use Rattle.flux_model.specs.Tree.{QueryTree}
use Rattle.dcg_moves.specs.Layers.{Layers, IsLower}
use Rattle.dcg_moves.specs.Rows.{Rows, ins_in, is_open}
use Rattle.dcg_moves.specs.Local.{outs_due}
use Rattle.dcg_moves.specs.Shape.{number_in}
use Rattle.dcg_moves.specs.Agree.{ins_seen, OutsAt}

-- (u, y) counts one joint in too many
pub record InsOverAt (s : Layers) (t : QueryTree) (u y : ℕ) (r : Rows) : Type 0 where
  pub root : (w : ℕ) → ins_in (r s.root w) ≡ cond (s.is_member s.root w) 1 0
  pub ins : (z w : ℕ) → IsLower s z → ins_in (r z w) ≡ ins_seen s r z w + cond ((z == u) && (y == w)) 1 0
  pub outs : (c : ℕ) → IsLower s c → OutsAt s t r c

-- and x, for the parent of u, one joint out too many, where (u, y) is open
pub record OverAt (s : Layers) (t : QueryTree) (u x y : ℕ) (r : Rows) : Type 0 where
  pub root : (w : ℕ) → ins_in (r s.root w) ≡ cond (s.is_member s.root w) 1 0
  pub ins : (z w : ℕ) → IsLower s z → ins_in (r z w) ≡ ins_seen s r z w + cond ((z == u) && (y == w)) 1 0
  pub outs : (c : ℕ) → IsLower s c → c ≢ u → OutsAt s t r c
  pub here : (v : ℕ) (row : Row) → r (s.parent u) v ≡ Some row →
      slice_index row.outs (number_in t u) ≡ outs_due s r v u + cond ((x == v) && is_open r u y) 1 0
