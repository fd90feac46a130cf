-- The rows of each pattern vertex apart, as they are stored.
use Rattle.std.specs.Prelude.{◌≡◌, ℕ, suc, Bool, Some, List, [], ◌∷◌, ◌++◌, length, map, count_by, slice_index_or}
use Rattle.std.specs.Ordering.{nat_cmp}
use Rattle.std.specs.FinMap.{FinMap, entries, from_sorted, empty, get, len}
use Rattle.flux_model.specs.Exact.{Row, StateRows, pair_cmp}
use Rattle.dcg_store.specs.Counters.{is_full}
use Rattle.dcg_store.specs.SoundRows.{HasSoundRows}

-- the rows of one pattern vertex, by graph vertex
abbrev pub Layer : Type 0
Layer = FinMap nat_cmp Row

-- how many rows are explicit
abbrev pub live_in : Layer → ℕ
live_in layer = count_by (λ entry. is_full entry.1) (entries layer)

-- each row has so many out counters
abbrev pub HasWidth : ℕ → Layer → Type 0
HasWidth width layer = (v : ℕ) (row : Row) → get layer v ≡ Some row → length row.outs ≡ width

-- the entry of graph vertex `entry.0`, as one of the pair with u
abbrev pub of_vertex : ℕ → ℕ × Row → (ℕ × ℕ) × Row
of_vertex u entry = ((u, entry.0), entry.1)

-- the entries of all layers, the first of which is u's
abbrev pub entries_from : ℕ → List Layer → List ((ℕ × ℕ) × Row)
entries_from u [] = []
entries_from u (layer ∷ layers) = map (of_vertex u) (entries layer) ++ entries_from (suc u) layers

-- all rows
abbrev pub rows_of : List Layer → FinMap pair_cmp Row
rows_of layers = from_sorted (entries_from 0 layers)

-- what a contract sees of the layers
abbrev pub state_rows : Bool → List ℕ → List Layer → StateRows
state_rows broken children layers = record { is_broken = broken; children = children; rows = rows_of layers }

abbrev pub layer_at : List Layer → ℕ → Layer
layer_at layers u = slice_index_or layers u empty

-- there is a layer for each pattern vertex, the rows are counted, and each is as it has to be
pub record IsStored (layers : List Layer) (stored : ℕ) (d : StateRows) : Type 0 where
  pub each : length layers ≡ length d.children
  pub counted : stored ≡ len d.rows
  pub kept : HasSoundRows d
