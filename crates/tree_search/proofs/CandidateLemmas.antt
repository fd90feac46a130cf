-- Where the candidates of a vertex come from: whichever list is walked, it has those that an embedding needs.
use Rattle.std.proofs.Common.{◌≡◌, ℕ, suc, ◌+◌, ◌<◌, ◌≤◌, Bool, true, false, not, ◌||◌, cond, nat_eq, List, [], ◌∷◌, drop, drop_of_length-le, filter, length, Option, Some, None, is_some, refl, sym, ap, ◌∙◌, subst, arith}
use Rattle.std.specs.Prelude.{slice_index}
use Rattle.std.proofs.Math.Seq.{drop-cons}
use Rattle.std.specs.List.{IsDistinct, list_any}
use Rattle.std.specs.Option.{unwrap_or}
use Rattle.std.proofs.lemmas.Bool.{and_parts, or_left, or_right, eqb-true, eq-eqb}
use Rattle.std.proofs.lemmas.List.Sorted.{length_permutation}
use Rattle.flux_model.specs.Costs.{degree}
use Rattle.flux_model.specs.Exact.{StateRows, row_at, IsExact}
use Rattle.flux_model.specs.Graph.{Graph, IsGraph, has_triple}
use Rattle.flux_model.specs.Pattern.{PatternGraph}
use Rattle.flux_model.specs.States.{joined, reaches, extends, is_explicit}
use Rattle.flux_model.specs.Tree.{QueryTree}
use Rattle.flux_model.specs.declared.graph.Triple.{Triple}
use Rattle.flux_model.specs.Members.{In}
use Rattle.graph_traits.specs.declared.spot.Spot.{Spot}
use Rattle.flux_model.proofs.MemberLemmas.{filter_in, in_filter, in_any}
use Rattle.graph_rows.specs.Directions.{triple_of, whole_row, ends_of}
use Rattle.graph_rows.specs.LabelRows.{row_from, ends_from}
use Rattle.graph_rows.specs.declared.direction.Direction.{Direction}
use Rattle.graph_rows.specs.declared.graph_row.GraphRow.{GraphRow}
use Rattle.tree_search.specs.CandidatesLeft.{leads_to, passes, walked, walked_from, listed_from, left, reads, IsStart}
use Rattle.tree_search.specs.Ways.{turns}
use Rattle.tree_search.specs.declared.candidates.Candidates.{Candidates}
use Rattle.tree_search.specs.declared.candidates.Cursor.{Cursor}
use Rattle.tree_search.specs.declared.candidates.Cursor.TheVariants.{Row, Layer}
use Rattle.tree_search.proofs.EndLemmas.{all_by, by_in, ends_distinct, ends_have, end_stands}

distinct_filter : (p : ℕ → Bool) (xs : List ℕ) → IsDistinct nat_eq xs → IsDistinct nat_eq (filter p xs)
unfolding IsDistinct
distinct_filter p [] d = tt
distinct_filter p (x ∷ xs) d = by (p x) (distinct_filter p xs d.1)
  where
    by : (b : Bool) → IsDistinct nat_eq (filter p xs) → IsDistinct nat_eq (cond b (x ∷ filter p xs) (filter p xs))
    by true rest = (all_by (λ y. nat_eq x y ≡ false) (filter p xs) (λ y i. by_in (λ z. nat_eq x z ≡ false) xs y d.0 (filter_in p xs y i).0), rest)
    by false rest = rest

-- an element that some element equals is one of the list
pub listed_in : (x : ℕ) (xs : List ℕ) → list_any (nat_eq x) xs ≡ true → In xs x
listed_in x xs h = let r = in_any (nat_eq x) xs h in subst (λ y. In xs y) (sym (eqb-true x r.0 r.2)) r.1

-- one element is there once
pub one_distinct : (xs : List ℕ) (x : ℕ) → xs ≡ x ∷ [] → IsDistinct nat_eq xs
unfolding IsDistinct
one_distinct xs x is = subst (λ l. IsDistinct nat_eq l) (sym is) (tt, tt)

pub one_has : (xs : List ℕ) (x y : ℕ) → xs ≡ x ∷ [] → y ≡ x → list_any (nat_eq y) xs ≡ true
one_has xs x y is same = ap (λ l. list_any (nat_eq y) l) is ∙ or_left (nat_eq y x) false (eq-eqb y x same)

-- an explicit pair has a row
pub layer_has : (q : PatternGraph) (t : QueryTree) (d : StateRows) (g : Graph) → IsExact q t g d → (u : ℕ) (layer : List ℕ) → ((v : ℕ) → list_any (nat_eq v) layer ≡ is_some (row_at d u v))
    → (x : ℕ) → is_explicit (joined q t g) u x ≡ true → list_any (nat_eq x) layer ≡ true
layer_has q t d g exact u layer rows x explicit =
    let reached : reaches (joined q t g) u x ≡ true = (and_parts (reaches (joined q t g) u x) (extends (joined q t g) u x) explicit).0 in
    rows x ∙ ap is_some (exact.rows u x) ∙ rw reached refl

module _ (outs ins : ℕ → Spot → List Triple) (g : Graph) (c : Candidates) where
  abbrev direction : Direction
  direction = (walked c).direction

  abbrev vertex : ℕ
  vertex = (walked c).vertex

  abbrev label : List ℕ
  label = (walked c).label.now

  abbrev rows : Spot → List Triple
  rows s = row_from outs ins (walked c) s

  -- no candidate is left twice
  pub start_apart : IsGraph g → (at : Cursor) → IsStart outs ins g c at → IsDistinct nat_eq c.layer.now → IsDistinct nat_eq (left outs ins g c at)
  start_apart is (Row s) start once = distinct_filter (passes g c) (ends_of direction label (rows s)) (ends_distinct g vertex direction label (rows s) start is)
  start_apart is (Layer i) start once = subst (λ n. IsDistinct nat_eq (filter (leads_to g c) (drop n c.layer.now))) (sym start.first) (distinct_filter (leads_to g c) c.layer.now once)

  -- an id of the layer is left to which the anchor's triple leads and that of the row that is walked
  pub start_has : (at : Cursor) → IsStart outs ins g c at → (x : ℕ) → list_any (nat_eq x) c.layer.now ≡ true → leads_to g c x ≡ true → has_triple g (triple_of direction vertex label x) ≡ true → In (left outs ins g c at) x
  start_has (Row s) start x listed leads along =
      in_filter (passes g c) (ends_of direction label (rows s)) x (ends_have g vertex direction label (rows s) start x along) (or_right (not (is_some c.shortest.row)) (leads_to g c x) leads)
  start_has (Layer i) start x listed leads along = subst (λ n. In (filter (leads_to g c) (drop n c.layer.now)) x) (sym start.first) (in_filter (leads_to g c) c.layer.now x (listed_in x c.layer.now listed) leads)

  -- what passes is an end of the anchor's row, or the anchor's triple leads to it
  led : (o : Option GraphRow) → o ≡ c.shortest.row → (x : ℕ) → not (is_some o) || leads_to g c x ≡ true → has_triple g (triple_of (unwrap_or o c.row).direction (unwrap_or o c.row).vertex (unwrap_or o c.row).label.now x) ≡ true → leads_to g c x ≡ true
  led None is x may along = along
  led (Some r) is x may along = may

  -- the anchor's triple leads to what is left
  pub start_stands : (at : Cursor) → IsStart outs ins g c at → (x : ℕ) → In (left outs ins g c at) x → leads_to g c x ≡ true
  start_stands (Row s) start x i =
      let r = filter_in (passes g c) (ends_of direction label (rows s)) x i in
      led c.shortest.row refl x r.1 (end_stands g vertex direction label (rows s) start x r.0)
  start_stands (Layer n) start x i = (filter_in (leads_to g c) (drop n c.layer.now) x i).1

  -- no more reads are left than the anchor's id has triples
  pub start_few : turns g (walked c) ≤ degree g c.row.vertex → (at : Cursor) → IsStart outs ins g c at → reads outs ins c at ≤ degree g c.row.vertex
  start_few short (Row s) start = omega (arith, length_permutation (rows s) (whole_row direction g vertex) start, short)
  start_few short (Layer i) start = omega (arith, start.first, start.few, short)

  -- ---- one end of the row that is walked after another

  module _ (r : GraphRow) (is : r ≡ walked c) where
    -- as many triples are left
    pub as_many : (s : Spot) → length (row_from outs ins r s) ≡ length (row_from outs ins (walked c) s)
    as_many s = λ i. length (row_from outs ins (is i) s)

    -- at the row's end nothing is left
    pub end_none : (at : Spot) → ends_from outs ins r at ≡ [] → walked_from outs ins g c at ≡ []
    end_none at ends = (λ i. filter (passes g c) (ends_from outs ins (sym is i) at)) ∙ ap (λ l. filter (passes g c) l) ends

    module _ (at next : Spot) (x : ℕ) (ends : ends_from outs ins r at ≡ x ∷ ends_from outs ins r next) where
      whole : walked_from outs ins g c at ≡ cond (passes g c x) (x ∷ walked_from outs ins g c next) (walked_from outs ins g c next)
      whole = ap (λ l. filter (passes g c) l) ((λ i. ends_from outs ins (sym is i) at) ∙ ends ∙ (λ i. x ∷ ends_from outs ins (is i) next))

      -- an end that passes is the first that is left
      pub end_turn : passes g c x ≡ true → walked_from outs ins g c at ≡ x ∷ walked_from outs ins g c next
      end_turn passed = whole ∙ ap (λ b. cond b (x ∷ walked_from outs ins g c next) (walked_from outs ins g c next)) passed

      -- an end that does not pass is passed over
      pub end_skip : passes g c x ≡ false → walked_from outs ins g c at ≡ walked_from outs ins g c next
      end_skip fails = whole ∙ ap (λ b. cond b (x ∷ walked_from outs ins g c next) (walked_from outs ins g c next)) fails

-- ---- one vertex of the layer after another

module _ (g : Graph) (c : Candidates) (i : ℕ) where
  abbrev x : ℕ
  x = slice_index c.layer.now i

  first_is : i < length c.layer.now → listed_from g c i ≡ cond (leads_to g c x) (x ∷ listed_from g c (i + 1)) (listed_from g c (i + 1))
  first_is within =
      let next : suc i ≡ i + 1 = omega arith in
      ap (λ l. filter (leads_to g c) l) (drop-cons c.layer.now i 0 within ∙ ap (λ n. x ∷ drop n c.layer.now) next)

  -- a vertex to which the triple leads is the first that is left
  pub layer_turn : i < length c.layer.now → leads_to g c x ≡ true → listed_from g c i ≡ x ∷ listed_from g c (i + 1)
  layer_turn within leads = first_is within ∙ ap (λ b. cond b (x ∷ listed_from g c (i + 1)) (listed_from g c (i + 1))) leads

  -- a vertex to which it does not lead is passed over
  pub layer_skip : i < length c.layer.now → leads_to g c x ≡ false → listed_from g c i ≡ listed_from g c (i + 1)
  layer_skip within fails = first_is within ∙ ap (λ b. cond b (x ∷ listed_from g c (i + 1)) (listed_from g c (i + 1))) fails

  -- at the end of the layer nothing is left
  pub layer_end : length c.layer.now ≤ i → listed_from g c i ≡ []
  layer_end end = ap (λ l. filter (leads_to g c) l) (drop_of_length-le c.layer.now end)
