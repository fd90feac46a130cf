-- What is left of a walk at its first place has each joint of the triples that its tree edge sees.
use Rattle.std.proofs.Common.{◌≡◌, ℕ, ◌+◌, Bool, true, false, not, cond, ◌&&◌, ◌==◌, List, [], ◌∷◌, ◌++◌, refl, sym, ap, ◌∙◌, arith}
use Rattle.std.specs.Prelude.{None, Some, count_by, IsPermutation}
use Rattle.std.specs.Str.{bytes_eq}
use Rattle.std.specs.Ordering.{is_eq}
use Rattle.std.specs.declared.cmp.Ordering.{Ordering}
use Rattle.std.specs.declared.cmp.Ordering.TheVariants.{Less, Equal, Greater}
use Rattle.std.proofs.lemmas.Bool.{eqb-true, eq-eqb, and_parts, false_from_ne_true, both_ways}
use Rattle.std.proofs.lemmas.Cmp.{tied_itself}
use Rattle.std.proofs.lemmas.List.Sums.{sum_by-cons, sum_by-append}
use Rattle.std.proofs.lemmas.List.Sorted.{sum_by-IsPermutation}
use Rattle.std.proofs.lemmas.Slice.Eq.{bytes_eq-Decides}
use Rattle.flux_model.specs.Graph.{Graph, triple_cmp, has_triple}
use Rattle.flux_model.specs.Pattern.{fits_labels}
use Rattle.flux_model.specs.declared.graph.Triple.{Triple}
use Rattle.flux_laws.proofs.SetsLemmas.{triple_total, same_triple}
use Rattle.graph_traits.specs.declared.spot.Spot.{Spot}
use Rattle.graph_rows.specs.Directions.{whole_row, near_end, other_end, ends_of}
use Rattle.graph_rows.specs.declared.direction.Direction.{Direction}
use Rattle.graph_rows.specs.declared.direction.Direction.TheVariants.{Out, In}
use Rattle.graph_rows.proofs.CountLemmas.{count_same, count-filter, count-ends_of, count-whole_row}
use Rattle.dcg_moves.specs.declared.place.JointPlace.{JointPlace}
use Rattle.dcg_updates.specs.Plans.{Plan, is_in_row, other_in, is_skipped, skip_for, further_for, keeps, fitting, row_from, row_left, left_from}
use Rattle.dcg_updates.specs.Sights.{sees}
use Rattle.dcg_updates.specs.declared.sight.Sight.{Sight}
use Rattle.dcg_updates.specs.declared.sight.Sight.TheVariants.{AtHand, Without, With}
use Rattle.dcg_updates.proofs.PermutationLemmas.{bit, count-put}
use Rattle.dcg_updates.proofs.RowJointLemmas.{leads}

-- the row read in whatever order, and then what comes behind it
pub count_left : (outs ins : ℕ → Spot → List Triple) (g : Graph) (p : Plan) (c : JointPlace) (w : ℕ) → c.given ≡ false → IsPermutation (row_from outs ins p c.at) (whole_row p.direction g p.vertex) →
    count_by (λ o. o == w) (left_from outs ins g p c) ≡ count_by (leads p.direction p.label p.vertex (λ o. keeps g p o && o == w)) g.triples + count_by (λ o. o == w) (fitting g p.labels p.further)
count_left outs ins g p c w start all =
    let row = row_from outs ins p c.at in
    let test : Triple → Bool = λ s. bytes_eq p.label s.label && (keeps g p (other_end p.direction s) && other_end p.direction s == w) in
    let here : left_from outs ins g p c ≡ row_left outs ins g p c.at ++ fitting g p.labels p.further = rw start refl in
    let split = sum_by-append (λ o. bit (o == w)) (row_left outs ins g p c.at) (fitting g p.labels p.further) in
    let kept = count-filter (λ o. o == w) (keeps g p) (ends_of p.direction p.label row) in
    let ends = count-ends_of (λ o. keeps g p o && o == w) p.direction p.label row in
    let any = sum_by-IsPermutation (λ s. bit (test s)) row (whole_row p.direction g p.vertex) all in
    let whole = count-whole_row test p.direction g p.vertex in
    let first = ap (count_by (λ o. o == w)) here in
    omega (arith, first, split, kept, ends, any, whole)

-- ---- the triple in the row

same_label : (a b c : List ℕ) → bytes_eq a b ≡ true → bytes_eq a c ≡ true → b ≡ c
same_label a b c p r = sym ((bytes_eq-Decides a b).0 p) ∙ (bytes_eq-Decides a c).0 r

made_of : (d : Direction) (s e : Triple) → near_end d s ≡ near_end d e → s.label ≡ e.label → other_end d s ≡ other_end d e → s ≡ e
made_of Out s e near label far = λ i. record { src = near i; label = label i; dst = far i }
made_of In s e near label far = λ i. record { src = far i; label = label i; dst = near i }

tied : (s e : Triple) → s ≡ e → is_eq (triple_cmp s e) ≡ true
tied s e same = ap (λ (x : Triple). is_eq (triple_cmp x e)) same ∙ ap is_eq (tied_itself triple_total e)

equal : (r : Ordering) → is_eq r ≡ true → r ≡ Equal
equal Less h = absurd (let bad : false ≡ true = h in cc)
equal Equal h = refl
equal Greater h = absurd (let bad : false ≡ true = h in cc)

is_same : (s e : Triple) → is_eq (triple_cmp s e) ≡ true → s ≡ e
is_same s e h = same_triple s e (equal (triple_cmp s e) h)

module _ (d : Direction) (label : List ℕ) (v : ℕ) (e s : Triple) where
  -- of a triple in the row, the end is passed over where it is that triple
  skipped_is : is_in_row d label v s ≡ true → is_skipped (other_in d label v e) (other_end d s) ≡ is_eq (triple_cmp s e)
  skipped_is inside = by (is_in_row d label v e) refl
    where
      mine : ((near_end d s == v) ≡ true) × (bytes_eq label s.label ≡ true)
      mine = and_parts (near_end d s == v) (bytes_eq label s.label) inside

      by : (b : Bool) → is_in_row d label v e ≡ b → is_skipped (cond b (Some (other_end d e)) None) (other_end d s) ≡ is_eq (triple_cmp s e)
      by false out = sym (false_from_ne_true (is_eq (triple_cmp s e)) (λ h. both_ways (is_in_row d label v e) out (sym (ap (is_in_row d label v) (is_same s e h)) ∙ inside)))
      by true there = at (other_end d e == other_end d s) refl
        where
          its : ((near_end d e == v) ≡ true) × (bytes_eq label e.label ≡ true)
          its = and_parts (near_end d e == v) (bytes_eq label e.label) there

          at : (b : Bool) → (other_end d e == other_end d s) ≡ b → (other_end d e == other_end d s) ≡ is_eq (triple_cmp s e)
          at true h = h ∙ sym (tied s e (made_of d s e (eqb-true (near_end d s) v mine.0 ∙ sym (eqb-true (near_end d e) v its.0)) (same_label label s.label e.label mine.1 its.1) (sym (eqb-true (other_end d e) (other_end d s) h))))
          at false h = h ∙ sym (false_from_ne_true (is_eq (triple_cmp s e)) (λ k. both_ways (other_end d e == other_end d s) h (eq-eqb (other_end d e) (other_end d s) (sym (ap (other_end d) (is_same s e k))))))

  out_one : (a b k f x y : Bool) → (a && b ≡ true → k ≡ y) → (a && (b && ((not k && f) && x))) ≡ (not y && (a && (b && (f && x))))
  out_one false b k f x true h = refl
  out_one false b k f x false h = refl
  out_one true false k f x true h = refl
  out_one true false k f x false h = refl
  out_one true true true f x true h = refl
  out_one true true false f x false h = refl
  out_one true true true f x false h = let bad : true ≡ false = h refl in cc
  out_one true true false f x true h = let bad : false ≡ true = h refl in cc

  without_one : (F : ℕ → Bool) (w : ℕ) → leads d label v (λ o. (not (is_skipped (other_in d label v e) o) && F o) && o == w) s ≡ (not (is_eq (triple_cmp s e)) && leads d label v (λ o. F o && o == w) s)
  without_one F w =
      out_one (near_end d s == v) (bytes_eq label s.label) (is_skipped (other_in d label v e) (other_end d s)) (F (other_end d s)) (other_end d s == w) (is_eq (triple_cmp s e)) skipped_is

-- the end behind the row is a joint's where the triple is in the row
further_one : (g : Graph) (labels : List (List ℕ)) (d : Direction) (label : List ℕ) (v : ℕ) (e : Triple) (w : ℕ)
    → count_by (λ o. o == w) (fitting g labels (other_in d label v e)) ≡ bit (leads d label v (λ o. fits_labels g labels o && o == w) e)
further_one g labels d label v e w = by (near_end d e == v) (bytes_eq label e.label) (fits_labels g labels (other_end d e)) refl
  where
    x : ℕ
    x = other_end d e

    one : (f : Bool) → count_by (λ o. o == w) (cond f (other_end d e ∷ []) []) ≡ bit (f && other_end d e == w)
    one true = sum_by-cons (λ o. bit (o == w)) (other_end d e) [] ∙ omega arith
    one false = refl

    by : (a b f : Bool) → fits_labels g labels (other_end d e) ≡ f → count_by (λ o. o == w) (fitting g labels (cond (a && b) (Some (other_end d e)) None)) ≡ bit (a && (b && (fits_labels g labels (other_end d e) && other_end d e == w)))
    by true true f is = one (fits_labels g labels (other_end d e))
    by true false f is = refl
    by false b f is = refl

-- ---- what is left, by what the tree edge sees

-- the plan of a walk, by what its tree edge sees
abbrev pub plan_for : Sight → Direction → List ℕ → List (List ℕ) → ℕ → Triple → Plan
plan_for sight d label labels v e = record {
  vertex = v;
  direction = d;
  label = label;
  labels = labels;
  skip = skip_for sight (other_in d label v e);
  further = further_for sight (other_in d label v e);
}

-- what is shown behind a row is not in the row
abbrev pub IsNew : Sight → Graph → Triple → Type 0
IsNew AtHand g e = Unit {0}
IsNew Without g e = Unit {0}
IsNew With g e = has_triple g e ≡ false

-- the ends that a walk gives are those of the triples that its tree edge sees
pub count_seen : (sight : Sight) (g : Graph) (d : Direction) (label : List ℕ) (labels : List (List ℕ)) (v : ℕ) (e : Triple) (w : ℕ) → IsNew sight g e →
    count_by (leads d label v (λ o. keeps g (plan_for sight d label labels v e) o && o == w)) g.triples + count_by (λ o. o == w) (fitting g labels (further_for sight (other_in d label v e)))
    ≡ count_by (leads d label v (λ o. fits_labels g labels o && o == w)) (sees sight g e)
count_seen AtHand g d label labels v e w new = omega arith
count_seen Without g d label labels v e w new =
    let a = count_same (leads d label v (λ o. keeps g (plan_for Without d label labels v e) o && o == w)) (λ s. not (is_eq (triple_cmp s e)) && leads d label v (λ o. fits_labels g labels o && o == w) s) g.triples (λ s. without_one d label v e s (fits_labels g labels) w) in
    let b = count-filter (leads d label v (λ o. fits_labels g labels o && o == w)) (λ s. not (is_eq (triple_cmp s e))) g.triples in
    omega (arith, a, b)
count_seen With g d label labels v e w new =
    let a = further_one g labels d label v e w in
    let b = count-put triple_cmp (leads d label v (λ o. fits_labels g labels o && o == w)) e g.triples new in
    omega (arith, a, b)
