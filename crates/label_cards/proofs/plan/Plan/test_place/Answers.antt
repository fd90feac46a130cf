use Rattle.std.proofs.Common.{◌≡◌, ◌==◌, ◌∙◌, ℕ, List, [], ◌∷◌, ◌++◌, cond, length, sym, ap}
use Rattle.std.specs.Prelude.{slice_get}
use Rattle.std.specs.declared.alloc.Global.{Global}
use Rattle.std.specs.declared.vec.Vec.{Vec}
use Rattle.label_cards.specs.Plans.{row_at, is_number}
use Rattle.label_cards.specs.declared.plan.TripleTest.{TripleTest}
use Rattle.label_cards.proofs.GrownLemmas.{get-append, get-fresh, get-last}
use Rattle.label_cards.proofs.PlanLemmas.{rows-grown}
use Rattle.label_cards.proofs.plan.Plan.test_place.Goals as goal

pub returns-in_default-clause-rows : goal.returns-in_default-clause-rows
returns-in_default-clause-rows c =
    let tests = c.args.self.now.tests.items in
    let rows = c.args.self.now.rows.items in
    rows-grown tests c.append.new.self.tests.items rows c.append.new.self.rows.items c.args.test c.in_ok-place.ensures.tests
    (λ n. ap (λ (r : Vec (Vec ℕ Global) Global). row_at r.items n) c.append.ensures.rows ∙ sym (ap (λ o. cond (is_number o n) (row_at rows n ++ length tests ∷ []) (row_at rows n)) c.in_default.is)) c.requires

pub returns-in_default-clause-kept : goal.returns-in_default-clause-kept
returns-in_default-clause-kept c = λ p test e.
    ap (λ (l : List TripleTest). slice_get l p) c.in_ok-place.ensures.tests ∙ get-append c.args.self.now.tests.items c.args.test p test e

pub returns-in_default-clause-fresh : goal.returns-in_default-clause-fresh
returns-in_default-clause-fresh c = λ p other e none.
    get-fresh c.args.self.now.tests.items c.args.test p other (sym (ap (λ (l : List TripleTest). slice_get l p) c.in_ok-place.ensures.tests) ∙ e) none

pub returns-clause-is : goal.returns-clause-is
returns-clause-is c =
    let tests = c.args.self.now.tests.items in
    ap (λ (l : List TripleTest). slice_get l c.in_ok-place-2.place) c.in_ok-place-2.ensures.tests
    ∙ ap (slice_get (tests ++ c.args.test ∷ [])) c.in_ok-place-2.ensures.place ∙ get-last tests c.args.test

pub returns-clause-rows : goal.returns-clause-rows
returns-clause-rows c =
    let tests = c.args.self.now.tests.items in
    let rows = c.args.self.now.rows.items in
    let end : c.len.result ≡ length tests = c.len.ensures ∙ c.args.self.now.tests.ok.0 in
    rows-grown tests c.append-2.new.self.tests.items rows c.append-2.new.self.rows.items c.args.test c.in_ok-place-2.ensures.tests
    (λ n.
    ap (λ (r : Vec (Vec ℕ Global) Global). row_at r.items n) c.append-2.ensures.rows
    ∙ c.in_ok-put_in_row.ensures n
    ∙ (λ j. cond (c.in-Some.number == n) (row_at rows n ++ end j ∷ []) (row_at rows n))
    ∙ sym (ap (λ o. cond (is_number o n) (row_at rows n ++ length tests ∷ []) (row_at rows n)) c.in-Some.is)) c.requires

pub returns-clause-kept : goal.returns-clause-kept
returns-clause-kept c = λ p test e.
    ap (λ (l : List TripleTest). slice_get l p) c.in_ok-place-2.ensures.tests ∙ get-append c.args.self.now.tests.items c.args.test p test e

pub returns-clause-fresh : goal.returns-clause-fresh
returns-clause-fresh c = λ p other e none.
    get-fresh c.args.self.now.tests.items c.args.test p other (sym (ap (λ (l : List TripleTest). slice_get l p) c.in_ok-place-2.ensures.tests) ∙ e) none
