use Rattle.std.proofs.Common.{◌≡◌, ℕ, ◌<◌, ◌∙◌, ap, subst, sym, arith, length, IsTrue, List, false}
use Rattle.std.specs.Cmp.Lexicographic.{nat_list_cmp_total}
use Rattle.std.specs.List.{insert, list_all}
use Rattle.flux_model.specs.Text.{text_cmp, is_text}
use Rattle.flux_model.specs.Ordered.{is_ascending, put, is_in}
use Rattle.flux_model.specs.Labels.{CanAdd}
use Rattle.flux_model.proofs.OrderedLemmas.{put-ascending, put-list_all}
use Rattle.flux_model.proofs.labels.Labels.add.Goals as goal
use borrow.Author.Tests.{ltb-true}

-- a label that is not there needs room
room : (labels : List (List ℕ)) (label : List ℕ) → CanAdd labels label → is_in text_cmp label labels ≡ false → length labels < 16
room labels label can absent = ltb-true (length labels) 16 (rw absent at can)

pub invariant_of-self-in-Err : goal.invariant_of-self-in-Err
invariant_of-self-in-Err c =
    let labels : List (List ℕ) = c.self.inside.labels.items in
    let e : c.insert.new.self.items ≡ put text_cmp c.args.t labels =
    c.in_ok-insert-in-Err.ensures.ok ∙ ap (λ l. insert l c.in-Err.at c.args.t) (sym c.as_slice.ensures) ∙ c.in-Err.ensures.put ∙ ap (put text_cmp c.args.t) c.as_slice.ensures in
    let absent : is_in text_cmp c.args.t labels ≡ false = ap (is_in text_cmp c.args.t) (sym c.as_slice.ensures) ∙ c.in-Err.ensures.absent in
    let few : length labels < 16 = room labels c.args.t (subst (λ l. CanAdd l c.args.t) (sym c.self.view_is) c.requires) absent in
    record {
      few = omega (arith, c.in_ok-insert-in-Err.ensures.len, few);
      ascending = subst (λ l. IsTrue (is_ascending text_cmp l)) (sym e) (put-ascending text_cmp nat_list_cmp_total c.args.t labels c.self.invariant.ascending);
      texts = subst (λ l. IsTrue (list_all is_text l)) (sym e) (put-list_all text_cmp is_text c.args.t labels c.bytes.ensures.text c.self.invariant.texts);
    }
