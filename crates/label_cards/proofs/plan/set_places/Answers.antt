use Rattle.std.proofs.Common.{◌≡◌, take}
use Rattle.std.specs.Prelude.{Some}
use Rattle.label_cards.specs.Plans.{set_at}
use Rattle.label_cards.proofs.GrownLemmas.{all-next}
use Rattle.label_cards.proofs.PlanLemmas.{sets-kept}
use Rattle.label_cards.proofs.plan.set_places.Goals as goal

pub loop-u-preserved : goal.loop-u-preserved
loop-u-preserved c =
    let all = c.args.pattern.now.labels in
    let u = c.loop-u.u in
    let old = c.loop-u.sets.items in
    let new = c.set_place.new.sets.items in
    let before = c.loop-u.invariant in
    let kept = c.in_ok-set_place.ensures.kept in
    record {
      kept = λ p labels e. kept p labels (before.kept p labels e);
      places = all-next (λ labels p. set_at new p ≡ Some labels) all u c.labels.result.now c.loop-u.places.items c.push.new.self.items c.in_ok-set_place.field-0 c.labels.ensures
          (sets-kept old new (take u all) c.loop-u.places.items kept before.places) c.in_ok-set_place.ensures.is c.in_ok-push.ensures.items;
    }
