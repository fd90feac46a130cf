use Rattle.std.proofs.Common.{◌==◌, ◌∙◌, sym, subst, take, get_or, arith}
use Rattle.std.specs.declared.alloc.Global.{Global}
use Rattle.std.specs.declared.vec.Vec.{Vec}
use Rattle.flux_model.specs.Pattern.{HasEnds}
use Rattle.label_cards.specs.Plans.{AreSetsOf, IsTestIn, IsTestOf}
use Rattle.label_cards.specs.declared.plan.LabelSet.{LabelSet}
use Rattle.label_cards.specs.declared.plan.TripleTest.{TripleTest}
use Rattle.label_cards.proofs.GrownLemmas.{all-next}
use Rattle.label_cards.proofs.PlanLemmas.{tests-kept, tests-sound, test-in}
use Rattle.label_cards.proofs.plan.Plan.test_places.Goals as goal

pub loop-k-preserved : goal.loop-k-preserved
loop-k-preserved g c =
    let texts = g.G.HoldGraph.label_text c.args.graph.now in
    let graph = g.G.HoldGraph.graph c.args.graph.now in
    let q = c.args.pattern.now in
    let k = c.loop-k.k in
    let e = c.edge-edge.result.now in
    let vertices = c.args.sets.now in
    let number = c.label_number.result in
    let test : TripleTest = record { label = number; tail = get_or vertices e.tail 0; head = get_or vertices e.head 0; is_loop = e.tail == e.head } in
    let sets = c.loop-k.self.sets in
    let old = c.loop-k.self.tests.items in
    let new = c.test_place.new.self.tests.items in
    let before = c.loop-k.invariant in
    let made = c.in_ok-test_place.ensures in
    let placed = subst (λ (s : Vec LabelSet Global). AreSetsOf s.items q.labels vertices) (sym before.sets) c.requires.sets in
    let sound = test-in texts sets.items q.labels vertices placed e c.edge-edge.ensures.ends number c.label_number.ensures.number in
    record {
      plan = record {
        tests = λ p other here. subst (λ (s : Vec LabelSet Global). IsTestIn texts s.items other) (sym c.test_place.ensures.sets)
            (tests-sound texts sets.items old new test before.plan.tests made.kept made.fresh sound p other here);
        rows = made.rows;
      };
      kept = λ p other here. made.kept p other (before.kept p other here);
      few = omega (arith, made.few, before.few);
      sets = c.test_place.ensures.sets ∙ before.sets;
      places = all-next (IsTestOf texts graph new vertices) q.edges k e c.loop-k.places.items c.push.new.self.items c.in_ok-test_place.field-0 c.edge-edge.ensures.edge
          (tests-kept texts graph old new vertices (take k q.edges) c.loop-k.places.items made.kept before.places)
          (record {
            number = number;
            ends = subst (λ n. HasEnds n e) (sym c.requires.long) c.edge-edge.ensures.ends;
            is = record { tells = c.label_number.ensures.number; absent = c.label_number.ensures.absent };
            stands = made.is;
          })
          c.in_ok-push.ensures.items;
    }
