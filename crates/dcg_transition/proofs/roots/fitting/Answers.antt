use Rattle.std.proofs.Common.{ap, ◌∙◌, arith}
use Rattle.std.specs.declared.alloc.Global.{Global}
use Rattle.std.specs.declared.vec.Vec.{Vec}
use Rattle.std.proofs.Common.{ℕ}
use Rattle.std.proofs.lemmas.List.{length-map}
use Rattle.std.proofs.lemmas.List.Sorted.{length_permutation}
use Rattle.flux_model.specs.Graph.{ids}
use Rattle.flux_model.specs.declared.graph.Vertex.{Vertex}
use Rattle.dcg_transition.proofs.FittingLemmas.{fits-next, differs-next, fitting-all}
use Rattle.dcg_transition.proofs.roots.fitting.Goals as goal
use Rattle.dcg_transition.proofs.roots.fitting.Goals.{then-fits+in_ok-push, else-fits}

pub loop-i-preserved : goal.loop-i-preserved
loop-i-preserved g c =
    let graph = c.args.graph.now in
    elim c.if-fits.branch [
      | then-fits+in_ok-push w ↦ record {
        vertices = fits-next (g.G.HoldGraph.graph graph) c.args.labels.now (g.G.HoldGraph.listed graph) c.loop-i.i c.vertex_at-v.result c.vertex_at-v.ensures.id c.fits.result c.loop-i.vertices.items c.if-fits.vertices.items
            c.fits.ensures.value w.if-fits.true c.loop-i.invariant.vertices (ap (λ (x : Vec ℕ Global). x.items) w.vertices-is ∙ w.in_ok-push.ensures.items);
        steps = omega (arith, c.vertex_at-v.ensures.step, c.fits.ensures.step, c.loop-i.invariant.steps);
      }
      | else-fits w ↦ record {
        vertices = differs-next (g.G.HoldGraph.graph graph) c.args.labels.now (g.G.HoldGraph.listed graph) c.loop-i.i c.vertex_at-v.result c.vertex_at-v.ensures.id c.fits.result c.loop-i.vertices.items c.if-fits.vertices.items
            c.fits.ensures.value w.if-fits.false c.loop-i.invariant.vertices (ap (λ (x : Vec ℕ Global). x.items) w.vertices-is);
        steps = omega (arith, c.vertex_at-v.ensures.step, c.fits.ensures.step, c.loop-i.invariant.steps);
      }
    ]

pub returns-clause-vertices : goal.returns-clause-vertices
returns-clause-vertices g c =
    let graph = c.args.graph.now in
    let known = c.vertex_count-i-end.ensures in
    fitting-all (g.G.HoldGraph.graph graph) c.args.labels.now (g.G.HoldGraph.listed graph) c.loop-i.i c.loop-i.vertices.items
    (omega (arith, known.count, length_permutation (g.G.HoldGraph.listed graph) (ids (g.G.HoldGraph.graph graph)) known.listed, length-map (g.G.HoldGraph.graph graph).vertices (λ (x : Vertex). x.id), c.loop-i-test.false))
    c.loop-i.invariant.vertices
