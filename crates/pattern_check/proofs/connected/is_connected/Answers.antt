use Rattle.std.proofs.Common.{◌≡◌, arith, ◌∙◌, ap}
use Rattle.flux_model.specs.Pattern.{reached}
use Rattle.pattern_check.proofs.MarkLemmas.{ends_within, reached_none, reached_more, connected_is}
use Rattle.pattern_check.proofs.connected.is_connected.Goals as goal

pub wider-seen-requires : goal.wider-seen-requires
wider-seen-requires c = ends_within c.args.count c.args.edges.now c.requires.few_vertices c.requires.ends

pub loop-init : goal.loop-init
loop-init c = reached_none c.args.edges.now c.args.count 31 c.requires.some_vertex

pub loop-preserved : goal.loop-preserved
loop-preserved c =
    reached_more c.args.edges.now c.args.count c.loop.counter c.loop.seen c.wider-seen.result c.requires.few_vertices c.requires.ends c.loop.invariant c.wider-seen.ensures

pub returns : goal.returns
returns c =
    let ended : c.loop.counter ≡ c.args.count = omega arith in
    c.are_all_seen.ensures
    ∙ connected_is c.args.edges.now c.args.count c.loop.seen (omega arith) (c.loop.invariant ∙ ap (reached c.args.edges.now c.args.count) ended)
