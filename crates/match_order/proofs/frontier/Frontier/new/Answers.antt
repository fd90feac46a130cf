use Rattle.std.proofs.Common.{None, false, arith}
use Rattle.match_order.proofs.FrontierLemmas.{same_everywhere}
use Rattle.match_order.proofs.frontier.Frontier.new.Goals as goal

pub returns : goal.returns
returns c = λ t few. record {
  size = record { placed = omega (arith, few); anchors = omega (arith, few) };
  placed = λ u h. same_everywhere 32 u false;
  anchors = λ u h. same_everywhere 32 u None;
}
