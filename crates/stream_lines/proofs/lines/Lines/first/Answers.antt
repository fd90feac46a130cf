use Rattle.std.proofs.Common.{◌≡◌, [], ◌∷◌, drop, take, length, ◌-◌, arith, subst}
use Rattle.std.proofs.lemmas.Grind.{common_steps}
use Rattle.flux_model.specs.LentLine.{seen_line}
use Rattle.stream_lines.specs.Waiting.{Waiting}
use Rattle.stream_lines.proofs.KeptLemmas.{first-line}
use Rattle.stream_lines.proofs.lines.Lines.first.Goals as goal

pub returns : goal.returns
returns c =
    let start = c.self.inside.start in
    let waiting = take (length c.deref.result.now - start) (drop start c.deref.result.now) in
    subst (λ (s : Waiting). seen_line c.to_line.result ∷ [] ≡ take 1 s.queue) c.self.view_is
    (first-line c.self.inside.line_bytes c.in-Some.len (drop start c.self.inside.bytes.items) (take c.in-Some.len waiting) _ _ c.self.invariant.first c.in-Some.is c.to_line.ensures (grind (arith, common_steps)))
