use Rattle.std.proofs.Common.{◌≡◌, [], ◌∷◌, drop, take, length, ◌-◌, ap, ◌∙◌, arith, subst}
use Rattle.std.proofs.lemmas.Grind.{common_steps}
use Rattle.std.proofs.lemmas.Bool.Decides.{nat_tests}
use Rattle.flux_model.specs.LentLine.{seen_line}
use Rattle.stream_lines.specs.Waiting.{Waiting}
use Rattle.stream_lines.specs.Follows.{rest_line}
use Rattle.stream_lines.proofs.KeptLemmas.{last-line, last-lines}
use Rattle.stream_lines.proofs.lines.Lines.last.Goals as goal

pub returns-clause-line : goal.returns-clause-line
returns-clause-line c =
    let start = c.self.inside.start in
    let waiting = take (length c.deref.result.now - start) (drop start c.deref.result.now) in
    subst (λ (s : Waiting). seen_line c.to_line.result ∷ [] ≡ rest_line s.line_bytes s.rest) c.self.view_is
    (last-line c.self.inside.line_bytes (drop start c.self.inside.bytes.items) waiting _ (ap (λ (s : Waiting). s.queue) c.self.view_is ∙ c.requires) c.to_line.ensures (grind (arith, common_steps)) (grind (arith, nat_tests)))

pub returns-clause-lines : goal.returns-clause-lines
returns-clause-lines c = last-lines _ _ _ (returns-clause-line c)
