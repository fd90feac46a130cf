use Rattle.std.proofs.Common.{◌≡◌, ◌≤◌, ◌∙◌, ◌++◌, ◌∷◌, [], List, true, false, length, arith, ap, subst, sym}
use Rattle.flux_model.specs.Pattern.{PatternGraph, HaveDistinctNames}
use Rattle.flux_model.specs.PatternFile.{OpenPattern, new_pattern}
use Rattle.pattern_check.proofs.NameLemmas.{complete_names, one_more_name, is_used, begin_used, begin_full}
use Rattle.pattern_check.proofs.reader.PatternReader.start.Goals as goal

pub returns-then-has_name-clause-refused : goal.returns-then-has_name-clause-refused
returns-then-has_name-clause-refused c =
    let used : is_used c.args.name c.self.inside.complete.items ≡ true =
    ap (is_used c.args.name) (sym c.deref.ensures.value) ∙ sym c.has_name.ensures ∙ c.if-has_name.true in
    rw (c.refused.ensures, ← c.self.view_is) (begin_used c.self.inside.limits c.args.line c.args.name c.args.mode c.self.inside.complete.items used)

pub returns-then-self-len-clause-refused : goal.returns-then-self-len-clause-refused
returns-then-self-len-clause-refused c =
    let new : is_used c.args.name c.self.inside.complete.items ≡ false =
    ap (is_used c.args.name) (sym c.deref.ensures.value) ∙ sym c.has_name.ensures ∙ c.if-has_name.false in
    let full : c.self.inside.limits.patterns ≤ length c.self.inside.complete.items = omega (arith, c.len.ensures, c.self.inside.complete.ok.0) in
    rw (c.refused-then-self-len.ensures, ← c.self.view_is) (begin_full c.self.inside.limits c.args.line c.args.name c.args.mode c.self.inside.complete.items new full)

pub invariant_of-self : goal.invariant_of-self
invariant_of-self c =
    let complete : List PatternGraph = c.self.inside.complete.items in
    let new : is_used c.args.name complete ≡ false =
    ap (is_used c.args.name) (sym c.deref.ensures.value) ∙ sym c.has_name.ensures ∙ c.if-has_name.false in (
      c.self.invariant.0,
      subst (λ (o : OpenPattern). HaveDistinctNames (complete ++ o.pattern ∷ [])) (sym c.new.ensures)
          (one_more_name complete (new_pattern c.args.name c.args.mode) (complete_names complete c.self.inside.last c.self.invariant.1) new),
    )
