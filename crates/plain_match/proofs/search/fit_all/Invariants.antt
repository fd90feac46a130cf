use Rattle.std.proofs.Common.{◌≡◌, drop}
use Rattle.std.specs.Cmp.Lexicographic.{pointwise}
use Rattle.flux_model.specs.Pattern.{fits_labels}
use Rattle.plain_match.proofs.search.fit_all.Given as goal

-- what is left decides
abbrev pub invariant-loop-u : goal.invariant-loop-u
invariant-loop-u l =
    pointwise (fits_labels l.graph.graph) (drop l.u l.pattern.labels) (drop l.u l.m) ≡ pointwise (fits_labels l.graph.graph) l.pattern.labels l.m
