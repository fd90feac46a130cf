-- The plan of a `Walk`.
use Rattle.dcg_updates.specs.Plans.{Plan}
use Rattle.dcg_updates.specs.declared.walk.Walk.{Walk}

abbrev pub plan_of : Walk → Plan
plan_of w = record {
  vertex = w.row.vertex;
  direction = w.row.direction;
  label = w.row.label.now;
  labels = w.labels.now;
  skip = w.skip;
  further = w.further;
}
