-- What the code's points stand for.
use Rattle.std.specs.Prelude.{map}
use Rattle.rvs_expr.specs.TypedView as typed
use Rattle.rvs_cross.specs.CrossView.{cross_view}
use Rattle.rvs_points.specs.Points as spec
use Rattle.rvs_points.specs.declared.group.Meaning.{Meaning}
use Rattle.rvs_points.specs.declared.group.Meaning.TheVariants.{OpIs, RegIs, Regs, Nums, Window}
use Rattle.rvs_points.specs.declared.group.Point.{Point}
use Rattle.rvs_points.specs.declared.group.Skipped.{Skipped}
use Rattle.rvs_points.specs.declared.group.Label.{Label}

-- the meaning with its formulas
abbrev pub meaning_view : Meaning → spec.Meaning
meaning_view (OpIs op) = spec.op_is op
meaning_view (RegIs n) = spec.reg_is n
meaning_view (Regs e) = spec.regs (typed.view e)
meaning_view (Nums e) = spec.nums (typed.view e)
meaning_view (Window c) = spec.window (cross_view c)

-- the point with its meaning
abbrev pub point_view : Point → spec.Point
point_view p = record { kind = p.kind; key = p.key; meaning = meaning_view p.meaning }

-- an entry that is not counted
abbrev pub skipped_view : Skipped → spec.Skipped
skipped_view s = record { node = s.node; key = s.key }

-- a label with its points
abbrev pub label_view : Label → spec.Label
label_view l = record {
  name = l.name;
  selected = l.selected;
  ops = l.ops;
  points = map point_view l.points;
  skipped = map skipped_view l.skipped;
}
