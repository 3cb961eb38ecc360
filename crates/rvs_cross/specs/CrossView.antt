-- What the code's cross points stand for.
use Rattle.std.specs.Prelude.{List, map, option_map}
use Rattle.rvs_expr.specs.TypedView as typed
use Rattle.rvs_cross.specs.Cross as spec
use Rattle.rvs_cross.specs.declared.cross.Place.{Place}
use Rattle.rvs_cross.specs.declared.cross.Cross.{Cross}

abbrev pub place_view : Place → spec.Place
place_view p = record { ops = p.ops; sets = p.sets; condition = option_map typed.view p.condition }

abbrev pub cross_view : Cross → List spec.Place
cross_view c = map place_view c.list
