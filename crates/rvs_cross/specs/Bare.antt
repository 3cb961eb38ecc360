-- What a place asks for besides its assignments.
use Rattle.std.specs.Prelude.{[], option_map}
use Rattle.rvs_expr.specs.TypedView as typed
use Rattle.rvs_cross.specs.Cross as spec
use Rattle.rvs_cross.specs.declared.cross.Place.{Place}

abbrev pub bare_view : Place → spec.Place
bare_view p = record { ops = p.ops; sets = []; condition = option_map typed.view p.condition }
