-- What the code reads of keys.
use Rattle.rvs_points.specs.Points as spec
use Rattle.rvs_points.specs.PointView.{meaning_view}
use Rattle.rvs_points.specs.declared.reading.Said.{Said}
use Rattle.rvs_points.specs.declared.reading.Said.TheVariants.{Means, Nothing, Wrong}

-- what a key says, with its meaning
abbrev pub said_view : Said → spec.Said
said_view (Means m) = spec.means (meaning_view m)
said_view Nothing = spec.nothing
said_view (Wrong why) = spec.wrong why
