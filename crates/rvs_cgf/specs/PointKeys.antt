-- The pairs of kind and key of points, as one text each.
use Rattle.std.specs.Prelude.{◌≡◌, ℕ, List, ◌∷◌, map}
use Rattle.std.specs.BTreeSet.{BTreeSet, contains_text}
use Rattle.std.specs.Prelude.{String}
use Rattle.rvs_points.specs.Kinds.{mark}
use Rattle.rvs_points.specs.Points.{has}
use Rattle.rvs_points.specs.PointView.{point_view}
use Rattle.rvs_points.specs.declared.group.Kind.{Kind}
use Rattle.rvs_points.specs.declared.group.Point.{Point}

-- the texts are those of the points
abbrev pub AreKeysOf : {Y : Type 0} → BTreeSet (String Y) → List Point → Type 0
AreKeysOf known points = (k : Kind) (key : List ℕ)
    → contains_text known (mark k ∷ key) ≡ has k key (map point_view points)
