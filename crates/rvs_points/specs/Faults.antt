-- The numbers of the rules that groups may break.
use Rattle.std.specs.Prelude.{ℕ}
use Rattle.rvs_points.specs.declared.refusal.CgfKind.{CgfKind}
use Rattle.rvs_points.specs.declared.refusal.CgfKind.TheVariants.{BadLabelName, BadShape}
use Rattle.rvs_points.specs.declared.refusal.CgfKind.TheVariants.{UnknownNode, UnknownMnemonic}
use Rattle.rvs_points.specs.declared.refusal.CgfKind.TheVariants.{BadRegister, BadExpr}
use Rattle.rvs_points.specs.declared.refusal.CgfKind.TheVariants.{BadAbstract, BadCross, BadConfig}
use Rattle.rvs_points.specs.declared.refusal.CgfKind.TheVariants.{TooManyLabels, TooManyPoints}
use Rattle.rvs_points.specs.declared.refusal.CgfKind.TheVariants.{NoRoom}

-- the number of the rule, in the order of docs/FORMATS.md
abbrev pub number_of : CgfKind → ℕ
number_of BadLabelName = 1
number_of BadShape = 2
number_of UnknownNode = 3
number_of UnknownMnemonic = 4
number_of BadRegister = 5
number_of (BadExpr why) = 6
number_of (BadAbstract why) = 7
number_of (BadCross why) = 8
number_of BadConfig = 9
number_of TooManyLabels = 10
number_of TooManyPoints = 11
number_of NoRoom = 12
