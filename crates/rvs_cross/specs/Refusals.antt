-- The numbers of refusals.
use Rattle.std.specs.Prelude.{ℕ}
use Rattle.rvs_cross.specs.declared.refusal.CrossRefusal.{CrossRefusal}
use Rattle.rvs_cross.specs.declared.refusal.CrossRefusal.TheVariants.{BadList, LengthsDiffer}
use Rattle.rvs_cross.specs.declared.refusal.CrossRefusal.TheVariants.{TooManyPlaces}
use Rattle.rvs_cross.specs.declared.refusal.CrossRefusal.TheVariants.{TooManyVariables}
use Rattle.rvs_cross.specs.declared.refusal.CrossRefusal.TheVariants.{UnassignedVariable}
use Rattle.rvs_cross.specs.declared.refusal.CrossRefusal.TheVariants.{UnknownMnemonic, Expr}

abbrev pub number_of : CrossRefusal → ℕ
number_of BadList = 1
number_of LengthsDiffer = 2
number_of TooManyPlaces = 3
number_of TooManyVariables = 4
number_of (UnassignedVariable name) = 5
number_of (UnknownMnemonic name) = 6
number_of (Expr e) = 7
