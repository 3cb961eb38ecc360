-- The numbers of the kinds of refusal.
use Rattle.std.specs.Prelude.{ℕ}
use Rattle.rvs_abstract.specs.declared.call.AbstractRefusal.{AbstractRefusal}
use Rattle.rvs_abstract.specs.declared.call.AbstractRefusal.TheVariants.{BadCall, UnknownFunction}
use Rattle.rvs_abstract.specs.declared.call.AbstractRefusal.TheVariants.{BadSize}

abbrev pub number_of : AbstractRefusal → ℕ
number_of BadCall = 1
number_of UnknownFunction = 2
number_of BadSize = 3
