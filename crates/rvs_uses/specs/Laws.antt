-- What follows from the promise of any call.
use Rattle.std.specs.Prelude.{◌≡◌, ℕ, List, Some}
use Rattle.rvs_base.specs.Host.{Files, Tells}
use Rattle.rvs_plan.specs.declared.status.Status.TheVariants.{Done}
use Rattle.rvs_words.specs.declared.command.Command.TheVariants.{Compare, Generate}
use Rattle.rvs_promises.specs.Call.{Call, Asks}
use Rattle.rvs_suite.specs.Promise.{Promise}
use Rattle.rvs_uses.specs.Comparing as comparing
use Rattle.rvs_uses.specs.Validating as validating
use Rattle.rvs_uses.specs.Referencing as referencing
use Rattle.rvs_uses.specs.Spells.{BothSpell}
use Rattle.rvs_uses.specs.Testing.{HasTests}
use Rattle.rvs_words.specs.declared.command.CompareArguments.{CompareArguments}
use Rattle.rvs_words.specs.declared.command.GenerateArguments.{GenerateArguments}

-- what a command promises in the words of its files
abbrev pub Follows : (Call → Type 0) → Type 0
Follows Told = (call : Call) → Promise call → Told call

abbrev pub ComparesFiles : Type 0
ComparesFiles = Follows comparing.Promise

abbrev pub ValidatesFile : Type 0
ValidatesFile = Follows validating.Promise

abbrev pub RefersToFiles : Type 0
RefersToFiles = Follows referencing.Promise

-- where `compare` passes, both files are there and spell these words
abbrev pub PassesTheSame : Type 0
PassesTheSame =
    (call : Call) (files : Files) (asked : CompareArguments) → Promise call
    → Tells call.old.host files → Asks call (Compare asked) → call.status ≡ Done
    → (words : List ℕ) × BothSpell files asked.left asked.right words words

-- where `generate` is done, each point that a choice hits has a test that hits it
abbrev pub MakesTests : Type 0
MakesTests =
    (call : Call) (files files' : Files) (asked : GenerateArguments) → Promise call
    → Tells call.old.host files → Asks call (Generate asked) → call.status ≡ Done
    → call.new.host.files ≡ Some files' → HasTests files files' asked
