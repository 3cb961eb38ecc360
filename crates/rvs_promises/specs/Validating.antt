-- What every call of `validate` promises.
use Rattle.std.specs.Prelude.{◌≡◌, ◌+◌}
use Rattle.rvs_base.specs.File.{ReadsAtMost}
use Rattle.rvs_base.specs.Host.{Files, Tells}
use Rattle.rvs_base.specs.Sink.{appended}
use Rattle.rvs_isa.specs.Print.{checked_text}
use Rattle.rvs_isa.specs.declared.accepted_spec.AcceptedSpec.{AcceptedSpec}
use Rattle.rvs_promises.specs.Answered.{Answered, OnDone}
use Rattle.rvs_promises.specs.Call.{Call, Asks}
use Rattle.rvs_inputs.specs.Specification.{isa_limit, said_in}
use Rattle.rvs_words.specs.declared.command.Command.TheVariants.{Validate}
use Rattle.rvs_words.specs.declared.command.ValidateArguments.{ValidateArguments}

-- the output has the text of what the ISA file says
abbrev pub HasPrinted : Call → AcceptedSpec → Type 0
HasPrinted call said = call.new.out.bytes ≡ appended call.old.out.bytes (checked_text said)

-- a call of `validate` on this one of these files
pub record Checks (call : Call) (files : Files) (asked : ValidateArguments) : Type 0 where
  -- it is done where the checks accept the ISA file, and has put what it says; it is refused, or
  -- the host fails, where they don't, or the file isn't there
  pub answered : Answered call (said_in files asked.isa) (OnDone (HasPrinted call))
  -- a file is opened once at most, and no more bytes taken than an ISA file may have, and one
  pub reads : ReadsAtMost 1 (isa_limit + 1) call.old.host call.new.host
  -- it writes no file, however it ends
  pub files_kept : call.new.host.files ≡ call.old.host.files

-- the same of every call: over told files, where its words ask for `validate`
abbrev pub Promise : Call → Type 0
Promise call = (files : Files) (asked : ValidateArguments) → Tells call.old.host files
    → Asks call (Validate asked)
    → Checks call files asked
