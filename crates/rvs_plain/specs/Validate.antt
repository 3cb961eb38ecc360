-- What `validate` does.
use Rattle.rvs_plan.specs.Plan.{Plan, ◌>>=◌}
use Rattle.rvs_plan.specs.declared.status.Finish.{Finish}
use Rattle.rvs_isa.specs.Print.{checked_text}
use Rattle.rvs_isa.specs.declared.accepted_spec.AcceptedSpec.{AcceptedSpec}
use Rattle.rvs_inputs.specs.Printing.{print_text}
use Rattle.rvs_inputs.specs.Specification.{specification}
use Rattle.rvs_words.specs.declared.command.ValidateArguments.{ValidateArguments}

-- what a specification says is put
abbrev pub print_said : AcceptedSpec → Plan Finish
print_said said = print_text (checked_text said)

-- the ISA file is read and checked, and then what it says is put
abbrev pub validate : ValidateArguments → Plan Finish
validate asked = do
  said ← specification asked.isa
  print_said said
