-- What `normalize` does.
use Rattle.std.specs.Prelude.{ℕ, List, None}
use Rattle.rvs_abstract.specs.declared.families.Families.{Families}
use Rattle.rvs_base.specs.Answers.{seen}
use Rattle.rvs_plan.specs.Plan.{Plan, Ends, ◌>>=◌}
use Rattle.rvs_plan.specs.declared.status.Finish.{Finish}
use Rattle.rvs_insn.specs.Isa.{Isa}
use Rattle.rvs_cgf.specs.Print.{normal_text}
use Rattle.rvs_inputs.specs.Printing.{print_text}
use Rattle.rvs_inputs.specs.Specification.{specification}
use Rattle.rvs_inputs.specs.GroupFiles.{Inputs, joins_all, groups_found, group_inputs}
use Rattle.rvs_words.specs.declared.command.NormalizeArguments.{NormalizeArguments}

-- the groups are put, with all points written out
abbrev pub print_normal : Inputs → Plan Finish
print_normal inputs = print_text (normal_text inputs.groups)

-- the files are read and checked, and then the groups are put
abbrev pub normalize : NormalizeArguments → Plan Finish
normalize asked = do
  inputs ← group_inputs asked.isa asked.families asked.groups
  print_normal inputs

-- ---- the normal text alone
abbrev pub normal_files : Isa → Families → List (List ℕ) → Plan (List ℕ)
normal_files isa families names = do
  text ← joins_all None names
  Ends (seen normal_text (groups_found isa families text))

abbrev pub normal_inputs : NormalizeArguments → Plan (List ℕ)
normal_inputs asked = do
  said ← specification asked.isa
  normal_files said.spec asked.families asked.groups
