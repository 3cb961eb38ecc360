-- What `generate` does.
use Rattle.std.specs.Prelude.{ℕ, if◌then◌else◌, List, [], ◌∷◌, ◌++◌, Option}
use Rattle.std.specs.Prelude.{Some, None, codes}
use Rattle.rvs_plan.specs.Plan.{Plan, gives, writes, ◌>>=◌}
use Rattle.rvs_plan.specs.declared.status.Finish.{Finish}
use Rattle.rvs_insn.specs.Isa.{Isa}
use Rattle.rvs_cgf.specs.Groups.{Label}
use Rattle.rvs_test.specs.Made.{text_of_label}
use Rattle.rvs_inputs.specs.Printing.{print_text}
use Rattle.rvs_generate.specs.GenerateTexts.{listing}
use Rattle.rvs_inputs.specs.GroupFiles.{Inputs}
use Rattle.rvs_generate.specs.TestedInputs.{part_inputs}
use Rattle.rvs_words.specs.declared.command.GenerateArguments.{GenerateArguments}

-- the test of a label is this file
abbrev pub path_of : List ℕ → List ℕ → List ℕ
path_of work name = work ++ (codes "/" ++ (name ++ codes ".S"))

-- a text is written where there is one
abbrev pub writes_text : List ℕ → Option (List ℕ) → Plan (Unit {0})
writes_text path None = gives tt
writes_text path (Some text) = writes path text

-- the test of a selected label is written where a point of it is solved
abbrev pub writes_test : List ℕ → Isa → Label → Plan (Unit {0})
writes_test work isa l = if l.selected then writes_text (path_of work l.name) (text_of_label isa l)
    else gives tt

abbrev pub writes_tests : List ℕ → Isa → List Label → Plan (Unit {0})
writes_tests work isa [] = gives tt
writes_tests work isa (l ∷ ls) = writes_test work isa l >>= (λ _. writes_tests work isa ls)

-- the tests of all labels are written, and this is said of them
abbrev pub written_tests : List ℕ → Isa → List Label → Plan (List ℕ)
written_tests work isa groups = do
  _ ← writes_tests work isa groups
  gives (listing isa groups)

-- the tests are written in the order of their labels, and then the cases and what is left are put
abbrev pub generates : List ℕ → Inputs → Plan Finish
generates work inputs = do
  text ← written_tests work inputs.isa inputs.groups
  print_text text

-- the files are read and checked, and then the tests are made
abbrev pub generate : GenerateArguments → Plan Finish
generate asked = do
  inputs ← part_inputs asked.part asked.isa asked.families asked.groups
  generates asked.work inputs
