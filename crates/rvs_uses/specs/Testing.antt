-- What a caller of `generate` gets for each point that a choice of the datasets hits.
use Rattle.std.specs.Prelude.{◌≡◌, ◌≤◌, ℕ, List, length, Contains, IsTrue, Some, Ok, slice_get, map}
use Rattle.rvs_base.specs.Host.{Files}
use Rattle.rvs_insn.specs.Isa.{Isa}
use Rattle.rvs_machine.specs.Image.{ImageValue}
use Rattle.rvs_machine.specs.declared.event.End.TheVariants.{Halted}
use Rattle.rvs_asm_text.specs.Header.{header_steps}
use Rattle.rvs_asm.specs.Answer.{answer}
use Rattle.rvs_cgf.specs.Groups.{Label, Point}
use Rattle.rvs_log.specs.Logs.{as_entry}
use Rattle.rvs_index.specs.Counting.{count}
use Rattle.rvs_solver.specs.Solving.{IsSolvableAt}
use Rattle.rvs_generate.specs.Generate.{path_of}
use Rattle.rvs_inputs.specs.GroupFiles.{Inputs}
use Rattle.rvs_generate.specs.TestedInputs.{labels_in}
use Rattle.rvs_generate.specs.Tests.{run_on}
use Rattle.rvs_words.specs.declared.command.GenerateArguments.{GenerateArguments}

-- the named file is there, one image stands to its bytes, the image's run halts within the steps
-- that the bytes say, and the counter counts this point of the label in it
pub record HitsPoint (files : Files) (path : List ℕ) (isa : Isa) (l : Label) (p : Point) : Type
    0 where
  pub bytes : List ℕ
  pub there : files path ≡ Some bytes
  pub image : ImageValue
  pub alone : answer isa bytes ≡ Ok image
  pub steps : ℕ
  pub header : header_steps bytes ≡ Some steps
  pub halts : (run_on isa image steps).end ≡ Halted
  pub within : length (run_on isa image steps).trace ≤ steps
  pub counted : 1 ≤ count (map as_entry (run_on isa image steps).trace)
      (record { ops = l.ops; point = p })

-- these inputs are accepted, and the folder has a test for each point of theirs that a choice hits
pub record HasTests (files files' : Files) (asked : GenerateArguments) : Type 0 where
  pub inputs : Inputs
  pub accepted : labels_in files asked.part asked.isa asked.families asked.groups ≡ Ok inputs
  pub tests : (l : Label) (k : ℕ) (p : Point) → Contains inputs.groups l → IsTrue l.selected
      → slice_get l.points k ≡ Some p → IsSolvableAt inputs.isa l k
      → HitsPoint files' (path_of asked.work l.name) inputs.isa l p
