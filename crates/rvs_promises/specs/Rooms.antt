-- What every call that makes tests promises of labels for whose tests the core has no room.
use Rattle.std.specs.Prelude.{◌≡◌, ◌⊎◌, ℕ, List, ◌∷◌, ◌++◌, [], false, Some, IsTrue, Contains}
use Rattle.std.specs.Prelude.{codes}
use Rattle.rvs_base.specs.Host.{Files}
use Rattle.rvs_base.specs.Sink.{appended}
use Rattle.rvs_plan.specs.World.{contents}
use Rattle.rvs_plan.specs.Account.{fault_line}
use Rattle.rvs_plan.specs.declared.status.Status.TheVariants.{Done, NotPassed, Refused}
use Rattle.rvs_insn.specs.Isa.{Isa}
use Rattle.rvs_cgf.specs.Groups.{Label}
use Rattle.rvs_test.specs.Made.{has_room}
use Rattle.rvs_promises.specs.Call.{Call, world_of, NothingFailed, AnswersOnly}
use Rattle.rvs_inputs.specs.GroupFiles.{Inputs}

-- of these labels, this is the first that is selected and for whose test there is no room
pub record IsFirstLacking (isa : Isa) (ls : List Label) (l : Label) : Type 0 where
  pub before : List Label
  pub after : List Label
  pub split : ls ≡ before ++ l ∷ after
  pub selected : IsTrue l.selected
  pub none : has_room isa l ≡ false
  pub others : (m : Label) → Contains before m → IsTrue m.selected → IsTrue (has_room isa m)

-- a call over these files that is refused for a label of this name
pub record IsRefusedFor (call : Call) (files : Files) (name : List ℕ) : Type 0 where
  pub refused : NothingFailed call → AnswersOnly call Refused
  -- by this line, and then it has put nothing and run no device
  pub line : call.status ≡ Refused → call.new.err.bytes ≡ appended call.old.err.bytes
      (fault_line (codes "coverage files: cgf 12 " ++ (name ++ codes " - -")) [])
  pub kept : call.status ≡ Refused → contents (world_of call.new) ≡ contents (world_of call.old)
  -- it changes no file, however it ends
  pub files_kept : (files' : Files) (other : List ℕ) → call.new.host.files ≡ Some files'
      → files' other ≡ files other

-- a call over these files that makes the tests of these inputs, or of a part of them
pub record AsksForRoom (call : Call) (files : Files) (inputs : Inputs) : Type 0 where
  -- on a core that doesn't say where its memory lies, there is room for each
  pub usual : inputs.isa.memory ≡ record { text_base = 0x8000_0000; data_base = 0x8100_0000 }
      → (l : Label) → Contains inputs.groups l → IsTrue l.selected → IsTrue (has_room inputs.isa l)
  -- where it came to its end, there is room for the test of each selected label, in the part or not
  pub room : (call.status ≡ Done) ⊎ (call.status ≡ NotPassed) → (l : Label)
      → Contains inputs.groups l → IsTrue l.selected → IsTrue (has_room inputs.isa l)
  -- where there isn't, the first such label is named
  pub refused : (l : Label) → IsFirstLacking inputs.isa inputs.groups l
      → IsRefusedFor call files l.name
