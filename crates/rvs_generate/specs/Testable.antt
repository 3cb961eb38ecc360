-- Labels whose tests are made.
use Rattle.std.specs.Prelude.{◌≡◌, true, IsTrue}
use Rattle.rvs_insn.specs.Isa.{Isa}
use Rattle.rvs_insn.specs.Memory.{HasRoom}
use Rattle.rvs_cgf.specs.Groups.{Label}
use Rattle.rvs_points.specs.Valid.{IsValid}
use Rattle.rvs_test.specs.Made.{has_room}

-- a label is valid for a core, whose memory has room, and has it for the label's test
pub record IsTestable (isa : Isa) (l : Label) : Type 0 where
  pub place : HasRoom isa.memory
  pub valid : IsValid isa l
  pub room : IsTrue (has_room isa l)

-- a label that is selected is so
abbrev pub IsTestableIfSelected : Isa → Label → Type 0
IsTestableIfSelected isa l = l.selected ≡ true → IsTestable isa l
