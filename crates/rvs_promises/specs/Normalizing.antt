-- What every call of `normalize` promises.
use Rattle.std.specs.Prelude.{◌≡◌, ◌≤◌, ℕ, List, [], ◌∷◌, length, map, Some, Ok}
use Rattle.rvs_base.specs.Host.{Files, Tells}
use Rattle.rvs_base.specs.Sink.{appended}
use Rattle.rvs_abstract.specs.declared.families.Families.{Families}
use Rattle.rvs_cgf.specs.Print.{normal_text}
use Rattle.rvs_cgf.specs.Spelled.{bare, selected}
use Rattle.rvs_promises.specs.Answered.{Answered, OnDone}
use Rattle.rvs_promises.specs.Call.{Call, Asks}
use Rattle.rvs_inputs.specs.GroupFiles.{Inputs, groups_limit, inputs_in}
use Rattle.rvs_words.specs.declared.command.Command.TheVariants.{Normalize}
use Rattle.rvs_words.specs.declared.command.NormalizeArguments.{NormalizeArguments}

-- the output has the groups with all points written out
abbrev pub HasPrinted : Call → Inputs → Type 0
HasPrinted call inputs =
    call.new.out.bytes ≡ appended call.old.out.bytes (normal_text inputs.groups)

-- a call of `normalize` on these of these files
pub record Normalizes (call : Call) (files : Files) (asked : NormalizeArguments) : Type
    0 where
  -- it is done where the ISA file and the groups are accepted, and has put the groups; it is
  -- refused, or the host fails, at the first file that isn't
  pub answered : Answered call (inputs_in files asked.isa asked.families asked.groups)
      (OnDone (HasPrinted call))
  -- it writes no file, however it ends
  pub files_kept : call.new.host.files ≡ call.old.host.files
  -- what it put, kept in a file within the limit of group files and read with the same ISA file,
  -- whichever families are read, gives the selected labels with the same mnemonics and points, and
  -- nothing skipped
  pub again :
      (after : Files) (families : Families) (name : List ℕ) (inputs : Inputs)
      → inputs_in files asked.isa asked.families asked.groups ≡ Ok inputs
      → length (normal_text inputs.groups) ≤ groups_limit → after asked.isa ≡ files asked.isa
      → after name ≡ Some (normal_text inputs.groups)
      → inputs_in after asked.isa families (name ∷ [])
      ≡ Ok (record { isa = inputs.isa; groups = map bare (selected inputs.groups) })

-- the same of every call: over told files, where its words ask for `normalize`
abbrev pub Promise : Call → Type 0
Promise call =
    (files : Files) (asked : NormalizeArguments)
    → Tells call.old.host files → Asks call (Normalize asked) → Normalizes call files asked
