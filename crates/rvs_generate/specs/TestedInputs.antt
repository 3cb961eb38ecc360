-- What tests are made of: groups whose tests have room, and of these the labels of a part.
use Rattle.std.specs.Prelude.{ℕ, List, ◌&&◌, not, Bool, find, Option, Some, None, Result, Ok, Err}
use Rattle.rvs_base.specs.Host.{Files}
use Rattle.rvs_abstract.specs.declared.families.Families.{Families}
use Rattle.rvs_plan.specs.Plan.{Plan, Ends, gives, ◌>>=◌}
use Rattle.rvs_plan.specs.Inputs.{part}
use Rattle.rvs_plan.specs.declared.stop.Stop.{Stop}
use Rattle.rvs_plan.specs.declared.stop.Stop.TheVariants.{Refused}
use Rattle.rvs_insn.specs.Isa.{Isa}
use Rattle.rvs_cgf.specs.Groups.{Label, refusal_at, at_label}
use Rattle.rvs_points.specs.declared.refusal.CgfKind.TheVariants.{NoRoom}
use Rattle.rvs_test.specs.Made.{has_room}
use Rattle.rvs_parts.specs.Parts.{PartValue}
use Rattle.rvs_inputs.specs.GroupTexts.{group_text}
use Rattle.rvs_inputs.specs.GroupFiles.{Inputs, and_then, group_inputs, inputs_in, parted_inputs}

-- a selected label for whose test the core has no room
unfoldable pub lacks_room : Isa → Label → Bool
lacks_room isa l = l.selected && not (has_room isa l)

-- why the groups are refused for such a label
abbrev pub no_room : Label → List ℕ
no_room l = group_text (refusal_at (at_label l.name) NoRoom)

-- inputs are refused for such a label, where there is one
abbrev pub unless_for : Inputs → Option Label → Result Inputs Stop
unless_for inputs None = Ok inputs
unless_for inputs (Some l) = Err (Refused (no_room l))

-- they are, for the first such label
abbrev pub with_room : Inputs → Result Inputs Stop
with_room inputs = unless_for inputs (find (lacks_room inputs.isa) inputs.groups)

-- the same of what files give: what tests are made of
abbrev pub tested_in : Files → List ℕ → Families → List (List ℕ) → Result Inputs Stop
tested_in files isa families names = and_then (inputs_in files isa families names) with_room

abbrev pub labels_in : Files → Option PartValue → List ℕ → Families → List (List ℕ)
    → Result Inputs Stop
labels_in files part isa families names =
    and_then (tested_in files isa families names) (λ inputs. Ok (parted_inputs part inputs))

abbrev pub asks_room : Inputs → Plan Inputs
asks_room inputs = Ends (with_room inputs)

-- the same, and then there has to be room for the tests of all labels
abbrev pub tested_inputs : List ℕ → Families → List (List ℕ) → Plan Inputs
tested_inputs isa families names = group_inputs isa families names >>= asks_room

abbrev pub gives_part : Option PartValue → Inputs → Plan Inputs
gives_part part inputs = gives (parted_inputs part inputs)

-- all of them are read and checked, and the labels of a part are kept
abbrev pub part_inputs : Option PartValue → List ℕ → Families → List (List ℕ) → Plan Inputs
part_inputs part isa families names = tested_inputs isa families names >>= gives_part part
