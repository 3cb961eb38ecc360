-- No run that a call asks for, or that a test's header allows, has more than 2,000,000
-- instructions.
use Rattle.std.proofs.Common.{◌≡◌, ◌≤◌, ℕ, Bool, true, false, if◌then◌else◌, List}
use Rattle.std.proofs.Common.{[], ◌∷◌, length, Option, None, unwrap_or, nat_le, codes}
use Rattle.std.proofs.Common.{arith, rules}
use Rattle.rvs_asm_text.specs.Text.{lines_of}
use Rattle.rvs_asm_text.specs.Header.{steps_number, first_steps, header_steps}
use Rattle.rvs_words.specs.Commands.{command_of, most_steps}
use Rattle.rvs_words.specs.declared.command.Command.TheVariants.{Reference}
use Rattle.rvs_words.specs.declared.command.ReferenceArguments.{ReferenceArguments}
use Rattle.rvs_insn.specs.Isa.{Isa}
use Rattle.rvs_machine.specs.Image.{ImageValue}
use Rattle.rvs_machine.proofs.Kept.{runs_are_bounded}
use Rattle.rvs_promises.specs.Halting.{Halts}
use Rattle.rvs_reference.specs.declared.test_run.Run.{Run}
use Rattle.rvs_reference.specs.TestRun.{usual_limit, limit_of}
use Rattle.rvs_promises.proofs.InAll.{InAll, none-in, chain-in, first-in}
use Rattle.rvs_promises.proofs.WordLimits.{IsLow, tested, asked-low}

-- ---- by the header of a text
number-low : (text : List ℕ) → InAll IsLow (steps_number text)
number-low text = grind (arith, chain-in, tested, nat_le)

lines-low : (lines : List (List ℕ)) → InAll IsLow (first_steps lines)
lines-low [] = none-in
lines-low (line ∷ lines) = grind (arith, first-in, chain-in, codes, number-low, (lines-low lines))

header-low : (text : List ℕ) → InAll IsLow (header_steps text)
unfolding header_steps
header-low text = lines-low (lines_of text)

usual-low : (o : Option ℕ) → InAll IsLow o → unwrap_or o usual_limit ≤ most_steps
usual-low o low = grind arith

unasked : (b : Bool) (bytes : List ℕ)
    → (if b then usual_limit else unwrap_or (header_steps bytes) usual_limit) ≤ most_steps
unasked true bytes = omega arith
unasked false bytes = usual-low (header_steps bytes) (header-low bytes)

limit-low : (steps : Option ℕ) (name bytes : List ℕ) → InAll IsLow steps
    → limit_of steps name bytes ≤ most_steps
limit-low steps name bytes low = search (rules, unasked)

pub usual_limits_are_low : (name bytes : List ℕ) → limit_of None name bytes ≤ most_steps
usual_limits_are_low name bytes = limit-low None name bytes none-in

-- a run that halts has no more instructions than its limit
pub halting-run : (isa : Isa) (limit : ℕ) (image : ImageValue) (run : Run)
    → Halts isa limit image run → length run.trace ≤ limit
halting-run isa limit image run h = grind (arith, runs_are_bounded)

pub limits_are_low : (words : List (List ℕ)) (asked : ReferenceArguments)
    → command_of words ≡ Reference asked → (bytes : List ℕ)
    → limit_of asked.steps asked.test bytes ≤ most_steps
limits_are_low words asked is bytes = grind (arith, limit-low, asked-low)
