-- The text of a number gives it.
use Rattle.std.proofs.Common.{◌≡◌, ℕ, ◌<◌, ◌≤◌, Bool, true}
use Rattle.std.proofs.Common.{cond, List, length, get_or, Option, Some, None}
use Rattle.std.proofs.Common.{ap, ◌∙◌, arith}
use Rattle.std.proofs.lemmas.Bool.Decides.{nat_tests}
use Rattle.std.proofs.lemmas.Bool.{le-leb}
use Rattle.std.proofs.lemmas.Fmt.{length-decimal-le, first_decimal}
use Rattle.std.specs.Prelude.{◌&&◌, nat_le, unwrap_or}
use Rattle.std.specs.Fmt.{decimal}
use Rattle.rvs_words.specs.Words.{is_positional}
use Rattle.rvs_base.specs.Digits.{digits_of}
use Rattle.rvs_base.proofs.Readings.{digits_of-decimal}
use Rattle.rvs_text.specs.Options.{◌>>=◌}
use Rattle.rvs_words.specs.Commands.{number_of}
use Rattle.rvs_words.specs.declared.command.Command.{Command}
use Rattle.rvs_words.specs.declared.command.Command.TheVariants.{Unknown, Demo}
use Rattle.rvs_words.specs.CommandLaws.{StepsAreRead, CountsAreRead}

number-read : (n : ℕ) → n ≤ 9999999 → number_of (decimal n) ≡ Some n
number-read n h =
    let few = le-leb (length (decimal n)) 7
    (length-decimal-le 7 n (omega arith) (omega arith) (omega arith)) in
    ap (λ (t : Bool). cond t (digits_of 10 (decimal n)) None) few
    ∙ digits_of-decimal n (omega arith)

above-dash : (text : List ℕ) → 48 < get_or text 0 0 → is_positional text ≡ true
above-dash text h = grind arith

within : (n most : ℕ) → 1 ≤ n → n ≤ most → (nat_le 1 n && nat_le n most) ≡ true
within n most low high = grind (arith, nat_tests)

pub steps_are_read : StepsAreRead
steps_are_read n low high = grind (arith, above-dash, first_decimal, number-read, within)

-- a demonstration of this size, where there is one
abbrev of_size : Option ℕ → Command
of_size size = unwrap_or (size >>= (λ count. Some (Demo count))) Unknown

pub counts_are_read : CountsAreRead
counts_are_read program n low high = grind (arith, number-read, within)
