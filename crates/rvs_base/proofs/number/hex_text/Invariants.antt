use Rattle.std.proofs.Common.{◌≡◌, take, string_bytes}
use Rattle.rvs_base.specs.Number.{hex_word_of}
use Rattle.rvs_base.proofs.number.hex_text.Given as goal

abbrev pub invariant-loop-digit : goal.invariant-loop-digit
invariant-loop-digit l = string_bytes l.text ≡ take l.digit-index (hex_word_of l.word)
