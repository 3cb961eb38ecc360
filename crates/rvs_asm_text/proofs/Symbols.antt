-- Symbols are ASCII.
use Rattle.std.proofs.Common.{◌≡◌, ℕ, zero, suc, ◌<◌, lit<, true, List, [], ◌∷◌}
use Rattle.std.proofs.Common.{arith, rules}
use Rattle.std.specs.List.{list_all}
use Rattle.std.specs.Str.{IsAscii, IsUtf8}
use Rattle.std.proofs.lemmas.Str.{IsUtf8-from_ascii}
use Rattle.std.proofs.lemmas.Bool.Decides.{nat_tests}
use Rattle.std.proofs.lemmas.Bool.{and_parts}
use Rattle.rvs_asm_text.specs.Operands.{begins_symbol, continues_symbol, is_symbol}

begins_low : (c : ℕ) → begins_symbol c ≡ true → c < 128
begins_low c h = grind (arith, nat_tests)

continues_low : (c : ℕ) → continues_symbol c ≡ true → c < 128
continues_low c h = grind (arith, nat_tests)

rest_ascii : (cs : List ℕ) → list_all continues_symbol cs ≡ true → IsAscii cs
rest_ascii [] h i = lit< tt
rest_ascii (c ∷ cs) h zero = grind (arith, continues_low, and_parts)
rest_ascii (c ∷ cs) h (suc i) =
    rest_ascii cs (and_parts (continues_symbol c) (list_all continues_symbol cs) h).1 i

symbol_ascii : (cs : List ℕ) → is_symbol cs ≡ true → IsAscii cs
symbol_ascii cs h = search (rules, begins_low, and_parts, rest_ascii)

pub symbol_utf8 : (cs : List ℕ) → is_symbol cs ≡ true → IsUtf8 cs
symbol_utf8 cs h = IsUtf8-from_ascii cs (symbol_ascii cs h)
