-- Names are ASCII.
use Rattle.std.proofs.Common.{◌≡◌, ℕ, suc, ◌<◌, Bool, true, List, [], ◌∷◌, take, refl}
use Rattle.std.proofs.Common.{arith}
use Rattle.std.specs.Prelude.{if◌then◌else◌}
use Rattle.std.specs.Str.{IsAscii, IsUtf8}
use Rattle.std.proofs.lemmas.Str.{IsUtf8-from_ascii}
use Rattle.std.proofs.lemmas.Str.Ascii.{IsAscii-nil}
use Rattle.std.proofs.lemmas.Bool.Decides.{nat_tests}
use Rattle.rvs_text.specs.Bytes.{continues_name, name_length}

low : (c : ℕ) → continues_name c ≡ true → c < 128
low c h = grind (arith, nat_tests)

name_by : (c : ℕ) (cs : List ℕ) (b : Bool) → continues_name c ≡ b
    → IsAscii (take (name_length cs) cs)
    → IsAscii (take (if b then suc (name_length cs) else 0) (c ∷ cs))
name_by c cs b e h = grind arith

name_ascii : (text : List ℕ) → IsAscii (take (name_length text) text)
name_ascii [] = IsAscii-nil
name_ascii (c ∷ cs) = name_by c cs (continues_name c) refl (name_ascii cs)

pub name_utf8 : (text : List ℕ) → IsUtf8 (take (name_length text) text)
name_utf8 text = IsUtf8-from_ascii (take (name_length text) text) (name_ascii text)
