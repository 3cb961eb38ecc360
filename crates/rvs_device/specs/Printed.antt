-- The lines of verdicts, and the texts of refusals.
use Rattle.std.specs.Prelude.{ℕ, ℤ, List, ◌++◌, codes, decimal}
use Rattle.std.specs.Fmt.{signed_decimal}
use Rattle.rvs_base.specs.Number.{hex_word_of}
use Rattle.rvs_device.specs.declared.refusals.DeviceRefusal.{DeviceRefusal}
use Rattle.rvs_device.specs.declared.refusals.DeviceRefusal.TheVariants.{MissingEntry, BadCommand}
use Rattle.rvs_device.specs.declared.refusals.DeviceRefusal.TheVariants.{UnknownPlaceholder}
use Rattle.rvs_device.specs.declared.verdicts.TestVerdict.{TestVerdict}
use Rattle.rvs_device.specs.declared.verdicts.TestVerdict.TheVariants as verdict

unfoldable pub pass_line : List ℕ → ℕ → ℤ → List ℕ
pass_line label n status =
    codes "PASS " ++ (label ++ (codes " " ++ (decimal n
    ++ (codes " words, status " ++ (signed_decimal status ++ codes "\n")))))

unfoldable pub no_signature_line : List ℕ → ℤ → List ℕ
no_signature_line label status =
    codes "FAIL " ++ (label
    ++ (codes " no signature, status " ++ (signed_decimal status ++ codes "\n")))

unfoldable pub too_long_line : List ℕ → ℤ → List ℕ
too_long_line label status =
    codes "FAIL " ++ (label
    ++ (codes " signature too long, status " ++ (signed_decimal status ++ codes "\n")))

unfoldable pub bad_signature_line : List ℕ → ℕ → ℤ → List ℕ
bad_signature_line label line status =
    codes "FAIL " ++ (label ++ (codes " bad signature line " ++ (decimal line
    ++ (codes ", status " ++ (signed_decimal status ++ codes "\n")))))

unfoldable pub differs_line : List ℕ → ℕ → ℕ → ℕ → ℤ → List ℕ
differs_line label at left right status =
    codes "FAIL " ++ (label
    ++ (codes " word " ++ (decimal at ++ (codes " is " ++ (hex_word_of left
    ++ (codes " and " ++ (hex_word_of right
    ++ (codes ", status " ++ (signed_decimal status ++ codes "\n")))))))))

unfoldable pub lengths_line : List ℕ → ℕ → ℕ → ℤ → List ℕ
lengths_line label device reference status =
    codes "FAIL " ++ (label
    ++ (codes " lengths " ++ (decimal device ++ (codes " and " ++ (decimal reference
    ++ (codes ", status " ++ (signed_decimal status ++ codes "\n")))))))

-- the line of a verdict on the test of this label
abbrev pub verdict_line : List ℕ → TestVerdict → List ℕ
verdict_line label (verdict.Pass n status) = pass_line label n status
verdict_line label (verdict.NoSignature status) = no_signature_line label status
verdict_line label (verdict.TooLong status) = too_long_line label status
verdict_line label (verdict.BadSignature line status) = bad_signature_line label line status
verdict_line label (verdict.Differs at left right status) = differs_line label at left right status
verdict_line label (verdict.Lengths device reference status) =
    lengths_line label device reference status

-- the number of a refusal
abbrev pub number_of : DeviceRefusal → ℕ
number_of (MissingEntry name) = 1
number_of BadCommand = 2
number_of (UnknownPlaceholder word) = 3

-- the number, and the missing name or the whole word
abbrev pub refusal_text : DeviceRefusal → List ℕ
refusal_text (MissingEntry name) = codes "device 1 " ++ name
refusal_text BadCommand = codes "device 2"
refusal_text (UnknownPlaceholder word) = codes "device 3 " ++ word
