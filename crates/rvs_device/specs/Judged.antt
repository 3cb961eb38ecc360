-- The verdict on what a run of a device left in its signature file.
use Rattle.std.specs.Prelude.{ℕ, ℤ, ◌&&◌, not, if◌then◌else◌, List, length, nat_lt, Option, Some}
use Rattle.std.specs.Prelude.{None, Result, Ok, Err}
use Rattle.rvs_sig.specs.Words.{words_of}
use Rattle.rvs_sig.specs.Verdicts.{verdict_of}
use Rattle.rvs_sig.specs.declared.words.SigRefusal.{SigRefusal}
use Rattle.rvs_sig.specs.declared.words.SigRefusal.TheVariants.{BadLine}
use Rattle.rvs_sig.specs.declared.comparison.Verdict.{Verdict}
use Rattle.rvs_sig.specs.declared.comparison.Verdict.TheVariants as sig
use Rattle.rvs_device.specs.Command.{is_empty}
use Rattle.rvs_device.specs.declared.verdicts.TestVerdict.{TestVerdict}
use Rattle.rvs_device.specs.declared.verdicts.TestVerdict.TheVariants.{Pass, NoSignature, TooLong}
use Rattle.rvs_device.specs.declared.verdicts.TestVerdict.TheVariants.{BadSignature, Differs}
use Rattle.rvs_device.specs.declared.verdicts.TestVerdict.TheVariants.{Lengths}

-- a signature file has at most this many bytes: 262,144 lines of ten
abbrev pub signature_limit : ℕ
signature_limit = 2621440

-- the verdict by a comparison of the device's words with the reference's
abbrev pub compared : ℤ → Verdict → TestVerdict
compared status (sig.Same n) = Pass n status
compared status (sig.Differs at left right differing) = Differs at left right status
compared status (sig.Lengths left right) = Lengths left right status

-- the verdict on a file that spells no words
abbrev pub unspelt : ℤ → SigRefusal → TestVerdict
unspelt status (BadLine line) = BadSignature line status
unspelt status _ = TooLong status

-- the verdict by the words that the file spells, or why it spells none
abbrev pub spelt : ℤ → List ℕ → Result (List ℕ) SigRefusal → TestVerdict
spelt status reference (Ok words) = compared status (verdict_of words reference)
spelt status reference (Err refusal) = unspelt status refusal

-- the verdict on what was left, with the exit status of the run, beside the reference's words
abbrev pub verdict_on : ℤ → List ℕ → Option (List ℕ) → TestVerdict
verdict_on status reference None = NoSignature status
verdict_on status reference (Some bytes) =
    if nat_lt signature_limit (length bytes) then TooLong status
    else if is_empty bytes && not (is_empty reference) then NoSignature status
    else spelt status reference (words_of bytes)
