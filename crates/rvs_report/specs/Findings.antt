-- What the files that a run left of a test say.
use Rattle.std.specs.Prelude.{ℕ, ◌+◌, ◌&&◌, not, if◌then◌else◌, List, [], length, nat_lt, bytes_eq}
use Rattle.std.specs.Prelude.{Option, Some, None, Result, Ok, Err}
use Rattle.rvs_base.specs.Host.{Files}
use Rattle.rvs_plan.specs.Plan.{Plan, Asks, gives, ◌>>=◌}
use Rattle.rvs_sig.specs.Words.{words_of, text_of_words}
use Rattle.rvs_sig.specs.Verdicts.{verdict_of}
use Rattle.rvs_sig.specs.declared.words.SigRefusal.{SigRefusal}
use Rattle.rvs_sig.specs.declared.words.SigRefusal.TheVariants.{BadLine}
use Rattle.rvs_sig.specs.declared.comparison.Verdict.{Verdict}
use Rattle.rvs_sig.specs.declared.comparison.Verdict.TheVariants as sig
use Rattle.rvs_device.specs.Command.{is_empty}
use Rattle.rvs_device.specs.Judged.{signature_limit}
use Rattle.rvs_insn.specs.Isa.{Isa}
use Rattle.rvs_page.specs.declared.shown.State.{State}
use Rattle.rvs_page.specs.declared.shown.State.TheVariants as state
use Rattle.rvs_generate.specs.Tests.{reference_words}
use Rattle.rvs_generate.specs.TestFiles.{files_of}
use Rattle.rvs_report.specs.declared.reviewing.Likeness.{Likeness}
use Rattle.rvs_report.specs.declared.reviewing.Likeness.TheVariants.{Absent, Other, Same}
use Rattle.rvs_showing.specs.declared.found.Found.{Found}
use Rattle.rvs_generate.specs.declared.gathering.Test.{Test}
use Rattle.rvs_generate.specs.declared.test_files.TestFiles.{TestFiles}

-- a file, beside what it should hold
abbrev pub likeness : List ℕ → Option (List ℕ) → Likeness
likeness expected None = Absent
likeness expected (Some bytes) = if bytes_eq bytes expected then Same else Other

-- no words are compared one by one
abbrev pub found_open : State → Found
found_open s = record { state = s; device = []; reference = [] }

-- the device's words and the reference's, by how they differ
abbrev pub compared : List ℕ → List ℕ → Verdict → Found
compared device reference (sig.Same n) = found_open (state.Pass n)
compared device reference (sig.Lengths left right) = found_open (state.Lengths left right)
compared device reference (sig.Differs at left right differing) = record {
  state = state.Differs at left right differing (length reference);
  device = device;
  reference = reference;
}

abbrev pub unspelt : SigRefusal → Found
unspelt (BadLine line) = found_open (state.BadLine line)
unspelt _ = found_open state.TooLong

abbrev pub spelt : List ℕ → Result (List ℕ) SigRefusal → Found
spelt reference (Ok words) = compared words reference (verdict_of words reference)
spelt reference (Err refusal) = unspelt refusal

-- what the device's file says, by the reference's words
abbrev pub judged_left : List ℕ → List ℕ → Found
judged_left reference bytes =
    if is_empty bytes && not (is_empty reference) then found_open state.NoSignature
    else spelt reference (words_of bytes)

abbrev pub found_on : List ℕ → Option (List ℕ) → Found
found_on reference None = found_open state.NoSignature
found_on reference (Some bytes) =
    if nat_lt signature_limit (length bytes) then found_open state.TooLong
    else judged_left reference bytes

-- ---- over given files
-- a later file says something only where the earlier are of this test
abbrev pub by_likeness : Likeness → Found → Found
by_likeness Absent next = found_open state.NotRun
by_likeness Other next = found_open state.OtherTest
by_likeness Same next = next

abbrev pub finding_in : Files → Isa → List ℕ → Test → Found
finding_in files isa work test =
    by_likeness (likeness test.text (files (files_of work test.name).test))
    (by_likeness (likeness (text_of_words (reference_words isa test))
    (files (files_of work test.name).reference))
    (found_on (reference_words isa test) (files (files_of work test.name).device)))

-- ---- as plans
-- a file that should hold this is read, up to one byte more
abbrev pub asks_like : List ℕ → List ℕ → Plan Likeness
asks_like name expected = Asks name (length expected + 1) (λ found. gives (likeness expected found))

abbrev pub if_like : Likeness → Plan Found → Plan Found
if_like Absent next = gives (found_open state.NotRun)
if_like Other next = gives (found_open state.OtherTest)
if_like Same next = next

abbrev pub finds_signature : List ℕ → List ℕ → Plan Found
finds_signature name reference =
    Asks name (signature_limit + 1) (λ left. gives (found_on reference left))

abbrev pub finds_words : TestFiles → Isa → Test → Plan Found
finds_words files isa test =
    asks_like files.reference (text_of_words (reference_words isa test))
    >>= (λ like. if_like like (finds_signature files.device (reference_words isa test)))

-- its text is read, then the reference's words, and then the device's signature
abbrev pub finds_test : Isa → List ℕ → Test → Plan Found
finds_test isa work test =
    asks_like (files_of work test.name).test test.text
    >>= (λ like. if_like like (finds_words (files_of work test.name) isa test))
