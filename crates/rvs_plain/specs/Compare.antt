-- What `compare` does.
use Rattle.std.specs.Prelude.{ℕ, List, length, Result}
use Rattle.rvs_plan.specs.Plan.{Plan, Ends, gives, prints, ◌>>=◌}
use Rattle.rvs_plan.specs.Inputs.{input}
use Rattle.rvs_plan.specs.Refusing.{end_at}
use Rattle.rvs_plan.specs.declared.stop.Stop.{Stop}
use Rattle.rvs_plan.specs.declared.status.Finish.{Finish}
use Rattle.rvs_plan.specs.declared.status.Finish.TheVariants.{Done, NotPassed}
use Rattle.rvs_device.specs.Judged.{signature_limit}
use Rattle.rvs_sig.specs.Printed.{refusal_text}
use Rattle.rvs_sig.specs.Words.{words_of}
use Rattle.rvs_sig.specs.Verdicts.{verdict_of}
use Rattle.rvs_sig.specs.declared.words.SigRefusal.{SigRefusal}
use Rattle.rvs_sig.specs.declared.comparison.Verdict.{Verdict}
use Rattle.rvs_sig.specs.declared.comparison.Verdict.TheVariants.{Same, Differs, Lengths}
use Rattle.rvs_plain.specs.Texts.{verdict_line}
use Rattle.rvs_words.specs.declared.command.CompareArguments.{CompareArguments}

-- the words of the named file, or its refusal
abbrev pub words_end : List ℕ → Result (List ℕ) SigRefusal → Result (List ℕ) Stop
words_end name found = end_at refusal_text name found

abbrev pub words : List ℕ → List ℕ → Plan (List ℕ)
words name bytes = Ends (words_end name (words_of bytes))

-- a signature file is read and checked
abbrev pub signature : List ℕ → Plan (List ℕ)
signature name = do
  bytes ← input signature_limit name
  words name bytes

abbrev pub verdict_finish : Verdict → Finish
verdict_finish (Same n) = Done
verdict_finish (Differs at left right differing) = NotPassed
verdict_finish (Lengths left right) = NotPassed

-- one line is put
abbrev pub announce : List ℕ → List ℕ → Plan Finish
announce left_words right_words = do
  _ ← prints (verdict_line (length left_words) (verdict_of left_words right_words))
  gives (verdict_finish (verdict_of left_words right_words))

abbrev pub compare_right : List ℕ → List ℕ → Plan Finish
compare_right right left_words = do
  right_words ← signature right
  announce left_words right_words

-- the left file is read and checked, then the right one, and then one line is put
abbrev pub compare : CompareArguments → Plan Finish
compare asked = do
  left_words ← signature asked.left
  compare_right asked.right left_words
