-- What every call of `compare` promises.
use Rattle.std.proofs.lemmas.Bool.Decides.{nat_tests}
use Rattle.std.proofs.Common.{◌≡◌, ◌+◌, ◌*◌, ℕ, List, length, Result, refl, ap}
use Rattle.std.proofs.Common.{◌∙◌, arith}
use Rattle.rvs_base.specs.Host.{Files}
use Rattle.rvs_base.specs.Sink.{appended}
use Rattle.rvs_plan.specs.Plan.{Plan, gives, followed, ◌>>=◌}
use Rattle.rvs_plan.specs.World.{Contents, IsFault}
use Rattle.rvs_plan.specs.declared.stop.Stop.{Stop}
use Rattle.rvs_plan.specs.declared.status.Finish.{Finish}
use Rattle.rvs_plan.specs.declared.status.Finish.TheVariants as finish
use Rattle.rvs_sig.specs.Verdicts.{verdict_of}
use Rattle.rvs_sig.specs.Words.{words_of}
use Rattle.rvs_sig.specs.declared.comparison.Verdict.{Verdict}
use Rattle.rvs_promises.specs.Call.{Call}
use Rattle.rvs_device.specs.Judged.{signature_limit}
use Rattle.rvs_plain.specs.Compare.{signature, words, words_end, verdict_finish}
use Rattle.rvs_plain.specs.Compare.{announce, compare}
use Rattle.rvs_promises.specs.Comparing as comparing
use Rattle.rvs_promises.specs.Comparing.{Both, words_in, both_in}
use Rattle.rvs_inputs.specs.GroupFiles.{and_then}
use Rattle.rvs_plain.specs.Texts.{verdict_line}
use Rattle.rvs_promises.proofs.Answered.{Works, RunsOn, answered}
use Rattle.rvs_inputs.proofs.Finding.{Finds}
use Rattle.rvs_inputs.proofs.GroupInputs.{finds-and_then}
use Rattle.rvs_promises.proofs.Spending.{Spends, spent}
use Rattle.rvs_inputs.proofs.Keeping.{WritesNone, reads-none}
use Rattle.rvs_promises.proofs.Running.{keeps}
use Rattle.rvs_inputs.proofs.Readers.{OnlyReads}
use Rattle.rvs_promises.proofs.Verdicts.{finish-done, finish-not_passed}
use Rattle.rvs_words.specs.declared.command.CompareArguments.{CompareArguments}

abbrev with_left : List ℕ → List ℕ → Plan Both
with_left l r = gives (record { left = l; right = r })

abbrev both_words : CompareArguments → Plan Both
both_words asked = signature asked.left >>= (λ l. signature asked.right >>= with_left l)

abbrev announce_both : Both → Plan Finish
announce_both both = announce both.left both.right

-- ---- what is read
found-words : (files : Files) (name : List ℕ) (bytes : Result (List ℕ) Stop) → Finds files
    (followed bytes (words name)) (and_then bytes (λ b. words_end name (words_of b)))
found-words files name bytes = grind arith

finds-words : (files : Files) (name : List ℕ) → Finds files (signature name) (words_in files name)
finds-words files name = grind (arith, found-words)

finds-both : (files : Files) (asked : CompareArguments)
    → Finds files (both_words asked) (both_in files asked)
finds-both files asked = grind (arith, finds-and_then, finds-words)

reads-signature : (name : List ℕ) → OnlyReads (signature name)
reads-signature name = grind arith

reads-both : (asked : CompareArguments) → OnlyReads (both_words asked)
reads-both asked = grind (arith, reads-signature)

compare-plan : (asked : CompareArguments)
    → compare asked ≡ (both_words asked >>= announce_both)
compare-plan asked = grind (arith, nat_tests)

-- ---- what is put
has_compared : (call : Call) (both : Both) (end : Finish)
    → verdict_finish (verdict_of both.left both.right) ≡ end
    → comparing.HasPut call (verdict_line (length both.left) (verdict_of both.left both.right))
    → comparing.HasCompared call both end
has_compared call both finish.Done is put =
    let same = finish-done both.left both.right is in (
      same.0,
      put ∙ ap (λ (v : Verdict). appended call.old.out.bytes
          (verdict_line (length both.left) v)) same.1,
    )
has_compared call both finish.NotPassed is put = (finish-not_passed both.left both.right is, put)

abbrev verdict_on : Both → Finish
verdict_on both = verdict_finish (verdict_of both.left both.right)

abbrev works : (files : Files) (asked : CompareArguments)
    → Works (compare asked) files (both_in files asked)
works files asked = record {
  inputs = both_words asked;
  deeds = announce_both;
  ends = verdict_on;
  plan = compare-plan asked;
  finds = finds-both files asked;
  does = λ both. refl;
}

writes-compare : (asked : CompareArguments) → WritesNone (compare asked)
writes-compare asked = grind (arith, compare-plan, reads-none, reads-both)

spends-signature : (name : List ℕ) → Spends 1 (signature_limit + 1) (signature name)
spends-signature name = grind arith

spends-compare : (asked : CompareArguments)
    → Spends 2 (2 * (signature_limit + 1)) (compare asked)
spends-compare asked = grind (arith, spends-signature)

pub compares : {call : Call} (files : Files) (asked : CompareArguments)
    → RunsOn call files IsFault (compare asked) → comparing.Compares call files asked
compares {call} files asked r = record {
  answered = answered (comparing.HasCompared call) r (works files asked)
      (λ both left. has_compared call both (verdict_on both) refl
      (ap (λ (c : Contents). c.out) left));
  reads = spent 2 (2 * (signature_limit + 1)) r (spends-compare asked);
  files_kept = keeps r.ran files r.told (writes-compare asked);
}
