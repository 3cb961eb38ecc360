-- A verdict is a pass exactly where the words are the same.
use Rattle.std.proofs.Common.{◌≡◌, ◌≢◌, ℕ, Bool, ◌==◌, eq-eqb, if◌then◌else◌, List}
use Rattle.std.proofs.Common.{length, Option, sym, subst, ◌∙◌, arith, rules}
use Rattle.std.specs.List.{zip, position}
use Rattle.rvs_plan.specs.declared.status.Finish.TheVariants as finish
use Rattle.rvs_sig.proofs.Differences.{agrees, differs_nowhere}
use Rattle.rvs_sig.specs.Verdicts.{differ, verdict_at, verdict_of}
use Rattle.rvs_sig.specs.declared.comparison.Verdict.TheVariants.{Same, Lengths}
use Rattle.rvs_plain.specs.Compare.{verdict_finish}

done_by : (left right : List ℕ) (lengths : Bool) (first : Option ℕ) → (length left == length right)
    ≡ lengths → position differ (zip left right) ≡ first → verdict_finish
    (if lengths then verdict_at left right first else Lengths (length left) (length right))
    ≡ finish.Done → (left ≡ right)
    × ((if lengths then verdict_at left right first else Lengths (length left) (length right))
    ≡ Same (length left))
done_by left right lengths first h is done = search (rules, agrees)

pub finish-done : (left right : List ℕ) → verdict_finish (verdict_of left right) ≡ finish.Done
    → (left ≡ right) × (verdict_of left right ≡ Same (length left))
finish-done left right done = grind (arith, done_by)

finish-same : (words : List ℕ) → verdict_finish (verdict_of words words) ≡ finish.Done
finish-same words = simp (eq-eqb, differs_nowhere)

pub finish-not_passed : (left right : List ℕ)
    → verdict_finish (verdict_of left right) ≡ finish.NotPassed → left ≢ right
finish-not_passed left right not_passed same =
    let passed : verdict_finish (verdict_of left right) ≡ finish.Done = subst
    (λ (w : List ℕ). verdict_finish (verdict_of left w) ≡ finish.Done) same
    (finish-same left) in
    let no : finish.NotPassed ≡ finish.Done = sym not_passed ∙ passed in cc
