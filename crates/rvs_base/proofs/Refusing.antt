-- Faults that are refusals.
use Rattle.std.proofs.Common.{◌≡◌, ◌∙◌, Result, Err, ap}
use Rattle.rvs_base.specs.Answers.{IfRefused}
use Rattle.rvs_base.specs.declared.fault.Fault.TheVariants.{Refused}

pub refuses : {A R : Type 0} {found : Result A R} {refusal : R} → found ≡ Err refusal
    → IfRefused (Refused refusal) (λ r. found ≡ Err r)
refuses {A} {R} {found} {refusal} is = λ r same.
    let e : refusal ≡ r = cc in is ∙ ap (λ (x : R). Err x) e
