use Rattle.std.proofs.Common.{◌≡◌, ℕ, get_or, sym, ap, subst, arith}
use Rattle.rvs_sig.specs.declared.comparison.Verdict.TheVariants.{Same, Differs}
use Rattle.rvs_sig.specs.Verdicts.{FirstDiffers}
use Rattle.rvs_sig.proofs.Differences.{agrees, first_differs}
use Rattle.rvs_sig.proofs.comparison.compare.Goals as goal

same_length : {m n : ℕ} → Same m ≡ Same n → n ≡ m
same_length p = cc

not_same : {at l r d n : ℕ} → Differs at l r d ≡ Same n → ⊥
not_same p = cc

at_variant : (P : ℕ → ℕ → ℕ → Type 0) {at l r d at' l' r' d' : ℕ}
    → Differs at l r d ≡ Differs at' l' r' d' → P at l r → P at' l' r'
at_variant P {at = at} {l = l} {r = r} {at' = at'} {l' = l'} {r' = r'} p holds =
    let a : at ≡ at' = cc in
    let b : l ≡ l' = cc in
    let e : r ≡ r' = cc in
    subst (λ x. P x l' r') a (subst (λ x. P at x r') b (subst (λ x. P at l x) e holds))

pub returns-in-None-clause-same : goal.returns-in-None-clause-same
returns-in-None-clause-same c = λ n. (
  λ is. (
    agrees c.args.left.now c.args.right.now (omega arith) (sym c.in-None.ensures.first),
    same_length is,
  ),
  λ both. ap Same (sym both.1),
)

pub returns-in-Some-clause-same : goal.returns-in-Some-clause-same
returns-in-Some-clause-same c =
    let differs = first_differs c.args.left.now c.args.right.now c.in-Some.at (omega arith)
    (sym c.in-Some.ensures.first) in
    λ n. (
      λ is. absurd (not_same is),
      λ both. absurd
          (differs.differ (ap (λ xs. get_or xs c.in-Some.at 0) both.0)),
    )

pub returns-in-Some-clause-differs : goal.returns-in-Some-clause-differs
returns-in-Some-clause-differs c =
    let differs = first_differs c.args.left.now c.args.right.now c.in-Some.at (omega arith)
    (sym c.in-Some.ensures.first) in
    λ at l r d is. at_variant (FirstDiffers c.args.left.now c.args.right.now) is differs
