use Rattle.std.proofs.Common.{◌<◌, ◌≤◌, ◌^◌, ℕ, cond, Option, None, IfSome, ap, sym, subst, ◌∙◌}
use Rattle.std.proofs.Common.{arith, length}
use Rattle.std.proofs.lemmas.Bool.{le-leb}
use Rattle.rvs_base.specs.Digits.{digits_of}
use Rattle.rvs_base.proofs.Spelling.{few_are_below, few_are_small}
use Rattle.rvs_base.proofs.digits.short_number.Goals as goal

pub returns-clause-value : goal.returns-clause-value
returns-clause-value c =
    let text = c.args.digits.now in
    let short : length text ≤ c.args.most = omega arith in
    c.number_below.ensures.value ∙ few_are_below c.args.radix c.args.most text c.requires.lower
    c.requires.upper c.requires.few short
    ∙ sym (ap (λ b. cond b (digits_of c.args.radix text) None)
    (le-leb (length text) c.args.most short))

pub returns-clause-small : goal.returns-clause-small
returns-clause-small c =
    let text = c.args.digits.now in
    let short : length text ≤ c.args.most = omega arith in
    let is = c.number_below.ensures.value ∙ few_are_below c.args.radix c.args.most text
    c.requires.lower c.requires.upper c.requires.few short in
    let P : Option ℕ → Type 0 = λ o. IfSome o (λ n. n < c.args.radix ^ c.args.most) in
    subst P (sym is) (few_are_small c.args.radix c.args.most text c.requires.lower c.requires.upper
    c.requires.few short)
