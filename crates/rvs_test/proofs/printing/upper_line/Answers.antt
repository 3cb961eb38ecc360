use Rattle.std.proofs.Common.{◌∷◌, ◌++◌, ◌∙◌, ap}
use Rattle.std.specs.Prelude.{codes}
use Rattle.std.specs.Fmt.{decimal}
use Rattle.rvs_test.proofs.Printed.{five_digits}
use Rattle.rvs_test.proofs.printing.upper_line.Goals as goal

pub returns : goal.returns
returns c =
    c.from.ensures ∙ c.in_ok-format.ensures.ok
    ∙ ap (λ x. codes "    "
    ++ (c.args.name.now ++ 32 ∷ 120 ∷ (decimal c.args.rd ++ 44 ∷ 32 ∷ x)))
    (five_digits c.args.imm c.from-a.result c.from-b.result c.from-c.result c.from-d.result
    c.from-e.result (c.from-a.ensures ∙ c.digit.ensures) (c.from-b.ensures ∙ c.digit-2.ensures)
    (c.from-c.ensures ∙ c.digit-3.ensures) (c.from-d.ensures ∙ c.digit-4.ensures)
    (c.from-e.ensures ∙ c.digit-5.ensures))
