use Rattle.std.proofs.Common.{◌≡◌, ◌<◌, length, sym, ap, ◌∙◌, arith, false, ℕ}
use Rattle.std.specs.Prelude.{◌==◌}
use Rattle.std.specs.Option.{option_copied}
use Rattle.std.proofs.lemmas.Bool.Decides.{nat_tests}
use Rattle.rvs_base.proofs.Cuts.{lines_split, lines_end}
use Rattle.rvs_base.proofs.lines.first_line.Goals as goal

positive : (n : ℕ) → (n == 0) ≡ false → 0 < n
positive n h = grind (arith, nat_tests)

pub returns-in-Some-clause-lines : goal.returns-in-Some-clause-lines
returns-in-Some-clause-lines c =
    lines_split c.args.text.now c.cut.result.0.now c.in-Some.rest.now
    (positive (length c.args.text.now) (sym c.if-is_empty.ensures))
    c.cut.ensures.front (sym c.cut.ensures.back ∙ ap option_copied c.in-Some.is)

pub returns-in-None-clause-lines : goal.returns-in-None-clause-lines
returns-in-None-clause-lines c =
    lines_end c.args.text.now c.cut.result.0.now
    (positive (length c.args.text.now) (sym c.if-is_empty.ensures))
    c.cut.ensures.front (sym c.cut.ensures.back ∙ ap option_copied c.in-None.is)
