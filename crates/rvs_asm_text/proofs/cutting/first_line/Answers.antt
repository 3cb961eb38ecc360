use Rattle.std.proofs.Common.{◌∷◌, ap, sym, ◌∙◌, map}
use Rattle.rvs_base.specs.Lines.{without_return}
use Rattle.rvs_asm_text.specs.Text.{lines_of}
use Rattle.rvs_asm_text.proofs.cutting.first_line.Goals as goal

pub returns-in-Some-clause-lines : goal.returns-in-Some-clause-lines
returns-in-Some-clause-lines c =
    ap (map without_return) c.in-Some.ensures.lines
    ∙ ap (λ l. l ∷ lines_of c.in-Some.rest.now) (sym c.without_return.ensures)
