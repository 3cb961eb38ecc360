use Rattle.std.proofs.Common.{sym, ap, ◌∙◌, ◌∷◌}
use Rattle.std.specs.Option.{option_copied}
use Rattle.rvs_base.specs.Lines.{after}
use Rattle.rvs_asm_text.specs.Text.{trim, operands_left}
use Rattle.rvs_asm_text.proofs.Cuts.{operands_left-cut}
use Rattle.rvs_asm_text.proofs.arguments.Operands.next.Goals as goal

pub returns : goal.returns
returns c =
    sym c.self.view_is
    ∙ ap (λ o. operands_left (option_copied o)) c.in_ok-rest.was
    ∙ operands_left-cut c.in_ok-rest.rest.now
    ∙ ap (λ x. x ∷ operands_left (after 44 c.in_ok-rest.rest.now))
    (sym (c.trimmed.ensures ∙ ap trim c.cut.ensures.front))
    ∙ ap (λ o. c.trimmed.result.now ∷ operands_left o) (sym c.cut.ensures.back)
