use Rattle.std.proofs.Common.{length, sym, ap, ◌∙◌}
use Rattle.std.specs.Option.{option_copied}
use Rattle.rvs_asm_text.specs.Text.{operands_left}
use Rattle.rvs_asm_text.proofs.Cuts.{length-operands_left}
use Rattle.rvs_asm_text.proofs.arguments.Operands.len.Goals as goal

pub returns-in-Some : goal.returns-in-Some
returns-in-Some c =
    c.one_more_than_commas.ensures
    ∙ sym (length-operands_left c.in-Some.text.now)
    ∙ ap (λ o. length (operands_left (option_copied o))) (sym c.in-Some.is)
    ∙ ap length c.self.view_is
