use Rattle.std.proofs.Common.{sym, ◌∙◌}
use Rattle.rvs_asm_text.proofs.Symbols.{symbol_utf8}
use Rattle.rvs_asm_text.proofs.names.Name.read.Goals as goal

pub returns-in-Err : goal.returns-in-Err
returns-in-Err c = absurd (c.in-Err.ensures.cases.0
    (symbol_utf8 c.args.text.now (sym c.is_symbol_text.ensures ∙ c.if-not-is_symbol_text.false)))
