use Rattle.std.proofs.Common.{sym, ap, ◌∙◌}
use Rattle.std.specs.Prelude.{option_map}
use Rattle.rvs_expr.specs.TypedView as typed
use Rattle.rvs_cross.specs.Windows.{meets}
use Rattle.rvs_cross.proofs.Naming.{holds_listed}
use Rattle.rvs_cross.proofs.fitting.meets.Goals as goal

pub returns-in-Some-clause-value : goal.returns-in-Some-clause-value
returns-in-Some-clause-value g c =
    c.eval.ensures.value
    ∙ holds_listed c.args.values.now c.args.insn.now c.names_at.result.registers
    (typed.view c.in-Some.expr) c.names_at.ensures
    ∙ ap (λ o. meets c.args.values.now c.args.insn.now (option_map typed.view o))
    (sym c.in-Some.is)
