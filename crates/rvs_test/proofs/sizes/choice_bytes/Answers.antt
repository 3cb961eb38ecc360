use Rattle.std.proofs.Common.{◌∙◌, ap}
use Rattle.rvs_insn.specs.Table.{row}
use Rattle.rvs_insn.specs.declared.op.Format.TheVariants.{Store, Amo, LoadReserved}
use Rattle.rvs_solver.specs.Choices.{ChoiceValue}
use Rattle.rvs_test.proofs.CaseSizes.{by_form}
use Rattle.rvs_test.proofs.sizes.choice_bytes.Goals as goal

pub returns-in-Store : goal.returns-in-Store
returns-in-Store c =
    by_form c.format.result Store c.args.choice.now c.store_bytes.result
    (c.format.ensures ∙ ap (λ (x : ChoiceValue). (row x.op).form) c.choice.view_is)
    c.in-Store.is c.store_bytes.ensures

pub returns-in-Amo : goal.returns-in-Amo
returns-in-Amo c =
    by_form c.format.result Amo c.args.choice.now c.atomic_bytes.result
    (c.format.ensures ∙ ap (λ (x : ChoiceValue). (row x.op).form) c.choice.view_is)
    c.in-Amo.is c.atomic_bytes.ensures

pub returns-in-LoadReserved : goal.returns-in-LoadReserved
returns-in-LoadReserved c =
    by_form c.format.result LoadReserved c.args.choice.now c.atomic_bytes-in-LoadReserved.result
    (c.format.ensures ∙ ap (λ (x : ChoiceValue). (row x.op).form) c.choice.view_is)
    c.in-LoadReserved.is c.atomic_bytes-in-LoadReserved.ensures
