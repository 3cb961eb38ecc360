use Rattle.std.proofs.Common.{◌∙◌, ap}
use Rattle.std.specs.Prelude.{unwrap_or}
use Rattle.rvs_choice.specs.Choice.{ChoiceValue}
use Rattle.rvs_test.proofs.Grows.{atomic_there}
use Rattle.rvs_test.proofs.case_lines.add_atomic_lines.Goals as goal

pub returns : goal.returns
returns c =
    atomic_there c.args.choice.now c.args.k c.args.p c.args.m c.number.result _
    c.args.list.now.items _ _ _ _ c.fill_scratch.result c.fill_scratch.ensures
    (ap (λ (v : ChoiceValue). v.op) c.choice.view_is)
    (c.number.ensures.value ∙ ap (λ (v : ChoiceValue). unwrap_or v.rs1 0) c.choice.view_is)
    c.in_ok-extend_from_slice.ensures.items c.in_ok-add_sources.ensures
    c.in_ok-add_reserve.ensures c.in_ok-add_atomic_end.ensures
