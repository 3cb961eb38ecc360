use Rattle.std.proofs.Common.{ap}
use Rattle.rvs_solver.specs.Choices.{ChoiceValue}
use Rattle.rvs_test.proofs.CaseSizes.{atomic_is}
use Rattle.rvs_test.proofs.sizes.atomic_bytes.Goals as goal

pub returns : goal.returns
returns c =
    atomic_is c.sources.result c.reserve_bytes.result c.choice.inside.op c.args.choice.now
    c.sources.ensures.value (ap (λ (x : ChoiceValue). x.op) c.choice.view_is)
    c.reserve_bytes.ensures.value
