use Rattle.std.proofs.Common.{◌≡◌, ◌<◌, ◌-◌, ◌^◌, ◌++◌}
use Rattle.rvs_demo.specs.Program.{code, generated}
use Rattle.rvs_demo.proofs.program.push_generated.Given as goal

abbrev pub invariant-loop : goal.invariant-loop
invariant-loop l =
    (l.state < 2 ^ 31)
    × (l.fn.text.items ++ code (generated l.count l.seed)
    ≡ l.text.items ++ code (generated (l.count - l.counter) l.state))
