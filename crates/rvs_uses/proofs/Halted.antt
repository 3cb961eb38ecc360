-- What holds of each run that `reference` tells of.
use Rattle.std.proofs.Common.{arith}
use Rattle.rvs_reference.specs.TestRun.{limit_of}
use Rattle.rvs_promises.proofs.Meanings.{both-halt}
use Rattle.rvs_promises.proofs.LogEntries.{halting_entries}
use Rattle.rvs_promises.proofs.StepLimits.{limits_are_low, halting-run}
use Rattle.rvs_uses.specs.Halted.{RunsHalt, LogsTellRuns, RunsAreLimited, RunsAreBounded}

pub runs-halt : RunsHalt
runs-halt = both-halt

pub logs-tell-runs : LogsTellRuns
logs-tell-runs files isa test steps run is octets =
    halting_entries files isa test steps run (both-halt files isa test steps run is) octets

pub runs-are-limited : RunsAreLimited
runs-are-limited = limits_are_low

pub runs-are-bounded : RunsAreBounded
runs-are-bounded words files asked run asks is =
    let both = both-halt files asked.isa asked.test asked.steps run is in
    let test = both.test_halts in
    let limit = limits_are_low words asked asks test.bytes in
    let long = halting-run both.said.spec (limit_of asked.steps asked.test test.bytes) test.image
    run test.halts in
    omega (arith, limit, long)
