use Rattle.std.proofs.Common.{ap, sym, ◌∙◌}
use Rattle.rvs_base.specs.Host.{with_left}
use Rattle.rvs_memory.specs.Memory.{held, left_of}
use Rattle.rvs_memory.proofs.Held.{held-without}
use Rattle.rvs_memory.proofs.memory_run.leave.Goals as goal

pub returns-in-Absent-clause-changed : goal.returns-in-Absent-clause-changed
returns-in-Absent-clause-changed c = λ other.
    let name = c.args.signature.now in
    let files = c.args.files.now in
    ap (λ fs. held fs other) c.remove.ensures
    ∙ held-without files name other
    ∙ ap (λ l. with_left name (left_of l (held files name)) (held files) other) (sym c.in-Absent.is)
