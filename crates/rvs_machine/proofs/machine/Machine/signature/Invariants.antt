use Rattle.std.proofs.Common.{◌≡◌, ◌-◌}
use Rattle.rvs_machine.specs.Machine.{words_from}
use Rattle.rvs_machine.proofs.machine.Machine.signature.Given as goal

abbrev pub invariant-loop-index : goal.invariant-loop-index
invariant-loop-index l =
    l.words ≡ words_from l.index (l.self.setup.sig_begin - l.self.setup.isa.memory.data_base)
    l.self.state.ram
