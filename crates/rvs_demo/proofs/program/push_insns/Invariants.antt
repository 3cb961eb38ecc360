use Rattle.std.proofs.Common.{◌≡◌, ◌++◌, take}
use Rattle.rvs_demo.specs.Program.{code}
use Rattle.rvs_demo.proofs.program.push_insns.Given as goal

abbrev pub invariant-loop-insn : goal.invariant-loop-insn
invariant-loop-insn l = l.text.items ≡ l.fn.text.items ++ code (take l.insn-index l.insns)
