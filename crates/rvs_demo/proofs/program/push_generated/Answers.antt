use Rattle.std.proofs.Common.{◌≡◌, ◌+◌, ◌*◌, ◌/◌, ◌^◌, ◌++◌, arith, refl, rules}
use Rattle.std.specs.Int.{w32, to_le_bytes}
use Rattle.std.proofs.lemmas.Nat.{mod_below}
use Rattle.rvs_insn.specs.Word.{word_of}
use Rattle.rvs_demo.specs.Program.{code, drawn, generated, next_seed}
use Rattle.rvs_demo.proofs.Generated.{generated_next}
use Rattle.rvs_demo.proofs.program.push_generated.Goals as goal

pub loop-preserved : goal.loop-preserved
loop-preserved c =
    let seed = c.loop.state in
    let pushed : c.extend_from_slice.new.self.items
    ≡ c.loop.text.items ++ to_le_bytes w32 (word_of (drawn (next_seed seed / 256))) =
    search rules in (
      mod_below (seed * 1103515245 + 12345) (2 ^ 31) (omega arith),
      generated_next c.args.text.now.items c.loop.text.items c.extend_from_slice.new.self.items
          (code (generated c.args.count c.args.seed)) c.args.count c.loop.counter seed
          (next_seed seed) c.loop-test.true c.loop.invariant.1 refl pushed,
    )
