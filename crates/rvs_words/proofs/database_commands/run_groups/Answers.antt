use Rattle.std.proofs.Common.{ℕ, List, sym, ap, ◌∙◌}
use Rattle.rvs_words.specs.Commands.{run_groups_of}
use Rattle.rvs_words.proofs.CommandWords.{of-values, run-of}
use Rattle.rvs_words.proofs.database_commands.run_groups.Goals as goal

pub returns : goal.returns
returns c =
    let values = of-values c.args.pairs.now in
    ap (λ (name : List ℕ). run_groups_of name values) (sym c.in_ok-program.ensures)
    ∙ run-of c.in_ok-program.program values c.in_ok-isa.isa c.in_ok-device.device
    c.in_ok-device.work c.in_ok-isa.groups c.in_ok-part.part c.in_ok-isa.families
    c.in_ok-isa.ensures.read.0 c.in_ok-isa.ensures.read.1.0 c.in_ok-device.ensures.read.0
    c.in_ok-device.ensures.read.1 c.in_ok-part.ensures c.in_ok-isa.ensures.read.1.1
