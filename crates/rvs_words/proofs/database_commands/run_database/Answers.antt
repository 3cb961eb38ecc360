use Rattle.std.proofs.Common.{ℕ, List, sym, ap, ◌∙◌}
use Rattle.rvs_words.specs.Commands.{run_database_of}
use Rattle.rvs_words.proofs.CommandWords.{of-values}
use Rattle.rvs_words.proofs.DatabaseWords.{run-database-of}
use Rattle.rvs_words.proofs.database_commands.run_database.Goals as goal

pub returns : goal.returns
returns c =
    let values = of-values c.args.pairs.now in
    ap (λ (name : List ℕ). run_database_of name values) (sym c.in_ok-program.ensures)
    ∙ run-database-of c.in_ok-program.program values c.in_ok-isa.isa c.in_ok-isa.database
    c.in_ok-device.device c.in_ok-device.work c.in_ok-part.part c.in_ok-isa.ensures.read.0
    c.in_ok-isa.ensures.read.1 c.in_ok-device.ensures.read.0 c.in_ok-device.ensures.read.1
    c.in_ok-part.ensures
