use Rattle.rvs_words.proofs.CommandWords.{of-values}
use Rattle.rvs_words.proofs.LogCommands.{coverage-of}
use Rattle.rvs_words.proofs.group_commands.coverage_asked.Goals as goal

pub returns : goal.returns
returns c =
    coverage-of (of-values c.args.pairs.now) c.in_ok-isa.isa c.in_ok-isa.groups
    c.in_ok-logs.logs c.in_ok-windows.windows c.in_ok-isa.families c.in_ok-progress.progress
    c.in_ok-isa.ensures.read.0 c.in_ok-isa.ensures.read.1.0 c.in_ok-logs.ensures
    c.in_ok-windows.ensures c.in_ok-isa.ensures.read.1.1 c.in_ok-progress.ensures
