use Rattle.rvs_words.proofs.CommandWords.{of-values}
use Rattle.rvs_words.proofs.ReportWords.{report-of}
use Rattle.rvs_words.proofs.group_commands.report_asked.Goals as goal

pub returns : goal.returns
returns c =
    report-of (of-values c.args.pairs.now) c.in_ok-isa.isa c.in_ok-device.device c.in_ok-device.work
    c.in_ok-isa.groups c.in_ok-logs.logs c.in_ok-windows.windows c.in_ok-isa.families
    c.in_ok-isa.ensures.read.0 c.in_ok-isa.ensures.read.1.0 c.in_ok-device.ensures.read.0
    c.in_ok-device.ensures.read.1 c.in_ok-logs.ensures c.in_ok-windows.ensures
    c.in_ok-isa.ensures.read.1.1
