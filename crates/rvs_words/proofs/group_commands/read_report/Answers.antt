use Rattle.rvs_words.specs.Words.{texts}
use Rattle.rvs_words.specs.Commands.{report_of, report_options}
use Rattle.rvs_words.proofs.CommandWords.{by-pairs}
use Rattle.rvs_words.proofs.group_commands.read_report.Goals as goal

pub returns : goal.returns
returns c =
    by-pairs report_options report_of (texts c.args.words.now) c.in_ok-options.options
    c.as_slice.result.now c.report_asked.result c.in_ok-options.ensures c.as_slice.ensures
    c.report_asked.ensures
