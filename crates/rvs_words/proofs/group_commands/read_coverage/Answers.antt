use Rattle.rvs_words.specs.Words.{texts}
use Rattle.rvs_words.specs.Commands.{coverage_of, coverage_options}
use Rattle.rvs_words.proofs.CommandWords.{by-pairs}
use Rattle.rvs_words.proofs.group_commands.read_coverage.Goals as goal

pub returns : goal.returns
returns c =
    by-pairs coverage_options coverage_of (texts c.args.words.now) c.in_ok-options.options
    c.as_slice.result.now c.coverage_asked.result c.in_ok-options.ensures c.as_slice.ensures
    c.coverage_asked.ensures
