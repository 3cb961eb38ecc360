use Rattle.rvs_words.specs.Words.{texts}
use Rattle.rvs_words.specs.Commands.{run_of, run_options}
use Rattle.rvs_words.proofs.CommandWords.{by-pairs}
use Rattle.rvs_words.proofs.database_commands.read_run.Goals as goal

pub returns : goal.returns
returns c =
    by-pairs run_options (run_of c.args.program.now) (texts c.args.words.now)
    c.in_ok-options.options c.as_slice.result.now c.read_source.result c.in_ok-options.ensures
    c.as_slice.ensures
    c.read_source.ensures
