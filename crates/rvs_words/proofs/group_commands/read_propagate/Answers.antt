use Rattle.rvs_words.specs.Words.{texts}
use Rattle.rvs_words.specs.Commands.{propagate_of, propagate_options}
use Rattle.rvs_words.proofs.CommandWords.{by-pairs}
use Rattle.rvs_words.proofs.group_commands.read_propagate.Goals as goal

pub returns : goal.returns
returns c =
    by-pairs propagate_options propagate_of (texts c.args.words.now) c.in_ok-options.options
    c.as_slice.result.now c.propagate_asked.result c.in_ok-options.ensures c.as_slice.ensures
    c.propagate_asked.ensures
