use Rattle.rvs_words.specs.Words.{texts}
use Rattle.rvs_words.specs.Commands.{generate_of, generate_options}
use Rattle.rvs_words.proofs.CommandWords.{by-pairs}
use Rattle.rvs_words.proofs.group_commands.read_generate.Goals as goal

pub returns : goal.returns
returns c =
    by-pairs generate_options generate_of (texts c.args.words.now) c.in_ok-options.options
    c.as_slice.result.now c.generate_asked.result c.in_ok-options.ensures c.as_slice.ensures
    c.generate_asked.ensures
