use Rattle.rvs_words.specs.Words.{texts}
use Rattle.rvs_words.specs.Commands.{reference_of, reference_options}
use Rattle.rvs_words.proofs.CommandWords.{by-pairs}
use Rattle.rvs_words.proofs.reading.read_reference.Goals as goal

pub returns : goal.returns
returns c =
    by-pairs reference_options reference_of (texts c.args.words.now) c.in_ok-options.options
    c.as_slice.result.now c.reference_asked.result c.in_ok-options.ensures c.as_slice.ensures
    c.reference_asked.ensures
