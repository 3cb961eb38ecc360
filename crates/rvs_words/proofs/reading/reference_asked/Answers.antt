use Rattle.rvs_words.proofs.CommandWords.{of-values, reference-of}
use Rattle.rvs_words.proofs.reading.reference_asked.Goals as goal

pub returns : goal.returns
returns c =
    reference-of (of-values c.args.pairs.now) c.in_ok-isa.isa c.in_ok-isa.test
    c.in_ok-signature.signature c.in_ok-log.log c.in_ok-steps.steps c.in_ok-isa.ensures.read.0
    c.in_ok-isa.ensures.read.1 c.in_ok-signature.ensures c.in_ok-log.ensures c.in_ok-steps.ensures
