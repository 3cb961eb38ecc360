use Rattle.rvs_words.proofs.CommandWords.{generate-of, of-values}
use Rattle.rvs_words.proofs.group_commands.generate_asked.Goals as goal

pub returns : goal.returns
returns c =
    generate-of (of-values c.args.pairs.now) c.in_ok-isa.isa c.in_ok-work.work c.in_ok-isa.groups
    c.in_ok-part.part c.in_ok-isa.families c.in_ok-isa.ensures.read.0
    c.in_ok-isa.ensures.read.1.0 c.in_ok-work.ensures c.in_ok-part.ensures
    c.in_ok-isa.ensures.read.1.1
