use Rattle.std.proofs.Common.{◌∙◌}
use Rattle.rvs_index.proofs.Cells.{absent_adds}
use Rattle.rvs_index.proofs.index.Index.add_asked.Goals as goal

pub returns-in-None : goal.returns-in-None
returns-in-None c =
    absent_adds c.args.self.now c.args.facts.now.insn c.args.facts.now.first
    c.args.facts.now.second c.args.asked c.args.counts.now c.requires.fits.count
    (c.requires.fact ∙ c.in-None.is)
