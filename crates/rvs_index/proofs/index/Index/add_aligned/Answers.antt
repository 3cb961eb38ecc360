use Rattle.std.proofs.Common.{sym, ◌∙◌}
use Rattle.rvs_index.specs.declared.asked.Asked.TheVariants.{EaAlign}
use Rattle.rvs_index.proofs.Cells.{absent_adds}
use Rattle.rvs_index.proofs.index.Index.add_aligned.Goals as goal

pub returns-in-None : goal.returns-in-None
returns-in-None c =
    absent_adds c.args.self.now c.args.facts.now.insn c.args.facts.now.first
    c.args.facts.now.second EaAlign c.args.counts.now c.requires.fits.count
    (sym c.alignment.ensures.value ∙ c.in-None.is)
