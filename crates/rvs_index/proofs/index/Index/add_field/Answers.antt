use Rattle.std.proofs.Common.{pos, ap, ◌∙◌}
use Rattle.std.specs.Prelude.{option_map}
use Rattle.rvs_index.proofs.Cells.{absent_adds}
use Rattle.rvs_index.proofs.index.Index.add_field.Goals as goal

pub returns-in-None : goal.returns-in-None
returns-in-None c =
    absent_adds c.args.self.now c.args.facts.now.insn c.args.facts.now.first
    c.args.facts.now.second c.args.asked c.args.counts.now c.requires.fits.count
    (c.requires.fact ∙ ap (option_map (λ n. pos n)) c.in-None.is)
