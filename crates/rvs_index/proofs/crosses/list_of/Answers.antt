use Rattle.std.proofs.Common.{sym, ap, ◌∙◌}
use Rattle.rvs_index.specs.Index.{places}
use Rattle.rvs_index.proofs.Absent.{none_listed}
use Rattle.rvs_index.proofs.crosses.list_of.Goals as goal

pub returns-else-is_among : goal.returns-else-is_among
returns-else-is_among c =
    ap places c.new.ensures
    ∙ none_listed c.args.labels.now c.args.lengths.now c.args.number c.requires.lengths
    c.requires.low (sym c.is_among.ensures ∙ c.if-is_among.false)
