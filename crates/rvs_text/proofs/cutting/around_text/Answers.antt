use Rattle.rvs_text.proofs.Marks.{around-split}
use Rattle.rvs_text.proofs.cutting.around_text.Goals as goal

pub returns : goal.returns
returns c = around-split c.args.letters.now c.args.text.now c.split_once.result c.requires
    c.split_once.ensures.cases
