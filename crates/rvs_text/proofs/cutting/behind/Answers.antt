use Rattle.rvs_text.proofs.Fronts.{behind-stripped}
use Rattle.rvs_text.proofs.cutting.behind.Goals as goal

pub returns : goal.returns
returns c = behind-stripped c.args.letters.now c.args.text.now c.strip_prefix.result
    c.strip_prefix.ensures.cases
