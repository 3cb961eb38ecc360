use Rattle.std.proofs.Common.{◌==◌, rules, tests}
use Rattle.std.proofs.lemmas.Iterator.Search.{all_from_yields_List}
use Rattle.std.proofs.lemmas.Iterator.Splits.{YieldsList-from_slice_split}
use Rattle.rvs_isa.specs.IsaText.{is_known_name}
use Rattle.rvs_isa.proofs.isa_text.are_known.Goals as goal

pub returns : goal.returns
returns c =
    all_from_yields_List is_known_name _ _ c.all.result c.all.ensures.ran
    (YieldsList-from_slice_split _ (λ b. b == 95) c.args.list.now c.split.ensures.rest
    c.split.ensures.done c.split.ensures.closure (λ x b q k. search (rules, tests)))
    (λ x b q k. search (rules, tests))
