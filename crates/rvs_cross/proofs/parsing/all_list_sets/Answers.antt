use Rattle.std.proofs.Common.{rules, tests, lit<}
use Rattle.std.proofs.lemmas.Iterator.Search.{all_from_yields_List}
use Rattle.std.proofs.lemmas.Iterator.Splits.{YieldsList-from_str_split}
use Rattle.rvs_cross.specs.Entries.{lists_sets}
use Rattle.rvs_cross.proofs.parsing.all_list_sets.Goals as goal

pub returns : goal.returns
returns c =
    all_from_yields_List lists_sets _ _ c.all.result c.all.ensures.ran
    (YieldsList-from_str_split 58 c.args.list.now (lit< tt) c.split.ensures.text
    c.split.ensures.has_more c.split.ensures.pattern)
    (λ x b q k. search (rules, tests))
