use Rattle.std.proofs.Common.{rules, tests, lit<}
use Rattle.std.proofs.lemmas.Iterator.Search.{any_from_yields_List}
use Rattle.std.proofs.lemmas.Iterator.Splits.{YieldsList-from_str_split}
use Rattle.rvs_cross.specs.Entries.{has_class}
use Rattle.rvs_cross.proofs.parsing.any_class.Goals as goal

pub returns : goal.returns
returns c =
    any_from_yields_List has_class _ _ c.any.result c.any.ensures.ran
    (YieldsList-from_str_split 58 c.args.list.now (lit< tt) c.split.ensures.text
    c.split.ensures.has_more c.split.ensures.pattern)
    (λ x b q k. search (rules, tests))
