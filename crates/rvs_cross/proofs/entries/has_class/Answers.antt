use Rattle.std.proofs.Common.{◌∙◌, ap, rules, tests, lit<}
use Rattle.std.specs.List.{list_any}
use Rattle.std.proofs.lemmas.Iterator.Search.{any_from_yields_List}
use Rattle.std.proofs.lemmas.Iterator.Splits.{YieldsList-from_str_split}
use Rattle.rvs_cross.specs.Entries.{is_class}
use Rattle.rvs_cross.proofs.entries.has_class.Goals as goal

pub returns : goal.returns
returns c =
    any_from_yields_List is_class _ _ c.any.result c.any.ensures.ran
    (YieldsList-from_str_split 44 c.listed.result.now (lit< tt) c.split.ensures.text
    c.split.ensures.has_more c.split.ensures.pattern)
    (λ x b q k. search (rules, tests))
    ∙ ap (list_any is_class) c.listed.ensures
