use Rattle.std.proofs.Common.{rules, tests, lit<}
use Rattle.std.proofs.lemmas.Iterator.{items_from_collect}
use Rattle.std.proofs.lemmas.Iterator.Consumers.{YieldsList-at, YieldsList-from_filter_map}
use Rattle.std.proofs.lemmas.Iterator.Splits.{YieldsList-from_str_split}
use Rattle.rvs_cross.specs.Entries.{op_named}
use Rattle.rvs_cross.proofs.entries.ops_among.Goals as goal

pub returns : goal.returns
returns c =
    items_from_collect _ c.collect.ensures.ran
    (YieldsList-from_filter_map _ op_named
    (YieldsList-at c.filter_map.ensures.source (YieldsList-from_str_split 44 c.args.names.now
    (lit< tt) c.split.ensures.text c.split.ensures.has_more c.split.ensures.pattern))
    c.filter_map.ensures.closure (λ x r q k. search (rules, tests)))
