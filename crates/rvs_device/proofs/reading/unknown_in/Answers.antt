use Rattle.std.proofs.Common.{rules, tests, not}
use Rattle.std.proofs.lemmas.Iterator.{YieldsList-from_slice}
use Rattle.std.proofs.lemmas.Iterator.Search.{find_from_yields_List}
use Rattle.rvs_device.specs.Command.{is_known}
use Rattle.rvs_device.proofs.reading.unknown_in.Goals as goal

pub returns : goal.returns
returns c =
    find_from_yields_List (λ word. not (is_known word)) _ _ c.find.result c.find.ensures.ran
    (YieldsList-from_slice c.args.words.now c.iter.ensures.rest)
    (λ x b q k. search (rules, tests))
