use Rattle.std.proofs.Common.{◌==◌, ◌∙◌, bytes_eq, rules, tests}
use Rattle.std.proofs.lemmas.Iterator.Consumers.{YieldsList-at, YieldsList-from_filter}
use Rattle.std.proofs.lemmas.Iterator.Consumers.{count_from_yields_List}
use Rattle.std.proofs.lemmas.Iterator.Splits.{YieldsList-from_slice_split}
use Rattle.std.proofs.lemmas.List.Sums.{length-filter}
use Rattle.rvs_isa.specs.IsaText.{names_in}
use Rattle.rvs_isa.proofs.isa_text.times.Goals as goal

pub returns : goal.returns
returns c =
    count_from_yields_List c.filter.result c.count.result c.count.ensures.ran
    (YieldsList-from_filter _ (λ n. bytes_eq n c.args.name.now)
    (YieldsList-at c.filter.ensures.source
    (YieldsList-from_slice_split _ (λ b. b == 95) c.args.list.now c.split.ensures.rest
    c.split.ensures.done c.split.ensures.closure (λ x b q k. search (rules, tests))))
    c.filter.ensures.closure
    (λ x b q k. search (rules, tests)))
    ∙ length-filter (λ n. bytes_eq n c.args.name.now) (names_in c.args.list.now)
