use Rattle.std.proofs.Common.{take, drop, ap, ◌∙◌}
use Rattle.std.proofs.lemmas.List.{take_min, drop_min}
use Rattle.rvs_report.proofs.reporting.cut.Goals as goal

pub returns-clause-own : goal.returns-clause-own
returns-clause-own c = c.split_at.ensures.front
    ∙ ap (λ n. take n c.args.counts.now) c.min.ensures ∙ take_min c.args.count c.args.counts.now

pub returns-clause-others : goal.returns-clause-others
returns-clause-others c = c.split_at.ensures.back
    ∙ ap (λ n. drop n c.args.counts.now) c.min.ensures ∙ drop_min c.args.count c.args.counts.now
