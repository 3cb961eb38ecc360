use Rattle.std.proofs.Common.{◌≡◌, ℕ, ◌≤◌, arith}
use Rattle.rvs_demo.specs.Demo.{IsWhole}
use Rattle.rvs_demo.proofs.Whole.{is_whole}
use Rattle.rvs_demo.proofs.demo.demo_text.Goals as goal

whole : (n count : ℕ) → count ≡ n → count ≤ 1000000 → IsWhole n
whole n count is low = is_whole n (omega (arith, is, low))

pub returns-in_err-label-clause-whole : goal.returns-in_err-label-clause-whole
returns-in_err-label-clause-whole c =
    whole c.args.size c.count-count.result c.count-count.ensures.number c.count-count.ensures.low

pub returns-in_err-groups-clause-whole : goal.returns-in_err-groups-clause-whole
returns-in_err-groups-clause-whole c =
    whole c.args.size c.count-count.result c.count-count.ensures.number c.count-count.ensures.low

pub returns-in_err-report-clause-whole : goal.returns-in_err-report-clause-whole
returns-in_err-report-clause-whole c =
    whole c.args.size c.count-count.result c.count-count.ensures.number c.count-count.ensures.low

pub returns-in_err-format-clause-whole : goal.returns-in_err-format-clause-whole
returns-in_err-format-clause-whole c =
    whole c.args.size c.count-count.result c.count-count.ensures.number c.count-count.ensures.low

pub returns-clause-whole : goal.returns-clause-whole
returns-clause-whole c =
    whole c.args.size c.count-count.result c.count-count.ensures.number c.count-count.ensures.low
