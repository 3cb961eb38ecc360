use Rattle.std.proofs.Common.{◌≡◌, ◌+◌, ◌*◌, ◌<◌, ◌^◌, ◌∙◌, ap, arith, take, drop, length, ◌-◌}
use Rattle.std.proofs.Common.{false}
use Rattle.rvs_log.specs.Grammar.{first_write, hex_run}
use Rattle.rvs_log.proofs.Digits.{split_eight}
use Rattle.rvs_log.proofs.words.eight_digits.Goals as goal

pub returns-then-value-lt4294967296-clause-run : goal.returns-then-value-lt4294967296-clause-run
returns-then-value-lt4294967296-clause-run c =
    let high = c.four_digits-high.result in
    let low = c.four_digits-low.result in
    let none : 65536 * 0 + high ≡ high = omega arith in
    let high_low : high < 2 ^ 32 = omega (arith, c.if-value-lt4294967296.true) in
    let low_low : low < 2 ^ 32 = omega (arith, c.if-value-lt4294967296.true) in
    ap (hex_run 0) (split_eight c.args.text.now c.in-len8-up.len_at_least)
    ∙ c.four_digits-high.ensures.run high_low 0 _
    ∙ c.four_digits-low.ensures.run low_low _ _
    ∙ ap (λ n. hex_run (65536 * n + low)
    (take (length c.args.text.now - 8) (drop 8 c.args.text.now))) none

pub returns-then-value-lt4294967296-clause-later : goal.returns-then-value-lt4294967296-clause-later
returns-then-value-lt4294967296-clause-later c =
    let high = c.four_digits-high.result in
    let low = c.four_digits-low.result in
    let high_low : high < 2 ^ 32 = omega (arith, c.if-value-lt4294967296.true) in
    let low_low : low < 2 ^ 32 = omega (arith, c.if-value-lt4294967296.true) in
    ap (first_write false) (split_eight c.args.text.now c.in-len8-up.len_at_least)
    ∙ c.four_digits-high.ensures.later high_low _
    ∙ c.four_digits-low.ensures.later low_low _
