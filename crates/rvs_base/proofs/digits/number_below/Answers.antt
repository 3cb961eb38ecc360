use Rattle.std.proofs.Common.{◌+◌, get_or, drop, sym, ◌∙◌, arith, ap, length, ◌<◌, ◌≡◌, true, false}
use Rattle.std.proofs.Common.{ℕ}
use Rattle.std.specs.Prelude.{◌==◌}
use Rattle.std.proofs.lemmas.Bool.Decides.{nat_tests}
use Rattle.std.proofs.lemmas.List.{at_drop_more, at_drop_all, nil_from_length}
use Rattle.rvs_base.specs.Digits.{number_below}
use Rattle.rvs_base.proofs.Spelling.{number_below-empty, spelled_after, spelled-more, spelled-none}
use Rattle.rvs_base.proofs.Spelling.{spelled-all, spelled-end}
use Rattle.rvs_base.proofs.digits.number_below.Goals as goal

positive : (n : ℕ) → (n == 0) ≡ false → 0 < n
positive n h = grind (arith, nat_tests)

zero_length : (n : ℕ) → (n == 0) ≡ true → n ≡ 0
zero_length n h = grind (arith, nat_tests)

pub returns-in_err-value-clause-value : goal.returns-in_err-value-clause-value
returns-in_err-value-clause-value c =
    let xs = c.args.digits.now in
    let i = c.loop-byte.byte-index in
    let at = at_drop_more (spelled_after c.args.limit c.args.radix c.loop-byte.value) xs i 0
    (omega arith) in
    let none = spelled-none c.args.limit c.args.radix c.loop-byte.value (get_or xs i 0)
    (drop (i + 1) xs) (omega arith) (c.in_err-value.ensures) in
    let all = spelled-all c.args.limit c.args.radix xs
    (positive (length xs) (sym c.is_empty.ensures ∙ c.if-is_empty.false)) in
    c.from_residual.ensures ∙ sym (all ∙ sym c.loop-byte.invariant.same ∙ at ∙ none)

pub loop-byte-preserved : goal.loop-byte-preserved
loop-byte-preserved c =
    let xs = c.args.digits.now in
    let i = c.loop-byte.byte-index in
    let at = at_drop_more (spelled_after c.args.limit c.args.radix c.loop-byte.value) xs i 0
    (omega arith) in
    let next = spelled-more c.args.limit c.args.radix c.loop-byte.value (get_or xs i 0)
    c.in_ok-value.value (drop (i + 1) xs) c.in_ok-value.ensures in
    let bound = c.in_ok-value.ensures in
    record { small = omega (arith, bound); same = next ∙ sym at ∙ c.loop-byte.invariant.same }

pub returns-then-is_empty-clause-value : goal.returns-then-is_empty-clause-value
returns-then-is_empty-clause-value c =
    let e = nil_from_length c.args.digits.now
    (zero_length (length c.args.digits.now) (sym c.is_empty.ensures ∙ c.if-is_empty.true)) in
    sym (ap (number_below c.args.limit c.args.radix) e
    ∙ number_below-empty c.args.limit c.args.radix)

pub returns-clause-value : goal.returns-clause-value
returns-clause-value c =
    let xs = c.args.digits.now in
    let at = at_drop_all (spelled_after c.args.limit c.args.radix c.loop-byte.value) xs
    c.loop-byte.byte-index (omega arith) in
    sym (spelled-end c.args.limit c.args.radix c.loop-byte.value c.loop-byte.invariant.small)
    ∙ sym at ∙ c.loop-byte.invariant.same
    ∙ sym (spelled-all c.args.limit c.args.radix xs
    (positive (length xs) (sym c.is_empty.ensures ∙ c.if-is_empty.false)))
