use Rattle.std.proofs.Common.{◌≡◌, ◌+◌, sym, ap, ◌∙◌, arith}
use Rattle.rvs_machine.specs.Machine.{byte_at}
use Rattle.rvs_machine.proofs.Bytewise.{first_missing, one_there, second_missing, two_there}
use Rattle.rvs_machine.proofs.Bytewise.{third_missing, fourth_missing, four_there}
use Rattle.rvs_machine.proofs.memory.load_bytewise.Goals as goal

pub byte-requires-clause-short_text : goal.byte-requires-clause-short_text
byte-requires-clause-short_text c = c.requires.short_text

pub byte-requires-clause-short_data : goal.byte-requires-clause-short_data
byte-requires-clause-short_data c = c.requires.short_data

pub returns-in_err-first : goal.returns-in_err-first
returns-in_err-first c =
    let m = c.args.memory in
    let text = c.args.text.now in
    let ram = c.args.ram.now in
    let at : c.args.address ≡ c.from-at.result = omega (arith, c.from-at.ensures) in
    let e = ap (λ x. byte_at m text ram x) at ∙ sym c.byte.ensures.value ∙ c.in_err-first.was in
    c.from_residual.ensures
    ∙ sym (first_missing m c.args.size text ram c.args.address c.requires.size e)

pub returns-then-size-eq1 : goal.returns-then-size-eq1
returns-then-size-eq1 c =
    let m = c.args.memory in
    let text = c.args.text.now in
    let ram = c.args.ram.now in
    let at : c.args.address ≡ c.from-at.result = omega (arith, c.from-at.ensures) in
    let e = ap (λ x. byte_at m text ram x) at ∙ sym c.byte.ensures.value ∙ c.in_ok-first.was in
    sym (one_there m c.args.size text ram c.args.address c.in_ok-first.first c.if-size-eq1.true e)

pub overflow_add-at : goal.overflow_add-at
overflow_add-at c = omega arith

pub byte-requires-2-clause-short_text : goal.byte-requires-2-clause-short_text
byte-requires-2-clause-short_text c = c.requires.short_text

pub byte-requires-2-clause-short_data : goal.byte-requires-2-clause-short_data
byte-requires-2-clause-short_data c = c.requires.short_data

pub returns-in_err-second : goal.returns-in_err-second
returns-in_err-second c =
    let m = c.args.memory in
    let text = c.args.text.now in
    let ram = c.args.ram.now in
    let at : c.args.address ≡ c.from-at.result = omega (arith, c.from-at.ensures) in
    let e = ap (λ x. byte_at m text ram x) at ∙ sym c.byte.ensures.value ∙ c.in_ok-first.was in
    let f = ap (λ x. byte_at m text ram (x + 1)) at ∙ sym c.byte-2.ensures.value
    ∙ c.in_err-second.was in
    c.from_residual-in_err-second.ensures
    ∙ sym (second_missing m c.args.size text ram c.args.address c.in_ok-first.first
    c.requires.size c.if-size-eq1.false e f)

pub overflow_mul-result : goal.overflow_mul-result
overflow_mul-result c = omega (arith, c.in_ok-second.ensures.small)

pub overflow_add-result : goal.overflow_add-result
overflow_add-result c = omega (arith, c.in_ok-first.ensures.small, c.in_ok-second.ensures.small)

pub returns-then-size-eq2 : goal.returns-then-size-eq2
returns-then-size-eq2 c =
    let m = c.args.memory in
    let text = c.args.text.now in
    let ram = c.args.ram.now in
    let at : c.args.address ≡ c.from-at.result = omega (arith, c.from-at.ensures) in
    let e = ap (λ x. byte_at m text ram x) at ∙ sym c.byte.ensures.value ∙ c.in_ok-first.was in
    let f = ap (λ x. byte_at m text ram (x + 1)) at ∙ sym c.byte-2.ensures.value
    ∙ c.in_ok-second.was in
    sym (two_there m c.args.size text ram c.args.address c.in_ok-first.first
    c.in_ok-second.second c.if-size-eq2.true e f)

pub overflow_add-at-2 : goal.overflow_add-at-2
overflow_add-at-2 c = omega arith

pub byte-requires-3-clause-short_text : goal.byte-requires-3-clause-short_text
byte-requires-3-clause-short_text c = c.requires.short_text

pub byte-requires-3-clause-short_data : goal.byte-requires-3-clause-short_data
byte-requires-3-clause-short_data c = c.requires.short_data

pub returns-in_err-third : goal.returns-in_err-third
returns-in_err-third c =
    let m = c.args.memory in
    let text = c.args.text.now in
    let ram = c.args.ram.now in
    let at : c.args.address ≡ c.from-at.result = omega (arith, c.from-at.ensures) in
    let e = ap (λ x. byte_at m text ram x) at ∙ sym c.byte.ensures.value ∙ c.in_ok-first.was in
    let f = ap (λ x. byte_at m text ram (x + 1)) at ∙ sym c.byte-2.ensures.value
    ∙ c.in_ok-second.was in
    let g = ap (λ x. byte_at m text ram (x + 2)) at ∙ sym c.byte-3.ensures.value
    ∙ c.in_err-third.was in
    c.from_residual-in_err-third.ensures
    ∙ sym (third_missing m c.args.size text ram c.args.address c.in_ok-first.first
    c.in_ok-second.second c.requires.size c.if-size-eq1.false c.if-size-eq2.false e f g)

pub overflow_add-at-3 : goal.overflow_add-at-3
overflow_add-at-3 c = omega arith

pub byte-requires-4-clause-short_text : goal.byte-requires-4-clause-short_text
byte-requires-4-clause-short_text c = c.requires.short_text

pub byte-requires-4-clause-short_data : goal.byte-requires-4-clause-short_data
byte-requires-4-clause-short_data c = c.requires.short_data

pub returns-in_err-fourth : goal.returns-in_err-fourth
returns-in_err-fourth c =
    let m = c.args.memory in
    let text = c.args.text.now in
    let ram = c.args.ram.now in
    let at : c.args.address ≡ c.from-at.result = omega (arith, c.from-at.ensures) in
    let e = ap (λ x. byte_at m text ram x) at ∙ sym c.byte.ensures.value ∙ c.in_ok-first.was in
    let f = ap (λ x. byte_at m text ram (x + 1)) at ∙ sym c.byte-2.ensures.value
    ∙ c.in_ok-second.was in
    let g = ap (λ x. byte_at m text ram (x + 2)) at ∙ sym c.byte-3.ensures.value
    ∙ c.in_ok-third.was in
    let h = ap (λ x. byte_at m text ram (x + 3)) at ∙ sym c.byte-4.ensures.value
    ∙ c.in_err-fourth.was in
    c.from_residual-in_err-fourth.ensures
    ∙ sym (fourth_missing m c.args.size text ram c.args.address c.in_ok-first.first
    c.in_ok-second.second c.in_ok-third.third c.requires.size c.if-size-eq1.false
    c.if-size-eq2.false e f g h)

pub overflow_mul-result-2 : goal.overflow_mul-result-2
overflow_mul-result-2 c = omega (arith, c.in_ok-second.ensures.small)

pub overflow_add-result-2 : goal.overflow_add-result-2
overflow_add-result-2 c = omega (arith, c.in_ok-first.ensures.small, c.in_ok-second.ensures.small)

pub overflow_mul-result-3 : goal.overflow_mul-result-3
overflow_mul-result-3 c = omega (arith, c.in_ok-third.ensures.small)

pub overflow_add-result-3 : goal.overflow_add-result-3
overflow_add-result-3 c =
    omega (
      arith,
      c.in_ok-first.ensures.small,
      c.in_ok-second.ensures.small,
      c.in_ok-third.ensures.small,
    )

pub overflow_mul-result-4 : goal.overflow_mul-result-4
overflow_mul-result-4 c = omega (arith, c.in_ok-fourth.ensures.small)

pub overflow_add-result-4 : goal.overflow_add-result-4
overflow_add-result-4 c =
    omega (
      arith,
      c.in_ok-first.ensures.small,
      c.in_ok-second.ensures.small,
      c.in_ok-third.ensures.small,
      c.in_ok-fourth.ensures.small,
    )

pub returns : goal.returns
returns c =
    let m = c.args.memory in
    let text = c.args.text.now in
    let ram = c.args.ram.now in
    let at : c.args.address ≡ c.from-at.result = omega (arith, c.from-at.ensures) in
    let e = ap (λ x. byte_at m text ram x) at ∙ sym c.byte.ensures.value ∙ c.in_ok-first.was in
    let f = ap (λ x. byte_at m text ram (x + 1)) at ∙ sym c.byte-2.ensures.value
    ∙ c.in_ok-second.was in
    let g = ap (λ x. byte_at m text ram (x + 2)) at ∙ sym c.byte-3.ensures.value
    ∙ c.in_ok-third.was in
    let h = ap (λ x. byte_at m text ram (x + 3)) at ∙ sym c.byte-4.ensures.value
    ∙ c.in_ok-fourth.was in
    sym (four_there m c.args.size text ram c.args.address c.in_ok-first.first
    c.in_ok-second.second c.in_ok-third.third c.in_ok-fourth.fourth c.requires.size
    c.if-size-eq1.false c.if-size-eq2.false e f g h)
