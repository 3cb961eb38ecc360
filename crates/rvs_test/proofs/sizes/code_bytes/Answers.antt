use Rattle.std.proofs.Common.{◌≡◌, ◌≤◌, ◌+◌, ◌*◌, ◌∙◌, List, take, ap, sym, arith}
use Rattle.std.proofs.lemmas.List.{take_all}
use Rattle.rvs_choice.specs.declared.solved.Solved.{Solved}
use Rattle.rvs_test_text.specs.TestText.{bytes_all, cases, case_statements, last_register}
use Rattle.rvs_test.proofs.Enough.{bytes_more, case_at_low, code_is}
use Rattle.rvs_test.proofs.sizes.code_bytes.Goals as goal

pub overflow_add-bytes-in-loop-solved : goal.overflow_add-bytes-in-loop-solved
overflow_add-bytes-in-loop-solved c =
    let i = c.loop-solved.solved-index in
    let s = c.solved-item.result in
    let low : bytes_all (case_statements i s) ≤ 2100 =
    case_at_low c.args.spec.now c.args.cases.now i s c.requires.ready (omega arith)
    c.solved-item.is in
    omega (arith, c.loop-solved.invariant.low, low, c.case_bytes-bytes.ensures i, c.requires.few)

pub loop-solved-preserved : goal.loop-solved-preserved
loop-solved-preserved c =
    let i = c.loop-solved.solved-index in
    let s = c.solved-item.result in
    let more : bytes_all (cases 0 (take (i + 1) c.args.cases.now))
    ≡ bytes_all (cases 0 (take i c.args.cases.now)) + _ =
    bytes_more c.args.cases.now i s (omega arith) in
    let one = ap (λ (x : Solved). bytes_all (case_statements i x)) c.solved-item.is in
    let low : bytes_all (case_statements i s) ≤ 2100 =
    case_at_low c.args.spec.now c.args.cases.now i s c.requires.ready (omega arith)
    c.solved-item.is in
    let it = c.case_bytes-bytes.ensures i in
    record {
      bytes = omega (arith, c.loop-solved.invariant.bytes, more, one, it);
      low = omega (arith, c.loop-solved.invariant.low, low, it);
    }

pub returns : goal.returns
returns c =
    let all : take c.loop-solved.solved-index c.args.cases.now ≡ c.args.cases.now =
    take_all c.loop-solved.solved-index c.args.cases.now (omega arith) in
    c.loop-solved.invariant.bytes
    ∙ ap (λ (xs : List Solved). 4 * last_register c.args.spec.now + 20 + bytes_all (cases 0 xs)) all
    ∙ sym (code_is c.args.spec.now c.args.cases.now)
