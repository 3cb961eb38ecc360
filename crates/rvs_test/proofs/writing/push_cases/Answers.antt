use Rattle.std.proofs.Common.{◌+◌, ◌++◌, ◌∙◌, take, sym, ap}
use Rattle.rvs_test_text.specs.TestText.{text_of, cases, case_statements}
use Rattle.rvs_test.proofs.Grows.{begins_text, grows, ready_at}
use Rattle.rvs_test.proofs.Loops.{cases_more}
use Rattle.rvs_test.proofs.writing.push_cases.Goals as goal

pub loop-k-init : goal.loop-k-init
loop-k-init c = begins_text c.args.out.now

pub push_case-requires-clause-ready : goal.push_case-requires-clause-ready
push_case-requires-clause-ready c =
    ready_at c.args.spec.now c.args.cases.now c.loop-k.k c.index-cases-k.result c.requires.ready
    c.loop-k-test.true c.index-cases-k.is

pub loop-k-preserved : goal.loop-k-preserved
loop-k-preserved c =
    let k = c.loop-k.k in
    let s = c.index-cases-k.result in
    let cs = c.args.cases.now in
    grows c.args.out.now c.loop-k.out c.push_case.new.out (text_of (cases 0 (take k cs)))
    (text_of (cases 0 (take (k + 1) cs))) (text_of (case_statements k s)) c.loop-k.invariant
    c.in_ok-push_case.ensures
    (cases_more cs k s c.loop-k-test.true
    ∙ ap (λ x. text_of (cases 0 (take k cs)) ++ text_of (case_statements k x))
    (sym c.index-cases-k.is))
