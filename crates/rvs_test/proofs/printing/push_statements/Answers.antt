use Rattle.std.proofs.Common.{◌+◌, ◌∷◌, ◌++◌, [], ◌∙◌, take, sym, ap, arith}
use Rattle.rvs_test_text.specs.Statements.{printed}
use Rattle.rvs_test_text.specs.TestText.{text_of}
use Rattle.rvs_test.proofs.Grows.{begins_text, grows}
use Rattle.rvs_test.proofs.Loops.{text_more}
use Rattle.rvs_test.proofs.printing.push_statements.Goals as goal

pub loop-statement-init : goal.loop-statement-init
loop-statement-init c = begins_text c.args.out.now

pub loop-statement-preserved : goal.loop-statement-preserved
loop-statement-preserved c =
    let i = c.loop-statement.statement-index in
    let s = c.statement-item.result in
    grows c.args.out.now c.loop-statement.out c.push_statement.new.out
    (text_of (take i c.args.statements.now)) (text_of (take (i + 1) c.args.statements.now))
    (printed s ++ 10 ∷ []) c.loop-statement.invariant c.in_ok-push_statement.ensures
    (text_more c.args.statements.now i s (omega arith)
    ∙ ap (λ x. text_of (take i c.args.statements.now) ++ (printed x ++ 10 ∷ []))
    (sym c.statement-item.is))
