use Rattle.std.proofs.Common.{◌+◌, ◌++◌, ◌∷◌, [], ◌∙◌, sym, ap}
use Rattle.rvs_test_text.specs.declared.statement.Statement.TheVariants.{Plain}
use Rattle.rvs_test_text.specs.TestText.{text_of, clear}
use Rattle.rvs_test.proofs.Grows.{begins_text, grows}
use Rattle.rvs_test.proofs.Loops.{clear_more}
use Rattle.rvs_test.proofs.writing.push_clear.Goals as goal

pub loop-n-init : goal.loop-n-init
loop-n-init c = begins_text c.args.out.now

pub loop-n-preserved : goal.loop-n-preserved
loop-n-preserved c =
    let n = c.loop-n.n in
    grows c.args.out.now c.loop-n.out c.push_statements.new.out (text_of (clear 1 n))
    (text_of (clear 1 (n + 1))) (text_of (Plain c.addi.result ∷ [])) c.loop-n.invariant
    c.in_ok-push_statements.ensures
    (clear_more 1 n ∙ ap (λ i. text_of (clear 1 n) ++ text_of (Plain i ∷ [])) (sym c.addi.ensures))
