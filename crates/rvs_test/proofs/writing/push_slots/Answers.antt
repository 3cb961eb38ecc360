use Rattle.std.proofs.Common.{◌≡◌, ◌+◌, ◌++◌, ◌∷◌, [], ◌∙◌, ap, arith}
use Rattle.rvs_test_text.specs.declared.statement.Name.TheVariants.{Slot}
use Rattle.rvs_test_text.specs.declared.statement.Fixed.TheVariants.{Unset}
use Rattle.rvs_test_text.specs.declared.statement.Statement.TheVariants.{Label, Fixed}
use Rattle.rvs_test_text.specs.TestText.{text_of, slots}
use Rattle.rvs_test.proofs.Grows.{begins_text, grows}
use Rattle.rvs_test.proofs.Loops.{slots_more}
use Rattle.rvs_test.proofs.writing.push_slots.Goals as goal

pub loop-k-init : goal.loop-k-init
loop-k-init c = begins_text c.args.out.now

pub loop-k-preserved : goal.loop-k-preserved
loop-k-preserved c =
    let k = c.loop-k.k in
    let e : 0 + k ≡ k = omega arith in
    grows c.args.out.now c.loop-k.out c.push_statements.new.out (text_of (slots 0 k))
    (text_of (slots 0 (k + 1))) (text_of (Label (Slot k) ∷ Fixed Unset ∷ [])) c.loop-k.invariant
    c.in_ok-push_statements.ensures
    (slots_more 0 k
    ∙ ap (λ n. text_of (slots 0 k) ++ text_of (Label (Slot n) ∷ Fixed Unset ∷ [])) e)
