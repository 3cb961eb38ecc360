use Rattle.std.proofs.Common.{List, ℕ, sym, ap, ◌∙◌}
use Rattle.std.specs.Prelude.{bytes_eq}
use Rattle.rvs_asm_text.specs.Directives.{directive_name, directives}
use Rattle.rvs_asm_text.proofs.Found.{passed}
use Rattle.rvs_asm_text.proofs.directives.read_directive.Goals as goal

pub loop-directive-preserved : goal.loop-directive-preserved
loop-directive-preserved c =
    let word = c.args.word.now in
    let other = ap (λ (t : List ℕ). bytes_eq t word)
    (sym (c.as_bytes.ensures.value ∙ c.directive_text.ensures))
    ∙ sym c.eq.ensures ∙ c.if-eq.false in
    passed (λ d. bytes_eq (directive_name d) word) directives c.loop-directive.directive-index _
    c.loop-directive-test.true other
    ∙ c.loop-directive.invariant
