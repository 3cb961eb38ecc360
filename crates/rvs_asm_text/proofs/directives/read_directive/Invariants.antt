use Rattle.std.proofs.Common.{◌≡◌, drop}
use Rattle.std.specs.Prelude.{bytes_eq}
use Rattle.std.specs.List.{find}
use Rattle.rvs_asm_text.specs.Directives.{directive_name, directives}
use Rattle.rvs_asm_text.proofs.directives.read_directive.Given as goal

abbrev pub invariant-loop-directive : goal.invariant-loop-directive
invariant-loop-directive l =
    find (λ d. bytes_eq (directive_name d) l.word) (drop l.directive-index directives)
    ≡ find (λ d. bytes_eq (directive_name d) l.word) directives
