use Rattle.std.proofs.Common.{◌∙◌, List, sym, subst}
use Rattle.std.specs.Prelude.{All}
use Rattle.rvs_test_text.specs.declared.statement.Statement.{Statement}
use Rattle.rvs_test_text.specs.Statements.{IsPrinted}
use Rattle.rvs_test.proofs.Grows.{case_printed}
use Rattle.rvs_test.proofs.writing.push_case.Goals as goal

pub push_statements-requires : goal.push_statements-requires
push_statements-requires c =
    let P : List Statement → Type 0 = λ l. All IsPrinted l in
    subst P (sym (c.as_slice.ensures.value ∙ c.in_ok-statements.ensures))
    (case_printed c.args._spec.now c.args.k c.args.solved.now c.requires.few
    c.requires.ready)
