use Rattle.std.proofs.Common.{◌≡◌, ◌++◌, List, ap, ◌∙◌, subst}
use Rattle.std.specs.Prelude.{OnOk}
use Rattle.rvs_test_text.specs.declared.statement.Statement.{Statement}
use Rattle.rvs_test_text.specs.TestText.{pointer}
use Rattle.rvs_test.specs.AtomicLines.{atomic_end, atomic_lines}
use Rattle.rvs_test.proofs.case_lines.add_atomic_case.Goals as goal

pub returns : goal.returns
unfolding atomic_end atomic_lines
returns c =
    let new = c.add_atomic_lines.new.list.items in
    let P : List Statement → Type 0 =
    λ l. OnOk c.add_atomic_lines.result (new ≡ c.args.list.now.items ++ l) in
    subst P
    (ap (λ p. atomic_lines c.args.k c.args.choice.now p c.marker.result) c.pointer.ensures.value
    ∙ ap (λ m. atomic_lines c.args.k c.args.choice.now (pointer c.args.choice.now) m)
    c.marker.ensures.value)
    c.add_atomic_lines.ensures
