-- The lines of a case of an atomic row, by way of two registers that it leaves.
use Rattle.std.specs.Prelude.{ℕ, List, ◌∷◌, ◌++◌, unwrap_or}
use Rattle.rvs_solver.specs.Choices.{ChoiceValue, fields_of}
use Rattle.rvs_test_text.specs.declared.statement.Name.TheVariants.{Case, Scratch}
use Rattle.rvs_test_text.specs.declared.statement.Statement.{Statement}
use Rattle.rvs_test_text.specs.declared.statement.Statement.TheVariants.{Label, Plain}
use Rattle.rvs_test_text.specs.TestText.{fill_scratch, source, reserve, get_word, save}

-- its symbol, itself, and its outcome
unfoldable pub atomic_end : ℕ → ChoiceValue → ℕ → ℕ → List Statement
atomic_end k c p m =
    Label (Case k) ∷ Plain (fields_of c)
    ∷ (get_word p m Scratch ++ save p k (unwrap_or c.rd 0) m)

unfoldable pub atomic_lines : ℕ → ChoiceValue → ℕ → ℕ → List Statement
atomic_lines k c p m =
    fill_scratch p m
    ++ (source c.rs1 c.w1
    ++ (source c.rs2 c.w2 ++ (reserve c.op (unwrap_or c.rs1 0) m ++ atomic_end k c p m)))
