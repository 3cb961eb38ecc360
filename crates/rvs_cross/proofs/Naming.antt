-- What names stand for in a list is what they stand for.
use Rattle.std.proofs.Common.{◌≡◌, ℕ, List, Option, None, ap, ◌∙◌, arith}
use Rattle.std.specs.Prelude.{slice_index_or}
use Rattle.rvs_insn.specs.Fields.{Fields}
use Rattle.rvs_expr_text.specs.declared.lexeme.RegName.{RegName}
use Rattle.rvs_expr.specs.Typed.{Formula}
use Rattle.rvs_expr.specs.Meaning.{holds}
use Rattle.rvs_expr.specs.Total.{reg_place}
use Rattle.rvs_cross.specs.Windows.{Values, named, facts_with}
use Rattle.rvs_cross.specs.Listed.{registers_of, listed}

same_name : (v : Values) (i : Fields) (r : RegName)
    → slice_index_or (registers_of v i) (reg_place r) None ≡ named v i r
same_name v i r = grind arith

same_facts : (v : Values) (i : Fields) → listed (registers_of v i) ≡ facts_with v i
same_facts v i = λ k. record { reg = λ r. same_name v i r k; num = λ _. None }

pub holds_listed : (v : Values) (i : Fields) (rs : List (Option ℕ)) (f : Formula)
    → rs ≡ registers_of v i → holds (listed rs) f ≡ holds (facts_with v i) f
holds_listed v i rs f e =
    ap (λ l. holds (listed l) f) e ∙ ap (λ t. holds t f) (same_facts v i)
