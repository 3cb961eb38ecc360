-- The worked database.
use Rattle.std.proofs.Common.{◌≡◌, ℕ, true, false, List, [], ◌∷◌, ◌&&◌, Some, None}
use Rattle.std.proofs.Common.{Result, Ok, subst, ◌∙◌, ap}
use Rattle.std.specs.Prelude.{if◌then◌else◌, ◌||◌}
use Rattle.rvs_base.specs.Answers.{Answers}
use Rattle.rvs_base.specs.declared.fault.Fault.{Fault}
use Rattle.rvs_insn.specs.Isa.{Isa}
use Rattle.rvs_insn.specs.IsaName.{isa_name}
use Rattle.rvs_tree.specs.Data.{Data}
use Rattle.rvs_condition.specs.Config.{condition}
use Rattle.rvs_select.specs.Database.{database_of, is_test_name, or_else, refusal_of, no_condition}
use Rattle.rvs_select.specs.Database.{is_met, named}
use Rattle.rvs_select.specs.Found.{unless}
use Rattle.rvs_select.specs.Worked.{both_tests, TellsPartsApart}
use Rattle.rvs_select.specs.declared.database.Entry.{Entry}
use Rattle.rvs_select.specs.declared.refusal.SelectKind.TheVariants.{BadName}
use Rattle.rvs_select.specs.declared.refusal.SelectRefusal.{SelectRefusal}

told : (isa : Isa) (one two met unmet : List ℕ)
    → is_test_name one ≡ true → is_test_name two ≡ true
    → condition (isa_name isa) isa.misaligned met ≡ Some true
    → condition (isa_name isa) isa.misaligned unmet ≡ Some false
    → database_of isa (both_tests one two met unmet)
    ≡ Ok (named one true ∷ named two false ∷ [])
unfolding database_of
told isa one two met unmet first second m u = λ k. unless
    (or_else (refusal_of one (if first k then or_else (or_else (no_condition (m k)) None)
    (or_else (or_else (no_condition (u k)) None) None) else Some BadName))
    (or_else (refusal_of two (if second k then or_else (or_else (no_condition (m k))
    (or_else (no_condition (u k)) None)) None else Some BadName)) None))
    (named one ((is_met (m k) && true) || ((is_met (u k) && true) || false))
    ∷ named two ((is_met (m k) && (is_met (u k) && true)) || false) ∷ [])

pub tells_parts_apart : (isa : Isa) (root : Data) (r : Result (List Entry) (Fault SelectRefusal))
    → Answers r (database_of isa root) → TellsPartsApart isa root r
tells_parts_apart isa root r answers one two met unmet first second m u is =
    subst (Answers r) (ap (database_of isa) is ∙ told isa one two met unmet first second m u)
    answers
