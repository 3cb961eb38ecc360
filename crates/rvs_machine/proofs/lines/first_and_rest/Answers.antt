use Rattle.std.proofs.Common.{◌≡◌, ℕ, Bool, true, false, cond, List, [], ◌∷◌, Some, None, refl, ap}
use Rattle.std.proofs.Common.{sym, ◌∙◌}
use Rattle.std.specs.Prelude.{◌==◌, is_some}
use Rattle.std.specs.Option.{option_copied}
use Rattle.rvs_base.specs.Lines.{before, after, without_return}
use Rattle.rvs_machine.proofs.lines.first_and_rest.Goals as goal

-- without such a byte the whole text stands before it
before-all : (b : ℕ) (cs : List ℕ) → after b cs ≡ None → before b cs ≡ cs
before-all b [] e = refl
before-all b (c ∷ cs) e = by_test (c == b) e (λ h. before-all b cs h)
  where
    by_test : (t : Bool) → cond t (Some cs) (after b cs) ≡ None
        → (after b cs ≡ None → before b cs ≡ cs) → cond t [] (c ∷ before b cs) ≡ c ∷ cs
    by_test true e rest = cc
    by_test false e rest = ap (λ l. c ∷ l) (rest e)

pub returns-in_default-None-clause-line : goal.returns-in_default-None-clause-line
returns-in_default-None-clause-line c =
    let none : after 10 c.args.bytes.now ≡ None =
    sym c.cut.ensures.back ∙ ap option_copied c.in_default-None.is-1 in
    c.cut.ensures.front ∙ before-all 10 c.args.bytes.now none
    ∙ sym (ap (λ o. cond (is_some o) (without_return (before 10 c.args.bytes.now)) c.args.bytes.now)
    none)
