use Rattle.std.proofs.Common.{◌≡◌, List, map, length, subst, ◌∙◌}
use Rattle.std.specs.Prelude.{IfOk, All, true}
use Rattle.std.proofs.lemmas.List.{length-map}
use Rattle.rvs_cross.specs.declared.cross.Place as code
use Rattle.rvs_cross.specs.CrossView.{place_view, cross_view}
use Rattle.rvs_cross.specs.Windows.{matches}
use Rattle.rvs_sequences.specs.Sequences.{IsComputing, first_sequence}
use Rattle.rvs_cross.proofs.Turns.{some_of}
use Rattle.rvs_sequences.proofs.Solved.{answer_some, answer_none}
use Rattle.rvs_sequences.proofs.solving.solve_cross.Goals as goal

pub returns-clause-length : goal.returns-clause-length
returns-clause-length g c =
    answer_some c.args.spec.now (cross_view c.args.cross.now)
    (λ is. length is ≡ length c.args.cross.now.list)
    (λ is w. w.count ∙ length-map c.args.cross.now.list place_view) c.first_of_all.result
    (subst (λ (l : List code.Place). IfOk c.first_of_all.result
    (λ found. found ≡ first_sequence c.args.spec.now (map place_view l))) c.in_order.ensures
    c.first_of_all.ensures.first)

pub returns-clause-computing : goal.returns-clause-computing
returns-clause-computing g c =
    answer_some c.args.spec.now (cross_view c.args.cross.now)
    (λ is. All (IsComputing c.args.spec.now) is) (λ is w. w.computing) c.first_of_all.result
    (subst (λ (l : List code.Place). IfOk c.first_of_all.result
    (λ found. found ≡ first_sequence c.args.spec.now (map place_view l))) c.in_order.ensures
    c.first_of_all.ensures.first)

pub returns-clause-matching : goal.returns-clause-matching
returns-clause-matching g c =
    answer_some c.args.spec.now (cross_view c.args.cross.now)
    (λ is. matches (cross_view c.args.cross.now) (some_of is) ≡ true) (λ is w. w.matching)
    c.first_of_all.result
    (subst (λ (l : List code.Place). IfOk c.first_of_all.result
    (λ found. found ≡ first_sequence c.args.spec.now (map place_view l))) c.in_order.ensures
    c.first_of_all.ensures.first)

pub returns-clause-none : goal.returns-clause-none
returns-clause-none g c =
    answer_none c.args.spec.now (cross_view c.args.cross.now) c.first_of_all.result
    (subst (λ (l : List code.Place). IfOk c.first_of_all.result
    (λ found. found ≡ first_sequence c.args.spec.now (map place_view l))) c.in_order.ensures
    c.first_of_all.ensures.first)
