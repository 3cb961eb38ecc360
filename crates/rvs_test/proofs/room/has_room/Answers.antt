use Rattle.std.proofs.Common.{◌≤◌, ◌∙◌, List, length, sym, ap, subst}
use Rattle.rvs_points.specs.PointView.{label_view}
use Rattle.rvs_choice.specs.declared.solved.Solved.{Solved}
use Rattle.rvs_test_text.specs.Claim.{AreReady}
use Rattle.rvs_test.proofs.Ends.{same_length}
use Rattle.rvs_test.proofs.Enough.{large_enough}
use Rattle.rvs_test.proofs.Solvings.{cases_ready, cases_few}
use Rattle.rvs_test.proofs.room.has_room.Goals as goal

pub returns-then-hold-clause-room : goal.returns-then-hold-clause-room
returns-then-hold-clause-room g c =
    sym
    (large_enough c.args.spec.now (label_view c.args.label.now)
    (length c.as_slice-points.result.now) c.hold.ensures.room c.requires
    (ap length c.as_slice-points.ensures ∙ sym (same_length c.args.label.now))
    (sym c.hold.ensures.value ∙ c.if-hold.true))

pub code_bytes-requires-clause-few : goal.code_bytes-requires-clause-few
code_bytes-requires-clause-few g c =
    let P : List Solved → Type 0 = λ cs. length cs ≤ 2048 in
    subst P (sym (c.as_slice-cases.ensures ∙ c.in_ok-found.ensures.cases))
    (cases_few c.args.spec.now (label_view c.args.label.now) c.requires)

pub code_bytes-requires-clause-ready : goal.code_bytes-requires-clause-ready
code_bytes-requires-clause-ready g c =
    subst (AreReady c.args.spec.now)
    (sym (c.as_slice-cases.ensures ∙ c.in_ok-found.ensures.cases))
    (cases_ready c.args.spec.now c.hold.ensures.room (label_view c.args.label.now) c.requires)

pub hold-has-requires : goal.hold-has-requires
hold-has-requires g c = record { few = code_bytes-requires-clause-few g c.before }
