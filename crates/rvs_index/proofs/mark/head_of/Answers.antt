use Rattle.std.proofs.Common.{◌≡◌, Option, List, IfSome, false, refl, subst, length}
use Rattle.rvs_index.specs.Marks.{HasMarks}
use Rattle.rvs_index.specs.declared.mark.Head.{Head}
use Rattle.rvs_index.specs.declared.mark.Mark.{Mark}
use Rattle.rvs_index.proofs.Filling.{head_filled}
use Rattle.rvs_index.proofs.mark.head_of.Goals as goal

pub returns-in_ok-filled-in-Some : goal.returns-in_ok-filled-in-Some
returns-in_ok-filled-in-Some c =
    let a = c.args.audience in
    let slots = c.args.slots.now in
    let filled : List Mark = c.in_ok-filled-in-Some.field-0 in
    let head : Head = record { marks = filled; more = false } in
    let has : HasMarks a slots c.in-Some.marks =
    subst (λ (o : Option (List Mark)). IfSome o (HasMarks a slots)) c.in-Some.is
    c.in_ok-marks_of.ensures.each in
    let all : length c.in-Some.marks ≡ length slots =
    subst (λ (o : Option (List Mark)). IfSome o (λ ms. length ms ≡ length slots)) c.in-Some.is
    c.in_ok-marks_of.ensures.all in
    head_filled a slots c.in-Some.marks filled head has all c.in_ok-filled-in-Some.ensures
    refl
