use Rattle.std.proofs.Common.{◌≡◌, ◌∷◌, [], ◌∙◌}
use Rattle.rvs_sig.proofs.Worths.{worth_decoded, worthless}
use Rattle.rvs_sig.proofs.digits.worth.Goals as goal

pub returns-in-Ok : goal.returns-in-Ok
returns-in-Ok c =
    let is : c.as_slice.result.now ≡ 48 ∷ c.args.byte ∷ [] = c.as_slice.ensures in
    c.from.ensures
    ∙ worth_decoded c.args.byte c.decode_to_slice.new.out c.in-Ok.field-0
    (rw is at c.in-Ok.ensures.value)

pub returns-in-Err : goal.returns-in-Err
returns-in-Err c =
    let is : c.as_slice.result.now ≡ 48 ∷ c.args.byte ∷ [] = c.as_slice.ensures in
    worthless c.args.byte c.decode_to_slice.new.out c.in-Err.field-0
    (rw is at c.in-Err.ensures.value)
