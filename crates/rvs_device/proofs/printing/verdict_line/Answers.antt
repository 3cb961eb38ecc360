use Rattle.std.proofs.Common.{◌≡◌, ◌∙◌, rules, w32, FitsSigned, to_z, of_z}
use Rattle.std.proofs.lemmas.Int.{to_z-of_z}
use Rattle.rvs_device.specs.Printed.{no_signature_line}
use Rattle.rvs_device.proofs.printing.verdict_line.Goals as goal

pub returns-in-NoSignature : goal.returns-in-NoSignature
unfolding no_signature_line
returns-in-NoSignature c =
    let fits : FitsSigned w32 c.in-NoSignature.status = search rules in
    let same : to_z w32 (of_z w32 c.in-NoSignature.status) ≡ c.in-NoSignature.status =
    to_z-of_z _ _ fits in
    rw c.in-NoSignature.is (rw same at c.fail_line.ensures)

pub returns-in_ok-right-in-Differs : goal.returns-in_ok-right-in-Differs
returns-in_ok-right-in-Differs c =
    let fits : FitsSigned w32 c.in-Differs.status = search rules in
    let same : to_z w32 (of_z w32 c.in-Differs.status) ≡ c.in-Differs.status = to_z-of_z _ _ fits in
    let line = c.differs_line.ensures c.in-Differs.left c.in-Differs.right
    (c.as_str.ensures ∙ c.in_ok-left-in-Differs.ensures)
    (c.as_str-in-Differs.ensures ∙ c.in_ok-right-in-Differs.ensures) in
    rw c.in-Differs.is (rw same at line)
