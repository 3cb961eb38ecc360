use Rattle.std.proofs.Common.{◌∙◌, sym, arith}
use Rattle.std.proofs.lemmas.Bool.Decides.{nat_tests}
use Rattle.rvs_yaml.proofs.Placing.{behind-none, behind-some}
use Rattle.rvs_yaml.proofs.anchoring.is_behind.Goals as goal

pub returns-in-Some : goal.returns-in-Some
returns-in-Some c =
    let list = c.args.list.now in
    let name = c.args.name.now in
    behind-some name list.anchors.items c.args.before c.in-Some.place.now _
    (sym (list.known name) ∙ sym c.in-Some.ensures.value)
    (λ h. grind (arith, nat_tests, h)) (λ h. grind (arith, nat_tests, h))

pub returns-in-None : goal.returns-in-None
returns-in-None c =
    let list = c.args.list.now in
    let name = c.args.name.now in
    sym (behind-none name list.anchors.items c.args.before
    (sym (list.known name) ∙ sym c.in-None.ensures.value))
