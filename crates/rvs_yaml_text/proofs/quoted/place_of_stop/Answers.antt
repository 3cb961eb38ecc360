use Rattle.std.proofs.Common.{◌∙◌, sym}
use Rattle.rvs_yaml_text.proofs.Quoting.{stop-found}
use Rattle.rvs_yaml_text.proofs.quoted.place_of_stop.Goals as goal

pub returns-then-is_stop-clause-split : goal.returns-then-is_stop-clause-split
returns-then-is_stop-clause-split c =
    sym c.loop-i.invariant ∙ stop-found c.args.bytes.now c.loop-i.i c.loop-i-test.true
    (sym c.is_stop.ensures ∙ c.if-is_stop.true)
