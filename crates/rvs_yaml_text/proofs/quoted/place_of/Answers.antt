use Rattle.std.proofs.Common.{◌∙◌, sym, add-one}
use Rattle.rvs_yaml_text.proofs.Quoting.{byte-found, eq_test}
use Rattle.rvs_yaml_text.proofs.quoted.place_of.Goals as goal

pub returns-then-other-byte-clause-split : goal.returns-then-other-byte-clause-split
returns-then-other-byte-clause-split c =
    sym c.loop-i.invariant ∙ rw add-one at (byte-found c.args.byte c.args.bytes.now c.loop-i.i
    c.loop-i-test.true (eq_test _ _ c.if-other-byte.true))
