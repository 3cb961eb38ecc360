use Rattle.rvs_cross.specs.CrossView.{place_view}
use Rattle.rvs_sequences.proofs.Excluding.{none_at_rs1}
use Rattle.rvs_sequences.proofs.choosing.first_at_rs1.Goals as goal

pub returns-then-not-allows-clause-first : goal.returns-then-not-allows-clause-first
returns-then-not-allows-clause-first g c =
    none_at_rs1 c.args.values.now (place_view c.args.place.now) c.args.op c.args.imm
    c.args.rs2s.now c.args.rd c.args.rs1 c.as_slice.result.now c.allows.result c.as_slice.ensures
    c.allows.ensures c.if-not-allows.true
