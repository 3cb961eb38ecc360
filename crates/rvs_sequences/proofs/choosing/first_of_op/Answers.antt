use Rattle.std.proofs.Common.{◌≡◌, [], sym, ap, ◌∙◌, arith}
use Rattle.std.specs.Prelude.{find}
use Rattle.rvs_insn.specs.declared.op.Format.TheVariants.{R, I, Shift}
use Rattle.rvs_cross.specs.CrossView.{place_view}
use Rattle.rvs_cross.specs.Windows.{fits}
use Rattle.rvs_sequences.specs.Sequences.{insns_of}
use Rattle.rvs_sequences.proofs.Choices.{insns_are, found_of_op, cost_of_op, no_others}
use Rattle.rvs_sequences.proofs.choosing.first_of_op.Goals as goal

pub returns-in-R-clause-first : goal.returns-in-R-clause-first
returns-in-R-clause-first g c =
    found_of_op c.args.values.now (place_view c.args.place.now) c.args.op R
    c.first_with_sources.result
    (sym c.in-R.is ∙ c.format.ensures) c.first_with_sources.ensures.first

pub returns-in-R-clause-cost : goal.returns-in-R-clause-cost
returns-in-R-clause-cost g c =
    cost_of_op c.args.op R c.first_with_sources.new.steps c.args.steps.now
    (sym c.in-R.is ∙ c.format.ensures) c.first_with_sources.ensures.cost

pub returns-in-I-clause-first : goal.returns-in-I-clause-first
returns-in-I-clause-first g c =
    found_of_op c.args.values.now (place_view c.args.place.now) c.args.op I
    c.first_with_immediate.result
    (sym c.in-I.is ∙ c.format.ensures) c.first_with_immediate.ensures.first

pub returns-in-I-clause-cost : goal.returns-in-I-clause-cost
returns-in-I-clause-cost g c =
    cost_of_op c.args.op I c.first_with_immediate.new.steps c.args.steps.now
    (sym c.in-I.is ∙ c.format.ensures) c.first_with_immediate.ensures.cost

pub returns-in-Shift-clause-first : goal.returns-in-Shift-clause-first
returns-in-Shift-clause-first g c =
    found_of_op c.args.values.now (place_view c.args.place.now) c.args.op Shift
    c.first_with_immediate-in-Shift.result
    (sym c.in-Shift.is ∙ c.format.ensures) c.first_with_immediate-in-Shift.ensures.first

pub returns-in-Shift-clause-cost : goal.returns-in-Shift-clause-cost
returns-in-Shift-clause-cost g c =
    cost_of_op c.args.op Shift c.first_with_immediate-in-Shift.new.steps c.args.steps.now
    (sym c.in-Shift.is ∙ c.format.ensures) c.first_with_immediate-in-Shift.ensures.cost

pub returns-in_default : goal.returns-in_default
returns-in_default g c =
    let empty : insns_of c.args.op ≡ [] = insns_are c.args.op c.format.result c.format.ensures
    ∙ no_others c.args.op c.format.result c.in_default.not-R c.in_default.not-I
    c.in_default.not-Shift in record {
      first = sym
          (ap (find (fits c.args.values.now (place_view c.args.place.now))) empty);
      cost = omega arith;
    }
