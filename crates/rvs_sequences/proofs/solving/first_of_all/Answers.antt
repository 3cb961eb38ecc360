use Rattle.std.proofs.Common.{◌≡◌, map}
use Rattle.std.specs.Prelude.{flat_map}
use Rattle.rvs_cross.specs.declared.cross.Variable.TheVariants.{First, Second, Third}
use Rattle.rvs_cross.specs.CrossView.{place_view}
use Rattle.rvs_cross.specs.Windows.{with_second}
use Rattle.rvs_sequences.specs.Sequences.{assignments}
use Rattle.rvs_sequences.proofs.Assignments.{choices_are, assignments_are, sequence_is}
use Rattle.rvs_sequences.proofs.Assignments.{within_bound}
use Rattle.rvs_sequences.proofs.solving.first_of_all.Goals as goal

pub returns-clause-first : goal.returns-clause-first
returns-clause-first g c =
    let ps = map place_view c.args.places.now in
    let lists : flat_map (with_second c.choices_for-seconds.result.now
    c.choices_for-thirds.result.now) c.choices_for-firsts.result.now ≡ assignments ps =
    assignments_are ps c.choices_for-firsts.result.now c.choices_for-seconds.result.now
    c.choices_for-thirds.result.now
    (choices_are First c.args.places.now c.is_used.result c.choices_for-firsts.result.now
    c.is_used.ensures c.choices_for-firsts.ensures.choices)
    (choices_are Second c.args.places.now c.is_used-2.result c.choices_for-seconds.result.now
    c.is_used-2.ensures c.choices_for-seconds.ensures.choices)
    (choices_are Third c.args.places.now c.is_used-3.result c.choices_for-thirds.result.now
    c.is_used-3.ensures c.choices_for-thirds.ensures.choices) in
    sequence_is c.args.spec.now ps c.choices_for-firsts.result.now
    c.choices_for-seconds.result.now c.choices_for-thirds.result.now c.first_over_firsts.result
    lists c.first_over_firsts.ensures.first

pub returns-clause-cost : goal.returns-clause-cost
returns-clause-cost g c =
    let ps = map place_view c.args.places.now in
    let lists : flat_map (with_second c.choices_for-seconds.result.now
    c.choices_for-thirds.result.now) c.choices_for-firsts.result.now ≡ assignments ps =
    assignments_are ps c.choices_for-firsts.result.now c.choices_for-seconds.result.now
    c.choices_for-thirds.result.now
    (choices_are First c.args.places.now c.is_used.result c.choices_for-firsts.result.now
    c.is_used.ensures c.choices_for-firsts.ensures.choices)
    (choices_are Second c.args.places.now c.is_used-2.result c.choices_for-seconds.result.now
    c.is_used-2.ensures c.choices_for-seconds.ensures.choices)
    (choices_are Third c.args.places.now c.is_used-3.result c.choices_for-thirds.result.now
    c.is_used-3.ensures c.choices_for-thirds.ensures.choices) in
    within_bound c.args.spec.now ps c.choices_for-firsts.result.now
    c.choices_for-seconds.result.now c.choices_for-thirds.result.now c.first_over_firsts.new.steps
    c.args.steps.now lists c.first_over_firsts.ensures.cost
