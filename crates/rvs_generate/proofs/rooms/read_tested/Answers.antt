use Rattle.std.proofs.Common.{◌≡◌, Some, None}
use Rattle.std.specs.Prelude.{find, option_map}
use Rattle.std.proofs.lemmas.Result.{err_from_is_err_and}
use Rattle.rvs_plan.specs.World.{world}
use Rattle.rvs_plan.proofs.Sequence.{Meets-then, Meets-stop, Meets-no_memory}
use Rattle.rvs_inputs.specs.GroupsView.{groups_view, inputs_view}
use Rattle.rvs_inputs.proofs.Accepting.{Meets-accepted_by, Meets-refused_by}
use Rattle.rvs_generate.specs.TestedInputs.{lacks_room, no_room, with_room, asks_room}
use Rattle.rvs_generate.proofs.Testable.{none-said, none-found, some-said, code-testable}
use Rattle.rvs_generate.proofs.rooms.read_tested.Goals as goal

pub returns-in_err-inputs-clause-met : goal.returns-in_err-inputs-clause-met
returns-in_err-inputs-clause-met g c = λ out.
    let p = err_from_is_err_and c.from_residual.result c.from_residual.ensures.1 in
    rw (p.1, p.2) (Meets-stop asks_room (c.in_err-inputs.ensures.met out))

pub returns-in_err-lacking-clause-met : goal.returns-in_err-lacking-clause-met
returns-in_err-lacking-clause-met g c = λ out.
    let p = err_from_is_err_and c.from_residual-in_err-lacking.result
    c.from_residual-in_err-lacking.ensures.1 in
    rw (p.1, p.2) (Meets-then asks_room (c.in_ok-inputs.ensures.met out)
    (Meets-no_memory (asks_room (inputs_view c.in_ok-inputs.inputs))
    (world (g.H.Host.state c.read_inputs.new.host) out)))

pub returns-in-None-clause-met : goal.returns-in-None-clause-met
returns-in-None-clause-met g c = λ out.
    let inputs = inputs_view c.in_ok-inputs.inputs in
    let all = rw c.in_ok-lacking.ensures.both.0 at c.first_lacking-lacking.ensures.text in
    let said : None ≡ option_map no_room (find (lacks_room inputs.isa) inputs.groups) =
    rw (c.as_slice.ensures, c.in-None.is) at all in
    rw c.in_ok-lacking.ensures.both.1 (Meets-then asks_room (c.in_ok-inputs.ensures.met out)
    (Meets-accepted_by (with_room inputs) inputs
    (world (g.H.Host.state c.read_inputs.new.host) out)
    (none-said inputs (find (lacks_room inputs.isa) inputs.groups) said)))

pub returns-in-None-clause-testable : goal.returns-in-None-clause-testable
returns-in-None-clause-testable g c =
    let inputs = c.in_ok-inputs.inputs in
    let found = find (lacks_room inputs.isa) (groups_view inputs.groups) in
    let all = rw c.in_ok-lacking.ensures.both.0 at c.first_lacking-lacking.ensures.text in
    let said : None ≡ option_map no_room found =
    rw (c.as_slice.ensures, c.in-None.is) at all in
    rw c.in_ok-lacking.ensures.both.1 (code-testable inputs.isa inputs.groups
    c.first_lacking-lacking.ensures.room c.in_ok-inputs.ensures.valid (none-found found said))

pub returns-in-Some-clause-met : goal.returns-in-Some-clause-met
returns-in-Some-clause-met g c = λ out.
    let inputs = inputs_view c.in_ok-inputs.inputs in
    let text = c.in-Some.text in
    let all = rw c.in_ok-lacking.ensures.both.0 at c.first_lacking-lacking.ensures.text in
    let said : Some text ≡ option_map no_room (find (lacks_room inputs.isa) inputs.groups) =
    rw (c.as_slice.ensures, c.in-Some.is) at all in
    Meets-then asks_room (c.in_ok-inputs.ensures.met out)
    (Meets-refused_by (with_room inputs) text (world (g.H.Host.state c.read_inputs.new.host) out)
    (some-said inputs text (find (lacks_room inputs.isa) inputs.groups) said))
