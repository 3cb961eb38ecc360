-- That a command which stops for its words, its inputs or their absence has changed nothing.
use Rattle.std.proofs.Common.{◌≡◌, ◌⊎◌, inl, inr, ℕ, Bool, if◌then◌else◌, List, []}
use Rattle.std.proofs.Common.{◌∷◌, Option, Some, Result, Ok, Err, refl}
use Rattle.std.proofs.Common.{arith, rules}
use Rattle.std.specs.Prelude.{⊤}
use Rattle.rvs_base.specs.Host.{Files, Tells, with_left}
use Rattle.rvs_base.specs.Sink.{SinkState}
use Rattle.rvs_plan.specs.World.{World, Contents, contents, Absence}
use Rattle.rvs_plan.specs.Effect.{Answer, Effect, Read, Device, Did, after}
use Rattle.rvs_plan.specs.Plan.{Plan, Ends, Does, Asks, Runs, Goes, followed, gives, ◌>>=◌}
use Rattle.rvs_plan.specs.Performed.{end_of, files_after}
use Rattle.rvs_plan.specs.Meets.{Completes, Halts}
use Rattle.rvs_plan.specs.Account.{status_of, HostRose}
use Rattle.rvs_plan.specs.declared.stop.Stop.{Stop}
use Rattle.rvs_plan.specs.declared.status.Status.{Status}
use Rattle.rvs_plan.specs.declared.status.Status.TheVariants as answer
use Rattle.rvs_plan.specs.declared.status.Finish.{Finish}
use Rattle.rvs_insn.specs.Isa.{Isa}
use Rattle.rvs_plain.specs.Compare as comparing
use Rattle.rvs_plain.specs.Validate.{print_said, validate}
use Rattle.rvs_inputs.specs.Specification.{specification}
use Rattle.rvs_cgf.specs.Groups.{Label}
use Rattle.rvs_inputs.specs.GroupFiles.{Inputs, group_inputs}
use Rattle.rvs_generate.specs.TestedInputs.{part_inputs}
use Rattle.rvs_generate.specs.Generate.{writes_text, writes_tests}
use Rattle.rvs_generate.specs.Generate.{generates, generate}
use Rattle.rvs_plain.specs.Normalize.{print_normal, normalize}
use Rattle.rvs_inputs.specs.Printing.{print_text}
use Rattle.rvs_coverage.specs.Coverage as covering
use Rattle.rvs_propagate.specs.Propagate as propagating
use Rattle.rvs_reference.specs.Reference.{trial, records, reference_on, reference}
use Rattle.rvs_promises.proofs.Ends.{was_refused, WasMissing, was_missing}
use Rattle.rvs_inputs.proofs.Readers.{OnlyReads}
use Rattle.rvs_inputs.proofs.GroupInputs.{reads-specification, reads-inputs}
use Rattle.rvs_promises.proofs.TestedInputs.{reads-labels}
use Rattle.rvs_coverage.proofs.LogReads.{reads-reported}
use Rattle.rvs_plain.specs.Select.{reads_selection, print_selection, select}
use Rattle.rvs_plain.specs.Demonstrate.{demonstrate}
use Rattle.rvs_promises.proofs.Running.{Ran, at_status}
use Rattle.rvs_promises.proofs.SelectionReads.{reads-selection}
use Rattle.rvs_reference.specs.declared.test_run.Run.{Run as TestRun}
use Rattle.rvs_words.specs.declared.command.CompareArguments.{CompareArguments}
use Rattle.rvs_words.specs.declared.command.ValidateArguments.{ValidateArguments}
use Rattle.rvs_words.specs.declared.command.NormalizeArguments.{NormalizeArguments}
use Rattle.rvs_words.specs.declared.command.GenerateArguments.{GenerateArguments}
use Rattle.rvs_words.specs.declared.command.CoverageArguments.{CoverageArguments}
use Rattle.rvs_words.specs.declared.command.PropagateArguments.{PropagateArguments}
use Rattle.rvs_words.specs.declared.command.SelectArguments.{SelectArguments}
use Rattle.rvs_words.specs.declared.command.ReferenceArguments.{ReferenceArguments}

-- a plan that doesn't stop, whatever is found and answered
abbrev pub NeverStops : {A : Type 0} → Plan A → Type 0
NeverStops (Ends (Ok a)) = ⊤
NeverStops (Ends (Err stop)) = ⊥
NeverStops (Does deed plan) = NeverStops plan
NeverStops (Asks name bound next) = (found : Option (List ℕ)) → NeverStops (next found)
NeverStops (Runs words test signature next) = (answer : Answer) → NeverStops (next answer)

-- where the plan stops, nothing was changed
abbrev pub StopsUntouched : {A : Type 0} → Plan A → Type 0
StopsUntouched plan = (effects : List Effect) (stop : Stop) (c : Contents)
    → Goes plan effects (Ends (Err stop)) → after effects c ≡ c

pub goes-on : {A : Type 0} (plan : Plan A) (effects : List Effect) (stop : Stop) → NeverStops plan
    → Goes plan effects (Ends (Err stop)) → ⊥
goes-on (Ends (Ok a)) [] stop never goes = cc
goes-on (Ends (Ok a)) (effect ∷ effects) stop never goes = goes
goes-on (Ends (Err s)) effects stop never goes = never
goes-on (Does deed plan) [] stop never goes = cc
goes-on (Does deed plan) (Did d ∷ effects) stop never goes = goes-on plan effects stop never goes.1
goes-on (Does deed plan) (Read name found ∷ effects) stop never goes = goes
goes-on (Does deed plan) (Device words test signature answer ∷ effects) stop never goes = goes
goes-on (Asks name bound next) [] stop never goes = cc
goes-on (Asks name bound next) (Read n found ∷ effects) stop never goes =
    goes-on (next found) effects stop (never found) goes.1
goes-on (Asks name bound next) (Did deed ∷ effects) stop never goes = goes
goes-on (Asks name bound next) (Device words test signature answer ∷ effects) stop never goes = goes
goes-on (Runs words test signature next) [] stop never goes = cc
goes-on (Runs words test signature next) (Device w t s answer ∷ effects) stop never goes =
    goes-on (next answer) effects stop (never answer) goes.3
goes-on (Runs words test signature next) (Did deed ∷ effects) stop never goes = goes
goes-on (Runs words test signature next) (Read name found ∷ effects) stop never goes = goes

pub untouched-end : (A : Type 0) (stop : Stop) → StopsUntouched {A = A} (Ends (Err stop))
untouched-end A stop [] stop' c goes = refl
untouched-end A stop (effect ∷ effects) stop' c goes = absurd goes

untouched-followed : {A B : Type 0} (end : Result A Stop) (next : A → Plan B)
    → ((a : A) → StopsUntouched (next a)) → StopsUntouched (followed end next)
untouched-followed h = search (rules, untouched-end)

-- what is read first, and what follows from it
pub untouched-then : {A B : Type 0} (plan : Plan A) (next : A → Plan B) → OnlyReads plan
    → ((a : A) → StopsUntouched (next a)) → (effects : List Effect) (stop : Stop) (c : Contents)
    → Goes (plan >>= next) effects (Ends (Err stop)) → after effects c ≡ c
untouched-then (Ends end) next reads each effects stop c goes = grind (arith, untouched-followed)
untouched-then (Does deed plan) next reads each effects stop c goes = absurd reads
untouched-then (Runs words test signature rest) next reads each effects stop c goes = absurd reads
untouched-then (Asks name bound rest) next reads each [] stop c goes = absurd cc
untouched-then (Asks name bound rest) next reads each (Read n found ∷ effects) stop c goes =
    untouched-then (rest found) next (reads found) each effects stop c goes.1
untouched-then (Asks name bound rest) next reads each (Device words test signature answer ∷
    effects) stop
    c goes = absurd goes
untouched-then (Asks name bound rest) next reads each (Did deed ∷ effects) stop c goes = absurd goes

reads-signature : (name : List ℕ) → OnlyReads (comparing.signature name)
reads-signature name = grind arith

reads-trial : (steps : Option ℕ) (isa : Isa) (test : List ℕ) → OnlyReads (trial steps isa test)
reads-trial steps isa test = grind arith

records-on : (signature : List ℕ) (log : Option (List ℕ)) (run : TestRun)
    → NeverStops (records signature log run)
records-on signature log run = grind arith

pub never-then : {A B : Type 0} (plan : Plan A) (next : A → Plan B) → NeverStops plan
    → ((a : A) → NeverStops (next a)) → NeverStops (plan >>= next)
never-then (Ends (Ok a)) next never each = each a
never-then (Ends (Err stop)) next never each = absurd never
never-then (Does deed plan) next never each = never-then plan next never each
never-then (Asks name bound rest) next never each =
    λ found. never-then (rest found) next (never found) each
never-then (Runs words test signature rest) next never each =
    λ answer. never-then (rest answer) next (never answer) each

-- its end is a value
pub never-end : {A : Type 0} (plan : Plan A) (files : Files) (answers : List Answer) (stop : Stop)
    → NeverStops plan → end_of plan files answers ≡ Some (Err stop) → ⊥
never-end (Ends (Ok a)) files answers stop never is = cc
never-end (Ends (Err s)) files answers stop never is = never
never-end (Does deed plan) files answers stop never is =
    never-end plan (files_after deed files) answers stop never is
never-end (Asks name bound next) files answers stop never is =
    never-end (next (files name)) files answers stop (never (files name)) is
never-end (Runs words test signature next) files [] stop never is = cc
never-end (Runs words test signature next) files (answer ∷ answers) stop never is =
    never-end (next answer) (with_left signature answer.left files) answers stop (never answer) is

chosen-on : (b : Bool) (path : List ℕ) (text : Option (List ℕ))
    → NeverStops (if b then writes_text path text else gives tt)
chosen-on b path text = grind arith

tests-on : (work : List ℕ) (isa : Isa) (ls : List Label) → NeverStops (writes_tests work isa ls)
tests-on work isa [] = tt
tests-on work isa (l ∷ ls) = grind (arith, never-then, chosen-on, (tests-on work isa ls))

generates-on : (work : List ℕ) (inputs : Inputs) → NeverStops (generates work inputs)
generates-on work inputs = grind (arith, never-then, tests-on)

-- none of these stops once it has changed anything
pub stops-compare : (asked : CompareArguments) → StopsUntouched (comparing.compare asked)
stops-compare asked =
    untouched-then (comparing.signature asked.left) (comparing.compare_right asked.right)
    (reads-signature asked.left) (λ lw.
    untouched-then (comparing.signature asked.right) (comparing.announce lw)
    (reads-signature asked.right) (λ rw' effects stop c goes.
    absurd (goes-on (comparing.announce lw rw') effects stop tt goes)))

pub stops-validate : (asked : ValidateArguments) → StopsUntouched (validate asked)
stops-validate asked =
    untouched-then (specification asked.isa) print_said (reads-specification asked.isa)
    (λ said effects stop c goes.
    absurd (goes-on (print_said said) effects stop tt goes))

pub stops-normalize : (asked : NormalizeArguments) → StopsUntouched (normalize asked)
stops-normalize asked =
    untouched-then (group_inputs asked.isa asked.families asked.groups) print_normal
    (reads-inputs asked.isa asked.families asked.groups) (λ inputs effects stop c goes.
    absurd (goes-on (print_normal inputs) effects stop tt goes))

pub stops-generate : (asked : GenerateArguments) → StopsUntouched (generate asked)
stops-generate asked =
    untouched-then (part_inputs asked.part asked.isa asked.families asked.groups)
    (generates asked.work)
    (reads-labels asked.part asked.isa asked.families asked.groups) (λ inputs effects stop c goes.
    absurd (goes-on (generates asked.work inputs) effects stop (generates-on asked.work inputs)
    goes))

pub stops-coverage : (asked : CoverageArguments) → StopsUntouched (covering.coverage asked)
stops-coverage asked =
    untouched-then (covering.reported asked) print_text
    (reads-reported (covering.measure asked.windows) asked.isa asked.families asked.groups
    asked.logs)
    (λ report effects stop c goes. absurd (goes-on (print_text report) effects stop tt goes))

pub stops-propagate : (asked : PropagateArguments) → StopsUntouched (propagating.propagate asked)
stops-propagate asked =
    untouched-then (propagating.reported asked) print_text
    (reads-reported propagating.measure asked.isa asked.families asked.groups asked.logs)
    (λ report effects stop c goes. absurd (goes-on (print_text report) effects stop tt goes))

pub stops-select : (asked : SelectArguments) → StopsUntouched (select asked)
stops-select asked =
    untouched-then (reads_selection asked) print_selection (reads-selection asked)
    (λ entries effects stop c goes.
    absurd (goes-on (print_selection entries) effects stop tt goes))

pub stops-demo : (count : ℕ) → StopsUntouched (demonstrate count)
stops-demo count = grind (arith, goes-on)

pub stops-reference : (asked : ReferenceArguments) → StopsUntouched (reference asked)
stops-reference asked =
    untouched-then (specification asked.isa) (λ said. reference_on asked said.spec)
    (reads-specification asked.isa) (λ said.
    untouched-then (trial asked.steps said.spec asked.test) (records asked.signature asked.log)
    (reads-trial asked.steps said.spec asked.test) (λ run effects stop c goes.
    absurd (goes-on (records asked.signature asked.log run) effects stop
    (records-on asked.signature asked.log run) goes)))

unchanged : (plan : Plan Finish) (stop : Stop) (old new : Contents) → StopsUntouched plan
    → Completes plan (Err stop) old new → new ≡ old
unchanged plan stop old new stops r = grind arith

used : (plan : Plan Finish) (old new : World) (reason : Stop) → StopsUntouched plan
    → Halts plan (contents old) (contents new) reason → answer.Usage ≡ status_of reason
    → contents new ≡ contents old
used plan old new reason stops h is = search (rules, unchanged)

-- a call that is refused, or whose words are no command
pub untouched : {absence : Absence} {plan : Plan Finish} {old new : World} {err err' : SinkState}
    {status : Status} → Ran absence plan old new err err' status → (files : Files)
    → Tells old.host files → StopsUntouched plan
    → (status ≡ answer.Usage) ⊎ (status ≡ answer.Refused) → contents new ≡ contents old
untouched r files t stops is = search (rules, at_status, used, was_refused, unchanged)

absent : (plan : Plan Finish) (old new : World) (err err' : SinkState) → StopsUntouched plan
    → WasMissing plan old new err err' ⊎ HostRose old new
    → (contents new ≡ contents old) ⊎ HostRose old new
absent plan old new err err' stops (inl w) = search (rules, inl, unchanged)
absent plan old new err err' stops (inr rose) = inr rose

-- one that lacks an input
pub untouched-absent : {absence : Absence} {plan : Plan Finish} {old new : World}
    {err err' : SinkState} {status : Status} → Ran absence plan old new err err' status
    → (files : Files) → Tells old.host files → StopsUntouched plan → status ≡ answer.HostFault
    → (contents new ≡ contents old) ⊎ HostRose old new
untouched-absent {absence} {plan} {old} {new} {err} {err'} r files t stops is =
    absent plan old new err err' stops
    (was_missing plan old new err err' (at_status r files answer.HostFault t is))
