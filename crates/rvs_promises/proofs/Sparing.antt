-- That `reference` and `generate` change no file but their own, however they end.
use Rattle.std.proofs.Common.{◌≡◌, ◌≢◌, ℕ, Bool, true, false, List, [], ◌∷◌, Option, Some}
use Rattle.std.proofs.Common.{None, Result, Ok, Err, if◌then◌else◌, refl, sym, subst, ap}
use Rattle.std.proofs.Common.{◌∙◌, Contains, arith, rules}
use Rattle.std.specs.Prelude.{⊤}
use Rattle.std.proofs.lemmas.List.Elements.{Contains-append_left, Contains-append_right}
use Rattle.rvs_base.specs.Host.{Files, Tells, MaySpoil, ChangesOne, written}
use Rattle.rvs_base.specs.Sink.{SinkState}
use Rattle.rvs_plan.specs.World.{World, Contents, contents, Absence}
use Rattle.rvs_plan.specs.Effect.{Answer, Write, Out, Effect, Read, Device, Did, left_by, after}
use Rattle.rvs_plan.specs.Effect.{after_one, after_deed, Saw}
use Rattle.rvs_plan.specs.Plan.{Plan, Ends, Does, Asks, Runs, Goes, followed, gives, ◌>>=◌}
use Rattle.rvs_plan.specs.Meets.{Reaches, Halts}
use Rattle.rvs_plan.specs.Account.{Accounts}
use Rattle.rvs_plan.specs.declared.stop.Stop.{Stop}
use Rattle.rvs_plan.specs.declared.stop.Stop.TheVariants as why
use Rattle.rvs_plan.specs.declared.status.Status.{Status}
use Rattle.rvs_plan.specs.declared.status.Status.TheVariants as answer
use Rattle.rvs_plan.specs.declared.status.Finish.{Finish}
use Rattle.rvs_reference.specs.Reference.{records, reference}
use Rattle.rvs_insn.specs.Isa.{Isa}
use Rattle.rvs_cgf.specs.Groups.{Label}
use Rattle.rvs_test.specs.Made.{cases_of, text_of_label}
use Rattle.rvs_test_text.specs.TestText.{step_limit}
use Rattle.rvs_inputs.specs.Printing.{print_text}
use Rattle.rvs_generate.specs.TestedInputs.{part_inputs, labels_in}
use Rattle.rvs_generate.specs.GenerateTexts.{listing}
use Rattle.rvs_generate.specs.Generate.{path_of, writes_text, writes_test, writes_tests}
use Rattle.rvs_generate.specs.Generate.{written_tests}
use Rattle.rvs_generate.specs.Generate.{generates, generate}
use Rattle.rvs_generate.specs.Tests.{test_with, tests_of_label, tests_of}
use Rattle.rvs_promises.specs.Generating.{IsNoTest}
use Rattle.rvs_inputs.proofs.Finding.{Finds}
use Rattle.rvs_promises.proofs.TestedInputs.{finds-labels}
use Rattle.rvs_promises.proofs.Running.{Ran, answers}
use Rattle.rvs_generate.specs.declared.gathering.Test.{Test}
use Rattle.rvs_reference.specs.declared.test_run.Run.{Run as TestRun}
use Rattle.rvs_words.specs.declared.command.GenerateArguments.{GenerateArguments}
use Rattle.rvs_words.specs.declared.command.ReferenceArguments.{ReferenceArguments}

-- what the named file holds, where files are told
abbrev pub held : List ℕ → Option Files → Option (Option (List ℕ))
held name None = None
held name (Some files) = Some (files name)

pub unwritten : (other name bytes : List ℕ) (files : Option Files) → other ≢ name
    → held other (written name bytes files) ≡ held other files
unwritten other name bytes files apart = search rules

unspoilt : (other name bytes : List ℕ) (files files' : Option Files) → other ≢ name
    → MaySpoil name bytes files files' → held other files' ≡ held other files
unspoilt other name bytes files files' apart m = grind arith

unleft : (other signature : List ℕ) (answer : Answer) (files : Option Files) → other ≢ signature
    → held other (left_by signature answer files) ≡ held other files
unleft other signature answer files apart = search rules

unchanged : (other signature : List ℕ) (files files' : Option Files) → other ≢ signature
    → ChangesOne signature files files' → held other files' ≡ held other files
unchanged other signature files files' apart m = grind arith

-- a plan that doesn't write this file, nor has a device that may
abbrev pub Spares : {A : Type 0} → List ℕ → Plan A → Type 0
Spares other (Ends end) = ⊤
Spares other (Does (Write name bytes) plan) = (other ≢ name) × Spares other plan
Spares other (Does (Out bytes) plan) = Spares other plan
Spares other (Asks name bound next) = (found : Option (List ℕ)) → Spares other (next found)
Spares other (Runs words test signature next) =
    (other ≢ signature) × ((answer : Answer) → Spares other (next answer))

Spares-followed : {A B : Type 0} (other : List ℕ) (end : Result A Stop) (next : A → Plan B)
    → ((a : A) → Spares other (next a)) → Spares other (followed end next)
Spares-followed other = grind arith

pub Spares-then : {A B : Type 0} (other : List ℕ) (plan : Plan A) (next : A → Plan B)
    → Spares other plan → ((a : A) → Spares other (next a)) → Spares other (plan >>= next)
Spares-then other (Ends end) next spares rest_spares = Spares-followed other end next rest_spares
Spares-then other (Does (Write name bytes) plan) next spares rest_spares =
    (spares.0, Spares-then other plan next spares.1 rest_spares)
Spares-then other (Does (Out bytes) plan) next spares rest_spares =
    Spares-then other plan next spares rest_spares
Spares-then other (Asks name bound rest) next spares rest_spares =
    λ found. Spares-then other (rest found) next (spares found) rest_spares
Spares-then other (Runs words test signature rest) next spares rest_spares =
    (spares.0, λ answer. Spares-then other (rest answer) next (spares.1 answer) rest_spares)

spared : {A : Type 0} (other : List ℕ) (plan rest : Plan A) (effects : List Effect) (c : Contents)
    → Spares other plan → Goes plan effects rest
    → (held other (after effects c).files ≡ held other c.files) × Spares other rest
spared {A = A} other plan rest [] c spares goes = grind arith
spared other (Ends end) rest (effect ∷ effects) c spares goes = absurd goes
spared other (Does (Write name bytes) plan) rest (Did (Write n put) ∷ effects) c spares goes =
    let e : Write name bytes ≡ Write n put = goes.0 in
    let same : name ≡ n = cc in
    let k = spared other plan rest effects (after_deed (Write n put) c) spares.1 goes.1 in
    (k.0 ∙ unwritten other n put c.files (λ p. spares.0 (p ∙ sym same)), k.1)
spared other (Does (Write name bytes) plan) rest (Did (Out put) ∷ effects) c spares goes =
    let e : Write name bytes ≡ Out put = goes.0 in absurd cc
spared other (Does (Write name bytes) plan) rest (Read n found ∷ effects) c spares goes =
    absurd goes
spared other (Does (Write name bytes) plan) rest (Device words test signature answer ∷ effects) c
    spares goes = absurd goes
spared other (Does (Out bytes) plan) rest (Did (Out put) ∷ effects) c spares goes =
    spared other plan rest effects (after_deed (Out put) c) spares goes.1
spared other (Does (Out bytes) plan) rest (Did (Write n put) ∷ effects) c spares goes = grind arith
spared other (Does (Out bytes) plan) rest (Read n found ∷ effects) c spares goes = absurd goes
spared other (Does (Out bytes) plan) rest (Device words test signature answer ∷ effects) c spares
    goes = absurd goes
spared other (Asks name bound next) rest (Read n found ∷ effects) c spares goes =
    spared other (next found) rest effects c (spares found) goes.1
spared other (Asks name bound next) rest (Did deed ∷ effects) c spares goes = absurd goes
spared other (Asks name bound next) rest (Device words test signature answer ∷ effects) c spares
    goes =
    absurd goes
spared other (Runs words test signature next) rest (Device w t s answer ∷ effects) c spares goes =
    let k = spared other (next answer) rest effects (after_one (Device w t s answer) c)
    (spares.1 answer) goes.3 in
    (k.0 ∙ unleft other s answer c.files (λ p. spares.0 (p ∙ sym goes.2)), k.1)
spared other (Runs words test signature next) rest (Did deed ∷ effects) c spares goes = absurd goes
spared other (Runs words test signature next) rest (Read name found ∷ effects) c spares goes =
    absurd goes

-- over these files, a plan that reads first, and then spares this file
abbrev pub SparesOver : {A : Type 0} → Files → List ℕ → Plan A → Type 0
SparesOver files other (Ends end) = ⊤
SparesOver files other (Does deed plan) = Spares other (Does deed plan)
SparesOver files other (Asks name bound next) = SparesOver files other (next (files name))
SparesOver files other (Runs words test signature next) =
    Spares other (Runs words test signature next)

spares-over : {A : Type 0} (files : Files) (other : List ℕ) (plan : Plan A) → Spares other plan
    → SparesOver files other plan
spares-over files other (Ends end) spares = tt
spares-over files other (Does deed plan) spares = spares
spares-over files other (Asks name bound next) spares =
    spares-over files other (next (files name)) (spares (files name))
spares-over files other (Runs words test signature next) spares = spares

spares-followed : {A B : Type 0} (files : Files) (other : List ℕ) (found : Result A Stop)
    (next : A → Plan B) → ((a : A) → found ≡ Ok a → Spares other (next a))
    → SparesOver files other (followed found next)
spares-followed files = search (rules, spares-over)

-- what comes behind reading has to spare the file for what was found alone
pub spares-found : {A B : Type 0} (files : Files) (other : List ℕ) (plan : Plan A)
    (next : A → Plan B) (found : Result A Stop) → Finds files plan found
    → ((a : A) → found ≡ Ok a → Spares other (next a)) → SparesOver files other (plan >>= next)
spares-found {A} files other (Ends end) next found is rest_spares =
    subst (λ (r : Result A Stop). SparesOver files other (followed r next)) (sym is)
    (spares-followed files other found next rest_spares)
spares-found files other (Does deed plan) next found is rest_spares = absurd is
spares-found files other (Asks name bound rest) next found is rest_spares =
    spares-found files other (rest (files name)) next found is rest_spares
spares-found files other (Runs words test signature rest) next found is rest_spares = absurd is

spared-over : {A : Type 0} (files : Files) (other : List ℕ) (plan rest : Plan A)
    (effects : List Effect) (c : Contents) → c.files ≡ Some files → SparesOver files other plan
    → Saw effects c → Goes plan effects rest
    → (held other (after effects c).files ≡ held other c.files) × SparesOver files other rest
spared-over {A} files other plan rest [] c told spares saw goes = grind arith
spared-over files other (Ends end) rest (effect ∷ effects) c told spares saw goes = absurd goes
spared-over files other (Does deed plan) rest (effect ∷ effects) c told spares saw goes =
    let k = spared other (Does deed plan) rest (effect ∷ effects) c spares goes in
    (k.0, spares-over files other rest k.1)
spared-over {A} files other (Asks name bound next) rest (Read n found ∷ effects) c told spares saw
    goes =
    let same : files name ≡ found = ap files goes.0 ∙ saw.0 files told in
    spared-over files other (next (files name)) rest effects c told spares saw.1
    (subst (λ (f : Option (List ℕ)). Goes (next f) effects rest) (sym same) goes.1)
spared-over files other (Asks name bound next) rest (Did deed ∷ effects) c told spares saw goes =
    absurd goes
spared-over files other (Asks name bound next) rest (Device words test signature answer ∷ effects)
    c told
    spares saw goes = absurd goes
spared-over files other (Runs words test signature next) rest (effect ∷ effects) c told spares saw
    goes =
    let k = spared other (Runs words test signature next) rest (effect ∷ effects) c spares goes in
    (k.0, spares-over files other rest k.1)

reached : {A : Type 0} (files : Files) (other : List ℕ) (plan rest : Plan A) (old new : Contents)
    → old.files ≡ Some files → SparesOver files other plan → Reaches plan rest old new
    → (held other new.files ≡ held other old.files) × SparesOver files other rest
reached files other plan rest old new told spares r = grind (arith, spared-over)

halted : (files : Files) (other : List ℕ) (plan : Plan Finish) (old new : Contents) (stop : Stop)
    → old.files ≡ Some files → SparesOver files other plan → Halts plan old new stop
    → held other new.files ≡ held other old.files
halted files other plan old new why.Usage told spares h =
    (reached files other plan (Ends (Err why.Usage)) old new told spares h).0
halted files other plan old new (why.Refused text) told spares h =
    (reached files other plan (Ends (Err (why.Refused text))) old new told spares h).0
halted files other plan old new (why.NoFile name) told spares h =
    (reached files other plan (Ends (Err (why.NoFile name))) old new told spares h).0
halted files other plan old new (why.CannotRead name) told spares h =
    (reached files other plan (Asks name h.bound h.next) old new told spares h.reaches).0
halted files other plan old new (why.CannotWrite name) told spares h =
    let k = reached files other plan (Does (Write name h.0) h.1.rest) old h.1.before told spares
    h.1.reaches in
    unspoilt other name h.0 h.1.before.files new.files k.1.0 h.1.broke.files ∙ k.0
halted files other plan old new (why.CannotRun test) told spares h =
    let k = reached files other plan (Runs h.words test h.signature h.next) old h.before told spares
    h.reaches in
    unchanged other h.signature h.before.files new.files k.1.0 h.broke.files ∙ k.0
halted files other plan old new why.NoMemory told spares h =
    (reached files other plan h.0 old new told spares h.1).0
halted files other plan old new why.SinkFault told spares h =
    ap (λ (c : Contents). held other c.files) h.1.broke.put
    ∙ (reached files other plan (Does (Out h.0) h.1.rest) old h.1.before told spares h.1.reaches).0

accounted : (files : Files) (other : List ℕ) (plan : Plan Finish) (old new : World)
    (err err' : SinkState) (status : Status) → old.host.files ≡ Some files
    → SparesOver files other plan → Accounts plan old new err err' status
    → held other new.host.files ≡ held other old.host.files
accounted files other plan old new err err' answer.Done told spares a =
    (reached files other plan _ (contents old) (contents new) told spares a.completes).0
accounted files other plan old new err err' answer.NotPassed told spares a =
    (reached files other plan _ (contents old) (contents new) told spares a.completes).0
accounted files other plan old new err err' answer.Usage told spares a =
    halted files other plan (contents old) (contents new) a.reason told spares a.halts
accounted files other plan old new err err' answer.Refused told spares a =
    halted files other plan (contents old) (contents new) a.reason told spares a.halts
accounted files other plan old new err err' answer.HostFault told spares a =
    halted files other plan (contents old) (contents new) a.reason told spares a.halts
accounted files other plan old new err err' answer.SinkFault told spares a =
    halted files other plan (contents old) (contents new) a.reason told spares a.halts
accounted files other plan old new err err' answer.NoMemory told spares a =
    halted files other plan (contents old) (contents new) a.reason told spares a.halts

spares-records : (other signature : List ℕ) (log : Option (List ℕ)) (run : TestRun)
    → other ≢ signature → log ≢ Some other → Spares other (records signature log run)
spares-records other signature log run apart unlogged = grind arith

spares-reference : (other : List ℕ) (asked : ReferenceArguments) → other ≢ asked.signature
    → asked.log ≢ Some other → Spares other (reference asked)
spares-reference other asked apart unlogged = grind (arith, Spares-then, spares-records)

-- ---- of commands
spares-test : (other work name : List ℕ) (steps : ℕ) (b : Bool) (text : Option (List ℕ))
    → ((test : Test) → Contains (if b then test_with name steps text else []) test
    → other ≢ path_of work test.name)
    → Spares other (if b then writes_text (path_of work name) text else gives tt)
spares-test other work name steps true None apart = tt
spares-test other work name steps true (Some text) apart =
    let test : Test = record { name = name; text = text; steps = steps } in
    (apart test (0, omega arith, refl), tt)
spares-test other work name steps false text apart = tt

spares-tests : (other work : List ℕ) (isa : Isa) (ls : List Label)
    → ((test : Test) → Contains (tests_of isa ls) test → other ≢ path_of work test.name)
    → Spares other (writes_tests work isa ls)
spares-tests other work isa [] apart = tt
spares-tests other work isa (l ∷ ls) apart =
    let first = tests_of_label isa l in
    let later = tests_of isa ls in
    Spares-then other (writes_test work isa l) (λ _. writes_tests work isa ls)
    (spares-test other work l.name (step_limit (cases_of isa l)) l.selected (text_of_label isa l)
    (λ test there. apart test (Contains-append_left first later test there)))
    (λ _. spares-tests other work isa ls
    (λ test there. apart test (Contains-append_right first later test there)))

spares-generate : (files : Files) (other : List ℕ) (asked : GenerateArguments)
    → IsNoTest asked.work (labels_in files asked.part asked.isa asked.families asked.groups) other
    → SparesOver files other (generate asked)
spares-generate files other asked apart = spares-found files other
    (part_inputs asked.part asked.isa asked.families asked.groups) (generates asked.work)
    (labels_in files asked.part asked.isa asked.families asked.groups)
    (finds-labels files asked.part asked.isa asked.families asked.groups)
    (λ inputs given. Spares-then other
    (written_tests asked.work inputs.isa inputs.groups) print_text
    (Spares-then other (writes_tests asked.work inputs.isa inputs.groups)
    (λ _. gives (listing inputs.isa inputs.groups))
    (spares-tests other asked.work inputs.isa inputs.groups
    (λ test there. apart inputs test given there)) (λ _. tt)) (λ text. tt))

-- a plan that spares a file leaves it as it was
pub spares : {absence : Absence} {plan : Plan Finish} {old new : World} {err err' : SinkState}
    {status : Status} → Ran absence plan old new err err' status
    → (files files' : Files) (other : List ℕ) → Tells old.host files
    → SparesOver files other plan → new.host.files ≡ Some files' → files' other ≡ files other
spares {absence} {plan} {old} {new} {err} {err'} {status} r files files' other t apart told =
    let kept = accounted files other plan old new err err' status t.files apart
    ((answers r).effects files t) in
    let e : Some (files' other) ≡ Some (files other) =
    ap (λ (f : Option Files). held other f) (sym told) ∙ kept
    ∙ ap (λ (f : Option Files). held other f) t.files in
    cc

pub reference-spares : {absence : Absence} {old new : World} {err err' : SinkState}
    {status : Status} (asked : ReferenceArguments)
    → Ran absence (reference asked) old new err err' status → (files files' : Files)
    (other : List ℕ) → Tells old.host files → other ≢ asked.signature → asked.log ≢ Some other
    → new.host.files ≡ Some files' → files' other ≡ files other
reference-spares asked r files files' other t apart unlogged told =
    spares r files files' other t
    (spares-over files other (reference asked) (spares-reference other asked apart unlogged)) told

pub generate-spares : {absence : Absence} {old new : World} {err err' : SinkState}
    {status : Status} (asked : GenerateArguments)
    → Ran absence (generate asked) old new err err' status → (files files' : Files)
    (other : List ℕ) → Tells old.host files
    → IsNoTest asked.work (labels_in files asked.part asked.isa asked.families asked.groups) other
    → new.host.files ≡ Some files' → files' other ≡ files other
generate-spares asked r files files' other t apart told =
    spares r files files' other t (spares-generate files other asked apart) told
