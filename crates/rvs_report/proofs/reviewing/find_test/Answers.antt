use Rattle.std.proofs.Common.{◌≡◌, List, ℕ, Result, sym, subst}
use Rattle.std.proofs.lemmas.Result.{err_from_is_err_and}
use Rattle.rvs_plan.specs.World.{World, world, IsAnswer}
use Rattle.rvs_plan.specs.Plan.{◌>>=◌}
use Rattle.rvs_plan.specs.Meets.{MeetsWith}
use Rattle.rvs_plan.specs.declared.stop.Stop.{Stop}
use Rattle.rvs_plan.proofs.Sequence.{Meets-no_memory}
use Rattle.rvs_insn.specs.Isa.{Isa}
use Rattle.rvs_reference.specs.TestRun.{NamesText}
use Rattle.rvs_generate.specs.TestFiles.{files_of}
use Rattle.rvs_report.specs.Findings.{asks_like, if_like, finds_words, finds_test}
use Rattle.rvs_generate.specs.declared.gathering.Test.{Test}
use Rattle.rvs_showing.specs.declared.found.Found.{Found}
use Rattle.rvs_generate.specs.declared.test_files.TestFiles.{TestFiles}
use Rattle.rvs_generate.proofs.Paths.{names-text}
use Rattle.rvs_report.proofs.reviewing.find_test.Goals as goal

-- by the names of the files
by_files : (files : TestFiles) (isa : Isa) (work : List ℕ) (test : Test) (old new : World)
    (result : Result Found Stop) → files ≡ files_of work test.name
    → MeetsWith IsAnswer
    (asks_like files.test test.text >>= (λ like. if_like like (finds_words files isa test))) old new
    result
    → MeetsWith IsAnswer (finds_test isa work test) old new result
by_files files isa work test old new result is met = subst (λ (f : TestFiles). MeetsWith IsAnswer
    (asks_like f.test test.text >>= (λ like. if_like like (finds_words f isa test))) old new result)
    is met

pub returns-in_err-files : goal.returns-in_err-files
returns-in_err-files g c = λ out.
    let p = err_from_is_err_and c.from_residual.result c.from_residual.ensures.1 in
    rw (p.1, p.2) (Meets-no_memory (finds_test c.args.isa c.args.work.now c.args.test.now)
    (world (g.H.Host.state c.args.host.now) out))

pub returns : goal.returns
returns g c = λ out.
    by_files c.in_ok-files.files c.args.isa c.args.work.now c.args.test.now _ _ _
    c.in_ok-files.ensures (c.find_left-found.ensures out)

pub find_left-found-requires-clause-text : goal.find_left-found-requires-clause-text
find_left-found-requires-clause-text g c = subst (λ (files : TestFiles). NamesText files.test)
    (sym c.in_ok-files.ensures) (names-text c.args.work.now c.args.test.now.name)
