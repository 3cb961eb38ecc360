use Rattle.std.proofs.Common.{◌≡◌, Ok, sym, subst, ◌∙◌}
use Rattle.std.proofs.lemmas.Result.{err_from_is_err_and}
use Rattle.rvs_plan.specs.World.{world, IsAnswer}
use Rattle.rvs_plan.specs.Plan.{Plan, gives}
use Rattle.rvs_plan.specs.Meets.{MeetsWith}
use Rattle.rvs_plan.proofs.Sequence.{Meets-then, Meets-stop, Meets-gives}
use Rattle.rvs_insn.specs.Isa.{Isa}
use Rattle.rvs_page.specs.declared.shown.State.TheVariants as state
use Rattle.rvs_report.specs.Findings.{found_open, if_like, finds_words}
use Rattle.rvs_generate.specs.declared.gathering.Test.{Test}
use Rattle.rvs_showing.specs.declared.found.Found.{Found}
use Rattle.rvs_report.specs.declared.reviewing.Likeness.{Likeness}
use Rattle.rvs_generate.specs.declared.test_files.TestFiles.{TestFiles}
use Rattle.rvs_report.proofs.reviewing.find_left.Goals as goal

-- what follows when the test is read
abbrev next : TestFiles → Isa → Test → Likeness → Plan Found
next files isa test like = if_like like (finds_words files isa test)

pub returns-in_err-read_like : goal.returns-in_err-read_like
returns-in_err-read_like g c = λ out.
    let p = err_from_is_err_and c.from_residual.result c.from_residual.ensures.1 in
    let test = c.args.test.now in
    let text : c.as_bytes.result.now ≡ test.text = c.as_bytes.ensures.value ∙ c.as_str.ensures in
    rw (p.1, p.2) (Meets-stop (next c.args.files.now c.args.isa test)
    (rw text at (c.in_err-read_like.ensures out)))

pub returns-in-Absent : goal.returns-in-Absent
returns-in-Absent g c = λ out.
    let test = c.args.test.now in
    let w = world (g.H.Host.state c.read_like.new.host) out in
    let text : c.as_bytes.result.now ≡ test.text = c.as_bytes.ensures.value ∙ c.as_str.ensures in
    let last = subst (λ (found : Found). MeetsWith IsAnswer (gives (found_open state.NotRun)) w w
    (Ok found)) (sym c.found_open.ensures) (Meets-gives (found_open state.NotRun) w) in
    Meets-then (next c.args.files.now c.args.isa test)
    (rw (text, c.in-Absent.is) at (c.in_ok-read_like.ensures out)) last

pub returns-in-Other : goal.returns-in-Other
returns-in-Other g c = λ out.
    let test = c.args.test.now in
    let w = world (g.H.Host.state c.read_like.new.host) out in
    let text : c.as_bytes.result.now ≡ test.text = c.as_bytes.ensures.value ∙ c.as_str.ensures in
    let last = subst (λ (found : Found). MeetsWith IsAnswer (gives (found_open state.OtherTest)) w w
    (Ok found)) (sym c.found_open-in-Other.ensures)
    (Meets-gives (found_open state.OtherTest) w) in
    Meets-then (next c.args.files.now c.args.isa test)
    (rw (text, c.in-Other.is) at (c.in_ok-read_like.ensures out)) last

pub returns-in-Same : goal.returns-in-Same
returns-in-Same g c = λ out.
    let test = c.args.test.now in
    let text : c.as_bytes.result.now ≡ test.text = c.as_bytes.ensures.value ∙ c.as_str.ensures in
    Meets-then (next c.args.files.now c.args.isa test)
    (rw (text, c.in-Same.is) at (c.in_ok-read_like.ensures out)) (c.find_words.ensures out)
