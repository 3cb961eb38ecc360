use Rattle.std.proofs.Common.{◌≡◌, List, ℕ, Result, Ok, Err, sym, ap, subst, ◌∙◌}
use Rattle.std.proofs.lemmas.Result.{err_from_is_err_and}
use Rattle.rvs_plan.specs.World.{World, world, IsAnswer}
use Rattle.rvs_plan.specs.Plan.{Plan, gives, ◌>>=◌}
use Rattle.rvs_plan.specs.Meets.{MeetsWith}
use Rattle.rvs_plan.specs.declared.stop.Stop.{Stop}
use Rattle.rvs_plan.proofs.Sequence.{Meets-then, Meets-stop, Meets-gives, Meets-no_memory}
use Rattle.rvs_insn.specs.Isa.{Isa}
use Rattle.rvs_sig.specs.Words.{text_of_words}
use Rattle.rvs_page.specs.declared.shown.State.TheVariants as state
use Rattle.rvs_reference.specs.TestRun.{Accepts}
use Rattle.rvs_generate.specs.Tests.{reference_words}
use Rattle.rvs_report.specs.Findings.{found_open, asks_like, if_like, finds_signature, finds_words}
use Rattle.rvs_generate.specs.declared.gathering.Test.{Test}
use Rattle.rvs_showing.specs.declared.found.Found.{Found}
use Rattle.rvs_report.specs.declared.reviewing.Likeness.{Likeness}
use Rattle.rvs_generate.specs.declared.test_files.TestFiles.{TestFiles}
use Rattle.rvs_generate.proofs.Runnable.{only-memory}
use Rattle.rvs_report.proofs.reviewing.find_words.Goals as goal

-- what follows when the file of the reference's words is read
abbrev next : TestFiles → List ℕ → Likeness → Plan Found
next files words like = if_like like (finds_signature files.device words)

abbrev words_or : List ℕ → Result (List ℕ) (List ℕ) → List ℕ
words_or words (Ok ws) = ws
words_or words (Err text) = words

-- by the words that the test leaves
by_words : (files : TestFiles) (isa : Isa) (test : Test) (words : List ℕ) (old new : World)
    (result : Result Found Stop) → Accepts (Ok (reference_words isa test)) (Ok words)
    → MeetsWith IsAnswer (asks_like files.reference (text_of_words words) >>= next files words) old
    new result
    → MeetsWith IsAnswer (finds_words files isa test) old new result
by_words files isa test words old new result is met = subst (λ (ws : List ℕ). MeetsWith IsAnswer
    (asks_like files.reference (text_of_words ws) >>= next files ws) old new result)
    (sym (ap (words_or words) is)) met

pub returns-in_err-words : goal.returns-in_err-words
returns-in_err-words g c = λ out.
    let isa = c.args.isa in
    let test = c.args.test.now in
    let plan = finds_words c.args.files.now isa test in
    let w = world (g.H.Host.state c.args.host.now) out in
    let p = err_from_is_err_and c.from_residual.result c.from_residual.ensures.1 in
    let only = only-memory (reference_words isa test) c.in_err-words.field-0.0
    c.in_err-words.ensures in
    rw (p.1, p.2) (subst (λ (stop : Stop). MeetsWith IsAnswer plan w w (Err stop)) (sym only)
    (Meets-no_memory plan w))

pub returns-in_err-text : goal.returns-in_err-text
returns-in_err-text g c = λ out.
    let p = err_from_is_err_and c.from_residual-in_err-text.result
    c.from_residual-in_err-text.ensures.1 in
    rw (p.1, p.2) (Meets-no_memory
    (finds_words c.args.files.now c.args.isa c.args.test.now)
    (world (g.H.Host.state c.args.host.now) out))

pub returns-in_err-read : goal.returns-in_err-read
returns-in_err-read g c = λ out.
    let p = err_from_is_err_and c.from_residual-in_err-read.result
    c.from_residual-in_err-read.ensures.1 in
    let files = c.args.files.now in
    let words = c.in_ok-words.words in
    let text : c.as_bytes.result.now ≡ text_of_words words =
    c.as_bytes.ensures.value ∙ c.as_str.ensures ∙ c.in_ok-text.ensures.text
    ∙ ap text_of_words c.as_slice.ensures in
    rw (p.1, p.2) (by_words files c.args.isa c.args.test.now words _ _ _ c.in_ok-words.ensures
    (Meets-stop (next files words) (rw text at (c.in_err-read.ensures out))))

pub returns-in-Absent : goal.returns-in-Absent
returns-in-Absent g c = λ out.
    let files = c.args.files.now in
    let words = c.in_ok-words.words in
    let w = world (g.H.Host.state c.read_like-read.new.host) out in
    let text : c.as_bytes.result.now ≡ text_of_words words =
    c.as_bytes.ensures.value ∙ c.as_str.ensures ∙ c.in_ok-text.ensures.text
    ∙ ap text_of_words c.as_slice.ensures in
    let last = subst (λ (found : Found). MeetsWith IsAnswer (gives (found_open state.NotRun)) w w
    (Ok found)) (sym c.found_open.ensures) (Meets-gives (found_open state.NotRun) w) in
    by_words files c.args.isa c.args.test.now words _ _ _ c.in_ok-words.ensures
    (Meets-then (next files words) (rw (text, c.in-Absent.is) at (c.in_ok-read.ensures out))
    last)

pub returns-in-Other : goal.returns-in-Other
returns-in-Other g c = λ out.
    let files = c.args.files.now in
    let words = c.in_ok-words.words in
    let w = world (g.H.Host.state c.read_like-read.new.host) out in
    let text : c.as_bytes.result.now ≡ text_of_words words =
    c.as_bytes.ensures.value ∙ c.as_str.ensures ∙ c.in_ok-text.ensures.text
    ∙ ap text_of_words c.as_slice.ensures in
    let last = subst (λ (found : Found). MeetsWith IsAnswer (gives (found_open state.OtherTest)) w w
    (Ok found)) (sym c.found_open-in-Other.ensures)
    (Meets-gives (found_open state.OtherTest) w) in
    by_words files c.args.isa c.args.test.now words _ _ _ c.in_ok-words.ensures
    (Meets-then (next files words) (rw (text, c.in-Other.is) at (c.in_ok-read.ensures out))
    last)

pub returns-in-Same : goal.returns-in-Same
returns-in-Same g c = λ out.
    let files = c.args.files.now in
    let words = c.in_ok-words.words in
    let text : c.as_bytes.result.now ≡ text_of_words words =
    c.as_bytes.ensures.value ∙ c.as_str.ensures ∙ c.in_ok-text.ensures.text
    ∙ ap text_of_words c.as_slice.ensures in
    by_words files c.args.isa c.args.test.now words _ _ _ c.in_ok-words.ensures
    (Meets-then (next files words) (rw (text, c.in-Same.is) at (c.in_ok-read.ensures out))
    (c.find_signature.ensures out))
