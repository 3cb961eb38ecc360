use Rattle.std.proofs.Common.{◌≡◌, ◌<◌, ◌≤◌, ◌+◌, ℕ, nat_lt, List, Some, Ok, length, sym, ap, ◌∙◌}
use Rattle.std.proofs.lemmas.Bool.{cond-true, cond-false, lt-ltb, le-ltb}
use Rattle.std.proofs.lemmas.Result.{err_from_is_err_and}
use Rattle.rvs_plan.specs.World.{world}
use Rattle.rvs_plan.specs.Plan.{gives}
use Rattle.rvs_plan.proofs.Sequence.{Meets-no_memory, Meets-weaker}
use Rattle.rvs_plan.proofs.Stepping.{asks-failed, asks-no_memory}
use Rattle.rvs_device.specs.Judged.{signature_limit}
use Rattle.rvs_page.specs.declared.shown.State.TheVariants as state
use Rattle.rvs_report.specs.Findings.{found_open, judged_left, found_on, finds_signature}
use Rattle.rvs_report.proofs.Absences.{made-whole, made-absent, made-long}
use Rattle.rvs_report.proofs.reviewing.find_signature.Goals as goal

-- a signature within the limit, and one beyond it
within : (words bytes : List ℕ) → length bytes ≤ signature_limit
    → found_on words (Some bytes) ≡ judged_left words bytes
within words bytes short = cond-false (nat_lt signature_limit (length bytes))
    (found_open state.TooLong) (judged_left words bytes)
    (le-ltb signature_limit (length bytes) short)

beyond : (words bytes : List ℕ) → signature_limit < length bytes
    → found_on words (Some bytes) ≡ found_open state.TooLong
beyond words bytes long = cond-true (nat_lt signature_limit (length bytes))
    (found_open state.TooLong) (judged_left words bytes)
    (lt-ltb signature_limit (length bytes) long)

pub returns-in_err-file : goal.returns-in_err-file
returns-in_err-file g c = λ out.
    let p = err_from_is_err_and c.from_residual.result c.from_residual.ensures.1 in
    rw (p.1, p.2) (Meets-no_memory (finds_signature c.args.name.now c.args.words)
    (world (g.H.Host.state c.args.host.now) out))

pub returns-in_err-judged-in-Ok : goal.returns-in_err-judged-in-Ok
returns-in_err-judged-in-Ok g c = λ out.
    let p = err_from_is_err_and c.from_residual-in_err-judged-in-Ok.result
    c.from_residual-in_err-judged-in-Ok.ensures.1 in
    rw (p.1, p.2) (Meets-weaker (asks-no_memory out c.args.name.now (signature_limit + 1)
    (λ found. gives (found_on c.args.words found)) c.in-Ok.ensures.reads_only
    c.in-Ok.ensures.unfaulted c.in-Ok.ensures.at_most))

pub returns-in_ok-judged-in-Ok : goal.returns-in_ok-judged-in-Ok
returns-in_ok-judged-in-Ok g c = λ out.
    let words = c.args.words in
    let bytes = c.in-Ok.bytes in
    let whole = rw c.as_str-2.ensures at c.in-Ok.ensures.whole in
    made-whole out c.args.name.now signature_limit (found_on words) bytes _
    c.in-Ok.ensures.reads_only whole
    (within words bytes whole.within ∙ ap (judged_left words) (sym c.as_slice.ensures)
    ∙ sym c.in_ok-judged-in-Ok.ensures)
    c.in-Ok.ensures.unfaulted c.in-Ok.ensures.at_most

pub returns-in-Err-NoFile : goal.returns-in-Err-NoFile
returns-in-Err-NoFile g c = λ out.
    let lacks = rw c.in-Err-NoFile.field-0-is at c.in-Err-NoFile.ensures.refused in
    made-absent out c.args.name.now signature_limit (found_on c.args.words) _
    c.in-Err-NoFile.ensures.reads_only (rw c.as_str-2.ensures at lacks)
    (sym c.found_open.ensures) c.in-Err-NoFile.ensures.at_most

pub returns-in-Err-TooLong : goal.returns-in-Err-TooLong
returns-in-Err-TooLong g c = λ out.
    let words = c.args.words in
    let cause = rw c.in-Err-TooLong.field-0-is at c.in-Err-TooLong.ensures.refused in
    made-long out c.args.name.now signature_limit (found_on words) _
    c.in-Err-TooLong.ensures.reads_only (rw c.as_str-2.ensures at cause.1)
    (λ bytes long. beyond words bytes long ∙ sym c.found_open-in-Err-TooLong.ensures) cause.2
    c.in-Err-TooLong.ensures.at_most

pub returns-in-Err-Failed : goal.returns-in-Err-Failed
returns-in-Err-Failed g c = λ out.
    let file : c.in_ok-file.file ≡ c.args.name.now = c.in_ok-file.ensures ∙ c.as_str.ensures in
    rw file (Meets-weaker (asks-failed out c.args.name.now (signature_limit + 1)
    (λ found. Ok (found_on c.args.words found)) c.in-Err-Failed.ensures.reads_only
    (rw c.in-Err-Failed.field-0-is at c.in-Err-Failed.ensures.refused)
    c.in-Err-Failed.ensures.at_most))

pub returns-in-Err-NoMemory : goal.returns-in-Err-NoMemory
returns-in-Err-NoMemory g c = λ out.
    Meets-weaker (asks-no_memory out c.args.name.now (signature_limit + 1)
    (λ found. gives (found_on c.args.words found)) c.in-Err-NoMemory.ensures.reads_only
    (rw c.in-Err-NoMemory.field-0-is at c.in-Err-NoMemory.ensures.refused)
    c.in-Err-NoMemory.ensures.at_most)
