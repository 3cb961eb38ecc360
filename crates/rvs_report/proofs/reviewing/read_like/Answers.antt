use Rattle.std.proofs.Common.{◌≡◌, ◌<◌, ◌+◌, ℕ, List, Some, Ok, length, refl, sym, ap, ◌∙◌, arith}
use Rattle.std.proofs.lemmas.Bool.{cond-false, false_from_ne_true}
use Rattle.std.proofs.lemmas.Result.{err_from_is_err_and}
use Rattle.std.proofs.lemmas.Slice.Eq.{bytes_eq-Decides}
use Rattle.std.specs.Prelude.{bytes_eq}
use Rattle.rvs_plan.specs.World.{world}
use Rattle.rvs_plan.specs.Plan.{gives}
use Rattle.rvs_plan.proofs.Sequence.{Meets-no_memory, Meets-weaker}
use Rattle.rvs_plan.proofs.Stepping.{asks-failed, asks-no_memory}
use Rattle.rvs_report.specs.Findings.{likeness, asks_like}
use Rattle.rvs_report.specs.declared.reviewing.Likeness.TheVariants.{Other, Same}
use Rattle.rvs_report.proofs.Absences.{made-whole, made-absent, made-long}
use Rattle.rvs_report.proofs.reviewing.read_like.Goals as goal

pub returns-in_err-file : goal.returns-in_err-file
returns-in_err-file g c = λ out.
    let p = err_from_is_err_and c.from_residual.result c.from_residual.ensures.1 in
    rw (p.1, p.2) (Meets-no_memory (asks_like c.args.name.now c.args.expected.now)
    (world (g.H.Host.state c.args.host.now) out))

pub returns-in-Ok : goal.returns-in-Ok
returns-in-Ok g c = λ out.
    let expected = c.args.expected.now in
    let is = ap (λ (bytes : List ℕ). likeness expected (Some bytes)) (sym c.as_slice.ensures)
    ∙ sym c.like-found.ensures in
    made-whole out c.args.name.now (length expected) (likeness expected) c.in-Ok.bytes
    c.like-found.result c.in-Ok.ensures.reads_only
    (rw c.as_str-2.ensures at c.in-Ok.ensures.whole) is c.in-Ok.ensures.unfaulted
    c.in-Ok.ensures.at_most

pub returns-in-Err-NoFile : goal.returns-in-Err-NoFile
returns-in-Err-NoFile g c = λ out.
    let expected = c.args.expected.now in
    let lacks = rw c.in-Err-NoFile.field-0-is at c.in-Err-NoFile.ensures.refused in
    made-absent out c.args.name.now (length expected) (likeness expected) _
    c.in-Err-NoFile.ensures.reads_only (rw c.as_str-2.ensures at lacks) refl
    c.in-Err-NoFile.ensures.at_most

-- what is longer is something else
other : (expected bytes : List ℕ) → length expected < length bytes
    → likeness expected (Some bytes) ≡ Other
other expected bytes long = cond-false (bytes_eq bytes expected) Same Other
    (false_from_ne_true (bytes_eq bytes expected) (λ is.
    let same = ap (λ (xs : List ℕ). length xs) ((bytes_eq-Decides bytes expected).0 is) in
    omega (arith, same, long)))

pub returns-in-Err-TooLong : goal.returns-in-Err-TooLong
returns-in-Err-TooLong g c = λ out.
    let expected = c.args.expected.now in
    let cause = rw c.in-Err-TooLong.field-0-is at c.in-Err-TooLong.ensures.refused in
    made-long out c.args.name.now (length expected) (likeness expected) _
    c.in-Err-TooLong.ensures.reads_only (rw c.as_str-2.ensures at cause.1) (other expected)
    cause.2 c.in-Err-TooLong.ensures.at_most

pub returns-in-Err-Failed : goal.returns-in-Err-Failed
returns-in-Err-Failed g c = λ out.
    let expected = c.args.expected.now in
    let file : c.in_ok-file.file ≡ c.args.name.now = c.in_ok-file.ensures ∙ c.as_str.ensures in
    rw file (Meets-weaker (asks-failed out c.args.name.now (length expected + 1)
    (λ found. Ok (likeness expected found)) c.in-Err-Failed.ensures.reads_only
    (rw c.in-Err-Failed.field-0-is at c.in-Err-Failed.ensures.refused)
    c.in-Err-Failed.ensures.at_most))

pub returns-in-Err-NoMemory : goal.returns-in-Err-NoMemory
returns-in-Err-NoMemory g c = λ out.
    let expected = c.args.expected.now in
    Meets-weaker (asks-no_memory out c.args.name.now (length expected + 1)
    (λ found. gives (likeness expected found)) c.in-Err-NoMemory.ensures.reads_only
    (rw c.in-Err-NoMemory.field-0-is at c.in-Err-NoMemory.ensures.refused)
    c.in-Err-NoMemory.ensures.at_most)
