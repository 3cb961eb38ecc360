use Rattle.std.proofs.Common.{◌≡◌, ◌≤◌, ◌<◌, ℕ, ◌+◌, ◌^◌, [], List, length, refl, ap, ◌∙◌}
use Rattle.std.proofs.Common.{arith}
use Rattle.std.proofs.lemmas.Result.{err_from_is_err_and}
use Rattle.rvs_plan.specs.World.{world}
use Rattle.rvs_plan.specs.Inputs.{too_long_text}
use Rattle.rvs_plan.proofs.Sequence.{Meets-no_memory}
use Rattle.rvs_plan.proofs.Stepping.{asks-refused, asks-absent, asks-failed, asks-no_memory}
use Rattle.rvs_log.specs.Lines.{log_limit}
use Rattle.rvs_log.specs.Taken.{ended, state_for}
use Rattle.rvs_log.proofs.Telling.{told-nothing}
use Rattle.rvs_coverage.specs.LogReport.{log_bound, with_found}
use Rattle.rvs_coverage.proofs.LogReads.{refuses-log, at_most-log}
use Rattle.rvs_coverage.proofs.taking_logs.take_log.Goals as goal

pub returns-in_err-name-clause-stopped : goal.returns-in_err-name-clause-stopped
returns-in_err-name-clause-stopped g c =
    let p = err_from_is_err_and c.from_residual.result c.from_residual.ensures.1 in
    rw (p.1, p.2) (λ out more known new.
    Meets-no_memory _ (world (g.H.Host.state c.args.host.now) out))

pub returns-in_err-too_long-in-Err-TooLong-clause-stopped
    : goal.returns-in_err-too_long-in-Err-TooLong-clause-stopped
returns-in_err-too_long-in-Err-TooLong-clause-stopped g c =
    let p = err_from_is_err_and c.from_residual-in_err-too_long-in-Err-TooLong.result
    c.from_residual-in_err-too_long-in-Err-TooLong.ensures.1 in
    rw (p.1, p.2) (λ out more known new. asks-no_memory out _ log_bound _
    c.in-Err-TooLong.ensures.reads_only
    (rw c.in-Err-TooLong.field-0-is at c.in-Err-TooLong.ensures.cause).1
    (at_most-log c.args.reader.now.fed c.in-Err-TooLong.ensures.at_most))

-- what was fed and isn't too long
short : (old mid new size : ℕ) → mid ≡ old + size → new ≡ mid → new ≤ 2 ^ 40 → old ≡ 0
    → size ≤ log_limit
short old mid new size fed same low none = omega (arith, fed, same, low, none)

none_before : (n : ℕ) → 0 + n ≡ n
none_before n = omega arith

pub returns-in-Ok-clause-taken : goal.returns-in-Ok-clause-taken
returns-in-Ok-clause-taken g c =
    let feeds = c.in-Ok.ensures.whole in
    record {
      bytes = feeds.bytes;
      state = λ told is begun.
          c.finish.ensures.state told is feeds.bytes (0 + length feeds.bytes)
          (feeds.fed.state told is [] 0 begun)
          ∙ ap (state_for told (ended feeds.bytes)) (none_before (length feeds.bytes));
      short = short c.args.reader.now.fed _ c.finish.new.self.fed (length feeds.bytes)
          feeds.fed.fed (ap (λ s. s.fed) c.finish.ensures.end) c.finish.ensures.low;
      reads_only = c.in-Ok.ensures.reads_only;
      unfaulted = c.in-Ok.ensures.unfaulted;
      at_most = at_most-log c.args.reader.now.fed c.in-Ok.ensures.at_most;
      whole = feeds.whole;
    }

pub returns-in-Err-NoFile-clause-stopped : goal.returns-in-Err-NoFile-clause-stopped
returns-in-Err-NoFile-clause-stopped g c = λ out more known new.
    let name = c.args.log.now in
    rw c.in_ok-name.ensures (asks-absent out name log_bound (with_found more known name)
    c.in-Err-NoFile.ensures.reads_only
    (rw c.in-Err-NoFile.field-0-is at c.in-Err-NoFile.ensures.cause).0 refl
    (at_most-log c.args.reader.now.fed c.in-Err-NoFile.ensures.at_most))

pub returns-in-Err-Failed-clause-stopped : goal.returns-in-Err-Failed-clause-stopped
returns-in-Err-Failed-clause-stopped g c = λ out more known new.
    let name = c.args.log.now in
    rw c.in_ok-name.ensures (asks-failed out name log_bound (with_found more known name)
    c.in-Err-Failed.ensures.reads_only
    (rw c.in-Err-Failed.field-0-is at c.in-Err-Failed.ensures.cause)
    (at_most-log c.args.reader.now.fed c.in-Err-Failed.ensures.at_most))

longer : (fed : ℕ) (bytes : List ℕ) → fed ≡ 0 → 2 ^ 40 < fed + length bytes
    → log_limit < length bytes
longer fed bytes new long = omega arith

pub returns-in_ok-too_long-in-Err-TooLong-clause-stopped
    : goal.returns-in_ok-too_long-in-Err-TooLong-clause-stopped
returns-in_ok-too_long-in-Err-TooLong-clause-stopped g c = λ out more known new.
    let name = c.args.log.now in
    let cause = rw c.in-Err-TooLong.field-0-is at c.in-Err-TooLong.ensures.cause in
    let text : c.in_ok-too_long-in-Err-TooLong.field-0 ≡ too_long_text name log_limit =
    c.in_ok-too_long-in-Err-TooLong.ensures in
    asks-refused out name log_bound (with_found more known name)
    c.in_ok-too_long-in-Err-TooLong.field-0 c.in-Err-TooLong.ensures.reads_only
    (λ files t. let long = cause.0.longer files t in (
      long.0,
      long.1,
      refuses-log more known name long.0 c.in_ok-too_long-in-Err-TooLong.field-0
          (longer c.args.reader.now.fed long.0 new long.2) text,
    )) cause.1 (at_most-log c.args.reader.now.fed c.in-Err-TooLong.ensures.at_most)

-- ---- a line that wasn't put
pub returns-in-Err-NoMemory-clause-stopped : goal.returns-in-Err-NoMemory-clause-stopped
returns-in-Err-NoMemory-clause-stopped g c = λ out more known new.
    asks-no_memory out _ log_bound _ c.in-Err-NoMemory.ensures.reads_only
    (rw c.in-Err-NoMemory.field-0-is at c.in-Err-NoMemory.ensures.cause)
    (at_most-log c.args.reader.now.fed c.in-Err-NoMemory.ensures.at_most)

pub returns-in-Err-Untold-clause-stopped : goal.returns-in-Err-Untold-clause-stopped
returns-in-Err-Untold-clause-stopped g c = λ out more known new.
    asks-no_memory out _ log_bound _ c.in-Err-Untold.ensures.reads_only
    (rw c.in-Err-Untold.field-0-is at c.in-Err-Untold.ensures.cause)
    (at_most-log c.args.reader.now.fed c.in-Err-Untold.ensures.at_most)

-- ---- what was told
pub returns-in_err-name-clause-told : goal.returns-in_err-name-clause-told
returns-in_err-name-clause-told g c =
    let p = err_from_is_err_and c.from_residual.result c.from_residual.ensures.1 in
    rw (p.1, p.2) (told-nothing _ _ _ _)

pub returns-in-Ok-clause-told : goal.returns-in-Ok-clause-told
returns-in-Ok-clause-told g c = c.in-Ok.ensures.told

pub returns-in-Err-NoFile-clause-told : goal.returns-in-Err-NoFile-clause-told
returns-in-Err-NoFile-clause-told g c =
    rw c.in-Err-NoFile.field-0-is at c.in-Err-NoFile.ensures.untold

pub returns-in-Err-Failed-clause-told : goal.returns-in-Err-Failed-clause-told
returns-in-Err-Failed-clause-told g c =
    rw c.in-Err-Failed.field-0-is at c.in-Err-Failed.ensures.untold

pub returns-in-Err-NoMemory-clause-told : goal.returns-in-Err-NoMemory-clause-told
returns-in-Err-NoMemory-clause-told g c =
    rw c.in-Err-NoMemory.field-0-is at c.in-Err-NoMemory.ensures.untold

pub returns-in-Err-Untold-clause-told : goal.returns-in-Err-Untold-clause-told
returns-in-Err-Untold-clause-told g c =
    rw c.in-Err-Untold.field-0-is at c.in-Err-Untold.ensures.untold

pub returns-in_err-too_long-in-Err-TooLong-clause-told
    : goal.returns-in_err-too_long-in-Err-TooLong-clause-told
returns-in_err-too_long-in-Err-TooLong-clause-told g c =
    let p = err_from_is_err_and c.from_residual-in_err-too_long-in-Err-TooLong.result
    c.from_residual-in_err-too_long-in-Err-TooLong.ensures.1 in
    rw (p.1, p.2) (rw c.in-Err-TooLong.field-0-is at c.in-Err-TooLong.ensures.untold)

pub returns-in_ok-too_long-in-Err-TooLong-clause-told
    : goal.returns-in_ok-too_long-in-Err-TooLong-clause-told
returns-in_ok-too_long-in-Err-TooLong-clause-told g c =
    rw c.in-Err-TooLong.field-0-is at c.in-Err-TooLong.ensures.untold
