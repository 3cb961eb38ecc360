-- What a run logs, step by step, and what a counter was fed of it.
use Rattle.std.proofs.Common.{◌≡◌, ℕ, suc, ◌+◌, ◌-◌, ◌*◌, ◌<◌, ◌≤◌, true, false, List, []}
use Rattle.std.proofs.Common.{◌++◌, Some, sym, ap, subst, ◌∙◌, append_assoc}
use Rattle.std.proofs.Common.{arith, rules}
use Rattle.rvs_machine.specs.declared.event.Event.{Event}
use Rattle.rvs_machine.specs.Machine.{Setup, State, Whole, step_of}
use Rattle.rvs_machine.specs.Run.{Outcome, follow, run_of}
use Rattle.rvs_log.specs.Logs.{log_of}
use Rattle.rvs_index.specs.State.{CountState, with_reading}
use Rattle.rvs_log.specs.Feeds.{Fed}
use Rattle.rvs_log.proofs.Feeding.{Fed-more}
use Rattle.rvs_demo.specs.Counted.{executed_in, goes_on}

-- the log of a run of at most n steps
abbrev pub log_from : Setup → ℕ → State → List ℕ
log_from setup n s = log_of (run_of setup n s).trace

-- of one step
abbrev pub piece_of : Setup → State → List ℕ
piece_of setup s = log_of (executed_in (step_of setup s).0)

after_event : (go : State → Outcome) (ev : Event) (s : State) → goes_on ev ≡ true
    → log_of (follow go ev s).trace ≡ log_of (executed_in ev) ++ log_of (go s).trace
after_event go ev s h = search rules

at_event : (go : State → Outcome) (ev : Event) (s : State) → goes_on ev ≡ false
    → log_of (follow go ev s).trace ≡ log_of (executed_in ev)
at_event go ev s h = grind arith

log_goes : (setup : Setup) (n : ℕ) (s : State) → goes_on (step_of setup s).0 ≡ true
    → log_from setup (suc n) s ≡ piece_of setup s ++ log_from setup n (step_of setup s).1
log_goes setup n s h = after_event (run_of setup n) (step_of setup s).0 (step_of setup s).1 h

log_stops : (setup : Setup) (n : ℕ) (s : State) → goes_on (step_of setup s).0 ≡ false
    → log_from setup (suc n) s ≡ piece_of setup s
log_stops setup n s h = at_event (run_of setup n) (step_of setup s).0 (step_of setup s).1 h

-- the machine after its step
abbrev pub stepped : Whole → Whole
stepped m = record m { state = (step_of m.setup m.state).1 }

-- i steps of a run were made, and the counter was fed what they log
pub record Running (limit i : ℕ) (first now : Whole) (old new : CountState) : Type 0 where
  pub done : List ℕ
  pub fed : Fed with_reading old new done
  pub log : log_from first.setup limit first.state
      ≡ done ++ log_from now.setup (limit - i) now.state
  pub low : new.fed ≤ old.fed + 51 * i
  pub begun : new.waiting ≡ Some []

pub Running-start : (limit : ℕ) (m : Whole) (c : CountState) → c.waiting ≡ Some []
    → Running limit 0 m m c c
Running-start limit m c begun = search rules

pub Running-more : (limit i : ℕ) (first now next : Whole) (old mid new : CountState) → i < limit
    → Running limit i first now old mid → goes_on (step_of now.setup now.state).0 ≡ true
    → next ≡ stepped now → Fed with_reading mid new (piece_of now.setup now.state)
    → new.fed ≤ mid.fed + 51 → new.waiting ≡ Some [] → Running limit (i + 1) first next old new
Running-more limit i first now next old mid new less r goes is fed low begun =
    let left = limit - (i + 1) in
    let e : limit - i ≡ suc left = omega arith in
    let piece = piece_of now.setup now.state in
    let rest = log_from now.setup left (step_of now.setup now.state).1 in
    let P : Whole → Type 0 = λ m. Running limit (i + 1) first m old new in
    subst P (sym is)
    (record {
      done = r.done ++ piece;
      fed = Fed-more old mid new r.done piece r.fed fed;
      log =
          r.log
          ∙ ap (λ n. r.done ++ log_from now.setup n now.state) e
          ∙ ap (λ l. r.done ++ l) (log_goes now.setup left now.state goes)
          ∙ sym (append_assoc r.done piece rest);
      low = omega (arith, r.low);
      begun = begun;
    })

-- all of it, where the run ends before its limit
pub Running-stops : (limit i : ℕ) (first now : Whole) (old mid new : CountState) → i < limit
    → Running limit i first now old mid → goes_on (step_of now.setup now.state).0 ≡ false
    → Fed with_reading mid new (piece_of now.setup now.state)
    → Fed with_reading old new (log_from first.setup limit first.state)
Running-stops limit i first now old mid new less r stops fed =
    let left = limit - (i + 1) in
    let e : limit - i ≡ suc left = omega arith in
    let all : log_from first.setup limit first.state
    ≡ r.done ++ piece_of now.setup now.state =
    r.log ∙ ap (λ n. r.done ++ log_from now.setup n now.state) e
    ∙ ap (λ l. r.done ++ l) (log_stops now.setup left now.state stops) in
    subst (Fed with_reading old new) (sym all)
    (Fed-more old mid new r.done (piece_of now.setup now.state) r.fed fed)
