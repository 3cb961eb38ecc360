-- A run goes on where it stopped, and a run that is over stays so.
use Rattle.std.proofs.Common.{◌≡◌, ◌≢◌, ℕ, zero, suc, ◌+◌, ◌-◌, ◌<◌, List, ◌∷◌, ◌++◌, refl, sym, ap}
use Rattle.std.proofs.Common.{◌∙◌, arith, append_assoc}
use Rattle.rvs_machine.specs.declared.event.Executed.{Executed}
use Rattle.rvs_machine.specs.declared.event.Event.{Event}
use Rattle.rvs_machine.specs.declared.event.Event.TheVariants.{Ran, Halted, Trapped}
use Rattle.rvs_machine.specs.declared.event.End.{End}
use Rattle.rvs_machine.specs.declared.event.End.TheVariants.{Halted as AtHalt, Trapped as AtTrap}
use Rattle.rvs_machine.specs.declared.event.End.TheVariants.{StepLimit, NoMemory}
use Rattle.rvs_machine.specs.Machine.{Setup, State, Whole, step_of}
use Rattle.std.proofs.Common.{Some}
use Rattle.rvs_machine.specs.Run.{Outcome, with_first, follow, run_of, end_of_run, HasRun, HasStep}
use Rattle.rvs_machine.specs.Run.{Stepped}

-- goes on after a run that stopped at its limit
abbrev pub after : List Executed → State → End → (State → Outcome) → Outcome
after es s StepLimit go =
    record { trace = es ++ (go s).trace; state = (go s).state; end = (go s).end }
after es s AtHalt go = record { trace = es; state = s; end = AtHalt }
after es s (AtTrap t) go = record { trace = es; state = s; end = AtTrap t }
after es s NoMemory go = record { trace = es; state = s; end = NoMemory }

after_first : (e : Executed) (es : List Executed) (s : State) (end : End) (go : State → Outcome)
    → with_first e (after es s end go) ≡ after (e ∷ es) s end go
after_first e es s StepLimit go = refl
after_first e es s AtHalt go = refl
after_first e es s (AtTrap t) go = refl
after_first e es s NoMemory go = refl

after_follow : (ev : Event) (s : State) (f go : State → Outcome)
    → follow (λ t. after (f t).trace (f t).state (f t).end go) ev s
    ≡ after (follow f ev s).trace (follow f ev s).state (follow f ev s).end go
after_follow (Ran e) s f go = after_first e (f s).trace (f s).state (f s).end go
after_follow (Halted e) s f go = refl
after_follow (Trapped t) s f go = refl

same_follow : (ev : Event) (s : State) (f g : State → Outcome) → ((t : State) → f t ≡ g t)
    → follow f ev s ≡ follow g ev s
same_follow (Ran e) s f g h = ap (with_first e) (h s)
same_follow (Halted e) s f g h = refl
same_follow (Trapped t) s f g h = refl

pub run_on : (setup : Setup) (m n : ℕ) (s : State) → run_of setup (m + n) s ≡ after
    (run_of setup m s).trace (run_of setup m s).state (run_of setup m s).end (run_of setup n)
run_on setup zero n s = ap (λ k. run_of setup k s) (omega arith)
run_on setup (suc m) n s =
    let e : suc m + n ≡ suc (m + n) = omega arith in
    ap (λ k. run_of setup k s) e
    ∙ same_follow (step_of setup s).0 (step_of setup s).1 (run_of setup (m + n)) (λ t. after
    (run_of setup m t).trace (run_of setup m t).state (run_of setup m t).end (run_of setup n))
    (λ t. run_on setup m n t)
    ∙ after_follow (step_of setup s).0 (step_of setup s).1 (run_of setup m) (run_of setup n)

-- what a run has done that goes on
abbrev pub Done : Whole → Whole → ℕ → List Executed → List Executed → Type 0
Done old now n before after' =
    (steps : List Executed) × (after' ≡ before ++ steps)
    × (run_of old.setup n old.state ≡ record { trace = steps; state = now.state; end = StepLimit })
    × (now.setup ≡ old.setup)

-- from a run of n steps and one step more
one_more : (old now next : Whole) (n : ℕ) (steps more : List Executed) (end : End) → now.setup
    ≡ old.setup → run_of old.setup n old.state
    ≡ record { trace = steps; state = now.state; end = StepLimit } → run_of now.setup 1 now.state
    ≡ record { trace = more; state = next.state; end = end } → run_of old.setup (n + 1) old.state
    ≡ record { trace = steps ++ more; state = next.state; end = end }
one_more old now next n steps more end same r one =
    let P : Outcome → Outcome = λ o. after o.trace o.state o.end (run_of old.setup 1) in
    run_on old.setup n 1 old.state ∙ ap P r
    ∙ ap (λ st. after steps now.state StepLimit (run_of st 1)) (sym same)
    ∙ ap (λ (o : Outcome). record { trace = steps ++ o.trace; state = o.state; end = o.end }) one

pub run_goes : (old now next : Whole) (n : ℕ) (before mid after' : List Executed)
    → Done old now n before mid → Stepped now next mid after' StepLimit
    → Done old next (n + 1) before after'
run_goes old now next n before mid after' d s = (
  d.0 ++ s.steps,
  s.trace ∙ ap (λ l. l ++ s.steps) d.1 ∙ append_assoc before d.0 s.steps,
  one_more old now next n d.0 s.steps StepLimit d.3 d.2 s.run,
  s.same ∙ d.3,
)

-- a run that is over is the same with a higher limit
over_at : (old next : Whole) (limit n : ℕ) (before mid after' : List Executed) (now : Whole)
    (end : End) → n < limit → end ≢ StepLimit → end ≢ NoMemory → end_of_run end ≡ end → Done old now
    n before mid → Stepped now next mid after' end → HasRun old next limit before after' end
over_at old next limit n before mid after' now end lt ne nm same d s =
    let r = one_more old now next n d.0 s.steps end d.3 d.2 s.run in
    let e : n + 1 + (limit - (n + 1)) ≡ limit = omega arith in
    let P : Outcome
    → Outcome = λ o. after o.trace o.state o.end (run_of old.setup (limit - (n + 1))) in
    record {
      count = limit;
      steps = d.0 ++ s.steps;
      bound = omega arith;
      whole = λ _. refl;
      trace = s.trace ∙ ap (λ l. l ++ s.steps) d.1 ∙ append_assoc before d.0 s.steps;
      run = ap (λ k. run_of old.setup k old.state) (sym e)
          ∙ run_on old.setup (n + 1) (limit - (n + 1)) old.state ∙ ap P r
          ∙ stays (d.0 ++ s.steps) next.state end (run_of old.setup (limit - (n + 1))) ne nm
          ∙ ap (λ x. record { trace = d.0 ++ s.steps; state = next.state; end = x }) (sym same);
      same = s.same ∙ d.3;
    }
  where
    stays : (es : List Executed) (s : State) (end : End) (go : State → Outcome) → end ≢ StepLimit
        → end ≢ NoMemory → after es s end go ≡ record { trace = es; state = s; end = end }
    stays es s StepLimit go a b = absurd (a refl)
    stays es s AtHalt go a b = refl
    stays es s (AtTrap t) go a b = refl
    stays es s NoMemory go a b = absurd (b refl)

pub run_ends : (old now next : Whole) (limit n : ℕ) (before mid after' : List Executed) (end : End)
    → n < limit → Done old now n before mid → HasStep now next mid after' (Some end)
    → HasRun old next limit before after' end
run_ends old now next limit n before mid after' AtHalt lt d s =
    over_at old next limit n before mid after' now AtHalt lt (λ e. cc) (λ e. cc) refl d s
run_ends old now next limit n before mid after' (AtTrap t) lt d s =
    over_at old next limit n before mid after' now (AtTrap t) lt (λ e. cc) (λ e. cc) refl d s
run_ends old now next limit n before mid after' StepLimit lt d s = absurd s
run_ends old now next limit n before mid after' NoMemory lt d s = record {
  count = n;
  steps = d.0;
  bound = omega arith;
  whole = λ ne. absurd (ne refl);
  trace = s.1 ∙ d.1;
  run =
      d.2 ∙ ap (λ (w : Whole). record { trace = d.0; state = w.state; end = StepLimit }) (sym s.0);
  same = ap (λ (w : Whole). w.setup) s.0 ∙ d.3;
}
