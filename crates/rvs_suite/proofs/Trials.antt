-- What the effects of judging leave, test by test.
use Rattle.std.proofs.Common.{◌≡◌, ◌⊎◌, inl, inr, ℕ, Bool, is_some, true, List, [], ◌∷◌, ◌++◌, map}
use Rattle.std.proofs.Common.{append_assoc, append-nil, length, Option, Some, None, Result, Ok, Err}
use Rattle.std.proofs.Common.{option_map, bytes_eq, refl, sym, ap, subst, ◌∙◌, arith, rules}
use Rattle.rvs_base.specs.Host.{Files, with_left, run_over}
use Rattle.rvs_base.specs.Sink.{appended}
use Rattle.rvs_base.specs.declared.host.DeviceRun.{DeviceRun}
use Rattle.rvs_plan.specs.World.{Contents, contents}
use Rattle.rvs_plan.specs.Effect.{Write, Out, Effect, Did, Device, after, after_deed, Saw}
use Rattle.rvs_plan.specs.Effect as steps
use Rattle.rvs_plan.specs.Plan.{Plan, Ends, Goes, followed, ◌>>=◌}
use Rattle.rvs_plan.specs.Inputs.{part_end}
use Rattle.rvs_plan.specs.declared.stop.Stop.{Stop}
use Rattle.rvs_plan.specs.declared.status.Finish.{Finish}
use Rattle.rvs_device.specs.Printed.{verdict_line}
use Rattle.rvs_device.specs.declared.verdicts.TestVerdict.{TestVerdict}
use Rattle.rvs_promises.specs.Call.{Call, world_of}
use Rattle.rvs_inputs.specs.GroupFiles.{and_then}
use Rattle.rvs_suite.specs.Judging.{HasTried, HasJudged}
use Rattle.rvs_reference.specs.Reference.{test_limit}
use Rattle.rvs_suite.specs.RunLeft.{made_in, Trial, with_held, with_executable, with_made}
use Rattle.rvs_suite.specs.RunLeft.{started_on, with_trial, with_trials, IsTrialOf, AreTrialsOf}
use Rattle.rvs_suite.specs.RunLeft.{task_on, trial_verdict, trial_lines, trials_passed, runs_of}
use Rattle.rvs_run.specs.RunTests.{Bench, made_for, made_found, writes_held, writes_executable}
use Rattle.rvs_run.specs.RunTests.{judges_words, announces, announces_made, judges_one}
use Rattle.rvs_run.specs.RunTests.{judges_all, passes, with_one, tally_line, verdict_of_all}
use Rattle.rvs_run.specs.RunTests.{tallies}
use Rattle.rvs_generate.specs.TestFiles.{files_at}
use Rattle.rvs_reference.specs.TestRun.{found_end, accepted}
use Rattle.rvs_generate.specs.Tests.{source_name}
use Rattle.rvs_run.specs.declared.judging.Made.{Made}
use Rattle.rvs_generate.specs.declared.sources.Source.{Source}
use Rattle.rvs_generate.specs.declared.sources.Source.TheVariants.{Held, Read}
use Rattle.rvs_generate.specs.declared.test_files.TestFiles.{TestFiles}
use Rattle.rvs_inputs.proofs.Chains.{then-then}
use Rattle.rvs_suite.proofs.Passed.{are-judged}
use Rattle.rvs_generate.proofs.Paths.{found-in, same-bytes}
use Rattle.rvs_promises.proofs.RunSteps.{Step, did-step, read-step, ran-step, left-over, left-there}
use Rattle.rvs_promises.proofs.RunSteps.{contents_of, appended-twice, append-none}

-- ---- what is written where there is something
held-step : (name : List ℕ) (source : Source) (plan : Plan TestVerdict)
    (put : TestVerdict → Plan Bool) (next : Bool → Plan Finish) (end : Result Finish Stop)
    (effects : List Effect) (files : Files) (runs : List DeviceRun) (out : Option (List ℕ))
    → Goes ((writes_held name source >>= (λ _. plan)) >>= put >>= next) effects (Ends end)
    → Saw effects (contents_of files runs out) → Step (plan >>= put >>= next) end effects
    (contents_of files runs out) (contents_of (with_held name source files) runs out)
held-step name (Held test) plan put next end effects files runs out goes saw =
    did-step (Write name test.text) (plan >>= put >>= next) end effects
    (contents_of files runs out) goes saw
held-step name (Read given) plan put next end effects files runs out goes saw =
    record { rest = effects; goes = goes; saw = saw; same = refl }

executable-step : (name : List ℕ) (executable : Option (List ℕ)) (plan : Plan TestVerdict)
    (put : TestVerdict → Plan Bool) (next : Bool → Plan Finish) (end : Result Finish Stop)
    (effects : List Effect) (files : Files) (runs : List DeviceRun) (out : Option (List ℕ))
    → Goes ((writes_executable name executable >>= (λ _. plan)) >>= put >>= next) effects (Ends end)
    → Saw effects (contents_of files runs out) → Step (plan >>= put >>= next) end effects
    (contents_of files runs out) (contents_of (with_executable name executable files) runs out)
executable-step name None plan put next end effects files runs out goes saw =
    record { rest = effects; goes = goes; saw = saw; same = refl }
executable-step name (Some executable) plan put next end effects files runs out goes saw =
    did-step (Write name executable) (plan >>= put >>= next) end effects
    (contents_of files runs out) goes saw

-- ---- one test that is judged
abbrev after_trial : Files → List DeviceRun → Option (List ℕ) → Trial → Contents
after_trial files runs out t = contents_of (with_trial t files) (runs ++ t.run ∷ [])
    (appended out (verdict_line (source_name t.source) (trial_verdict t)))

record TriedOne (bench : Bench) (source : Source) (next : Bool → Plan Finish) (files : Files)
    (runs : List DeviceRun) (out : Option (List ℕ)) (end : Result Finish Stop)
    (now : Contents) : Type 0 where
  trial : Trial
  is : IsTrialOf bench files source trial
  later : List Effect
  goes : Goes (next (passes (trial_verdict trial))) later (Ends end)
  saw : Saw later (after_trial files runs out trial)
  same : now ≡ after later (after_trial files runs out trial)

tried-made : (bench : Bench) (source : Source) (made : Made) (next : Bool → Plan Finish)
    (files : Files) (runs : List DeviceRun) (out : Option (List ℕ)) (end : Result Finish Stop)
    (effects : List Effect) (now : Contents) → now ≡ after effects (contents_of files runs out)
    → made_in files bench source ≡ Ok made
    → Goes (announces_made bench source made >>= next) effects (Ends end)
    → Saw effects (contents_of files runs out)
    → TriedOne bench source next files runs out end now
tried-made bench source made next files runs out end effects now is accepts goes saw =
    let name = source_name source in
    let device = made.files.device in
    let started = started_on source made files in
    let judging = judges_words bench made.files made.words in
    let text = held-step made.files.test source
    (writes_executable made.files.executable made.executable >>= (λ _. judging)) (announces name)
    next end effects files runs out goes saw in
    let written = executable-step made.files.executable made.executable judging (announces name)
    next end text.rest (with_held made.files.test source files) runs out text.goes text.saw in
    let words = did-step _ _ end written.rest (contents_of (with_executable made.files.executable
    made.executable (with_held made.files.test source files)) runs out) written.goes written.saw in
    let empty = did-step _ _ end words.rest (contents_of (with_made source made files) runs out)
    words.goes words.saw in
    let ran =
    ran-step _ _ _ _ end empty.rest (contents_of started runs out) empty.goes empty.saw in
    let left = ran.0.left in
    let run =
    run_over (task_on bench made).words made.files.test device started left ran.0.status in
    let behind = contents_of (with_left device left started) (runs ++ run ∷ []) out in
    let back = read-step device _ _ end ran.1.rest (with_left device left started) behind left refl
    (left-there device left started) ran.1.goes ran.1.saw in
    let line = did-step _ _ end back.rest behind back.goes back.saw in
    let trial : Trial = record { source = source; made = made; run = run } in
    let put = verdict_line name (trial_verdict trial) in
    let over : contents_of (with_left device left started) (runs ++ run ∷ []) (appended out put)
    ≡ after_trial files runs out trial = ap
    (λ (f : Files). contents_of f (runs ++ run ∷ []) (appended out put))
    (left-over device [] left (with_made source made files)) in
    record {
      trial = trial;
      is = record {
        source_is = refl;
        made = accepts;
        words = refl;
        test = refl;
        before = found-in (bytes_eq device device) _ _ (same-bytes device);
      };
      later = line.rest;
      goes = line.goes;
      saw = subst (λ (c : Contents). Saw line.rest c) over line.saw;
      same = is ∙ text.same ∙ written.same ∙ words.same ∙ empty.same ∙ ran.1.same ∙ back.same
          ∙ line.same ∙ ap (λ (c : Contents). after line.rest c) over;
    }

-- ---- one test at which the work ends
record EndedOne (bench : Bench) (source : Source) (files : Files) (end : Result Finish Stop)
    (now c : Contents) : Type 0 where
  stop : Stop
  stops : made_in files bench source ≡ Err stop
  ends : end ≡ Err stop
  same : now ≡ c

ended-with : (end : Result Finish Stop) (stop : Stop) (effects : List Effect) (c : Contents)
    → Goes (Ends (Err stop)) effects (Ends end) → (end ≡ Err stop) × (after effects c ≡ c)
ended-with end stop [] c goes = let same : Err stop ≡ end = cc in (sym same, refl)
ended-with end stop (effect ∷ effects) c goes = absurd goes

-- what follows what comes of a test
abbrev behind_made : Bench → Source → (Bool → Plan Finish) → Made → Plan Finish
behind_made bench source next made = announces_made bench source made >>= next

-- by what comes of its file
tried-by : (bench : Bench) (source : Source) (next : Bool → Plan Finish) (files : Files)
    (runs : List DeviceRun) (out : Option (List ℕ)) (end : Result Finish Stop)
    (effects : List Effect) (now : Contents) (found : Result Made Stop)
    → now ≡ after effects (contents_of files runs out) → made_in files bench source ≡ found
    → Goes (followed found (behind_made bench source next)) effects (Ends end)
    → Saw effects (contents_of files runs out)
    → TriedOne bench source next files runs out end now
    ⊎ EndedOne bench source files end now (contents_of files runs out)
tried-by bench source next files runs out end effects now (Ok made) same is goes saw =
    inl (tried-made bench source made next files runs out end effects now same is goes saw)
tried-by bench source next files runs out end effects now (Err stop) same is goes saw =
    let over = ended-with end stop effects (contents_of files runs out) goes in
    inr (record { stop = stop; stops = is; ends = over.0; same = same ∙ over.1 })

by-found : (bench : Bench) (source : Source) (next : Bool → Plan Finish)
    (found : Result Made (List ℕ)) → ((accepted found >>= announces_made bench source) >>= next)
    ≡ followed (found_end found) (behind_made bench source next)
by-found bench source next found = grind arith

by-bytes : (bench : Bench) (source : Source) (own : TestFiles) (next : Bool → Plan Finish)
    (bytes : Result (List ℕ) Stop) → ((followed bytes (λ b. accepted (made_found bench own b))
    >>= announces_made bench source) >>= next) ≡ followed
    (and_then bytes (λ b. found_end (made_found bench own b))) (behind_made bench source next)
by-bytes bench source own next bytes = grind (arith, by-found)

tried-one : (bench : Bench) (source : Source) (next : Bool → Plan Finish) (files : Files)
    (runs : List DeviceRun) (out : Option (List ℕ)) (end : Result Finish Stop)
    (effects : List Effect) (now : Contents) → now ≡ after effects (contents_of files runs out)
    → Goes (judges_one bench source >>= next) effects (Ends end)
    → Saw effects (contents_of files runs out)
    → TriedOne bench source next files runs out end now
    ⊎ EndedOne bench source files end now (contents_of files runs out)
tried-one bench (Held test) next files runs out end effects now same goes saw = inl (tried-made
    bench (Held test) (made_for bench test) next files runs out end effects now same refl goes saw)
tried-one bench (Read given) next files runs out end effects now same goes saw =
    let c = contents_of files runs out in
    let back = read-step given.name _ _ end effects files c (files given.name) refl refl goes saw in
    let plan = by-bytes bench (Read given) (files_at bench.work given.place given.name) next
    (part_end test_limit given.name given.name test_limit (files given.name)) in
    tried-by bench (Read given) next files runs out end back.rest now
    (made_in files bench (Read given)) (same ∙ back.same) refl
    (subst (λ (p : Plan Finish). Goes p back.rest (Ends end)) plan back.goes) back.saw

-- ---- all tests
abbrev pub after_trials : Files → List DeviceRun → Option (List ℕ) → List Trial → Contents
after_trials files runs out trials = contents_of (with_trials trials files)
    (runs ++ runs_of trials) (appended out (trial_lines trials))

-- each was judged, and then comes what follows
pub record TriedAll {A : Type 0} (of : A → Source) (bench : Bench) (xs : List A) (passed : ℕ)
    (next : ℕ → Plan Finish) (files : Files) (runs : List DeviceRun) (out : Option (List ℕ))
    (end : Result Finish Stop) (now : Contents) : Type 0 where
  pub trials : List Trial
  pub each : AreTrialsOf bench files (map of xs) trials
  pub later : List Effect
  pub goes : Goes (next (trials_passed passed trials)) later (Ends end)
  pub same : now ≡ after later (after_trials files runs out trials)

-- those before one were, and the work ended there
pub record EndedAt {A : Type 0} (of : A → Source) (bench : Bench) (xs : List A) (files : Files)
    (runs : List DeviceRun) (out : Option (List ℕ)) (end : Result Finish Stop)
    (now : Contents) : Type 0 where
  pub before : List A
  pub last : A
  pub behind : List A
  pub all : xs ≡ before ++ last ∷ behind
  pub trials : List Trial
  pub each : AreTrialsOf bench files (map of before) trials
  pub stop : Stop
  pub stops : made_in (with_trials trials files) bench (of last) ≡ Err stop
  pub ends : end ≡ Err stop
  pub same : now ≡ after_trials files runs out trials

-- what one more trial before others leaves
more-after : (files : Files) (runs : List DeviceRun) (out : Option (List ℕ)) (t : Trial)
    (ts : List Trial) → after_trials (with_trial t files) (runs ++ t.run ∷ [])
    (appended out (verdict_line (source_name t.source) (trial_verdict t))) ts
    ≡ after_trials files runs out (t ∷ ts)
more-after files runs out t ts = λ i. contents_of (with_trials ts (with_trial t files))
    (append_assoc runs (t.run ∷ []) (runs_of ts) i)
    (appended-twice out (verdict_line (source_name t.source) (trial_verdict t)) (trial_lines ts) i)

none-after : (files : Files) (runs : List DeviceRun) (out : Option (List ℕ))
    → contents_of files runs out ≡ after_trials files runs out []
none-after files runs out = search (rules, append-nil, append-none)

pub tried-all : {A : Type 0} (of : A → Source) (bench : Bench) (xs : List A) (passed : ℕ)
    (next : ℕ → Plan Finish) (files : Files) (runs : List DeviceRun) (out : Option (List ℕ))
    (end : Result Finish Stop) (effects : List Effect) (now : Contents)
    → now ≡ after effects (contents_of files runs out)
    → Goes (judges_all bench passed (map of xs) >>= next) effects (Ends end)
    → Saw effects (contents_of files runs out)
    → TriedAll of bench xs passed next files runs out end now
    ⊎ EndedAt of bench xs files runs out end now
tried-all of bench [] passed next files runs out end effects now same goes saw = inl (record {
  trials = [];
  each = tt;
  later = effects;
  goes = goes;
  same = same ∙ ap (λ (c : Contents). after effects c) (none-after files runs out);
})
tried-all {A} of bench (x ∷ xs) passed next files runs out end effects now same goes saw =
    let step = λ (pass : Bool). judges_all bench (with_one passed pass) (map of xs) >>= next in
    elim (tried-one bench (of x) step files runs out end effects now same
    (subst (λ (p : Plan Finish). Goes p effects (Ends end))
    (then-then (judges_one bench (of x)) (λ pass. judges_all bench (with_one passed pass)
    (map of xs)) next) goes) saw) [
      | inl one ↦ elim (tried-all of bench xs (with_one passed (passes (trial_verdict one.trial)))
          next (with_trial one.trial files) (runs ++ one.trial.run ∷ []) (appended out
          (verdict_line (source_name one.trial.source) (trial_verdict one.trial))) end one.later
          now one.same one.goes one.saw) [
            | inl all ↦ inl (record {
              trials = one.trial ∷ all.trials;
              each = (one.is, all.each);
              later = all.later;
              goes = all.goes;
              same = all.same ∙ ap (λ (c : Contents). after all.later c)
                  (more-after files runs out one.trial all.trials);
            })
            | inr at ↦ inr (record {
              before = x ∷ at.before;
              last = at.last;
              behind = at.behind;
              all = ap (λ (ys : List A). x ∷ ys) at.all;
              trials = one.trial ∷ at.trials;
              each = (one.is, at.each);
              stop = at.stop;
              stops = at.stops;
              ends = at.ends;
              same = at.same ∙ more-after files runs out one.trial at.trials;
            })
          ]
      | inr ended ↦ inr (record {
        before = [];
        last = x;
        behind = xs;
        all = refl;
        trials = [];
        each = tt;
        stop = ended.stop;
        stops = ended.stops;
        ends = ended.ends;
        same = ended.same ∙ none-after files runs out;
      })
    ]

-- ---- what a call has left
pub told-runs : (r : Option (List DeviceRun)) → is_some r ≡ true
    → (runs : List DeviceRun) × (r ≡ Some runs)
told-runs r is = grind arith

-- the output, onto what was said before the verdicts
abbrev pub Says : Call → List ℕ → Option (List ℕ) → Type 0
Says call said out =
    (more : List ℕ) → appended out more ≡ appended call.old.out.bytes (said ++ more)

pub tried-now : (call : Call) (bench : Bench) (files : Files) (sources : List Source)
    (trials : List Trial) (said last : List ℕ) (out : Option (List ℕ)) (before : List DeviceRun)
    → call.old.host.runs ≡ Some before → Says call said out
    → AreTrialsOf bench files sources trials
    → contents (world_of call.new) ≡ contents_of (with_trials trials files)
    (before ++ runs_of trials) (appended out (trial_lines trials ++ last))
    → HasTried call bench files sources trials said last
tried-now call bench files sources trials said last out before told says each new =
    grind (arith, option_map)

-- the totals come last
pub tallied : (tests passed : ℕ) (end : Result Finish Stop) (effects : List Effect) (c : Contents)
    → Goes (tallies tests passed) effects (Ends end)
    → (after effects c ≡ after_deed (Out (tally_line tests passed)) c)
    × (end ≡ Ok (verdict_of_all tests passed))
tallied tests passed end [] c goes = absurd cc
tallied tests passed end (Did d ∷ []) c goes =
    let is : Ends (Ok (verdict_of_all tests passed)) ≡ Ends end = goes.1 in
    let same : Ok (verdict_of_all tests passed) ≡ end = cc in
    (ap (λ (x : steps.Deed). after_deed x c) (sym goes.0), sym same)
tallied tests passed end (Did d ∷ effect ∷ effects) c goes = absurd goes.1
tallied tests passed end (steps.Read name found ∷ effects) c goes = absurd goes
tallied tests passed end (Device words test signature answer ∷ effects) c goes = absurd goes

-- where the plan came to its end, all tests were judged
pub has-judged : {A : Type 0} (of : A → Source) (call : Call) (bench : Bench) (xs : List A)
    (said : List ℕ) (files : Files) (out : Option (List ℕ)) (before : List DeviceRun)
    (end : Finish) → call.old.host.runs ≡ Some before → Says call said out
    → TriedAll of bench xs 0 (tallies (length (map of xs))) files before out (Ok end)
    (contents (world_of call.new))
    ⊎ EndedAt of bench xs files before out (Ok end) (contents (world_of call.new))
    → HasJudged call bench files (map of xs) said end
has-judged of call bench xs said files out before end told says (inr at) =
    let no : Ok end ≡ Err at.stop = at.ends in absurd cc
has-judged of call bench xs said files out before end told says (inl all) =
    let sources = map of xs in
    let passed = trials_passed 0 all.trials in
    let over = tallied (length sources) passed (Ok end) all.later
    (after_trials files before out all.trials) all.goes in
    let both : Ok end ≡ Ok (verdict_of_all (length sources) passed) = over.1 in
    let verdict : end ≡ verdict_of_all (length sources) passed = cc in
    let tally = tally_line (length sources) passed in
    record {
      trials = all.trials;
      tried = tried-now call bench files sources all.trials said tally out before told says
          all.each (all.same ∙ over.0 ∙ ap (λ (o : Option (List ℕ)). contents_of
          (with_trials all.trials files) (before ++ runs_of all.trials) o)
          (appended-twice out (trial_lines all.trials) tally));
      verdict = verdict;
      means = are-judged bench files sources all.trials end all.each verdict;
    }
