-- The first effects of a plan that comes to its end, and what they leave.
use Rattle.std.proofs.Common.{◌≡◌, ℕ, Bool, if◌then◌else◌, List, [], ◌∷◌}
use Rattle.std.proofs.Common.{◌++◌, append_assoc, Option, Some}
use Rattle.std.proofs.Common.{Result, refl, sym, ap, subst, ◌∙◌, arith, rules}
use Rattle.std.specs.Str.{bytes_eq}
use Rattle.rvs_base.specs.Host.{Files, with_file, with_left}
use Rattle.rvs_base.specs.Sink.{appended}
use Rattle.rvs_base.specs.declared.host.DeviceRun.{DeviceRun}
use Rattle.rvs_plan.specs.World.{Contents}
use Rattle.rvs_plan.specs.Effect.{Answer, Deed, Effect, Read, Device, Did, after, after_deed}
use Rattle.rvs_plan.specs.Effect.{after_one, Saw}
use Rattle.rvs_plan.specs.Plan.{Plan, Ends, Does, Asks, Runs, Goes}
use Rattle.rvs_plan.specs.declared.stop.Stop.{Stop}
use Rattle.rvs_plan.specs.declared.status.Finish.{Finish}
use Rattle.rvs_generate.proofs.Paths.{found-in, same-bytes}

-- ---- steps
-- what is left to do, and what stands, when first effects are done
pub record Step (plan : Plan Finish) (end : Result Finish Stop) (effects : List Effect)
    (c c' : Contents) : Type 0 where
  pub rest : List Effect
  pub goes : Goes plan rest (Ends end)
  pub saw : Saw rest c'
  pub same : after effects c ≡ after rest c'

pub did-step : (deed : Deed) (plan : Plan Finish) (end : Result Finish Stop)
    (effects : List Effect) (c : Contents) → Goes (Does deed plan) effects (Ends end)
    → Saw effects c → Step plan end effects c (after_deed deed c)
did-step deed plan end [] c goes saw = absurd cc
did-step deed plan end (Did d ∷ effects) c goes saw = record {
  rest = effects;
  goes = goes.1;
  saw = subst (λ (x : Deed). Saw effects (after_deed x c)) (sym goes.0) saw.1;
  same = ap (λ (x : Deed). after effects (after_deed x c)) (sym goes.0);
}
did-step deed plan end (Read name found ∷ effects) c goes saw = absurd goes
did-step deed plan end (Device words test signature answer ∷ effects) c goes saw = absurd goes

pub read-step : (name : List ℕ) (bound : ℕ) (next : Option (List ℕ) → Plan Finish)
    (end : Result Finish Stop) (effects : List Effect) (files : Files) (c : Contents)
    (found : Option (List ℕ)) → c.files ≡ Some files → files name ≡ found
    → Goes (Asks name bound next) effects (Ends end) → Saw effects c
    → Step (next found) end effects c c
read-step name bound next end [] files c found told is goes saw = absurd cc
read-step name bound next end (Read n f ∷ effects) files c found told is goes saw =
    let there : found ≡ f = sym is ∙ ap files goes.0 ∙ saw.0 files told in
    record {
      rest = effects;
      goes = subst (λ (x : Option (List ℕ)). Goes (next x) effects (Ends end)) (sym there) goes.1;
      saw = saw.1;
      same = refl;
    }
read-step name bound next end (Did deed ∷ effects) files c found told is goes saw = absurd goes
read-step name bound next end (Device words test signature answer ∷ effects) files c found told is
    goes saw = absurd goes

pub ran-step : (words : List (List ℕ)) (test signature : List ℕ) (next : Answer → Plan Finish)
    (end : Result Finish Stop) (effects : List Effect) (c : Contents)
    → Goes (Runs words test signature next) effects (Ends end) → Saw effects c
    → (answer : Answer)
    × Step (next answer) end effects c (after_one (Device words test signature answer) c)
ran-step words test signature next end [] c goes saw = absurd cc
ran-step words test signature next end (Device w t s answer ∷ effects) c goes saw =
    let same : after_one (Device w t s answer) c
    ≡ after_one (Device words test signature answer) c =
    λ i. after_one (Device (sym goes.0 i) (sym goes.1 i) (sym goes.2 i) answer) c in (
      answer,
      record {
        rest = effects;
        goes = goes.3;
        saw = subst (λ (x : Contents). Saw effects x) same saw.1;
        same = ap (λ (x : Contents). after effects x) same;
      },
    )
ran-step words test signature next end (Did deed ∷ effects) c goes saw = absurd goes
ran-step words test signature next end (Read name found ∷ effects) c goes saw = absurd goes

-- ---- what they leave
abbrev pub contents_of : Files → List DeviceRun → Option (List ℕ) → Contents
contents_of files runs out = record { files = Some files; runs = Some runs; out = out }

pub left-there : (name : List ℕ) (left : Option (List ℕ)) (files : Files)
    → with_left name left files name ≡ left
left-there name left files = found-in (bytes_eq name name) _ _ (same-bytes name)

either : (b : Bool) (x y z : Option (List ℕ))
    → (if b then x else (if b then y else z)) ≡ (if b then x else z)
either b x y z = grind arith

-- what a run leaves takes the place of what was written before it
pub left-over : (name bytes : List ℕ) (left : Option (List ℕ)) (files : Files)
    → with_left name left (with_file name bytes files) ≡ with_left name left files
left-over name bytes left files = grind (arith, either)

pub appended-twice : (out : Option (List ℕ)) (one more : List ℕ)
    → appended (appended out one) more ≡ appended out (one ++ more)
appended-twice out one more = search (rules, append_assoc)

pub append-none : (out : Option (List ℕ)) → appended out [] ≡ out
append-none out = search rules
