-- What a plan that only reads finds over given files, and what the deeds behind it leave.
use Rattle.std.proofs.Common.{◌≡◌, ℕ, List, [], ◌∷◌, Option, Some, Result, Ok, refl, sym, ap}
use Rattle.std.proofs.Common.{subst, ◌∙◌}
use Rattle.rvs_base.specs.Host.{Files}
use Rattle.rvs_plan.specs.World.{Contents}
use Rattle.rvs_plan.specs.Effect.{Answer, Deed, Effect, Read, Device, Did, after, after_deed, Saw}
use Rattle.rvs_plan.specs.Plan.{Plan, Ends, Does, Asks, Runs, Goes, followed, ◌>>=◌}
use Rattle.rvs_plan.specs.Performed.{end_of, files_after}
use Rattle.rvs_plan.specs.declared.stop.Stop.{Stop}

-- over these files, the plan only reads, and comes to this
abbrev pub Finds : {A : Type 0} → Files → Plan A → Result A Stop → Type 0
Finds files (Ends end) found = end ≡ found
Finds files (Does deed plan) found = ⊥
Finds files (Asks name bound next) found = Finds files (next (files name)) found
Finds files (Runs words test signature next) found = ⊥

-- a first reading, and what follows from it
pub finds-then : {A B : Type 0} (files : Files) (plan : Plan A) (next : A → Plan B)
    (found : Result A Stop) (end : Result B Stop) → Finds files plan found → Finds files
    (followed found next) end → Finds files (plan >>= next) end
finds-then {A} {B} files (Ends e) next found end is f =
    subst (λ (r : Result A Stop). Finds files (followed r next) end) (sym is) f
finds-then files (Does deed plan) next found end is f = absurd is
finds-then files (Asks name bound rest) next found end is f =
    finds-then files (rest (files name)) next found end is f
finds-then files (Runs words test signature rest) next found end is f = absurd is

-- the end of the whole is that of what follows
pub end-found : {A B : Type 0} (files : Files) (answers : List Answer) (plan : Plan A)
    (next : A → Plan B) (found : Result A Stop) → Finds files plan found → end_of (plan >>= next)
    files answers ≡ end_of (followed found next) files answers
end-found {A} files answers (Ends e) next found is =
    ap (λ (r : Result A Stop). end_of (followed r next) files answers) is
end-found files answers (Does deed plan) next found is = absurd is
end-found files answers (Asks name bound rest) next found is =
    end-found files answers (rest (files name)) next found is
end-found files answers (Runs words test signature rest) next found is = absurd is

-- effects of the whole that come to an end are, but for what was read, effects of what follows
pub record Behind {B : Type 0} (plan : Plan B) (end : Result B Stop) (effects : List Effect)
    (c : Contents) : Type 0 where
  pub later : List Effect
  pub goes : Goes plan later (Ends end)
  pub saw : Saw later c
  pub same : after effects c ≡ after later c

pub behind : {A B : Type 0} (files : Files) (plan : Plan A) (next : A → Plan B)
    (found : Result A Stop) (end : Result B Stop) (effects : List Effect) (c : Contents) → Finds
    files plan found → c.files ≡ Some files → Saw effects c → Goes (plan >>= next) effects
    (Ends end) → Behind (followed found next) end effects c
behind {A} files (Ends e) next found end effects c is told saw goes = record {
  later = effects;
  goes = subst (λ (r : Result A Stop). Goes (followed r next) effects (Ends end)) is goes;
  saw = saw;
  same = refl;
}
behind files (Does deed plan) next found end effects c is told saw goes = absurd is
behind files (Runs words test signature rest) next found end effects c is told saw goes = absurd is
behind files (Asks name bound rest) next found end [] c is told saw goes = absurd cc
behind files (Asks name bound rest) next found end (Device words test signature answer ∷ effects) c
    is
    told saw goes = absurd goes
behind files (Asks name bound rest) next found end (Did deed ∷ effects) c is told saw goes =
    absurd goes
behind {A} {B} files (Asks name bound rest) next found end (Read n f ∷ effects) c is told saw goes =
    let same : files name ≡ f = ap files goes.0 ∙ saw.0 files told in
    let b = behind files (rest (files name)) next found end effects c is told saw.1 (subst
    (λ (g : Option (List ℕ)). Goes (rest g >>= next) effects (Ends end)) (sym same) goes.1) in
    record { later = b.later; goes = b.goes; saw = b.saw; same = b.same }

-- a plan of deeds that ends so
abbrev pub Deeds : {A : Type 0} → A → Plan A → Type 0
Deeds a (Ends end) = end ≡ Ok a
Deeds a (Does deed plan) = Deeds a plan
Deeds a (Asks name bound next) = ⊥
Deeds a (Runs words test signature next) = ⊥

-- what deeds leave
abbrev pub left : {A : Type 0} → Plan A → Contents → Contents
left (Ends end) c = c
left (Does deed plan) c = left plan (after_deed deed c)
left (Asks name bound next) c = c
left (Runs words test signature next) c = c

pub deeds-then : {A B : Type 0} (a : A) (b : B) (plan : Plan A) (next : A → Plan B) → Deeds a plan
    → Deeds b (next a) → Deeds b (plan >>= next)
deeds-then {A} a b (Ends end) next is then =
    subst (λ (r : Result A Stop). Deeds b (followed r next)) (sym is) then
deeds-then a b (Does deed plan) next is then = deeds-then a b plan next is then
deeds-then a b (Asks name bound rest) next is then = absurd is
deeds-then a b (Runs words test signature rest) next is then = absurd is

pub left-then : {A B : Type 0} (a : A) (plan : Plan A) (next : A → Plan B) (c : Contents)
    → Deeds a plan → left (plan >>= next) c ≡ left (next a) (left plan c)
left-then {A} a (Ends end) next c is = ap (λ (r : Result A Stop). left (followed r next) c) is
left-then a (Does deed plan) next c is = left-then a plan next (after_deed deed c) is
left-then a (Asks name bound rest) next c is = absurd is
left-then a (Runs words test signature rest) next c is = absurd is

pub end-deeds : {A : Type 0} (files : Files) (answers : List Answer) (a : A) (plan : Plan A)
    → Deeds a plan → end_of plan files answers ≡ Some (Ok a)
end-deeds files answers a (Ends end) is = ap (λ (r : Result _ Stop). Some r) is
end-deeds files answers a (Does deed plan) is = end-deeds (files_after deed files) answers a plan is
end-deeds files answers a (Asks name bound rest) is = absurd is
end-deeds files answers a (Runs words test signature rest) is = absurd is

pub left-after : {A : Type 0} (a : A) (end : Result A Stop) (plan : Plan A) (effects : List Effect)
    (c : Contents) → Deeds a plan → Goes plan effects (Ends end) → after effects c ≡ left plan c
left-after a end (Ends e) [] c is goes = refl
left-after a end (Ends e) (effect ∷ effects) c is goes = absurd goes
left-after a end (Does deed plan) [] c is goes = absurd cc
left-after a end (Does deed plan) (Did d ∷ effects) c is goes =
    left-after a end plan effects (after_deed d c) is goes.1
    ∙ ap (λ (x : Deed). left plan (after_deed x c)) (sym goes.0)
left-after a end (Does deed plan) (Read name found ∷ effects) c is goes = absurd goes
left-after a end (Does deed plan) (Device words test signature answer ∷ effects) c is goes =
    absurd goes
left-after a end (Asks name bound rest) effects c is goes = absurd is
left-after a end (Runs words test signature rest) effects c is goes = absurd is
