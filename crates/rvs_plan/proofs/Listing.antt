-- A plan and its effects as a list.
use Rattle.std.proofs.Common.{◌≡◌, ℕ, List, [], ◌∷◌, Option, Some, refl, sym, ap, subst}
use Rattle.std.proofs.Common.{arith}
use Rattle.rvs_base.specs.Host.{Files, with_left}
use Rattle.rvs_plan.specs.World.{Contents}
use Rattle.rvs_plan.specs.Effect.{Answer, Deed, Effect, Read, Device, Did, left_by}
use Rattle.rvs_plan.specs.Effect.{after_deed, after_one}
use Rattle.rvs_plan.specs.Plan.{Plan, Ends, Does, Asks, Runs}
use Rattle.rvs_plan.specs.Performed.{files_after}
use Rattle.rvs_plan.specs.Laws.{IsBeginning, FrontsAreBeginnings, ListsAreGoneThrough}
use Rattle.rvs_plan.specs.declared.status.Finish.{Finish}

-- the files after a deed, where they are told
files_after-after : (deed : Deed) (c : Contents) (files : Files) → c.files ≡ Some files
    → (after_deed deed c).files ≡ Some (files_after deed files)
files_after-after deed c files e = grind arith

left_by-after : (signature : List ℕ) (answer : Answer) (c : Contents) (files : Files)
    → c.files ≡ Some files
    → left_by signature answer c.files ≡ Some (with_left signature answer.left files)
left_by-after signature answer c files e = ap (left_by signature answer) e

Beginning-step : (deed : Deed) (plan rest : Plan Finish) (effects : List Effect) (files : Files)
    (answers : List Answer) → IsBeginning plan rest effects (files_after deed files) answers
    → IsBeginning (Does deed plan) rest (Did deed ∷ effects) files answers
Beginning-step deed plan rest effects files answers b = grind arith

Beginning-ask : (name : List ℕ) (bound : ℕ) (next : Option (List ℕ) → Plan Finish)
    (rest : Plan Finish) (effects : List Effect) (files : Files) (answers : List Answer) →
    IsBeginning
    (next (files name)) rest effects files answers → IsBeginning (Asks name bound next) rest
    (Read name (files name) ∷ effects) files answers
Beginning-ask name bound next rest effects files answers b = grind arith

Beginning-run : (words : List (List ℕ)) (test signature : List ℕ) (answer : Answer)
    (next : Answer → Plan Finish) (rest : Plan Finish) (effects : List Effect) (files : Files)
    (answers : List Answer) → IsBeginning (next answer) rest effects
    (with_left signature answer.left files) answers → IsBeginning (Runs words test signature next)
    rest (Device words test signature answer ∷ effects) files answers
Beginning-run words test signature answer next rest effects files answers b = grind arith

pub fronts : FrontsAreBeginnings
fronts plan rest [] c files answers told saw goes = grind arith
fronts (Ends end) rest (e ∷ es) c files answers told saw goes = absurd goes
fronts (Does deed plan) rest (Did d ∷ es) c files answers told saw goes =
    let more = fronts plan rest es (after_deed d c) (files_after d files) answers
    (files_after-after d c files told) saw.1 goes.1 in
    subst (λ (x : Deed). IsBeginning (Does x plan) rest (Did d ∷ es) files answers) (sym goes.0)
    (Beginning-step d plan rest es files answers more)
fronts (Does deed plan) rest (Read n found ∷ es) c files answers told saw goes = absurd goes
fronts (Does deed plan) rest (Device w t s answer ∷ es) c files answers told saw goes = absurd goes
fronts (Asks name bound next) rest (Did d ∷ es) c files answers told saw goes = absurd goes
fronts (Asks name bound next) rest (Read n found ∷ es) c files answers told saw goes =
    grind (arith, Beginning-ask, (fronts (next found) rest es c files answers told saw.1 goes.1))
fronts (Asks name bound next) rest (Device w t s answer ∷ es) c files answers told saw goes =
    absurd goes
fronts (Runs words test signature next) rest (Did d ∷ es) c files answers told saw goes =
    absurd goes
fronts (Runs words test signature next) rest (Read n found ∷ es) c files answers told saw goes =
    absurd goes
fronts (Runs words test signature next) rest (Device w t s answer ∷ es) c files answers told saw
    goes =
    let more = fronts (next answer) rest es (after_one (Device w t s answer) c)
    (with_left s answer.left files) answers (left_by-after s answer c files told) saw.1
    goes.3 in
    rw (goes.0, goes.1, goes.2) (Beginning-run w t s answer next rest es files answers more)

pub lists : ListsAreGoneThrough
lists (Ends end') end c files answers told is = grind arith
lists (Does deed plan) end c files answers told is =
    let more = lists plan end (after_deed deed c) (files_after deed files) answers
    (files_after-after deed c files told) is in
    record { goes = (refl, more.goes); saw = (tt, more.saw) }
lists (Asks name bound next) end c files answers told is =
    grind (arith, (lists (next (files name)) end c files answers told is))
lists (Runs words test signature next) end c files [] told is = grind arith
lists (Runs words test signature next) end c files (answer ∷ answers) told is =
    let more = lists (next answer) end (after_one (Device words test signature answer) c)
    (with_left signature answer.left files) answers
    (left_by-after signature answer c files told) is in
    record { goes = (refl, refl, refl, more.goes); saw = (tt, more.saw) }
