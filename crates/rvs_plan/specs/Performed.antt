-- The effects of a plan as a list, and its end, over given files, where these are the answers of
-- its device runs in order.
use Rattle.std.specs.Prelude.{◌≡◌, List, [], ◌∷◌, Option, Some, None, Result, Err}
use Rattle.rvs_base.specs.Host.{Files, with_file, with_left}
use Rattle.rvs_plan.specs.Effect.{Answer, Deed, Write, Out, Effect, Read, Device, Did}
use Rattle.rvs_plan.specs.Plan.{Plan, Ends, Does, Asks, Runs}
use Rattle.rvs_plan.specs.declared.stop.Stop.{Stop}

-- the files after a deed
abbrev pub files_after : Deed → Files → Files
files_after (Write name bytes) files = with_file name bytes files
files_after (Out bytes) files = files

-- the effects, up to the end or to a run that has no answer
abbrev pub performed : {A : Type 0} → Plan A → Files → List Answer → List Effect
performed (Ends end) files answers = []
performed (Does deed plan) files answers =
    Did deed ∷ performed plan (files_after deed files) answers
performed (Asks name bound next) files answers =
    Read name (files name) ∷ performed (next (files name)) files answers
performed (Runs words test signature next) files [] = []
performed (Runs words test signature next) files (answer ∷ answers) =
    Device words test signature answer
    ∷ performed (next answer) (with_left signature answer.left files) answers

-- the end, or none where a run has no answer
abbrev pub end_of : {A : Type 0} → Plan A → Files → List Answer → Option (Result A Stop)
end_of (Ends end) files answers = Some end
end_of (Does deed plan) files answers = end_of plan (files_after deed files) answers
end_of (Asks name bound next) files answers = end_of (next (files name)) files answers
end_of (Runs words test signature next) files [] = None
end_of (Runs words test signature next) files (answer ∷ answers) =
    end_of (next answer) (with_left signature answer.left files) answers

-- with some answers of its devices, the plan comes to this end over these files
pub record ComesTo {A : Type 0} (plan : Plan A) (files : Files) (end : Result A Stop) : Type 0 where
  pub answers : List Answer
  pub is : end_of plan files answers ≡ Some end

-- over these files, the plan has no end but a value, whatever its devices answer
abbrev pub NeverStops : {A : Type 0} → Plan A → Files → Type 0
NeverStops plan files = (stop : Stop) → ComesTo plan files (Err stop) → ⊥

-- the answers that are in a list of effects
abbrev pub answers_in : List Effect → List Answer
answers_in [] = []
answers_in (Device words test signature answer ∷ effects) = answer ∷ answers_in effects
answers_in (Read name found ∷ effects) = answers_in effects
answers_in (Did deed ∷ effects) = answers_in effects

-- the files that are left after effects
abbrev pub files_left : List Effect → Files → Files
files_left [] files = files
files_left (Read name found ∷ effects) files = files_left effects files
files_left (Device words test signature answer ∷ effects) files =
    files_left effects (with_left signature answer.left files)
files_left (Did deed ∷ effects) files = files_left effects (files_after deed files)
