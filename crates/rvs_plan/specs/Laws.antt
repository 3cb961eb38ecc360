-- That a plan, which is a tree, and its effects as a list say the same.
use Rattle.std.specs.Prelude.{◌≡◌, List, ◌++◌, Some, Result}
use Rattle.rvs_base.specs.Host.{Files}
use Rattle.rvs_plan.specs.World.{Contents}
use Rattle.rvs_plan.specs.Effect.{Answer, Effect, Saw}
use Rattle.rvs_plan.specs.Plan.{Plan, Ends, Goes}
use Rattle.rvs_plan.specs.Performed.{performed, end_of, answers_in, files_left}
use Rattle.rvs_plan.specs.declared.stop.Stop.{Stop}
use Rattle.rvs_plan.specs.declared.status.Finish.{Finish}

-- Effects that a plan goes through from its start, where each read found what the file held, are a
-- beginning of its list of effects. The list goes on with what is left of the plan, and ends as
-- that does.
pub record IsBeginning (plan rest : Plan Finish) (effects : List Effect) (files : Files)
    (answers : List Answer) : Type 0 where
  pub effects_are : performed plan files (answers_in effects ++ answers)
      ≡ effects ++ performed rest (files_left effects files) answers
  pub end_is : end_of plan files (answers_in effects ++ answers)
      ≡ end_of rest (files_left effects files) answers

abbrev pub FrontsAreBeginnings : Type 0
FrontsAreBeginnings = (plan rest : Plan Finish) (effects : List Effect) (c : Contents)
    (files : Files) (answers : List Answer)
    → c.files ≡ Some files → Saw effects c → Goes plan effects rest
    → IsBeginning plan rest effects files answers

-- The list of effects of a plan that comes to its end is gone through by the plan, and each read in
-- it finds what the file holds.
pub record IsGoneThrough (plan : Plan Finish) (end : Result Finish Stop) (effects : List Effect)
    (c : Contents) : Type 0 where
  pub goes : Goes plan effects (Ends end)
  pub saw : Saw effects c

abbrev pub ListsAreGoneThrough : Type 0
ListsAreGoneThrough = (plan : Plan Finish) (end : Result Finish Stop) (c : Contents) (files : Files)
    (answers : List Answer)
    → c.files ≡ Some files → end_of plan files answers ≡ Some end
    → IsGoneThrough plan end (performed plan files answers) c
