-- The last thing that most commands do.
use Rattle.std.specs.Prelude.{ℕ, List}
use Rattle.rvs_plan.specs.Plan.{Plan, gives, prints, ◌>>=◌}
use Rattle.rvs_plan.specs.declared.status.Finish.{Finish}
use Rattle.rvs_plan.specs.declared.status.Finish.TheVariants.{Done}

-- a text is put, and all is done
abbrev pub print_text : List ℕ → Plan Finish
print_text text = do
  _ ← prints text
  gives Done
