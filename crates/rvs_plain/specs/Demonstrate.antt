-- What `demo` does.
use Rattle.std.specs.Prelude.{ℕ}
use Rattle.rvs_plan.specs.Plan.{Plan}
use Rattle.rvs_plan.specs.declared.status.Finish.{Finish}
use Rattle.rvs_demo.specs.Demo.{demo_text}
use Rattle.rvs_inputs.specs.Printing.{print_text}

-- the report of the run is put
abbrev pub demonstrate : ℕ → Plan Finish
demonstrate count = print_text (demo_text count)
