-- What the demonstration prints.
use Rattle.std.specs.Prelude.{◌≡◌, ℕ, ◌+◌, List, [], ◌∷◌, ◌++◌, map, length, codes, decimal}
use Rattle.rvs_machine.specs.declared.event.End.TheVariants.{Halted}
use Rattle.rvs_machine.specs.Machine.{started}
use Rattle.rvs_machine.specs.Run.{Outcome, run_of}
use Rattle.rvs_log.specs.Entries.{Entry}
use Rattle.rvs_log.specs.Logs.{as_entry}
use Rattle.rvs_index.specs.Counting.{aims_of, count}
use Rattle.rvs_count.specs.Report.{report_of}
use Rattle.rvs_demo.specs.Program.{core, image}
use Rattle.rvs_demo.specs.Label.{label}

-- the run of the program with so many generated instructions
unfoldable pub run : ℕ → Outcome
run n = run_of (started (image n) core).setup (n + 11) (started (image n) core).state

-- its instructions, each with what its source registers held
abbrev pub entries : ℕ → List Entry
entries n = map as_entry (run n).trace

-- how often they hit each point
abbrev pub report : ℕ → List ℕ
report n =
    report_of (label ∷ []) (map (count (entries n)) (aims_of (label ∷ []))) (length (entries n))

unfoldable pub demo_text : ℕ → List ℕ
demo_text n = codes "demo " ++ (decimal n ++ (codes "\n" ++ report n))

-- the run comes to its end, and executes as many instructions as the program has
abbrev pub IsWhole : ℕ → Type 0
IsWhole n = ((run n).end ≡ Halted) × (length (run n).trace ≡ n + 11)
