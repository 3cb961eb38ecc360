-- What the code holds of `run`, as the definition has it.
use Rattle.rvs_device.specs.DeviceView.{told}
use Rattle.rvs_run.specs.RunTests.{Bench}
use Rattle.rvs_generate.specs.declared.test_files.TestFiles.{TestFiles}
use Rattle.rvs_run.specs.declared.judging.Bench.{Bench as Code}
use Rattle.rvs_run.specs.declared.judging.Found.{Found}
use Rattle.rvs_run.specs.declared.judging.Made.{Made}

abbrev pub bench_view : Code → Bench
bench_view b = record { program = b.program; device = told b.device; work = b.work; isa = b.isa }

-- what comes of a test, with its files
abbrev pub made_with : TestFiles → Found → Made
made_with files found =
    record { files = files; executable = found.executable; words = found.words }
