-- The log of a run has the executed instructions as its entries.
use Rattle.std.proofs.Common.{◌≡◌, ℕ, ◌^◌, ◌<◌, List, refl}
use Rattle.std.specs.Prelude.{map}
use Rattle.rvs_insn.specs.Isa.{Isa}
use Rattle.rvs_machine.specs.Image.{ImageValue}
use Rattle.rvs_machine.specs.declared.event.Executed.{Executed}
use Rattle.rvs_machine.specs.Machine.{started}
use Rattle.rvs_machine.specs.Run.{run_of}
use Rattle.rvs_machine.specs.Traces.{Follows}
use Rattle.rvs_machine.proofs.Traces.{traces_follow}
use Rattle.rvs_log.specs.Registers.{zeros}
use Rattle.rvs_log.specs.Entries.{entries_of}
use Rattle.rvs_log.specs.Logs.{log_of, as_entry}
use Rattle.rvs_log.proofs.Logs.{logs_read_back}
use Rattle.rvs_log.proofs.Below.{Below}
use Rattle.rvs_log.proofs.RunWords.{run_words, start_words}

abbrev pub trace_of : ImageValue → Isa → ℕ → List Executed
trace_of image isa n = (run_of (started image isa).setup n (started image isa).state).trace

-- the registers begin as zeros
run_follows : (image : ImageValue) (isa : Isa) (n : ℕ) → Follows zeros (trace_of image isa n)
unfolding zeros
run_follows image isa n = traces_follow (started image isa).setup n (started image isa).state refl

-- of an image whose text and data are bytes
pub run_entries : (image : ImageValue) (isa : Isa) (n : ℕ) → image.memory.text_base < 2 ^ 32
    → Below 256 image.text → Below 256 image.data_bytes
    → entries_of (log_of (trace_of image isa n)) ≡ map as_entry (trace_of image isa n)
run_entries image isa n low text ram =
    let words = run_words (started image isa).setup n (started image isa).state text
    (start_words image.memory image.data_bytes low ram) in
    logs_read_back (trace_of image isa n) words (run_follows image isa n)
