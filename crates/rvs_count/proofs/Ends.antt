-- What was counted in a whole log.
use Rattle.std.proofs.Common.{◌≡◌, ℕ, List, length, refl}
use Rattle.std.specs.Prelude.{map}
use Rattle.rvs_log.specs.Entries.{entries_of}
use Rattle.rvs_log.specs.Taken.{ended, state_for}
use Rattle.rvs_log.proofs.Streams.{told_whole}
use Rattle.rvs_points.specs.declared.group.Label.{Label}
use Rattle.rvs_index.specs.Counting.{aims_in, count, kept}
use Rattle.rvs_base.specs.declared.asked.Window.{Window}
use Rattle.rvs_index.specs.State.{state_of}

pub counted_all : (labels : List Label) (windows : List Window) (log : List ℕ) (n : ℕ)
    → (state_of labels windows (ended log) n).told.counts
    ≡ map (count (kept windows (entries_of log))) (aims_in labels)
counted_all labels windows log n = simp told_whole

pub counted_instructions : (labels : List Label) (windows : List Window) (log : List ℕ) (n : ℕ)
    → (state_of labels windows (ended log) n).told.instructions
    ≡ length (kept windows (entries_of log))
counted_instructions labels windows log n = simp told_whole

pub counted_labels : (labels : List Label) (windows : List Window) (bytes : List ℕ) (n : ℕ)
    → (state_of labels windows bytes n).told.labels ≡ labels
unfolding state_for
counted_labels labels windows bytes n = refl

pub counted_windows : (labels : List Label) (windows : List Window) (bytes : List ℕ) (n : ℕ)
    → (state_of labels windows bytes n).told.windows ≡ windows
unfolding state_for
counted_windows labels windows bytes n = refl
