-- What a counter has after some bytes of a log.
use Rattle.std.specs.Prelude.{ℕ, ◌+◌, ◌≤◌, ◌||◌, Bool, true, false, if◌then◌else◌, List, [], ◌∷◌}
use Rattle.std.specs.Prelude.{cond, map, length, Some}
use Rattle.std.specs.List.{list_any}
use Rattle.std.proofs.Common.{arith}
use Rattle.rvs_log.specs.Grammar.{Reading, Says, Writes, Nothing}
use Rattle.rvs_log.specs.Entries.{Entry, Heard, unheard, hear, heard, heard_write, entry_at}
use Rattle.rvs_log.specs.Entries.{entries_in}
use Rattle.rvs_log.specs.Taken.{Taken, state_for}
use Rattle.rvs_points.specs.Points.{Meaning, window}
use Rattle.rvs_points.specs.declared.group.Label.{Label}
use Rattle.rvs_cross.specs.Windows.{matches}
use Rattle.rvs_insn.specs.Fields.{Fields}
use Rattle.rvs_index.specs.Counting.{Aim, aims_in, decoded, hits, count, is_in, kept}
use Rattle.rvs_index.specs.Runs.{last, run_of, run_with}
use Rattle.rvs_base.specs.declared.asked.Window.{Window}

-- a point of this meaning is a cross point
abbrev pub is_cross : Meaning → Bool
is_cross (window ps) = true
is_cross _ = false

abbrev pub any_cross : List Aim → Bool
any_cross aims = list_any (λ a. is_cross a.point.meaning) aims

-- a run, which is followed where some point is a cross point
abbrev pub followed : List Label → List Fields → List Fields
followed labels run = cond (any_cross (aims_in labels)) run []

-- what was counted in some lines: for these labels and windows, how often each point was hit and
-- how many instructions there were; and what of the lines matters for those that follow: the last
-- instructions, where they are followed, and what the registers hold
pub record Tallied : Type 0 where
  pub labels : List Label
  pub windows : List Window
  pub counts : List ℕ
  pub instructions : ℕ
  pub run : List Fields
  pub heard : Heard

abbrev pub CountState : Type 0
CountState = Taken Tallied

-- what these instructions and these lines lead to
abbrev pub tally_from : List Label → List Window → List Entry → Heard → Tallied
tally_from labels windows es h =
    record {
      labels =
          labels;
      windows = windows;
      counts = map (count es) (aims_in labels);
      instructions = length es;
      run = followed labels (run_of (map decoded es));
      heard = h;
    }

abbrev pub tally_of : List Label → List Window → List Reading → Tallied
tally_of labels windows readings =
    tally_from labels windows (kept windows (entries_in unheard readings)) (heard unheard readings)

-- the state of some bytes, after n were fed
abbrev pub state_of : List Label → List Window → List ℕ → ℕ → CountState
state_of labels windows bytes n = state_for (tally_of labels windows) bytes n

-- one more for each point that passes
abbrev pub added : (Aim → Bool) → List Aim → List ℕ → List ℕ
added passes [] cs = cs
added passes (a ∷ aims) [] = []
added passes (a ∷ aims) (c ∷ cs) = (c + (if passes a then 1 else 0)) ∷ added passes aims cs

-- a point of this meaning is a cross point that the last instructions of a run match
abbrev pub ends_run : Meaning → List Fields → Bool
ends_run (window ps) run = matches ps (last (length ps) (map (λ i. Some i) run))
ends_run _ run = false

-- the counts after one more instruction, with which a run ends
abbrev pub counts_with : List Aim → List Fields → Entry → List ℕ → List ℕ
counts_with aims run e cs = added (λ a. hits a e || ends_run a.point.meaning run) aims cs

-- after one more instruction, where the windows leave it
abbrev pub with_entry : Tallied → Bool → Entry → Tallied
with_entry t false e = t
with_entry t true e =
    record t {
      counts =
          counts_with (aims_in t.labels) (run_with t.run (decoded e)) e t.counts;
      instructions = t.instructions + 1;
      run = followed t.labels (run_with t.run (decoded e));
    }

-- after one more line
abbrev pub with_reading : Tallied → Reading → Tallied
with_reading t (Says pc word w) =
    record (with_entry t (is_in t.windows pc) (entry_at t.heard.words pc word)) {
      heard =
          hear t.heard (Says pc word w);
    }
with_reading t (Writes w) = record t { heard = heard_write t.heard w }
with_reading t Nothing = t

-- a line adds at most one instruction
pub reading_adds : (t : Tallied) (r : Reading)
    → (with_reading t r).instructions ≤ t.instructions + 1
reading_adds t Nothing = omega arith
reading_adds t (Writes w) = omega arith
reading_adds t (Says pc word w) = turn (is_in t.windows pc)
  where
    turn : (b : Bool)
        → (with_entry t b (entry_at t.heard.words pc word)).instructions ≤ t.instructions + 1
    turn true = omega arith
    turn false = omega arith
