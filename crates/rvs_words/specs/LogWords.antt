-- Execution logs on the command line, each with the range of its signature.
use Rattle.std.specs.Prelude.{ℕ, ◌==◌, if◌then◌else◌, List, [], ◌∷◌, length, map, Option, Some}
use Rattle.std.specs.Prelude.{None}
use Rattle.std.specs.Option.{option_and_then}
use Rattle.rvs_base.specs.declared.asked.Window.{Window}
use Rattle.rvs_words.specs.Windows.{all_windows}
use Rattle.rvs_words.specs.declared.command.SignedLog.{SignedLog}

abbrev pub signed_log : List ℕ → Window → SignedLog
signed_log name range = record { name = name; signature = range }

-- each log with the range at its own place
abbrev pub signed_each : List (List ℕ) → List Window → List SignedLog
signed_each [] ranges = []
signed_each (name ∷ names) [] = []
signed_each (name ∷ names) (range ∷ ranges) = signed_log name range ∷ signed_each names ranges

abbrev pub with_each : List (List ℕ) → List Window → Option (List SignedLog)
with_each names ranges =
    if length ranges == length names then Some (signed_each names ranges) else None

-- one range is that of all logs; otherwise there are as many ranges as logs
abbrev pub with_ranges : List (List ℕ) → List Window → Option (List SignedLog)
with_ranges names (range ∷ []) = Some (map (λ name. signed_log name range) names)
with_ranges names ranges = with_each names ranges

-- logs of these names, and the texts of the ranges
abbrev pub signed_logs : List (List ℕ) → List (List ℕ) → Option (List SignedLog)
signed_logs names texts = option_and_then (with_ranges names) (all_windows texts)
