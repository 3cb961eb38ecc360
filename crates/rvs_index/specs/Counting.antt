-- How often the points of groups are hit by the instructions of a log.
use Rattle.std.specs.Prelude.{ℕ, ◌==◌, ◌||◌, nat_le, nat_lt, Bool, false, ◌&&◌, if◌then◌else◌, List}
use Rattle.std.specs.Prelude.{[], map, length, take, count_by, filter, Option, Some, None}
use Rattle.std.specs.List.{list_any, flat_map}
use Rattle.rvs_points.specs.Points as group
use Rattle.rvs_points.specs.PointView.{label_view}
use Rattle.rvs_points.specs.Hits as hit
use Rattle.rvs_points.specs.declared.group.Label.{Label}
use Rattle.rvs_cross.specs.Cross.{Place}
use Rattle.rvs_cross.specs.Windows.{matches}
use Rattle.rvs_facts.specs.Facts.{facts_of}
use Rattle.rvs_insn.specs.declared.op.Op.{Op}
use Rattle.rvs_insn.specs.Fields.{Fields, insn_of_word}
use Rattle.rvs_log.specs.Entries.{Entry}
use Rattle.rvs_index.specs.Runs.{suffixes}
use Rattle.rvs_base.specs.declared.asked.Window.{Window}

-- a point with the mnemonics of its label
pub record Aim : Type 0 where
  pub ops : List Op
  pub point : group.Point

abbrev pub aims_of_points : List Op → List group.Point → List Aim
aims_of_points ops points = map (λ p. record { ops = ops; point = p }) points

abbrev pub aims_of_label : group.Label → List Aim
aims_of_label l = if l.selected then aims_of_points l.ops l.points else []

-- the points of all selected labels in order
abbrev pub aims_of : List group.Label → List Aim
aims_of labels = flat_map aims_of_label labels

-- those of the code's labels
abbrev pub aims_in : List Label → List Aim
aims_in labels = aims_of (map label_view labels)

-- the point is hit by an instruction whose registers held these words before it
abbrev pub hits_insn : Aim → Option Fields → ℕ → ℕ → Bool
hits_insn a None v1 v2 = false
hits_insn a (Some i) v1 v2 = hit.hits a.ops a.point i.op (facts_of i v1 v2)

-- the instruction of an entry, where its word is one
abbrev pub decoded : Entry → Option Fields
decoded e = insn_of_word e.word

abbrev pub hits : Aim → Entry → Bool
hits a e = hits_insn a (decoded e) e.v1 e.v2

-- the first instructions of a list match a cross point of these places
abbrev pub begins : List Place → List (Option Fields) → Bool
begins ps is = matches ps (take (length ps) is)

-- at how many instructions of a list those from there on match it
abbrev pub window_hits : List Place → List (Option Fields) → ℕ
window_hits ps is = count_by (begins ps) (suffixes is)

-- a cross point is hit by neighbours, whatever its label's mnemonics; any other by one instruction
abbrev pub count_for : group.Meaning → List Entry → Aim → ℕ
count_for (group.window ps) es a = window_hits ps (map decoded es)
count_for _ es a = count_by (hits a) es

-- how often the instructions of a list hit the point
abbrev pub count : List Entry → Aim → ℕ
count es a = count_for a.point.meaning es a

-- the addresses that a window has
abbrev pub within : ℕ → Window → Bool
within pc w = nat_le w.lo pc && nat_lt pc w.hi

-- no windows leave all in
abbrev pub is_in : List Window → ℕ → Bool
is_in windows pc = length windows == 0 || list_any (within pc) windows

-- the instructions that the windows leave
abbrev pub kept : List Window → List Entry → List Entry
kept windows es = filter (λ (e : Entry). is_in windows e.pc) es
