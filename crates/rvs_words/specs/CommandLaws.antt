-- What a command line asks for, by what stands in it.
use Rattle.std.specs.Prelude.{◌≡◌, ◌<◌, ◌≤◌, ◌^◌, ℕ, Bool, true, false, not, ◌==◌, nat_le}
use Rattle.std.specs.Prelude.{if◌then◌else◌, List, [], ◌∷◌, ◌++◌, length, map, Option, Some, None}
use Rattle.std.specs.Prelude.{option_map, option_and_then, codes, bytes_eq}
use Rattle.std.specs.Fmt.{decimal}
use Rattle.std.specs.List.{flat_map, list_all, list_any}
use Rattle.rvs_base.specs.Number.{hex_word_of}
use Rattle.rvs_words.specs.Words.{is_flag, pairs_of, values_of}
use Rattle.rvs_words.specs.Commands.{most_steps, number_of, steps_of, is_given, command_of}
use Rattle.rvs_words.specs.Windows.{windows_of}
use Rattle.rvs_words.specs.PartWords.{parts_of}
use Rattle.rvs_words.specs.FamilyWords.{families_of}
use Rattle.rvs_words.specs.LogWords.{signed_log, signed_each, signed_logs}
use Rattle.rvs_abstract.specs.declared.families.Families.{Families}
use Rattle.rvs_abstract.specs.declared.families.Families.TheVariants.{Stated, All}
use Rattle.rvs_parts.specs.Parts.{PartValue}
use Rattle.rvs_words.specs.declared.words.Pair.{Pair}
use Rattle.rvs_words.specs.declared.command.SignedLog.{SignedLog}
use Rattle.rvs_base.specs.declared.asked.Window.{Window}
use Rattle.rvs_words.specs.declared.command.Command.TheVariants.{Compare, Validate, Normalize}
use Rattle.rvs_words.specs.declared.command.Command.TheVariants.{Generate, Reference, Coverage, Run}
use Rattle.rvs_words.specs.declared.command.Command.TheVariants.{Propagate, RunDatabase, Select}
use Rattle.rvs_words.specs.declared.command.Command.TheVariants.{Report, Unknown, Demo}
use Rattle.rvs_base.specs.Asked.{size_of}

-- a word that isn't empty and doesn't begin with a dash
abbrev pub stands_alone : List ℕ → Bool
stands_alone [] = false
stands_alone (byte ∷ text) = not (byte == 45)

-- the value of an option: joined to its name by `=`, or the next word
pub record Value : Type 0 where
  pub joined : Bool
  pub text : List ℕ

abbrev pub option : List ℕ → Value → List (List ℕ)
option name value =
    if value.joined then (name ++ 61 ∷ value.text) ∷ [] else name ∷ value.text ∷ []

-- an option with each of these values, in order
abbrev pub options : List ℕ → List Value → List (List ℕ)
options name values = flat_map (option name) values

-- a value that is joined to its name isn't empty, and any other stands alone
abbrev pub may_stand : Value → Bool
may_stand value = if value.joined then nat_le 1 (length value.text) else stands_alone value.text

abbrev pub AllMayStand : List Value → Type 0
AllMayStand values = list_all may_stand values ≡ true

abbrev pub text_of : Value → List ℕ
text_of value = value.text

-- the values of an option that needn't stand
abbrev pub listed : Option Value → List Value
listed None = []
listed (Some value) = value ∷ []

-- a command that is given group files has one to 64 of them
abbrev pub AreGroups : List Value → Type 0
AreGroups groups = (1 ≤ length groups) × (length groups ≤ 64)

-- one to 4,096 execution logs
abbrev pub AreLogs : List Value → Type 0
AreLogs logs = (1 ≤ length logs) × (length logs ≤ 4096)

abbrev pub ComparesAreRead : Type 0
ComparesAreRead =
    (program left right : List ℕ) → stands_alone left ≡ true → stands_alone right ≡ true
    → command_of (program ∷ codes "compare" ∷ left ∷ right ∷ []) ≡ Compare
    (record { left = left; right = right })

abbrev pub ValidatesAreRead : Type 0
ValidatesAreRead =
    (program : List ℕ) (isa : Value) → AllMayStand (isa ∷ [])
    → command_of (program ∷ codes "validate" ∷ option (codes "--isa") isa) ≡ Validate
    (record { isa = isa.text })

abbrev pub NormalizesAreRead : Type 0
NormalizesAreRead =
    (program : List ℕ) (isa : Value) (groups : List Value) (families : Option Value)
    (read : Families)
    → AllMayStand (isa ∷ groups) → AllMayStand (listed families) → AreGroups groups
    → families_of (map text_of (listed families)) ≡ Some read
    → command_of (program ∷ codes "normalize" ∷ option (codes "--isa") isa
    ++ (options (codes "--cgf") groups ++ options (codes "--families") (listed families)))
    ≡ Normalize (record { isa = isa.text; groups = map text_of groups; families = read })

abbrev pub GeneratesAreRead : Type 0
GeneratesAreRead =
    (program : List ℕ) (isa work : Value) (groups : List Value) (part families : Option Value)
    (kept : Option PartValue) (read : Families)
    → AllMayStand (isa ∷ work ∷ groups) → AllMayStand (listed part)
    → AllMayStand (listed families) → AreGroups groups
    → parts_of (map text_of (listed part)) ≡ Some kept
    → families_of (map text_of (listed families)) ≡ Some read
    → command_of (program ∷ codes "generate" ∷ option (codes "--isa") isa
    ++ (options (codes "--cgf") groups ++ (option (codes "--work") work
    ++ (options (codes "--part") (listed part)
    ++ options (codes "--families") (listed families)))))
    ≡ Generate (record {
      isa = isa.text;
      groups = map text_of groups;
      work = work.text;
      part = kept;
      families = read;
    })

-- the log and the steps needn't stand
abbrev pub ReferencesAreRead : Type 0
ReferencesAreRead =
    (program : List ℕ) (isa test signature : Value) (log steps : Option Value) (count : Option ℕ)
    → AllMayStand (isa ∷ test ∷ signature ∷ [])
    → AllMayStand (listed log) → AllMayStand (listed steps)
    → steps_of (map text_of (listed steps)) ≡ Some count
    → command_of (program ∷ codes "reference" ∷ option (codes "--isa") isa
    ++ (option (codes "--test") test ++ (option (codes "--signature") signature
    ++ (options (codes "--log") (listed log) ++ options (codes "--steps") (listed steps)))))
    ≡ Reference (record {
      isa = isa.text;
      test = test.text;
      signature = signature.text;
      log = option_map text_of log;
      steps = count;
    })

-- the option that has no value needn't stand
abbrev pub flagged : Bool → List (List ℕ)
flagged progress = if progress then codes "--progress" ∷ [] else []

-- the windows needn't stand
abbrev pub CoveragesAreRead : Type 0
CoveragesAreRead =
    (program : List ℕ) (isa : Value) (groups logs windows : List Value) (families : Option Value)
    (kept : List Window) (read : Families) (progress : Bool)
    → AllMayStand (isa ∷ groups) → AllMayStand logs → AllMayStand windows
    → AllMayStand (listed families) → AreGroups groups → AreLogs logs
    → windows_of (map text_of windows) ≡ Some kept
    → families_of (map text_of (listed families)) ≡ Some read
    → command_of (program ∷ codes "coverage" ∷ option (codes "--isa") isa
    ++ (options (codes "--cgf") groups ++ (options (codes "--log") logs
    ++ (options (codes "--window") windows
    ++ (options (codes "--families") (listed families) ++ flagged progress)))))
    ≡ Coverage (record {
      isa = isa.text;
      groups = map text_of groups;
      logs = map text_of logs;
      windows = kept;
      families = read;
      progress = progress;
    })

abbrev pub PropagatesAreRead : Type 0
PropagatesAreRead =
    (program : List ℕ) (isa : Value) (groups logs signatures : List Value)
    (families : Option Value) (signed : List SignedLog) (read : Families) (progress : Bool)
    → AllMayStand (isa ∷ groups) → AllMayStand logs → AllMayStand signatures
    → AllMayStand (listed families) → AreGroups groups → AreLogs logs
    → signed_logs (map text_of logs) (map text_of signatures) ≡ Some signed
    → families_of (map text_of (listed families)) ≡ Some read
    → command_of (program ∷ codes "propagate" ∷ option (codes "--isa") isa
    ++ (options (codes "--cgf") groups ++ (options (codes "--log") logs
    ++ (options (codes "--signature") signatures
    ++ (options (codes "--families") (listed families) ++ flagged progress)))))
    ≡ Propagate (record {
      isa = isa.text;
      groups = map text_of groups;
      logs = signed;
      families = read;
      progress = progress;
    })

abbrev pub RunsAreRead : Type 0
RunsAreRead =
    (program : List ℕ) (isa device work : Value) (groups : List Value)
    (part families : Option Value) (kept : Option PartValue) (read : Families)
    → AllMayStand (isa ∷ device ∷ work ∷ groups) → AllMayStand (listed part)
    → AllMayStand (listed families) → AreGroups groups
    → parts_of (map text_of (listed part)) ≡ Some kept
    → families_of (map text_of (listed families)) ≡ Some read
    → command_of (program ∷ codes "run" ∷ option (codes "--isa") isa
    ++ (options (codes "--cgf") groups ++ (option (codes "--device") device
    ++ (option (codes "--work") work ++ (options (codes "--part") (listed part)
    ++ options (codes "--families") (listed families))))))
    ≡ Run (record {
      program = program;
      isa = isa.text;
      groups = map text_of groups;
      device = device.text;
      work = work.text;
      part = kept;
      families = read;
    })

-- the logs and the windows needn't stand
abbrev pub ReportsAreRead : Type 0
ReportsAreRead =
    (program : List ℕ) (isa device work : Value) (groups logs windows : List Value)
    (families : Option Value) (kept : List Window) (read : Families)
    → AllMayStand (isa ∷ device ∷ work ∷ groups) → AllMayStand logs → AllMayStand windows
    → AllMayStand (listed families) → AreGroups groups → length logs ≤ 4096
    → windows_of (map text_of windows) ≡ Some kept
    → families_of (map text_of (listed families)) ≡ Some read
    → command_of (program ∷ codes "report" ∷ option (codes "--isa") isa
    ++ (options (codes "--cgf") groups ++ (option (codes "--device") device
    ++ (option (codes "--work") work ++ (options (codes "--log") logs
    ++ (options (codes "--window") windows
    ++ options (codes "--families") (listed families)))))))
    ≡ Report (record {
      isa = isa.text;
      groups = map text_of groups;
      device = device.text;
      work = work.text;
      logs = map text_of logs;
      windows = kept;
      families = read;
    })

abbrev pub RunsOverDatabasesAreRead : Type 0
RunsOverDatabasesAreRead =
    (program : List ℕ) (isa database device work : Value) (part : Option Value)
    (kept : Option PartValue)
    → AllMayStand (isa ∷ database ∷ device ∷ work ∷ []) → AllMayStand (listed part)
    → parts_of (map text_of (listed part)) ≡ Some kept
    → command_of (program ∷ codes "run" ∷ option (codes "--isa") isa
    ++ (option (codes "--database") database ++ (option (codes "--device") device
    ++ (option (codes "--work") work ++ options (codes "--part") (listed part)))))
    ≡ RunDatabase (record {
      program = program;
      isa = isa.text;
      database = database.text;
      device = device.text;
      work = work.text;
      part = kept;
    })

-- a run with both group files and a database, or with neither, is no command
abbrev pub RunsHaveOneSource : Type 0
RunsHaveOneSource =
    (program : List ℕ) (words : List (List ℕ)) (pairs : List Pair) → pairs_of words ≡ Some pairs
    → is_given (values_of (codes "--cgf") pairs) ≡ is_given (values_of (codes "--database") pairs)
    → command_of (program ∷ codes "run" ∷ words) ≡ Unknown

-- a run over a database has no families
abbrev pub DatabasesHaveNoFamilies : Type 0
DatabasesHaveNoFamilies =
    (program : List ℕ) (words : List (List ℕ)) (pairs : List Pair) → pairs_of words ≡ Some pairs
    → is_given (values_of (codes "--database") pairs) ≡ true
    → is_given (values_of (codes "--families") pairs) ≡ true
    → command_of (program ∷ codes "run" ∷ words) ≡ Unknown

abbrev pub SelectsAreRead : Type 0
SelectsAreRead =
    (program : List ℕ) (isa database : Value) → AllMayStand (isa ∷ database ∷ [])
    → command_of (program ∷ codes "select" ∷ option (codes "--isa") isa
    ++ option (codes "--database") database)
    ≡ Select (record { isa = isa.text; database = database.text })

abbrev pub DemosAreRead : Type 0
DemosAreRead =
    (program text : List ℕ) (count : ℕ) → option_and_then size_of (number_of text) ≡ Some count
    → command_of (program ∷ codes "demo" ∷ text ∷ []) ≡ Demo count

-- the commands whose words are options
abbrev pub option_commands : List (List ℕ)
option_commands =
    codes "validate" ∷ codes "normalize" ∷ codes "generate" ∷ codes "reference" ∷ codes "coverage"
    ∷ codes "propagate" ∷ codes "run" ∷ codes "report" ∷ codes "select" ∷ []

abbrev pub takes_options : List ℕ → Bool
takes_options name = list_any (λ (known : List ℕ). bytes_eq name known) option_commands

-- an option with a value, whose name has no `=`, is a pair, in either form
abbrev pub OptionsArePairs : Type 0
OptionsArePairs =
    (name : List ℕ) (value : Value) (words : List (List ℕ)) (pairs : List Pair)
    → list_any (λ (byte : ℕ). byte == 61) name ≡ false → is_flag name ≡ false
    → may_stand value ≡ true → pairs_of words ≡ Some pairs → pairs_of (option name value ++ words)
    ≡ Some (record { name = name; value = value.text } ∷ pairs)

-- the option without a value is a pair too
abbrev pub FlagsArePairs : Type 0
FlagsArePairs =
    (words : List (List ℕ)) (pairs : List Pair)
    → pairs_of words ≡ Some pairs → pairs_of (flagged true ++ words)
    ≡ Some (record { name = codes "--progress"; value = [] } ∷ pairs)

-- neighbouring options of different names may change places
abbrev pub OptionsChangePlaces : Type 0
OptionsChangePlaces =
    (program name : List ℕ) (words others : List (List ℕ)) (front behind : List Pair)
    (first second : Pair) → takes_options name ≡ true → (first.name ≡ second.name → ⊥)
    → pairs_of words ≡ Some (front ++ first ∷ second ∷ behind)
    → pairs_of others ≡ Some (front ++ second ∷ first ∷ behind)
    → command_of (program ∷ name ∷ words) ≡ command_of (program ∷ name ∷ others)

-- the text of a part gives it
abbrev pub PartsAreRead : Type 0
PartsAreRead =
    (at of : ℕ) → 1 ≤ at → at ≤ of → of ≤ 4096
    → parts_of ((decimal at ++ (codes "/" ++ decimal of)) ∷ [])
    ≡ Some (Some (record { at = at; of = of }))

-- the texts of windows below 2^32, of eight digits an address
abbrev pub window_text : Window → List ℕ
window_text window = codes "0x" ++ (hex_word_of window.lo ++ (codes ":0x" ++ hex_word_of window.hi))

abbrev pub AreWindows : List Window → Type 0
AreWindows [] = Unit
AreWindows (window ∷ windows) = (window.lo < window.hi) × (window.hi < 2 ^ 32) × AreWindows windows

abbrev pub WindowsAreRead : Type 0
WindowsAreRead =
    (windows : List Window) → length windows ≤ 16 → AreWindows windows
    → windows_of (map window_text windows) ≡ Some windows

-- the text of one range gives it to each log
abbrev pub RangesAreRead : Type 0
RangesAreRead =
    (names : List (List ℕ)) (range : Window) → range.lo < range.hi → range.hi < 2 ^ 32
    → signed_logs names (window_text range ∷ [])
    ≡ Some (map (λ name. signed_log name range) names)

-- the texts of as many ranges as logs give each log its own
abbrev pub RangesAreReadEach : Type 0
RangesAreReadEach =
    (names : List (List ℕ)) (ranges : List Window) → length ranges ≡ length names
    → AreWindows ranges
    → signed_logs names (map window_text ranges) ≡ Some (signed_each names ranges)

-- families are those of the group file format alone where the option doesn't stand
abbrev pub FamiliesAreRead : Type 0
FamiliesAreRead = (families_of [] ≡ Some Stated) × (families_of (codes "all" ∷ []) ≡ Some All)

-- the decimal text of a number of steps, which may be the next word
abbrev pub StepsAreRead : Type 0
StepsAreRead =
    (steps : ℕ) → 1 ≤ steps → steps ≤ most_steps → (stands_alone (decimal steps) ≡ true)
    × (steps_of (decimal steps ∷ []) ≡ Some (Some steps))

-- the decimal text of a number of instructions
abbrev pub CountsAreRead : Type 0
CountsAreRead =
    (program : List ℕ) (count : ℕ) → 1 ≤ count → count ≤ 1000000
    → command_of (program ∷ codes "demo" ∷ decimal count ∷ []) ≡ Demo count
