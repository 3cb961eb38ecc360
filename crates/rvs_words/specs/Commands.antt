-- What the words of a command line ask for.
use Rattle.std.specs.Prelude.{ℕ, Bool, true, false, ◌&&◌, nat_le, if◌then◌else◌, List, [], ◌∷◌}
use Rattle.std.specs.Prelude.{length, bytes_eq}
use Rattle.std.specs.Prelude.{Option, Some, None, option_map, option_and_then, unwrap_or, codes}
use Rattle.rvs_text.specs.Options.{◌>>=◌}
use Rattle.rvs_base.specs.Digits.{short_number}
use Rattle.rvs_base.specs.Asked.{size_of}
use Rattle.rvs_words.specs.Words.{is_positional, is_among, options_in, values_of, only, at_most_one}
use Rattle.rvs_words.specs.Windows.{windows_of}
use Rattle.rvs_words.specs.PartWords.{parts_of}
use Rattle.rvs_words.specs.FamilyWords.{families_of}
use Rattle.rvs_words.specs.LogWords.{signed_logs}
use Rattle.rvs_words.specs.declared.command.Command.{Command}
use Rattle.rvs_words.specs.declared.command.Command.TheVariants.{Unknown, Compare, Validate}
use Rattle.rvs_words.specs.declared.command.Command.TheVariants.{Normalize, Generate, Reference}
use Rattle.rvs_words.specs.declared.command.Command.TheVariants.{Coverage, Propagate, Run, Demo}
use Rattle.rvs_words.specs.declared.command.Command.TheVariants.{RunDatabase, Report, Select}

-- a number of one to seven decimal digits
abbrev pub number_of : List ℕ → Option ℕ
number_of text = short_number 7 10 text

-- the most steps that a run may be asked for
abbrev pub most_steps : ℕ
most_steps = 2_000_000

-- a run has at least one step, and as many at most
abbrev pub within_steps : Option ℕ → Option ℕ
within_steps None = None
within_steps (Some steps) = if nat_le 1 steps && nat_le steps most_steps then Some steps else None

-- a number of steps, which needn't stand, and stands once at most
abbrev pub steps_of : List (List ℕ) → Option (Option ℕ)
steps_of [] = Some None
steps_of (text ∷ []) = option_map Some (within_steps (number_of text))
steps_of texts = None

-- one value at least, and so many at most
abbrev pub some_of : ℕ → List (List ℕ) → Option (List (List ℕ))
some_of most values = if nat_le 1 (length values) && nat_le (length values) most then Some values
    else None

-- so many values at most
abbrev pub up_to : ℕ → List (List ℕ) → Option (List (List ℕ))
up_to most values = if nat_le (length values) most then Some values else None

-- so many group files may be named
abbrev pub most_groups : ℕ
most_groups = 64

-- so many execution logs may be named
abbrev pub most_logs : ℕ
most_logs = 4096

abbrev pub flag_with : List ℕ → Option Bool
flag_with [] = Some true
flag_with (byte ∷ value) = None

-- whether the option stands that has no value, and stands once at most
abbrev pub flag_of : List (List ℕ) → Option Bool
flag_of [] = Some false
flag_of (value ∷ []) = flag_with value
flag_of values = None

-- the values of each option, by its name
abbrev pub Values : Type 0
Values = List ℕ → List (List ℕ)

-- a command whose words are options of these names, in any order
abbrev pub with_options : List (List ℕ) → (Values → Option Command) → List (List ℕ)
    → Option Command
with_options names of words = do
  pairs ← options_in (is_among names) words
  of (λ name. values_of name pairs)

-- two names of files
abbrev pub compare_of : List (List ℕ) → Option Command
compare_of (left ∷ right ∷ []) = if is_positional left && is_positional right
    then Some (Compare (record { left = left; right = right })) else None
compare_of words = None

abbrev pub validate_options : List (List ℕ)
validate_options = codes "--isa" ∷ []

abbrev pub validate_of : Values → Option Command
validate_of values = do
  isa ← only (values (codes "--isa"))
  Some (Validate (record { isa = isa }))

abbrev pub normalize_options : List (List ℕ)
normalize_options = codes "--isa" ∷ codes "--cgf" ∷ codes "--families" ∷ []

abbrev pub normalize_of : Values → Option Command
normalize_of values = do
  isa ← only (values (codes "--isa"))
  groups ← some_of most_groups (values (codes "--cgf"))
  families ← families_of (values (codes "--families"))
  Some (Normalize (record { isa = isa; groups = groups; families = families }))

abbrev pub generate_options : List (List ℕ)
generate_options =
    codes "--isa" ∷ codes "--cgf" ∷ codes "--work" ∷ codes "--part" ∷ codes "--families" ∷ []

abbrev pub generate_of : Values → Option Command
generate_of values = do
  isa ← only (values (codes "--isa"))
  groups ← some_of most_groups (values (codes "--cgf"))
  work ← only (values (codes "--work"))
  part ← parts_of (values (codes "--part"))
  families ← families_of (values (codes "--families"))
  Some (Generate (record {
    isa = isa;
    groups = groups;
    work = work;
    part = part;
    families = families;
  }))

abbrev pub reference_options : List (List ℕ)
reference_options =
    codes "--isa" ∷ codes "--test" ∷ codes "--signature" ∷ codes "--log" ∷ codes "--steps" ∷ []

-- the log and the number of steps needn't stand
abbrev pub reference_of : Values → Option Command
reference_of values = do
  isa ← only (values (codes "--isa"))
  test ← only (values (codes "--test"))
  signature ← only (values (codes "--signature"))
  log ← at_most_one (values (codes "--log"))
  steps ← steps_of (values (codes "--steps"))
  Some (Reference
      (record { isa = isa; test = test; signature = signature; log = log; steps = steps }))

abbrev pub coverage_options : List (List ℕ)
coverage_options =
    codes "--isa" ∷ codes "--cgf" ∷ codes "--log" ∷ codes "--window" ∷ codes "--families"
    ∷ codes "--progress" ∷ []

-- the windows needn't stand
abbrev pub coverage_of : Values → Option Command
coverage_of values = do
  isa ← only (values (codes "--isa"))
  groups ← some_of most_groups (values (codes "--cgf"))
  logs ← some_of most_logs (values (codes "--log"))
  windows ← windows_of (values (codes "--window"))
  families ← families_of (values (codes "--families"))
  progress ← flag_of (values (codes "--progress"))
  Some (Coverage (record {
    isa = isa;
    groups = groups;
    logs = logs;
    windows = windows;
    families = families;
    progress = progress;
  }))

abbrev pub propagate_options : List (List ℕ)
propagate_options =
    codes "--isa" ∷ codes "--cgf" ∷ codes "--log" ∷ codes "--signature" ∷ codes "--families"
    ∷ codes "--progress" ∷ []

-- the range of the signature stands once, or once for each log
abbrev pub propagate_of : Values → Option Command
propagate_of values = do
  isa ← only (values (codes "--isa"))
  groups ← some_of most_groups (values (codes "--cgf"))
  logs ← some_of most_logs (values (codes "--log"))
  signed ← signed_logs logs (values (codes "--signature"))
  families ← families_of (values (codes "--families"))
  progress ← flag_of (values (codes "--progress"))
  Some (Propagate (record {
    isa = isa;
    groups = groups;
    logs = signed;
    families = families;
    progress = progress;
  }))

abbrev pub select_options : List (List ℕ)
select_options = codes "--isa" ∷ codes "--database" ∷ []

abbrev pub select_of : Values → Option Command
select_of values = do
  isa ← only (values (codes "--isa"))
  database ← only (values (codes "--database"))
  Some (Select (record { isa = isa; database = database }))

abbrev pub run_options : List (List ℕ)
run_options =
    codes "--isa" ∷ codes "--cgf" ∷ codes "--database" ∷ codes "--device" ∷ codes "--work"
    ∷ codes "--part" ∷ codes "--families" ∷ []

-- the program's own name stands for it in the words of a device
abbrev pub run_groups_of : List ℕ → Values → Option Command
run_groups_of program values = do
  isa ← only (values (codes "--isa"))
  groups ← some_of most_groups (values (codes "--cgf"))
  device ← only (values (codes "--device"))
  work ← only (values (codes "--work"))
  part ← parts_of (values (codes "--part"))
  families ← families_of (values (codes "--families"))
  Some (Run (record {
    program = program;
    isa = isa;
    groups = groups;
    device = device;
    work = work;
    part = part;
    families = families;
  }))

abbrev pub run_database_of : List ℕ → Values → Option Command
run_database_of program values = do
  isa ← only (values (codes "--isa"))
  database ← only (values (codes "--database"))
  device ← only (values (codes "--device"))
  work ← only (values (codes "--work"))
  part ← parts_of (values (codes "--part"))
  Some (RunDatabase (record {
    program = program;
    isa = isa;
    database = database;
    device = device;
    work = work;
    part = part;
  }))

abbrev pub report_options : List (List ℕ)
report_options =
    codes "--isa" ∷ codes "--cgf" ∷ codes "--device" ∷ codes "--work" ∷ codes "--log"
    ∷ codes "--window" ∷ codes "--families" ∷ []

-- the logs and the windows needn't stand
abbrev pub report_of : Values → Option Command
report_of values = do
  isa ← only (values (codes "--isa"))
  groups ← some_of most_groups (values (codes "--cgf"))
  device ← only (values (codes "--device"))
  work ← only (values (codes "--work"))
  logs ← up_to most_logs (values (codes "--log"))
  windows ← windows_of (values (codes "--window"))
  families ← families_of (values (codes "--families"))
  Some (Report (record {
    isa = isa;
    groups = groups;
    device = device;
    work = work;
    logs = logs;
    windows = windows;
    families = families;
  }))

-- whether an option stands
abbrev pub is_given : List (List ℕ) → Bool
is_given [] = false
is_given (value ∷ values) = true

-- a run takes its tests from group files or from a database, and not from both; only the former
-- have families
abbrev pub run_of : List ℕ → Values → Option Command
run_of program values = if is_given (values (codes "--database")) then
    (if is_given (values (codes "--cgf")) then None
    else (if is_given (values (codes "--families")) then None else run_database_of program values))
    else run_groups_of program values

-- how many instructions are to be generated, from 1 to 1,000,000
abbrev pub demo_of : List (List ℕ) → Option Command
demo_of (text ∷ []) = do
  count ← option_and_then size_of (number_of text)
  Some (Demo count)
demo_of words = None

-- what a command of this name asks for, with the words behind it
abbrev pub named : List ℕ → List ℕ → List (List ℕ) → Option Command
named program name words =
    if bytes_eq name (codes "compare") then compare_of words
    else (if bytes_eq name (codes "validate") then with_options validate_options validate_of words
    else (if bytes_eq name (codes "normalize")
    then with_options normalize_options normalize_of words
    else (if bytes_eq name (codes "generate") then with_options generate_options generate_of words
    else (if bytes_eq name (codes "reference")
    then with_options reference_options reference_of words
    else (if bytes_eq name (codes "coverage") then with_options coverage_options coverage_of words
    else (if bytes_eq name (codes "propagate")
    then with_options propagate_options propagate_of words
    else (if bytes_eq name (codes "run") then with_options run_options (run_of program) words
    else (if bytes_eq name (codes "report") then with_options report_options report_of words
    else (if bytes_eq name (codes "select") then with_options select_options select_of words
    else (if bytes_eq name (codes "demo") then demo_of words else None))))))))))

-- what the words ask for, the first of which is the program's own name
abbrev pub asked_by : List (List ℕ) → Option Command
asked_by (program ∷ name ∷ words) = named program name words
asked_by words = None

-- the command of the words, or that they are none
abbrev pub command_of : List (List ℕ) → Command
command_of words = unwrap_or (asked_by words) Unknown
