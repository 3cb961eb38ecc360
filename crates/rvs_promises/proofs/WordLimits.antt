-- No call asks for more than 4,096 logs, nor for more than 2,000,000 steps.
use Rattle.std.proofs.Common.{◌≡◌, ◌≤◌, ℕ, ◌&&◌, Bool, if◌then◌else◌, List, [], ◌∷◌}
use Rattle.std.proofs.Common.{length, Option, Some, None, unwrap_or, option_map, nat_le, bytes_eq}
use Rattle.std.proofs.Common.{codes, arith, rules}
use Rattle.std.specs.Prelude.{map, option_and_then}
use Rattle.std.proofs.lemmas.List.{length-map}
use Rattle.rvs_words.specs.Commands.{Values, most_steps, within_steps, steps_of, some_of}
use Rattle.rvs_words.specs.Commands.{most_logs, with_options, compare_of, validate_of, normalize_of}
use Rattle.rvs_words.specs.Commands.{generate_of, reference_of, coverage_of, propagate_of}
use Rattle.rvs_words.specs.Commands.{report_of, select_of, run_groups_of, run_database_of, run_of}
use Rattle.rvs_words.specs.Commands.{demo_of, named, asked_by, command_of, validate_options}
use Rattle.rvs_words.specs.Commands.{normalize_options, generate_options, reference_options}
use Rattle.rvs_words.specs.Commands.{coverage_options, propagate_options, run_options}
use Rattle.rvs_words.specs.Commands.{report_options, select_options}
use Rattle.rvs_words.specs.Words.{values_of}
use Rattle.rvs_words.specs.Windows.{all_windows}
use Rattle.rvs_words.specs.LogWords.{signed_log, signed_each, with_each, with_ranges, signed_logs}
use Rattle.rvs_base.specs.declared.asked.Window.{Window}
use Rattle.rvs_words.specs.declared.command.SignedLog.{SignedLog}
use Rattle.rvs_words.specs.declared.command.Command.{Command}
use Rattle.rvs_words.specs.declared.command.Command.TheVariants.{Unknown, Reference, Coverage}
use Rattle.rvs_words.specs.declared.command.Command.TheVariants.{Propagate}
use Rattle.rvs_words.specs.declared.command.ReferenceArguments.{ReferenceArguments}
use Rattle.rvs_words.specs.declared.command.CoverageArguments.{CoverageArguments}
use Rattle.rvs_words.specs.declared.command.PropagateArguments.{PropagateArguments}
use Rattle.rvs_promises.proofs.InAll.{InAll, none-in, some-in, then-in, either-in}

-- ---- numbers of steps
abbrev pub IsLow : ℕ → Type 0
IsLow n = n ≤ most_steps

pub tested : (n : ℕ) (b : Bool) → (nat_le 1 n && nat_le n most_steps) ≡ b
    → InAll IsLow (if b then Some n else None)
tested n b is = grind arith

within : (o : Option ℕ) → InAll IsLow (within_steps o)
within o = grind arith

mapped : (o steps : Option ℕ) → InAll IsLow o → option_map {U = Option ℕ} Some o ≡ Some steps
    → InAll IsLow steps
mapped o steps low e = grind arith

steps-low : (texts : List (List ℕ)) (steps : Option ℕ) → steps_of texts ≡ Some steps
    → InAll IsLow steps
steps-low texts steps e = grind arith

-- ---- numbers of logs
abbrev IsFew : ℕ → Type 0
IsFew logs = logs ≤ most_logs

abbrev AreFew : List (List ℕ) → Type 0
AreFew logs = IsFew (length logs)

few-of : (values : List (List ℕ)) (b : Bool)
    → (nat_le 1 (length values) && nat_le (length values) most_logs) ≡ b
    → InAll AreFew (if b then Some values else None)
few-of values b is = grind arith

some-few : (values logs : List (List ℕ)) → some_of most_logs values ≡ Some logs
    → IsFew (length logs)
some-few values logs is = grind (arith, few-of, nat_le)

-- there are no more logs with ranges than names
abbrev NoMore : List (List ℕ) → List SignedLog → Type 0
NoMore names logs = length logs ≤ length names

each-few : (names : List (List ℕ)) (ranges : List Window) → NoMore names (signed_each names ranges)
each-few [] ranges = omega arith
each-few (name ∷ names) [] = omega arith
each-few (name ∷ names) (range ∷ ranges) = omega (arith, each-few names ranges)

with-each-few : (names : List (List ℕ)) (ranges : List Window)
    → InAll (NoMore names) (with_each names ranges)
with-each-few names ranges = grind (arith, either-in, some-in, each-few, none-in)

alike-few : (names : List (List ℕ)) (range : Window)
    → NoMore names (map (λ name. signed_log name range) names)
alike-few names range = omega (arith, length-map names (λ name. signed_log name range))

ranged-few : (names : List (List ℕ)) (ranges : List Window)
    → InAll (NoMore names) (with_ranges names ranges)
ranged-few names ranges = search (rules, with-each-few, some-in, alike-few)

spelled-few : (names : List (List ℕ)) (o : Option (List Window))
    → InAll (NoMore names) (option_and_then (with_ranges names) o)
spelled-few names o = search (rules, none-in, ranged-few)

signed-few : (values names texts : List (List ℕ)) (logs : List SignedLog)
    → some_of most_logs values ≡ Some names
    → signed_logs names texts ≡ Some logs → IsFew (length logs)
signed-few values names texts logs is signed =
    let few = some-few values names is in
    let least = (spelled-few names (all_windows texts)).holds logs signed in
    omega (arith, few, least)

-- ---- by the command
abbrev IsWithin : Command → Type 0
IsWithin (Reference asked) = InAll IsLow asked.steps
IsWithin (Coverage asked) = IsFew (length asked.logs)
IsWithin (Propagate asked) = IsFew (length asked.logs)
IsWithin _ = Unit {0}

by-compare : (words : List (List ℕ)) → InAll IsWithin (compare_of words)
by-compare words = grind arith

by-validate : (values : Values) → InAll IsWithin (validate_of values)
by-validate values = search (then-in, some-in) depth 12

by-normalize : (values : Values) → InAll IsWithin (normalize_of values)
by-normalize values = search (then-in, some-in) depth 12

by-generate : (values : Values) → InAll IsWithin (generate_of values)
by-generate values = search (then-in, some-in) depth 12

by-reference : (values : Values) → InAll IsWithin (reference_of values)
by-reference values = search (then-in, some-in, steps-low) depth 12

by-coverage : (values : Values) → InAll IsWithin (coverage_of values)
by-coverage values = search (then-in, some-in, some-few) depth 12

by-propagate : (values : Values) → InAll IsWithin (propagate_of values)
by-propagate values = search (then-in, some-in, signed-few) depth 12

by-report : (values : Values) → InAll IsWithin (report_of values)
by-report values = search (then-in, some-in) depth 14

by-select : (values : Values) → InAll IsWithin (select_of values)
by-select values = search (then-in, some-in) depth 12

by-groups : (program : List ℕ) (values : Values) → InAll IsWithin (run_groups_of program values)
by-groups program values = search (then-in, some-in) depth 12

by-database : (program : List ℕ) (values : Values) → InAll IsWithin (run_database_of program values)
by-database program values = search (then-in, some-in) depth 12

by-run : (program : List ℕ) (values : Values) → InAll IsWithin (run_of program values)
by-run program values = grind (arith, either-in, none-in, by-database, by-groups)

by-demo : (words : List (List ℕ)) → InAll IsWithin (demo_of words)
by-demo words = grind arith

by-options : (names : List (List ℕ)) (of : Values → Option Command) (words : List (List ℕ))
    → ((values : Values) → InAll IsWithin (of values)) → InAll IsWithin
    (with_options names of words)
by-options names of words h = then-in _ _ (λ pairs e. h (λ name. values_of name pairs))

by-name : (program name : List ℕ) (words : List (List ℕ)) → InAll IsWithin
    (named program name words)
by-name program name words =
    either-in (bytes_eq name (codes "compare")) _ _ (by-compare words)
    (either-in (bytes_eq name (codes "validate")) _ _
    (by-options validate_options validate_of words by-validate)
    (either-in (bytes_eq name (codes "normalize")) _ _
    (by-options normalize_options normalize_of words by-normalize)
    (either-in (bytes_eq name (codes "generate")) _ _
    (by-options generate_options generate_of words by-generate)
    (either-in (bytes_eq name (codes "reference")) _ _
    (by-options reference_options reference_of words by-reference)
    (either-in (bytes_eq name (codes "coverage")) _ _
    (by-options coverage_options coverage_of words by-coverage)
    (either-in (bytes_eq name (codes "propagate")) _ _
    (by-options propagate_options propagate_of words by-propagate)
    (either-in (bytes_eq name (codes "run")) _ _
    (by-options run_options (run_of program) words (by-run program))
    (either-in (bytes_eq name (codes "report")) _ _
    (by-options report_options report_of words by-report)
    (either-in (bytes_eq name (codes "select")) _ _
    (by-options select_options select_of words by-select)
    (either-in (bytes_eq name (codes "demo")) _ _ (by-demo words) none-in))))))))))

by-words : (words : List (List ℕ)) → InAll IsWithin (asked_by words)
by-words [] = none-in
by-words (program ∷ []) = none-in
by-words (program ∷ name ∷ words) = by-name program name words

whole : (o : Option Command) → InAll IsWithin o → IsWithin (unwrap_or o Unknown)
whole o limited = grind arith

of-words : (words : List (List ℕ)) (command : Command) → command_of words ≡ command
    → IsWithin command
of-words words command is = grind (arith, whole, by-words)

pub asked-low : (words : List (List ℕ)) (asked : ReferenceArguments)
    → command_of words ≡ Reference asked → InAll IsLow asked.steps
asked-low words asked is = of-words words (Reference asked) is

pub coverage-few : (words : List (List ℕ)) (asked : CoverageArguments)
    → command_of words ≡ Coverage asked → length asked.logs ≤ 4096
coverage-few words asked is = of-words words (Coverage asked) is

pub propagate-few : (words : List (List ℕ)) (asked : PropagateArguments)
    → command_of words ≡ Propagate asked → length asked.logs ≤ 4096
propagate-few words asked is = of-words words (Propagate asked) is
