-- The words of each command ask for it.
use Rattle.std.proofs.Common.{◌≡◌, ◌≤◌, ℕ, true, false, List, [], ◌∷◌, ◌++◌, length}
use Rattle.std.proofs.Common.{Option, Some, refl, ap, sym, subst, ◌∙◌, bytes_eq, codes, append-nil}
use Rattle.std.proofs.Common.{arith}
use Rattle.std.specs.Prelude.{◌&&◌, nat_le, map, option_map, unwrap_or, Result}
use Rattle.std.specs.List.{list_all, list_any}
use Rattle.std.proofs.lemmas.Bool.Decides.{nat_tests}
use Rattle.std.proofs.lemmas.List.{length-map}
use Rattle.rvs_text.specs.Options.{◌>>=◌}
use Rattle.rvs_words.specs.Words.{pairs_of, is_among, options_in, values_of}
use Rattle.rvs_words.specs.Words.{are_known, only}
use Rattle.rvs_words.specs.Words.{at_most_one}
use Rattle.rvs_words.specs.FamilyWords.{families_of}
use Rattle.rvs_abstract.specs.declared.families.Families.{Families}
use Rattle.rvs_words.specs.PartWords.{parts_of}
use Rattle.rvs_parts.specs.Parts.{PartValue}
use Rattle.rvs_words.specs.Commands.{Values, with_options, some_of, steps_of}
use Rattle.rvs_words.specs.Commands.{normalize_options, normalize_of, generate_options, generate_of}
use Rattle.rvs_words.specs.Commands.{reference_options, reference_of, run_options, run_of}
use Rattle.rvs_words.specs.Commands.{run_groups_of}
use Rattle.rvs_words.specs.Reading.{Answers}
use Rattle.rvs_words.specs.declared.unread.Unread.{Unread}
use Rattle.rvs_words.specs.declared.words.Pair.{Pair}
use Rattle.rvs_words.specs.declared.command.Command.{Command}
use Rattle.rvs_words.specs.declared.command.Command.TheVariants.{Unknown}
use Rattle.rvs_words.specs.declared.command.Command.TheVariants.{Normalize, Generate, Reference}
use Rattle.rvs_words.specs.declared.command.Command.TheVariants.{Run}
use Rattle.rvs_words.specs.CommandLaws.{Value, option, options, may_stand, AllMayStand, text_of}
use Rattle.rvs_words.specs.CommandLaws.{listed, ComparesAreRead, ValidatesAreRead}
use Rattle.rvs_words.specs.CommandLaws.{NormalizesAreRead, GeneratesAreRead, ReferencesAreRead}
use Rattle.rvs_words.specs.CommandLaws.{RunsAreRead}
use Rattle.rvs_words.specs.CommandLaws.{DemosAreRead}
use Rattle.rvs_words.proofs.OptionPairs.{IsName, pair, pairs, and-left, and-right, option_read}
use Rattle.rvs_words.proofs.OptionPairs.{options_read, options_alone, values_same}
use Rattle.rvs_words.proofs.OptionPairs.{values_other, known_pairs}

pub isa-name : IsName (codes "--isa")
isa-name = record { alone = refl; joined = λ byte text. refl; same = refl }

pub cgf-name : IsName (codes "--cgf")
cgf-name = record { alone = refl; joined = λ byte text. refl; same = refl }

test-name : IsName (codes "--test")
test-name = record { alone = refl; joined = λ byte text. refl; same = refl }

pub signature-name : IsName (codes "--signature")
signature-name = record { alone = refl; joined = λ byte text. refl; same = refl }

pub log-name : IsName (codes "--log")
log-name = record { alone = refl; joined = λ byte text. refl; same = refl }

steps-name : IsName (codes "--steps")
steps-name = record { alone = refl; joined = λ byte text. refl; same = refl }

pub work-name : IsName (codes "--work")
work-name = record { alone = refl; joined = λ byte text. refl; same = refl }

pub part-name : IsName (codes "--part")
part-name = record { alone = refl; joined = λ byte text. refl; same = refl }

pub families-name : IsName (codes "--families")
families-name = record { alone = refl; joined = λ byte text. refl; same = refl }

pub window-name : IsName (codes "--window")
window-name = record { alone = refl; joined = λ byte text. refl; same = refl }

pub device-name : IsName (codes "--device")
device-name = record { alone = refl; joined = λ byte text. refl; same = refl }

pub options-in : (names words : List (List ℕ)) (ps : List Pair)
    → pairs_of words ≡ Some ps → are_known names ps ≡ true
    → options_in (is_among names) words ≡ Some ps
options-in names words ps e k = grind arith

-- the values of each option of pairs
abbrev pub of-values : List Pair → Values
of-values ps name = values_of name ps

-- what options ask for, by what their values do
asked : (names : List (List ℕ)) (f : Values → Option Command) (words : List (List ℕ))
    (ps : List Pair) (command : Command)
    → options_in (is_among names) words ≡ Some ps → f (of-values ps) ≡ Some command
    → with_options names f words ≡ Some command
asked names f words ps command e h = grind arith

-- what is answered of the pairs is answered of the words
pub by-pairs : (names : List (List ℕ)) (f : Values → Option Command) (words : List (List ℕ))
    (options ps : List Pair) (answer : Result Command Unread)
    → options_in (is_among names) words ≡ Some options → ps ≡ options
    → Answers answer (f (of-values ps)) → Answers answer (with_options names f words)
by-pairs names f words options ps answer e same h =
    subst (Answers answer) (ap (λ (l : List Pair). f (of-values l)) same
    ∙ ap (λ o. o >>= (λ (l : List Pair). f (of-values l))) (sym e)) h

-- a command of the pairs, each of whose names is known
pub of-pairs : (names : List (List ℕ)) (f : Values → Option Command) (words : List (List ℕ))
    (ps : List Pair) (command : Command)
    → pairs_of words ≡ Some ps → are_known names ps ≡ true
    → f (of-values ps) ≡ Some command
    → unwrap_or (with_options names f words) Unknown ≡ command
of-pairs names f words ps command e k h = grind (arith, asked, options-in)

pub validates_are_read : ValidatesAreRead
validates_are_read program isa m = grind (arith, nat_tests)

enough : (most : ℕ) (values : List Value) → 1 ≤ length values → length values ≤ most
    → (nat_le 1 (length (map text_of values)) && nat_le (length (map text_of values)) most) ≡ true
enough most values low high = simp length-map (grind (arith, nat_tests))

pub some : (most : ℕ) (values : List Value) → 1 ≤ length values → length values ≤ most
    → some_of most (map text_of values) ≡ Some (map text_of values)
some most values low high = simp enough

pub normalize-of : (values : Values) (isa : List ℕ) (groups : List (List ℕ)) (read : Families)
    → only (values (codes "--isa")) ≡ Some isa
    → some_of 64 (values (codes "--cgf")) ≡ Some groups
    → families_of (values (codes "--families")) ≡ Some read
    → normalize_of values
    ≡ Some (Normalize (record { isa = isa; groups = groups; families = read }))
normalize-of values isa groups read a b c = grind arith

-- all values stand where the first does and the others do
pub first-stands : (value : Value) (values : List Value) → AllMayStand (value ∷ values)
    → may_stand value ≡ true
first-stands value values m = and-left (may_stand value) (list_all may_stand values) m

pub others-stand : (value : Value) (values : List Value) → AllMayStand (value ∷ values)
    → AllMayStand values
others-stand value values m = and-right (may_stand value) (list_all may_stand values) m

-- the values of one option among pairs of which the first are its own
pub own-values : (name : List ℕ) → IsName name → (values : List Value) (more : List Pair)
    → values_of name more ≡ []
    → values_of name (pairs name values ++ more) ≡ map text_of values
own-values name is values more none = grind (arith, values_same, append-nil)

pub compares_are_read : ComparesAreRead
compares_are_read program left right a b = grind arith

-- the last option of a command that names group files
abbrev pub last-pairs : Option Value → List Pair
last-pairs families = pairs (codes "--families") (listed families) ++ []

abbrev pub last-words : Option Value → List (List ℕ)
last-words families = options (codes "--families") (listed families)

pub last-read : (families : Option Value) → AllMayStand (listed families)
    → pairs_of (last-words families) ≡ Some (last-pairs families)
last-read families m = options_alone (codes "--families") families-name (listed families) m

pub not-last : (name : List ℕ) → bytes_eq (codes "--families") name ≡ false
    → (families : Option Value) → values_of name (last-pairs families) ≡ []
not-last name e families = values_other name (codes "--families") e (listed families) []

pub last-known : (names : List (List ℕ))
    → list_any (λ (known : List ℕ). bytes_eq (codes "--families") known) names ≡ true
    → (families : Option Value) → are_known names (last-pairs families) ≡ true
last-known names e families = known_pairs names (codes "--families") e (listed families) []

pub last-value : (families : Option Value)
    → values_of (codes "--families") (last-pairs families) ≡ map text_of (listed families)
last-value families = own-values (codes "--families") families-name (listed families) [] refl

pub normalizes_are_read : NormalizesAreRead
normalizes_are_read program isa groups families read m f few which =
    let ends = last-pairs families in
    let rest = pairs (codes "--cgf") groups ++ ends in
    let words = options (codes "--cgf") groups ++ last-words families in
    let stand = option_read (codes "--isa") isa-name isa words rest (first-stands isa groups m)
    (options_read (codes "--cgf") cgf-name groups (last-words families) ends
    (others-stand isa groups m) (last-read families f)) in
    of-pairs normalize_options normalize_of (option (codes "--isa") isa ++ words)
    (pair (codes "--isa") isa ∷ rest) _ stand
    (known_pairs normalize_options (codes "--cgf") refl groups ends
    ∙ last-known normalize_options refl families)
    (normalize-of (of-values (pair (codes "--isa") isa ∷ rest)) isa.text (map text_of groups) read
    (ap (λ vs. only (isa.text ∷ vs))
    (values_other (codes "--isa") (codes "--cgf") refl groups ends
    ∙ not-last (codes "--isa") refl families))
    (ap (some_of 64) (own-values (codes "--cgf") cgf-name groups ends
    (not-last (codes "--cgf") refl families))
    ∙ some 64 groups few.0 few.1)
    (ap families_of (values_other (codes "--families") (codes "--cgf") refl groups ends
    ∙ last-value families) ∙ which))

pub generate-of : (values : Values) (isa work : List ℕ) (groups : List (List ℕ))
    (part : Option PartValue) (read : Families)
    → only (values (codes "--isa")) ≡ Some isa
    → some_of 64 (values (codes "--cgf")) ≡ Some groups
    → only (values (codes "--work")) ≡ Some work
    → parts_of (values (codes "--part")) ≡ Some part
    → families_of (values (codes "--families")) ≡ Some read
    → generate_of values ≡ Some (Generate (record {
      isa = isa;
      groups = groups;
      work = work;
      part = part;
      families = read;
    }))
generate-of values isa work groups part read a b c d e = grind arith

-- a part and families, each of which needn't stand
abbrev part-pairs : Option Value → Option Value → List Pair
part-pairs part families = pairs (codes "--part") (listed part) ++ last-pairs families

abbrev part-words : Option Value → Option Value → List (List ℕ)
part-words part families = options (codes "--part") (listed part) ++ last-words families

part-read : (part families : Option Value) → AllMayStand (listed part)
    → AllMayStand (listed families)
    → pairs_of (part-words part families) ≡ Some (part-pairs part families)
part-read part families p f = grind (arith, options_read, codes, part-name, last-read)

not-part : (name : List ℕ) → bytes_eq (codes "--part") name ≡ false
    → bytes_eq (codes "--families") name ≡ false
    → (part families : Option Value) → values_of name (part-pairs part families) ≡ []
not-part name a b part families = simp (values_other, codes, not-last)

part-known : (names : List (List ℕ))
    → list_any (λ (known : List ℕ). bytes_eq (codes "--part") known) names ≡ true
    → list_any (λ (known : List ℕ). bytes_eq (codes "--families") known) names ≡ true
    → (part families : Option Value) → are_known names (part-pairs part families) ≡ true
part-known names a b part families = simp (known_pairs, codes, last-known)

part-value : (part families : Option Value)
    → values_of (codes "--part") (part-pairs part families) ≡ map text_of (listed part)
part-value part families = simp (own-values, codes, part-name, not-last)

part-families : (part families : Option Value)
    → values_of (codes "--families") (part-pairs part families) ≡ map text_of (listed families)
part-families part families = simp (values_other, codes, last-value)

pub generates_are_read : GeneratesAreRead
generates_are_read program isa work groups part families kept read m p f few fit which =
    let m1 = others-stand isa (work ∷ groups) m in
    let ends = part-pairs part families in
    let behind = pair (codes "--work") work ∷ ends in
    let rest = pairs (codes "--cgf") groups ++ behind in
    let last = option (codes "--work") work ++ part-words part families in
    let words = options (codes "--cgf") groups ++ last in
    let stand =
    option_read (codes "--isa") isa-name isa words rest (first-stands isa (work ∷ groups) m)
    (options_read (codes "--cgf") cgf-name groups last behind (others-stand work groups m1)
    (option_read (codes "--work") work-name work (part-words part families) ends
    (first-stands work groups m1) (part-read part families p f))) in
    of-pairs generate_options generate_of (option (codes "--isa") isa ++ words)
    (pair (codes "--isa") isa ∷ rest) _ stand
    (known_pairs generate_options (codes "--cgf") refl groups behind
    ∙ part-known generate_options refl refl part families)
    (generate-of (of-values (pair (codes "--isa") isa ∷ rest)) isa.text work.text
    (map text_of groups) kept read
    (ap (λ vs. only (isa.text ∷ vs))
    (values_other (codes "--isa") (codes "--cgf") refl groups behind
    ∙ not-part (codes "--isa") refl refl part families))
    (ap (some_of 64) (own-values (codes "--cgf") cgf-name groups behind
    (not-part (codes "--cgf") refl refl part families))
    ∙ some 64 groups few.0 few.1)
    (ap only (values_other (codes "--work") (codes "--cgf") refl groups behind)
    ∙ ap (λ vs. only (work.text ∷ vs)) (not-part (codes "--work") refl refl part families))
    (ap parts_of (values_other (codes "--part") (codes "--cgf") refl groups behind
    ∙ part-value part families) ∙ fit)
    (ap families_of (values_other (codes "--families") (codes "--cgf") refl groups behind
    ∙ part-families part families) ∙ which))

pub run-of : (program : List ℕ) (values : Values) (isa device work : List ℕ)
    (groups : List (List ℕ)) (part : Option PartValue) (read : Families)
    → only (values (codes "--isa")) ≡ Some isa
    → some_of 64 (values (codes "--cgf")) ≡ Some groups
    → only (values (codes "--device")) ≡ Some device
    → only (values (codes "--work")) ≡ Some work
    → parts_of (values (codes "--part")) ≡ Some part
    → families_of (values (codes "--families")) ≡ Some read
    → run_groups_of program values ≡ Some (Run (record {
      program = program;
      isa = isa;
      groups = groups;
      device = device;
      work = work;
      part = part;
      families = read;
    }))
run-of program values isa device work groups part read a b c d e f = grind arith

-- without a database, a run is over group files
over-groups : (program : List ℕ) (values : Values) (command : Command)
    → values (codes "--database") ≡ [] → run_groups_of program values ≡ Some command
    → run_of program values ≡ Some command
over-groups program values command none asks = grind (arith, codes)

pub runs_are_read : RunsAreRead
runs_are_read program isa device work groups part families kept read m p f few fit which =
    let m1 = others-stand isa (device ∷ work ∷ groups) m in
    let m2 = others-stand device (work ∷ groups) m1 in
    let ends = part-pairs part families in
    let second = pair (codes "--work") work ∷ ends in
    let behind = pair (codes "--device") device ∷ second in
    let rest = pairs (codes "--cgf") groups ++ behind in
    let third = option (codes "--work") work ++ part-words part families in
    let last = option (codes "--device") device ++ third in
    let words = options (codes "--cgf") groups ++ last in
    let stand = option_read (codes "--isa") isa-name isa words rest
    (first-stands isa (device ∷ work ∷ groups) m)
    (options_read (codes "--cgf") cgf-name groups last behind (others-stand work groups m2)
    (option_read (codes "--device") device-name device third second
    (first-stands device (work ∷ groups) m1)
    (option_read (codes "--work") work-name work (part-words part families) ends
    (first-stands work groups m2) (part-read part families p f)))) in
    of-pairs run_options (run_of program) (option (codes "--isa") isa ++ words)
    (pair (codes "--isa") isa ∷ rest) _ stand
    (known_pairs run_options (codes "--cgf") refl groups behind
    ∙ part-known run_options refl refl part families)
    (over-groups program (of-values (pair (codes "--isa") isa ∷ rest)) _
    (values_other (codes "--database") (codes "--cgf") refl groups behind
    ∙ not-part (codes "--database") refl refl part families)
    (run-of program (of-values (pair (codes "--isa") isa ∷ rest)) isa.text device.text work.text
    (map text_of groups) kept read
    (ap (λ vs. only (isa.text ∷ vs))
    (values_other (codes "--isa") (codes "--cgf") refl groups behind
    ∙ not-part (codes "--isa") refl refl part families))
    (ap (some_of 64) (own-values (codes "--cgf") cgf-name groups behind
    (not-part (codes "--cgf") refl refl part families))
    ∙ some 64 groups few.0 few.1)
    (ap only (values_other (codes "--device") (codes "--cgf") refl groups behind)
    ∙ ap (λ vs. only (device.text ∷ vs)) (not-part (codes "--device") refl refl part families))
    (ap only (values_other (codes "--work") (codes "--cgf") refl groups behind)
    ∙ ap (λ vs. only (work.text ∷ vs)) (not-part (codes "--work") refl refl part families))
    (ap parts_of (values_other (codes "--part") (codes "--cgf") refl groups behind
    ∙ part-value part families) ∙ fit)
    (ap families_of (values_other (codes "--families") (codes "--cgf") refl groups behind
    ∙ part-families part families) ∙ which)))

pub reference-of : (values : Values) (isa test signature : List ℕ) (log : Option (List ℕ))
    (count : Option ℕ)
    → only (values (codes "--isa")) ≡ Some isa
    → only (values (codes "--test")) ≡ Some test
    → only (values (codes "--signature")) ≡ Some signature
    → at_most_one (values (codes "--log")) ≡ Some log
    → steps_of (values (codes "--steps")) ≡ Some count
    → reference_of values ≡ Some (Reference (record {
      isa = isa;
      test = test;
      signature = signature;
      log = log;
      steps = count;
    }))
reference-of values isa test signature log count a b c d e = grind arith

one-listed : (log : Option Value)
    → at_most_one (map text_of (listed log)) ≡ Some (option_map text_of log)
one-listed log = grind arith

pub references_are_read : ReferencesAreRead
references_are_read program isa test signature log steps count m l s fit =
    let m1 = others-stand isa (test ∷ signature ∷ []) m in
    let m2 = others-stand test (signature ∷ []) m1 in
    let ends = pairs (codes "--steps") (listed steps) ++ [] in
    let behind = pairs (codes "--log") (listed log) ++ ends in
    let ps = pair (codes "--isa") isa ∷ pair (codes "--test") test
    ∷ pair (codes "--signature") signature ∷ behind in
    let last = options (codes "--log") (listed log) ++ options (codes "--steps") (listed steps) in
    let third = option (codes "--signature") signature ++ last in
    let second = option (codes "--test") test ++ third in
    let read = option_read (codes "--isa") isa-name isa second
    (pair (codes "--test") test ∷ pair (codes "--signature") signature ∷ behind)
    (first-stands isa (test ∷ signature ∷ []) m)
    (option_read (codes "--test") test-name test third
    (pair (codes "--signature") signature ∷ behind)
    (first-stands test (signature ∷ []) m1)
    (option_read (codes "--signature") signature-name signature last behind
    (first-stands signature [] m2)
    (options_read (codes "--log") log-name (listed log)
    (options (codes "--steps") (listed steps)) ends l
    (options_alone (codes "--steps") steps-name (listed steps) s)))) in
    let without = λ (name : List ℕ) (a : bytes_eq (codes "--log") name
    ≡ false) (b : bytes_eq (codes "--steps") name ≡ false).
    values_other name (codes "--log") a (listed log) ends
    ∙ values_other name (codes "--steps") b (listed steps) [] in
    of-pairs reference_options reference_of (option (codes "--isa") isa ++ second) ps _ read
    (known_pairs reference_options (codes "--log") refl (listed log) ends
    ∙ known_pairs reference_options (codes "--steps") refl (listed steps) [])
    (reference-of (of-values ps) isa.text test.text signature.text (option_map text_of log) count
    (ap (λ vs. only (isa.text ∷ vs)) (without (codes "--isa") refl refl))
    (ap (λ vs. only (test.text ∷ vs)) (without (codes "--test") refl refl))
    (ap (λ vs. only (signature.text ∷ vs)) (without (codes "--signature") refl refl))
    (ap at_most_one (own-values (codes "--log") log-name (listed log) ends
    (values_other (codes "--log") (codes "--steps") refl (listed steps) []))
    ∙ one-listed log)
    (ap steps_of (values_other (codes "--steps") (codes "--log") refl (listed log) ends
    ∙ own-values (codes "--steps") steps-name (listed steps) [] refl) ∙ fit))

pub demos_are_read : DemosAreRead
demos_are_read program text count e = grind arith
