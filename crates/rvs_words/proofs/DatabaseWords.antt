-- The words of `select`, and of `run` by where its tests come from.
use Rattle.std.proofs.lemmas.Bool.Decides.{nat_tests}
use Rattle.std.proofs.Common.{◌≡◌, ℕ, Bool, true, false, cond, List, [], ◌∷◌, ◌++◌, Option, Some}
use Rattle.std.proofs.Common.{None, refl, ap, ◌∙◌, codes, bytes_eq, arith, rules}
use Rattle.std.specs.Prelude.{option_and_then, unwrap_or}
use Rattle.rvs_words.specs.Words.{pairs_of, are_known, only}
use Rattle.rvs_text.specs.Options.{◌>>=◌}
use Rattle.rvs_words.specs.Commands.{Values, with_options}
use Rattle.rvs_words.specs.Commands.{run_options, run_of, run_database_of, is_given}
use Rattle.rvs_words.specs.declared.words.Pair.{Pair}
use Rattle.rvs_words.specs.declared.command.Command.{Command}
use Rattle.rvs_words.specs.declared.command.Command.TheVariants.{Unknown, RunDatabase}
use Rattle.rvs_words.specs.CommandLaws.{option, options, listed, SelectsAreRead}
use Rattle.rvs_words.specs.CommandLaws.{DatabasesHaveNoFamilies}
use Rattle.rvs_words.specs.PartWords.{parts_of}
use Rattle.rvs_parts.specs.Parts.{PartValue}
use Rattle.rvs_words.specs.CommandLaws.{RunsOverDatabasesAreRead, RunsHaveOneSource}
use Rattle.rvs_words.proofs.OptionPairs.{IsName, pair, pairs, option_read}
use Rattle.rvs_words.proofs.OptionPairs.{options_alone, values_other, known_pairs}
use Rattle.rvs_words.proofs.CommandWords.{isa-name, device-name, work-name, of-values, of-pairs}
use Rattle.rvs_words.proofs.CommandWords.{first-stands, others-stand, part-name, own-values}

database-name : IsName (codes "--database")
database-name = record { alone = refl; joined = λ byte text. refl; same = refl }

pub selects_are_read : SelectsAreRead
selects_are_read program isa database m = grind (arith, nat_tests)

pub run-database-of : (program : List ℕ) (values : Values) (isa database device work : List ℕ)
    (part : Option PartValue)
    → only (values (codes "--isa")) ≡ Some isa
    → only (values (codes "--database")) ≡ Some database
    → only (values (codes "--device")) ≡ Some device
    → only (values (codes "--work")) ≡ Some work
    → parts_of (values (codes "--part")) ≡ Some part
    → run_database_of program values ≡ Some (RunDatabase (record {
      program = program;
      isa = isa;
      database = database;
      device = device;
      work = work;
      part = part;
    }))
run-database-of program values isa database device work part a b c d e = grind arith

-- with a database, and without group files and families, a run is over that
by-database : (program : List ℕ) (values : Values) (command : Command)
    → values (codes "--cgf") ≡ [] → values (codes "--families") ≡ []
    → run_database_of program values ≡ Some command
    → (database : List ℕ)
    → values (codes "--database") ≡ database ∷ [] → run_of program values ≡ Some command
by-database program values command none plain asks database given = grind arith

pub runs_over_databases_are_read : RunsOverDatabasesAreRead
runs_over_databases_are_read program isa database device work part kept m p fit =
    let m1 = others-stand isa (database ∷ device ∷ work ∷ []) m in
    let m2 = others-stand database (device ∷ work ∷ []) m1 in
    let m3 = others-stand device (work ∷ []) m2 in
    let last-part = pairs (codes "--part") (listed part) ++ [] in
    let ends = pair (codes "--work") work ∷ last-part in
    let behind = pair (codes "--device") device ∷ ends in
    let rest = pair (codes "--database") database ∷ behind in
    let third = option (codes "--work") work ++ options (codes "--part") (listed part) in
    let last = option (codes "--device") device ++ third in
    let words = option (codes "--database") database ++ last in
    let without = λ (name : List ℕ) (a : bytes_eq (codes "--part") name
    ≡ false). values_other name (codes "--part") a (listed part) [] in
    of-pairs run_options (run_of program) (option (codes "--isa") isa ++ words)
    (pair (codes "--isa") isa ∷ rest) _
    (option_read (codes "--isa") isa-name isa words rest
    (first-stands isa (database ∷ device ∷ work ∷ []) m)
    (option_read (codes "--database") database-name database last behind
    (first-stands database (device ∷ work ∷ []) m1)
    (option_read (codes "--device") device-name device third ends
    (first-stands device (work ∷ []) m2)
    (option_read (codes "--work") work-name work (options (codes "--part") (listed part)) last-part
    (first-stands work [] m3)
    (options_alone (codes "--part") part-name (listed part) p)))))
    (known_pairs run_options (codes "--part") refl (listed part) [])
    (by-database program (of-values (pair (codes "--isa") isa ∷ rest)) _
    (without (codes "--cgf") refl) (without (codes "--families") refl)
    (run-database-of program (of-values (pair (codes "--isa") isa ∷ rest)) isa.text database.text
    device.text work.text kept
    (ap (λ vs. only (isa.text ∷ vs)) (without (codes "--isa") refl))
    (ap (λ vs. only (database.text ∷ vs)) (without (codes "--database") refl))
    (ap (λ vs. only (device.text ∷ vs)) (without (codes "--device") refl))
    (ap (λ vs. only (work.text ∷ vs)) (without (codes "--work") refl))
    (ap parts_of (own-values (codes "--part") part-name (listed part) [] refl) ∙ fit))
    database.text (ap (λ vs. database.text ∷ vs) (without (codes "--database") refl)))

-- ---- one source
abbrev no-command : Option Command
no-command = None

both-or-none : (program : List ℕ) (values : Values) (groups databases : Bool)
    → is_given (values (codes "--cgf")) ≡ groups
    → is_given (values (codes "--database")) ≡ databases → groups ≡ databases
    → run_of program values ≡ None
both-or-none program values groups databases g d same = grind arith

none-of-database : (groups : Bool) (asked : Option Command)
    → cond groups no-command (cond true None asked) ≡ None
none-of-database groups asked = grind arith

families-of-database : (program : List ℕ) (values : Values)
    → is_given (values (codes "--database")) ≡ true
    → is_given (values (codes "--families")) ≡ true
    → run_of program values ≡ None
families-of-database program values d f = grind (arith, codes, none-of-database)

if-known : (known : Bool) (f : Values → Option Command) (pairs : List Pair)
    → f (of-values pairs) ≡ None
    → unwrap_or (cond known (Some pairs) None >>= (λ pairs. f (of-values pairs))) Unknown ≡ Unknown
if-known known f pairs none = grind arith

-- words that are these pairs ask a run for nothing, if their values don't
nothing-asked : (program : List ℕ) (words : List (List ℕ)) (pairs : List Pair)
    → pairs_of words ≡ Some pairs → run_of program (of-values pairs) ≡ None
    → unwrap_or (with_options run_options (run_of program) words) Unknown ≡ Unknown
nothing-asked program words pairs read none =
    ap (λ (o : Option (List Pair)). unwrap_or (option_and_then
    (λ (ps : List Pair). cond (are_known run_options ps) (Some ps) None) o
    >>= (λ (ps : List Pair). run_of program (of-values ps))) Unknown) read
    ∙ if-known (are_known run_options pairs) (run_of program) pairs none

pub runs_have_one_source : RunsHaveOneSource
runs_have_one_source program words pairs read same =
    search (rules, nothing-asked, both-or-none, of-values)

pub databases_have_no_families : DatabasesHaveNoFamilies
databases_have_no_families program words pairs read d f =
    nothing-asked program words pairs read (families-of-database program (of-values pairs) d f)
