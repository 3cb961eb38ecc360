-- The words of `report` ask for it.
use Rattle.std.proofs.Common.{◌≡◌, ◌≤◌, ℕ, true, false, List, [], ◌∷◌, ◌++◌, length}
use Rattle.std.proofs.Common.{Option, Some, refl, ap, ◌∙◌, bytes_eq, codes, arith}
use Rattle.std.specs.Prelude.{nat_le, map}
use Rattle.std.proofs.lemmas.Bool.Decides.{nat_tests}
use Rattle.std.proofs.lemmas.List.{length-map}
use Rattle.rvs_words.specs.Words.{only, values_of}
use Rattle.rvs_words.specs.Windows.{windows_of}
use Rattle.rvs_words.specs.FamilyWords.{families_of}
use Rattle.rvs_abstract.specs.declared.families.Families.{Families}
use Rattle.rvs_words.specs.Commands.{Values, some_of, up_to, report_options, report_of}
use Rattle.rvs_base.specs.declared.asked.Window.{Window}
use Rattle.rvs_words.specs.declared.words.Pair.{Pair}
use Rattle.rvs_words.specs.declared.command.Command.TheVariants.{Report}
use Rattle.rvs_words.specs.CommandLaws.{Value, option, options, text_of, ReportsAreRead}
use Rattle.rvs_words.proofs.OptionPairs.{pair, pairs, option_read, options_read, values_other}
use Rattle.rvs_words.proofs.OptionPairs.{known_pairs}
use Rattle.rvs_words.proofs.CommandWords.{isa-name, cgf-name, device-name, work-name, log-name}
use Rattle.rvs_words.proofs.CommandWords.{window-name, of-values, of-pairs, some, first-stands}
use Rattle.rvs_words.proofs.CommandWords.{others-stand, own-values, last-pairs, last-words}
use Rattle.rvs_words.proofs.CommandWords.{last-read, not-last, last-known, last-value}

few : (most : ℕ) (values : List Value) → length values ≤ most
    → nat_le (length (map text_of values)) most ≡ true
few most values low = simp length-map (grind (arith, nat_tests))

all-of : (most : ℕ) (values : List Value) → length values ≤ most
    → up_to most (map text_of values) ≡ Some (map text_of values)
all-of most values low = simp few

pub report-of : (values : Values) (isa device work : List ℕ) (groups logs : List (List ℕ))
    (kept : List Window) (read : Families)
    → only (values (codes "--isa")) ≡ Some isa
    → some_of 64 (values (codes "--cgf")) ≡ Some groups
    → only (values (codes "--device")) ≡ Some device
    → only (values (codes "--work")) ≡ Some work
    → up_to 4096 (values (codes "--log")) ≡ Some logs
    → windows_of (values (codes "--window")) ≡ Some kept
    → families_of (values (codes "--families")) ≡ Some read
    → report_of values ≡ Some (Report (record {
      isa = isa;
      groups = groups;
      device = device;
      work = work;
      logs = logs;
      windows = kept;
      families = read;
    }))
report-of values isa device work groups logs kept read a b c d e f g = grind arith

-- what stands behind the folder
abbrev tail-pairs : List Value → List Value → Option Value → List Pair
tail-pairs logs windows families =
    pairs (codes "--log") logs ++ (pairs (codes "--window") windows ++ last-pairs families)

abbrev tail-words : List Value → List Value → Option Value → List (List ℕ)
tail-words logs windows families =
    options (codes "--log") logs
    ++ (options (codes "--window") windows ++ last-words families)

not-tail : (name : List ℕ) → bytes_eq (codes "--log") name ≡ false
    → bytes_eq (codes "--window") name ≡ false → bytes_eq (codes "--families") name ≡ false
    → (logs windows : List Value) (families : Option Value)
    → values_of name (tail-pairs logs windows families) ≡ []
not-tail name a b c logs windows families = simp (values_other, codes, last-pairs, not-last)

pub reports_are_read : ReportsAreRead
reports_are_read program isa device work groups logs windows families kept read m l w f enough
    many fit which =
    let m1 = others-stand isa (device ∷ work ∷ groups) m in
    let m2 = others-stand device (work ∷ groups) m1 in
    let final = last-pairs families in
    let late = pairs (codes "--window") windows ++ final in
    let ends = tail-pairs logs windows families in
    let second = pair (codes "--work") work ∷ ends in
    let behind = pair (codes "--device") device ∷ second in
    let rest = pairs (codes "--cgf") groups ++ behind in
    let fourth = options (codes "--window") windows ++ last-words families in
    let tail = tail-words logs windows families in
    let third = option (codes "--work") work ++ tail in
    let last = option (codes "--device") device ++ third in
    let words = options (codes "--cgf") groups ++ last in
    let all = pair (codes "--isa") isa ∷ rest in
    let stand = option_read (codes "--isa") isa-name isa words rest
    (first-stands isa (device ∷ work ∷ groups) m)
    (options_read (codes "--cgf") cgf-name groups last behind (others-stand work groups m2)
    (option_read (codes "--device") device-name device third second
    (first-stands device (work ∷ groups) m1)
    (option_read (codes "--work") work-name work tail ends
    (first-stands work groups m2)
    (options_read (codes "--log") log-name logs fourth late l
    (options_read (codes "--window") window-name windows (last-words families) final w
    (last-read families f)))))) in
    of-pairs report_options report_of (option (codes "--isa") isa ++ words) all _ stand
    (known_pairs report_options (codes "--cgf") refl groups behind
    ∙ known_pairs report_options (codes "--log") refl logs late
    ∙ known_pairs report_options (codes "--window") refl windows final
    ∙ last-known report_options refl families)
    (report-of (of-values all) isa.text device.text work.text (map text_of groups)
    (map text_of logs) kept read
    (ap (λ vs. only (isa.text ∷ vs))
    (values_other (codes "--isa") (codes "--cgf") refl groups behind
    ∙ not-tail (codes "--isa") refl refl refl logs windows families))
    (ap (some_of 64) (own-values (codes "--cgf") cgf-name groups behind
    (not-tail (codes "--cgf") refl refl refl logs windows families))
    ∙ some 64 groups enough.0 enough.1)
    (ap only (values_other (codes "--device") (codes "--cgf") refl groups behind)
    ∙ ap (λ vs. only (device.text ∷ vs))
    (not-tail (codes "--device") refl refl refl logs windows families))
    (ap only (values_other (codes "--work") (codes "--cgf") refl groups behind)
    ∙ ap (λ vs. only (work.text ∷ vs))
    (not-tail (codes "--work") refl refl refl logs windows families))
    (ap (up_to 4096) (values_other (codes "--log") (codes "--cgf") refl groups behind
    ∙ own-values (codes "--log") log-name logs late
    (values_other (codes "--log") (codes "--window") refl windows final
    ∙ not-last (codes "--log") refl families))
    ∙ all-of 4096 logs many)
    (ap windows_of (values_other (codes "--window") (codes "--cgf") refl groups behind
    ∙ values_other (codes "--window") (codes "--log") refl logs late
    ∙ own-values (codes "--window") window-name windows final
    (not-last (codes "--window") refl families)) ∙ fit)
    (ap families_of (values_other (codes "--families") (codes "--cgf") refl groups behind
    ∙ values_other (codes "--families") (codes "--log") refl logs late
    ∙ values_other (codes "--families") (codes "--window") refl windows final
    ∙ last-value families) ∙ which))
