-- The words of the commands that read execution logs ask for them.
use Rattle.std.proofs.Common.{◌≡◌, ℕ, Bool, true, false, cond, List, [], ◌∷◌, ◌++◌, Option, Some}
use Rattle.std.proofs.Common.{refl, ap, ◌∙◌, bytes_eq, codes, arith}
use Rattle.std.specs.Prelude.{map}
use Rattle.std.specs.List.{list_any}
use Rattle.rvs_abstract.specs.declared.families.Families.{Families}
use Rattle.rvs_base.specs.declared.asked.Window.{Window}
use Rattle.rvs_words.specs.Words.{pairs_of, values_of, are_known, only}
use Rattle.rvs_words.specs.Windows.{windows_of}
use Rattle.rvs_words.specs.FamilyWords.{families_of}
use Rattle.rvs_words.specs.LogWords.{signed_logs}
use Rattle.rvs_words.specs.Commands.{Values, some_of, flag_of, coverage_options, coverage_of}
use Rattle.rvs_words.specs.Commands.{propagate_options, propagate_of}
use Rattle.rvs_words.specs.declared.words.Pair.{Pair}
use Rattle.rvs_words.specs.declared.command.SignedLog.{SignedLog}
use Rattle.rvs_words.specs.declared.command.Command.TheVariants.{Coverage, Propagate}
use Rattle.rvs_words.specs.CommandLaws.{Value, option, options, AllMayStand, text_of, listed}
use Rattle.rvs_words.specs.CommandLaws.{flagged, CoveragesAreRead, PropagatesAreRead}
use Rattle.rvs_words.proofs.OptionPairs.{pair, pairs, option_read, options_read, values_other}
use Rattle.rvs_words.proofs.OptionPairs.{known_pairs}
use Rattle.rvs_words.proofs.CommandWords.{isa-name, cgf-name, log-name, window-name, signature-name}
use Rattle.rvs_words.proofs.CommandWords.{families-name, of-values, of-pairs, some, first-stands}
use Rattle.rvs_words.proofs.CommandWords.{others-stand, own-values}

-- the families and the progress, each of which needn't stand
abbrev flag-pairs : Bool → List Pair
flag-pairs progress = cond progress (record { name = codes "--progress"; value = [] } ∷ []) []

abbrev told-pairs : Option Value → Bool → List Pair
told-pairs families progress = pairs (codes "--families") (listed families) ++ flag-pairs progress

abbrev told-words : Option Value → Bool → List (List ℕ)
told-words families progress = options (codes "--families") (listed families) ++ flagged progress

flag-read : (progress : Bool) → pairs_of (flagged progress) ≡ Some (flag-pairs progress)
flag-read progress = grind arith

told-read : (families : Option Value) (progress : Bool) → AllMayStand (listed families)
    → pairs_of (told-words families progress) ≡ Some (told-pairs families progress)
told-read families progress m = grind (arith, options_read, codes, families-name, flag-read)

not-flag : (name : List ℕ) → bytes_eq (codes "--progress") name ≡ false → (progress : Bool)
    → values_of name (flag-pairs progress) ≡ []
not-flag name e progress = grind arith

not-told : (name : List ℕ) → bytes_eq (codes "--families") name ≡ false
    → bytes_eq (codes "--progress") name ≡ false
    → (families : Option Value) (progress : Bool)
    → values_of name (told-pairs families progress) ≡ []
not-told name a b families progress = simp (values_other, codes, not-flag)

flag-known : (names : List (List ℕ))
    → list_any (λ (known : List ℕ). bytes_eq (codes "--progress") known) names ≡ true
    → (progress : Bool) → are_known names (flag-pairs progress) ≡ true
flag-known names e progress = grind arith

told-known : (names : List (List ℕ))
    → list_any (λ (known : List ℕ). bytes_eq (codes "--families") known) names ≡ true
    → list_any (λ (known : List ℕ). bytes_eq (codes "--progress") known) names ≡ true
    → (families : Option Value) (progress : Bool)
    → are_known names (told-pairs families progress) ≡ true
told-known names a b families progress = simp (known_pairs, codes, flag-known)

told-families : (families : Option Value) (progress : Bool)
    → values_of (codes "--families") (told-pairs families progress) ≡ map text_of (listed families)
told-families families progress = simp (own-values, codes, families-name, not-flag)

flag-own : (progress : Bool)
    → flag_of (values_of (codes "--progress") (flag-pairs progress)) ≡ Some progress
flag-own progress = grind arith

told-progress : (families : Option Value) (progress : Bool)
    → flag_of (values_of (codes "--progress") (told-pairs families progress)) ≡ Some progress
told-progress families progress = simp (values_other, codes, flag-own)

pub coverage-of : (values : Values) (isa : List ℕ) (groups logs : List (List ℕ))
    (kept : List Window) (read : Families) (progress : Bool)
    → only (values (codes "--isa")) ≡ Some isa
    → some_of 64 (values (codes "--cgf")) ≡ Some groups
    → some_of 4096 (values (codes "--log")) ≡ Some logs
    → windows_of (values (codes "--window")) ≡ Some kept
    → families_of (values (codes "--families")) ≡ Some read
    → flag_of (values (codes "--progress")) ≡ Some progress
    → coverage_of values ≡ Some (Coverage (record {
      isa = isa;
      groups = groups;
      logs = logs;
      windows = kept;
      families = read;
      progress = progress;
    }))
coverage-of values isa groups logs kept read progress a b c d e f = grind arith

pub coverages_are_read : CoveragesAreRead
coverages_are_read program isa groups logs windows families kept read progress m l w f few many fit
    which =
    let final = told-pairs families progress in
    let ends = pairs (codes "--window") windows ++ final in
    let behind = pairs (codes "--log") logs ++ ends in
    let rest = pairs (codes "--cgf") groups ++ behind in
    let third = options (codes "--window") windows ++ told-words families progress in
    let last = options (codes "--log") logs ++ third in
    let words = options (codes "--cgf") groups ++ last in
    let stand =
    option_read (codes "--isa") isa-name isa words rest (first-stands isa groups m)
    (options_read (codes "--cgf") cgf-name groups last behind (others-stand isa groups m)
    (options_read (codes "--log") log-name logs third ends l
    (options_read (codes "--window") window-name windows (told-words families progress) final w
    (told-read families progress f)))) in
    let without = λ (name : List ℕ) (a : bytes_eq (codes "--log") name
    ≡ false) (b : bytes_eq (codes "--window") name
    ≡ false) (c : bytes_eq (codes "--families") name
    ≡ false) (d : bytes_eq (codes "--progress") name ≡ false).
    values_other name (codes "--log") a logs ends
    ∙ values_other name (codes "--window") b windows final
    ∙ not-told name c d families progress in
    of-pairs coverage_options coverage_of (option (codes "--isa") isa ++ words)
    (pair (codes "--isa") isa ∷ rest) _ stand
    (known_pairs coverage_options (codes "--cgf") refl groups behind
    ∙ known_pairs coverage_options (codes "--log") refl logs ends
    ∙ known_pairs coverage_options (codes "--window") refl windows final
    ∙ told-known coverage_options refl refl families progress)
    (coverage-of (of-values (pair (codes "--isa") isa ∷ rest)) isa.text (map text_of groups)
    (map text_of logs) kept read progress
    (ap (λ vs. only (isa.text ∷ vs))
    (values_other (codes "--isa") (codes "--cgf") refl groups behind
    ∙ without (codes "--isa") refl refl refl refl))
    (ap (some_of 64) (own-values (codes "--cgf") cgf-name groups behind
    (without (codes "--cgf") refl refl refl refl))
    ∙ some 64 groups few.0 few.1)
    (ap (some_of 4096) (values_other (codes "--log") (codes "--cgf") refl groups behind
    ∙ own-values (codes "--log") log-name logs ends
    (values_other (codes "--log") (codes "--window") refl windows final
    ∙ not-told (codes "--log") refl refl families progress))
    ∙ some 4096 logs many.0 many.1)
    (ap windows_of (values_other (codes "--window") (codes "--cgf") refl groups behind
    ∙ values_other (codes "--window") (codes "--log") refl logs ends
    ∙ own-values (codes "--window") window-name windows final
    (not-told (codes "--window") refl refl families progress)) ∙ fit)
    (ap families_of (values_other (codes "--families") (codes "--cgf") refl groups behind
    ∙ values_other (codes "--families") (codes "--log") refl logs ends
    ∙ values_other (codes "--families") (codes "--window") refl windows final
    ∙ told-families families progress) ∙ which)
    (ap flag_of (values_other (codes "--progress") (codes "--cgf") refl groups behind
    ∙ values_other (codes "--progress") (codes "--log") refl logs ends
    ∙ values_other (codes "--progress") (codes "--window") refl windows final)
    ∙ told-progress families progress))

pub propagate-of : (values : Values) (isa : List ℕ) (groups logs : List (List ℕ))
    (signed : List SignedLog) (read : Families) (progress : Bool)
    → only (values (codes "--isa")) ≡ Some isa
    → some_of 64 (values (codes "--cgf")) ≡ Some groups
    → some_of 4096 (values (codes "--log")) ≡ Some logs
    → signed_logs logs (values (codes "--signature")) ≡ Some signed
    → families_of (values (codes "--families")) ≡ Some read
    → flag_of (values (codes "--progress")) ≡ Some progress
    → propagate_of values ≡ Some (Propagate (record {
      isa = isa;
      groups = groups;
      logs = signed;
      families = read;
      progress = progress;
    }))
propagate-of values isa groups logs signed read progress a b c d e f = grind (arith, codes)

pub propagates_are_read : PropagatesAreRead
propagates_are_read program isa groups logs signatures families signed read progress m l s f few
    many fit which =
    let final = told-pairs families progress in
    let ends = pairs (codes "--signature") signatures ++ final in
    let behind = pairs (codes "--log") logs ++ ends in
    let rest = pairs (codes "--cgf") groups ++ behind in
    let third = options (codes "--signature") signatures ++ told-words families progress in
    let last = options (codes "--log") logs ++ third in
    let words = options (codes "--cgf") groups ++ last in
    let stand =
    option_read (codes "--isa") isa-name isa words rest (first-stands isa groups m)
    (options_read (codes "--cgf") cgf-name groups last behind (others-stand isa groups m)
    (options_read (codes "--log") log-name logs third ends l
    (options_read (codes "--signature") signature-name signatures (told-words families progress)
    final s (told-read families progress f)))) in
    let without = λ (name : List ℕ) (a : bytes_eq (codes "--log") name
    ≡ false) (b : bytes_eq (codes "--signature") name
    ≡ false) (c : bytes_eq (codes "--families") name
    ≡ false) (d : bytes_eq (codes "--progress") name ≡ false).
    values_other name (codes "--log") a logs ends
    ∙ values_other name (codes "--signature") b signatures final
    ∙ not-told name c d families progress in
    of-pairs propagate_options propagate_of (option (codes "--isa") isa ++ words)
    (pair (codes "--isa") isa ∷ rest) _ stand
    (known_pairs propagate_options (codes "--cgf") refl groups behind
    ∙ known_pairs propagate_options (codes "--log") refl logs ends
    ∙ known_pairs propagate_options (codes "--signature") refl signatures final
    ∙ told-known propagate_options refl refl families progress)
    (propagate-of (of-values (pair (codes "--isa") isa ∷ rest)) isa.text (map text_of groups)
    (map text_of logs) signed read progress
    (ap (λ vs. only (isa.text ∷ vs))
    (values_other (codes "--isa") (codes "--cgf") refl groups behind
    ∙ without (codes "--isa") refl refl refl refl))
    (ap (some_of 64) (own-values (codes "--cgf") cgf-name groups behind
    (without (codes "--cgf") refl refl refl refl))
    ∙ some 64 groups few.0 few.1)
    (ap (some_of 4096) (values_other (codes "--log") (codes "--cgf") refl groups behind
    ∙ own-values (codes "--log") log-name logs ends
    (values_other (codes "--log") (codes "--signature") refl signatures final
    ∙ not-told (codes "--log") refl refl families progress))
    ∙ some 4096 logs many.0 many.1)
    (ap (signed_logs (map text_of logs))
    (values_other (codes "--signature") (codes "--cgf") refl groups behind
    ∙ values_other (codes "--signature") (codes "--log") refl logs ends
    ∙ own-values (codes "--signature") signature-name signatures final
    (not-told (codes "--signature") refl refl families progress)) ∙ fit)
    (ap families_of (values_other (codes "--families") (codes "--cgf") refl groups behind
    ∙ values_other (codes "--families") (codes "--log") refl logs ends
    ∙ values_other (codes "--families") (codes "--signature") refl signatures final
    ∙ told-families families progress) ∙ which)
    (ap flag_of (values_other (codes "--progress") (codes "--cgf") refl groups behind
    ∙ values_other (codes "--progress") (codes "--log") refl logs ends
    ∙ values_other (codes "--progress") (codes "--signature") refl signatures final)
    ∙ told-progress families progress))
