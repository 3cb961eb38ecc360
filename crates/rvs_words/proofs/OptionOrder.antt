-- Options in any order ask for the same.
use Rattle.std.proofs.Common.{◌≡◌, ℕ, Bool, true, cond, List, [], ◌∷◌, ◌++◌, Option, Some}
use Rattle.std.proofs.Common.{None}
use Rattle.std.proofs.Common.{bytes_eq, arith, rules}
use Rattle.std.proofs.lemmas.Slice.Eq.{bytes_eq-Decides}
use Rattle.std.specs.Prelude.{◌&&◌, ◌||◌, filter, option_and_then, unwrap_or}
use Rattle.std.specs.List.{list_all, list_any}
use Rattle.rvs_words.specs.Words.{pairs_of, values_of, are_known}
use Rattle.rvs_text.specs.Options.{◌>>=◌}
use Rattle.rvs_words.specs.Commands.{Values, with_options, validate_options, validate_of}
use Rattle.rvs_words.specs.Commands.{normalize_options, normalize_of, generate_options, generate_of}
use Rattle.rvs_words.specs.Commands.{reference_options, reference_of, coverage_options, coverage_of}
use Rattle.rvs_words.specs.Commands.{propagate_options, propagate_of, run_options, run_of}
use Rattle.rvs_words.specs.Commands.{report_options, report_of, select_options, select_of}
use Rattle.rvs_words.specs.Commands.{command_of}
use Rattle.rvs_words.specs.declared.words.Pair.{Pair}
use Rattle.rvs_words.specs.declared.command.Command.{Command}
use Rattle.rvs_words.specs.declared.command.Command.TheVariants.{Unknown}
use Rattle.rvs_words.specs.CommandLaws.{option_commands, OptionsChangePlaces}
use Rattle.rvs_words.proofs.CommandWords.{of-values}

-- a filter that doesn't take both of two neighbours
two-kept : (x y : Bool) (a b : Pair) (rest : List Pair) → (x ≡ true → y ≡ true → ⊥)
    → cond x (a ∷ cond y (b ∷ rest) rest) (cond y (b ∷ rest) rest)
    ≡ cond y (b ∷ cond x (a ∷ rest) rest) (cond x (a ∷ rest) rest)
two-kept x y a b rest apart = grind arith

kept-swapped : (test : Pair → Bool) (front behind : List Pair) (a b : Pair)
    → (test a ≡ true → test b ≡ true → ⊥)
    → filter test (front ++ a ∷ b ∷ behind) ≡ filter test (front ++ b ∷ a ∷ behind)
kept-swapped test [] behind a b apart = two-kept (test a) (test b) a b (filter test behind) apart
kept-swapped test (p ∷ front) behind a b apart = simp (kept-swapped test front behind a b apart)

-- each option has the same values
abbrev SameValues : List Pair → List Pair → Type 0
SameValues ps others = (name : List ℕ) → values_of name ps ≡ values_of name others

values-swapped : (front behind : List Pair) (a b : Pair) → (a.name ≡ b.name → ⊥)
    → SameValues (front ++ a ∷ b ∷ behind) (front ++ b ∷ a ∷ behind)
values-swapped front behind a b apart name = grind (arith, kept-swapped, bytes_eq, bytes_eq-Decides)

both-known : (x y rest : Bool) → (x && (y && rest)) ≡ (y && (x && rest))
both-known x y rest = grind arith

all-swapped : (test : Pair → Bool) (front behind : List Pair) (a b : Pair)
    → list_all test (front ++ a ∷ b ∷ behind) ≡ list_all test (front ++ b ∷ a ∷ behind)
all-swapped test [] behind a b = both-known (test a) (test b) (list_all test behind)
all-swapped test (p ∷ front) behind a b = simp (all-swapped test front behind a b)

-- what options of these names ask for, by the pairs that they are
abbrev in-pairs : List (List ℕ) → (Values → Option Command) → Option (List Pair) → Option Command
in-pairs names f ps =
    option_and_then (λ (ps : List Pair). cond (are_known names ps) (Some ps) None) ps
    >>= (λ (ps : List Pair). f (of-values ps))

abbrev asked-by : List (List ℕ) → (Values → Option Command) → List Pair → Option Command
asked-by names f ps = in-pairs names f (Some ps)

still : (known : Bool) (f : Values → Option Command) (ps others : List Pair)
    → of-values ps ≡ of-values others
    → (cond known (Some ps) None >>= (λ (ps : List Pair). f (of-values ps)))
    ≡ (cond known (Some others) None >>= (λ (ps : List Pair). f (of-values ps)))
still known f ps others same = grind arith

known-same : (names : List (List ℕ)) (f : Values → Option Command) (ps others : List Pair)
    → are_known names ps ≡ are_known names others → SameValues ps others
    → asked-by names f ps ≡ asked-by names f others
known-same names f ps others known same = grind (arith, of-values, still)

-- a command depends on the values alone
of-same : (names : List (List ℕ)) (f : Values → Option Command) (words others : List (List ℕ))
    (ps qs : List Pair)
    → pairs_of words ≡ Some ps → pairs_of others ≡ Some qs → are_known names ps ≡ are_known names qs
    → SameValues ps qs
    → unwrap_or (with_options names f words) Unknown ≡ unwrap_or (with_options names f others)
    Unknown
of-same names f words others ps qs e e2 known same = grind (arith, known-same)

-- what holds of each of some names holds of a name among them
abbrev HoldsOfAll : (List ℕ → Type 0) → List (List ℕ) → Type 0
HoldsOfAll P [] = Unit {0}
HoldsOfAll P (name ∷ names) = P name × HoldsOfAll P names

one-name : (P : List ℕ → Type 0) (name known : List ℕ) (same : Bool) (names : List (List ℕ))
    → bytes_eq name known ≡ same → P known
    → (list_any (λ (k : List ℕ). bytes_eq name k) names ≡ true → P name)
    → (same || list_any (λ (k : List ℕ). bytes_eq name k) names) ≡ true → P name
one-name P name known same names e here later is = search rules

among : (P : List ℕ → Type 0) (name : List ℕ) (names : List (List ℕ)) → HoldsOfAll P names
    → list_any (λ (k : List ℕ). bytes_eq name k) names ≡ true → P name
among P name [] all is = absurd cc
among P name (known ∷ names) all is = search (rules, one-name, bytes_eq, (among P name names all.1))

pub options_change_places : OptionsChangePlaces
options_change_places program name words others front behind a b is apart e e2 =
    let ps = front ++ a ∷ b ∷ behind in
    let qs = front ++ b ∷ a ∷ behind in
    let same = values-swapped front behind a b apart in
    let of = λ (names : List (List ℕ)) (f : Values → Option Command).
    of-same names f words others ps qs e e2
    (all-swapped (λ (p : Pair). list_any (λ (known : List ℕ). bytes_eq p.name known) names) front
    behind a b) same in
    among (λ name. command_of (program ∷ name ∷ words) ≡ command_of (program ∷ name ∷ others)) name
    option_commands (
      of validate_options validate_of,
      (
        of normalize_options normalize_of,
        (
          of generate_options generate_of,
          (
            of reference_options reference_of,
            (
              of coverage_options coverage_of,
              (
                of propagate_options propagate_of,
                (
                  of run_options (run_of program),
                  (of report_options report_of, (of select_options select_of, tt)),
                ),
              ),
            ),
          ),
        ),
      ),
    ) is
