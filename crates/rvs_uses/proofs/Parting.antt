-- What the parts of a run are together.
use Rattle.std.proofs.Common.{◌≡◌, ◌≤◌, ◌⊎◌, inl, inr, ℕ, zero, suc, ◌+◌, Bool, true, false}
use Rattle.std.proofs.Common.{cond, List, [], ◌∷◌, ◌++◌, map, length, Contains, Option, Some}
use Rattle.std.proofs.Common.{None, Result, Ok, Err, flat_map, append_assoc}
use Rattle.std.proofs.Common.{refl, sym, ap, subst, ◌∙◌, arith}
use Rattle.std.specs.Prelude.{◌==◌, ◌&&◌}
use Rattle.std.specs.List.{list_all}
use Rattle.std.proofs.lemmas.Bool.Decides.{nat_tests}
use Rattle.rvs_base.specs.declared.host.DeviceRun.{DeviceRun}
use Rattle.rvs_parts.specs.Parts.{PartValue, is_in, parted_from, parted}
use Rattle.rvs_parts.specs.Laws.{in_parts, over}
use Rattle.rvs_parts.proofs.Adding.{parts_add_up, parts_are_all, one_part_is_all}
use Rattle.rvs_plan.specs.declared.stop.Stop.{Stop}
use Rattle.rvs_plan.specs.declared.status.Finish.TheVariants.{Done, NotPassed}
use Rattle.rvs_insn.specs.Isa.{Isa}
use Rattle.rvs_cgf.specs.Groups.{Label}
use Rattle.rvs_device.specs.Printed.{verdict_line}
use Rattle.rvs_select.specs.declared.database.Entry.{Entry}
use Rattle.rvs_inputs.specs.DatabaseInput.{marked_from}
use Rattle.rvs_generate.specs.GenerateTexts.{label_text, total_line, none, with_labels, listing}
use Rattle.rvs_inputs.specs.GroupFiles.{Inputs, and_then, parted_inputs}
use Rattle.rvs_generate.specs.TestedInputs.{tested_in}
use Rattle.rvs_run.specs.RunDatabase.{chosen_if, chosen}
use Rattle.rvs_suite.specs.RunLeft.{verdict_by, trial_lines, trials_passed}
use Rattle.rvs_run.specs.RunTests.{Bench, passes, with_one}
use Rattle.rvs_generate.specs.Tests.{tests_of_label, tests_of}
use Rattle.rvs_generate.specs.declared.gathering.Test.{Test}
use Rattle.rvs_generate.specs.declared.sources.Given.{Given}
use Rattle.rvs_uses.specs.Parted.{part_of, PartsReadAll}
use Rattle.rvs_uses.specs.Parted.{PartsList, trials_by, told_of}
use Rattle.rvs_uses.specs.Parted.{told_of_label, PartsTell, number_of_tests, number_passed}
use Rattle.rvs_uses.specs.Parted.{PartsCount, IsDone, PartsPass, DatabasesAreParted}
use Rattle.rvs_uses.proofs.PartsApart.{none-has}

-- ---- all inputs are read
alone : (inputs : Inputs) → parted_inputs None inputs ≡ inputs
alone inputs = ap (λ (ls : List Label). record { isa = inputs.isa; groups = ls })
    (one_part_is_all inputs.groups).1

read-all : (p : PartValue) (found : Result Inputs Stop)
    → and_then found (λ inputs. Ok (parted_inputs (Some p) inputs))
    ≡ and_then (and_then found (λ inputs. Ok (parted_inputs None inputs)))
    (λ inputs. Ok (parted_inputs (Some p) inputs))
read-all p (Ok inputs) =
    ap (λ (i : Inputs). Ok (parted_inputs (Some p) i)) (sym (alone inputs))
read-all p (Err stop) = refl

pub parts-read-all : PartsReadAll
parts-read-all files p isa families names = read-all p (tested_in files isa families names)

-- ---- what is made of each label goes with its part
map-by : {X Y : Type 0} (f : X → Y) (b : Bool) (x : X) (rest : List X)
    → cond b (f x ∷ map f rest) (map f rest) ≡ map f (cond b (x ∷ rest) rest)
map-by f true x rest = refl
map-by f false x rest = refl

mapped : {X Y : Type 0} (f : X → Y) (part : Option PartValue) (place : ℕ) (xs : List X)
    → parted_from part place (map f xs) ≡ map f (parted_from part place xs)
mapped f part place [] = refl
mapped f part place (x ∷ xs) =
    ap (λ ys. cond (is_in part place) (f x ∷ ys) ys) (mapped f part (place + 1) xs)
    ∙ map-by f (is_in part place) x (parted_from part (place + 1) xs)

flat : {X : Type 0} (f : X → List ℕ) (xs : List X)
    → flat_map f xs ≡ flat_map (λ (line : List ℕ). line) (map f xs)
flat f [] = refl
flat f (x ∷ xs) = ap (λ (rest : List ℕ). f x ++ rest) (flat f xs)

part-flat : {X : Type 0} (f : X → List ℕ) (part : Option PartValue) (xs : List X)
    → flat_map f (parted part xs)
    ≡ flat_map (λ (line : List ℕ). line) (parted part (map f xs))
part-flat f part xs = flat f (parted part xs)
    ∙ ap (flat_map (λ (line : List ℕ). line)) (sym (mapped f part 0 xs))

pub parts-list : PartsList
unfolding listing
parts-list isa labels part =
    ap (λ (lines : List ℕ). lines ++ total_line (with_labels isa none (parted part labels)))
    (part-flat (label_text isa) part labels)

-- ---- verdicts
abbrev lines-on : Bench → (Test → DeviceRun) → List Test → List ℕ
lines-on bench run tests = trial_lines (trials_by bench run tests)

lines-both : (bench : Bench) (run : Test → DeviceRun) (xs ys : List Test)
    → lines-on bench run (xs ++ ys) ≡ lines-on bench run xs ++ lines-on bench run ys
lines-both bench run [] ys = refl
lines-both bench run (x ∷ xs) ys =
    let first = verdict_line x.name (verdict_by bench x (run x)) in
    ap (λ (rest : List ℕ). first ++ rest) (lines-both bench run xs ys)
    ∙ sym (append_assoc first (lines-on bench run xs) (lines-on bench run ys))

told-flat : (bench : Bench) (run : Test → DeviceRun) (ls : List Label)
    → told_of bench run ls ≡ flat_map (told_of_label bench run) ls
told-flat bench run [] = refl
told-flat bench run (l ∷ ls) =
    lines-both bench run (tests_of_label bench.isa l) (tests_of bench.isa ls)
    ∙ ap (λ (rest : List ℕ). told_of_label bench run l ++ rest) (told-flat bench run ls)

pub parts-tell : PartsTell
parts-tell bench run labels part =
    told-flat bench run (parted part labels) ∙ part-flat (told_of_label bench run) part labels

-- ---- numbers
both-lengths : {X : Type 0} (xs ys : List X) → length (xs ++ ys) ≡ length xs + length ys
both-lengths [] ys = omega arith
both-lengths (x ∷ xs) ys = let later = both-lengths xs ys in omega (arith, later)

abbrev tests-of-one : Isa → Label → ℕ
tests-of-one isa l = length (tests_of_label isa l)

tests-over : (isa : Isa) (ls : List Label) → number_of_tests isa ls ≡ over (tests-of-one isa) ls
tests-over isa [] = refl
tests-over isa (l ∷ ls) =
    both-lengths (tests_of_label isa l) (tests_of isa ls)
    ∙ ap (λ (n : ℕ). tests-of-one isa l + n) (tests-over isa ls)

abbrev passed-on : Bench → (Test → DeviceRun) → ℕ → List Test → ℕ
passed-on bench run n tests = trials_passed n (trials_by bench run tests)

onto-by : (bench : Bench) (run : Test → DeviceRun) (n : ℕ) (b : Bool) (xs : List Test)
    → ((m : ℕ) → passed-on bench run m xs ≡ m + passed-on bench run 0 xs)
    → passed-on bench run (with_one n b) xs ≡ n + passed-on bench run (with_one 0 b) xs
onto-by bench run n true xs later =
    let one = later (n + 1) in let none = later (0 + 1) in omega (arith, one, none)
onto-by bench run n false xs later = later n

onto : (bench : Bench) (run : Test → DeviceRun) (n : ℕ) (xs : List Test)
    → passed-on bench run n xs ≡ n + passed-on bench run 0 xs
onto bench run n [] = omega arith
onto bench run n (x ∷ xs) = onto-by bench run n (passes (verdict_by bench x (run x))) xs
    (λ m. onto bench run m xs)

onto-both : (bench : Bench) (run : Test → DeviceRun) (n : ℕ) (xs ys : List Test)
    → passed-on bench run n (xs ++ ys) ≡ passed-on bench run (passed-on bench run n xs) ys
onto-both bench run n [] ys = refl
onto-both bench run n (x ∷ xs) ys =
    onto-both bench run (with_one n (passes (verdict_by bench x (run x)))) xs ys

abbrev passed-of-one : Bench → (Test → DeviceRun) → Label → ℕ
passed-of-one bench run l = passed-on bench run 0 (tests_of_label bench.isa l)

passed-over : (bench : Bench) (run : Test → DeviceRun) (ls : List Label)
    → number_passed bench run ls ≡ over (passed-of-one bench run) ls
passed-over bench run [] = refl
passed-over bench run (l ∷ ls) =
    onto-both bench run 0 (tests_of_label bench.isa l) (tests_of bench.isa ls)
    ∙ onto bench run (passed-of-one bench run l) (tests_of bench.isa ls)
    ∙ ap (λ (n : ℕ). passed-of-one bench run l + n) (passed-over bench run ls)

sum-parts : (number : List Label → ℕ) (f : Label → ℕ)
    → ((ls : List Label) → number ls ≡ over f ls) → (labels : List Label) (of : ℕ) → 1 ≤ of
    → in_parts of (λ at. number (parted (Some (part_of of at)) labels)) ≡ number labels
sum-parts number f sums labels of some =
    ap (in_parts of) (λ i at. sums (parted (Some (part_of of at)) labels) i)
    ∙ parts_add_up f labels of some ∙ sym (sums labels)

pub parts-count : PartsCount
parts-count bench run labels of some = (
  sum-parts (number_of_tests bench.isa) (tests-of-one bench.isa) (tests-over bench.isa) labels of
      some,
  sum-parts (number_passed bench run) (passed-of-one bench run) (passed-over bench run) labels of
      some,
)

-- ---- all pass
abbrev passes-by : Bench → (Test → DeviceRun) → Test → Bool
passes-by bench run test = passes (verdict_by bench test (run test))

most-pass : (bench : Bench) (run : Test → DeviceRun) (xs : List Test)
    → passed-on bench run 0 xs ≤ length xs
most-pass bench run [] = omega arith
most-pass bench run (x ∷ xs) = by-first (passes-by bench run x) (most-pass bench run xs)
  where
    by-first : (b : Bool) → passed-on bench run 0 xs ≤ length xs
        → passed-on bench run (with_one 0 b) xs ≤ suc (length xs)
    by-first true later = let more = onto bench run (0 + 1) xs in omega (arith, later, more)
    by-first false later = omega (arith, later)

one-less : (n m : ℕ) → (0 + 1 + n == suc m) ≡ (n == m)
one-less n m = grind (arith, nat_tests)

too-few : (n m : ℕ) → n ≤ m → (n == suc m) ≡ false
too-few n m most = grind (arith, nat_tests)

all-counted : (bench : Bench) (run : Test → DeviceRun) (xs : List Test)
    → (passed-on bench run 0 xs == length xs) ≡ list_all (passes-by bench run) xs
all-counted bench run [] = refl
all-counted bench run (x ∷ xs) = by-first (passes-by bench run x) (all-counted bench run xs)
  where
    by-first : (b : Bool)
        → (passed-on bench run 0 xs == length xs) ≡ list_all (passes-by bench run) xs
        → (passed-on bench run (with_one 0 b) xs == suc (length xs))
        ≡ (b && list_all (passes-by bench run) xs)
    by-first true later =
        ap (λ (n : ℕ). n == suc (length xs)) (onto bench run (0 + 1) xs)
        ∙ one-less (passed-on bench run 0 xs) (length xs) ∙ later
    by-first false later =
        too-few (passed-on bench run 0 xs) (length xs) (most-pass bench run xs)

all-both : {X : Type 0} (test : X → Bool) (xs ys : List X)
    → list_all test (xs ++ ys) ≡ (list_all test xs && list_all test ys)
all-both test [] ys = refl
all-both test (x ∷ xs) ys = by-first (test x) (all-both test xs ys)
  where
    by-first : (b : Bool) → list_all test (xs ++ ys) ≡ (list_all test xs && list_all test ys)
        → (b && list_all test (xs ++ ys)) ≡ ((b && list_all test xs) && list_all test ys)
    by-first true later = later
    by-first false later = refl

abbrev label-passes : Bench → (Test → DeviceRun) → Label → Bool
label-passes bench run l = list_all (passes-by bench run) (tests_of_label bench.isa l)

all-labels : (bench : Bench) (run : Test → DeviceRun) (ls : List Label)
    → list_all (passes-by bench run) (tests_of bench.isa ls) ≡ list_all (label-passes bench run) ls
all-labels bench run [] = refl
all-labels bench run (l ∷ ls) =
    all-both (passes-by bench run) (tests_of_label bench.isa l) (tests_of bench.isa ls)
    ∙ ap (λ (b : Bool). label-passes bench run l && b) (all-labels bench run ls)

is-counted : (bench : Bench) (run : Test → DeviceRun) (ls : List Label)
    → (number_passed bench run ls == number_of_tests bench.isa ls)
    ≡ list_all (label-passes bench run) ls
is-counted bench run ls =
    all-counted bench run (tests_of bench.isa ls) ∙ all-labels bench run ls

done-if : (b : Bool) → cond b Done NotPassed ≡ Done → b ≡ true
done-if true is = refl
done-if false is = absurd cc

-- the run is done where all labels' tests pass
to-all : (bench : Bench) (run : Test → DeviceRun) (ls : List Label) → IsDone bench run ls
    → list_all (label-passes bench run) ls ≡ true
to-all bench run ls done = sym (is-counted bench run ls)
    ∙ done-if (number_passed bench run ls == number_of_tests bench.isa ls) done

from-all : (bench : Bench) (run : Test → DeviceRun) (ls : List Label)
    → list_all (label-passes bench run) ls ≡ true → IsDone bench run ls
from-all bench run ls all =
    ap (λ (b : Bool). cond b Done NotPassed) (is-counted bench run ls ∙ all)

pub parts-pass : PartsPass
parts-pass bench run labels of some =
    let both = parts_are_all (label-passes bench run) labels of some in (
      (λ done at low high. from-all bench run (parted (Some (part_of of at)) labels)
          (both.0 (to-all bench run labels done) at low high)),
      (λ each. from-all bench run labels (both.1 (λ at low high.
          to-all bench run (parted (Some (part_of of at)) labels) (each at low high)))),
    )

-- ---- the tests of a database
abbrev IsChosen : Option PartValue → ℕ → List Entry → Given → Type 0
IsChosen part place entries given =
    Contains (chosen place entries) given × (is_in part given.place ≡ true)

given-cases : (b : Bool) (x : Given) (rest : List Given) (given : Given)
    → Contains (chosen_if b x rest) given → ((b ≡ true) × (x ≡ given)) ⊎ Contains rest given
given-cases true x rest given (zero, within, is) = inl (refl, is)
given-cases true x rest given (suc k, within, is) = inr (k, omega (arith, within), is)
given-cases false x rest given h = inr h

given-first : (b : Bool) (x : Given) (rest : List Given) → b ≡ true
    → Contains (chosen_if b x rest) x
given-first true x rest is = (zero, omega arith, refl)
given-first false x rest is = absurd cc

given-later : (b : Bool) (x : Given) (rest : List Given) (given : Given) → Contains rest given
    → Contains (chosen_if b x rest) given
given-later true x rest given (k, within, is) = (suc k, omega (arith, within), is)
given-later false x rest given h = h

and-left : (a b : Bool) → (a && b) ≡ true → a ≡ true
and-left true b is = refl
and-left false b is = absurd cc

and-right : (a b : Bool) → (a && b) ≡ true → b ≡ true
and-right true b is = is
and-right false b is = absurd cc

and-both : (a b : Bool) → a ≡ true → b ≡ true → (a && b) ≡ true
and-both true b here there = there
and-both false b here there = absurd cc

next-place : (place : ℕ) → suc place ≡ place + 1
next-place place = omega arith

chosen-on : (place : ℕ) (entries : List Entry)
    → chosen (suc place) entries ≡ chosen (place + 1) entries
chosen-on place entries = ap (λ (n : ℕ). chosen n entries) (next-place place)

parted-chosen : (part : Option PartValue) (place : ℕ) (entries : List Entry) (given : Given)
    → Contains (chosen place (marked_from part place entries)) given
    → IsChosen part place entries given
parted-chosen part place [] given h = absurd (none-has given h)
parted-chosen part place (e ∷ es) given h =
    let one : Given = record { place = place; name = e.name } in
    let rest = marked_from part (place + 1) es in
    elim (given-cases (e.selected && is_in part place) one (chosen (suc place) rest) given h) [
      | inl first ↦ (
        subst (λ (g : Given). Contains (chosen_if e.selected one (chosen (suc place) es)) g)
            first.1
            (given-first e.selected one (chosen (suc place) es)
            (and-left e.selected (is_in part place) first.0)),
        ap (λ (g : Given). is_in part g.place) (sym first.1)
            ∙ and-right e.selected (is_in part place) first.0,
      )
      | inr later ↦
          (let h = parted-chosen part (place + 1) es given
          (subst (λ (gs : List Given). Contains gs given) (chosen-on place rest) later) in (
            given-later e.selected one (chosen (suc place) es) given
                (subst (λ (gs : List Given). Contains gs given) (sym (chosen-on place es)) h.0),
            h.1,
          ))
    ]

chosen-parted : (part : Option PartValue) (place : ℕ) (entries : List Entry) (given : Given)
    → Contains (chosen place entries) given → is_in part given.place ≡ true
    → Contains (chosen place (marked_from part place entries)) given
chosen-parted part place [] given h inside = absurd (none-has given h)
chosen-parted part place (e ∷ es) given h inside =
    let one : Given = record { place = place; name = e.name } in
    let rest = marked_from part (place + 1) es in
    elim (given-cases e.selected one (chosen (suc place) es) given h) [
      | inl first ↦ subst
          (λ (g : Given). Contains
          (chosen_if (e.selected && is_in part place) one (chosen (suc place) rest)) g)
          first.1
          (given-first (e.selected && is_in part place) one (chosen (suc place) rest)
          (and-both e.selected (is_in part place) first.0
          (ap (λ (g : Given). is_in part g.place) first.1 ∙ inside)))
      | inr later ↦ given-later (e.selected && is_in part place) one (chosen (suc place) rest)
          given
          (subst (λ (gs : List Given). Contains gs given) (sym (chosen-on place rest))
          (chosen-parted part (place + 1) es given
          (subst (λ (gs : List Given). Contains gs given) (chosen-on place es) later) inside))
    ]

pub databases-are-parted : DatabasesAreParted
databases-are-parted entries p given = (
  parted-chosen (Some p) 0 entries given,
  (λ both. chosen-parted (Some p) 0 entries given both.0 both.1),
)
