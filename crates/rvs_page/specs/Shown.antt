-- What a page shows: the states of tests, its verdict, and its numbers.
use Rattle.std.specs.Prelude.{ℕ, ◌+◌, ◌==◌, Bool, true, false, not, min}
use Rattle.std.specs.Prelude.{if◌then◌else◌, List, [], ◌∷◌, length, count_by, is_some, is_none}
use Rattle.std.specs.List.{list_any}
use Rattle.rvs_page.specs.declared.shown.State.{State}
use Rattle.rvs_page.specs.declared.shown.State.TheVariants.{NoTest, NotRun, OtherTest, Pass}
use Rattle.rvs_page.specs.declared.shown.Verdict.{Verdict}
use Rattle.rvs_page.specs.declared.shown.Verdict.TheVariants as verdict
use Rattle.rvs_page.specs.declared.shown.Point.{Point}
use Rattle.rvs_page.specs.declared.shown.Label.{Label}
use Rattle.rvs_page.specs.declared.totals.Totals.{Totals}

-- ---- states
abbrev pub is_test : State → Bool
is_test NoTest = false
is_test state = true

abbrev pub passes : State → Bool
passes (Pass words) = true
passes state = false

-- no device was judged by this test
abbrev pub is_open : State → Bool
is_open NotRun = true
is_open OtherTest = true
is_open state = false

abbrev pub fails : State → Bool
fails NoTest = false
fails NotRun = false
fails OtherTest = false
fails (Pass words) = false
fails state = true

-- ---- the verdict on all tests: one fails, else one isn't judged, else all pass
abbrev pub label_fails : Label → Bool
label_fails l = fails l.state

abbrev pub label_is_open : Label → Bool
label_is_open l = is_open l.state

unfoldable pub verdict_of : List Label → Verdict
verdict_of labels =
    if list_any label_fails labels then verdict.Fail
    else (if list_any label_is_open labels then verdict.Incomplete else verdict.Pass)

-- ---- numbers of a label
abbrev pub is_tested : Point → Bool
is_tested p = is_some p.case

abbrev pub is_unsolved : Point → Bool
is_unsolved p = is_none p.case

abbrev pub is_hit : Point → Bool
is_hit p = not (p.hits == 0)

abbrev pub is_missed : Point → Bool
is_missed p = p.hits == 0

unfoldable pub tested : Label → ℕ
tested l = count_by is_tested l.points

unfoldable pub unsolved : Label → ℕ
unsolved l = count_by is_unsolved l.points

unfoldable pub hit : Label → ℕ
hit l = count_by is_hit l.points

unfoldable pub missed : Label → ℕ
missed l = count_by is_missed l.points

-- ---- numbers of all labels; one stands at 2^64 - 1 where it would be greater
abbrev pub plus : ℕ → ℕ → ℕ
plus a b = min 18_446_744_073_709_551_615 (a + b)

abbrev pub one_if : Bool → ℕ
one_if test = if test then 1 else 0

abbrev pub none : Totals
none = record {
  tests = 0;
  passed = 0;
  failed = 0;
  open_tests = 0;
  tested = 0;
  unsolved = 0;
  skipped = 0;
  hit = 0;
}

abbrev pub with_label : Totals → Label → Totals
with_label t l = record {
  tests = plus t.tests (one_if (is_test l.state));
  passed = plus t.passed (one_if (passes l.state));
  failed = plus t.failed (one_if (fails l.state));
  open_tests = plus t.open_tests (one_if (is_open l.state));
  tested = plus t.tested (tested l);
  unsolved = plus t.unsolved (unsolved l);
  skipped = plus t.skipped (length l.skipped);
  hit = plus t.hit (hit l);
}

-- with those of more labels
abbrev pub with_labels : Totals → List Label → Totals
with_labels t [] = t
with_labels t (l ∷ ls) = with_labels (with_label t l) ls

unfoldable pub totals_of : List Label → Totals
totals_of labels = with_labels none labels
