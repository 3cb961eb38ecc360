-- The verdict of a page.
use Rattle.std.proofs.Common.{◌≡◌, ◌∙◌, ◌<◌, ◌≤◌, ◌+◌, ℕ, Bool, true, false, cond, List, [], ◌∷◌}
use Rattle.std.proofs.Common.{All, refl, sym, ap, arith, drop, get_or, length}
use Rattle.std.proofs.lemmas.List.{drop_more, drop_all}
use Rattle.std.proofs.lemmas.Bool.{or_from}
use Rattle.std.proofs.lemmas.List.Elements.{All-nil, All-cons, All-head, All-tail}
use Rattle.std.specs.Prelude.{◌||◌}
use Rattle.std.specs.List.{list_any}
use Rattle.rvs_page.specs.Shown.{fails, is_open, label_fails, label_is_open, verdict_of}
use Rattle.rvs_page.specs.Laws.{is_settled, PassSaysThatAllPass}
use Rattle.rvs_page.specs.declared.shown.State.{State}
use Rattle.rvs_page.specs.declared.shown.Verdict.{Verdict}
use Rattle.rvs_page.specs.declared.shown.Verdict.TheVariants as verdict
use Rattle.rvs_page.specs.declared.shown.Label.{Label}

-- neither a failure nor open
abbrev IsGood : State → Type 0
IsGood s = (fails s ≡ false) × (is_open s ≡ false)

good : (s : State) → is_settled s ≡ true → IsGood s
good s e = grind arith

settled : (s : State) → fails s ≡ false → is_open s ≡ false → is_settled s ≡ true
settled s a b = grind arith

-- the parts of a disjunction that doesn't hold
or-first : (a b : Bool) → (a || b) ≡ false → a ≡ false
or-first a b e = grind arith

or-second : (a b : Bool) → (a || b) ≡ false → b ≡ false
or-second a b e = grind arith

abbrev IsSettled : Label → Type 0
IsSettled l = is_settled l.state ≡ true

all-settled : (labels : List Label) → list_any label_fails labels ≡ false
    → list_any label_is_open labels ≡ false → All IsSettled labels
all-settled [] a b = All-nil IsSettled
all-settled (l ∷ ls) a b =
    All-cons IsSettled l ls
    (settled l.state (or-first (fails l.state) (list_any label_fails ls) a)
    (or-first (is_open l.state) (list_any label_is_open ls) b))
    (all-settled ls (or-second (fails l.state) (list_any label_fails ls) a)
    (or-second (is_open l.state) (list_any label_is_open ls) b))

none-fails : (labels : List Label) → All IsSettled labels → list_any label_fails labels ≡ false
none-fails [] all = refl
none-fails (l ∷ ls) all =
    or_from (fails l.state) (list_any label_fails ls)
    (good l.state (All-head IsSettled l ls all)).0
    (none-fails ls (All-tail IsSettled l ls all))

none-open : (labels : List Label) → All IsSettled labels
    → list_any label_is_open labels ≡ false
none-open [] all = refl
none-open (l ∷ ls) all =
    or_from (is_open l.state) (list_any label_is_open ls)
    (good l.state (All-head IsSettled l ls all)).1
    (none-open ls (All-tail IsSettled l ls all))

abbrev by-tests : Bool → Bool → Verdict
by-tests a b = cond a verdict.Fail (cond b verdict.Incomplete verdict.Pass)

neither : (a b : Bool) → by-tests a b ≡ verdict.Pass → (a ≡ false) × (b ≡ false)
neither a b e = grind arith

passes : (a b : Bool) → a ≡ false → b ≡ false → by-tests a b ≡ verdict.Pass
passes a b e f = grind arith

pub pass_says_that_all_pass : PassSaysThatAllPass
unfolding verdict_of
pass_says_that_all_pass labels = (
  λ e. all-settled labels
      (neither (list_any label_fails labels) (list_any label_is_open labels) e).0
      (neither (list_any label_fails labels) (list_any label_is_open labels) e).1,
  λ all. passes (list_any label_fails labels) (list_any label_is_open labels)
      (none-fails labels all) (none-open labels all),
)

fail-by : (a b : Bool) → by-tests a b ≡ verdict.Fail → a ≡ true
fail-by a b e = grind arith

pub some_fails : (labels : List Label) → verdict_of labels ≡ verdict.Fail
    → list_any label_fails labels ≡ true
unfolding verdict_of
some_fails labels e = fail-by (list_any label_fails labels) (list_any label_is_open labels) e

none-by : (a b : Bool) → (by-tests a b ≡ verdict.Fail → ⊥) → a ≡ false
none-by true b other = absurd (other refl)
none-by false b other = refl

pub none_fails : (labels : List Label) → (verdict_of labels ≡ verdict.Fail → ⊥)
    → list_any label_fails labels ≡ false
unfolding verdict_of
none_fails labels other =
    none-by (list_any label_fails labels) (list_any label_is_open labels) other

-- the verdict with what was found of the labels before these
abbrev pub judged : Verdict → List Label → Verdict
judged v labels = cond (list_any label_fails labels) verdict.Fail
    (cond (list_any label_is_open labels) verdict.Incomplete v)

one-judged : (v : Verdict) (f o g p : Bool) → f ≡ false
    → cond (f || g) verdict.Fail (cond (o || p) verdict.Incomplete v)
    ≡ cond g verdict.Fail (cond p verdict.Incomplete (cond o verdict.Incomplete v))
one-judged v f o g p e = grind arith

pub judged-more : (v : Verdict) (labels : List Label) {i : ℕ} {x : Label} (d : Label)
    → i < length labels → x ≡ get_or labels i d → fails x.state ≡ false
    → judged (cond (is_open x.state) verdict.Incomplete v) (drop (i + 1) labels)
    ≡ judged v (drop i labels)
judged-more v labels {i = i} {x = x} d below is passes =
    let rest = drop (i + 1) labels in
    sym (ap (judged v) (drop_more labels i d below ∙ ap (λ y. y ∷ rest) (sym is))
    ∙ one-judged v (fails x.state) (is_open x.state) (list_any label_fails rest)
    (list_any label_is_open rest) passes)

pub judged-fails : (v : Verdict) (labels : List Label) {i : ℕ} {x : Label} (d : Label)
    → i < length labels → x ≡ get_or labels i d → fails x.state ≡ true
    → judged v (drop i labels) ≡ verdict.Fail
judged-fails v labels {i = i} {x = x} d below is fail =
    let rest = drop (i + 1) labels in
    ap (judged v) (drop_more labels i d below ∙ ap (λ y. y ∷ rest) (sym is))
    ∙ ap (λ b. cond (b || list_any label_fails rest) verdict.Fail
    (cond (is_open x.state || list_any label_is_open rest) verdict.Incomplete v)) fail

pub judged-end : (v : Verdict) (labels : List Label) {i : ℕ} → length labels ≤ i
    → judged v (drop i labels) ≡ v
judged-end v labels {i = i} end = ap (judged v) (drop_all i labels end)
