-- What is read as an expression of one language has no names of the other.
use Rattle.std.proofs.Common.{◌≡◌, ℕ, Bool, true, Ok, Err, refl, sym, ap, ◌∙◌, List}
use Rattle.std.proofs.Common.{arith}
use Rattle.std.proofs.lemmas.Bool.{and_from}
use Rattle.rvs_text.specs.Outcomes.{◌>>=◌, ◌>>◌}
use Rattle.rvs_expr_text.specs.Refusal.{Found}
use Rattle.rvs_expr_text.specs.Tree as tree
use Rattle.rvs_expr_text.specs.Tree.{Tree}
use Rattle.rvs_expr_text.specs.Reading.{tree_of}
use Rattle.rvs_expr_text.specs.declared.lexeme.Operator.TheVariants as operator
use Rattle.rvs_expr_text.specs.declared.words.Language.{Language}
use Rattle.rvs_expr_text.specs.declared.words.Language.TheVariants.{Numbers, Registers}
use Rattle.rvs_expr.specs.Typed.{Formula, negation}
use Rattle.rvs_expr.specs.Formulas.{formula_of}
use Rattle.rvs_expr.specs.Sorts.{known, well_sorted}
use Rattle.rvs_expr.specs.Parse.{parse, counted}
use Rattle.rvs_expr.specs.Only.{only_numbers, only_registers}

-- what was found, if anything, passes the test
abbrev pub passes : {A : Type 0} → (A → Bool) → Found A → Bool
passes test (Ok x) = test x
passes test (Err e) = true

found-passes : {A : Type 0} (test : A → Bool) (found : Found A) (x : A) → passes test found ≡ true
    → found ≡ Ok x → test x ≡ true
found-passes test found x e h = ap (passes test) (sym h) ∙ e

bind-passes : {A B : Type 0} (test : B → Bool) (found : Found A) (f : A → Found B)
    → ((x : A) → passes test (f x) ≡ true) → passes test (found >>= f) ≡ true
bind-passes test = grind arith

then-passes : {A B : Type 0} (test : B → Bool) (found : Found A) (next : Found B)
    → passes test next ≡ true → passes test (found >> next) ≡ true
then-passes test = grind arith

one-passes : (test : Formula → Bool) → ((f : Formula) → test f ≡ true → test (negation f) ≡ true)
    → (a : Found Formula) → passes test a ≡ true → passes test (a >>= (λ f. Ok (negation f))) ≡ true
one-passes test h a e = grind arith

two-pass : (test : Formula → Bool) (join : Formula → Formula → Formula)
    → ((f g : Formula) → test f ≡ true → test g ≡ true → test (join f g) ≡ true)
    → (a b : Found Formula) → passes test a ≡ true → passes test b ≡ true
    → passes test (a >>= (λ f. b >>= (λ g. Ok (join f g)))) ≡ true
two-pass test join h a b x y = grind arith

formula-numbers : (t : Tree) → passes only_numbers (formula_of Numbers t) ≡ true
formula-numbers (tree.group o c a) = formula-numbers a
formula-numbers (tree.negation c a) = simp (one-passes, (formula-numbers a))
formula-numbers (tree.binary c operator.And a b) =
    simp (two-pass, and_from, (formula-numbers a), (formula-numbers b))
formula-numbers (tree.binary c operator.Or a b) =
    simp (two-pass, and_from, (formula-numbers a), (formula-numbers b))
formula-numbers (tree.binary c op a b) = simp bind-passes
formula-numbers (tree.number c v) = refl
formula-numbers (tree.name c w) = refl
formula-numbers (tree.negative c a) = refl

formula-registers : (t : Tree) → passes only_registers (formula_of Registers t) ≡ true
formula-registers (tree.group o c a) = formula-registers a
formula-registers (tree.negation c a) = simp (one-passes, (formula-registers a))
formula-registers (tree.binary c operator.And a b) =
    simp (two-pass, and_from, (formula-registers a), (formula-registers b))
formula-registers (tree.binary c operator.Or a b) =
    simp (two-pass, and_from, (formula-registers a), (formula-registers b))
formula-registers (tree.binary c op a b) = simp bind-passes
formula-registers (tree.number c v) = refl
formula-registers (tree.name c w) = refl
formula-registers (tree.negative c a) = refl

counted-passes : (test : Formula → Bool) (found : Found Formula) → passes test found ≡ true
    → passes test (found >>= counted) ≡ true
counted-passes test found e = grind arith

parse-passes : (l : Language) (test : Formula → Bool)
    → ((t : Tree) → passes test (formula_of l t) ≡ true) → (vs : List (List ℕ)) (text : List ℕ)
    → passes test (parse l vs text) ≡ true
unfolding parse
parse-passes l test h vs text =
    bind-passes test (tree_of l vs text)
    (λ t. known t >> (well_sorted l t >> (formula_of l t >>= counted)))
    (λ t. then-passes test (known t) (well_sorted l t >> (formula_of l t >>= counted))
    (then-passes test (well_sorted l t) (formula_of l t >>= counted)
    (counted-passes test (formula_of l t) (h t))))

pub numbers_alone : (vs : List (List ℕ)) (text : List ℕ) (f : Formula)
    → parse Numbers vs text ≡ Ok f → only_numbers f ≡ true
numbers_alone vs text f e = found-passes only_numbers (parse Numbers vs text) f
    (parse-passes Numbers only_numbers formula-numbers vs text) e

pub registers_alone : (vs : List (List ℕ)) (text : List ℕ) (f : Formula)
    → parse Registers vs text ≡ Ok f → only_registers f ≡ true
registers_alone vs text f e = found-passes only_registers (parse Registers vs text) f
    (parse-passes Registers only_registers formula-registers vs text) e
