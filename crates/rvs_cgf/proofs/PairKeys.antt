-- The text that two names have values is read as that.
use Rattle.std.proofs.Common.{◌≡◌, ℕ, zero, suc, ◌+◌, ◌-◌, ◌^◌, ◌<◌, ◌≤◌, Bool, true, false, ◌&&◌}
use Rattle.std.proofs.Common.{List, [], ◌∷◌, ◌++◌, length, take, Some, Ok, refl, sym, ap, ◌∙◌}
use Rattle.std.proofs.Common.{arith}
use Rattle.std.specs.Prelude.{ℤ, pos, negsuc, unsigned_abs, nat_le, ◌==◌, if◌then◌else◌, codes}
use Rattle.std.specs.Prelude.{slice_index}
use Rattle.std.specs.Fmt.{decimal, signed_decimal}
use Rattle.std.proofs.lemmas.Bool.Decides.{nat_tests}
use Rattle.rvs_text.specs.Bytes.{is_digit, begins_name}
use Rattle.rvs_text.specs.Outcomes.{◌>>=◌, ◌>>◌}
use Rattle.rvs_expr_text.specs.Refusal.{Found}
use Rattle.rvs_expr_text.specs.Tree as tree
use Rattle.rvs_expr_text.specs.Tree.{Tree}
use Rattle.rvs_expr_text.specs.Tokens.{tokens, tokens_of, token, front, narrow, numeral}
use Rattle.rvs_expr_text.specs.Tokens.{number_at, has_base, piece_at, is_in, word_at, mark_at}
use Rattle.rvs_expr_text.specs.Tokens.{based}
use Rattle.rvs_expr_text.specs.Reading.{run, start, tree_of}
use Rattle.rvs_expr_text.specs.declared.lexeme.Word.TheVariants as word
use Rattle.rvs_expr_text.specs.declared.lexeme.NumName.{NumName}
use Rattle.rvs_expr_text.specs.declared.lexeme.NumName.TheVariants.{Rs1Val, Rs2Val, ImmVal, EaAlign}
use Rattle.rvs_expr_text.specs.declared.lexeme.Operator.TheVariants as operator
use Rattle.rvs_expr_text.specs.declared.lexeme.Lexeme.TheVariants as lexeme
use Rattle.rvs_expr_text.specs.declared.lexeme.Token.{Token}
use Rattle.rvs_expr_text.specs.declared.lexing.Class.{Class}
use Rattle.rvs_expr_text.specs.declared.lexing.Class.TheVariants.{Decimal, Hexadecimal, Binary}
use Rattle.rvs_expr_text.specs.declared.words.Language.TheVariants.{Numbers}
use Rattle.rvs_expr.specs.Typed.{literal, named, minus, Formula, numbers, pair, conjunction}
use Rattle.rvs_expr.specs.declared.formula.Comparison.TheVariants.{Equal}
use Rattle.rvs_expr.specs.Sorts.{known, sorts, well_sorted, operated, wanted, is_truth}
use Rattle.rvs_expr.specs.declared.sorts.Sort.TheVariants as sort
use Rattle.rvs_expr.specs.declared.sorts.Sorts.{Sorts}
use Rattle.rvs_expr.specs.Numbers.{written}
use Rattle.rvs_expr.specs.Formulas.{formula_of, both}
use Rattle.rvs_expr.specs.Parse.{parse, counted}
use Rattle.rvs_expr.specs.Equation.{name_of, key_of, number_of, equation_of}
use Rattle.rvs_expr.proofs.Decimals.{AllDigit, decimal-is, tokens-decimal}
use Rattle.rvs_cgf.specs.Groups.{point, pair_key, pair_point, nums}
use Rattle.rvs_points.specs.declared.group.Kind.TheVariants as kind

if-true : {A : Type 0} (b : Bool) (x y : A) → b ≡ true → (if b then x else y) ≡ x
if-true true x y e = refl
if-true false x y e = cc

if-false : {A : Type 0} (b : Bool) (x y : A) → b ≡ false → (if b then x else y) ≡ y
if-false true x y e = cc
if-false false x y e = refl

-- ---- the token of digits that a space follows
front-all : (ds rest : List ℕ) → AllDigit ds → front Decimal (ds ++ 32 ∷ rest) ≡ length ds
front-all [] rest h = refl
front-all (d ∷ ds) rest h = if-true (is_digit d) (suc (front Decimal (ds ++ 32 ∷ rest))) 0 h.0
    ∙ ap (λ n. suc n) (front-all ds rest h.1)

take-front : (ds rest : List ℕ) → take (length ds) (ds ++ 32 ∷ rest) ≡ ds
take-front [] rest = refl
take-front (d ∷ ds) rest = ap (λ ys. d ∷ ys) (take-front ds rest)

no-mark : (c mark : ℕ) → is_digit c ≡ true → 57 < mark → (c == mark) ≡ false
no-mark c mark h k = grind (arith, nat_tests)

space-mark : (mark : ℕ) → 57 < mark → (32 == mark) ≡ false
space-mark mark h = grind (arith, nat_tests)

both-false : (a b : Bool) → ((a && false) && b) ≡ false
both-false true b = refl
both-false false b = refl

base-false : (mark : ℕ) (k : Class) (c d : ℕ) (es : List ℕ) → (d == mark) ≡ false
    → has_base mark k (c ∷ d ∷ es) ≡ false
base-false mark k c d [] h = refl
base-false mark k c d (e ∷ es) h =
    ap (λ b. (c == 48 && b) && is_in k e) h ∙ both-false (c == 48) (is_in k e)

no-base : (mark : ℕ) (k : Class) (c : ℕ) (ds rest : List ℕ) → AllDigit ds → 57 < mark
    → has_base mark k (c ∷ (ds ++ 32 ∷ rest)) ≡ false
no-base mark k c [] rest h m = base-false mark k c 32 rest (space-mark mark m)
no-base mark k c (d ∷ ds) rest h m =
    base-false mark k c d (ds ++ 32 ∷ rest) (no-mark d mark h.0 m)

number-is : (c : ℕ) (cs rest : List ℕ) → AllDigit (c ∷ cs)
    → number_at (c ∷ (cs ++ 32 ∷ rest)) ≡ (numeral 10 (c ∷ cs), length (c ∷ cs))
number-is c cs rest h =
    let text = c ∷ (cs ++ 32 ∷ rest) in
    if-false (has_base 120 Hexadecimal text) (based Hexadecimal 16 text) (if has_base 98 Binary text
    then based Binary 2 text else (numeral 10 (take (front Decimal text) text), front Decimal text))
    (no-base 120 Hexadecimal c cs rest h.1 (omega arith))
    ∙ if-false (has_base 98 Binary text) (based Binary 2 text)
    (numeral 10 (take (front Decimal text) text), front Decimal text)
    (no-base 98 Binary c cs rest h.1 (omega arith))
    ∙ ap (λ n. (numeral 10 (take n text), n)) (front-all (c ∷ cs) rest h)
    ∙ ap (λ xs. (numeral 10 xs, length (c ∷ cs))) (take-front (c ∷ cs) rest)

digit-piece : (c : ℕ) (cs rest : List ℕ) → AllDigit (c ∷ cs) → piece_at Numbers [] c
    (cs ++ 32 ∷ rest) ≡ (numeral 10 (c ∷ cs), length (c ∷ cs))
digit-piece c cs rest h =
    let more = cs ++ 32 ∷ rest in
    if-true (is_digit c) (number_at (c ∷ more))
    (if begins_name c then word_at Numbers [] (c ∷ more) else mark_at c (slice_index more 0)) h.0
    ∙ number-is c cs rest h

not-space : (c : ℕ) → is_digit c ≡ true → (c == 32) ≡ false
not-space c h = grind (arith, nat_tests)

one-token : (column c : ℕ) (cs : List ℕ) → (c == 32) ≡ false
    → tokens Numbers [] column zero (c ∷ cs) ≡ token column (piece_at Numbers [] c cs).0
    ∷ tokens Numbers [] (suc column) ((piece_at Numbers [] c cs).1 - 1) cs
one-token column c cs e = rw (e, tokens) refl

passed : (column : ℕ) (xs ys : List ℕ) → tokens Numbers [] column (length xs) (xs ++ 32 ∷ ys)
    ≡ tokens Numbers [] (column + length xs) zero (32 ∷ ys)
passed column [] ys = let e : column ≡ column + 0 = omega arith in
    ap (λ n. tokens Numbers [] n zero (32 ∷ ys)) e
passed column (x ∷ xs) ys =
    let e : suc column + length xs ≡ column + length (x ∷ xs) = omega arith in
    passed (suc column) xs ys ∙ ap (λ n. tokens Numbers [] n zero (32 ∷ ys)) e

digits-token : (column : ℕ) (ds rest : List ℕ) → AllDigit ds → 0 < length ds
    → tokens Numbers [] column zero (ds ++ 32 ∷ rest)
    ≡ token column (numeral 10 ds) ∷ tokens Numbers [] (column + length ds) zero (32 ∷ rest)
digits-token column [] rest h some = absurd (omega arith)
digits-token column (c ∷ cs) rest h some =
    let more = cs ++ 32 ∷ rest in
    let fewer : length (c ∷ cs) - 1 ≡ length cs = omega arith in
    let behind : suc column + length cs ≡ column + length (c ∷ cs) = omega arith in
    one-token column c more (not-space c h.0)
    ∙ ap (λ p. token column p.0 ∷ tokens Numbers [] (suc column) (p.1 - 1) more)
    (digit-piece c cs rest h)
    ∙ ap (λ n. token column (numeral 10 (c ∷ cs)) ∷ tokens Numbers [] (suc column) n more) fewer
    ∙ ap (λ ts. token column (numeral 10 (c ∷ cs)) ∷ ts) (passed (suc column) cs rest
    ∙ ap (λ n. tokens Numbers [] n zero (32 ∷ rest)) behind)

narrow-is : (n : ℕ) → n ≤ 2 ^ 32 → narrow n ≡ Some n
narrow-is n h = grind (arith, nat_tests)

-- ---- the tokens of a number
abbrev number_tokens : ℕ → ℕ → ℤ → List Token → List Token
number_tokens c d (pos n) ts = token c (lexeme.Number (Some n)) ∷ ts
number_tokens c d (negsuc n) ts =
    token c (lexeme.Operator operator.Minus) ∷ token d (lexeme.Number (Some (suc n))) ∷ ts

-- where the digits of a negative number stand, and where it goes on behind the number
record Spelt (column : ℕ) (z : ℤ) (text after : List ℕ) : Type 0 where
  digits : ℕ
  next : ℕ
  same : tokens Numbers [] column zero text
      ≡ number_tokens column digits z (tokens Numbers [] next zero after)

decimal-token : (column n : ℕ) (rest : List ℕ) → n ≤ 2 ^ 32
    → tokens Numbers [] column zero (decimal n ++ 32 ∷ rest)
    ≡ token column (lexeme.Number (Some n))
    ∷ tokens Numbers [] (column + length (decimal n)) zero (32 ∷ rest)
decimal-token column n rest h =
    let p = decimal-is n (omega arith) in
    digits-token column (decimal n) rest p.digits p.some
    ∙ ap (λ m. token column (lexeme.Number (narrow m))
    ∷ tokens Numbers [] (column + length (decimal n)) zero (32 ∷ rest)) p.value
    ∙ ap (λ o. token column (lexeme.Number o)
    ∷ tokens Numbers [] (column + length (decimal n)) zero (32 ∷ rest)) (narrow-is n h)

before-space : (column : ℕ) (z : ℤ) (rest : List ℕ) → unsigned_abs z ≤ 2 ^ 32
    → Spelt column z (signed_decimal z ++ 32 ∷ rest) (32 ∷ rest)
before-space column (pos n) rest h = record {
  digits = 0;
  next = column + length (decimal n);
  same = decimal-token column n rest h;
}
before-space column (negsuc n) rest h = record {
  digits = suc column;
  next = suc column + length (decimal (suc n));
  same = ap (λ ts. token column (lexeme.Operator operator.Minus) ∷ ts)
      (decimal-token (suc column) (suc n) rest h);
}

at-end : (column : ℕ) (z : ℤ) → unsigned_abs z ≤ 2 ^ 32 → Spelt column z (signed_decimal z) []
at-end column (pos n) h = let d = tokens-decimal column n h in
    record { digits = 0; next = d.0; same = d.1 }
at-end column (negsuc n) h = let d = tokens-decimal (suc column) (suc n) h in
    record {
      digits = suc column;
      next = d.0;
      same = ap (λ ts. token column (lexeme.Operator operator.Minus) ∷ ts) d.1;
    }

-- ---- the tokens of the whole text
abbrev later : ℕ → ℕ → ℕ
later zero c = c
later (suc n) c = suc (later n c)

abbrev equals_at : NumName → ℕ → ℕ
equals_at EaAlign c = later 9 c
equals_at _ c = later 8 c

abbrev value_at : NumName → ℕ → ℕ
value_at v c = later 3 (equals_at v c)

name-tokens : (c : ℕ) (v : NumName) (text : List ℕ)
    → tokens Numbers [] c zero (name_of v ++ (codes " == " ++ text))
    ≡ token c (lexeme.Name (word.Number v))
    ∷ token (equals_at v c) (lexeme.Operator operator.Equal)
    ∷ tokens Numbers [] (value_at v c) zero text
name-tokens c Rs1Val text = refl
name-tokens c Rs2Val text = refl
name-tokens c ImmVal text = refl
name-tokens c EaAlign text = refl

and-tokens : (c : ℕ) (text : List ℕ) → tokens Numbers [] c zero (codes " and " ++ text)
    ≡ token (suc c) (lexeme.Operator operator.And) ∷ tokens Numbers [] (later 5 c) zero text
and-tokens c text = refl

-- ---- its tree
abbrev number_tree : ℕ → ℕ → ℤ → Tree
number_tree c d (pos n) = tree.number c (Some n)
number_tree c d (negsuc n) = tree.negative c (tree.number d (Some (suc n)))

abbrev part : ℕ → ℕ → ℕ → ℕ → NumName → ℤ → Tree
part c p q d v z = tree.binary p operator.Equal (tree.name c (word.Number v)) (number_tree q d z)

whole : (v : NumName) (x : ℤ) (w : NumName) (y : ℤ) (p q d a c r s e o : ℕ)
    → run start (token 1 (lexeme.Name (word.Number v)) ∷ token p (lexeme.Operator operator.Equal)
    ∷ number_tokens q d x (token a (lexeme.Operator operator.And)
    ∷ token c (lexeme.Name (word.Number w)) ∷ token r (lexeme.Operator operator.Equal)
    ∷ number_tokens s e y (token o lexeme.End ∷ [])))
    ≡ Ok (tree.binary a operator.And (part 1 p q d v x) (part c r s e w y))
whole v (pos n) w (pos m) p q d a c r s e o = refl
whole v (pos n) w (negsuc m) p q d a c r s e o = refl
whole v (negsuc n) w (pos m) p q d a c r s e o = refl
whole v (negsuc n) w (negsuc m) p q d a c r s e o = refl

-- ---- its formula
known-part : (c p q d : ℕ) (v : NumName) (z : ℤ) → known (part c p q d v z) ≡ Ok tt
known-part c p q d v (pos n) = refl
known-part c p q d v (negsuc n) = refl

abbrev truth_sorts : Sorts
truth_sorts = record { own = sort.Truth; last = sort.Number }

sorts-part : (c p q d : ℕ) (v : NumName) (z : ℤ)
    → sorts Numbers (part c p q d v z) ≡ Ok truth_sorts
sorts-part c p q d v (pos n) = refl
sorts-part c p q d v (negsuc n) = refl

written-is : (c n : ℕ) → n ≤ 2 ^ 32 → written c (Some n) ≡ Ok (literal (pos n))
written-is c n h = rw (le n h, written) refl
  where
    le : (n : ℕ) → n ≤ 2 ^ 32 → nat_le n (2 ^ 100) ≡ true
    le n h = grind (arith, nat_tests)

formula-part : (c p q d : ℕ) (v : NumName) (z : ℤ) → unsigned_abs z ≤ 2 ^ 32
    → formula_of Numbers (part c p q d v z) ≡ Ok (equation_of v (number_of z))
formula-part c p q d v (pos n) h =
    ap (λ r. (r >>= (λ y. Ok (pair (named v) Equal y))) >>= (λ x. Ok (numbers x)))
    (written-is q n h)
formula-part c p q d v (negsuc n) h =
    ap (λ r. ((r >>= (λ x. Ok (minus x))) >>= (λ y. Ok (pair (named v) Equal y)))
    >>= (λ x. Ok (numbers x))) (written-is d (suc n) h)

counted-pair : (v : NumName) (x : ℤ) (w : NumName) (y : ℤ)
    → counted (conjunction (equation_of v (number_of x)) (equation_of w (number_of y)))
    ≡ Ok (conjunction (equation_of v (number_of x)) (equation_of w (number_of y)))
counted-pair v (pos n) w (pos m) = refl
counted-pair v (pos n) w (negsuc m) = refl
counted-pair v (negsuc n) w (pos m) = refl
counted-pair v (negsuc n) w (negsuc m) = refl

known-both : (a : ℕ) (t u : Tree) → known t ≡ Ok tt → known u ≡ Ok tt
    → known (tree.binary a operator.And t u) ≡ Ok tt
known-both a t u h k = ap (λ (r : Found (Unit {0})). r >> known u) h ∙ k

abbrev joint : ℕ → Found Sorts → Found Sorts → Found Sorts
joint a r q = r >>= (λ x. q >>= (λ y. operated Numbers a operator.And x y))

abbrev topped : Found Sorts → Found (Unit {0})
topped r = r >>= (λ s. wanted (is_truth s.own) 1 s >> Ok tt)

sorted-both : (a : ℕ) (t u : Tree) → sorts Numbers t ≡ Ok truth_sorts
    → sorts Numbers u ≡ Ok truth_sorts
    → well_sorted Numbers (tree.binary a operator.And t u) ≡ Ok tt
sorted-both a t u h k = ap (λ r. topped (joint a r (sorts Numbers u))) h
    ∙ ap (λ q. topped (joint a (Ok truth_sorts) q)) k

abbrev conjoined : Found Formula → Found Formula → Found Formula
conjoined r q = r >>= (λ f. q >>= (λ g. both f g))

formula-both : (a : ℕ) (t u : Tree) (f g : Formula) → formula_of Numbers t ≡ Ok f
    → formula_of Numbers u ≡ Ok g
    → formula_of Numbers (tree.binary a operator.And t u) ≡ Ok (conjunction f g)
formula-both a t u f g h k = ap (λ r. conjoined r (formula_of Numbers u)) h
    ∙ ap (λ q. conjoined (Ok f) q) k

abbrev rest_of : Tree → Found Formula
rest_of t = known t >> (well_sorted Numbers t >> (formula_of Numbers t >>= counted))

rest-is : (t : Tree) (f : Formula) → known t ≡ Ok tt → well_sorted Numbers t ≡ Ok tt
    → formula_of Numbers t ≡ Ok f → counted f ≡ Ok f → rest_of t ≡ Ok f
rest-is t f k s h c =
    ap (λ (r : Found (Unit {0})).
    r >> (well_sorted Numbers t >> (formula_of Numbers t >>= counted))) k
    ∙ ap (λ (r : Found (Unit {0})). r >> (formula_of Numbers t >>= counted)) s
    ∙ ap (λ (r : Found Formula). r >>= counted) h ∙ c

parse-by : (text : List ℕ) (t : Tree) (f : Formula) → tree_of Numbers [] text ≡ Ok t
    → rest_of t ≡ Ok f → parse Numbers [] text ≡ Ok f
unfolding parse
parse-by text t f e k = ap (λ (r : Found Tree). r >>= rest_of) e ∙ k

pub pair-read : (v : NumName) (x : ℤ) (w : NumName) (y : ℤ) → unsigned_abs x ≤ 2 ^ 32
    → unsigned_abs y ≤ 2 ^ 32 → parse Numbers [] (pair_key v x w y)
    ≡ Ok (conjunction (equation_of v (number_of x)) (equation_of w (number_of y)))
pair-read v x w y h k =
    let first = before-space (value_at v 1) x (97 ∷ 110 ∷ 100 ∷ 32 ∷ key_of w y) h in
    let other = later 5 first.next in
    let second = at-end (value_at w other) y k in
    let left = part 1 (equals_at v 1) (value_at v 1) first.digits v x in
    let right = part other (equals_at w other) (value_at w other) second.digits w y in
    let top = tree.binary (suc first.next) operator.And left right in
    let f = equation_of v (number_of x) in
    let g = equation_of w (number_of y) in
    let read : tokens_of Numbers [] (pair_key v x w y)
    ≡ token 1 (lexeme.Name (word.Number v))
    ∷ token (equals_at v 1) (lexeme.Operator operator.Equal)
    ∷ number_tokens (value_at v 1) first.digits x
    (token (suc first.next) (lexeme.Operator operator.And)
    ∷ token other (lexeme.Name (word.Number w))
    ∷ token (equals_at w other) (lexeme.Operator operator.Equal)
    ∷ number_tokens (value_at w other) second.digits y (token second.next lexeme.End ∷ [])) =
    name-tokens 1 v (signed_decimal x ++ (codes " and " ++ key_of w y))
    ∙ ap (λ ts. token 1 (lexeme.Name (word.Number v))
    ∷ token (equals_at v 1) (lexeme.Operator operator.Equal) ∷ ts) (first.same
    ∙ ap (number_tokens (value_at v 1) first.digits x) (and-tokens first.next (key_of w y)
    ∙ ap (λ ts. token (suc first.next) (lexeme.Operator operator.And) ∷ ts)
    (name-tokens other w (signed_decimal y)
    ∙ ap (λ ts. token other (lexeme.Name (word.Number w))
    ∷ token (equals_at w other) (lexeme.Operator operator.Equal) ∷ ts) second.same))) in
    parse-by (pair_key v x w y) top (conjunction f g)
    (ap (run start) read ∙ whole v x w y (equals_at v 1) (value_at v 1) first.digits
    (suc first.next) other (equals_at w other) (value_at w other) second.digits second.next)
    (rest-is top (conjunction f g)
    (known-both (suc first.next) left right
    (known-part 1 (equals_at v 1) (value_at v 1) first.digits v x)
    (known-part other (equals_at w other) (value_at w other) second.digits w y))
    (sorted-both (suc first.next) left right
    (sorts-part 1 (equals_at v 1) (value_at v 1) first.digits v x)
    (sorts-part other (equals_at w other) (value_at w other) second.digits w y))
    (formula-both (suc first.next) left right f g
    (formula-part 1 (equals_at v 1) (value_at v 1) first.digits v x h)
    (formula-part other (equals_at w other) (value_at w other) second.digits w y k))
    (counted-pair v x w y))

-- ---- the point of what is read
abbrev found : Formula → Found Formula
found f = Ok f

found-is : (f g : Formula) → found f ≡ Ok g → f ≡ g
found-is f g e = cc

pub pair-is : (text : List ℕ) (f : Formula) (v : NumName) (x : ℤ) (w : NumName) (y : ℤ)
    → unsigned_abs x ≤ 2 ^ 32 → unsigned_abs y ≤ 2 ^ 32 → text ≡ pair_key v x w y
    → parse Numbers [] text ≡ Ok f → point kind.ValComb text (nums f) ≡ pair_point v x w y
pair-is text f v x w y h k e p =
    let g = conjunction (equation_of v (number_of x)) (equation_of w (number_of y)) in
    let same : f ≡ g = found-is f g
    (sym p ∙ (ap (λ t. parse Numbers [] t) e ∙ pair-read v x w y h k)) in
    ap (λ t. point kind.ValComb t (nums f)) e
    ∙ ap (λ m. point kind.ValComb (pair_key v x w y) (nums m)) same
