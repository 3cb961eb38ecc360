-- What an expression depends on, and what its parts say.
use Rattle.std.proofs.lemmas.Bool.Decides.{nat_tests}
use Rattle.std.proofs.Common.{◌≡◌, Bool, true, not, ◌&&◌, ◌||◌, Option, Some, None}
use Rattle.std.proofs.Common.{option_map, refl, sym, ap, ◌∙◌, List, [], ◌∷◌, map, arith, rules}
use Rattle.std.proofs.lemmas.Bool.{and_from, or_left, or_right}
use Rattle.std.specs.Prelude.{if◌then◌else◌, ◌+ℤ◌, ◌-ℤ◌, ◌*ℤ◌, neg_ℤ}
use Rattle.rvs_expr_text.specs.declared.lexeme.NumName.{NumName}
use Rattle.rvs_expr_text.specs.declared.lexeme.RegName.{RegName}
use Rattle.rvs_expr.specs.Typed.{Num, literal, named, minus, sum, difference, product, remainder}
use Rattle.rvs_expr.specs.Typed.{Reg, NumChain, pair, more, RegChain, reg_pair}
use Rattle.rvs_expr.specs.Typed.{reg_more, Formula, numbers, registers, negation, conjunction}
use Rattle.rvs_expr.specs.Typed.{disjunction}
use Rattle.rvs_expr.specs.Meaning.{Table, both, value, chain, reg_value, reg_chain, truth, is_true}
use Rattle.rvs_expr.specs.Meaning.{holds, compare}
use Rattle.rvs_expr.specs.Parts.{same_name, among, num_within, chain_within, within, part, joined}
use Rattle.rvs_expr.specs.Parts.{num_uses, chain_uses, uses}
use Rattle.rvs_expr.specs.Only.{only_numbers, only_registers, holds_within}

-- ---- truth values

and-left : (x y : Bool) → (x && y) ≡ true → x ≡ true
and-left x y e = grind arith

and-right : (x y : Bool) → (x && y) ≡ true → y ≡ true
and-right x y e = grind arith

both-by : {A B C : Type 0} (f : A → B → C) (o p : Option A) (q r : Option B) → o ≡ p → q ≡ r
    → both f o q ≡ both f p r
both-by f o p q r e h = ap (λ x. both f x q) e ∙ ap (λ y. both f p y) h

same_name-self : (n : NumName) → same_name n n ≡ true
same_name-self n = grind arith

same_name-is : (m n : NumName) → same_name m n ≡ true → m ≡ n
same_name-is m n e = grind arith

-- ---- an expression of numbers depends on the numbers that it names
-- the tables agree at the names that pass this test
abbrev Agree : (NumName → Bool) → Table → Table → Type 0
Agree p t u = (n : NumName) → p n ≡ true → t.num n ≡ u.num n

value-frame : (t u : Table) (a : Num) → Agree (num_uses a) t u → value t a ≡ value u a
value-frame t u (literal z) h = refl
value-frame t u (named n) h = h n (same_name-self n)
value-frame t u (minus a) h = ap (option_map neg_ℤ) (value-frame t u a h)
value-frame t u (sum a b) h =
    both-by (λ x y. x +ℤ y) _ _ _ _
    (value-frame t u a (λ n e. h n (or_left (num_uses a n) (num_uses b n) e)))
    (value-frame t u b (λ n e. h n (or_right (num_uses a n) (num_uses b n) e)))
value-frame t u (difference a b) h =
    both-by (λ x y. x -ℤ y) _ _ _ _
    (value-frame t u a (λ n e. h n (or_left (num_uses a n) (num_uses b n) e)))
    (value-frame t u b (λ n e. h n (or_right (num_uses a n) (num_uses b n) e)))
value-frame t u (product a b) h =
    both-by (λ x y. x *ℤ y) _ _ _ _
    (value-frame t u a (λ n e. h n (or_left (num_uses a n) (num_uses b n) e)))
    (value-frame t u b (λ n e. h n (or_right (num_uses a n) (num_uses b n) e)))
value-frame t u (remainder a m) h = simp (option_map, (value-frame t u a h))

chain-frame : (t u : Table) (c : NumChain) → Agree (chain_uses c) t u → chain t c ≡ chain u c
chain-frame t u (pair a op b) h = grind (arith, both-by, value-frame, or_left, or_right)
chain-frame t u (more c op b) h =
    both-by (λ p y. (p.0 && compare op p.1 y, y)) _ _ _ _
    (chain-frame t u c (λ n e. h n (or_left (chain_uses c n) (num_uses b n) e)))
    (value-frame t u b (λ n e. h n (or_right (chain_uses c n) (num_uses b n) e)))

truth-frame : (t u : Table) (f : Formula) → only_numbers f ≡ true → Agree (uses f) t u
    → truth t f ≡ truth u f
truth-frame t u (numbers c) o h = ap (option_map (λ p. p.0)) (chain-frame t u c h)
truth-frame t u (registers c) o h = cc
truth-frame t u (negation a) o h = ap (option_map not) (truth-frame t u a o h)
truth-frame t u (conjunction a b) o h =
    both-by (λ x y. x && y) _ _ _ _
    (truth-frame t u a (and-left (only_numbers a) (only_numbers b) o)
    (λ n e. h n (or_left (uses a n) (uses b n) e)))
    (truth-frame t u b (and-right (only_numbers a) (only_numbers b) o)
    (λ n e. h n (or_right (uses a n) (uses b n) e)))
truth-frame t u (disjunction a b) o h =
    both-by (λ x y. x || y) _ _ _ _
    (truth-frame t u a (and-left (only_numbers a) (only_numbers b) o)
    (λ n e. h n (or_left (uses a n) (uses b n) e)))
    (truth-frame t u b (and-right (only_numbers a) (only_numbers b) o)
    (λ n e. h n (or_right (uses a n) (uses b n) e)))

pub frame : (f : Formula) (t u : Table) → only_numbers f ≡ true
    → ((n : NumName) → uses f n ≡ true → t.num n ≡ u.num n) → holds t f ≡ holds u f
frame f t u o h = ap is_true (truth-frame t u f o h)

-- ---- an expression of registers depends on the registers
reg-frame : (t u : Table) → ((r : RegName) → t.reg r ≡ u.reg r) → (r : Reg)
    → reg_value t r ≡ reg_value u r
reg-frame t u h r = grind arith

reg-chain-frame : (t u : Table) → ((r : RegName) → t.reg r ≡ u.reg r) → (c : RegChain)
    → reg_chain t c ≡ reg_chain u c
reg-chain-frame t u h (reg_pair a op b) = grind (arith, both-by, reg-frame)
reg-chain-frame t u h (reg_more c op b) = grind (arith, nat_tests, (reg-chain-frame t u h c))

reg-truth-frame : (t u : Table) → ((r : RegName) → t.reg r ≡ u.reg r) → (f : Formula)
    → only_registers f ≡ true → truth t f ≡ truth u f
reg-truth-frame t u h (numbers c) o = cc
reg-truth-frame t u h (registers c) o = ap (option_map (λ p. p.0)) (reg-chain-frame t u h c)
reg-truth-frame t u h (negation a) o = ap (option_map not) (reg-truth-frame t u h a o)
reg-truth-frame t u h (conjunction a b) o =
    both-by (λ x y. x && y) _ _ _ _
    (reg-truth-frame t u h a (and-left (only_registers a) (only_registers b) o))
    (reg-truth-frame t u h b (and-right (only_registers a) (only_registers b) o))
reg-truth-frame t u h (disjunction a b) o =
    both-by (λ x y. x || y) _ _ _ _
    (reg-truth-frame t u h a (and-left (only_registers a) (only_registers b) o))
    (reg-truth-frame t u h b (and-right (only_registers a) (only_registers b) o))

pub register_frame : (f : Formula) (t u : Table) → only_registers f ≡ true
    → ((r : RegName) → t.reg r ≡ u.reg r) → holds t f ≡ holds u f
register_frame f t u o h = ap is_true (reg-truth-frame t u h f o)

-- ---- conjuncts over some names depend on these alone
-- equal heads and equal rests of equal lists
head-is : {A : Type 0} (x y : A) (xs ys : List A) → x ∷ xs ≡ y ∷ ys → x ≡ y
head-is x y xs ys e = cc

rest-is : {A : Type 0} (x y : A) (xs ys : List A) → x ∷ xs ≡ y ∷ ys → xs ≡ ys
rest-is x y xs ys e = cc

same-num : (t u : Table) (m n : NumName) → same_name m n ≡ true → t.num m ≡ u.num m
    → t.num n ≡ u.num n
same-num t u m n s e = grind (arith, same_name-is)

or-cases : {G : Type 0} (x y : Bool) → (x || y) ≡ true → (x ≡ true → G) → (y ≡ true → G) → G
or-cases h y e = grind arith

agree-among : (t u : Table) (ns : List NumName) → map t.num ns ≡ map u.num ns → Agree (among ns) t u
agree-among t u [] e n h = cc
agree-among t u (m ∷ ms) e n h =
    or-cases (same_name m n) (among ms n) h
    (λ s. same-num t u m n s (head-is (t.num m) (u.num m) (map t.num ms) (map u.num ms) e))
    (λ s. agree-among t u ms (rest-is (t.num m) (u.num m) (map t.num ms) (map u.num ms) e) n s)

among-is : (ns : List NumName) (m n : NumName) → among ns m ≡ true → same_name m n ≡ true
    → among ns n ≡ true
among-is ns m n h e = ap (among ns) (sym (same_name-is m n e)) ∙ h

num-among : (ns : List NumName) (a : Num) → num_within ns a ≡ true → (n : NumName)
    → num_uses a n ≡ true → among ns n ≡ true
num-among ns (literal z) w n h = cc
num-among ns (named m) w n h = among-is ns m n w h
num-among ns (minus a) w n h = num-among ns a w n h
num-among ns (sum a b) w n h =
    or-cases (num_uses a n) (num_uses b n) h
    (num-among ns a (and-left (num_within ns a) (num_within ns b) w) n)
    (num-among ns b (and-right (num_within ns a) (num_within ns b) w) n)
num-among ns (difference a b) w n h =
    or-cases (num_uses a n) (num_uses b n) h
    (num-among ns a (and-left (num_within ns a) (num_within ns b) w) n)
    (num-among ns b (and-right (num_within ns a) (num_within ns b) w) n)
num-among ns (product a b) w n h =
    or-cases (num_uses a n) (num_uses b n) h
    (num-among ns a (and-left (num_within ns a) (num_within ns b) w) n)
    (num-among ns b (and-right (num_within ns a) (num_within ns b) w) n)
num-among ns (remainder a m) w n h = num-among ns a w n h

chain-among : (ns : List NumName) (c : NumChain) → chain_within ns c ≡ true → (n : NumName)
    → chain_uses c n ≡ true → among ns n ≡ true
chain-among ns (pair a op b) w n h = grind (arith, or-cases, num-among, and-left, and-right)
chain-among ns (more c op b) w n h =
    or-cases (chain_uses c n) (num_uses b n) h
    (chain-among ns c (and-left (chain_within ns c) (num_within ns b) w) n)
    (num-among ns b (and-right (chain_within ns c) (num_within ns b) w) n)

-- what a formula names is among the names that it keeps within
uses-among : (ns : List NumName) (f : Formula) → within ns f ≡ true → (n : NumName)
    → uses f n ≡ true → among ns n ≡ true
uses-among ns (numbers c) w n h = chain-among ns c w n h
uses-among ns (registers c) w n h = cc
uses-among ns (negation a) w n h = uses-among ns a w n h
uses-among ns (conjunction a b) w n h =
    or-cases (uses a n) (uses b n) h
    (uses-among ns a (and-left (within ns a) (within ns b) w) n)
    (uses-among ns b (and-right (within ns a) (within ns b) w) n)
uses-among ns (disjunction a b) w n h =
    or-cases (uses a n) (uses b n) h
    (uses-among ns a (and-left (within ns a) (within ns b) w) n)
    (uses-among ns b (and-right (within ns a) (within ns b) w) n)

whole-frame : (ns : List NumName) (f : Formula) (t u : Table) → only_numbers f ≡ true
    → Agree (among ns) t u → (b : Bool) → within ns f ≡ b
    → (if b then holds t f else true) ≡ (if b then holds u f else true)
whole-frame ns f t u o h b w = search (rules, frame, uses-among)

within-frame : (ns : List NumName) (f : Formula) (t u : Table) → only_numbers f ≡ true
    → Agree (among ns) t u → holds_within ns t f ≡ holds_within ns u f
within-frame ns (numbers c) t u o h = search (rules, whole-frame)
within-frame ns (registers c) t u o h = cc
within-frame ns (negation a) t u o h = search (rules, whole-frame)
within-frame ns (conjunction a b) t u o h =
    ap (λ x. x && holds_within ns t b)
    (within-frame ns a t u (and-left (only_numbers a) (only_numbers b) o) h)
    ∙ ap (λ y. holds_within ns u a && y)
    (within-frame ns b t u (and-right (only_numbers a) (only_numbers b) o) h)
within-frame ns (disjunction a b) t u o h = search (rules, whole-frame)

pub frame_within : (ns : List NumName) (f : Formula) (t u : Table) → only_numbers f ≡ true
    → map t.num ns ≡ map u.num ns → holds_within ns t f ≡ holds_within ns u f
frame_within ns f t u o e = within-frame ns f t u o (agree-among t u ns e)

-- ---- what is true makes its conjuncts true
both-is : (o p : Option Bool) → is_true (both (λ x y. x && y) o p) ≡ (is_true o && is_true p)
both-is o p = grind arith

pub holds-both : (t : Table) (a b : Formula) → holds t (conjunction a b) ≡ (holds t a && holds t b)
holds-both t a b = both-is (truth t a) (truth t b)

whole-true : (t : Table) (f : Formula) (b : Bool) → holds t f ≡ true
    → (if b then holds t f else true) ≡ true
whole-true t f b h = grind arith

pub whole_within : (ns : List NumName) (f : Formula) (t : Table) → holds t f ≡ true
    → holds_within ns t f ≡ true
whole_within ns (numbers c) t h = whole-true t (numbers c) (within ns (numbers c)) h
whole_within ns (registers c) t h = whole-true t (registers c) (within ns (registers c)) h
whole_within ns (negation a) t h = whole-true t (negation a) (within ns (negation a)) h
whole_within ns (conjunction a b) t h =
    and_from (holds_within ns t a) (holds_within ns t b)
    (whole_within ns a t (and-left (holds t a) (holds t b) (sym (holds-both t a b) ∙ h)))
    (whole_within ns b t (and-right (holds t a) (holds t b) (sym (holds-both t a b) ∙ h)))
whole_within ns (disjunction a b) t h = simp whole-true

-- ---- a part says what its conjuncts say
abbrev part-holds-of : Table → Option Formula → Bool
part-holds-of t None = true
part-holds-of t (Some p) = holds t p

joined-holds : (t : Table) (o p : Option Formula)
    → part-holds-of t (joined o p) ≡ (part-holds-of t o && part-holds-of t p)
joined-holds t o p = grind arith

whole-holds : (t : Table) (f : Formula) (b : Bool)
    → part-holds-of t (if b then Some f else None) ≡ (if b then holds t f else true)
whole-holds t f b = grind arith

part-is : (ns : List NumName) (f : Formula) (t : Table)
    → part-holds-of t (part ns f) ≡ holds_within ns t f
part-is ns (numbers c) t = whole-holds t (numbers c) (within ns (numbers c))
part-is ns (registers c) t = whole-holds t (registers c) (within ns (registers c))
part-is ns (negation a) t = whole-holds t (negation a) (within ns (negation a))
part-is ns (conjunction a b) t = simp (joined-holds, (part-is ns a t), (part-is ns b t))
part-is ns (disjunction a b) t = whole-holds t (disjunction a b) (within ns (disjunction a b))

pub part_holds : (ns : List NumName) (f p : Formula) (t : Table) → part ns f ≡ Some p
    → holds t p ≡ holds_within ns t f
part_holds ns f p t e = ap (part-holds-of t) (sym e) ∙ part-is ns f t

pub no_part : (ns : List NumName) (f : Formula) (t : Table) → part ns f ≡ None
    → holds_within ns t f ≡ true
no_part ns f t e = sym (part-is ns f t) ∙ ap (part-holds-of t) e
