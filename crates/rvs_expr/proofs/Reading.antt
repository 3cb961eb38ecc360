-- The values that are read for the names of a formula tell whether it is true.
use Rattle.std.proofs.lemmas.Bool.Decides.{nat_tests}
use Rattle.std.proofs.Common.{◌≡◌, ◌≤◌, ◌^◌, ℕ, Bool, true, false, not, ◌&&◌, ◌||◌, Option, Some}
use Rattle.std.proofs.Common.{None, option_map, refl, sym, ap, ◌∙◌, List, [], ◌∷◌, All, arith}
use Rattle.std.proofs.lemmas.Bool.{or_left, or_right}
use Rattle.std.specs.Prelude.{if◌then◌else◌, slice_index_or, ℤ, pos, ◌+ℤ◌, ◌-ℤ◌, ◌*ℤ◌, neg_ℤ}
use Rattle.std.specs.Prelude.{unsigned_abs}
use Rattle.std.specs.Int.{int_rem_euclid}
use Rattle.rvs_expr_text.specs.declared.lexeme.NumName.{NumName}
use Rattle.rvs_expr_text.specs.declared.lexeme.NumName.TheVariants.{Rs1Val, Rs2Val, ImmVal, EaAlign}
use Rattle.rvs_expr_text.specs.declared.lexeme.RegName.{RegName}
use Rattle.rvs_expr_text.specs.declared.lexeme.RegName.TheVariants.{Rd, Rs1, Rs2, Var0, Var1, Var2}
use Rattle.rvs_expr.specs.declared.names.Names.{Names}
use Rattle.rvs_expr.specs.Typed.{Num, literal, named, minus, sum, difference, product, remainder}
use Rattle.rvs_expr.specs.Typed.{Reg, NumChain, pair, more, RegChain, reg_pair}
use Rattle.rvs_expr.specs.Typed.{reg_more, Formula, numbers, registers, negation, conjunction}
use Rattle.rvs_expr.specs.Typed.{disjunction}
use Rattle.rvs_expr.specs.Meaning.{Table, both, value, chain, reg_value, reg_chain, truth, is_true}
use Rattle.rvs_expr.specs.Meaning.{holds, compare, equation}
use Rattle.rvs_expr.specs.Parts.{same_name, num_uses, chain_uses, uses}
use Rattle.rvs_expr.specs.Total.{num_place, reg_place, number, last, linked, reg_number, last_reg}
use Rattle.rvs_expr.specs.Total.{reg_linked, true_over}
use Rattle.rvs_expr.specs.Named.{is_reg, chain_uses_reg, uses_reg, any_reg, names_of}
use Rattle.rvs_expr.specs.Named.{asked, sequence, nums_of, asked_regs, regs_of, read, holds_over}

-- ---- truth values and options

both-is : {A B C : Type 0} (f : A → B → C) (o : Option A) (p : Option B) (x : A) (y : B)
    → o ≡ Some x → p ≡ Some y → both f o p ≡ Some (f x y)
both-is f o p x y g h = ap (λ q. both f q p) g ∙ ap (both f (Some x)) h

both-none : {A B C : Type 0} (f : A → B → C) (o : Option A) (p : Option B) (x y : Bool)
    → (x || y) ≡ true → (x ≡ true → o ≡ None) → (y ≡ true → p ≡ None) → both f o p ≡ None
both-none f o p = grind arith

-- ---- where the values are those of the table
record Gives (t : Table) (zs : List ℤ) (p : NumName → Bool) : Type 0 where
  pub num : (n : NumName) → p n ≡ true → t.num n ≡ Some (slice_index_or zs (num_place n) (pos 0))

record GivesRegs (t : Table) (ns : List ℕ) (p : RegName → Bool) : Type 0 where
  pub reg : (r : RegName) → p r ≡ true → t.reg r ≡ Some (slice_index_or ns (reg_place r) 0)

gives-left : (t : Table) (zs : List ℤ) (p q : NumName → Bool) → Gives t zs (λ n. p n || q n)
    → Gives t zs p
gives-left t zs p q g = record { num = λ n e. g.num n (or_left (p n) (q n) e) }

gives-right : (t : Table) (zs : List ℤ) (p q : NumName → Bool) → Gives t zs (λ n. p n || q n)
    → Gives t zs q
gives-right t zs p q g = record { num = λ n e. g.num n (or_right (p n) (q n) e) }

regs-left : (t : Table) (ns : List ℕ) (p q : RegName → Bool) → GivesRegs t ns (λ r. p r || q r)
    → GivesRegs t ns p
regs-left t ns p q g = record { reg = λ r e. g.reg r (or_left (p r) (q r) e) }

regs-right : (t : Table) (ns : List ℕ) (p q : RegName → Bool) → GivesRegs t ns (λ r. p r || q r)
    → GivesRegs t ns q
regs-right t ns p q g = record { reg = λ r e. g.reg r (or_right (p r) (q r) e) }

same-self : (n : NumName) → same_name n n ≡ true
same-self n = grind arith

value-is : (t : Table) (zs : List ℤ) (a : Num) → Gives t zs (num_uses a)
    → value t a ≡ Some (number zs a)
value-is t zs (literal z) g = refl
value-is t zs (named n) g = g.num n (same-self n)
value-is t zs (minus a) g = simp (option_map, (value-is t zs a (record { num = λ n e. g.num n e })))
value-is t zs (sum a b) g = both-is (λ x y. x +ℤ y) _ _ _ _ (value-is t zs a
    (gives-left t zs (num_uses a) (num_uses b) (record { num = λ n e. g.num n e }))) (value-is t zs
    b (gives-right t zs (num_uses a) (num_uses b) (record { num = λ n e. g.num n e })))
value-is t zs (difference a b) g = both-is (λ x y. x -ℤ y) _ _ _ _ (value-is t zs a
    (gives-left t zs (num_uses a) (num_uses b) (record { num = λ n e. g.num n e }))) (value-is t zs
    b (gives-right t zs (num_uses a) (num_uses b) (record { num = λ n e. g.num n e })))
value-is t zs (product a b) g = both-is (λ x y. x *ℤ y) _ _ _ _ (value-is t zs a
    (gives-left t zs (num_uses a) (num_uses b) (record { num = λ n e. g.num n e }))) (value-is t zs
    b (gives-right t zs (num_uses a) (num_uses b) (record { num = λ n e. g.num n e })))
value-is t zs (remainder a n) g = ap (option_map (λ x. int_rem_euclid x (pos n)))
    (value-is t zs a (record { num = λ n e. g.num n e }))

chain-is : (t : Table) (zs : List ℤ) (c : NumChain) → Gives t zs (chain_uses c)
    → chain t c ≡ Some (linked zs c, last zs c)
chain-is t zs (pair a op b) g = grind (arith, both-is, value-is, gives-left, gives-right)
chain-is t zs (more c op b) g = both-is (λ p y. (p.0 && compare op p.1 y, y)) _ _ _ _ (chain-is t zs
    c (gives-left t zs (chain_uses c) (num_uses b) (record { num = λ n e. g.num n e }))) (value-is t
    zs b (gives-right t zs (chain_uses c) (num_uses b) (record { num = λ n e. g.num n e })))

reg-is : (t : Table) (ns : List ℕ) (a : Reg) → GivesRegs t ns (is_reg a)
    → reg_value t a ≡ Some (reg_number ns a)
reg-is t ns a g = grind arith

reg-chain-is : (t : Table) (ns : List ℕ) (c : RegChain) → GivesRegs t ns (chain_uses_reg c)
    → reg_chain t c ≡ Some (reg_linked ns c, last_reg ns c)
reg-chain-is t ns (reg_pair a op b) g = grind (arith, both-is, reg-is, regs-left, regs-right)
reg-chain-is t ns (reg_more c op b) g = both-is (λ p y. (p.0 && equation op p.1 y, y)) _ _ _ _
    (reg-chain-is t ns c
    (regs-left t ns (chain_uses_reg c) (is_reg b) (record { reg = λ r e. g.reg r e }))) (reg-is t ns
    b (regs-right t ns (chain_uses_reg c) (is_reg b) (record { reg = λ r e. g.reg r e })))

truth-is : (t : Table) (zs : List ℤ) (ns : List ℕ) (f : Formula) → Gives t zs (uses f)
    → GivesRegs t ns (uses_reg f) → truth t f ≡ Some (true_over zs ns f)
truth-is t zs ns (numbers c) g h = grind (arith, option_map, chain-is)
truth-is t zs ns (registers c) g h = grind (arith, option_map, reg-chain-is)
truth-is t zs ns (negation a) g h = ap (option_map not)
    (truth-is t zs ns a (record { num = λ n e. g.num n e }) (record { reg = λ r e. h.reg r e }))
truth-is t zs ns (conjunction a b) g h =
    both-is (λ x y. x && y) _ _ _ _
    (truth-is t zs ns a (gives-left t zs (uses a) (uses b) (record { num = λ n e. g.num n e }))
    (regs-left t ns (uses_reg a) (uses_reg b) (record { reg = λ r e. h.reg r e })))
    (truth-is t zs ns b (gives-right t zs (uses a) (uses b) (record { num = λ n e. g.num n e }))
    (regs-right t ns (uses_reg a) (uses_reg b) (record { reg = λ r e. h.reg r e })))
truth-is t zs ns (disjunction a b) g h =
    both-is (λ x y. x || y) _ _ _ _
    (truth-is t zs ns a (gives-left t zs (uses a) (uses b) (record { num = λ n e. g.num n e }))
    (regs-left t ns (uses_reg a) (uses_reg b) (record { reg = λ r e. h.reg r e })))
    (truth-is t zs ns b (gives-right t zs (uses a) (uses b) (record { num = λ n e. g.num n e }))
    (regs-right t ns (uses_reg a) (uses_reg b) (record { reg = λ r e. h.reg r e })))

-- ---- where a name isn't there
same-is : (m n : NumName) → same_name m n ≡ true → m ≡ n
same-is m n e = grind arith

value-none : (t : Table) (n : NumName) → t.num n ≡ None → (a : Num) → num_uses a n ≡ true
    → value t a ≡ None
value-none t n h (literal z) u = cc
value-none t n h (named m) u = ap (λ k. t.num k) (same-is m n u) ∙ h
value-none t n h (minus a) u = ap (option_map neg_ℤ) (value-none t n h a u)
value-none t n h (sum a b) u = grind (arith, both-none, (value-none t n h a), (value-none t n h b))
value-none t n h (difference a b) u = both-none (λ x y. x -ℤ y) _ _ (num_uses a n) (num_uses b n) u
    (value-none t n h a) (value-none t n h b)
value-none t n h (product a b) u = both-none (λ x y. x *ℤ y) _ _ (num_uses a n) (num_uses b n) u
    (value-none t n h a) (value-none t n h b)
value-none t n h (remainder a m) u = simp (option_map, (value-none t n h a u))

chain-none : (t : Table) (n : NumName) → t.num n ≡ None → (c : NumChain) → chain_uses c n ≡ true
    → chain t c ≡ None
chain-none t n h (pair a op b) u = grind (arith, both-none, value-none)
chain-none t n h (more c op b) u = grind (arith, both-none, value-none, (chain-none t n h c))

truth-none : (t : Table) (n : NumName) → t.num n ≡ None → (f : Formula) → uses f n ≡ true
    → truth t f ≡ None
truth-none t n h (numbers c) u = ap (option_map (λ p. p.0)) (chain-none t n h c u)
truth-none t n h (registers c) u = cc
truth-none t n h (negation a) u = ap (option_map not) (truth-none t n h a u)
truth-none t n h (conjunction a b) u =
    both-none (λ x y. x && y) _ _ (uses a n) (uses b n) u (truth-none t n h a) (truth-none t n h b)
truth-none t n h (disjunction a b) u =
    both-none (λ x y. x || y) _ _ (uses a n) (uses b n) u (truth-none t n h a) (truth-none t n h b)

reg-none : (t : Table) (r : RegName) → t.reg r ≡ None → (a : Reg) → is_reg a r ≡ true
    → reg_value t a ≡ None
reg-none t r h a u = grind arith

reg-chain-none : (t : Table) (r : RegName) → t.reg r ≡ None → (c : RegChain)
    → chain_uses_reg c r ≡ true → reg_chain t c ≡ None
reg-chain-none t r h (reg_pair a op b) u = grind (arith, both-none, reg-none)
reg-chain-none t r h (reg_more c op b) u = grind (arith, nat_tests, (reg-chain-none t r h c))

truth-reg-none : (t : Table) (r : RegName) → t.reg r ≡ None → (f : Formula) → uses_reg f r ≡ true
    → truth t f ≡ None
truth-reg-none t r h (numbers c) u = cc
truth-reg-none t r h (registers c) u = ap (option_map (λ p. p.0)) (reg-chain-none t r h c u)
truth-reg-none t r h (negation a) u = ap (option_map not) (truth-reg-none t r h a u)
truth-reg-none t r h (conjunction a b) u = both-none (λ x y. x && y) _ _ (uses_reg a r)
    (uses_reg b r) u (truth-reg-none t r h a) (truth-reg-none t r h b)
truth-reg-none t r h (disjunction a b) u = both-none (λ x y. x || y) _ _ (uses_reg a r)
    (uses_reg b r) u (truth-reg-none t r h a) (truth-reg-none t r h b)

-- ---- all that is asked for
asked-some : {A : Type 0} (u : Bool) (d : A) (o : Option A) (x : A) → asked u d o ≡ Some x
    → u ≡ true → o ≡ Some x
asked-some h d = grind arith

asked-none : {A : Type 0} (u : Bool) (d : A) (o : Option A) → asked u d o ≡ None
    → (u ≡ true) × (o ≡ None)
asked-none h = grind arith

some-is : {A : Type 0} (x y : A) → Some x ≡ Some y → x ≡ y
some-is x y e = cc

some-none : {A : Type 0} (x : A) → Some x ≡ None → ⊥
some-none x e = cc

record Four (o p q r : Option ℤ) (zs : List ℤ) : Type 0 where
  pub at0 : o ≡ Some (slice_index_or zs 0 (pos 0))
  pub at1 : p ≡ Some (slice_index_or zs 1 (pos 0))
  pub at2 : q ≡ Some (slice_index_or zs 2 (pos 0))
  pub at3 : r ≡ Some (slice_index_or zs 3 (pos 0))

four : (o p q r : Option ℤ) (zs : List ℤ) → sequence (o ∷ p ∷ q ∷ r ∷ []) ≡ Some zs
    → Four o p q r zs
four o p q r zs e = grind arith

one-of-four : (G : Type 0) (o p q r : Option ℤ) → (o ≡ None → G) → (p ≡ None → G) → (q ≡ None → G)
    → (r ≡ None → G) → sequence (o ∷ p ∷ q ∷ r ∷ []) ≡ None → G
one-of-four G o p q r f g h k e = grind arith

record Six (o p q r s u : Option ℕ) (ns : List ℕ) : Type 0 where
  pub at0 : o ≡ Some (slice_index_or ns 0 0)
  pub at1 : p ≡ Some (slice_index_or ns 1 0)
  pub at2 : q ≡ Some (slice_index_or ns 2 0)
  pub at3 : r ≡ Some (slice_index_or ns 3 0)
  pub at4 : s ≡ Some (slice_index_or ns 4 0)
  pub at5 : u ≡ Some (slice_index_or ns 5 0)

six : (o p q r s u : Option ℕ) (ns : List ℕ) → sequence (o ∷ p ∷ q ∷ r ∷ s ∷ u ∷ []) ≡ Some ns
    → Six o p q r s u ns
six o p q r s u ns e = grind arith

one-of-six : (G : Type 0) (o p q r s u : Option ℕ) → (o ≡ None → G) → (p ≡ None → G)
    → (q ≡ None → G) → (r ≡ None → G) → (s ≡ None → G) → (u ≡ None → G)
    → sequence (o ∷ p ∷ q ∷ r ∷ s ∷ u ∷ []) ≡ None → G
one-of-six G o p q r s u f0 f1 f2 f3 f4 f5 e = grind arith

-- ---- the names of a formula
each-num : (P : NumName → Type 0) → P Rs1Val → P Rs2Val → P ImmVal → P EaAlign → (n : NumName) → P n
each-num P a b c d n = grind arith

each-reg : (P : RegName → Type 0) → P Rd → P Rs1 → P Rs2 → P Var0 → P Var1 → P Var2 → (r : RegName)
    → P r
each-reg P a b c d x y r = grind arith

nums-give : (t : Table) (f : Formula) (zs : List ℤ) → nums_of (names_of f) t ≡ Some zs
    → Gives t zs (uses f)
unfolding nums_of names_of
nums-give t f zs e =
    let q = four (asked (uses f Rs1Val) (pos 0) (t.num Rs1Val))
    (asked (uses f Rs2Val) (pos 0) (t.num Rs2Val))
    (asked (uses f ImmVal) (pos 0) (t.num ImmVal))
    (asked (uses f EaAlign) (pos 0) (t.num EaAlign)) zs e in
    record {
      num =
          each-num (λ n. uses f n ≡ true → t.num n ≡ Some (slice_index_or zs (num_place n) (pos 0)))
          (asked-some (uses f Rs1Val) (pos 0) (t.num Rs1Val) _ q.at0)
          (asked-some (uses f Rs2Val) (pos 0) (t.num Rs2Val) _ q.at1)
          (asked-some (uses f ImmVal) (pos 0) (t.num ImmVal) _ q.at2)
          (asked-some (uses f EaAlign) (pos 0) (t.num EaAlign) _ q.at3);
    }

nums-none : (t : Table) (f : Formula) → nums_of (names_of f) t ≡ None → truth t f ≡ None
unfolding nums_of names_of
nums-none t f e = one-of-four (truth t f ≡ None) _ _ _ _ (missing t f Rs1Val) (missing t f Rs2Val)
    (missing t f ImmVal) (missing t f EaAlign) e
  where
    missing : (t : Table) (f : Formula) (n : NumName) → asked (uses f n) (pos 0) (t.num n) ≡ None
        → truth t f ≡ None
    missing t f n e = let p = asked-none (uses f n) (pos 0) (t.num n) e in truth-none t n p.1 f p.0

asked-regs-give : (t : Table) (f : Formula) (ns : List ℕ) → asked_regs (names_of f) t ≡ Some ns
    → GivesRegs t ns (uses_reg f)
unfolding asked_regs names_of
asked-regs-give t f ns e =
    let q = six (asked (uses_reg f Rd) 0 (t.reg Rd)) (asked (uses_reg f Rs1) 0 (t.reg Rs1))
    (asked (uses_reg f Rs2) 0 (t.reg Rs2)) (asked (uses_reg f Var0) 0 (t.reg Var0))
    (asked (uses_reg f Var1) 0 (t.reg Var1)) (asked (uses_reg f Var2) 0 (t.reg Var2)) ns e in
    record {
      reg = each-reg (λ r. uses_reg f r ≡ true → t.reg r ≡ Some (slice_index_or ns (reg_place r) 0))
          (asked-some (uses_reg f Rd) 0 (t.reg Rd) _ q.at0)
          (asked-some (uses_reg f Rs1) 0 (t.reg Rs1) _ q.at1)
          (asked-some (uses_reg f Rs2) 0 (t.reg Rs2) _ q.at2)
          (asked-some (uses_reg f Var0) 0 (t.reg Var0) _ q.at3)
          (asked-some (uses_reg f Var1) 0 (t.reg Var1) _ q.at4)
          (asked-some (uses_reg f Var2) 0 (t.reg Var2) _ q.at5);
    }

asked-regs-none : (t : Table) (f : Formula) → asked_regs (names_of f) t ≡ None → truth t f ≡ None
unfolding asked_regs names_of
asked-regs-none t f e = one-of-six (truth t f ≡ None) _ _ _ _ _ _ (missing t f Rd) (missing t f Rs1)
    (missing t f Rs2) (missing t f Var0) (missing t f Var1) (missing t f Var2) e
  where
    missing : (t : Table) (f : Formula) (r : RegName) → asked (uses_reg f r) 0 (t.reg r) ≡ None
        → truth t f ≡ None
    missing t f r e = let p = asked-none (uses_reg f r) 0 (t.reg r) e in
        truth-reg-none t r p.1 f p.0

none-any : (a b c d x y : Bool) → (a || (b || (c || (d || (x || y))))) ≡ false
    → (a ≡ false) × (b ≡ false) × (c ≡ false) × (d ≡ false) × (x ≡ false) × (y ≡ false)
none-any a b c d x y e = grind arith

false-true : false ≡ true → ⊥
false-true e = cc

regs-give : (t : Table) (f : Formula) (ns : List ℕ) (any : Bool) → any_reg f ≡ any
    → (if any then asked_regs (names_of f) t else Some (0 ∷ 0 ∷ 0 ∷ 0 ∷ 0 ∷ 0 ∷ [])) ≡ Some ns
    → GivesRegs t ns (uses_reg f)
regs-give t f ns true a e = asked-regs-give t f ns e
regs-give t f ns false a e = grind (arith, none-any, each-reg, false-true)

regs-none : (t : Table) (f : Formula) (any : Bool)
    → (if any then asked_regs (names_of f) t else Some (0 ∷ 0 ∷ 0 ∷ 0 ∷ 0 ∷ 0 ∷ [])) ≡ None
    → truth t f ≡ None
regs-none t f true e = asked-regs-none t f e
regs-none t f false e = absurd (some-none _ e)

any-named : (f : Formula) → any_reg f ≡ (names_of f).registers
unfolding names_of
any-named f = refl

read-by : (t : Table) (f : Formula) (o : Option (List ℤ)) (p : Option (List ℕ))
    → nums_of (names_of f) t ≡ o → regs_of (names_of f) t ≡ p → truth t f
    ≡ option_map (λ (v : List ℤ × List ℕ). true_over v.0 v.1 f) (both (λ zs ns. (zs, ns)) o p)
read-by t f None p h k = nums-none t f h
read-by t f (Some zs) None h k = regs-none t f (names_of f).registers k
read-by t f (Some zs) (Some ns) h k = truth-is t zs ns f (nums-give t f zs h)
    (regs-give t f ns (names_of f).registers (any-named f) k)

over-is : (o : Option (List ℤ × List ℕ)) (f : Formula)
    → is_true (option_map (λ (v : List ℤ × List ℕ). true_over v.0 v.1 f) o) ≡ holds_over o f
over-is o f = grind arith

pub holds_read : (t : Table) (f : Formula) (names : Names) → names ≡ names_of f
    → holds t f ≡ holds_over (read names t) f
holds_read t f names e = grind (arith, read-by, over-is)

-- by what was read
pub holds_by : (t : Table) (f : Formula) (names : Names) (o : Option (List ℤ × List ℕ))
    → names ≡ names_of f → o ≡ read names t → holds_over o f ≡ holds t f
holds_by t f names o e k = ap (λ p. holds_over p f) k ∙ sym (holds_read t f names e)

-- ---- sizes
pub all_four : (a b c d : ℤ) → unsigned_abs a ≤ 2 ^ 32 → unsigned_abs b ≤ 2 ^ 32
    → unsigned_abs c ≤ 2 ^ 32 → unsigned_abs d ≤ 2 ^ 32
    → All (λ z. unsigned_abs z ≤ 2 ^ 32) (a ∷ b ∷ c ∷ d ∷ [])
all_four a b c d h i j k = grind arith
