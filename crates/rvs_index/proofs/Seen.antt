-- An instruction that hits a point looks at the point's list, and at no list twice.
use Rattle.std.proofs.Common.{◌≡◌, ℕ, ℤ, ◌+◌, ◌<◌, ◌≤◌, ◌⊎◌, inl, inr, Bool, true}
use Rattle.std.proofs.Common.{false, cond, List, [], ◌∷◌, Option, Some, None, refl, sym, ◌∙◌}
use Rattle.std.proofs.Common.{arith, rules}
use Rattle.std.specs.Prelude.{◌==◌, option_map}
use Rattle.rvs_points.specs.Points.{Point, Meaning, op_is, reg_is, regs, nums, window}
use Rattle.rvs_points.specs.Hits.{holds, is_meant, is_register}
use Rattle.rvs_points.specs.declared.group.Kind.{Kind}
use Rattle.rvs_points.specs.declared.group.Kind.TheVariants as kind
use Rattle.rvs_expr.proofs.SmallOnes.{equated_means}
use Rattle.rvs_expr.specs.Equated.{equated, is_value}
use Rattle.rvs_expr.specs.Meaning as expr
use Rattle.rvs_expr.specs.Meaning.{Table}
use Rattle.rvs_expr.specs.Typed.{Formula, numbers, registers, negation, conjunction}
use Rattle.rvs_expr.specs.Typed.{disjunction}
use Rattle.rvs_expr_text.specs.declared.lexeme.NumName.{NumName}
use Rattle.rvs_expr_text.specs.declared.lexeme.RegName.TheVariants as register
use Rattle.rvs_insn.specs.declared.op.Op.{Op}
use Rattle.rvs_index.specs.Buckets.{residue, register_bucket, name_bucket, number_bucket}
use Rattle.rvs_index.specs.Buckets.{equation_bucket, meaning_bucket, bucket_of, visited}
use Rattle.rvs_index.specs.Buckets.{asked_by, but_zero, conjunct, first_there}

pub residue_low : (z : ℤ) → residue z < 67
residue_low z = grind arith

-- ---- one list of eight
abbrev pub bit : Bool → ℕ
bit b = cond b 1 0

abbrev pub sees : ℕ → Option ℕ → Bool
sees b None = false
sees b (Some c) = b == c

-- the buckets that a place may have
abbrev Within : ℕ → ℕ → Option ℕ → Type 0
Within low high None = Unit {0}
Within low high (Some b) = (low ≤ b) × (b < high)

apart : (b low high : ℕ) (o : Option ℕ) → Within low high o → (b < low) ⊎ (high ≤ b)
    → bit (sees b o) ≡ 0
apart b low high o w h = grind arith

here : (b : ℕ) (o : Option ℕ) → o ≡ Some b → bit (sees b o) ≡ 1
here b o e = grind arith

rd_within : (o : Option ℕ) → Within 1 33 (option_map (register_bucket kind.Rd) o)
rd_within o = grind arith

rs1_within : (o : Option ℕ) → Within 33 65 (option_map (register_bucket kind.Rs1) o)
rs1_within o = grind arith

rs2_within : (o : Option ℕ) → Within 65 97 (option_map (register_bucket kind.Rs2) o)
rs2_within o = grind arith

num_within : (name : NumName) (o : Option ℤ)
    → Within (name_bucket name) (name_bucket name + 67) (option_map (number_bucket name) o)
num_within name o = grind arith

-- how often a bucket is looked at by an instruction of these facts
abbrev pub seen : ℕ → List (Option ℕ) → ℕ
seen b [] = 0
seen b (o ∷ os) = bit (sees b o) + seen b os

zero_once : (t : Table) → seen 0 (visited t) ≡ 1
zero_once t = grind (arith, here, apart, rd_within, inl, rs1_within, rs2_within, num_within)

-- a bucket of rd, of rs1, of rs2 or of a name is the one of its place alone
rd_once : (t : Table) (n : ℕ) → t.reg register.Rd ≡ Some n
    → seen (register_bucket kind.Rd n) (visited t) ≡ 1
rd_once t n e = grind (arith, apart, inr, here, rs1_within, inl, rs2_within, num_within)

rs1_once : (t : Table) (n : ℕ) → t.reg register.Rs1 ≡ Some n
    → seen (register_bucket kind.Rs1 n) (visited t) ≡ 1
rs1_once t n e = grind (arith, apart, inr, rd_within, here, rs2_within, inl, num_within)

rs2_once : (t : Table) (n : ℕ) → t.reg register.Rs2 ≡ Some n
    → seen (register_bucket kind.Rs2 n) (visited t) ≡ 1
rs2_once t n e = grind (arith, apart, inr, rd_within, rs1_within, here, num_within, inl)

-- the four before the names
no_register : (t : Table) (b : ℕ) → 97 ≤ b
    → bit (sees b (Some 0))
    + (bit (sees b (option_map (register_bucket kind.Rd) (t.reg register.Rd)))
    + (bit (sees b (option_map (register_bucket kind.Rs1) (t.reg register.Rs1)))
    + bit (sees b (option_map (register_bucket kind.Rs2) (t.reg register.Rs2))))) ≡ 0
no_register t b h = grind (arith, apart, inr, rd_within, rs1_within, rs2_within)

number_once : (name : NumName) (t : Table) (z : ℤ) → t.num name ≡ Some z
    → seen (number_bucket name z) (visited t) ≡ 1
number_once name t z e = search (rules, residue_low, no_register, here, apart, num_within, inl)

-- ---- a point that is hit
register_there : (n : ℕ) (o : Option ℕ) → is_register n o ≡ true → o ≡ Some n
register_there n o h = grind arith

value_there : (z : ℤ) (o : Option ℤ) → is_value z o ≡ true → o ≡ Some z
value_there z o h = grind arith

-- a formula that is so has this value for the name
abbrev Means : Formula → Option (NumName × ℤ) → Type 0
Means f o = (n : NumName) (z : ℤ) → o ≡ Some (n, z) → (t : Table) → expr.holds t f ≡ true
    → is_value z (t.num n) ≡ true

equated_so : (f : Formula) → Means f (equated f)
equated_so f n z e t h = sym (equated_means f n z e t) ∙ h

not_zero : (f : Formula) (o : Option (NumName × ℤ)) → Means f o → Means f (but_zero o)
not_zero f o m = grind arith

nothing_means : (f : Formula) → Means f None
nothing_means f n z e t h = cc

both_mean : (a b : Formula) (o p : Option (NumName × ℤ)) → Means a o → Means b p
    → Means (conjunction a b) (first_there o p)
both_mean a b o p l r = grind arith

conjunct_means : (f : Formula) → Means f (conjunct f)
conjunct_means (numbers c) = search (rules, not_zero, equated_so)
conjunct_means (registers c) = nothing_means (registers c)
conjunct_means (negation a) = nothing_means (negation a)
conjunct_means (conjunction a b) = grind (arith, both_mean, (conjunct_means a), (conjunct_means b))
conjunct_means (disjunction a b) = nothing_means (disjunction a b)

asked_means : (f : Formula) → Means f (asked_by f)
asked_means (numbers c) = equated_so (numbers c)
asked_means (registers c) = nothing_means (registers c)
asked_means (negation a) = nothing_means (negation a)
asked_means (conjunction a b) = conjunct_means (conjunction a b)
asked_means (disjunction a b) = nothing_means (disjunction a b)

nums_once : (f : Formula) (t : Table) (e : Option (NumName × ℤ)) → asked_by f ≡ e
    → expr.holds t f ≡ true
    → seen (equation_bucket e) (visited t) ≡ 1
nums_once f t None e h = zero_once t
nums_once f t (Some (name, z)) e h = search (rules, number_once, value_there, asked_means)

meant_once : (k : Kind) (m : Meaning) (op : Op) (t : Table) → is_meant k m op t ≡ true
    → seen (meaning_bucket k m) (visited t) ≡ 1
meant_once k (op_is mnemonic) op t h = zero_once t
meant_once kind.Rd (reg_is n) op t h = rd_once t n (register_there n (t.reg register.Rd) h)
meant_once kind.Rs1 (reg_is n) op t h = rs1_once t n (register_there n (t.reg register.Rs1) h)
meant_once kind.Rs2 (reg_is n) op t h = rs2_once t n (register_there n (t.reg register.Rs2) h)
meant_once kind.Mnemonic (reg_is n) op t h = cc
meant_once kind.OpComb (reg_is n) op t h = cc
meant_once kind.ValComb (reg_is n) op t h = cc
meant_once kind.CrossComb (reg_is n) op t h = cc
meant_once k (regs f) op t h = zero_once t
meant_once k (nums f) op t h = nums_once f t (asked_by f) refl h
meant_once k (window ps) op t h = cc

pub seen_once : (p : Point) (op : Op) (t : Table) → holds p op t ≡ true
    → seen (bucket_of p) (visited t) ≡ 1
seen_once p op t h = meant_once p.kind p.meaning op t h
