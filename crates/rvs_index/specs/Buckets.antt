-- Where a point is looked for: lists of points, so that an instruction is held against few of them.
use Rattle.std.specs.Prelude.{ℕ, ℤ, pos, ◌+◌, ◌%◌, ◌==◌, ◌&&◌, not, Bool, true, false, List, []}
use Rattle.std.specs.Prelude.{◌∷◌, Option, Some}
use Rattle.std.specs.Prelude.{None, option_map, unsigned_abs, if◌then◌else◌}
use Rattle.std.specs.Int.{int_rem_euclid}
use Rattle.std.specs.Ordering.{int_eq}
use Rattle.rvs_points.specs.Points.{Point, Meaning, op_is, reg_is, regs, nums, window}
use Rattle.rvs_points.specs.declared.group.Kind.{Kind}
use Rattle.rvs_points.specs.declared.group.Kind.TheVariants as kind
use Rattle.rvs_expr.specs.Equated.{equated}
use Rattle.rvs_expr.specs.Meaning.{Table}
use Rattle.rvs_expr.specs.Typed.{Formula, numbers, registers, negation, conjunction}
use Rattle.rvs_expr.specs.Typed.{disjunction}
use Rattle.rvs_expr_text.specs.declared.lexeme.NumName.{NumName}
use Rattle.rvs_expr_text.specs.declared.lexeme.NumName.TheVariants.{Rs1Val, Rs2Val, ImmVal, EaAlign}
use Rattle.rvs_expr_text.specs.declared.lexeme.RegName.TheVariants as register

-- so many lists there are for a mnemonic
abbrev pub bucket_count : ℕ
bucket_count = 365

-- a number's remainder by a prime, which tells the powers of two up to 2 ^ 65 apart
abbrev pub residue : ℤ → ℕ
residue z = unsigned_abs (int_rem_euclid z (pos 67))

-- the list of a register point, by its register
abbrev pub register_bucket : Kind → ℕ → ℕ
register_bucket kind.Rd n = 1 + n % 32
register_bucket kind.Rs1 n = 33 + n % 32
register_bucket kind.Rs2 n = 65 + n % 32
register_bucket _ n = 0

-- the lists of points that say a name's value
abbrev pub name_bucket : NumName → ℕ
name_bucket Rs1Val = 97
name_bucket Rs2Val = 164
name_bucket ImmVal = 231
name_bucket EaAlign = 298

-- by the value's remainder
abbrev pub number_bucket : NumName → ℤ → ℕ
number_bucket name z = name_bucket name + residue z

-- the first that is there
abbrev pub first_there : {A : Type 0} → Option A → Option A → Option A
first_there None o = o
first_there (Some x) o = Some x

-- the place of an address within its word
abbrev pub is_place : NumName → Bool
is_place EaAlign = true
is_place _ = false

-- an equation of such a place, or with a number other than 0
abbrev pub but_zero : Option (NumName × ℤ) → Option (NumName × ℤ)
but_zero None = None
but_zero (Some e) = if int_eq e.1 (pos 0) && not (is_place e.0) then None else Some e

-- the first of them among the parts of a conjunction
abbrev pub conjunct : Formula → Option (NumName × ℤ)
conjunct (numbers c) = but_zero (equated (numbers c))
conjunct (registers c) = None
conjunct (negation a) = None
conjunct (conjunction a b) = first_there (conjunct a) (conjunct b)
conjunct (disjunction a b) = None

-- the equation by whose number an expression is looked for
abbrev pub asked_by : Formula → Option (NumName × ℤ)
asked_by (numbers c) = equated (numbers c)
asked_by (registers c) = None
asked_by (negation a) = None
asked_by (conjunction a b) = first_there (conjunct a) (conjunct b)
asked_by (disjunction a b) = None

abbrev pub equation_bucket : Option (NumName × ℤ) → ℕ
equation_bucket None = 0
equation_bucket (Some e) = number_bucket e.0 e.1

abbrev pub meaning_bucket : Kind → Meaning → ℕ
meaning_bucket k (op_is op) = 0
meaning_bucket k (reg_is n) = register_bucket k n
meaning_bucket k (regs f) = 0
meaning_bucket k (nums f) = equation_bucket (asked_by f)
meaning_bucket k (window ps) = bucket_count

-- the list of a point; all others are in the first list, but cross points, which are in none
abbrev pub bucket_of : Point → ℕ
bucket_of p = meaning_bucket p.kind p.meaning

-- the lists that an instruction of these facts is held against
abbrev pub visited : Table → List (Option ℕ)
visited t =
    Some 0
    ∷ option_map (register_bucket kind.Rd) (t.reg register.Rd)
    ∷ option_map (register_bucket kind.Rs1) (t.reg register.Rs1)
    ∷ option_map (register_bucket kind.Rs2) (t.reg register.Rs2)
    ∷ option_map (number_bucket Rs1Val) (t.num Rs1Val)
    ∷ option_map (number_bucket Rs2Val) (t.num Rs2Val)
    ∷ option_map (number_bucket ImmVal) (t.num ImmVal)
    ∷ option_map (number_bucket EaAlign) (t.num EaAlign)
    ∷ []

-- a point is in the list that is looked at
abbrev pub is_seen : Option ℕ → Point → Bool
is_seen None p = false
is_seen (Some bucket) p = bucket_of p == bucket
