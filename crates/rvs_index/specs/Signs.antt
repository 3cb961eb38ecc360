-- What instructions are told apart by, where neither a number nor a register says it alone: signs,
-- and what is equal.
use Rattle.std.specs.Prelude.{ℕ, ℤ, pos, Bool, true, false, List, [], ◌∷◌, Option, Some}
use Rattle.std.specs.Prelude.{◌+◌, ◌*◌, ◌%◌, ◌^◌, ◌==◌, bit_and, if◌then◌else◌, option_map}
use Rattle.std.specs.Prelude.{slice_index_or}
use Rattle.std.specs.Int.{int_rem_euclid}
use Rattle.rvs_expr_text.specs.declared.lexeme.NumName.TheVariants.{Rs1Val, Rs2Val, ImmVal}
use Rattle.rvs_expr_text.specs.declared.lexeme.RegName.TheVariants.{Rd, Rs1, Rs2}
use Rattle.rvs_expr.specs.declared.formula.Comparison.{Comparison}
use Rattle.rvs_expr.specs.declared.formula.Comparison.TheVariants.{Equal, Unequal, Below, Above}
use Rattle.rvs_expr.specs.declared.formula.Comparison.TheVariants.{AtLeast}
use Rattle.rvs_expr.specs.Meaning.{Table, both, compare, equation, is_true}

-- both numbers are there and compare so
abbrev pub compares : Comparison → Option ℤ → Option ℤ → Bool
compares op a b = is_true (both (λ x y. compare op x y) a b)

-- both registers are there and are one, or aren't
abbrev pub relates : Bool → Option ℕ → Option ℕ → Bool
relates equal a b = is_true (both (λ x y. equation equal x y) a b)

-- a truth value as a bit
abbrev pub bit : Bool → ℕ
bit b = if b then 1 else 0

-- how a number compares with 0, as three bits
abbrev pub three_bits : Option ℤ → ℕ
three_bits v =
    bit (compares Below v (Some (pos 0))) + 2 * bit (compares Equal v (Some (pos 0)))
    + 4 * bit (compares Above v (Some (pos 0)))

-- whether it is at least 0, and whether it is below 32, as two bits
abbrev pub shift_bits : Option ℤ → ℕ
shift_bits v =
    bit (compares AtLeast v (Some (pos 0))) + 2 * bit (compares Below v (Some (pos 32)))

-- its remainder by 4
abbrev pub by_four : Option ℤ → Option ℤ
by_four v = option_map (λ x. int_rem_euclid x (pos 4)) v

-- whether a number's remainder by 4 is 0, 1, 2 and 3, as four bits
abbrev pub four_bits : Option ℤ → ℕ
four_bits v =
    bit (compares Equal (by_four v) (Some (pos 0)))
    + 2 * bit (compares Equal (by_four v) (Some (pos 1)))
    + 4 * bit (compares Equal (by_four v) (Some (pos 2)))
    + 8 * bit (compares Equal (by_four v) (Some (pos 3)))

-- whether two numbers are one, and whether they aren't, as two bits
abbrev pub equal_bits : Option ℤ → Option ℤ → ℕ
equal_bits a b = bit (compares Equal a b) + 2 * bit (compares Unequal a b)

-- the same, whether the first is below the second, and whether it is above, as four bits
abbrev pub order_bits : Option ℤ → Option ℤ → ℕ
order_bits a b =
    equal_bits a b + 4 * bit (compares Below a b) + 8 * bit (compares Above a b)

-- whether two registers are one, and whether they aren't
abbrev pub relation_bits : Option ℕ → Option ℕ → ℕ
relation_bits a b = bit (relates true a b) + 2 * bit (relates false a b)

-- the signs of three numbers, how the first compares with the others, which registers are one, and
-- the remainder of the third by 4
abbrev pub signs : Option ℕ → Option ℕ → Option ℕ → Option ℤ → Option ℤ → Option ℤ → List Bool
signs rd rs1 rs2 rs1_val rs2_val imm_val =
    true
    ∷ compares Below rs1_val (Some (pos 0))
    ∷ compares Equal rs1_val (Some (pos 0))
    ∷ compares Above rs1_val (Some (pos 0))
    ∷ compares Below rs2_val (Some (pos 0))
    ∷ compares Equal rs2_val (Some (pos 0))
    ∷ compares Above rs2_val (Some (pos 0))
    ∷ compares Below imm_val (Some (pos 0))
    ∷ compares Equal imm_val (Some (pos 0))
    ∷ compares Above imm_val (Some (pos 0))
    ∷ compares Equal rs1_val rs2_val
    ∷ compares Unequal rs1_val rs2_val
    ∷ compares Below rs1_val rs2_val
    ∷ compares Above rs1_val rs2_val
    ∷ compares Equal rs1_val imm_val
    ∷ compares Unequal rs1_val imm_val
    ∷ compares AtLeast rs2_val (Some (pos 0))
    ∷ compares Below rs2_val (Some (pos 32))
    ∷ compares AtLeast imm_val (Some (pos 0))
    ∷ compares Below imm_val (Some (pos 32))
    ∷ relates true rd rs1
    ∷ relates false rd rs1
    ∷ relates true rd rs2
    ∷ relates false rd rs2
    ∷ relates true rs1 rs2
    ∷ relates false rs1 rs2
    ∷ relates true rd (Some 0)
    ∷ compares Equal (by_four imm_val) (Some (pos 0))
    ∷ compares Equal (by_four imm_val) (Some (pos 1))
    ∷ compares Equal (by_four imm_val) (Some (pos 2))
    ∷ compares Equal (by_four imm_val) (Some (pos 3))
    ∷ []

-- those of a table
unfoldable pub signs_of : Table → List Bool
signs_of t = signs (t.reg Rd) (t.reg Rs1) (t.reg Rs2) (t.num Rs1Val) (t.num Rs2Val) (t.num ImmVal)

-- signs as the bits of a word, the first as the lowest
abbrev pub signs_word : List Bool → ℕ
signs_word [] = 0
signs_word (b ∷ bs) = bit b + 2 * signs_word bs

-- the bit of a sign
abbrev pub sign_bit : ℕ → ℕ
sign_bit k = 1 * 2 ^ k % 2 ^ 32

-- a word has all bits of a mask
abbrev pub has_all : ℕ → ℕ → Bool
has_all word mask = bit_and word mask == mask

-- one of the signs
abbrev pub sign_at : ℕ → Table → Bool
sign_at k t = slice_index_or (signs_of t) k false

-- all signs of a mask
abbrev pub has_signs : ℕ → Table → Bool
has_signs mask t = has_all (signs_word (signs_of t)) mask
