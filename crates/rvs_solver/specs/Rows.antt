-- Some points, and the most evaluations that each takes on a core without misaligned data.
use Rattle.std.specs.Prelude.{ℕ, ℤ, pos, negsuc, true, false, List, [], ◌∷◌}
use Rattle.rvs_insn.specs.declared.op.Op.{Op}
use Rattle.rvs_insn.specs.declared.op.Op.TheVariants.{Mul, Div, Beq, Sw, Sb, Lb, Addi, Fence, Jalr}
use Rattle.rvs_insn.specs.declared.op.Op.TheVariants.{Sltiu, Add}
use Rattle.rvs_insn.specs.Isa.{Isa}
use Rattle.rvs_insn.specs.Memory.{usual_memory}
use Rattle.rvs_expr_text.specs.declared.lexeme.NumName.{NumName}
use Rattle.rvs_expr_text.specs.declared.lexeme.NumName.TheVariants.{Rs1Val, Rs2Val, ImmVal, EaAlign}
use Rattle.rvs_expr_text.specs.declared.lexeme.RegName.TheVariants.{Rd, Rs1}
use Rattle.rvs_expr.specs.declared.formula.Comparison.TheVariants.{Equal}
use Rattle.rvs_expr.specs.Typed.{Num, literal, named, product, pair, reg_pair, register, Formula}
use Rattle.rvs_expr.specs.Typed.{numbers, registers, conjunction}
use Rattle.rvs_points.specs.Points.{Meaning, regs, nums}
use Rattle.rvs_solver.specs.Bound.{bound}

pub record Row : Type 0 where
  pub op : Op
  pub meaning : Meaning
  pub most : ℕ

abbrev pub equal : Num → Num → Formula
equal a b = numbers (pair a Equal b)

abbrev pub is : NumName → ℤ → Formula
is name z = equal (named name) (literal z)

abbrev pub row_of : Op → Formula → ℕ → Row
row_of op e most = record { op = op; meaning = nums e; most = most }

abbrev pub registers_row : Row
registers_row =
    record {
      op = Add;
      meaning = regs (registers (reg_pair (register Rd) true (register Rs1)));
      most = 32768;
    }

unfoldable pub rows : List Row
rows =
    row_of Mul (equal (product (named Rs1Val) (named Rs1Val)) (literal (pos 49))) 13 ∷
    row_of Div (conjunction (is Rs1Val (negsuc 2147483647)) (is Rs2Val (negsuc 0))) 22 ∷
    row_of Beq (is ImmVal (pos 4096)) 1024 ∷
    row_of Sw (conjunction (is Rs2Val (pos 7)) (is EaAlign (pos 0))) 195 ∷
    row_of Beq (is Rs1Val (pos 6)) 174080 ∷
    row_of Lb (is EaAlign (pos 1)) 50 ∷
    row_of Addi (conjunction (is ImmVal (pos 5)) (is Rs1Val (pos 9))) 32 ∷
    row_of Fence (is ImmVal (pos 1)) 1 ∷
    row_of Jalr (is ImmVal (pos 5)) 14 ∷
    row_of Sltiu (is Rs1Val (pos 4294967295)) 110 ∷
    row_of Sb (equal (named Rs1Val) (named Rs2Val)) 480 ∷
    registers_row ∷ []

abbrev pub plain : Isa
plain =
    record {
      e = false;
      m = true;
      a = false;
      zicsr = false;
      zifencei = false;
      misaligned = false;
      address_bits = 32;
      memory = usual_memory;
    }

abbrev pub bound_of_row : Row → ℕ
bound_of_row r = bound plain (r.op ∷ []) r.meaning

abbrev pub most_of : Row → ℕ
most_of r = r.most
