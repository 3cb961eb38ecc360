-- What a key that means something means, by its kind.
use Rattle.std.proofs.Common.{◌≡◌, ℕ, Bool, true, false, List, [], Option, Some, None, Ok, Err}
use Rattle.std.proofs.Common.{refl}
use Rattle.std.specs.Prelude.{if◌then◌else◌}
use Rattle.rvs_insn.specs.Names.{op_of_name}
use Rattle.rvs_insn.specs.declared.op.Op.{Op}
use Rattle.rvs_expr_text.specs.Refusal as expr
use Rattle.rvs_expr_text.specs.Words.{register_number}
use Rattle.rvs_expr_text.specs.declared.words.Language.TheVariants.{Numbers, Registers}
use Rattle.rvs_expr.specs.Typed.{Formula}
use Rattle.rvs_expr.specs.Parse.{parse}
use Rattle.rvs_cross.specs.Cross.{Place}
use Rattle.rvs_cross.specs.Parse as crosses
use Rattle.rvs_points.specs.Keys.{is_skipped}
use Rattle.rvs_points.specs.Says.{Meaning, op_is, reg_is, regs, nums, window, means, nothing, of_op}
use Rattle.rvs_points.specs.Says.{of_register, of_formula, of_cross, says}
use Rattle.rvs_points.specs.Points.{same_kind}
use Rattle.rvs_points.specs.declared.group.Kind.{Kind}
use Rattle.rvs_points.specs.declared.group.Kind.TheVariants as kind

meant : (x y : Meaning) → means x ≡ means y → y ≡ x
meant x y e = cc

pub by-op : {G : Type 0} (o : Option Op) (m : Meaning) → of_op o ≡ means m
    → ((op : Op) → o ≡ Some op → m ≡ op_is op → G) → G
by-op None m e g = cc
by-op (Some op) m e g = g op refl (meant (op_is op) m e)

by-register : {G : Type 0} (o : Option ℕ) (m : Meaning) → of_register o ≡ means m
    → ((r : ℕ) → o ≡ Some r → m ≡ reg_is r → G) → G
by-register None m e g = cc
by-register (Some r) m e g = g r refl (meant (reg_is r) m e)

by-formula : {G : Type 0} (mean : Formula → Meaning) (b : Bool) (r : expr.Found Formula)
    (m : Meaning) → (if b then nothing else of_formula mean r) ≡ means m
    → ((f : Formula) → r ≡ Ok f → m ≡ mean f → G) → G
by-formula mean true r m e g = cc
by-formula mean false (Ok f) m e g = g f refl (meant (mean f) m e)
by-formula mean false (Err x) m e g = cc

by-cross : {G : Type 0} (r : crosses.Found) (m : Meaning) → of_cross r ≡ means m
    → ((ps : List Place) → r ≡ Ok (crosses.read ps) → m ≡ window ps → G) → G
by-cross (Ok (crosses.read ps)) m e g = g ps refl (meant (window ps) m e)
by-cross (Ok crosses.skipped) m e g = cc
by-cross (Err x) m e g = cc

pub said_by : {G : Type 0} (k : Kind) (key : List ℕ) (m : Meaning) → says k key ≡ means m
    → ((op : Op) → same_kind k kind.Mnemonic ≡ true → m ≡ op_is op → G)
    → ((r : ℕ) → register_number key ≡ Some r → m ≡ reg_is r → G)
    → ((f : Formula) → parse Registers [] key ≡ Ok f → m ≡ regs f → G)
    → ((f : Formula) → parse Numbers [] key ≡ Ok f → m ≡ nums f → G)
    → ((ps : List Place) → crosses.parse key ≡ Ok (crosses.read ps) → m ≡ window ps → G) → G
said_by kind.Mnemonic key m e op register over_registers over_numbers cross =
    by-op (op_of_name key) m e (λ o _ is. op o refl is)
said_by kind.Rs1 key m e op register over_registers over_numbers cross =
    by-register (register_number key) m e register
said_by kind.Rs2 key m e op register over_registers over_numbers cross =
    by-register (register_number key) m e register
said_by kind.Rd key m e op register over_registers over_numbers cross =
    by-register (register_number key) m e register
said_by kind.OpComb key m e op register over_registers over_numbers cross =
    by-formula regs (is_skipped key) (parse Registers [] key) m e over_registers
said_by kind.ValComb key m e op register over_registers over_numbers cross =
    by-formula nums (is_skipped key) (parse Numbers [] key) m e over_numbers
said_by kind.CrossComb key m e op register over_registers over_numbers cross =
    by-cross (crosses.parse key) m e cross
