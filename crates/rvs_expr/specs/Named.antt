-- The names that stand in a formula, and what a table has for them.
use Rattle.std.specs.Prelude.{ℕ, Bool, true, false, ◌||◌, ℤ, pos, List, [], ◌∷◌, Option, Some, None}
use Rattle.std.specs.Prelude.{if◌then◌else◌}
use Rattle.rvs_expr_text.specs.declared.lexeme.NumName.TheVariants.{Rs1Val, Rs2Val, ImmVal, EaAlign}
use Rattle.rvs_expr_text.specs.declared.lexeme.RegName.{RegName}
use Rattle.rvs_expr_text.specs.declared.lexeme.RegName.TheVariants.{Rd, Rs1, Rs2, Var0, Var1, Var2}
use Rattle.rvs_expr.specs.declared.names.Names.{Names}
use Rattle.rvs_expr.specs.Typed.{Reg, fixed, register, RegChain, reg_pair, reg_more, Formula}
use Rattle.rvs_expr.specs.Typed.{numbers, registers, negation, conjunction, disjunction}
use Rattle.rvs_expr.specs.Meaning.{Table, both}
use Rattle.rvs_expr.specs.Parts.{uses}
use Rattle.rvs_expr.specs.Total.{true_over}

abbrev pub same_reg : RegName → RegName → Bool
same_reg Rd Rd = true
same_reg Rs1 Rs1 = true
same_reg Rs2 Rs2 = true
same_reg Var0 Var0 = true
same_reg Var1 Var1 = true
same_reg Var2 Var2 = true
same_reg _ _ = false

abbrev pub is_reg : Reg → RegName → Bool
is_reg (fixed n) r = false
is_reg (register m) r = same_reg m r

abbrev pub chain_uses_reg : RegChain → RegName → Bool
chain_uses_reg (reg_pair a op b) r = is_reg a r || is_reg b r
chain_uses_reg (reg_more c op b) r = chain_uses_reg c r || is_reg b r

abbrev pub uses_reg : Formula → RegName → Bool
uses_reg (numbers c) r = false
uses_reg (registers c) r = chain_uses_reg c r
uses_reg (negation a) r = uses_reg a r
uses_reg (conjunction a b) r = uses_reg a r || uses_reg b r
uses_reg (disjunction a b) r = uses_reg a r || uses_reg b r

abbrev pub any_reg : Formula → Bool
any_reg f = uses_reg f Rd || (uses_reg f Rs1
    || (uses_reg f Rs2 || (uses_reg f Var0 || (uses_reg f Var1 || uses_reg f Var2))))

unfoldable pub names_of : Formula → Names
names_of f = record {
  rs1_val = uses f Rs1Val;
  rs2_val = uses f Rs2Val;
  imm_val = uses f ImmVal;
  ea_align = uses f EaAlign;
  registers = any_reg f;
  rd = uses_reg f Rd;
  rs1 = uses_reg f Rs1;
  rs2 = uses_reg f Rs2;
  var0 = uses_reg f Var0;
  var1 = uses_reg f Var1;
  var2 = uses_reg f Var2;
}

-- what is there, and a default for what isn't asked for
abbrev pub asked : {A : Type 0} → Bool → A → Option A → Option A
asked true d o = o
asked false d o = Some d

-- all, where each is there
abbrev pub sequence : {A : Type 0} → List (Option A) → Option (List A)
sequence [] = Some []
sequence (o ∷ os) = both (λ x xs. x ∷ xs) o (sequence os)

unfoldable pub nums_of : Names → Table → Option (List ℤ)
nums_of n t = sequence (asked n.rs1_val (pos 0) (t.num Rs1Val)
    ∷ asked n.rs2_val (pos 0) (t.num Rs2Val) ∷ asked n.imm_val (pos 0) (t.num ImmVal)
    ∷ asked n.ea_align (pos 0) (t.num EaAlign) ∷ [])

unfoldable pub asked_regs : Names → Table → Option (List ℕ)
asked_regs n t = sequence (asked n.rd 0 (t.reg Rd) ∷ asked n.rs1 0 (t.reg Rs1)
    ∷ asked n.rs2 0 (t.reg Rs2) ∷ asked n.var0 0 (t.reg Var0) ∷ asked n.var1 0 (t.reg Var1)
    ∷ asked n.var2 0 (t.reg Var2) ∷ [])

abbrev pub regs_of : Names → Table → Option (List ℕ)
regs_of n t = if n.registers then asked_regs n t else Some (0 ∷ 0 ∷ 0 ∷ 0 ∷ 0 ∷ 0 ∷ [])

-- the values of all names that are asked for, where all are there
abbrev pub read : Names → Table → Option (List ℤ × List ℕ)
read n t = both (λ zs ns. (zs, ns)) (nums_of n t) (regs_of n t)

abbrev pub holds_over : Option (List ℤ × List ℕ) → Formula → Bool
holds_over None f = false
holds_over (Some v) f = true_over v.0 v.1 f
