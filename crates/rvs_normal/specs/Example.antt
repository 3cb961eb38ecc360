-- One label, its normal text, and what it is read as.
use Rattle.std.specs.Prelude.{◌≡◌, ℕ, true, List, [], ◌∷◌, pos, Ok, codes}
use Rattle.rvs_insn.specs.Isa.{Isa}
use Rattle.rvs_insn.specs.declared.op.Op.TheVariants.{Add}
use Rattle.rvs_expr_text.specs.declared.lexeme.NumName.TheVariants.{Rs1Val}
use Rattle.rvs_tree.specs.Data.{Data}
use Rattle.rvs_yaml.specs.Parsed.{answer}
use Rattle.rvs_expr.specs.Equation.{number_of, equation_of}
use Rattle.rvs_abstract.specs.declared.families.Families.{Families}
use Rattle.rvs_cgf.specs.Groups.{Label, point, op_is, nums, groups_of}
use Rattle.rvs_cgf.specs.Spelled.{Spells}
use Rattle.rvs_points.specs.declared.group.Kind.TheVariants.{Mnemonic, ValComb}

-- `add`, where its first source has the value 7
abbrev pub example : Label
example = record {
  name = codes "add";
  selected = true;
  ops = Add ∷ [];
  points = point Mnemonic (codes "add") (op_is Add)
      ∷ point ValComb (codes "rs1_val == 7") (nums (equation_of Rs1Val (number_of (pos 7)))) ∷ [];
  skipped = [];
}

abbrev pub example_text : List ℕ
example_text = codes "add:\n  mnemonics:\n    'add': 0\n  val_comb:\n    'rs1_val == 7': 0\n"

-- the text is accepted, its tree spells the label, and for this core the tree is that label,
-- whichever families are read
pub record IsReadAs (isa : Isa) (text : List ℕ) (l : Label) : Type 0 where
  pub tree : Data
  pub is : answer text ≡ Ok tree
  pub spells : Spells (l ∷ []) tree
  pub groups_are : (families : Families) → groups_of isa families tree ≡ Ok (l ∷ [])
