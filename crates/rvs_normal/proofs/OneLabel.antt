-- One label, printed and read again.
use Rattle.std.proofs.Common.{◌≡◌, [], ◌∷◌, ◌++◌, pos, refl, sym, ap, subst, ◌∙◌, lit<, lit≤, rules}
use Rattle.std.proofs.lemmas.Fmt.{decimal_digit}
use Rattle.std.proofs.lemmas.List.Elements.{All-nil, All-cons}
use Rattle.rvs_insn.specs.Isa.{Isa}
use Rattle.rvs_insn.specs.Names.{op_of_name}
use Rattle.rvs_insn.specs.declared.op.Op.TheVariants.{Add}
use Rattle.rvs_expr_text.specs.declared.lexeme.NumName.TheVariants.{Rs1Val}
use Rattle.rvs_yaml.specs.Parsed.{answer}
use Rattle.std.specs.Prelude.{codes}
use Rattle.rvs_expr.specs.Equation.{name_of, key_of, number_of, equation_of}
use Rattle.rvs_cgf.specs.Groups.{point, op_is, nums}
use Rattle.rvs_cgf.specs.Print.{normal_text}
use Rattle.rvs_points.specs.Valid.{IsMeant, IsValid}
use Rattle.rvs_cgf.specs.Spelled.{IsPlain, CanBeSpelled}
use Rattle.rvs_points.specs.declared.group.Kind.TheVariants.{Mnemonic, ValComb}
use Rattle.rvs_cgf.proofs.FamilyKeys.{value_meant}
use Rattle.rvs_cgf.proofs.ReadBack.{spelled_is_read}
use Rattle.rvs_normal.specs.Example.{example, example_text, IsReadAs}
use Rattle.rvs_normal.proofs.Spelling.{IsPrinted, printed-is-read}

pub text_is : normal_text (example ∷ []) ≡ example_text
text_is = refl

op-meant : IsMeant (point Mnemonic (codes "add") (op_is Add))
unfolding op_of_name
op-meant = record { printable = refl; said = refl }

key-is : key_of Rs1Val (pos 7) ≡ codes "rs1_val == 7"
key-is = ap (λ ds. name_of Rs1Val ++ (codes " == " ++ ds)) (decimal_digit 7 (lit< tt))

value-meant : IsMeant
    (point ValComb (codes "rs1_val == 7") (nums (equation_of Rs1Val (number_of (pos 7)))))
value-meant = subst (λ k. IsMeant (point ValComb k (nums (equation_of Rs1Val (number_of (pos 7))))))
    key-is (value_meant Rs1Val (pos 7) (lit≤ tt))

valid : (isa : Isa) → IsValid isa example
valid isa = record {
  named = refl;
  some_op = lit< tt;
  own_ops = refl;
  admitted = refl;
  few = lit≤ tt;
  distinct = refl;
  meant = All-cons IsMeant (point Mnemonic (codes "add") (op_is Add)) (point ValComb
      (codes "rs1_val == 7") (nums (equation_of Rs1Val (number_of (pos 7)))) ∷ []) op-meant
      (All-cons IsMeant
      (point ValComb (codes "rs1_val == 7") (nums (equation_of Rs1Val (number_of (pos 7))))) []
      value-meant (All-nil IsMeant));
}

plain : (isa : Isa) → IsPlain isa example
plain isa = search (rules, valid)

can : (isa : Isa) → CanBeSpelled isa (example ∷ [])
can isa = record { plain = (plain isa, tt); few_labels = lit≤ tt; few_points = lit≤ tt }

printed : IsPrinted example
printed = record { named = refl; keys_printable = refl; distinct = refl; apart = refl }

pub example-read : (isa : Isa) → IsReadAs isa example_text example
example-read isa =
    let r = printed-is-read (example ∷ []) ((λ _. printed), refl, tt) (tt, tt) refl (lit≤ tt) in
    record {
      tree = r.tree;
      is = ap answer (sym text_is) ∙ r.is;
      spells = r.spells;
      groups_are = λ families.
          spelled_is_read isa isa families (example ∷ []) r.tree (can isa) refl r.spells;
    }
