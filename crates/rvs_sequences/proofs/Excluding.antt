-- What an assignment excludes from a field, no instruction of the place has there.
use Rattle.std.proofs.Common.{◌≡◌, ℕ, Bool, true, false, List, [], ◌∷◌, Option, None}
use Rattle.std.proofs.Common.{refl, sym, ap, ◌∙◌, arith}
use Rattle.std.specs.Prelude.{ℤ, find}
use Rattle.std.specs.List.{list_all}
use Rattle.std.proofs.lemmas.Bool.{and_parts, and_from, or_left, or_right}
use Rattle.rvs_insn.specs.declared.op.Op.{Op}
use Rattle.rvs_insn.specs.Fields.{Fields}
use Rattle.rvs_cross.specs.declared.cross.Field.{Field}
use Rattle.rvs_cross.specs.declared.cross.Field.TheVariants.{Rd, Rs1}
use Rattle.rvs_cross.specs.declared.cross.Assignment.{Assignment}
use Rattle.rvs_cross.specs.Cross.{Place}
use Rattle.rvs_cross.specs.Windows.{Values, register_in, is_set}
use Rattle.rvs_cross.specs.Windows.{fits}
use Rattle.rvs_sequences.specs.Sequences.{at_rs1, at_rd}
use Rattle.rvs_sequences.specs.Choosing.{allows_one, allows}
use Rattle.rvs_cross.proofs.Members.{by_test, map_in, flat_in}
use Rattle.rvs_cross.proofs.Once.{field_is}
use Rattle.rvs_cross.proofs.Searching.{find_none}

one_allowed : (v : Values) (i : Fields) (f : Field) (r : Option ℕ) (s : Assignment)
    → register_in i f ≡ r → is_set v i s ≡ true → allows_one v f r s ≡ true
one_allowed v i f r s e h = grind (arith, by_test, or_right, field_is, or_left)

allowed : (v : Values) (i : Fields) (f : Field) (r : Option ℕ) (sets : List Assignment)
    → register_in i f ≡ r → list_all (is_set v i) sets ≡ true → allows v sets f r ≡ true
allowed v i f r [] e h = refl
allowed v i f r (s ∷ sets) e h =
    let parts = and_parts (is_set v i s) (list_all (is_set v i) sets) h in
    and_from (allows_one v f r s) (allows v sets f r) (one_allowed v i f r s e parts.0)
    (allowed v i f r sets e parts.1)

excluded : (v : Values) (p : Place) (i : Fields) (f : Field) (r : Option ℕ) → register_in i f ≡ r
    → allows v p.sets f r ≡ false → fits v p i ≡ false
excluded v p i f r e h = grind (arith, by_test, and_parts, allowed)

-- no instruction with an excluded `rs1`
pub none_at_rs1 : (v : Values) (p : Place) (op : Op) (imm : Option ℤ) (rs2s : List (Option ℕ))
    (d s : Option ℕ) (sets : List Assignment) (good : Bool) → sets ≡ p.sets
    → good ≡ allows v sets Rs1 s → good ≡ false → None ≡ find (fits v p) (at_rs1 op imm rs2s d s)
none_at_rs1 v p op imm rs2s d s sets good e g h =
    sym (find_none (fits v p) (at_rs1 op imm rs2s d s)
    (λ i m. let t = map_in (λ t. record {
      op = op;
      rd = d;
      rs1 = s;
      rs2 = t;
      imm = imm;
    }) rs2s i m in
    excluded v p i Rs1 s (sym (ap (λ (j : Fields). j.rs1) t.is))
    (ap (λ l. allows v l Rs1 s) (sym e) ∙ sym g ∙ h)))

-- or an excluded `rd`
pub none_at_rd : (v : Values) (p : Place) (op : Op) (imm : Option ℤ) (rs1s rs2s : List (Option ℕ))
    (d : Option ℕ) (sets : List Assignment) (good : Bool) → sets ≡ p.sets
    → good ≡ allows v sets Rd d → good ≡ false
    → None ≡ find (fits v p) (at_rd op imm rs1s rs2s d)
none_at_rd v p op imm rs1s rs2s d sets good e g h =
    sym (find_none (fits v p) (at_rd op imm rs1s rs2s d)
    (λ i m. let q = flat_in (at_rs1 op imm rs2s d) rs1s i m in
    let t = map_in (λ t. record { op = op; rd = d; rs1 = q.item; rs2 = t; imm = imm }) rs2s i
    q.inner in
    excluded v p i Rd d (sym (ap (λ (j : Fields). j.rd) t.is))
    (ap (λ l. allows v l Rd d) (sym e) ∙ sym g ∙ h)))
