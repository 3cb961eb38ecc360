use Rattle.std.proofs.Common.{◌≡◌, Option, Ok, Err, false, cond, sym, ap, subst, ◌∙◌, rules}
use Rattle.std.proofs.Common.{SFits, to_z, of_z, w64}
use Rattle.std.proofs.lemmas.Int.{to_z-of_z}
use Rattle.std.specs.Prelude.{ℤ, Some}
use Rattle.rvs_insn.specs.declared.op.Format.{Format}
use Rattle.rvs_insn.specs.Table.{row}
use Rattle.rvs_asm_text.specs.declared.bodies.Body.TheVariants.{Insn}
use Rattle.rvs_asm_text.specs.declared.bodies.LineFault.TheVariants.{OutOfRange}
use Rattle.rvs_asm_text.specs.declared.bodies.Value.{Value}
use Rattle.rvs_asm_text.specs.Instructions.{fields, finish, in_field, HasShape}
use Rattle.rvs_asm_text.proofs.Ready.{drafted_alone}
use Rattle.rvs_asm_text.proofs.instructions.finish_row.Goals as goal

pub invariant_of-insn : goal.invariant_of-insn
invariant_of-insn c = (c.requires.rd_low, c.requires.rs1_low, c.requires.rs2_low)

pub invariant_of-insn-in-Some : goal.invariant_of-insn-in-Some
invariant_of-insn-in-Some c = (c.requires.rd_low, c.requires.rs1_low, c.requires.rs2_low)

pub returns-in-None : goal.returns-in-None
returns-in-None c =
    let form = (row c.args.op).form in
    let d = c.args.draft in
    record {
      body = sym (ap (finish c.args.op d) c.in-None.is);
      ready = drafted_alone form d.rd d.rs1 d.rs2 c.requires.rd_low c.requires.rs1_low
          c.requires.rs2_low
          (subst (λ (v : Option Value). HasShape form d.rd d.rs1 d.rs2 v) c.in-None.is
          c.requires.shape);
    }

pub returns-then-not-fits_field : goal.returns-then-not-fits_field
returns-then-not-fits_field c =
    let op = c.args.op in
    let d = c.args.draft in
    let v = c.in-Some.field-0 in
    let fits : SFits w64 v.number = search rules in
    let same = to_z-of_z w64 v.number fits in
    let wide : in_field (row op).form v.number ≡ false =
    ap (λ (z : ℤ). in_field (row op).form z) (sym same)
    ∙ ap (λ (f : Format). in_field f (to_z w64 (of_z w64 v.number))) (sym c.format.ensures)
    ∙ sym c.fits_field.ensures ∙ c.if-not-fits_field.true in
    record {
      body = ap (λ (z : ℤ). Err (OutOfRange z)) same
          ∙ sym (ap (finish op d) c.in-Some.is
          ∙ ap (λ b. cond b (Ok (Insn (fields op d (Some v.number)) v.link))
          (Err (OutOfRange v.number))) wide);
      ready = tt;
    }
