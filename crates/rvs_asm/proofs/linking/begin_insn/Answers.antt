use Rattle.std.proofs.Common.{◌≡◌, List, ℕ, Option, refl, ap, sym, subst, ◌∙◌}
use Rattle.std.proofs.Common.{to_z, of_z, w32, w64}
use Rattle.std.proofs.lemmas.Int.{to_z-of_z}
use Rattle.std.specs.Prelude.{IsSome}
use Rattle.rvs_insn.specs.Table.{row}
use Rattle.rvs_insn.specs.Fields.{Fields}
use Rattle.rvs_insn.specs.Word.{IsEncodable}
use Rattle.rvs_asm_text.specs.Instructions.{in_field}
use Rattle.rvs_asm.specs.Symbols.{find_mark}
use Rattle.rvs_asm.specs.Bytes.{with_imm}
use Rattle.rvs_asm.proofs.Linked.{own_fault, own_insn, unknown_fault, kept, far_fault, near_fault}
use Rattle.rvs_asm.proofs.Linked.{near_insn, narrowed, relinked}
use Rattle.rvs_asm.proofs.linking.begin_insn.Goals as goal

pub returns-in-None-clause-insn : goal.returns-in-None-clause-insn
returns-in-None-clause-insn c =
    c.insn.view_is
    ∙ own_insn c.args.symbols.now c.args.pc c.args.insn.now c.args.link.now
    (sym c.in-None.ensures)

pub returns-in-None-clause-fault : goal.returns-in-None-clause-fault
returns-in-None-clause-fault c =
    own_fault c.args.symbols.now c.args.pc c.args.insn.now c.args.link.now
    (sym c.in-None.ensures)

pub returns-in-None-get-clause-fault : goal.returns-in-None-get-clause-fault
returns-in-None-get-clause-fault c =
    unknown_fault c.args.symbols.now c.args.pc c.args.insn.now c.args.link.now c.in-Some.name.now
    (sym c.in-Some.ensures)
    (ap (find_mark c.args.symbols.now) (sym c.as_str.ensures) ∙ sym c.get.ensures
    ∙ c.in-None-get.is)

pub returns-in-None-get-clause-insn : goal.returns-in-None-get-clause-insn
returns-in-None-get-clause-insn c =
    let fault =
    unknown_fault c.args.symbols.now c.args.pc c.args.insn.now c.args.link.now c.in-Some.name.now
    (sym c.in-Some.ensures)
    (ap (find_mark c.args.symbols.now) (sym c.as_str.ensures) ∙ sym c.get.ensures
    ∙ c.in-None-get.is) in
    c.insn.view_is ∙ kept c.args.symbols.now c.args.pc c.args.insn.now c.args.link.now _ fault

pub returns-then-not-fits_field-clause-fault : goal.returns-then-not-fits_field-clause-fault
returns-then-not-fits_field-clause-fault c =
    let z = c.number_at-number.result in
    let y = to_z w64 (of_z w64 z) in
    let wide : y ≡ z = to_z-of_z w64 z (record { sfits = c.number_at-number.type_inv }) in
    let named = sym c.in-Some.ensures in
    let form = c.format.ensures ∙ ap (λ (i : Fields). (row i.op).form) c.insn.view_is in
    far_fault c.args.symbols.now c.args.pc c.args.insn.now c.args.link.now c.in-Some.name.now
    c.in-Some-get.mark y named
    (ap (find_mark c.args.symbols.now) (sym c.as_str.ensures) ∙ sym c.get.ensures
    ∙ c.in-Some-get.is)
    (λ j. c.number_at-number.ensures
    (subst (λ (o : Option (List ℕ)). IsSome o) (sym named) refl) j ∙ ap (with_imm j) (sym wide))
    (ap (λ f. in_field f y) (sym form) ∙ sym c.fits_field.ensures ∙ c.if-not-fits_field.true)

pub returns-then-not-fits_field-clause-insn : goal.returns-then-not-fits_field-clause-insn
returns-then-not-fits_field-clause-insn c =
    let z = c.number_at-number.result in
    let y = to_z w64 (of_z w64 z) in
    let wide : y ≡ z = to_z-of_z w64 z (record { sfits = c.number_at-number.type_inv }) in
    let named = sym c.in-Some.ensures in
    let form = c.format.ensures ∙ ap (λ (i : Fields). (row i.op).form) c.insn.view_is in
    let fault =
    far_fault c.args.symbols.now c.args.pc c.args.insn.now c.args.link.now c.in-Some.name.now
    c.in-Some-get.mark y named
    (ap (find_mark c.args.symbols.now) (sym c.as_str.ensures) ∙ sym c.get.ensures
    ∙ c.in-Some-get.is)
    (λ j. c.number_at-number.ensures
    (subst (λ (o : Option (List ℕ)). IsSome o) (sym named) refl) j ∙ ap (with_imm j) (sym wide))
    (ap (λ f. in_field f y) (sym form) ∙ sym c.fits_field.ensures ∙ c.if-not-fits_field.true) in
    c.insn.view_is ∙ kept c.args.symbols.now c.args.pc c.args.insn.now c.args.link.now _ fault

pub returns-clause-fault : goal.returns-clause-fault
returns-clause-fault c =
    let z = c.number_at-number.result in
    let y = to_z w64 (of_z w64 z) in
    let wide : y ≡ z = to_z-of_z w64 z (record { sfits = c.number_at-number.type_inv }) in
    let named = sym c.in-Some.ensures in
    let form = c.format.ensures ∙ ap (λ (i : Fields). (row i.op).form) c.insn.view_is in
    near_fault c.args.symbols.now c.args.pc c.args.insn.now c.args.link.now c.in-Some.name.now
    c.in-Some-get.mark y named
    (ap (find_mark c.args.symbols.now) (sym c.as_str.ensures) ∙ sym c.get.ensures
    ∙ c.in-Some-get.is)
    (λ j. c.number_at-number.ensures
    (subst (λ (o : Option (List ℕ)). IsSome o) (sym named) refl) j ∙ ap (with_imm j) (sym wide))
    (ap (λ f. in_field f y) (sym form) ∙ sym c.fits_field.ensures ∙ c.if-not-fits_field.false)

pub returns-clause-insn : goal.returns-clause-insn
returns-clause-insn c =
    let z = c.number_at-number.result in
    let y = to_z w64 (of_z w64 z) in
    let wide : y ≡ z = to_z-of_z w64 z (record { sfits = c.number_at-number.type_inv }) in
    let named = sym c.in-Some.ensures in
    let form = c.format.ensures ∙ ap (λ (i : Fields). (row i.op).form) c.insn.view_is in
    let fit =
    ap (λ f. in_field f y) (sym form) ∙ sym c.fits_field.ensures ∙ c.if-not-fits_field.false in
    ap (λ (i : Fields). with_imm i (to_z w32 (of_z w32 y))) c.insn.view_is
    ∙ ap (with_imm c.args.insn.now) (narrowed (row c.args.insn.now.op).form y fit)
    ∙ near_insn c.args.symbols.now c.args.pc c.args.insn.now c.args.link.now c.in-Some.name.now
    c.in-Some-get.mark y named
    (ap (find_mark c.args.symbols.now) (sym c.as_str.ensures) ∙ sym c.get.ensures
    ∙ c.in-Some-get.is)
    (λ j. c.number_at-number.ensures
    (subst (λ (o : Option (List ℕ)). IsSome o) (sym named) refl) j ∙ ap (with_imm j) (sym wide)) fit

pub returns-clause-ready : goal.returns-clause-ready
returns-clause-ready c =
    let y = to_z w64 (of_z w64 c.number_at-number.result) in
    let form = c.format.ensures ∙ ap (λ (i : Fields). (row i.op).form) c.insn.view_is in
    let fit =
    ap (λ f. in_field f y) (sym form) ∙ sym c.fits_field.ensures ∙ c.if-not-fits_field.false in
    subst IsEncodable
    (sym (ap (λ (i : Fields). with_imm i (to_z w32 (of_z w32 y))) c.insn.view_is
    ∙ ap (with_imm c.args.insn.now) (narrowed (row c.args.insn.now.op).form y fit)))
    (relinked c.args.insn.now y c.requires fit)

pub returns-in-None-clause-ready : goal.returns-in-None-clause-ready
returns-in-None-clause-ready c = subst IsEncodable (sym c.insn.view_is) c.requires

pub returns-in-None-get-clause-ready : goal.returns-in-None-get-clause-ready
returns-in-None-get-clause-ready c = subst IsEncodable (sym c.insn.view_is) c.requires

pub returns-then-not-fits_field-clause-ready : goal.returns-then-not-fits_field-clause-ready
returns-then-not-fits_field-clause-ready c = subst IsEncodable (sym c.insn.view_is) c.requires
