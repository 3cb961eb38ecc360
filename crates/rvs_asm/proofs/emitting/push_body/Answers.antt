use Rattle.std.proofs.Common.{◌≡◌, ◌^◌, ◌++◌, List, ℕ, Result, Ok, Err, ap, sym, subst, ◌∙◌, arith}
use Rattle.std.proofs.Common.{Option, rules, ℤ, w64}
use Rattle.std.proofs.lemmas.Int.{to_z-of_z}
use mir.Val.{SFits}
use Rattle.std.proofs.lemmas.List.{append-nil}
use Rattle.std.specs.Prelude.{IfOk, OnOk, IsOk}
use Rattle.std.specs.Int.{w32, to_le_bytes}
use Rattle.rvs_insn.specs.Word.{word_of}
use Rattle.rvs_asm_text.specs.declared.bodies.Body.{Body}
use Rattle.rvs_asm_text.specs.declared.bodies.Body.TheVariants.{Insn, Values}
use Rattle.rvs_asm.specs.Locations.{IsLocation, address, next, padding}
use Rattle.rvs_asm.specs.declared.refusal.AsmKind.{AsmKind}
use Rattle.rvs_asm.specs.Bytes.{filler, number_bytes, repeated}
use Rattle.rvs_asm.specs.Begun.{begun_bytes, begun_insn, far_fault, open_in}
use Rattle.rvs_asm.proofs.Addressed.{values_fit}
use Rattle.rvs_asm.proofs.emitting.push_body.Goals as goal

pub push_values-requires-clause-room : goal.push_values-requires-clause-room
push_values-requires-clause-room c =
    let p = c.args.location.now in
    let size = c.in-Values.size in
    let there = subst (λ (b : Body). IsLocation (next p b)) c.in-Values.is c.requires.there in
    let again = subst (λ (xs : List (List ℕ)). IsLocation (next p (Values size xs)))
    (sym c.again.ensures) there in
    let fit = values_fit p size c.again.result c.address_at.ensures.room c.requires.here again in
    omega (arith, fit, c.address_at.ensures.address)

-- what was added, seen through `none_far`
onto : {E A B : Type 0} (r : Result A E) (x : Result B E) (P : Type 0) → OnOk r (IsOk x) → OnOk x P
    → OnOk r P
onto (Ok a) (Ok b) P h k = k
onto (Ok a) (Err e) P h k = cc
onto (Err e) x P h k = tt

always : {E A : Type 0} (r : Result A E) (P : Type 0) → P → OnOk r P
always (Ok a) P h = h
always (Err e) P h = tt

pub returns-in-Values-clause-bytes : goal.returns-in-Values-clause-bytes
returns-in-Values-clause-bytes c =
    let p = c.args.location.now in
    let ss = c.args.symbols.now in
    let r = c.none_far.result in
    let new = c.push_values.new.out.items in
    let old = c.args.out.now.items in
    subst (λ (b : Body). OnOk r (new ≡ old ++ begun_bytes ss p b)) (sym c.in-Values.is)
    (subst (λ (xs : List (List ℕ)). OnOk r
    (new ≡ old ++ begun_bytes ss p (Values c.in-Values.size xs))) c.again.ensures
    (onto r c.push_values.result _ c.none_far.ensures.added c.push_values.ensures.bytes))

pub returns-in-Values-clause-waiting : goal.returns-in-Values-clause-waiting
returns-in-Values-clause-waiting c =
    let ss = c.args.symbols.now in
    let at = address c.args.location.now in
    let n = c.args.line in
    let r = c.none_far.result in
    let new = c.push_values.new.waiting in
    let old = c.args.waiting.now in
    subst (λ (b : Body). OnOk r (new ≡ old ++ open_in ss n at b)) (sym c.in-Values.is)
    (subst (λ (xs : List (List ℕ)). OnOk r
    (new ≡ old ++ open_in ss n at (Values c.in-Values.size xs))) c.again.ensures
    (subst (λ (k : ℕ). OnOk r
    (new ≡ old ++ open_in ss n k (Values c.in-Values.size c.again.result)))
    c.address_at.ensures.address
    (onto r c.push_values.result _ c.none_far.ensures.added c.push_values.ensures.waiting)))

pub returns-in-Align-clause-bytes : goal.returns-in-Align-clause-bytes
returns-in-Align-clause-bytes c =
    let p = c.args.location.now in
    let r = c.none_far-in-Align.result in
    let new = c.push_padding.new.out.items in
    let old = c.args.out.now.items in
    subst (λ (b : Body). OnOk r (new ≡ old ++ begun_bytes c.args.symbols.now p b))
    (sym c.in-Align.is)
    (subst (λ (n : ℕ). OnOk r (new ≡ old ++ filler p.in_text n))
    (c.gap.ensures.value ∙ ap (λ o. padding o (2 ^ c.in-Align.power)) c.offset_in.ensures)
    (onto r c.push_padding.result _ c.none_far-in-Align.ensures.added c.push_padding.ensures))

pub returns-in-Align-clause-waiting : goal.returns-in-Align-clause-waiting
returns-in-Align-clause-waiting c =
    let r = c.none_far-in-Align.result in
    let old = c.args.waiting.now in
    subst (λ (b : Body). OnOk r (old ≡ old ++ open_in c.args.symbols.now c.args.line
    (address c.args.location.now) b)) (sym c.in-Align.is) (always r _ (sym (append-nil old)))

pub returns-in-Fill-clause-bytes : goal.returns-in-Fill-clause-bytes
returns-in-Fill-clause-bytes c =
    let r = c.none_far-in-Fill.result in
    let new = c.push_numbers.new.out.items in
    let old = c.args.out.now.items in
    let fits : SFits w64 c.in-Fill.number = search rules in
    subst (λ (b : Body). OnOk r
    (new ≡ old ++ begun_bytes c.args.symbols.now c.args.location.now b)) (sym c.in-Fill.is)
    (subst (λ (z : ℤ). OnOk r
    (new ≡ old ++ repeated c.in-Fill.count (number_bytes c.in-Fill.size z)))
    (to_z-of_z w64 c.in-Fill.number fits)
    (onto r c.push_numbers.result _ c.none_far-in-Fill.ensures.added c.push_numbers.ensures))

pub returns-in-Fill-clause-waiting : goal.returns-in-Fill-clause-waiting
returns-in-Fill-clause-waiting c =
    let r = c.none_far-in-Fill.result in
    let old = c.args.waiting.now in
    subst (λ (b : Body). OnOk r (old ≡ old ++ open_in c.args.symbols.now c.args.line
    (address c.args.location.now) b)) (sym c.in-Fill.is) (always r _ (sym (append-nil old)))

pub returns-in-Insn-clause-bytes : goal.returns-in-Insn-clause-bytes
returns-in-Insn-clause-bytes c =
    let r = c.push_insn.result in
    let new = c.push_insn.new.out.items in
    let old = c.args.out.now.items in
    subst (λ (b : Body). OnOk r
    (new ≡ old ++ begun_bytes c.args.symbols.now c.args.location.now b)) (sym c.in-Insn.is)
    (subst (λ (k : ℕ). OnOk r (new ≡ old ++ to_le_bytes w32
    (word_of (begun_insn c.args.symbols.now k c.in-Insn.insn c.in-Insn.link))))
    c.address_at.ensures.address c.push_insn.ensures.bytes)

pub returns-in-Insn-clause-waiting : goal.returns-in-Insn-clause-waiting
returns-in-Insn-clause-waiting c =
    let r = c.push_insn.result in
    let new = c.push_insn.new.waiting in
    let old = c.args.waiting.now in
    let ss = c.args.symbols.now in
    let n = c.args.line in
    subst (λ (b : Body). OnOk r
    (new ≡ old ++ open_in ss n (address c.args.location.now) b)) (sym c.in-Insn.is)
    (subst (λ (k : ℕ). OnOk r (new ≡ old ++ open_in ss n k (Insn c.in-Insn.insn c.in-Insn.link)))
    c.address_at.ensures.address c.push_insn.ensures.waiting)

pub returns-in-Values-clause-far : goal.returns-in-Values-clause-far
returns-in-Values-clause-far c =
    subst (λ (b : Body). IfOk c.none_far.result (λ (kind : Option AsmKind). kind
    ≡ far_fault c.args.symbols.now (address c.args.location.now) b)) (sym c.in-Values.is)
    c.none_far.ensures.far

pub returns-in-Align-clause-far : goal.returns-in-Align-clause-far
returns-in-Align-clause-far c =
    subst (λ (b : Body). IfOk c.none_far-in-Align.result (λ (kind : Option AsmKind). kind
    ≡ far_fault c.args.symbols.now (address c.args.location.now) b)) (sym c.in-Align.is)
    c.none_far-in-Align.ensures.far

pub returns-in-Fill-clause-far : goal.returns-in-Fill-clause-far
returns-in-Fill-clause-far c =
    subst (λ (b : Body). IfOk c.none_far-in-Fill.result (λ (kind : Option AsmKind). kind
    ≡ far_fault c.args.symbols.now (address c.args.location.now) b)) (sym c.in-Fill.is)
    c.none_far-in-Fill.ensures.far

pub returns-in-Insn-clause-far : goal.returns-in-Insn-clause-far
returns-in-Insn-clause-far c =
    let r = c.push_insn.result in
    let ss = c.args.symbols.now in
    subst (λ (b : Body). IfOk r (λ (kind : Option AsmKind). kind
    ≡ far_fault ss (address c.args.location.now) b)) (sym c.in-Insn.is)
    (subst (λ (k : ℕ). IfOk r (λ (kind : Option AsmKind). kind
    ≡ far_fault ss k (Insn c.in-Insn.insn c.in-Insn.link)))
    c.address_at.ensures.address c.push_insn.ensures.far)
