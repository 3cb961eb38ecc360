use Rattle.std.proofs.Common.{◌≡◌, ◌≤◌, ◌-◌, true, false, List, [], ◌∷◌, length, take, drop}
use Rattle.std.proofs.Common.{get_or, sym, ap, ◌∙◌, arith}
use Rattle.std.specs.Option.{option_or}
use Rattle.std.proofs.lemmas.List.{nil_from_length, take_rest}
use Rattle.rvs_asm.specs.declared.mend.Mend.{Mend}
use Rattle.rvs_asm.specs.Faults.{at_line}
use Rattle.rvs_asm.specs.Mending.{first_unmended, mended}
use Rattle.rvs_asm.proofs.mending.mend_all.Goals as goal

split : (rest : List Mend) (place : Mend) → 1 ≤ length rest → place ≡ get_or rest 0 place
    → rest ≡ place ∷ take (length rest - 1) (drop 1 rest)
split [] place h e = absurd (omega arith)
split (x ∷ xs) place h e =
    ap (λ y. y ∷ xs) (sym e) ∙ ap (λ l. place ∷ l) (sym (take_rest (x ∷ xs) 1))

pub loop-rest-preserved : goal.loop-rest-preserved
loop-rest-preserved c =
    let ss = c.args.symbols.now in
    let rest = c.loop-rest.rest.now in
    let place = c.place-item.result in
    let after = take (length rest - 1) (drop 1 rest) in
    let parts : rest ≡ place ∷ after = split rest place c.in-len1-up.len_at_least c.place-item.is in
    record {
      fault = c.loop-rest.invariant.fault ∙ ap (first_unmended ss) parts
          ∙ ap (λ k. option_or (at_line place.line k) (first_unmended ss after))
          (sym c.mend_one.ensures.fault ∙ c.in-None.is);
      text_bytes = c.loop-rest.invariant.text_bytes
          ∙ ap (λ ms. mended c.args.memory true ss ms c.loop-rest.sections.text.items) parts
          ∙ ap (mended c.args.memory true ss after) (sym (c.mend_one.ensures.text c.in-None.is));
      data_bytes = c.loop-rest.invariant.data_bytes
          ∙ ap (λ ms. mended c.args.memory false ss ms c.loop-rest.sections.data_bytes.items) parts
          ∙ ap (mended c.args.memory false ss after)
          (sym (c.mend_one.ensures.data_bytes c.in-None.is));
    }

pub returns-in-Some-clause-fault : goal.returns-in-Some-clause-fault
returns-in-Some-clause-fault c =
    let ss = c.args.symbols.now in
    let rest = c.loop-rest.rest.now in
    let place = c.place-item.result in
    let after = take (length rest - 1) (drop 1 rest) in
    let parts : rest ≡ place ∷ after = split rest place c.in-len1-up.len_at_least c.place-item.is in
    sym (c.loop-rest.invariant.fault ∙ ap (first_unmended ss) parts
    ∙ ap (λ k. option_or (at_line place.line k) (first_unmended ss after))
    (sym c.mend_one.ensures.fault ∙ c.in-Some.is))

pub returns-clause-fault : goal.returns-clause-fault
returns-clause-fault c =
    let none = nil_from_length c.loop-rest.rest.now (omega arith) in
    sym (c.loop-rest.invariant.fault ∙ ap (first_unmended c.args.symbols.now) none)

pub returns-clause-text : goal.returns-clause-text
returns-clause-text c = λ _.
    let none = nil_from_length c.loop-rest.rest.now (omega arith) in
    sym (c.loop-rest.invariant.text_bytes ∙ ap (λ ms. mended c.args.memory true
    c.args.symbols.now ms c.loop-rest.sections.text.items) none)

pub returns-clause-data_bytes : goal.returns-clause-data_bytes
returns-clause-data_bytes c = λ _.
    let none = nil_from_length c.loop-rest.rest.now (omega arith) in
    sym (c.loop-rest.invariant.data_bytes ∙ ap (λ ms. mended c.args.memory false
    c.args.symbols.now ms c.loop-rest.sections.data_bytes.items) none)
