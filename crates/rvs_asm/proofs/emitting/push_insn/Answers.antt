use Rattle.std.proofs.Common.{◌≡◌, [], ◌++◌, Some, sym, ap, ◌∙◌, subst}
use Rattle.std.specs.Int.{w32, to_le_bytes}
use Rattle.std.specs.Option.{option_map}
use Rattle.rvs_insn.specs.Table.{row}
use Rattle.rvs_insn.specs.Word.{word_of}
use Rattle.rvs_insn.specs.Fields.{Fields}
use Rattle.rvs_asm.specs.declared.mend.MendForm.{MendForm}
use Rattle.rvs_asm.specs.Unlinked.{unlinked_kind}
use Rattle.rvs_asm.specs.Begun.{form_of, if_far, open_place, symbol_in}
use Rattle.rvs_asm.proofs.Placed.{none_open, none_far, one_open}
use Rattle.rvs_asm.proofs.emitting.push_insn.Goals as goal

pub returns-in-None-clause-bytes : goal.returns-in-None-clause-bytes
returns-in-None-clause-bytes c =
    c.in_ok-push_word.ensures ∙ ap (λ w. c.args.out.now.items ++ to_le_bytes w32 w)
    (c.encode.ensures.word ∙ ap word_of c.begin_insn-unlinked.ensures.insn)

pub returns-in-None-clause-waiting : goal.returns-in-None-clause-waiting
returns-in-None-clause-waiting c =
    none_open c.args.waiting.now c.args.symbols.now (row c.args.insn.now.op).form c.args.place.at
    c.args.place.line c.args.place.at (form_of (row c.args.insn.now.op).form) c.args.link.now
    (sym c.begin_insn-unlinked.ensures.fault ∙ ap (option_map unlinked_kind) c.in-None.is)

pub returns-in-None-clause-far : goal.returns-in-None-clause-far
returns-in-None-clause-far c =
    ap if_far (sym (ap (option_map unlinked_kind) c.in-None.is)
    ∙ c.begin_insn-unlinked.ensures.fault)

pub returns-in-Far-clause-bytes : goal.returns-in-Far-clause-bytes
returns-in-Far-clause-bytes c =
    c.in_ok-push_word.ensures ∙ ap (λ w. c.args.out.now.items ++ to_le_bytes w32 w)
    (c.encode.ensures.word ∙ ap word_of c.begin_insn-unlinked.ensures.insn)

pub returns-in-Far-clause-waiting : goal.returns-in-Far-clause-waiting
returns-in-Far-clause-waiting c =
    none_far c.args.waiting.now c.args.symbols.now (row c.args.insn.now.op).form c.args.place.at
    c.args.place.line c.args.place.at (form_of (row c.args.insn.now.op).form) c.args.link.now
    c.in-Far.value
    (sym c.begin_insn-unlinked.ensures.fault ∙ ap (option_map unlinked_kind) c.in-Some.is
    ∙ ap (λ w. Some (unlinked_kind w)) c.in-Far.is)

pub returns-in_ok-push_named-in-Unknown-clause-bytes :
    goal.returns-in_ok-push_named-in-Unknown-clause-bytes
returns-in_ok-push_named-in-Unknown-clause-bytes c =
    c.in_ok-push_word.ensures ∙ ap (λ w. c.args.out.now.items ++ to_le_bytes w32 w)
    (c.encode.ensures.word ∙ ap word_of c.begin_insn-unlinked.ensures.insn)

pub returns-in_ok-push_named-in-Unknown-clause-waiting :
    goal.returns-in_ok-push_named-in-Unknown-clause-waiting
returns-in_ok-push_named-in-Unknown-clause-waiting c =
    let how : c.form_of.result ≡ form_of (row c.args.insn.now.op).form =
    c.form_of.ensures ∙ ap form_of
    (c.format.ensures ∙ ap (λ (i : Fields). (row i.op).form) c.insn.view_is) in
    one_open c.args.waiting.now c.args.symbols.now (row c.args.insn.now.op).form c.args.place.at
    c.args.place.line c.args.place.at (form_of (row c.args.insn.now.op).form) c.args.link.now
    c.push_named.new.waiting
    (sym c.begin_insn-unlinked.ensures.fault ∙ ap (option_map unlinked_kind) c.in-Some.is
    ∙ ap (λ w. Some (unlinked_kind w)) c.in-Unknown.is)
    (subst (λ (form : MendForm). c.push_named.new.waiting ≡ c.args.waiting.now
    ++ open_place [] c.args.place.line c.args.place.at form (symbol_in c.args.link.now)) how
    c.in_ok-push_named-in-Unknown.ensures)

pub returns-in_ok-push_named-in-Unknown-clause-far :
    goal.returns-in_ok-push_named-in-Unknown-clause-far
returns-in_ok-push_named-in-Unknown-clause-far c =
    ap if_far (sym (ap (option_map unlinked_kind) c.in-Some.is
    ∙ ap (λ w. Some (unlinked_kind w)) c.in-Unknown.is)
    ∙ c.begin_insn-unlinked.ensures.fault)
