use Rattle.std.proofs.Common.{◌++◌, ◌∷◌, [], List, ℕ, sym, ap, ◌∙◌, subst, take, append-nil}
use Rattle.std.specs.Int.{w32, to_le_bytes}
use Rattle.std.proofs.lemmas.List.{flat_map_more, take_all, take_more}
use Rattle.rvs_insn.specs.Fields.{Fields}
use Rattle.rvs_insn.specs.Word.{IsEncodable, word_of}
use Rattle.rvs_demo.specs.Program.{code}
use Rattle.rvs_demo.proofs.program.push_insns.Goals as goal

pub encode-requires : goal.encode-requires
encode-requires c =
    subst IsEncodable (sym c.insn-item.is) (c.requires c.loop-insn.insn-index c.insn-item.result
    c.loop-insn-test.true)

pub loop-insn-init : goal.loop-insn-init
loop-insn-init c = sym (append-nil c.args.text.now.items)

pub loop-insn-preserved : goal.loop-insn-preserved
loop-insn-preserved c =
    let bytes : Fields → List ℕ = λ i. to_le_bytes w32 (word_of i) in
    let first = c.args.text.now.items in
    let done = take c.loop-insn.insn-index c.args.insns.now in
    let insn = c.insn-item.result in
    c.in_ok-extend_from_slice.ensures.items
    ∙ ap (λ (l : List ℕ). c.loop-insn.text.items ++ l)
    (c.to_le_bytes.ensures ∙ ap (to_le_bytes w32) c.encode.ensures.word)
    ∙ ap (λ (l : List ℕ). l ++ bytes insn) c.loop-insn.invariant
    ∙ flat_map_more bytes first done insn
    ∙ ap (λ (l : List Fields). first ++ code l) (ap (λ (i : Fields). done ++ i ∷ []) c.insn-item.is
    ∙ sym (take_more c.args.insns.now c.loop-insn.insn-index insn c.loop-insn-test.true))

pub returns : goal.returns
returns c =
    c.loop-insn.invariant ∙ ap (λ (l : List Fields). c.args.text.now.items ++ code l)
    (take_all c.loop-insn.insn-index c.args.insns.now c.loop-insn-test.false)
