use Rattle.rvs_test.proofs.Grows.{store_there}
use Rattle.rvs_test.proofs.case_lines.add_store_case.Goals as goal

pub returns : goal.returns
returns c =
    store_there c.args.choice.now c.args.k c.pointer-p.result c.marker-m.result c.insn.result
    c.args.list.now.items _ _ _ _ _ c.clear_scratch.result c.copy_word.result
    c.copy_word-2.result c.pointer-p.ensures.value c.marker-m.ensures.value c.insn.ensures
    c.clear_scratch.ensures c.copy_word.ensures c.copy_word-2.ensures
    c.in_ok-extend_from_slice.ensures.items c.in_ok-add_sources.ensures
    c.in_ok-extend_from_slice-2.ensures.items c.in_ok-extend_from_slice-3.ensures.items
    c.in_ok-extend_from_slice-4.ensures.items
