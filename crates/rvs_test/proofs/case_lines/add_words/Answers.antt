use Rattle.std.proofs.Common.{◌++◌, ◌∙◌, sym, ap}
use Rattle.rvs_test_text.specs.TestText.{load_words}
use Rattle.rvs_test.proofs.Grows.{list_grows}
use Rattle.rvs_test.proofs.Loops.{words_more}
use Rattle.rvs_test.proofs.case_lines.add_words.Goals as goal

pub loop-n-preserved : goal.loop-n-preserved
loop-n-preserved c =
    let n = c.loop-n.n in
    list_grows _ _ _ _ _ _ c.loop-n.invariant c.in_ok-extend_from_slice.ensures.items
    (words_more 8 n ∙ ap (λ l. load_words 8 n ++ l) (sym c.load_word.ensures))
