use Rattle.std.proofs.Common.{◌≡◌, ◌-◌, ◌∙◌, sym, ap, arith, length, true, false, Ok}
use Rattle.rvs_text.specs.Spaces.{without_spaces}
use Rattle.rvs_yaml_text.specs.Word.{dash}
use Rattle.rvs_yaml.specs.Stack.{step, steps}
use Rattle.rvs_yaml_text.specs.Text.{word_at, words_at, item_name}
use Rattle.rvs_yaml.specs.StackView.{open_blocks}
use Rattle.rvs_yaml.proofs.Lining.{spaces-length, spaces-twice, words-first, words-next, words-rest}
use Rattle.rvs_yaml.proofs.Giving.{passes_same}
use Rattle.rvs_yaml.proofs.WholeLines.{steps-next}
use Rattle.rvs_yaml.proofs.line.read_words.Goals as goal

pub loop-behind-init : goal.loop-behind-init
loop-behind-init c =
    let text = c.args.text.now in
    let bs = open_blocks c.args.stack in
    let is = c.without_spaces-rest.ensures in (
      ap (λ r. steps bs (words_at c.args.line false (length text - length r) r)) is
          ∙ ap (steps bs) (sym (words-first c.args.line text)),
      ap without_spaces is ∙ spaces-twice text ∙ sym is,
      omega (arith, ap length is, spaces-length text),
      c.without_spaces-rest.utf8,
    )

pub loop-behind-smaller : goal.loop-behind-smaller
loop-behind-smaller c = omega (
  arith,
  ap length c.without_spaces-rest-in-Some.ensures,
  spaces-length c.in-Some.behind.now,
  c.in-Some.ensures.shorter,
)

pub loop-behind-preserved : goal.loop-behind-preserved
loop-behind-preserved c =
    let n = length c.args.text.now in
    let here = open_blocks c.loop-behind.stack in
    let after = open_blocks c.in_ok-stack.stack in
    let rest = c.loop-behind.rest.now in
    let behind = c.in-Some.behind.now in
    let is = c.without_spaces-rest-in-Some.ensures in
    let w = word_at c.args.line (n - length rest) (dash (item_name behind)) in
    let stepped : step here w ≡ Ok after =
    ap (λ name. step here (word_at c.args.line (n - length rest) (dash name)))
    (sym c.item_name.ensures) ∙ c.in_ok-stack.ensures.given in (
      ap (λ r. steps after (words_at c.args.line true (n - length r) r)) is
          ∙ steps-next here after w _ stepped
          ∙ sym (ap (steps here) (words-next c.args.line c.loop-behind.item n rest behind
          c.in-Some.ensures.split c.loop-behind.invariant.2))
          ∙ c.loop-behind.invariant.0,
      ap without_spaces is ∙ spaces-twice behind ∙ sym is,
      omega (
        arith,
        ap length is,
        spaces-length behind,
        c.in-Some.ensures.shorter,
        c.loop-behind.invariant.2,
      ),
      c.without_spaces-rest-in-Some.utf8,
    )

pub returns : goal.returns
returns c =
    let n = length c.args.text.now in
    let here = open_blocks c.loop-behind.stack in
    let rest = c.loop-behind.rest.now in
    passes_same _ _ _ _ (sym (ap (steps here) (words-rest c.args.line c.loop-behind.item
    (n - length rest) rest c.in_default.ensures.split c.loop-behind.invariant.1))
    ∙ c.loop-behind.invariant.0) c.read_last.ensures
