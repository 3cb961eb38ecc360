use Rattle.std.proofs.Common.{◌≡◌, ◌∙◌, ◌∷◌, [], sym, ap, option_map}
use Rattle.std.proofs.lemmas.Result.{err_from_is_err_and}
use Rattle.rvs_yaml_text.specs.Text.{word_at}
use Rattle.rvs_yaml_text.specs.WordView.{shape_view, word_view}
use Rattle.rvs_yaml.specs.Checks.{◌>>=◌}
use Rattle.rvs_yaml.specs.Filling.{hollow, flow_of, filled}
use Rattle.rvs_yaml.specs.FillView.{flow_view}
use Rattle.rvs_yaml.specs.LineParts.{words_in, rest_words}
use Rattle.rvs_yaml.specs.Stack.{step, steps}
use Rattle.rvs_yaml.specs.StackView.{open_blocks}
use Rattle.rvs_yaml.proofs.Giving.{passes_same, fails_kept}
use Rattle.rvs_yaml.proofs.WholeLines.{word-parts}
use Rattle.rvs_yaml.proofs.line.read_last.Goals as goal

pub returns-in_default : goal.returns-in_default
returns-in_default c =
    let words : rest_words c.args.line c.args.item c.args.column c.args.text.now ≡ [] =
    sym c.in-Ok.ensures
    ∙ ap (λ o. words_in (option_map word_view o)) c.in_default.is in
    ap (steps (open_blocks c.args.stack)) words

pub returns-in_err-stack : goal.returns-in_err-stack
returns-in_err-stack c =
    let bs = open_blocks c.args.stack in
    let word = c.in-Some.word in
    let w = word_view word in
    let parts = c.hollow_shape-shape.result in
    let f = flow_view parts.1 in
    let u = word_at word.line word.column (shape_view parts.0) in
    let words : rest_words c.args.line c.args.item c.args.column c.args.text.now ≡ w ∷ [] =
    sym c.in-Ok.ensures
    ∙ ap (λ o. words_in (option_map word_view o)) c.in-Some.is in
    let hollowed : u ≡ hollow w =
    ap (λ p. word_at word.line word.column p.0) c.hollow_shape-shape.ensures in
    let flow : f ≡ flow_of w.shape = ap (λ p. p.1) c.hollow_shape-shape.ensures in
    let p = err_from_is_err_and c.from_residual.result c.from_residual.ensures.1 in
    rw (p.1, p.2) (fails_kept _ (step bs u) _ (filled f) (word-parts bs w u f _ words hollowed flow)
    c.in_err-stack.ensures.given)

pub returns : goal.returns
returns c =
    let bs = open_blocks c.args.stack in
    let word = c.in-Some.word in
    let w = word_view word in
    let parts = c.hollow_shape-shape.result in
    let f = flow_view parts.1 in
    let u = word_at word.line word.column (shape_view parts.0) in
    let words : rest_words c.args.line c.args.item c.args.column c.args.text.now ≡ w ∷ [] =
    sym c.in-Ok.ensures
    ∙ ap (λ o. words_in (option_map word_view o)) c.in-Some.is in
    let hollowed : u ≡ hollow w =
    ap (λ p. word_at word.line word.column p.0) c.hollow_shape-shape.ensures in
    let flow : f ≡ flow_of w.shape = ap (λ p. p.1) c.hollow_shape-shape.ensures in
    passes_same _ _ _ _ (sym (ap (λ m. m >>= filled f) c.in_ok-stack.ensures.given)
    ∙ word-parts bs w u f _ words hollowed flow) c.filled.ensures
