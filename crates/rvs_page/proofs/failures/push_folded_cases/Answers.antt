use Rattle.std.proofs.Common.{[], ◌∷◌, ◌∙◌, ◌++◌, ◌≡◌, ap, length, rules}
use Rattle.rvs_page.proofs.Telling.{behind, says}
use Rattle.rvs_page.specs.Failures.{folded, folded_cases, folded_head}
use Rattle.rvs_page.specs.Pieces.{told}
use Rattle.rvs_page.specs.declared.pieces.Piece.TheVariants.{Number}
use Rattle.rvs_page.proofs.failures.push_folded_cases.Goals as goal

pub returns : goal.returns
unfolding folded_cases folded_head
returns c =
    let cases = c.args.cases.now in
    let some : folded cases ≡ folded_cases cases = search rules in
    says c.push_html.result c.args.page.now.items c.push_html.new.page.items
    (behind c.push_html.result c.args.page.now.items c.push_pieces.new.page.items
    c.push_html.new.page.items _ _
    (c.in_ok-push_pieces.ensures
    ∙ ap (λ ps. c.args.page.now.items ++ told ps) (λ i. c.html.ensures i
    ∷ Number (length cases) ∷ c.html-2.ensures i ∷ []))
    (behind c.push_html.result c.push_pieces.new.page.items c.push_cases_table.new.page.items
    c.push_html.new.page.items _ _ c.in_ok-push_cases_table.ensures c.push_html.ensures))
    some
