use Rattle.std.proofs.Common.{[], ◌∷◌, ◌∙◌, ◌++◌, ◌≡◌, true, cond, ap, codes, sym}
use Rattle.rvs_page.proofs.Badges.{failed_begins}
use Rattle.rvs_page.proofs.Telling.{behind, behind-three, says}
use Rattle.rvs_page.specs.Failures.{failed_name, failed_text, failure_text}
use Rattle.rvs_page.specs.Pieces.{told}
use Rattle.rvs_page.specs.Said.{badge, badge_class, badge_word}
use Rattle.rvs_page.specs.Shown.{fails}
use Rattle.rvs_page.specs.declared.pieces.Piece.TheVariants.{Html}
use Rattle.rvs_page.proofs.failures.push_failure.Goals as goal

pub returns : goal.returns
unfolding badge failed_name failure_text
returns c =
    let l = c.args.label.now in
    let failing : fails l.state ≡ true = sym c.fails.ensures ∙ c.if-not-fails.false in
    says c.push_html-2.result c.args.page.now.items c.push_html-2.new.page.items
    (behind-three c.push_html-2.result c.args.page.now.items c.push_pieces.new.page.items
    c.push_html-2.new.page.items (told (Html (codes "<article class=\"fail\">\n<h3>") ∷ []))
    (badge l.state) (failed_name l) _
    (c.in_ok-push_pieces.ensures ∙ ap (λ t. c.args.page.now.items ++ t)
    (ap told (λ i. c.html.ensures i ∷ (c.html-2.ensures ∙ ap Html c.badge_texts.ensures.class) i
    ∷ c.html-3.ensures i ∷ (c.html-4.ensures ∙ ap Html c.badge_texts.ensures.word) i
    ∷ c.html-5.ensures i ∷ c.text.ensures i ∷ c.html-6.ensures i ∷ c.text-2.ensures i
    ∷ c.html-7.ensures i ∷ [])
    ∙ failed_begins l.name (badge_class l.state) (badge_word l.state)))
    (behind c.push_html-2.result c.push_pieces.new.page.items c.push_said_whole.new.page.items
    c.push_html-2.new.page.items _ _ c.in_ok-push_said_whole.ensures
    (behind c.push_html-2.result c.push_said_whole.new.page.items c.push_html.new.page.items
    c.push_html-2.new.page.items _ _ c.in_ok-push_html.ensures
    (behind c.push_html-2.result c.push_html.new.page.items c.push_cases.new.page.items
    c.push_html-2.new.page.items _ _ (rw c.as_slice.ensures at c.in_ok-push_cases.ensures)
    c.push_html-2.ensures))))
    (sym (ap (λ b. cond b (failed_text l) []) failing))
