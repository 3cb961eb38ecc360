use Rattle.std.proofs.Common.{[], ◌∷◌, ◌++◌, ◌∙◌, ◌≡◌, Bool, true, false, cond, List, ap, codes, refl}
use Rattle.rvs_page.proofs.Telling.{says}
use Rattle.rvs_page.proofs.Tiles.{both}
use Rattle.rvs_page.specs.Head.{head_text, header_text, title_text, truth}
use Rattle.rvs_page.specs.Head.{verdict_class, verdict_word}
use Rattle.rvs_page.specs.Pieces.{piece_text, told}
use Rattle.rvs_page.specs.Style.{colours, frame_style, numbers_style, failures_style, bars_style}
use Rattle.rvs_page.specs.Style.{print_style, style}
use Rattle.rvs_page.specs.declared.pieces.Piece.{Piece}
use Rattle.rvs_page.specs.declared.pieces.Piece.TheVariants.{Html, Text, Number, Word}
use Rattle.rvs_page.proofs.head.push_head.Goals as goal

told-truth : (b : Bool) → cond b (codes "true") (codes "false") ≡ truth b
told-truth true = refl
told-truth false = refl

pub returns : goal.returns
unfolding piece_text told colours frame_style numbers_style failures_style bars_style print_style
    style head_text header_text title_text
returns c =
    let page = c.args.shown.now in
    let v = c.args.verdict in
    let title : List Piece =
    Html (codes "<!DOCTYPE html>\n<html lang=\"en\">\n<head>\n<meta charset=\"utf-8\">\n")
    ∷ Html (codes "<meta name=\"viewport\" content=\"width=device-width, initial-scale=1\">\n")
    ∷ Html (codes "<meta name=\"color-scheme\" content=\"light dark\">\n<title>rvsuite: ")
    ∷ Html (verdict_word v) ∷ Html (codes ", ") ∷ Text page.device ∷ Html (codes ", ")
    ∷ Text page.core.isa ∷ Html (codes "</title>\n<style>\n") ∷ [] in
    let header : List Piece =
    Html (codes "</style>\n</head>\n<body>\n<main>\n<header>\n<p class=\"verdict ")
    ∷ Html (verdict_class v) ∷ Html (codes "\">") ∷ Html (verdict_word v)
    ∷ Html (codes "</p>\n<div>\n<h1>") ∷ Text page.device ∷ Html (codes "</h1>\n<p>")
    ∷ Text page.core.isa ∷ Html (codes ", misaligned data ") ∷ Html (truth page.core.misaligned)
    ∷ Html (codes ", ") ∷ Number page.core.address_bits ∷ Html (codes " address bits, misa 0x")
    ∷ Word page.core.misa ∷ Html (codes "</p>\n</div>\n</header>\n") ∷ [] in
    let styled : List Piece = Html style ∷ [] in
    says c.push_pieces.result c.args.page.now.items c.push_pieces.new.page.items
    c.push_pieces.ensures
    (ap told (λ i. c.html.ensures i ∷ (c.html-2.ensures ∙ ap Html c.verdict_texts.ensures.word) i
    ∷ c.html-3.ensures i ∷ c.text.ensures i ∷ c.html-4.ensures i ∷ c.text-2.ensures i
    ∷ c.html-5.ensures i ∷ (c.html-6.ensures ∙ ap Html c.verdict_texts.ensures.class) i
    ∷ c.html-7.ensures i ∷ (c.html-8.ensures ∙ ap Html c.verdict_texts.ensures.word) i
    ∷ c.html-9.ensures i ∷ c.text-3.ensures i ∷ c.html-10.ensures i ∷ c.text-4.ensures i
    ∷ c.html-11.ensures i ∷ (c.either.ensures ∙ ap Html (told-truth page.core.misaligned)) i
    ∷ c.html-12.ensures i ∷ Number (c.from.ensures i) ∷ c.html-13.ensures i
    ∷ Word page.core.misa ∷ c.html-14.ensures i ∷ [])
    ∙ both title (styled ++ header) refl (both styled header refl refl))
