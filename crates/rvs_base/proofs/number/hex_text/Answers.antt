use Rattle.std.proofs.Common.{◌≡◌, ◌<◌, List, ℕ, [], ◌∷◌, ◌++◌, length, get_or, string_bytes}
use Rattle.std.proofs.Common.{encode_utf8, arith, ap, subst, ◌∙◌, sym}
use Rattle.std.proofs.lemmas.List.{take_more}
use Rattle.rvs_base.specs.Number.{hex_word_of}
use Rattle.rvs_base.proofs.HexDigits.{hex_word_of-ascii, length-hex_word_of}
use Rattle.rvs_base.proofs.number.hex_text.Goals as goal

pub loop-digit-preserved : goal.loop-digit-preserved
loop-digit-preserved c =
    let i = c.loop-digit.digit-index in
    let word = c.args.word in
    let digit : c.from.result ≡ get_or (hex_word_of word) i 0 = c.from.ensures
    ∙ ap (λ (digits : List ℕ). get_or digits i 0) c.hex_word-digit-items.ensures in
    let ascii : c.from.result < 128 =
    subst (λ (d : ℕ). d < 128) (sym digit) (hex_word_of-ascii word i) in
    let piece : encode_utf8 c.from.result ≡ get_or (hex_word_of word) i 0 ∷ [] =
    c.in_ok-push.ensures.ascii ascii ∙ ap (λ (d : ℕ). d ∷ []) digit in
    let eight = length-hex_word_of word in
    let below : i < length (hex_word_of word) = omega (arith, eight, c.loop-digit-test.true) in
    c.in_ok-push.ensures.bytes ∙ ap (λ (p : List ℕ). string_bytes c.loop-digit.text ++ p) piece
    ∙ ap (λ (s : List ℕ). s ++ get_or (hex_word_of word) i 0 ∷ []) c.loop-digit.invariant
    ∙ sym (take_more (hex_word_of word) i 0 below)
