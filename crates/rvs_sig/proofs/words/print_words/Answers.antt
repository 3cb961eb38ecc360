use Rattle.std.proofs.Common.{◌≡◌, ◌≤◌, length, take, ap, ◌∙◌, arith}
use Rattle.std.specs.String.{string_vec, string_bytes}
use Rattle.std.proofs.lemmas.List.{take_all}
use Rattle.std.proofs.lemmas.Result.{IfOk-at_ok}
use Rattle.std.proofs.lemmas.Str.{IsUtf8-from_ascii}
use Rattle.rvs_sig.specs.Words.{text_of_words, words_of}
use Rattle.rvs_sig.proofs.Printing.{words_of-text, IsAscii-text}
use Rattle.rvs_sig.proofs.words.print_words.Goals as goal

pub unwrap-requires : goal.unwrap-requires
unwrap-requires c = c.from_utf8.ensures.succeeds (IsUtf8-from_ascii c.loop-word.bytes.items
    (rw c.loop-word.invariant (IsAscii-text (take c.loop-word.word-index c.args.words.now))))

pub returns-clause-read_again : goal.returns-clause-read_again
returns-clause-read_again c = λ few.
    let kept = IfOk-at_ok (λ t. string_vec t ≡ c.loop-word.bytes) c.unwrap.ensures
    c.from_utf8.ensures.ok in
    let bytes : string_bytes c.unwrap.result ≡ c.loop-word.bytes.items = ap (λ v. v.items) kept in
    let past : length c.args.words.now ≤ c.loop-word.word-index = omega arith in
    let text : c.from.result ≡ text_of_words c.args.words.now = c.from.ensures ∙ bytes
    ∙ c.loop-word.invariant
    ∙ ap text_of_words (take_all c.loop-word.word-index c.args.words.now past) in
    ap words_of text
    ∙ words_of-text c.args.words.now (record { each = λ k. (c.type_inv.words k).fits }) few
