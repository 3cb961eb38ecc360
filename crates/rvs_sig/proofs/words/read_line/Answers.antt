use Rattle.std.proofs.Common.{◌≡◌, Some, None, sym, ap, ◌∙◌}
use Rattle.hex.specs.Hex.{decode_sized}
use Rattle.rvs_sig.specs.Words.{word_of_digits}
use Rattle.rvs_sig.proofs.Decoding.{value_of-sized, value_of-written, value_of-refused}
use Rattle.rvs_sig.proofs.words.read_line.Goals as goal

pub returns-in-Ok : goal.returns-in-Ok
returns-in-Ok c =
    let digits = c.without_return.result.now in
    let word : word_of_digits digits ≡ Some c.from_be_bytes.result = value_of-sized digits
    ∙ value_of-written (decode_sized digits 4) c.decode_to_slice.new.out c.in-Ok.field-0
    c.decode_to_slice.auto.out c.in-Ok.ensures.value ∙ ap Some (sym c.from_be_bytes.ensures) in
    sym word ∙ ap word_of_digits c.without_return.ensures

pub returns-in-Err : goal.returns-in-Err
returns-in-Err c =
    let digits = c.without_return.result.now in
    let none : word_of_digits digits ≡ None = value_of-sized digits ∙ value_of-refused
    (decode_sized digits 4) c.decode_to_slice.new.out c.in-Err.field-0 c.in-Err.ensures.value in
    sym none ∙ ap word_of_digits c.without_return.ensures
