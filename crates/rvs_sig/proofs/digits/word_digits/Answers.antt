use Rattle.std.proofs.Common.{◌≡◌, ap, ◌∙◌}
use Rattle.std.proofs.lemmas.Result.{IfOk-at_ok}
use Rattle.hex.specs.Hex.{encode_lower}
use Rattle.rvs_sig.proofs.Writing.{digits-written}
use Rattle.rvs_sig.proofs.digits.word_digits.Goals as goal

pub returns : goal.returns
returns c =
    let written : c.encode_to_slice.new.output ≡ encode_lower c.as_slice.result.now = IfOk-at_ok
    (λ _. c.encode_to_slice.new.output ≡ encode_lower c.as_slice.result.now)
    c.unwrap.ensures c.encode_to_slice.ensures.written in
    written ∙ ap encode_lower (c.as_slice.ensures ∙ c.to_be_bytes-bytes.ensures)
    ∙ digits-written c.args.word
