use Rattle.std.proofs.Common.{◌≡◌, ◌∙◌, ◌++◌, sym, ap, drop, string_bytes, Some, true, false}
use Rattle.rvs_yaml_text.specs.Scalar.{double, starts_with}
use Rattle.rvs_yaml_text.specs.Quotes.{escape}
use Rattle.rvs_yaml_text.proofs.Scans.{onto_all}
use Rattle.rvs_yaml_text.proofs.Quoting.{double-found, double-more_text, double-bad, double-none}
use Rattle.rvs_yaml_text.proofs.quoted.double.Goals as goal

pub returns-then-starts_with : goal.returns-then-starts_with
returns-then-starts_with c =
    let last : starts_with 34 c.in-Some.behind.now ≡ true =
    ap (starts_with 34) (sym c.as_bytes.ensures.value) ∙ sym c.starts_with.ensures
    ∙ c.if-starts_with.true in
    record {
      value = ap (λ r. Some (string_bytes c.push_str.new.self, r)) c.behind_first-next.ensures
          ∙ ap (λ ds. Some (ds, drop 1 c.in-Some.behind.now)) c.in_ok-push_str.ensures.bytes
          ∙ double-found (string_bytes c.loop-piece.done) c.args.text.now c.loop-piece.rest.now
          c.in-Some.piece.now c.in-Some.behind.now c.loop-piece.invariant.0
          c.in-Some.ensures.split last;
    }

pub returns-in_default-escape : goal.returns-in_default-escape
returns-in_default-escape c =
    let more : starts_with 34 c.in-Some.behind.now ≡ false =
    ap (starts_with 34) (sym c.as_bytes.ensures.value) ∙ sym c.starts_with.ensures
    ∙ c.if-starts_with.false in
    record {
      value = double-bad (string_bytes c.loop-piece.done) c.args.text.now c.loop-piece.rest.now
          c.in-Some.piece.now c.in-Some.behind.now c.loop-piece.invariant.0 c.in-Some.ensures.split
          more c.in-Some.ensures.stopped
          (c.in_default-escape.ensures.text
          ∙ ap escape (c.as_bytes-in-Some.ensures.value ∙ c.behind_first-next.ensures));
    }

pub loop-piece-preserved : goal.loop-piece-preserved
loop-piece-preserved c =
    let more : starts_with 34 c.in-Some.behind.now ≡ false =
    ap (starts_with 34) (sym c.as_bytes.ensures.value) ∙ sym c.starts_with.ensures
    ∙ c.if-starts_with.false in
    let letter : Some c.in-Some-escape.letter.now ≡ escape (drop 1 c.in-Some.behind.now) =
    c.in-Some-escape.ensures.text
    ∙ ap escape (c.as_bytes-in-Some.ensures.value ∙ c.behind_first-next.ensures) in (
      ap (λ r. onto_all (string_bytes c.push_str-in-Some.new.self) (double r))
          (c.behind_first-rest.ensures ∙ ap (drop 1) c.behind_first-next.ensures)
          ∙ ap (λ ds. onto_all ds (double (drop 1 (drop 1 c.in-Some.behind.now))))
          (c.in_ok-push_str-2.ensures.bytes
          ∙ ap (λ ds. ds ++ c.in-Some-escape.letter.now) c.in_ok-push_str.ensures.bytes)
          ∙ double-more_text (string_bytes c.loop-piece.done) c.args.text.now c.loop-piece.rest.now
          c.in-Some.piece.now c.in-Some.behind.now c.in-Some-escape.letter.now
          c.loop-piece.invariant.0 c.in-Some.ensures.split more c.in-Some.ensures.stopped
          letter,
      c.behind_first-rest.utf8,
    )

pub returns : goal.returns
returns c = record {
  value = double-none (string_bytes c.loop-piece.done) c.args.text.now
      c.loop-piece.rest.now c.loop-piece.invariant.0 c.in_default.ensures.split;
}
