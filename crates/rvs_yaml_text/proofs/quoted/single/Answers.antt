use Rattle.std.proofs.Common.{◌≡◌, ◌∙◌, ◌∷◌, ◌++◌, [], sym, ap, drop, string_bytes, Some, true}
use Rattle.std.proofs.Common.{false}
use Rattle.rvs_yaml_text.specs.Scalar.{single, starts_with}
use Rattle.rvs_yaml_text.proofs.Scans.{onto_all}
use Rattle.rvs_yaml_text.proofs.Quoting.{single-found, single-more, single-none}
use Rattle.rvs_yaml_text.proofs.quoted.single.Goals as goal

pub returns-then-not-starts_with : goal.returns-then-not-starts_with
returns-then-not-starts_with c =
    let last : starts_with 39 c.in-Some.behind.now ≡ false =
    ap (starts_with 39) (sym c.as_bytes.ensures.value) ∙ sym c.starts_with.ensures
    ∙ c.if-not-starts_with.true in
    record {
      value = ap (λ ds. Some (ds, c.in-Some.behind.now)) c.in_ok-push_str.ensures.bytes
          ∙ single-found (string_bytes c.loop-piece.done) c.args.text.now c.loop-piece.rest.now
          c.in-Some.piece.now c.in-Some.behind.now c.loop-piece.invariant.0
          c.in-Some.ensures.split last;
    }

pub loop-piece-preserved : goal.loop-piece-preserved
loop-piece-preserved c =
    let more : starts_with 39 c.in-Some.behind.now ≡ true =
    ap (starts_with 39) (sym c.as_bytes.ensures.value) ∙ sym c.starts_with.ensures
    ∙ c.if-not-starts_with.false in (
      ap (λ r. onto_all (string_bytes c.push_str-in-Some.new.self) (single r))
          c.behind_first-rest.ensures
          ∙ ap (λ ds. onto_all ds (single (drop 1 c.in-Some.behind.now)))
          (c.in_ok-push_str-2.ensures.bytes
          ∙ ap (λ ds. ds ++ 39 ∷ []) c.in_ok-push_str.ensures.bytes)
          ∙ single-more (string_bytes c.loop-piece.done) c.args.text.now c.loop-piece.rest.now
          c.in-Some.piece.now c.in-Some.behind.now c.loop-piece.invariant.0
          c.in-Some.ensures.split more,
      c.behind_first-rest.utf8,
    )

pub returns : goal.returns
returns c = record {
  value = single-none (string_bytes c.loop-piece.done) c.args.text.now
      c.loop-piece.rest.now c.loop-piece.invariant.0 c.in_default.ensures.split;
}
