use Rattle.std.proofs.Common.{◌+◌, ◌++◌, ◌∷◌, [], ℕ, List, Some, get_or, take, drop, length}
use Rattle.std.proofs.Common.{sym, ap, ◌∙◌, arith}
use Rattle.std.proofs.lemmas.List.{append_assoc, append-nil, take_more, take_rest, take_all}
use Rattle.std.proofs.lemmas.List.{at_drop_all, length-drop}
use Rattle.rvs_base.specs.Lines.{before, after}
use Rattle.rvs_base.proofs.Cuts.{found_front, found_back, passed_front, passed_back}
use Rattle.rvs_base.proofs.lines.cut.Goals as goal

pub loop-i-preserved : goal.loop-i-preserved
loop-i-preserved c =
    let b = c.args.byte in
    let text = c.args.text.now in
    let i = c.loop-i.i in
    let inside = c.loop-i-test.true in
    record {
      front = c.loop-i.invariant.front
          ∙ ap (λ (l : List ℕ). take i text ++ l) (passed_front b text i inside c.if-c-byte.false)
          ∙ sym (append_assoc (take i text) (get_or text i 0 ∷ []) (before b (drop (i + 1) text)))
          ∙ ap (λ (l : List ℕ). l ++ before b (drop (i + 1) text))
          (sym (take_more text i 0 inside));
      back = c.loop-i.invariant.back ∙ passed_back b text i inside c.if-c-byte.false;
    }

pub returns-then-c-byte : goal.returns-then-c-byte
returns-then-c-byte c =
    let b = c.args.byte in
    let text = c.args.text.now in
    let i = c.loop-i.i in
    let inside = c.loop-i-test.true in
    let rest = take_rest text (i + 1) in
    record {
      front = sym (c.loop-i.invariant.front
          ∙ ap (λ (l : List ℕ). take i text ++ l) (found_front b text i inside c.if-c-byte.true)
          ∙ append-nil (take i text));
      back = ap (λ (l : List ℕ). Some l) rest
          ∙ sym (c.loop-i.invariant.back ∙ found_back b text i inside c.if-c-byte.true);
      shorter = omega (
        arith,
        ap (λ (l : List ℕ). length l) rest,
        length-drop (i + 1) text,
        inside,
      );
    }

pub returns : goal.returns
returns c =
    let b = c.args.byte in
    let text = c.args.text.now in
    let i = c.loop-i.i in
    let past = c.loop-i-test.false in
    record {
      front = sym (c.loop-i.invariant.front
          ∙ ap (λ (l : List ℕ). take i text ++ l) (at_drop_all (before b) text i past)
          ∙ append-nil (take i text) ∙ take_all i text past);
      back = sym (c.loop-i.invariant.back ∙ at_drop_all (after b) text i past);
      shorter = tt;
    }
