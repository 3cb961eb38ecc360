use Rattle.std.proofs.Common.{◌≡◌, ◌==◌, ◌+◌, List, ℕ, [], ◌∷◌, length, drop, refl, sym, ◌∙◌, arith}
use Rattle.std.proofs.lemmas.Bool.Decides.{nat_tests}
use Rattle.std.proofs.lemmas.List.{at_drop_more, at_drop_all}
use Rattle.rvs_isa.specs.IsaText.{are_in_order, letter_order}
use Rattle.rvs_isa.proofs.isa_text.are_in_order.Goals as goal

some_left : (c : ℕ) (cs : List ℕ) → are_in_order (c ∷ cs) [] ≡ (length (c ∷ cs) == 0)
some_left c cs = grind (arith, nat_tests)

nothing_left : (letters : List ℕ) → are_in_order letters [] ≡ (length letters == 0)
nothing_left [] = refl
nothing_left (c ∷ cs) = some_left c cs

pub loop-letter-preserved : goal.loop-letter-preserved
loop-letter-preserved c =
    let i = c.loop-letter.letter-index in
    let at = at_drop_more (are_in_order c.loop-letter.left.now) letter_order i 0 (omega arith) in
    c.without_first-left.ensures (drop (i + 1) letter_order) ∙ sym at ∙ c.loop-letter.invariant

pub returns : goal.returns
returns c =
    let at = at_drop_all (are_in_order c.loop-letter.left.now) letter_order
    c.loop-letter.letter-index (omega arith) in
    c.is_empty.ensures ∙ sym (nothing_left c.loop-letter.left.now) ∙ sym at
    ∙ c.loop-letter.invariant
