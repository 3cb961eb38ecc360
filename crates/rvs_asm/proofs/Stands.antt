-- The image that stands to a text.
use Rattle.std.proofs.Common.{◌≡◌, ℕ, ◌≤◌, true, cond, Some, None, sym, ap, ◌∙◌}
use Rattle.std.proofs.Common.{arith}
use Rattle.std.specs.Prelude.{nat_le, ◌==◌}
use Rattle.std.proofs.lemmas.Int.{ints}
use Rattle.std.proofs.lemmas.Bool.{and_from, lt-ltb}
use Rattle.std.proofs.lemmas.Bool.Decides.{nat_tests}
use Rattle.rvs_machine.specs.Image.{ImageValue, IsImage, is_image, if_image}
use Rattle.rvs_asm.specs.Locations.{start, labels}
use Rattle.rvs_asm.specs.Answer.{answer, text_readings, image_of, region_checked, if_all_there}
use Rattle.rvs_asm.specs.Answer.{if_linked, if_placed}
use Rattle.rvs_asm.specs.Laws.{PartsMakeAddress, OneImageEach, ImagesAreAnswered}

pub parts_make_address : PartsMakeAddress
parts_make_address address h = grind (arith, ints)

pub one_image : OneImageEach
one_image text isa a b p q = p.made ∙ sym q.made

zero_test : (n : ℕ) → n ≡ 0 → (n == 0) ≡ true
zero_test n h = grind (arith, nat_tests)

le_test : (m n : ℕ) → m ≤ n → nat_le m n ≡ true
le_test m n h = grind (arith, nat_tests)

in_order : (i : ImageValue) → IsImage i → is_image i ≡ true
in_order i h = grind (arith, and_from, zero_test, le_test, lt-ltb)

pub image_answered : ImagesAreAnswered
unfolding answer
image_answered text isa image a =
    let rs = text_readings text in
    let m = isa.memory in
    let ss = labels rs (start m) in
    ap (λ o. if_placed m o rs) a.placed
    ∙ ap (λ o. if_linked m o ss rs) a.linked
    ∙ ap (λ o. if_all_there o (image_of m ss rs)) a.marked
    ∙ ap (λ i. region_checked (if_image i)) (sym a.made)
    ∙ ap (λ b. region_checked (cond b (Some image) None)) (in_order image a.regions)
