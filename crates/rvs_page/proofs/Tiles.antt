-- Tiles beside one another, as one list of pieces.
use Rattle.std.proofs.Common.{◌≡◌, ◌∙◌, ◌++◌, ◌∷◌, [], ℕ, List, refl, ap, codes}
use Rattle.std.proofs.lemmas.List.Concat.{flat_map-append}
use Rattle.rvs_page.specs.Head.{tile}
use Rattle.rvs_page.specs.Pieces.{piece_text, told}
use Rattle.rvs_page.specs.declared.pieces.Piece.{Piece}
use Rattle.rvs_page.specs.declared.pieces.Piece.TheVariants.{Html, Number}

pub both : (xs ys : List Piece) {a b : List ℕ} → told xs ≡ a → told ys ≡ b
    → told (xs ++ ys) ≡ a ++ b
unfolding told
both xs ys {a = a} first then =
    flat_map-append piece_text xs ys ∙ ap (λ t. t ++ told ys) first ∙ ap (λ t. a ++ t) then

-- the pieces of a tile
abbrev pieces-of : ℕ → List ℕ → List ℕ → List Piece
pieces-of number word class =
    Html (codes "<div") ∷ Html class ∷ Html (codes "><strong>") ∷ Number number
    ∷ Html (codes "</strong><span>") ∷ Html word ∷ Html (codes "</span></div>\n") ∷ []

pub two_tiles : (a b : ℕ)
    → told (Html (codes "<div><strong>") ∷ Number a
    ∷ Html (codes "</strong><span>instructions</span></div>\n<div><strong>") ∷ Number b
    ∷ Html (codes "</strong><span>points hit</span></div>\n</section>\n") ∷ [])
    ≡ (tile a (codes "instructions") [] ++ tile b (codes "points hit") [])
    ++ told (Html (codes "</section>\n") ∷ [])
unfolding told piece_text tile
two_tiles a b =
    let p = pieces-of a (codes "instructions") [] in
    let q = pieces-of b (codes "points hit") [] in
    both (p ++ q) (Html (codes "</section>\n") ∷ []) (both p q refl refl) refl

pub seven_tiles : (a b c d e f g : ℕ) (x y : List ℕ)
    → told (Html (codes "<section class=\"tiles\">\n<div><strong>") ∷ Number a
    ∷ Html (codes "</strong><span>tests</span></div>\n<div class=\"ok\"><strong>") ∷ Number b
    ∷ Html (codes "</strong><span>pass</span></div>\n<div") ∷ Html x ∷ Html (codes "><strong>")
    ∷ Number c ∷ Html (codes "</strong><span>fail</span></div>\n<div") ∷ Html y
    ∷ Html (codes "><strong>") ∷ Number d
    ∷ Html (codes "</strong><span>not run</span></div>\n<div><strong>") ∷ Number e
    ∷ Html (codes "</strong><span>points tested</span></div>\n<div><strong>") ∷ Number f
    ∷ Html (codes "</strong><span>unsolved</span></div>\n<div><strong>") ∷ Number g
    ∷ Html (codes "</strong><span>skipped</span></div>\n") ∷ [])
    ≡ told (Html (codes "<section class=\"tiles\">\n") ∷ [])
    ++ ((tile a (codes "tests") [] ++ (tile b (codes "pass") (codes " class=\"ok\"")
    ++ (tile c (codes "fail") x ++ tile d (codes "not run") y)))
    ++ (tile e (codes "points tested") [] ++ (tile f (codes "unsolved") []
    ++ tile g (codes "skipped") [])))
unfolding told piece_text tile
seven_tiles a b c d e f g x y =
    let p = pieces-of a (codes "tests") [] in
    let q = pieces-of b (codes "pass") (codes " class=\"ok\"") in
    let r = pieces-of c (codes "fail") x in
    let s = pieces-of d (codes "not run") y in
    let t = pieces-of e (codes "points tested") [] in
    let u = pieces-of f (codes "unsolved") [] in
    let v = pieces-of g (codes "skipped") [] in
    both (Html (codes "<section class=\"tiles\">\n") ∷ [])
    ((p ++ (q ++ (r ++ s))) ++ (t ++ (u ++ v))) refl
    (both (p ++ (q ++ (r ++ s))) (t ++ (u ++ v))
    (both p (q ++ (r ++ s)) refl (both q (r ++ s) refl (both r s refl refl)))
    (both t (u ++ v) refl (both u v refl refl)))
