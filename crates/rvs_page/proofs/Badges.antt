-- Names with their badges, as one list of pieces.
use Rattle.std.proofs.Common.{◌≡◌, ◌++◌, ◌∷◌, [], ℕ, List, refl, codes}
use Rattle.rvs_page.specs.Pieces.{piece_text, told}
use Rattle.rvs_page.specs.declared.pieces.Piece.{Piece}
use Rattle.rvs_page.specs.declared.pieces.Piece.TheVariants.{Html, Text}
use Rattle.rvs_page.proofs.Tiles.{both}

abbrev badge-of : List ℕ → List ℕ → List Piece
badge-of class word =
    Html (codes "<b class=\"") ∷ Html class ∷ Html (codes "\">") ∷ Html word
    ∷ Html (codes "</b>") ∷ []

abbrev row-of : List ℕ → List Piece
row-of name =
    Html (codes "<tr><td><a href=\"#l-") ∷ Text name ∷ Html (codes "\">") ∷ Text name
    ∷ Html (codes "</a></td><td>") ∷ []

abbrev failed-of : List ℕ → List Piece
failed-of name =
    Html (codes " <a href=\"#l-") ∷ Text name ∷ Html (codes "\">") ∷ Text name
    ∷ Html (codes "</a></h3>\n<p>") ∷ []

pub row_begins : (name class word : List ℕ)
    → told (Html (codes "<tr><td><a href=\"#l-") ∷ Text name ∷ Html (codes "\">") ∷ Text name
    ∷ Html (codes "</a></td><td><b class=\"") ∷ Html class ∷ Html (codes "\">") ∷ Html word
    ∷ Html (codes "</b></td><td>") ∷ [])
    ≡ told (row-of name) ++ (told (badge-of class word) ++ told (Html (codes "</td><td>") ∷ []))
unfolding told piece_text
row_begins name class word =
    let end : List Piece = Html (codes "</td><td>") ∷ [] in
    both (row-of name) (badge-of class word ++ end) refl (both (badge-of class word) end refl refl)

pub failed_begins : (name class word : List ℕ)
    → told (Html (codes "<article class=\"fail\">\n<h3><b class=\"") ∷ Html class
    ∷ Html (codes "\">") ∷ Html word ∷ Html (codes "</b> <a href=\"#l-") ∷ Text name
    ∷ Html (codes "\">") ∷ Text name ∷ Html (codes "</a></h3>\n<p>") ∷ [])
    ≡ told (Html (codes "<article class=\"fail\">\n<h3>") ∷ [])
    ++ (told (badge-of class word) ++ told (failed-of name))
unfolding told piece_text
failed_begins name class word =
    both (Html (codes "<article class=\"fail\">\n<h3>") ∷ [])
    (badge-of class word ++ failed-of name) refl
    (both (badge-of class word) (failed-of name) refl refl)
