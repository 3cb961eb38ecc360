-- Lines of points, of entries that aren't read and of labels, one after another.
use Rattle.std.proofs.Common.{◌≡◌, ℕ, ◌+◌, ◌<◌, List, [], ◌∷◌, ◌++◌, length, map, drop}
use Rattle.std.proofs.Common.{get_or, refl, sym, ap, ◌∙◌, append_assoc, append-nil}
use Rattle.std.proofs.lemmas.List.{drop_more}
use Rattle.rvs_cgf.specs.GroupView.{point_view}
use Rattle.rvs_points.specs.declared.group.Point.{Point}
use Rattle.rvs_test_text.specs.declared.claim.Claim.{Claim}
use Rattle.rvs_generate.specs.GenerateTexts.{point_line, point_lines}
use Rattle.rvs_test_text.specs.Claims.{case_at, claims_after}

drop-all : {A : Type 0} (xs : List A) → drop (length xs) xs ≡ []
drop-all [] = refl
drop-all (x ∷ xs) = drop-all xs

pub lines_more : (text : List ℕ) (cs : List Claim) (ps : List Point) (i : ℕ) (d : Point)
    → i < length ps
    → (text ++ point_line (case_at cs i) (point_view (get_or ps i d)))
    ++ point_lines (claims_after cs i) (i + 1) (map point_view (drop (i + 1) ps))
    ≡ text ++ point_lines cs i (map point_view (drop i ps))
lines_more text cs ps i d h =
    append_assoc text (point_line (case_at cs i) (point_view (get_or ps i d)))
    (point_lines (claims_after cs i) (i + 1) (map point_view (drop (i + 1) ps)))
    ∙ sym (ap (λ xs. text ++ point_lines cs i (map point_view xs)) (drop_more ps i d h))

pub lines_all : (text : List ℕ) (cs : List Claim) (ps : List Point) (n : ℕ)
    → text ++ point_lines cs n (map point_view (drop (length ps) ps)) ≡ text
lines_all text cs ps n =
    ap (λ xs. text ++ point_lines cs n (map point_view xs)) (drop-all ps) ∙ append-nil text
