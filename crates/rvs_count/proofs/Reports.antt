-- Lines of points, of entries that aren't counted and of labels, one after another.
use Rattle.std.proofs.Common.{◌≡◌, ℕ, ◌+◌, ◌<◌, List, [], ◌∷◌}
use Rattle.std.proofs.Common.{◌++◌, length, map, drop, get_or, flat_map, refl}
use Rattle.std.proofs.Common.{arith, append_assoc, append-nil}
use Rattle.std.proofs.lemmas.List.{drop_more}
use Rattle.rvs_points.specs.PointView.{point_view, skipped_view}
use Rattle.rvs_points.specs.declared.group.Point.{Point}
use Rattle.rvs_points.specs.declared.group.Skipped.{Skipped}
use Rattle.rvs_count.specs.Report.{point_line, points_text, skipped_line}

drop-all : {A : Type 0} (xs : List A) → drop (length xs) xs ≡ []
drop-all [] = refl
drop-all (x ∷ xs) = drop-all xs

pub points_more : (text counts : List ℕ) (ps : List Point) (i : ℕ) (d : Point) → i < length ps
    → length counts ≡ length ps
    → (text ++ point_line (get_or counts i 0) (point_view (get_or ps i d)))
    ++ points_text (drop (i + 1) counts) (map point_view (drop (i + 1) ps))
    ≡ text ++ points_text (drop i counts) (map point_view (drop i ps))
points_more text counts ps i d h l = grind (arith, append_assoc, drop_more)

pub points_all : (text counts : List ℕ) (ps : List Point) → length counts ≡ length ps
    → text ++ points_text (drop (length ps) counts) (map point_view (drop (length ps) ps)) ≡ text
points_all text counts ps l = grind (arith, drop-all, append-nil)

pub skipped_more : (text : List ℕ) (ss : List Skipped) (i : ℕ) (d : Skipped) → i < length ss
    → (text ++ skipped_line (skipped_view (get_or ss i d)))
    ++ flat_map skipped_line (map skipped_view (drop (i + 1) ss))
    ≡ text ++ flat_map skipped_line (map skipped_view (drop i ss))
skipped_more text ss i d h = grind (arith, append_assoc, flat_map, drop_more)

pub skipped_all : (text : List ℕ) (ss : List Skipped)
    → text ++ flat_map skipped_line (map skipped_view (drop (length ss) ss)) ≡ text
skipped_all text ss = simp (flat_map, drop-all, append-nil)
