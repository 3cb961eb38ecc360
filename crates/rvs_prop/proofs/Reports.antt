-- Lines of points, and how many of them are measured, one after another.
use Rattle.std.proofs.Common.{◌≡◌, ℕ, ◌+◌, ◌<◌, List, [], ◌∷◌, ◌++◌, length, map, drop}
use Rattle.std.proofs.Common.{get_or, refl, arith, append_assoc, append-nil}
use Rattle.std.proofs.lemmas.List.{drop_more}
use Rattle.rvs_points.specs.PointView.{point_view}
use Rattle.rvs_points.specs.declared.group.Point.{Point}
use Rattle.rvs_prop.specs.Report.{measured, one_measured, point_line, points_text}

drop-all : {A : Type 0} (xs : List A) → drop (length xs) xs ≡ []
drop-all [] = refl
drop-all (x ∷ xs) = drop-all xs

pub points_more : (text rs hs : List ℕ) (ps : List Point) (i : ℕ) (d : Point) → i < length ps
    → length rs ≡ length ps → length hs ≡ length ps
    → (text ++ point_line (get_or rs i 0) (get_or hs i 0) (point_view (get_or ps i d)))
    ++ points_text (drop (i + 1) rs) (drop (i + 1) hs) (map point_view (drop (i + 1) ps))
    ≡ text ++ points_text (drop i rs) (drop i hs) (map point_view (drop i ps))
points_more text rs hs ps i d h l m = grind (arith, append_assoc, drop_more)

pub points_all : (text rs hs : List ℕ) (ps : List Point) → length rs ≡ length ps
    → text
    ++ points_text (drop (length ps) rs) (drop (length ps) hs)
    (map point_view (drop (length ps) ps))
    ≡ text
points_all text rs hs ps l = grind (arith, drop-all, append-nil)

pub measured_more : (n : ℕ) (ps : List Point) (i : ℕ) (d : Point) → i < length ps
    → n + one_measured (point_view (get_or ps i d)) + measured (map point_view (drop (i + 1) ps))
    ≡ n + measured (map point_view (drop i ps))
measured_more n ps i d h = grind (arith, drop_more)

pub measured_all : (n : ℕ) (ps : List Point)
    → n + measured (map point_view (drop (length ps) ps)) ≡ n
measured_all n ps = grind (arith, drop-all)
