-- Lines of points, of skipped entries and of labels, one after another.
use Rattle.std.proofs.Common.{◌≡◌, ℕ, ◌+◌, ◌<◌, List, [], ◌∷◌, ◌++◌, length, map, drop, get_or}
use Rattle.std.proofs.Common.{flat_map, Option, Some, refl, sym, ap, ◌∙◌, append_assoc}
use Rattle.std.proofs.Common.{append-nil}
use Rattle.std.proofs.lemmas.List.{drop_more}
use Rattle.rvs_cgf.specs.GroupView.{point_view, skipped_view, label_view}
use Rattle.rvs_cgf.specs.Print.{head_line, point_line, points_text, skipped_line, label_text}
use Rattle.rvs_points.specs.declared.group.Kind.{Kind}
use Rattle.rvs_points.specs.declared.group.Point.{Point}
use Rattle.rvs_points.specs.declared.group.Skipped.{Skipped}
use Rattle.rvs_points.specs.declared.group.Label.{Label}

drop-all : {A : Type 0} (xs : List A) → drop (length xs) xs ≡ []
drop-all [] = refl
drop-all (x ∷ xs) = drop-all xs

pub points_more : (text : List ℕ) (before : Option Kind) (ps : List Point) (i : ℕ) (d : Point)
    → i < length ps →
    (text ++ (head_line before (get_or ps i d).kind ++ point_line (get_or ps i d).key))
    ++ points_text (Some (get_or ps i d).kind) (map point_view (drop (i + 1) ps)) ≡ text
    ++ points_text before (map point_view (drop i ps))
points_more text before ps i d h =
    append_assoc text (head_line before (get_or ps i d).kind ++ point_line (get_or ps i d).key)
    (points_text (Some (get_or ps i d).kind) (map point_view (drop (i + 1) ps)))
    ∙ sym (ap (λ xs. text ++ points_text before (map point_view xs)) (drop_more ps i d h))

pub points_all : (text : List ℕ) (before : Option Kind) (ps : List Point)
    → text ++ points_text before (map point_view (drop (length ps) ps)) ≡ text
points_all text before ps =
    ap (λ xs. text ++ points_text before (map point_view xs)) (drop-all ps) ∙ append-nil text

pub skipped_more : (text : List ℕ) (ss : List Skipped) (i : ℕ) (d : Skipped) → i < length ss →
    (text ++ skipped_line (skipped_view (get_or ss i d)))
    ++ flat_map skipped_line (map skipped_view (drop (i + 1) ss)) ≡ text
    ++ flat_map skipped_line (map skipped_view (drop i ss))
skipped_more text ss i d h =
    append_assoc text (skipped_line (skipped_view (get_or ss i d)))
    (flat_map skipped_line (map skipped_view (drop (i + 1) ss)))
    ∙ sym (ap (λ xs. text ++ flat_map skipped_line (map skipped_view xs)) (drop_more ss i d h))

pub skipped_all : (text : List ℕ) (ss : List Skipped)
    → text ++ flat_map skipped_line (map skipped_view (drop (length ss) ss)) ≡ text
skipped_all text ss =
    ap (λ xs. text ++ flat_map skipped_line (map skipped_view xs)) (drop-all ss) ∙ append-nil text

pub labels_more : (text : List ℕ) (ls : List Label) (i : ℕ) (d : Label) → i < length ls →
    (text ++ label_text (label_view (get_or ls i d)))
    ++ flat_map label_text (map label_view (drop (i + 1) ls)) ≡ text
    ++ flat_map label_text (map label_view (drop i ls))
labels_more text ls i d h =
    append_assoc text (label_text (label_view (get_or ls i d)))
    (flat_map label_text (map label_view (drop (i + 1) ls)))
    ∙ sym (ap (λ xs. text ++ flat_map label_text (map label_view xs)) (drop_more ls i d h))

pub labels_all : (text : List ℕ) (ls : List Label)
    → text ++ flat_map label_text (map label_view (drop (length ls) ls)) ≡ text
labels_all text ls =
    ap (λ xs. text ++ flat_map label_text (map label_view xs)) (drop-all ls) ∙ append-nil text

-- six pieces, one after another
pub in_line : (a b c d e f : List ℕ)
    → ((((a ++ b) ++ c) ++ d) ++ e) ++ f ≡ a ++ (b ++ (c ++ (d ++ (e ++ f))))
in_line a b c d e f = append_assoc (((a ++ b) ++ c) ++ d) e f
    ∙ append_assoc ((a ++ b) ++ c) d (e ++ f) ∙ append_assoc (a ++ b) c (d ++ (e ++ f))
    ∙ append_assoc a b (c ++ (d ++ (e ++ f)))
