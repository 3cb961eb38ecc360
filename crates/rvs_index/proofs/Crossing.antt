-- Cross points among the points, and what the ends of a run add to their counts.
use Rattle.std.proofs.Common.{◌≡◌, ℕ, ◌+◌, ◌≤◌, Bool, true}
use Rattle.std.proofs.Common.{false, cond, List, [], ◌∷◌, ◌++◌, Option, Some, refl}
use Rattle.std.proofs.Common.{length, arith, rules}
use Rattle.std.proofs.lemmas.List.{length-map}
use Rattle.std.proofs.lemmas.List.Folds.{list_any-append}
use Rattle.std.specs.List.{list_any}
use Rattle.std.specs.Prelude.{map}
use Rattle.rvs_points.specs.Points.{Meaning, window}
use Rattle.rvs_points.specs.PointView.{label_view, meaning_view, point_view}
use Rattle.rvs_points.specs.declared.group.Label.{Label}
use Rattle.rvs_points.specs.declared.group.Meaning as code
use Rattle.rvs_points.specs.declared.group.Point.{Point}
use Rattle.rvs_insn.specs.Fields.{Fields}
use Rattle.rvs_insn.specs.declared.op.Op.{Op}
use Rattle.rvs_index.specs.Counting.{Aim, aims_in, aims_of_label, aims_of_points}
use Rattle.rvs_index.specs.Index.{has_places}
use Rattle.rvs_index.specs.State.{added, ends_run}
use Rattle.rvs_index.proofs.Matching.{length_matches}
use Rattle.rvs_index.proofs.Sequels.{last_all}

abbrev pub bit : Bool → ℕ
bit b = cond b 1 0

-- ---- a cross point has one to six places
abbrev pub IsSized : Meaning → Type 0
IsSized (window ps) = (1 ≤ length ps) × (length ps ≤ 6)
IsSized _ = Unit {0}

abbrev pub AllSized : List Aim → Type 0
AllSized [] = Unit {0}
AllSized (a ∷ aims) = IsSized a.point.meaning × AllSized aims

sized_both : (xs ys : List Aim) → AllSized xs → AllSized ys → AllSized (xs ++ ys)
sized_both [] ys p q = q
sized_both (x ∷ xs) ys p q = (p.0, sized_both xs ys p.1 q)

sized_meaning : (m : code.Meaning) → IsSized (meaning_view m)
sized_meaning m = search (rules, length-map)

sized_points : (ops : List Op) (points : List Point)
    → AllSized (aims_of_points ops (map point_view points))
sized_points ops [] = tt
sized_points ops (p ∷ ps) = (sized_meaning p.meaning, sized_points ops ps)

sized_label : (l : Label) → AllSized (aims_of_label (label_view l))
sized_label l = grind (arith, sized_points)

pub aims_sized : (labels : List Label) → AllSized (aims_in labels)
aims_sized [] = tt
aims_sized (l ∷ labels) = grind (arith, sized_both, sized_label, (aims_sized labels))

-- ---- whether there is one of so many places
abbrev has : ℕ → Aim → Bool
has count a = has_places count a.point.meaning

cross_points : (count : ℕ) (ops : List Op) (points : List Point)
    → list_any (λ (p : Point). has_places count (meaning_view p.meaning)) points
    ≡ list_any (has count) (aims_of_points ops (map point_view points))
cross_points count ops [] = refl
cross_points count ops (p ∷ ps) = simp (cross_points count ops ps)

pub selected_label : (count : ℕ) (l : Label) (points : List Point) (answer : Bool)
    → l.selected ≡ true
    → points ≡ l.points
    → answer ≡ list_any (λ (p : Point). has_places count (meaning_view p.meaning)) points
    → answer ≡ list_any (λ (a : Aim). has_places count a.point.meaning)
    (aims_of_label (label_view l))
selected_label count l points answer s e h = grind (arith, cross_points)

pub cross_labels : (count : ℕ) (labels : List Label)
    → list_any (λ (l : Label). list_any (λ (a : Aim). has_places count a.point.meaning)
    (aims_of_label (label_view l))) labels
    ≡ list_any (λ (a : Aim). has_places count a.point.meaning) (aims_in labels)
cross_labels count [] = refl
cross_labels count (l ∷ labels) = simp (list_any-append, (cross_labels count labels))

-- ---- counts that two passes add to
pub added_sum : (p q r : Aim → Bool) → ((a : Aim) → bit (p a) + bit (q a) ≡ bit (r a))
    → (aims : List Aim) (cs : List ℕ) → added q aims (added p aims cs) ≡ added r aims cs
added_sum p q r h [] cs = refl
added_sum p q r h (a ∷ aims) [] = refl
added_sum p q r h (a ∷ aims) (c ∷ cs) = grind (arith, (added_sum p q r h aims cs))

-- ---- the ends of a run
abbrev pub some : Fields → Option Fields
some i = Some i

-- no instructions end with a window
none_end : (m : Meaning) → IsSized m → ends_run m [] ≡ false
none_end m h = search (rules, last_all, length_matches)

pub none_added : (aims : List Aim) (cs : List ℕ) → AllSized aims
    → added (λ a. ends_run a.point.meaning []) aims cs ≡ cs
none_added [] cs h = refl
none_added (a ∷ aims) [] h = refl
none_added (a ∷ aims) (c ∷ cs) h = grind (arith, none_end, (none_added aims cs h.1))
