-- The points of one more key.
use Rattle.std.proofs.Common.{◌≡◌, ℕ, ◌+◌, ◌<◌, List, [], ◌∷◌, ◌++◌, Option, sym, ap, ◌∙◌, length}
use Rattle.std.proofs.Common.{map, take, get_or, Bor, append_assoc}
use Rattle.std.specs.List.{cons_option}
use Rattle.std.proofs.lemmas.List.{map-append, take_more}
use Rattle.std.proofs.lemmas.List.Elements.{filter_map-append}
use Rattle.rvs_points.specs.declared.group.Kind.{Kind}
use Rattle.rvs_points.specs.Points.{Point, says}
use Rattle.rvs_demo.specs.Label.{told, points_of}

-- the point that a key says, where it says one
abbrev point_at : Kind → List ℕ → Option Point
point_at kind key = told kind key (says kind key)

abbrev texts : List (Bor (List ℕ)) → List (List ℕ)
texts keys = map (λ (key : Bor (List ℕ)). key.now) keys

one_more : (kind : Kind) (keys : List (Bor (List ℕ))) (i : ℕ) (d : Bor (List ℕ)) → i < length keys
    → points_of kind (texts (take (i + 1) keys))
    ≡ points_of kind (texts (take i keys)) ++ cons_option (point_at kind (get_or keys i d).now) []
unfolding points_of
one_more kind keys i d less =
    let text : Bor (List ℕ) → List ℕ = λ key. key.now in
    ap (λ l. points_of kind (texts l)) (take_more keys i d less)
    ∙ ap (points_of kind) (map-append text (take i keys) (get_or keys i d ∷ []))
    ∙ filter_map-append (point_at kind) (texts (take i keys)) ((get_or keys i d).now ∷ [])

pub points_more : (kind : Kind) (keys : List (Bor (List ℕ))) (i : ℕ) (d : Bor (List ℕ))
    (first before after : List Point) (p : Option Point) → i < length keys
    → before ≡ first ++ points_of kind (texts (take i keys))
    → p ≡ point_at kind (get_or keys i d).now → after ≡ before ++ cons_option p []
    → after ≡ first ++ points_of kind (texts (take (i + 1) keys))
points_more kind keys i d first before after p less inv is more =
    let points = points_of kind (texts (take i keys)) in
    more ∙ ap (λ l. l ++ cons_option p []) inv ∙ append_assoc first points (cons_option p [])
    ∙ ap (λ o. first ++ (points ++ cons_option o [])) is
    ∙ ap (λ l. first ++ l) (sym (one_more kind keys i d less))

-- points under seven kinds, one after the other
pub all_added : (l0 l1 l2 l3 l4 l5 l6 l7 a b c d e f g : List Point) → l1 ≡ l0 ++ a → l2 ≡ l1 ++ b
    → l3 ≡ l2 ++ c → l4 ≡ l3 ++ d → l5 ≡ l4 ++ e → l6 ≡ l5 ++ f → l7 ≡ l6 ++ g
    → l7 ≡ l0 ++ (a ++ (b ++ (c ++ (d ++ (e ++ (f ++ g))))))
all_added l0 l1 l2 l3 l4 l5 l6 l7 a b c d e f g e1 e2 e3 e4 e5 e6 e7 =
    e7 ∙ ap (λ l. l ++ g) e6 ∙ append_assoc l5 f g
    ∙ ap (λ l. l ++ (f ++ g)) e5 ∙ append_assoc l4 e (f ++ g)
    ∙ ap (λ l. l ++ (e ++ (f ++ g))) e4 ∙ append_assoc l3 d (e ++ (f ++ g))
    ∙ ap (λ l. l ++ (d ++ (e ++ (f ++ g)))) e3 ∙ append_assoc l2 c (d ++ (e ++ (f ++ g)))
    ∙ ap (λ l. l ++ (c ++ (d ++ (e ++ (f ++ g))))) e2
    ∙ append_assoc l1 b (c ++ (d ++ (e ++ (f ++ g))))
    ∙ ap (λ l. l ++ (b ++ (c ++ (d ++ (e ++ (f ++ g)))))) e1
    ∙ append_assoc l0 a (b ++ (c ++ (d ++ (e ++ (f ++ g)))))
