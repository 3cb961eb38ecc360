-- The set of the pairs of kind and key.
use Rattle.std.proofs.Common.{◌≡◌, ℕ, Bool, true, false, ◌&&◌, List, [], ◌∷◌, ◌++◌, map, refl, sym}
use Rattle.std.proofs.Common.{ap, ◌∙◌, bytes_eq, ◌+◌, ◌<◌, ◌≤◌, arith, length, take, get_or}
use Rattle.std.proofs.Common.{add-one, append_assoc}
use Rattle.std.proofs.Math.Seq.{take-suc}
use Rattle.std.specs.Prelude.{◌||◌, String}
use Rattle.std.specs.BTreeSet.{BTreeSet, contains_text}
use Rattle.rvs_points.proofs.Distinct.{or-assoc}
use Rattle.rvs_cgf.specs.Groups.{has, is_point, same_kind}
use Rattle.rvs_points.specs.PointView.{point_view}
use Rattle.rvs_points.specs.Kinds.{mark}
use Rattle.rvs_cgf.specs.PointKeys.{AreKeysOf}
use Rattle.rvs_points.specs.declared.group.Kind.{Kind}
use Rattle.rvs_points.specs.declared.group.Point.{Point}
use Rattle.rvs_points.proofs.SameKinds.{mark-same}

or-false : (a : Bool) → (a || false) ≡ a
or-false true = refl
or-false false = refl

has-more : (k : Kind) (key : List ℕ) (ps : List Point) (p : Point)
    → has k key (map point_view (ps ++ p ∷ []))
    ≡ (has k key (map point_view ps) || is_point k key (point_view p))
has-more k key [] p = or-false (is_point k key (point_view p))
has-more k key (q ∷ qs) p = ap (λ b. is_point k key (point_view q) || b) (has-more k key qs p)
    ∙ or-assoc (is_point k key (point_view q)) (has k key (map point_view qs))
    (is_point k key (point_view p))

-- two marked texts are one exactly where kind and key are
marks : (a b : Kind) (x y : List ℕ)
    → bytes_eq (mark a ∷ x) (mark b ∷ y) ≡ (same_kind a b && bytes_eq x y)
marks a b x y = ap (λ t. t && bytes_eq x y) (mark-same a b)

pub keys_more : {Y : Type 0} (known s : BTreeSet (String Y)) (p : Point) (text : List ℕ)
    → text ≡ mark p.kind ∷ p.key
    → ((bs : List ℕ) → contains_text s bs ≡ (contains_text known bs || bytes_eq text bs))
    → (ps : List Point) → AreKeysOf known ps → AreKeysOf s (ps ++ p ∷ [])
keys_more known s p text e h ps keys k key =
    h (mark k ∷ key)
    ∙ ap (λ bs. contains_text known (mark k ∷ key) || bytes_eq bs (mark k ∷ key)) e
    ∙ ap (λ b. contains_text known (mark k ∷ key) || b) (marks p.kind k p.key key)
    ∙ ap (λ b. b || is_point k key (point_view p)) (keys k key)
    ∙ sym (has-more k key ps p)

-- one more of the points behind
pub next : (ps more : List Point) (i : ℕ) (d : Point) → i < length more
    → (ps ++ take i more) ++ (get_or more i d ∷ []) ≡ ps ++ take (i + 1) more
next ps more i d h = append_assoc ps (take i more) (get_or more i d ∷ [])
    ∙ ap (λ xs. ps ++ xs) (sym (rw add-one (take-suc more i d h)))

take-all : (xs : List Point) → take (length xs) xs ≡ xs
take-all [] = refl
take-all (x ∷ xs) = ap (λ ys. x ∷ ys) (take-all xs)

all : (ps more : List Point) → ps ++ take (length more) more ≡ ps ++ more
all ps more = ap (λ xs. ps ++ xs) (take-all more)

pub whole : (ps more : List Point) (i : ℕ) → length more ≤ i → i ≤ length more
    → ps ++ take i more ≡ ps ++ more
whole ps more i h k = ap (λ n. ps ++ take n more) (omega arith) ∙ all ps more
