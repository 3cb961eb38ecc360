-- The texts of a list of scalars, one after another.
use Rattle.std.proofs.Common.{◌≡◌, ℕ, zero, suc, ◌+◌, true, false, List, [], ◌∷◌, ◌++◌}
use Rattle.std.proofs.Common.{map, take, slice_get, Some, None, refl, sym, ap, ◌∙◌, arith}
use Rattle.std.proofs.lemmas.Bool.{and_right}
use Rattle.std.specs.List.{list_all}
use Rattle.std.proofs.lemmas.List.{take_more, map-append}
use Rattle.std.proofs.lemmas.List.Folds.{list_all-append}
use Rattle.std.proofs.lemmas.Option.{slice_get_within, get_or_from_slice_get}
use Rattle.rvs_tree.specs.Data.{Data, is_scalar, members_of, text_of}
use Rattle.rvs_device.specs.DeviceFile.{scalar_texts}

not_all : (ds : List Data) (i : ℕ) (d : Data) → slice_get ds i ≡ Some d → is_scalar d ≡ false
    → list_all is_scalar ds ≡ false
not_all [] i d e f = absurd cc
not_all (y ∷ ds) zero d e f = grind arith
not_all (y ∷ ds) (suc i) d e f = simp (and_right, (not_all ds i d e f))

-- a member is no scalar
pub no-texts : (entry : Data) (i : ℕ) (d : Data) → slice_get (members_of entry) i ≡ Some d
    → is_scalar d ≡ false → scalar_texts entry ≡ None
no-texts entry i d e f = grind (arith, and_right, not_all)

one_more : (ds : List Data) (i : ℕ) (d : Data) → slice_get ds i ≡ Some d
    → take (i + 1) ds ≡ take i ds ++ d ∷ []
one_more ds i d e = take_more ds i d (slice_get_within ds i d e)
    ∙ ap (λ x. take i ds ++ x ∷ []) (get_or_from_slice_get ds i d d e)

-- one text more
pub texts-more : (texts : List (List ℕ)) (ds : List Data) (i : ℕ) (d : Data)
    → slice_get ds i ≡ Some d → texts ≡ map text_of (take i ds)
    → texts ++ text_of d ∷ [] ≡ map text_of (take (i + 1) ds)
texts-more texts ds i d e is =
    ap (λ (ts : List (List ℕ)). ts ++ text_of d ∷ []) is
    ∙ sym (map-append text_of (take i ds) (d ∷ [])) ∙ sym (ap (map text_of) (one_more ds i d e))

pub scalars-more : (ds : List Data) (i : ℕ) (d : Data) → slice_get ds i ≡ Some d
    → list_all is_scalar (take i ds) ≡ true → is_scalar d ≡ true
    → list_all is_scalar (take (i + 1) ds) ≡ true
scalars-more ds i d e before here =
    ap (list_all is_scalar) (one_more ds i d e) ∙ list_all-append is_scalar (take i ds) (d ∷ [])
    ∙ rw (before, here) refl
