-- A list taken and dropped at its places.
use Rattle.std.proofs.Common.{◌≡◌, ℕ, ◌+◌, ◌<◌, List, [], ◌∷◌, length, take, drop, get_or, refl, ap}
use Rattle.std.proofs.Common.{add-one}
use Rattle.std.proofs.Math.Seq.{drop-cons}

pub drop-at : (bs : List ℕ) (i : ℕ) → i < length bs
    → drop i bs ≡ get_or bs i 0 ∷ drop (i + 1) bs
drop-at bs i h = rw add-one (drop-cons bs i 0 h)

pub drop-all : (bs : List ℕ) → drop (length bs) bs ≡ []
drop-all [] = refl
drop-all (b ∷ bs) = drop-all bs

pub take-all : (bs : List ℕ) → take (length bs) bs ≡ bs
take-all [] = refl
take-all (b ∷ bs) = ap (λ ys. b ∷ ys) (take-all bs)
