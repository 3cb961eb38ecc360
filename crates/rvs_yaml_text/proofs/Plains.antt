-- Plain scalars in a flow collection, byte by byte.
use Rattle.std.proofs.Common.{◌≡◌, ℕ, ◌+◌, ◌<◌, Bool, true, false, List, [], ◌∷◌, length}
use Rattle.std.proofs.Common.{take, drop, get_or, refl, append-nil, append_assoc}
use Rattle.std.proofs.Common.{arith}
use Rattle.std.specs.Prelude.{◌==◌}
use Rattle.std.proofs.lemmas.List.{take_more}
use Rattle.rvs_yaml_text.specs.Tokens.{ends_plain, plain_split, before}
use Rattle.rvs_yaml_text.proofs.Scans.{front_too, drop-at}

plain-here : (sp : Bool) (b : ℕ) (bs : List ℕ) → ends_plain sp b bs ≡ true
    → plain_split sp (b ∷ bs) ≡ ([], b ∷ bs)
plain-here sp b bs e = rw (e, plain_split) refl

plain-on : (sp : Bool) (b : ℕ) (bs : List ℕ) → ends_plain sp b bs ≡ false
    → plain_split sp (b ∷ bs) ≡ before b (plain_split (b == 32) bs)
plain-on sp b bs e = rw (e, plain_split) refl

pub plain-found : (sp : Bool) (bs : List ℕ) (i : ℕ) → i < length bs
    → ends_plain sp (get_or bs i 0) (drop (i + 1) bs) ≡ true
    → front_too (take i bs) (plain_split sp (drop i bs)) ≡ (take i bs, drop i bs)
plain-found sp bs i h e = simp (front_too, drop-at, plain-here, append-nil)

pub plain-more : (sp : Bool) (bs : List ℕ) (i : ℕ) → i < length bs
    → ends_plain sp (get_or bs i 0) (drop (i + 1) bs) ≡ false →
    front_too (take (i + 1) bs) (plain_split (get_or bs i 0 == 32) (drop (i + 1) bs))
    ≡ front_too (take i bs) (plain_split sp (drop i bs))
plain-more sp bs i h e = grind (arith, take_more, append_assoc, front_too, plain-on, drop-at)
