-- Lists of bytes.
use Rattle.std.proofs.Common.{ℕ, zero, suc, ◌<◌, List, [], ◌∷◌, ◌++◌, arith}
use Rattle.std.specs.Prelude.{take, slice_index}
use Rattle.std.specs.Int.{w32, to_le_bytes}

abbrev pub AreBytes : List ℕ → Type 0
AreBytes [] = Unit {0}
AreBytes (b ∷ bs) = (b < 256) × AreBytes bs

pub bytes_below : (bs : List ℕ) → AreBytes bs → (k : ℕ) → slice_index bs k < 256
bytes_below [] h k = omega arith
bytes_below (b ∷ bs) h zero = h.0
bytes_below (b ∷ bs) h (suc k) = bytes_below bs h.1 k

pub joined : (a b : List ℕ) → AreBytes a → AreBytes b → AreBytes (a ++ b)
joined [] b g h = h
joined (x ∷ a) b g h = (g.0, joined a b g.1 h)

pub front : (n : ℕ) (bs : List ℕ) → AreBytes bs → AreBytes (take n bs)
front zero bs h = tt
front (suc n) [] h = tt
front (suc n) (b ∷ bs) h = (h.0, front n bs h.1)

pub word_bytes : (w : ℕ) → AreBytes (to_le_bytes w32 w)
word_bytes w = (omega arith, (omega arith, (omega arith, (omega arith, tt))))
