-- The table of what hexadecimal digits count.
use Rattle.std.proofs.Common.{◌≡◌, ℕ, zero, suc, ◌+◌, ◌*◌, ◌/◌, ◌%◌, ◌^◌, ◌<◌, ◌≤◌, Bool, true}
use Rattle.std.proofs.Common.{false, ◌&&◌, cond}
use Rattle.std.proofs.Common.{List, [], ◌∷◌, Option, Some, None, refl, sym, ap, ◌∙◌, length, get_or}
use Rattle.std.proofs.Common.{arith, subst, rules}
use Rattle.std.proofs.lemmas.Bool.Decides.{nat_tests}
use Rattle.std.specs.Prelude.{◌==◌, nat_lt, IfSome}
use Rattle.rvs_log.specs.Grammar.{first_write, hex_run, hex_value}
use Rattle.rvs_log.proofs.Digits.{four_more}
use Rattle.rvs_log.proofs.Logs.{both}
use Rattle.rvs_log.specs.declared.places.TheConstants.{PLACES}

-- what an entry is for a digit, and for no digit
abbrev is_entry : ℕ → Option ℕ → ℕ → Bool
is_entry place None v = v == 4294967296
is_entry place (Some d) v = (v == 16 ^ place * d) && nat_lt d 16

-- each entry in turn, from a row on
abbrev fits_from : ℕ → List ℕ → Bool
fits_from k [] = true
fits_from k (v ∷ vs) = is_entry (k / 256) (hex_value (k % 256)) v && fits_from (k + 1) vs

fits_at : (b : ℕ) (vs : List ℕ) (k : ℕ) → fits_from b vs ≡ true → k < length vs
    → is_entry ((b + k) / 256) (hex_value ((b + k) % 256)) (get_or vs k 0) ≡ true
fits_at b [] k h l = absurd (omega arith)
fits_at b (v ∷ vs) zero h l = grind (arith, both)
fits_at b (v ∷ vs) (suc k) h l =
    let e : b + 1 + k ≡ b + suc k = omega arith in
    subst (λ n. is_entry (n / 256) (hex_value (n % 256)) (get_or vs k 0) ≡ true) e
    (fits_at (b + 1) vs k
    (both (is_entry (b / 256) (hex_value (b % 256)) v) (fits_from (b + 1) vs) h).1 (omega arith))

entry_at : (place byte : ℕ) → place < 4 → byte < 256
    → is_entry place (hex_value byte) (get_or PLACES (256 * place + byte) 0) ≡ true
entry_at place byte p h =
    let k = 256 * place + byte in
    let e : (0 + k) / 256 ≡ place = omega arith in
    let f : (0 + k) % 256 ≡ byte = omega arith in
    subst (λ n. is_entry n (hex_value byte) (get_or PLACES k 0) ≡ true) e
    (subst (λ n. is_entry ((0 + k) / 256) (hex_value n) (get_or PLACES k 0) ≡ true) f
    (fits_at 0 PLACES k refl (omega arith)))

equal : (a b : ℕ) → (a == b) ≡ true → a ≡ b
equal a b h = grind (arith, nat_tests)

none_is : (place : ℕ) (o : Option ℕ) (v : ℕ) → is_entry place o v ≡ true → o ≡ None
    → v ≡ 4294967296
none_is place o v h e = grind arith

digit_is : (place : ℕ) (o : Option ℕ) (v : ℕ) → is_entry place o v ≡ true
    → IfSome o (λ d. (d < 16) × (v ≡ 16 ^ place * d))
digit_is place o v h = grind arith

pub place_none : (place byte k : ℕ) → place < 4 → byte < 256 → k ≡ byte → hex_value byte ≡ None
    → get_or PLACES (256 * place + k) 0 ≡ 4294967296
place_none place byte k p h same e =
    subst (λ n. get_or PLACES (256 * place + n) 0 ≡ 4294967296) (sym same)
    (none_is place (hex_value byte) (get_or PLACES (256 * place + byte) 0)
    (entry_at place byte p h) e)

pub place_digit : (place byte k : ℕ) → place < 4 → byte < 256 → k ≡ byte
    → IfSome (hex_value byte) (λ d. (d < 16)
    × (get_or PLACES (256 * place + k) 0 ≡ 16 ^ place * d))
place_digit place byte k p h same = grind (arith, digit_is, entry_at)

digit_low : (place d : ℕ) → place < 4 → d < 16 → 16 ^ place * d ≤ 4294967296
digit_low zero d p h = omega arith
digit_low (suc zero) d p h = omega arith
digit_low (suc (suc zero)) d p h = omega arith
digit_low (suc (suc (suc zero))) d p h = omega arith
digit_low (suc (suc (suc (suc n)))) d p h = absurd (omega arith)

low_is : (place : ℕ) (o : Option ℕ) (v : ℕ) → place < 4 → is_entry place o v ≡ true → v ≤ 4294967296
low_is place o v p h = search (rules, equal, digit_is, digit_low)

pub place_low : (place byte k : ℕ) → place < 4 → byte < 256 → k ≡ byte
    → get_or PLACES (256 * place + k) 0 ≤ 4294967296
place_low place byte k p h same =
    subst (λ n. get_or PLACES (256 * place + n) 0 ≤ 4294967296) (sym same)
    (low_is place (hex_value byte) (get_or PLACES (256 * place + byte) 0) p
    (entry_at place byte p h))

-- what a digit counts at the last place
pub value_is : (o : Option ℕ) (v : ℕ) → (o ≡ None → v ≡ 4294967296)
    → IfSome o (λ d. (d < 16) × (v ≡ 16 ^ 0 * d)) → cond (nat_lt v 16) (Some v) None ≡ o
value_is o v n s = grind arith

-- a sum that stays small has digits alone
found : (G : Type 0) (scale v : ℕ) (o : Option ℕ) → (o ≡ None → v ≡ 4294967296)
    → IfSome o (λ d. (d < 16) × (v ≡ scale * d)) → v < 4294967296
    → ((d : ℕ) → o ≡ Some d → d < 16 → v ≡ scale * d → G) → G
found G scale v o n s h k = grind arith

-- four digits more, by what they count
pub four_counted : (v a b c d w x y z : ℕ) (bs : List ℕ)
    → (hex_value a ≡ None → w ≡ 4294967296)
    → IfSome (hex_value a) (λ k. (k < 16) × (w ≡ 16 ^ 3 * k))
    → (hex_value b ≡ None → x ≡ 4294967296)
    → IfSome (hex_value b) (λ k. (k < 16) × (x ≡ 16 ^ 2 * k))
    → (hex_value c ≡ None → y ≡ 4294967296)
    → IfSome (hex_value c) (λ k. (k < 16) × (y ≡ 16 ^ 1 * k))
    → (hex_value d ≡ None → z ≡ 4294967296)
    → IfSome (hex_value d) (λ k. (k < 16) × (z ≡ 16 ^ 0 * k))
    → w + x + y + z < 4294967296
    → hex_run v (a ∷ b ∷ c ∷ d ∷ bs) ≡ hex_run (65536 * v + (w + x + y + z)) bs
four_counted v a b c d w x y z bs wn ws xn xs yn ys zn zs h =
    let G = hex_run v (a ∷ b ∷ c ∷ d ∷ bs) ≡ hex_run (65536 * v + (w + x + y + z)) bs in
    found G (16 ^ 3) w (hex_value a) wn ws (omega (arith, h)) (λ p ep lp wp.
    found G (16 ^ 2) x (hex_value b) xn xs (omega (arith, h)) (λ q eq lq xq.
    found G (16 ^ 1) y (hex_value c) yn ys (omega (arith, h)) (λ r er lr yr.
    found G (16 ^ 0) z (hex_value d) zn zs (omega (arith, h)) (λ s es ls zs.
    let same : 4096 * p + 256 * q + 16 * r + s ≡ w + x + y + z = omega (arith, wp, xq, yr, zs) in
    four_more v a b c d p q r s bs ep eq er es
    ∙ ap (λ k. hex_run (65536 * v + k) bs) same))))

-- four digits are a small number
pub four_small : (a b c d : Option ℕ) (w x y z : ℕ)
    → (a ≡ None → w ≡ 4294967296) → IfSome a (λ k. (k < 16) × (w ≡ 16 ^ 3 * k))
    → (b ≡ None → x ≡ 4294967296) → IfSome b (λ k. (k < 16) × (x ≡ 16 ^ 2 * k))
    → (c ≡ None → y ≡ 4294967296) → IfSome c (λ k. (k < 16) × (y ≡ 16 ^ 1 * k))
    → (d ≡ None → z ≡ 4294967296) → IfSome d (λ k. (k < 16) × (z ≡ 16 ^ 0 * k))
    → w + x + y + z < 4294967296 → w + x + y + z < 65536
four_small a b c d w x y z wn ws xn xs yn ys zn zs h = grind (arith, found)

-- no write begins at a digit or behind it
digit_skips : (a d : ℕ) (bs : List ℕ) → hex_value a ≡ Some d
    → first_write false (a ∷ bs) ≡ first_write false bs
digit_skips a d bs e = grind (arith, equal)

-- nor among four digits
pub four_skipped : (a b c d w x y z : ℕ) (bs : List ℕ)
    → (hex_value a ≡ None → w ≡ 4294967296)
    → IfSome (hex_value a) (λ k. (k < 16) × (w ≡ 16 ^ 3 * k))
    → (hex_value b ≡ None → x ≡ 4294967296)
    → IfSome (hex_value b) (λ k. (k < 16) × (x ≡ 16 ^ 2 * k))
    → (hex_value c ≡ None → y ≡ 4294967296)
    → IfSome (hex_value c) (λ k. (k < 16) × (y ≡ 16 ^ 1 * k))
    → (hex_value d ≡ None → z ≡ 4294967296)
    → IfSome (hex_value d) (λ k. (k < 16) × (z ≡ 16 ^ 0 * k))
    → w + x + y + z < 4294967296
    → first_write false (a ∷ b ∷ c ∷ d ∷ bs) ≡ first_write false bs
four_skipped a b c d w x y z bs wn ws xn xs yn ys zn zs h = search (rules, found, digit_skips)
