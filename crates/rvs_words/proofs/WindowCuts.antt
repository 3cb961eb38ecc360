-- A window by what stands around its colon, and an address by what stands behind `0x`.
use Rattle.std.proofs.Common.{◌≡◌, ℕ, suc, ◌+◌, Bool, true, false, cond, List, [], ◌∷◌, length}
use Rattle.std.proofs.Common.{take, drop, Option, Some, None, refl, ap, ◌∙◌, bytes_eq, codes, arith}
use Rattle.std.specs.Prelude.{◌==◌, ◌&&◌, not, nat_lt, option_and_then}
use Rattle.std.specs.List.{position_or_len}
use Rattle.rvs_base.specs.Digits.{short_number}
use Rattle.rvs_base.specs.Lines.{before, after}
use Rattle.rvs_words.specs.Windows.{address_of, window_between, window_at, window_of}
use Rattle.rvs_base.specs.declared.asked.Window.{Window}

-- how many bytes stand before the first colon
abbrev ahead : List ℕ → ℕ
ahead text = position_or_len (λ byte. byte == 58) text

front : (text : List ℕ) → take (ahead text) text ≡ before 58 text
front [] = refl
front (byte ∷ text) = by (byte == 58) (ahead text) (front text)
  where
    by : (b : Bool) (n : ℕ) → take n text ≡ before 58 text
        → take (cond (not b) (1 + n) 0) (byte ∷ text) ≡ cond b [] (byte ∷ before 58 text)
    by true n e = refl
    by false n e =
        let next : 1 + n ≡ suc n = omega arith in
        ap (λ k. take k (byte ∷ text)) next ∙ ap (λ l. byte ∷ l) e

-- what stands behind that many bytes and one more
abbrev behind : List ℕ → ℕ → Option (List ℕ)
behind text n = cond (nat_lt n (length text)) (Some (drop (n + 1) text)) None

one-more : (byte : ℕ) (text : List ℕ) (n : ℕ) → behind (byte ∷ text) (1 + n) ≡ behind text n
one-more byte text n = grind arith

back : (text : List ℕ) → behind text (ahead text) ≡ after 58 text
back [] = refl
back (byte ∷ text) = grind (arith, one-more, (back text))

abbrev pub around : List ℕ → Option (List ℕ) → Option Window
around lo hi = option_and_then
    (λ l. option_and_then (λ h. window_between l h) (option_and_then address_of hi)) (address_of lo)

abbrev no-window : ℕ → Option Window
no-window lo = None

nowhere : (lo : Option ℕ) → None ≡ option_and_then no-window lo
nowhere lo = grind arith

pub window_is_cut : (text : List ℕ) → window_of text ≡ around (before 58 text) (after 58 text)
unfolding window_of
window_is_cut text =
    by (nat_lt (ahead text) (length text)) ∙ (λ k. around (front text k) (back text k))
  where
    by : (b : Bool) → option_and_then (window_at text) (cond b (Some (ahead text)) None)
        ≡ around (take (ahead text) text) (cond b (Some (drop (ahead text + 1) text)) None)
    by true = refl
    by false = nowhere (address_of (take (ahead text) text))

both : (first second : Bool) (number : Option ℕ)
    → cond (first && second) number None ≡ cond (first && (second && true)) number None
both first second number = grind arith

pub address_is_prefixed : (text : List ℕ) → address_of text
    ≡ cond (bytes_eq (take 2 text) (codes "0x")) (short_number 8 16 (drop 2 text)) None
address_is_prefixed text = grind arith
