-- The text of a window gives it.
use Rattle.std.proofs.Common.{◌≡◌, ℕ, ◌/◌, ◌%◌, ◌^◌, ◌<◌, ◌≤◌, Bool, true, false, List}
use Rattle.std.proofs.Common.{[], ◌∷◌, ◌++◌, length, Some, refl, ap, ◌∙◌, codes, arith}
use Rattle.std.proofs.lemmas.List.{length-append, length-map}
use Rattle.std.proofs.lemmas.Bool.Decides.{nat_tests}
use Rattle.std.specs.Prelude.{◌==◌, nat_le, nat_lt, map, position, option_and_then}
use Rattle.std.specs.List.{list_any}
use Rattle.rvs_base.specs.Number.{hex_digit_of, hex_word_of}
use Rattle.rvs_base.proofs.HexDigits.{length-hex_word_of}
use Rattle.rvs_base.proofs.Readings.{digits_of-hex_word}
use Rattle.rvs_words.specs.Windows.{address_of, window_at, window_of, with_window}
use Rattle.rvs_words.specs.Windows.{all_windows}
use Rattle.rvs_base.specs.declared.asked.Window.{Window}
use Rattle.rvs_words.specs.CommandLaws.{window_text, AreWindows, WindowsAreRead}
use Rattle.rvs_words.specs.LogWords.{signed_each, with_each, with_ranges}
use Rattle.rvs_words.specs.CommandLaws.{RangesAreRead, RangesAreReadEach}
use Rattle.rvs_words.proofs.FirstCuts.{first-at, take-front, drop-front}

apart : (d : ℕ) → d < 16 → (hex_digit_of d == 58) ≡ false
apart d h = grind (arith, nat_tests)

abbrev address-text : ℕ → List ℕ
address-text w = codes "0x" ++ hex_word_of w

address-read : (w : ℕ) → w < 2 ^ 32 → address_of (address-text w) ≡ Some w
address-read w h = simp (length-hex_word_of, digits_of-hex_word)

abbrev is-colon : ℕ → Bool
is-colon byte = byte == 58

no-colon : (w : ℕ) → w < 2 ^ 32 → list_any is-colon (address-text w) ≡ false
unfolding hex_word_of
no-colon w h =
    let a = apart (w / 16 ^ 7 % 16) (omega arith) in
    let b = apart (w / 16 ^ 6 % 16) (omega arith) in
    let c = apart (w / 16 ^ 5 % 16) (omega arith) in
    let d = apart (w / 16 ^ 4 % 16) (omega arith) in
    let e = apart (w / 16 ^ 3 % 16) (omega arith) in
    let f = apart (w / 16 ^ 2 % 16) (omega arith) in
    let g = apart (w / 16 ^ 1 % 16) (omega arith) in
    let i = apart (w / 16 ^ 0 % 16) (omega arith) in
    rw (a, b, c, d, e, f, g, i) refl

within-text : (front : List ℕ) (byte : ℕ) (back : List ℕ)
    → nat_lt (length front) (length (front ++ byte ∷ back)) ≡ true
within-text front byte back = simp length-append (grind (arith, nat_tests))

colon-at : (front back : List ℕ) → list_any is-colon front ≡ false
    → position is-colon (front ++ 58 ∷ back) ≡ Some (length front)
colon-at front back none = simp (first-at, within-text)

below : (lo hi : ℕ) → lo < hi → nat_lt lo hi ≡ true
below lo hi h = grind (arith, nat_tests)

window-at : (front back : List ℕ) (lo hi : ℕ) → address_of front ≡ Some lo
    → address_of back ≡ Some hi → lo < hi
    → window_at (front ++ 58 ∷ back) (length front) ≡ Some (record { lo = lo; hi = hi })
window-at front back lo hi a b h = grind (arith, take-front, drop-front, below)

window-read : (w : Window) → w.lo < w.hi → w.hi < 2 ^ 32 → window_of (window_text w) ≡ Some w
unfolding window_of
window-read w h l =
    let text = address-text w.lo ++ 58 ∷ address-text w.hi in
    ap (option_and_then (window_at text))
    (colon-at (address-text w.lo) (address-text w.hi) (no-colon w.lo (omega arith)))
    ∙ window-at (address-text w.lo) (address-text w.hi) w.lo w.hi (address-read w.lo (omega arith))
    (address-read w.hi l) h

all-read : (windows : List Window) → AreWindows windows
    → all_windows (map window_text windows) ≡ Some windows
all-read [] are = refl
all-read (w ∷ windows) are =
    let one = window-read w are.0 are.1 in
    let rest = all-read windows are.2 in
    (λ k. with_window (one k) (rest k))

few : (windows : List Window) → length windows ≤ 16
    → nat_le (length (map window_text windows)) 16 ≡ true
few windows h = simp length-map (grind (arith, nat_tests))

pub windows_are_read : WindowsAreRead
windows_are_read windows h are = simp (few, all-read)

pub ranges_are_read : RangesAreRead
ranges_are_read names range h l =
    ap (option_and_then (with_ranges names)) (all-read (range ∷ []) (h, l, tt))

-- as many ranges as logs
same-count : (n m : ℕ) → n ≡ m → (n == m) ≡ true
same-count n m same = grind (arith, nat_tests)

each-is-given : (names : List (List ℕ)) (ranges : List Window) → length ranges ≡ length names
    → with_each names ranges ≡ Some (signed_each names ranges)
each-is-given names ranges same = simp same-count

given-each : (names : List (List ℕ)) (ranges : List Window) → length ranges ≡ length names
    → with_ranges names ranges ≡ Some (signed_each names ranges)
given-each names [] same = each-is-given names [] same
given-each [] (range ∷ []) same = refl
given-each (name ∷ []) (range ∷ []) same = refl
given-each (name ∷ other ∷ names) (range ∷ []) same = absurd (omega arith)
given-each names (range ∷ second ∷ ranges) same = simp each-is-given

pub ranges_are_read_each : RangesAreReadEach
ranges_are_read_each names ranges same are = simp (all-read, given-each)
