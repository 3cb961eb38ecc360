-- Digits, taken one after another.
use Rattle.std.proofs.Common.{◌≡◌, ℕ, ◌+◌, ◌-◌, ◌*◌, ◌^◌, ◌<◌, ◌≤◌, Bool, true, false, cond, ◌&&◌}
use Rattle.std.proofs.Common.{List, [], ◌∷◌, length, Option, Some, None, SomeIff, nat_lt}
use Rattle.std.proofs.Common.{option_and_then, IfSome, arith, refl, ap}
use Rattle.std.proofs.Math.Nat.{mul-le-mul_left, pow-le-pow_left, pow-le-pow_right}
use Rattle.std.specs.List.{list_all}
use Rattle.std.specs.Char.{digit_value, is_digit}
use Rattle.std.specs.Str.Parse.{AllDigits, digits_value, digits_value_after}
use Rattle.std.proofs.lemmas.Bool.{le-ltb, lt-ltb, ltb-true}
use Rattle.std.proofs.lemmas.Int.Digits.{digits_value-lt}
use Rattle.rvs_base.specs.Digits.{digits_of, below, number_below}

-- the number below a limit that digits spell after those of n
abbrev pub spelled_after : ℕ → ℕ → ℕ → List ℕ → Option ℕ
spelled_after limit radix n text =
    cond (list_all (λ c. is_digit c radix) text && nat_lt (digits_value_after radix n text) limit)
    (Some (digits_value_after radix n text)) None

both_false : (a b : Bool) → b ≡ false → (a && b) ≡ false
both_false a b e = grind arith

more : (limit radix n c : ℕ) (cs : List ℕ) → is_digit c radix ≡ true
    → spelled_after limit radix n (c ∷ cs)
    ≡ spelled_after limit radix (n * radix + digit_value c) cs
more limit radix n c cs e = rw e refl

stops : (limit radix n c : ℕ) (cs : List ℕ) → is_digit c radix ≡ false
    → spelled_after limit radix n (c ∷ cs) ≡ None
stops limit radix n c cs e = rw e refl

grows_by : (radix m d : ℕ) → 1 ≤ radix → m ≤ m * radix + d
grows_by radix m d h = let e : m * 1 ≤ m * radix = mul-le-mul_left m h in omega (arith, e)

grows : (radix n : ℕ) (cs : List ℕ) → 1 ≤ radix → n ≤ digits_value_after radix n cs
grows radix n [] h = omega arith
grows radix n (c ∷ cs) h =
    omega (arith, grows_by radix n (digit_value c) h, grows radix (n * radix + digit_value c) cs h)

too_large : (limit radix n : ℕ) (cs : List ℕ) → 1 ≤ radix → limit ≤ n
    → spelled_after limit radix n cs ≡ None
too_large limit radix n cs h l = grind (arith, nat_lt, le-ltb, grows, both_false)

not_below : (m limit : ℕ) → (m < limit → ⊥) → limit ≤ m
not_below m limit h = omega arith

-- ---- the steps of the reader
pub spelled-more : (limit radix n c m : ℕ) (cs : List ℕ) → SomeIff (Some m)
    ((digit_value c < radix) × (n * radix + digit_value c < limit)) (n * radix + digit_value c)
    → spelled_after limit radix m cs ≡ spelled_after limit radix n (c ∷ cs)
spelled-more limit radix n c m cs h = grind (arith, lt-ltb, more)

pub spelled-none : (limit radix n c : ℕ) (cs : List ℕ) → 1 ≤ radix
    → ((digit_value c < radix) × (n * radix + digit_value c < limit) → ⊥)
    → spelled_after limit radix n (c ∷ cs) ≡ None
spelled-none limit radix n c cs r h = grind (arith, more, too_large, not_below, ltb-true, stops)

pub spelled-end : (limit radix n : ℕ) → n < limit → spelled_after limit radix n [] ≡ Some n
spelled-end limit radix n h = ap (λ b. cond b (Some n) None) (lt-ltb n limit h)

begins : (some all : Bool) (v limit : ℕ) → some ≡ true
    → option_and_then (below limit) (cond (some && all) (Some v) None)
    ≡ cond (all && nat_lt v limit) (Some v) None
begins some all v limit e = grind arith

pub spelled-all : (limit radix : ℕ) (text : List ℕ) → 0 < length text
    → number_below limit radix text ≡ spelled_after limit radix 0 text
unfolding digits_of
spelled-all limit radix text h =
    begins (nat_lt 0 (length text)) (list_all (λ c. is_digit c radix) text)
    (digits_value radix text) limit (lt-ltb 0 (length text) h)

pub number_below-empty : (limit radix : ℕ) → number_below limit radix [] ≡ None
unfolding digits_of
number_below-empty limit radix = refl

-- ---- few digits
both_true : (a b : Bool) → (a && b) ≡ true → (a ≡ true) × (b ≡ true)
both_true a b e = grind arith

all_digits : (radix : ℕ) (cs : List ℕ) → list_all (λ c. is_digit c radix) cs ≡ true
    → AllDigits radix cs
all_digits radix [] e = tt
all_digits radix (c ∷ cs) e =
    let (first, rest) = both_true (is_digit c radix) (list_all (λ c. is_digit c radix) cs) e in
    (ltb-true (digit_value c) radix first, all_digits radix cs rest)

pub few_fit : (radix most : ℕ) (text : List ℕ) → 2 ≤ radix → radix ≤ 16 → most ≤ 15
    → length text ≤ most → list_all (λ c. is_digit c radix) text ≡ true
    → (digits_value radix text < radix ^ most) × (digits_value radix text < 2 ^ 64 - 1)
few_fit radix most text low high few short e =
    grind (arith, digits_value-lt, all_digits, pow-le-pow_right, pow-le-pow_left)

kept : (b : Bool) (v limit : ℕ) → (b ≡ true → v < limit)
    → option_and_then (below limit) (cond b (Some v) None) ≡ cond b (Some v) None
kept b v limit h = grind arith

-- so many digits are below every limit of 64 bits
pub few_are_below : (radix most : ℕ) (text : List ℕ) → 2 ≤ radix → radix ≤ 16 → most ≤ 15
    → length text ≤ most → number_below (2 ^ 64 - 1) radix text ≡ digits_of radix text
unfolding digits_of
few_are_below radix most text low high few short =
    kept (nat_lt 0 (length text) && list_all (λ c. is_digit c radix) text) (digits_value radix text)
    (2 ^ 64 - 1)
    (λ e. (few_fit radix most text low high few short
    (both_true (nat_lt 0 (length text)) (list_all (λ c. is_digit c radix) text) e).1).1)

small_by : (b : Bool) (v limit : ℕ) → (b ≡ true → v < limit)
    → IfSome (cond b (Some v) None) (λ n. n < limit)
small_by b v limit h = grind arith

pub few_are_small : (radix most : ℕ) (text : List ℕ) → 2 ≤ radix → radix ≤ 16 → most ≤ 15
    → length text ≤ most → IfSome (digits_of radix text) (λ n. n < radix ^ most)
unfolding digits_of
few_are_small radix most text low high few short =
    small_by (nat_lt 0 (length text) && list_all (λ c. is_digit c radix) text)
    (digits_value radix text) (radix ^ most)
    (λ e. (few_fit radix most text low high few short
    (both_true (nat_lt 0 (length text)) (list_all (λ c. is_digit c radix) text) e).1).0)
