-- Keys of bytes that have no part in what isn't read: they are printable, and aren't passed over.
use Rattle.std.proofs.Common.{◌≡◌, ℕ, zero, suc, ◌-◌, ◌<◌, ◌≤◌, Bool, true, false, not, ◌&&◌, List}
use Rattle.std.proofs.Common.{[], ◌∷◌, ◌++◌, ◌^◌, refl, ap, ◌∙◌, arith, take, drop}
use Rattle.std.specs.Prelude.{ℤ, pos, negsuc, unsigned_abs, nat_le, ◌==◌, if◌then◌else◌, codes}
use Rattle.std.specs.Fmt.{decimal, signed_decimal}
use Rattle.std.specs.List.{list_any, list_all}
use Rattle.std.proofs.lemmas.Bool.Decides.{nat_tests}
use Rattle.std.proofs.lemmas.Bool.{and_from, and_right, or_from}
use Rattle.std.proofs.lemmas.List.Folds.{list_all-append}
use Rattle.rvs_expr_text.specs.Words.{is_digit}
use Rattle.rvs_expr_text.specs.declared.lexeme.NumName.{NumName}
use Rattle.rvs_expr_text.specs.declared.lexeme.NumName.TheVariants.{Rs1Val, Rs2Val, ImmVal, EaAlign}
use Rattle.rvs_expr.specs.Equation.{name_of, key_of}
use Rattle.rvs_expr.proofs.Decimals.{AllDigit, decimal-is}
use Rattle.rvs_abstract.specs.Calls.{is_letter, name_length, without_spaces}
use Rattle.rvs_points.specs.Keys.{is_printable, is_skipped, is_left_out, begins, has_double, calls}
use Rattle.rvs_points.specs.Keys.{has_call, is_operator_word}
use Rattle.rvs_cgf.specs.Groups.{pair_key}
use Rattle.rvs_points.proofs.Distinct.{and-left, and-right, no}

-- ---- bytes
abbrev shows : ℕ → Bool
shows c = nat_le 32 c && nat_le c 126

-- no ( and no < or >
abbrev marks : ℕ → Bool
marks c = not (c == 40) && (not (c == 60) && not (c == 62))

abbrev pub plain : ℕ → Bool
plain c = shows c && (not (is_left_out c) && marks c)

record IsPlain (c : ℕ) : Type 0 where
  shown : shows c ≡ true
  kept : is_left_out c ≡ false
  open_less : (c == 40) ≡ false
  below_less : (c == 60) ≡ false
  above_less : (c == 62) ≡ false

is-plain : (c : ℕ) → plain c ≡ true → IsPlain c
is-plain c h =
    let rest = and-right (shows c) (not (is_left_out c) && marks c) h in
    let three = and-right (not (is_left_out c)) (marks c) rest in
    let two = and-right (not (c == 40)) (not (c == 60) && not (c == 62)) three in
    record {
      shown = and-left (shows c) (not (is_left_out c) && marks c) h;
      kept = no (is_left_out c) (and-left (not (is_left_out c)) (marks c) rest);
      open_less = no (c == 40) (and-left (not (c == 40)) (not (c == 60) && not (c == 62)) three);
      below_less = no (c == 60) (and-left (not (c == 60)) (not (c == 62)) two);
      above_less = no (c == 62) (and-right (not (c == 60)) (not (c == 62)) two);
    }

abbrev pub AllPlain : List ℕ → Type 0
AllPlain cs = list_all plain cs ≡ true

head-plain : (c : ℕ) (cs : List ℕ) → AllPlain (c ∷ cs) → IsPlain c
head-plain c cs h = is-plain c (and-left (plain c) (list_all plain cs) h)

tail-plain : (c : ℕ) (cs : List ℕ) → AllPlain (c ∷ cs) → AllPlain cs
tail-plain c cs h = and-right (plain c) (list_all plain cs) h

-- ---- texts of them
pub plain-shows : (cs : List ℕ) → AllPlain cs → is_printable cs ≡ true
plain-shows [] h = refl
plain-shows (c ∷ cs) h = and_from (shows c) (is_printable cs) (head-plain c cs h).shown
    (plain-shows cs (tail-plain c cs h))

plain-kept : (cs : List ℕ) → AllPlain cs → list_any is_left_out cs ≡ false
plain-kept [] h = refl
plain-kept (c ∷ cs) h = or_from (is_left_out c) (list_any is_left_out cs) (head-plain c cs h).kept
    (plain-kept cs (tail-plain c cs h))

no-below : (cs : List ℕ) → AllPlain cs → has_double 60 cs ≡ false
no-below [] h = refl
no-below (c ∷ cs) h = or_from ((c == 60) && begins 60 cs) (has_double 60 cs)
    (ap (λ x. x && begins 60 cs) (head-plain c cs h).below_less) (no-below cs (tail-plain c cs h))

no-above : (cs : List ℕ) → AllPlain cs → has_double 62 cs ≡ false
no-above [] h = refl
no-above (c ∷ cs) h = or_from ((c == 62) && begins 62 cs) (has_double 62 cs)
    (ap (λ x. x && begins 62 cs) (head-plain c cs h).above_less) (no-above cs (tail-plain c cs h))

if-closed : (b : Bool) (xs ys : List ℕ) → begins 40 xs ≡ false → begins 40 ys ≡ false
    → begins 40 (if b then xs else ys) ≡ false
if-closed true xs ys h k = h
if-closed false xs ys h k = k

closed : (cs : List ℕ) → AllPlain cs → begins 40 (without_spaces cs) ≡ false
closed [] h = refl
closed (c ∷ cs) h = if-closed (c == 32) (without_spaces cs) (c ∷ cs)
    (closed cs (tail-plain c cs h)) (head-plain c cs h).open_less

drop-plain : (n : ℕ) (cs : List ℕ) → AllPlain cs → AllPlain (drop n cs)
drop-plain zero [] h = h
drop-plain zero (c ∷ cs) h = h
drop-plain (suc n) [] h = h
drop-plain (suc n) (c ∷ cs) h = drop-plain n cs (tail-plain c cs h)

no-calls : (c : ℕ) (cs : List ℕ) → AllPlain cs → calls c cs ≡ false
no-calls c cs h =
    let n = name_length cs in
    and_right (is_letter c)
    (not (is_operator_word (take n cs)) && begins 40 (without_spaces (drop n cs)))
    (and_right (not (is_operator_word (take n cs))) (begins 40 (without_spaces (drop n cs)))
    (closed (drop n cs) (drop-plain n cs h)))

no-call : (cs : List ℕ) (n : ℕ) → AllPlain cs → has_call n cs ≡ false
no-call [] n h = refl
no-call (c ∷ cs) (suc n) h = no-call cs n (tail-plain c cs h)
no-call (c ∷ cs) zero h =
    or_from (calls c (c ∷ cs)) (has_call (name_length (c ∷ cs) - 1) cs) (no-calls c (c ∷ cs) h)
    (no-call cs (name_length (c ∷ cs) - 1) (tail-plain c cs h))

pub plain-read : (cs : List ℕ) → AllPlain cs → is_skipped cs ≡ false
unfolding is_skipped
plain-read cs h = or_from _ _ (plain-kept cs h)
    (or_from _ _ (no-below cs h) (or_from _ _ (no-above cs h) (no-call cs zero h)))

plain-append : (xs ys : List ℕ) → AllPlain xs → AllPlain ys → AllPlain (xs ++ ys)
plain-append xs ys h k =
    list_all-append plain xs ys ∙ and_from (list_all plain xs) (list_all plain ys) h k

-- ---- keys
digit-shows : (c : ℕ) → is_digit c ≡ true → shows c ≡ true
digit-shows c e = grind (arith, nat_tests)

digit-kept : (c : ℕ) → is_digit c ≡ true → is_left_out c ≡ false
digit-kept c e = grind (arith, nat_tests)

no-mark : (b c : ℕ) → is_digit c ≡ true → 57 < b → (c == b) ≡ false
no-mark b c e h = grind (arith, nat_tests)

no-open : (c : ℕ) → is_digit c ≡ true → (c == 40) ≡ false
no-open c e = grind (arith, nat_tests)

digit-plain : (c : ℕ) → is_digit c ≡ true → plain c ≡ true
digit-plain c e = and_from (shows c) (not (is_left_out c) && marks c) (digit-shows c e)
    (and_from (not (is_left_out c)) (marks c) (ap not (digit-kept c e))
    (and_from (not (c == 40)) (not (c == 60) && not (c == 62)) (ap not (no-open c e))
    (and_from (not (c == 60)) (not (c == 62)) (ap not (no-mark 60 c e (omega arith)))
    (ap not (no-mark 62 c e (omega arith))))))

digits-plain : (ds : List ℕ) → AllDigit ds → AllPlain ds
digits-plain [] h = refl
digits-plain (d ∷ ds) h =
    and_from (plain d) (list_all plain ds) (digit-plain d h.0) (digits-plain ds h.1)

number-plain : (z : ℤ) → unsigned_abs z ≤ 2 ^ 32 → AllPlain (signed_decimal z)
number-plain (pos n) h = digits-plain (decimal n) (decimal-is n (omega arith)).digits
number-plain (negsuc n) h =
    digits-plain (decimal (suc n)) (decimal-is (suc n) (omega arith)).digits

name-plain : (v : NumName) → AllPlain (name_of v)
name-plain Rs1Val = refl
name-plain Rs2Val = refl
name-plain ImmVal = refl
name-plain EaAlign = refl

pub key-plain : (v : NumName) (z : ℤ) → unsigned_abs z ≤ 2 ^ 32 → AllPlain (key_of v z)
key-plain v z h = plain-append (name_of v) (codes " == " ++ signed_decimal z) (name-plain v)
    (plain-append (codes " == ") (signed_decimal z) refl (number-plain z h))

pub pair-plain : (v : NumName) (x : ℤ) (w : NumName) (y : ℤ) → unsigned_abs x ≤ 2 ^ 32
    → unsigned_abs y ≤ 2 ^ 32 → AllPlain (pair_key v x w y)
pair-plain v x w y h k =
    let second = codes " and " ++ key_of w y in
    plain-append (name_of v) (codes " == " ++ (signed_decimal x ++ second)) (name-plain v)
    (plain-append (codes " == ") (signed_decimal x ++ second) refl
    (plain-append (signed_decimal x) second (number-plain x h)
    (plain-append (codes " and ") (key_of w y) refl (key-plain w y k))))
