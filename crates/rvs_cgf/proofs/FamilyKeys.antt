-- The values of families are small, so that the key of each is read as its value.
use Rattle.std.proofs.Common.{◌≡◌, ℕ, zero, suc, ◌+◌, ◌-◌, ◌*◌, ◌/◌, ◌%◌, ◌^◌, ◌<◌, ◌≤◌, Bool, true}
use Rattle.std.proofs.Common.{false, ◌&&◌, List, take, Option, Some, None, Ok, Err}
use Rattle.std.proofs.Common.{refl, sym, ap, ◌∙◌, arith}
use Rattle.std.specs.Prelude.{ℤ, pos, negsuc, ◌+ℤ◌, ◌-ℤ◌, neg_ℤ, unsigned_abs, nat_le, nat_lt, ◌==◌}
use Rattle.std.specs.Prelude.{int_lt, if◌then◌else◌}
use Rattle.std.proofs.lemmas.Bool.Decides.{nat_tests}
use Rattle.std.proofs.lemmas.Bool.{and_from}
use Rattle.std.proofs.lemmas.Int.{ints}
use Rattle.rvs_expr_text.specs.declared.lexeme.NumName.{NumName}
use Rattle.rvs_expr_text.specs.declared.lexeme.NumName.TheVariants.{Rs1Val, Rs2Val}
use Rattle.rvs_expr.specs.Equation.{key_of}
use Rattle.rvs_expr.proofs.Decimals.{key-read}
use Rattle.rvs_abstract.specs.Sizes.{is_size, least_size}
use Rattle.rvs_abstract.specs.Values.{length_of, value_of, as_read, alternate, signed_edge}
use Rattle.rvs_abstract.specs.Values.{unsigned_edge, edge, whole_digits, root, negated, middle_root}
use Rattle.rvs_abstract.specs.Values.{lowest_root, highest_root, special, one_below, special_value}
use Rattle.rvs_abstract.specs.Calls as calls
use Rattle.rvs_abstract.specs.Calls.{Ranged, CallReading, Cut, first, first_item, trimmed, call_of}
use Rattle.rvs_abstract.specs.declared.families.Families.{Families}
use Rattle.rvs_abstract.specs.declared.families.Families.TheVariants.{All}
use Rattle.rvs_abstract.specs.declared.factor.Factor.{Factor}
use Rattle.rvs_abstract.specs.declared.family.Family.{Family}
use Rattle.rvs_abstract.specs.declared.family.Family.TheVariants.{WalkingOnes, WalkingZeros}
use Rattle.rvs_abstract.specs.declared.family.Family.TheVariants.{Alternate, EdgeDataset, SpDataset}
use Rattle.rvs_abstract.specs.declared.call.AbstractRefusal.TheVariants.{UnknownFunction}
use Rattle.rvs_abstract.proofs.Powers.{within_32, within_31, below_32, some_power}
use Rattle.rvs_abstract.proofs.Roots.{root-small}
use Rattle.rvs_points.specs.Keys.{is_skipped}
use Rattle.rvs_points.specs.Says.{of_formula}
use Rattle.rvs_cgf.specs.Groups.{nums, nothing, value_point, pair_point, pair_key}
use Rattle.rvs_points.specs.Valid.{IsMeant}
use Rattle.rvs_points.proofs.Distinct.{and-right, if-no}
use Rattle.rvs_cgf.proofs.PlainKeys.{plain-shows, plain-read, key-plain, pair-plain}
use Rattle.rvs_cgf.proofs.PairKeys.{pair-read}

-- ---- values
abbrev pub Small : ℤ → Type 0
Small z = unsigned_abs z ≤ 2 ^ 32

less-small : (w p : ℕ) → w ≤ 2 ^ 32 → p ≤ 2 ^ 32 → Small (pos w -ℤ pos p)
less-small w p h k = omega (arith, ints)

neg-small : (w : ℕ) → w ≤ 2 ^ 32 → Small (neg_ℤ (pos w))
neg-small w h = omega (arith, ints)

pos-small : (w : ℕ) → w ≤ 2 ^ 32 → Small (pos w)
pos-small w h = h

if-small : (b : Bool) (x y : ℤ) → Small x → Small y → Small (if b then x else y)
if-small true x y h k = h
if-small false x y h k = k

read-small : (s w : ℕ) (signed : Bool) → s ≤ 32 → w < 2 ^ 32 → Small (as_read s signed w)
read-small s w true h k = if-small (nat_lt w (2 ^ (s - 1))) (pos w) (pos w -ℤ pos (2 ^ s))
    (pos-small w (omega arith)) (less-small w (2 ^ s) (omega arith) (within_32 s h))
read-small s w false h k = pos-small w (omega arith)

mod-small : (x n : ℕ) → 0 < n → n ≤ 2 ^ 32 → x % n < 2 ^ 32
mod-small x n h k = omega arith

alternate-small : (s k : ℕ) → s ≤ 32 → alternate s k < 2 ^ 32
alternate-small s zero h = mod-small 0x5555_5555 (2 ^ s) (some_power s) (within_32 s h)
alternate-small s (suc k) h = mod-small 0xaaaa_aaaa (2 ^ s) (some_power s) (within_32 s h)

signed-small : (h k : ℕ) → h ≤ 2 ^ 31 → Small (signed_edge h k)
signed-small h k e =
    if-small (k == 0) (neg_ℤ (pos h)) _ (neg-small h (omega arith))
    (if-small (k == 1) (pos 1 -ℤ pos h) _ (less-small 1 h (omega arith) (omega arith))
    (if-small (k == 2) (negsuc 1) _ (omega arith)
    (if-small (k == 3) (negsuc 0) _ (omega arith)
    (if-small (k == 4) (pos 0) _ (omega arith)
    (if-small (k == 5) (pos 1) _ (omega arith)
    (if-small (k == 6) (pos 2) _ (omega arith)
    (if-small (k == 7) (pos h -ℤ pos 2) (pos h -ℤ pos 1)
    (less-small h 2 (omega arith) (omega arith))
    (less-small h 1 (omega arith) (omega arith)))))))))

unsigned-small : (h k : ℕ) → h ≤ 2 ^ 31 → Small (unsigned_edge h k)
unsigned-small h k e =
    if-small (k == 0) (pos 0) _ (omega arith)
    (if-small (k == 1) (pos 1) _ (omega arith)
    (if-small (k == 2) (pos 2) _ (omega arith)
    (if-small (k == 3) (pos h -ℤ pos 1) _ (less-small h 1 (omega arith) (omega arith))
    (if-small (k == 4) (pos h) _ (pos-small h (omega arith))
    (if-small (k == 5) (pos (h + 1)) _ (pos-small (h + 1) (omega arith))
    (if-small (k == 6) (pos (2 * h) -ℤ pos 2) (pos (2 * h) -ℤ pos 1)
    (less-small (2 * h) 2 (omega arith) (omega arith))
    (less-small (2 * h) 1 (omega arith) (omega arith))))))))

edge-small : (signed : Bool) (h k : ℕ) → h ≤ 2 ^ 31 → Small (edge signed h k)
edge-small true h k e = signed-small h k e
edge-small false h k e = unsigned-small h k e

-- ---- special values: a number below 2 ^ 32 either way, or a neighbour of it
abbrev Strict : ℤ → Type 0
Strict z = unsigned_abs z < 2 ^ 32

if-strict : (b : Bool) (x y : ℤ) → Strict x → (b ≡ false → Strict y)
    → Strict (if b then x else y)
if-strict true x y h k = h
if-strict false x y h k = k refl

some : (w p : ℕ) → nat_lt w p ≡ false → 1 ≤ p → 1 ≤ w
some w p e h = grind (arith, nat_tests)

less-strict : (w p : ℕ) → 1 ≤ w → w < 2 ^ 32 → p ≤ 2 ^ 32 → Strict (pos w -ℤ pos p)
less-strict w p h k e = omega (arith, ints)

read-strict : (s w : ℕ) (signed : Bool) → s ≤ 32 → w < 2 ^ 32 → Strict (as_read s signed w)
read-strict s w true h k =
    if-strict (nat_lt w (2 ^ (s - 1))) (pos w) (pos w -ℤ pos (2 ^ s)) k
    (λ e. less-strict w (2 ^ s) (some w (2 ^ (s - 1)) e (some_power (s - 1))) k (within_32 s h))
read-strict s w false h k = k

digits-strict : (s w : ℕ) (signed : Bool) → s ≤ 32 → Strict (as_read s signed (whole_digits s w))
digits-strict s w signed h = read-strict s (whole_digits s w) signed h (mod-small w
    (2 ^ (4 * (s / 4))) (some_power (4 * (s / 4))) (within_32 (4 * (s / 4)) (omega arith)))

root-strict : (n : ℕ) → n < 2 ^ 32 → root n < 2 ^ 32
root-strict n h = omega (arith, root-small n)

negated-strict : (signed : Bool) (n : ℕ) → n < 2 ^ 32 → Strict (negated signed n)
negated-strict true n h = omega (arith, ints)
negated-strict false n h = h

middle-strict : (s : ℕ) (signed : Bool) → s ≤ 32 → Strict (middle_root s signed)
middle-strict s signed h =
    negated-strict signed (root (2 ^ (4 * (s / 4) - 1)))
    (root-strict (2 ^ (4 * (s / 4) - 1)) (below_32 (4 * (s / 4) - 1) (omega arith)))

lowest-strict : (s : ℕ) (signed : Bool) → s ≤ 32 → Strict (lowest_root s signed)
lowest-strict s true h = negated-strict true (root (2 ^ (s - 1)))
    (root-strict (2 ^ (s - 1)) (below_32 (s - 1) (omega arith)))
lowest-strict s false h = omega arith

highest-strict : (s : ℕ) (signed : Bool) → s ≤ 32 → Strict (highest_root s signed)
highest-strict s true h =
    root-strict (2 ^ (s - 1) - 1) (omega (arith, below_32 (s - 1) (omega arith)))
highest-strict s false h = root-strict (2 ^ s - 1) (omega (arith, within_32 s h, some_power s))

special-strict : (s : ℕ) (signed : Bool) (k : ℕ) → s ≤ 32 → Strict (special s signed k)
special-strict s signed k h =
    if-strict (k == 0) (pos 3) _ (omega arith)
    (λ a. if-strict (k == 1) _ _ (digits-strict s 0x5555_5555 signed h)
    (λ b. if-strict (k == 2) _ _ (digits-strict s 0xaaaa_aaaa signed h)
    (λ c. if-strict (k == 3) (pos 5) _ (omega arith)
    (λ d. if-strict (k == 4) _ _ (digits-strict s 0x3333_3333 signed h)
    (λ e. if-strict (k == 5) _ _ (digits-strict s 0x6666_6666 signed h)
    (λ f. if-strict (k == 6) (middle_root s signed) _ (middle-strict s signed h)
    (λ g. if-strict (k == 7) (lowest_root s signed) (highest_root s signed)
    (lowest-strict s signed h) (λ i. highest-strict s signed h))))))))

strict-small : (z : ℤ) → Strict z → Small z
strict-small z h = omega (arith, h)

less_one-small : (z : ℤ) → Strict z → Small (z -ℤ pos 1)
less_one-small (pos n) h = omega (arith, ints)
less_one-small (negsuc n) h = omega (arith, ints)

more_one-small : (z : ℤ) → Strict z → Small (z +ℤ pos 1)
more_one-small (pos n) h = omega (arith, ints)
more_one-small (negsuc n) h = omega (arith, ints)

special-small : (s : ℕ) (signed : Bool) (k : ℕ) → s ≤ 32 → Small (special_value s signed k)
special-small s signed k h =
    let near : (i : ℕ) → Strict (special s signed i) = λ i. special-strict s signed i h in
    if-small (nat_lt k 9) (special s signed k) _ (strict-small (special s signed k) (near k))
    (if-small (nat_lt k 18) (one_below (special s signed (k - 9)))
    (special s signed (k - 18) +ℤ pos 1)
    (if-small (int_lt (pos 0) (special s signed (k - 9))) _ (pos 0)
    (less_one-small (special s signed (k - 9)) (near (k - 9))) (omega arith))
    (more_one-small (special s signed (k - 18)) (near (k - 18))))

size-small : (f : Family) (s : ℕ) → is_size f s ≡ true → s ≤ 32
size-small f s e = below s (and-right (nat_le (least_size f) s) (nat_le s 32) e)
  where
    below : (s : ℕ) → nat_le s 32 ≡ true → s ≤ 32
    below s e = grind (arith, nat_tests)

pub value-small : (f : Family) (s : ℕ) (signed : Bool) (k : ℕ) → is_size f s ≡ true
    → k < length_of f s signed → Small (value_of f s signed k)
value-small WalkingOnes s signed k e h = let small : s ≤ 32 = size-small WalkingOnes s e in
    read-small s (2 ^ k) signed small (below_32 k (omega arith))
value-small WalkingZeros s signed k e h = let small : s ≤ 32 = size-small WalkingZeros s e in
    read-small s (2 ^ s - 1 - 2 ^ k) signed small (omega (arith, within_32 s small, some_power s))
value-small Alternate s signed k e h = let small : s ≤ 32 = size-small Alternate s e in
    read-small s (alternate s k) signed small (alternate-small s k small)
value-small EdgeDataset s signed k e h = let small : s ≤ 32 = size-small EdgeDataset s e in
    edge-small signed (2 ^ (s - 1)) k (within_31 (s - 1) (omega arith))
value-small SpDataset s signed k e h = special-small s signed k (size-small SpDataset s e)

-- ---- a call's sizes
abbrev pub is_sized : Ranged → Bool
is_sized r = is_size r.family r.size

abbrev sized : CallReading → Bool
sized (Ok (calls.points r)) = is_sized r
sized (Ok (calls.pairs a b)) = is_sized a && is_sized b
sized (Ok calls.skipped) = true
sized (Err e) = true

abbrev sized_if : Option Ranged → Bool
sized_if (Some r) = is_sized r
sized_if None = true

if-sized : (b : Bool) (x y : CallReading) → sized x ≡ true → sized y ≡ true
    → sized (if b then x else y) ≡ true
if-sized true x y h k = h
if-sized false x y h k = k

if-sized_if : (b : Bool) (r : Ranged) → (b ≡ true → is_sized r ≡ true)
    → sized_if (if b then Some r else None) ≡ true
if-sized_if true r h = h refl
if-sized_if false r h = refl

of_size-sized : (f : Family) (v : NumName) (signed : Bool) (o : Option ℕ)
    → sized_if (calls.of_size f v signed o) ≡ true
of_size-sized f v signed (Some s) = if-sized_if (is_size f s)
    (record { family = f; var = v; size = s; signed = signed }) (λ e. e)
of_size-sized f v signed None = refl

one-sized : (o : Option Ranged) → sized_if o ≡ true → sized (calls.sized o) ≡ true
one-sized (Some r) e = e
one-sized None e = refl

both-sized : (o p : Option Ranged) → sized_if o ≡ true → sized_if p ≡ true
    → sized (calls.both_sized o p) ≡ true
both-sized (Some a) (Some b) e h = and_from (is_sized a) (is_sized b) e h
both-sized (Some a) None e h = refl
both-sized None p e h = refl

in_size-sized : (f : Family) (v : NumName) (signed : Bool) (o : Option ℕ)
    → sized (calls.in_size f v signed o) ≡ true
in_size-sized f v signed o =
    one-sized (calls.of_size f v signed o) (of_size-sized f v signed o)

shaped-sized : (f : Family) (v : Option NumName) (s : Option (Option ℕ)) (signed : Option Bool)
    → sized (calls.shaped f v s signed) ≡ true
shaped-sized f (Some v) (Some s) (Some signed) = in_size-sized f v signed s
shaped-sized f (Some v) (Some s) None = refl
shaped-sized f (Some v) None signed = refl
shaped-sized f None s signed = refl

two-sized : (families : Families) (f : Family) (a b : List ℕ) (signed : Option Bool)
    → sized (calls.with_two families f a b signed) ≡ true
two-sized families f a b signed =
    shaped-sized f (calls.var_of (trimmed a)) (calls.size_of families (trimmed b)) signed

third-sized : (families : Families) (f : Family) (a b : List ℕ) (c : Cut)
    → sized (calls.with_third families f a b c) ≡ true
third-sized families f a b (c, Some rest) = refl
third-sized families f a b (c, None) = if-sized (calls.is_filter (trimmed c)) (Ok calls.skipped)
    (calls.with_two families f a b (calls.signed_of (trimmed c))) refl
    (two-sized families f a b (calls.signed_of (trimmed c)))

second-sized : (families : Families) (f : Family) (a : List ℕ) (c : Cut)
    → sized (calls.with_second families f a c) ≡ true
second-sized families f a (b, None) = two-sized families f a b (Some true)
second-sized families f a (b, Some rest) = third-sized families f a b (first rest)

first-sized : (families : Families) (f : Family) (c : Cut)
    → sized (calls.with_first families f c) ≡ true
first-sized families f (a, None) = refl
first-sized families f (a, Some rest) = second-sized families f a (first rest)

factor-sized : (f : Factor) → sized_if (calls.of_factor f) ≡ true
factor-sized f = of_size-sized SpDataset f.var f.signed f.size

with_factor-sized : (o : Option Factor) → sized (calls.with_factor o) ≡ true
with_factor-sized (Some f) = one-sized (calls.of_factor f) (factor-sized f)
with_factor-sized None = refl

with_factors-sized : (o p : Option Factor) → sized (calls.with_factors o p) ≡ true
with_factors-sized (Some f) (Some g) =
    both-sized (calls.of_factor f) (calls.of_factor g) (factor-sized f) (factor-sized g)
with_factors-sized (Some f) None = refl
with_factors-sized None p = refl

sources-sized : (s : Option (Option ℕ)) (signed : Option Bool)
    → sized (calls.sources s signed) ≡ true
sources-sized s signed = with_factors-sized (calls.factor_of (Some Rs1Val) s signed)
    (calls.factor_of (Some Rs2Val) s signed)

behind_listed-sized : (s : Option (Option ℕ)) (signed : Option Bool) (a : List ℕ) (c : Cut)
    → sized (calls.behind_listed s signed a c) ≡ true
behind_listed-sized s signed a (b, Some rest) = refl
behind_listed-sized s signed a (b, None) =
    with_factors-sized (calls.listed s signed a) (calls.listed s signed b)

from_list-sized : (s : Option (Option ℕ)) (signed : Option Bool) (c : Cut)
    → sized (calls.from_list s signed c) ≡ true
from_list-sized s signed (a, None) = with_factor-sized (calls.listed s signed a)
from_list-sized s signed (a, Some rest) = behind_listed-sized s signed a (first_item rest)

in_list-sized : (s : Option (Option ℕ)) (signed : Option Bool) (o : Option (List ℕ))
    → sized (calls.in_list s signed o) ≡ true
in_list-sized s signed (Some inside) = from_list-sized s signed (first_item inside)
in_list-sized s signed None = refl

special_third-sized : (a b : List ℕ) (c : Cut) → sized (calls.special_third a b c) ≡ true
special_third-sized a b (c, Some rest) = refl
special_third-sized a b (c, None) = in_list-sized (calls.size_of All (trimmed a))
    (calls.signed_of (trimmed c)) (calls.bracketed (trimmed b))

special_second-sized : (a : List ℕ) (c : Cut) → sized (calls.special_second a c) ≡ true
special_second-sized a (b, Some rest) = special_third-sized a b (first_item rest)
special_second-sized a (b, None) = if-sized (calls.names_sign (trimmed b)) _ _
    (sources-sized (calls.size_of All (trimmed a)) (calls.signed_of (trimmed b)))
    (in_list-sized (calls.size_of All (trimmed a)) (Some true) (calls.bracketed (trimmed b)))

special-sized : (c : Cut) → sized (calls.special_call c) ≡ true
special-sized (a, None) = sources-sized (calls.size_of All (trimmed a)) (Some true)
special-sized (a, Some rest) = special_second-sized a (first_item rest)

named-sized : (families : Families) (name inside : List ℕ) (o : Option Family)
    → sized (calls.named families name inside o) ≡ true
named-sized families name inside (Some f) = first-sized families f (first inside)
named-sized families name inside None =
    if-sized (calls.is_special families name) _ _ (special-sized (first_item inside))
    (if-sized (calls.is_skipped families name) (Ok calls.skipped) (Err UnknownFunction) refl refl)

called-sized : (families : Families) (name : List ℕ) (o : Option (List ℕ))
    → sized (calls.called families name o) ≡ true
called-sized families name None = refl
called-sized families name (Some inside) =
    named-sized families name inside (calls.family_of name)

call-sized : (families : Families) (text : List ℕ) → sized (call_of families text) ≡ true
unfolding call_of
call-sized families text =
    called-sized families (take (calls.name_length text) text) (calls.inside_of text)

pub call-size : (families : Families) (text : List ℕ) (r : Ranged)
    → call_of families text ≡ Ok (calls.points r) → is_sized r ≡ true
call-size families text r e = ap sized (sym e) ∙ call-sized families text

pub pairs-size : (families : Families) (text : List ℕ) (a b : Ranged)
    → call_of families text ≡ Ok (calls.pairs a b) → (is_sized a && is_sized b) ≡ true
pairs-size families text a b e = ap sized (sym e) ∙ call-sized families text

-- ---- the keys of small values mean the values
pub value_meant : (v : NumName) (z : ℤ) → Small z → IsMeant (value_point v z)
value_meant v z h = record {
  printable = plain-shows (key_of v z) (key-plain v z h);
  said = if-no (is_skipped (key_of v z)) nothing _ (plain-read (key_of v z) (key-plain v z h))
      ∙ ap (of_formula nums) (key-read v z h);
}

pub pair_meant : (v : NumName) (x : ℤ) (w : NumName) (y : ℤ) → Small x → Small y
    → IsMeant (pair_point v x w y)
pair_meant v x w y h k =
    let plain = pair-plain v x w y h k in
    record {
      printable = plain-shows (pair_key v x w y) plain;
      said = if-no (is_skipped (pair_key v x w y)) nothing _ (plain-read (pair_key v x w y) plain)
          ∙ ap (of_formula nums) (pair-read v x w y h k);
    }
