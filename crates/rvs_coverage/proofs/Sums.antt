-- Numbers that are added place by place.
use Rattle.std.proofs.Common.{◌≡◌, ◌<◌, ◌≤◌, ◌+◌, ℕ, Bool, true, false, List, [], ◌∷◌, ◌++◌, length}
use Rattle.std.proofs.Common.{take, drop, refl, sym, ap, ◌∙◌, cond, get_or, append_assoc, arith}
use Rattle.std.proofs.Common.{replicate, ◌*◌}
use Rattle.std.specs.Prelude.{nat_lt, slice_set, slice_index, map}
use Rattle.std.proofs.lemmas.Bool.{ltb-true, ltb-false}
use Rattle.std.proofs.lemmas.List.{take_more_set, drop-set-lt, drop_more, drop_all, take_all}
use Rattle.std.proofs.lemmas.List.{take-append-drop}
use Rattle.std.specs.Prelude.{⊤}
use Rattle.std.proofs.Math.Nat.{min-eq_left}
use Rattle.rvs_coverage.specs.Summing.{sum_up_to_most, plus_each, added_at, over, summed, total_of}

pub plus_none : (ns : List ℕ) → plus_each ns [] ≡ ns
plus_none [] = refl
plus_none (n ∷ ns) = refl

pub plus_length : (ns ms : List ℕ) → length (plus_each ns ms) ≡ length ns
plus_length [] ms = refl
plus_length (n ∷ ns) [] = refl
plus_length (n ∷ ns) (m ∷ ms) = omega (arith, plus_length ns ms)

-- the numbers up to a place are done, and the others are to come
abbrev pub done_to : ℕ → List ℕ → List ℕ → List ℕ
done_to at ns ms = take at ns ++ plus_each (drop at ns) (drop at ms)

step-in : (ns ms : List ℕ) (at : ℕ) → at < length ns → at < length ms
    → done_to (at + 1) (slice_set ns at (sum_up_to_most (slice_index ns at) (get_or ms at 0))) ms
    ≡ done_to at ns ms
step-in ns ms at low short =
    let v = sum_up_to_most (slice_index ns at) (get_or ms at 0) in
    let rest = drop (at + 1) ms in
    ap (λ front. front ++ plus_each (drop (at + 1) (slice_set ns at v)) rest)
    (take_more_set ns at v low)
    ∙ append_assoc (take at ns) (v ∷ []) (plus_each (drop (at + 1) (slice_set ns at v)) rest)
    ∙ ap (λ back. take at ns ++ v ∷ plus_each back rest)
    (drop-set-lt (at + 1) ns at v (omega arith))
    ∙ sym (ap (λ back. take at ns ++ plus_each back (drop at ms)) (drop_more ns at 0 low)
    ∙ ap (λ back. take at ns ++ plus_each (get_or ns at 0 ∷ drop (at + 1) ns) back)
    (drop_more ms at 0 short))

step-past : (ns ms : List ℕ) (at : ℕ) → length ns ≤ at
    → done_to (at + 1) ns ms ≡ done_to at ns ms
step-past ns ms at past =
    ap (λ back. take (at + 1) ns ++ plus_each back (drop (at + 1) ms))
    (drop_all (at + 1) ns (omega arith))
    ∙ ap (λ front. front ++ []) (take_all (at + 1) ns (omega arith) ∙ sym (take_all at ns past))
    ∙ sym (ap (λ back. take at ns ++ plus_each back (drop at ms)) (drop_all at ns past))

step-by : (ns ms : List ℕ) (at : ℕ) (b : Bool) → nat_lt at (length ns) ≡ b → at < length ms
    → done_to (at + 1) (cond b (slice_set ns at (sum_up_to_most (slice_index ns at)
    (get_or ms at 0))) ns) ms ≡ done_to at ns ms
step-by ns ms at true is short = step-in ns ms at (ltb-true at (length ns) is) short
step-by ns ms at false is short = step-past ns ms at (ltb-false at (length ns) is)

-- one place more
pub done_more : (ns ms : List ℕ) (at : ℕ) → at < length ms
    → done_to (at + 1) (added_at at (get_or ms at 0) ns) ms ≡ done_to at ns ms
done_more ns ms at short = step-by ns ms at (nat_lt at (length ns)) refl short

-- all places
pub done_all : (ns ms : List ℕ) (at : ℕ) → length ms ≤ at → done_to at ns ms ≡ ns
done_all ns ms at past =
    ap (λ (back : List ℕ). take at ns ++ plus_each (drop at ns) back) (drop_all at ms past)
    ∙ ap (λ (back : List ℕ). take at ns ++ back) (plus_none (drop at ns))
    ∙ take-append-drop at ns

-- the numbers of several things, each place by itself
pub plus_map : {X : Type 0} (f g : X → ℕ) (xs : List X)
    → plus_each (map f xs) (map g xs) ≡ map (λ x. sum_up_to_most (f x) (g x)) xs
plus_map f g [] = refl
plus_map f g (x ∷ xs) = ap (λ ns. sum_up_to_most (f x) (g x) ∷ ns) (plus_map f g xs)

-- ---- sums that keep below 2^64
-- each of the numbers is low
abbrev pub AreLow : {X : Type 0} → (X → ℕ) → List X → Type 0
AreLow f [] = ⊤
AreLow f (x ∷ xs) = (f x ≤ 1_099_511_627_776) × AreLow f xs

low-sum : (n m : ℕ) → n + m ≤ 18_446_744_073_709_551_615 → sum_up_to_most n m ≡ n + m
low-sum n m low = min-eq_left low

pub summed_over : {X : Type 0} (f : X → ℕ) (n : ℕ) (xs : List X) → AreLow f xs
    → n + 1_099_511_627_776 * length xs ≤ 18_446_744_073_709_551_615
    → summed f n xs ≡ n + over f xs
summed_over f n [] low few = omega arith
summed_over f n (x ∷ xs) low few =
    let here : n + f x ≤ 18_446_744_073_709_551_615 = omega (arith, low.0, few) in
    let there : n + f x + 1_099_511_627_776 * length xs ≤ 18_446_744_073_709_551_615 =
    omega (arith, low.0, few) in
    let all : n + f x + over f xs ≡ n + (f x + over f xs) = omega arith in
    ap (λ (m : ℕ). summed f m xs) (low-sum n (f x) here)
    ∙ summed_over f (n + f x) xs low.1 there ∙ all

pub summed_all : {X : Type 0} (f : X → ℕ) (xs : List X) → AreLow f xs
    → 0 + 1_099_511_627_776 * length xs ≤ 18_446_744_073_709_551_615 → summed f 0 xs ≡ over f xs
summed_all f xs low few =
    let none : 0 + over f xs ≡ over f xs = omega arith in summed_over f 0 xs low few ∙ none

pub over_map : {X Y : Type 0} (f : Y → ℕ) (g : X → Y) (xs : List X)
    → over f (map g xs) ≡ over (λ x. f (g x)) xs
over_map f g [] = refl
over_map f g (x ∷ xs) = ap (λ (n : ℕ). f (g x) + n) (over_map f g xs)

pub map_map : {X Y Z : Type 0} (f : Y → Z) (g : X → Y) (xs : List X)
    → map f (map g xs) ≡ map (λ x. f (g x)) xs
map_map f g [] = refl
map_map {X} {Y} {Z} f g (x ∷ xs) = ap (λ (zs : List Z). f (g x) ∷ zs) (map_map f g xs)

summed_map : {X : Type 0} (f : X → ℕ) (n : ℕ) (xs : List X)
    → summed (λ m. m) n (map f xs) ≡ summed f n xs
summed_map f n [] = refl
summed_map f n (x ∷ xs) = summed_map f (sum_up_to_most n (f x)) xs

pub total_map : {X : Type 0} (f : X → ℕ) (xs : List X) → AreLow f xs
    → 0 + 1_099_511_627_776 * length xs ≤ 18_446_744_073_709_551_615
    → total_of (map f xs) ≡ over f xs
total_map f xs low few = summed_map f 0 xs ∙ summed_all f xs low few

pub zeros_map : {X : Type 0} (xs : List X) → replicate {A = ℕ} (length xs) 0 ≡ map (λ x. 0) xs
zeros_map [] = refl
zeros_map (x ∷ xs) = ap (λ (ns : List ℕ). 0 ∷ ns) (zeros_map xs)
