-- What a stored word reads as, and what it leaves alone.
use Rattle.std.proofs.Common.{◌≡◌, ◌≢◌, ℕ, zero, suc, ◌+◌, ◌/◌, ◌%◌, ◌^◌, ◌<◌, ◌≤◌, List}
use Rattle.std.proofs.Common.{length, refl, ◌∙◌, arith, ◌⊎◌, inl, inr, get_or-set_same}
use Rattle.std.proofs.Common.{get_or-set_other, length-set, rules}
use Rattle.std.specs.Prelude.{slice_index, slice_set}
use Rattle.rvs_machine.specs.Machine.{word_at, store_bytes}
use Rattle.rvs_test_text.proofs.Cases.{Leaves}

pub store_length : (n at v : ℕ) (ram : List ℕ) → length (store_bytes n ram at v) ≡ length ram
store_length zero at v ram = refl
store_length (suc n) at v ram =
    simp (length-set, (store_length n (at + 1) (v / 2 ^ 8) (slice_set ram at (v % 2 ^ 8))))

pub stored_other : (n at v i : ℕ) (ram : List ℕ) → (i < at) ⊎ (at + n ≤ i)
    → slice_index (store_bytes n ram at v) i ≡ slice_index ram i
stored_other zero at v i ram out = refl
stored_other (suc n) at v i ram out =
    let out' : (i < at + 1) ⊎ (at + 1 + n ≤ i) = shift out in
    let ne : i ≢ at = omega (arith, out) in
    stored_other n (at + 1) (v / 2 ^ 8) i (slice_set ram at (v % 2 ^ 8)) out'
    ∙ get_or-set_other ram at i (v % 2 ^ 8) 0 ne
  where
    shift : (i < at) ⊎ (at + suc n ≤ i) → (i < at + 1) ⊎ (at + 1 + n ≤ i)
    shift (inl h) = inl (omega arith)
    shift (inr h) = inr (omega arith)

stored_first : (n at v : ℕ) (ram : List ℕ) → at < length ram
    → slice_index (store_bytes (suc n) ram at v) at ≡ v % 2 ^ 8
stored_first n at v ram h = grind (arith, stored_other, inl, get_or-set_same)

-- a stored word reads as it is
pub stored_word : (at v : ℕ) (ram : List ℕ) → at + 4 ≤ length ram → v < 2 ^ 32
    → word_at (store_bytes 4 ram at v) at ≡ v
stored_word at v ram room low = search (rules, length, length-set, stored_first)

-- two words of a slot
pub leaves_two : (slot v w : ℕ) (ram : List ℕ) → slot + 8 ≤ length ram → v < 2 ^ 32 → w < 2 ^ 32
    → Leaves slot v w ram (store_bytes 4 (store_bytes 4 ram slot v) (slot + 4) w)
leaves_two slot v w ram room hv hw =
    let one = store_bytes 4 ram slot v in
    let len : length one ≡ length ram = store_length 4 slot v ram in
    let kept : (i : ℕ) → i < slot + 4
    → slice_index (store_bytes 4 one (slot + 4) w) i ≡ slice_index one i =
    λ i h. stored_other 4 (slot + 4) w i one (inl h) in
    let a = kept slot (omega arith) in
    let b = kept (slot + 1) (omega arith) in
    let c = kept (slot + 2) (omega arith) in
    let d = kept (slot + 3) (omega arith) in
    record {
      long = store_length 4 (slot + 4) w one ∙ len;
      first = rw (a, b, c, d) (stored_word slot v ram (omega arith) hv);
      second = stored_word (slot + 4) w one (omega arith) hw;
      others =
          λ i p out. stored_other 4 (slot + 4) w i one (far i out)
          ∙ stored_other 4 slot v i ram (near i out);
    }
  where
    far : (i : ℕ) → (i < slot) ⊎ (slot + 8 ≤ i) → (i < slot + 4) ⊎ (slot + 4 + 4 ≤ i)
    far i (inl h) = inl (omega arith)
    far i (inr h) = inr (omega arith)

    near : (i : ℕ) → (i < slot) ⊎ (slot + 8 ≤ i) → (i < slot) ⊎ (slot + 4 ≤ i)
    near i (inl h) = inl (omega arith)
    near i (inr h) = inr (omega arith)
