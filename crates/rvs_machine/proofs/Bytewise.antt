-- Loads, byte for byte.
use Rattle.std.proofs.Common.{◌≡◌, ◌≢◌, ℕ, ◌+◌, ◌*◌, List, Option, Some, None, refl, ap, ◌∙◌, arith}
use Rattle.std.proofs.Common.{inl, inr}
use Rattle.rvs_insn.specs.Memory.{Memory}
use Rattle.rvs_machine.specs.Machine.{byte_at, load_bytes, above}
use Rattle.rvs_machine.specs.NextSteps.{IsSize}

four : (size : ℕ) → IsSize size → size ≢ 1 → size ≢ 2 → size ≡ 4
four size (inl a) n m = absurd (n a)
four size (inr (inl b)) n m = absurd (m b)
four size (inr (inr c)) n m = c

-- the first byte isn't in memory
pub first_missing : (m : Memory) (size : ℕ) (text ram : List ℕ) (at : ℕ) → IsSize size
    → byte_at m text ram at ≡ None → load_bytes m size text ram at ≡ None
first_missing m size text ram at (inl one) e =
    ap (λ n. load_bytes m n text ram at) one ∙ ap (λ x. above x (Some 0)) e
first_missing m size text ram at (inr (inl two)) e =
    ap (λ n. load_bytes m n text ram at) two
    ∙ ap (λ x. above x (load_bytes m 1 text ram (at + 1))) e
first_missing m size text ram at (inr (inr four)) e =
    ap (λ n. load_bytes m n text ram at) four
    ∙ ap (λ x. above x (load_bytes m 3 text ram (at + 1))) e

-- a byte alone
pub one_there : (m : Memory) (size : ℕ) (text ram : List ℕ) (at a : ℕ) → size ≡ 1
    → byte_at m text ram at ≡ Some a → load_bytes m size text ram at ≡ Some a
one_there m size text ram at a one e =
    ap (λ n. load_bytes m n text ram at) one ∙ ap (λ x. above x (Some 0)) e
    ∙ ap (λ (x : ℕ). Some x) (let same : a + 0 * 256 ≡ a = omega arith in same)

-- the second byte isn't in memory
pub second_missing : (m : Memory) (size : ℕ) (text ram : List ℕ) (at a : ℕ) → IsSize size
    → size ≢ 1 → byte_at m text ram at ≡ Some a → byte_at m text ram (at + 1) ≡ None
    → load_bytes m size text ram at ≡ None
second_missing m size text ram at a (inl p) one e f = absurd (one p)
second_missing m size text ram at a (inr (inl two)) one e f =
    ap (λ n. load_bytes m n text ram at) two
    ∙ ap (λ x. above x (above (byte_at m text ram (at + 1)) (Some 0))) e
    ∙ ap (λ x. above (Some a) (above x (Some 0))) f
second_missing m size text ram at a (inr (inr four)) one e f =
    ap (λ n. load_bytes m n text ram at) four
    ∙ ap (λ x. above x (above (byte_at m text ram (at + 1)) (load_bytes m 2 text ram (at + 1 + 1))))
    e
    ∙ ap (λ x. above (Some a) (above x (load_bytes m 2 text ram (at + 1 + 1)))) f

-- two bytes
pub two_there : (m : Memory) (size : ℕ) (text ram : List ℕ) (at a b : ℕ) → size ≡ 2
    → byte_at m text ram at ≡ Some a → byte_at m text ram (at + 1) ≡ Some b
    → load_bytes m size text ram at ≡ Some (a + b * 0x100)
two_there m size text ram at a b two e f =
    ap (λ n. load_bytes m n text ram at) two
    ∙ ap (λ x. above x (above (byte_at m text ram (at + 1)) (Some 0))) e
    ∙ ap (λ x. above (Some a) (above x (Some 0))) f
    ∙ ap (λ (x : ℕ). Some x)
    (let same : a + (b + 0 * 256) * 256 ≡ a + b * 0x100 = omega arith in same)

-- a word of which these are the bytes
word_of_four : (m : Memory) (text ram : List ℕ) (at : ℕ) (a b c d : Option ℕ)
    → byte_at m text ram at ≡ a → byte_at m text ram (at + 1) ≡ b
    → byte_at m text ram (at + 2) ≡ c → byte_at m text ram (at + 3) ≡ d
    → load_bytes m 4 text ram at ≡ above a (above b (above c (above d (Some 0))))
word_of_four m text ram at a b c d e f g h =
    let byte : ℕ → Option ℕ = λ x. byte_at m text ram x in
    let two : at + 1 + 1 ≡ at + 2 = omega arith in
    let three : at + 1 + 1 + 1 ≡ at + 3 = omega arith in
    ap
    (λ x. above x
    (above (byte (at + 1)) (above (byte (at + 1 + 1)) (above (byte (at + 1 + 1 + 1)) (Some 0))))) e
    ∙ ap
    (λ x. above a (above x (above (byte (at + 1 + 1)) (above (byte (at + 1 + 1 + 1)) (Some 0))))) f
    ∙ ap (λ x. above a (above b (above x (above (byte (at + 1 + 1 + 1)) (Some 0)))))
    (ap byte two ∙ g)
    ∙ ap (λ x. above a (above b (above c (above x (Some 0))))) (ap byte three ∙ h)

-- its third byte isn't in memory
pub third_missing : (m : Memory) (size : ℕ) (text ram : List ℕ) (at a b : ℕ) → IsSize size
    → size ≢ 1 → size ≢ 2 → byte_at m text ram at ≡ Some a → byte_at m text ram (at + 1) ≡ Some b
    → byte_at m text ram (at + 2) ≡ None → load_bytes m size text ram at ≡ None
third_missing m size text ram at a b is one two e f g =
    ap (λ n. load_bytes m n text ram at) (four size is one two)
    ∙ word_of_four m text ram at (Some a) (Some b) None (byte_at m text ram (at + 3)) e f g refl
    ∙ none_above (above (byte_at m text ram (at + 3)) (Some 0))
  where
    none_above : (x : Option ℕ) → above (Some a) (above (Some b) (above None x)) ≡ None
    none_above x = refl

-- its fourth byte isn't
pub fourth_missing : (m : Memory) (size : ℕ) (text ram : List ℕ) (at a b c : ℕ) → IsSize size
    → size ≢ 1 → size ≢ 2 → byte_at m text ram at ≡ Some a → byte_at m text ram (at + 1) ≡ Some b
    → byte_at m text ram (at + 2) ≡ Some c → byte_at m text ram (at + 3) ≡ None
    → load_bytes m size text ram at ≡ None
fourth_missing m size text ram at a b c is one two e f g h =
    ap (λ n. load_bytes m n text ram at) (four size is one two)
    ∙ word_of_four m text ram at (Some a) (Some b) (Some c) None e f g h

-- all four are
pub four_there : (m : Memory) (size : ℕ) (text ram : List ℕ) (at a b c d : ℕ) → IsSize size
    → size ≢ 1 → size ≢ 2 → byte_at m text ram at ≡ Some a → byte_at m text ram (at + 1) ≡ Some b
    → byte_at m text ram (at + 2) ≡ Some c → byte_at m text ram (at + 3) ≡ Some d
    → load_bytes m size text ram at ≡ Some (a + b * 0x100 + c * 0x1_0000 + d * 0x100_0000)
four_there m size text ram at a b c d is one two e f g h =
    ap (λ n. load_bytes m n text ram at) (four size is one two)
    ∙ word_of_four m text ram at (Some a) (Some b) (Some c) (Some d) e f g h
    ∙ ap (λ (x : ℕ). Some x)
    (let same : a + (b + (c + (d + 0 * 256) * 256) * 256) * 256
    ≡ a + b * 0x100 + c * 0x1_0000 + d * 0x100_0000 = omega arith in same)
