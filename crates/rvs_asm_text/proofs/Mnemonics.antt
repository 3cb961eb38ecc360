-- Mnemonics are ASCII.
use Rattle.std.proofs.Common.{◌≡◌, ℕ, ◌<◌, Bool, true, false, List, [], ◌∷◌, None, refl}
use Rattle.std.proofs.Common.{arith, lit<, zero, suc, subst}
use Rattle.std.specs.Prelude.{nat_lt}
use Rattle.std.specs.List.{list_all, find}
use Rattle.std.specs.Str.{bytes_eq, IsAscii, IsUtf8}
use Rattle.std.proofs.lemmas.Str.{IsUtf8-from_ascii}
use Rattle.std.proofs.lemmas.Slice.Eq.{bytes_eq-Decides}
use Rattle.std.proofs.lemmas.Bool.Decides.{nat_tests}
use Rattle.std.proofs.lemmas.Bool.{and_parts}
use Rattle.rvs_insn.specs.declared.op.Op.{Op}
use Rattle.rvs_insn.specs.Table.{row, all_ops}
use Rattle.rvs_insn.specs.Names.{op_of_name}

names_low : (op : Op) → list_all (λ c. nat_lt c 128) (row op).name ≡ true
names_low op = grind arith

below_128 : (c : ℕ) → nat_lt c 128 ≡ true → c < 128
below_128 c h = grind (arith, nat_tests)

ascii : (cs : List ℕ) → list_all (λ c. nat_lt c 128) cs ≡ true → IsAscii cs
ascii [] h i = lit< tt
ascii (c ∷ cs) h zero = below_128 c (and_parts (nat_lt c 128) (list_all (λ c. nat_lt c 128) cs) h).0
ascii (c ∷ cs) h (suc i) =
    ascii cs (and_parts (nat_lt c 128) (list_all (λ c. nat_lt c 128) cs) h).1 i

same : (xs ys : List ℕ) → bytes_eq xs ys ≡ true → xs ≡ ys
same xs ys h = (bytes_eq-Decides xs ys).0 h

named : (op : Op) → IsUtf8 (row op).name
named op = IsUtf8-from_ascii (row op).name (ascii (row op).name (names_low op))

differs : (op : Op) (name : List ℕ) → (IsUtf8 name → ⊥) → (b : Bool)
    → bytes_eq (row op).name name ≡ b → b ≡ false
differs op name no_text true e =
    absurd (no_text (subst IsUtf8 (same (row op).name name e) (named op)))
differs op name no_text false e = refl

none_found : (ops : List Op) (test : Op → Bool) → ((op : Op) → test op ≡ false)
    → find test ops ≡ None
none_found [] test h = refl
none_found (o ∷ ops) test h = grind (arith, (none_found ops test h))

pub unnamed : (name : List ℕ) → (IsUtf8 name → ⊥) → op_of_name name ≡ None
unfolding op_of_name
unnamed name no_text = none_found all_ops (λ op. bytes_eq (row op).name name)
    (λ op. differs op name no_text (bytes_eq (row op).name name) refl)
