-- What the names of a test text mark.
use Rattle.std.proofs.Common.{◌≡◌, ℕ, ◌+◌, ◌^◌, ◌<◌, ◌≤◌, Bool, true, false, cond, List, [], ◌∷◌}
use Rattle.std.proofs.Common.{◌++◌, Option, Some, None, refl, ap, ◌∙◌, arith, rules}
use Rattle.std.specs.Prelude.{◌==◌, is_some}
use Rattle.std.specs.Option.{option_or}
use Rattle.std.specs.Fmt.{decimal}
use Rattle.std.specs.Str.{bytes_eq}
use Rattle.std.proofs.lemmas.Fmt.{decimal_injective}
use Rattle.std.proofs.lemmas.Slice.Eq.{bytes_eq-Decides}
use Rattle.std.proofs.lemmas.Bool.{cases_eq, false_from_ne_true}
use Rattle.rvs_asm.specs.declared.mark.Mark.{Mark}
use Rattle.rvs_asm.specs.Symbols.{Table, find_mark, has_mark, address_in, address_of}
use Rattle.rvs_test_text.specs.declared.statement.Name.{Name}
use Rattle.rvs_test_text.specs.declared.statement.Name.TheVariants.{Start, Case, Target, Done, Halt}
use Rattle.rvs_test_text.specs.declared.statement.Name.TheVariants.{Scratch, Pattern, ToHost}
use Rattle.rvs_test_text.specs.declared.statement.Name.TheVariants.{BeginSignature, Slot}
use Rattle.rvs_test_text.specs.declared.statement.Name.TheVariants.{EndSignature}
use Rattle.rvs_test_text.specs.Statements.{name_of}
use Rattle.rvs_test_text.proofs.WordLaws.{IsSmall}

-- two names are the same
abbrev pub same_name : Name → Name → Bool
same_name Start Start = true
same_name (Case j) (Case k) = j == k
same_name (Target j) (Target k) = j == k
same_name (Done j) (Done k) = j == k
same_name Halt Halt = true
same_name Scratch Scratch = true
same_name Pattern Pattern = true
same_name ToHost ToHost = true
same_name BeginSignature BeginSignature = true
same_name (Slot j) (Slot k) = j == k
same_name EndSignature EndSignature = true
same_name _ _ = false

same_decimal : (j k : ℕ) → j < 2 ^ 32 → k < 2 ^ 32 → bytes_eq (decimal j) (decimal k) ≡ (j == k)
same_decimal j k hj hk =
    grind (arith, bytes_eq-Decides, true, false_from_ne_true, decimal_injective, false, cases_eq)

-- names are told apart by their texts
pub same_bytes : (a b : Name) → IsSmall a → IsSmall b
    → bytes_eq (name_of a) (name_of b) ≡ same_name a b
same_bytes a b ha hb = search (rules, same_decimal)

-- ---- marks
abbrev pub Marks : Type 0
Marks = List (Name × Mark)

abbrev pub named : Marks → Table
named [] = []
named (m ∷ ms) = (name_of m.0, m.1) ∷ named ms

abbrev pub find_name : Marks → Name → Option Mark
find_name [] n = None
find_name (m ∷ ms) n = cond (same_name n m.0) (Some m.1) (find_name ms n)

abbrev pub AllSmall : Marks → Type 0
AllSmall [] = Unit {0}
AllSmall (m ∷ ms) = IsSmall m.0 × AllSmall ms

pub found : (ms : Marks) (n : Name) → IsSmall n → AllSmall ms
    → find_mark (named ms) (name_of n) ≡ find_name ms n
found [] n h hs = refl
found (m ∷ ms) n h hs = grind (arith, cond, Some, same_bytes, (found ms n h hs.1))

pub named_join : (xs ys : Marks) → named (xs ++ ys) ≡ named xs ++ named ys
named_join [] ys = refl
named_join (x ∷ xs) ys = ap (λ l. (name_of x.0, x.1) ∷ l) (named_join xs ys)

pub small_join : (xs ys : Marks) → AllSmall xs → AllSmall ys → AllSmall (xs ++ ys)
small_join [] ys a b = b
small_join (x ∷ xs) ys a b = (a.0, small_join xs ys a.1 b)

or_cond : (t : Bool) (m : Mark) (a b : Option Mark)
    → cond t (Some m) (option_or a b) ≡ option_or (cond t (Some m) a) b
or_cond t m a b = grind arith

pub find_join : (xs ys : Marks) (n : Name)
    → find_name (xs ++ ys) n ≡ option_or (find_name xs n) (find_name ys n)
find_join [] ys n = refl
find_join (x ∷ xs) ys n = grind (arith, cond, Some, or_cond, (find_join xs ys n))

-- a table without a name
abbrev pub Lacks : Marks → Name → Type 0
Lacks ms n = find_name ms n ≡ None

pub lacks_join : (xs ys : Marks) (n : Name) → Lacks xs n → Lacks ys n → Lacks (xs ++ ys) n
lacks_join xs ys n a b = find_join xs ys n ∙ ap (λ o. option_or o (find_name ys n)) a ∙ b

pub find_after : (xs ys : Marks) (n : Name) → Lacks xs n → find_name (xs ++ ys) n ≡ find_name ys n
find_after xs ys n a = find_join xs ys n ∙ ap (λ o. option_or o (find_name ys n)) a

pub find_first : (xs ys : Marks) (n : Name) (m : Mark) → find_name xs n ≡ Some m
    → find_name (xs ++ ys) n ≡ Some m
find_first xs ys n m e = find_join xs ys n ∙ ap (λ o. option_or o (find_name ys n)) e

pub lacks_mark : (ms : Marks) (n : Name) → IsSmall n → AllSmall ms → Lacks ms n
    → has_mark (named ms) (name_of n) ≡ false
lacks_mark ms n h hs l = ap is_some (found ms n h hs ∙ l)

pub address_found : (ms : Marks) (n : Name) (m : Mark) → IsSmall n → AllSmall ms
    → find_name ms n ≡ Some m → address_of (named ms) (name_of n) ≡ m.at
address_found ms n m h hs e = ap address_in (found ms n h hs ∙ e)

-- ---- stages: names come in the order of their stages, those of one case in any order
abbrev pub stage : ℕ → Name → ℕ
stage n Start = 0
stage n (Case k) = 1 + k
stage n (Target k) = 1 + k
stage n (Done k) = 1 + k
stage n Halt = n + 1
stage n Scratch = n + 2
stage n Pattern = n + 3
stage n ToHost = n + 4
stage n BeginSignature = n + 5
stage n (Slot k) = n + 6 + k
stage n EndSignature = n + n + 6

same_stage : (n : ℕ) (a b : Name) → same_name a b ≡ true → stage n a ≡ stage n b
same_stage n a b h = grind arith

abbrev pub AllBelow : ℕ → ℕ → Marks → Type 0
AllBelow n limit [] = Unit {0}
AllBelow n limit (m ∷ ms) = (stage n m.0 < limit) × AllBelow n limit ms

pub below_join : (n limit : ℕ) (xs ys : Marks) → AllBelow n limit xs → AllBelow n limit ys
    → AllBelow n limit (xs ++ ys)
below_join n limit [] ys a b = b
below_join n limit (x ∷ xs) ys a b = (a.0, below_join n limit xs ys a.1 b)

pub below_more : (n limit limit' : ℕ) (xs : Marks) → limit ≤ limit' → AllBelow n limit xs
    → AllBelow n limit' xs
below_more n limit limit' [] h a = tt
below_more n limit limit' (x ∷ xs) h a = (omega (arith, a.0), below_more n limit limit' xs h a.1)

-- a later name isn't there
pub lacks_later : (n limit : ℕ) (ms : Marks) (name : Name) → limit ≤ stage n name
    → AllBelow n limit ms → Lacks ms name
lacks_later n limit [] name h a = refl
lacks_later n limit (m ∷ ms) name h a =
    grind (
      arith,
      false,
      false_from_ne_true,
      same_stage,
      cond,
      Some,
      (lacks_later n limit ms name h a.1),
    )
