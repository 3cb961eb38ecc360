-- The cases of a label: a case can be made from each, and each belongs to a claim.
use Rattle.std.proofs.Common.{◌≡◌, ℕ, ◌+◌, ◌<◌, ◌≤◌, Bool, true, cond, ◌&&◌, List, []}
use Rattle.std.proofs.Common.{◌∷◌, ◌++◌, length, map, get_or, Option, Some, None, refl}
use Rattle.std.proofs.Common.{◌∙◌, subst, arith, length-append}
use Rattle.std.specs.Prelude.{All, nat_le, filter, is_some, option_map, option_and_then}
use Rattle.std.specs.Prelude.{option_to_list, slice_get}
use Rattle.std.specs.List.{list_all, range_with_len}
use Rattle.std.proofs.lemmas.Bool.Decides.{nat_tests}
use Rattle.std.proofs.lemmas.List.FromFn.{length-range_with_len}
use Rattle.std.proofs.lemmas.Option.{slice_get_within, get_or_from_slice_get}
use Rattle.std.proofs.Common.{◌⊎◌, inl, inr, rules}
use Rattle.rvs_insn.specs.Memory.{HasRoom}
use Rattle.rvs_insn.specs.Isa.{Isa}
use Rattle.rvs_insn.specs.Fields.{Fields}
use Rattle.rvs_cross.specs.Cross.{Place}
use Rattle.rvs_sequences.specs.Sequences.{first_sequence}
use Rattle.rvs_asm_text.specs.Text.{is_text_byte}
use Rattle.rvs_points.specs.Keys.{is_name_byte, is_label_name}
use Rattle.rvs_points.specs.Kinds.{kind_name}
use Rattle.rvs_points.specs.Valid.{IsMeant, IsValid}
use Rattle.rvs_points.specs.declared.group.Kind.{Kind}
use Rattle.rvs_points.specs.Points as groups
use Rattle.rvs_points.specs.Points.{Meaning, window, Label}
use Rattle.rvs_solver.specs.Choices.{ChoiceValue}
use Rattle.rvs_solver.specs.First.{first_choice}
use Rattle.rvs_solver.specs.Solving.{IsSingle, first_of_point, first_at}
use Rattle.rvs_choice.specs.declared.solved.Solved.{Solved}
use Rattle.rvs_choice.specs.declared.solved.Solved.TheVariants.{One, Many}
use Rattle.rvs_test_text.specs.declared.claim.Claim.{Claim}
use Rattle.rvs_test_text.specs.TestText.{Point, claim_lines, line_of_claim}
use Rattle.rvs_test_text.specs.Claim.{IsReady, AreReady, ArePrintable}
use Rattle.rvs_test.specs.Made.{places, is_solved, solved_among, cases_among, numbered, claims_of}
use Rattle.rvs_test.specs.Made.{cases_of, named_or_none, named_at}
use Rattle.rvs_test_text.proofs.Chars.{all_map, both, tested, untested}
use Rattle.rvs_test.proofs.Ready.{first_ready}
use Rattle.rvs_test.proofs.Sequences.{places_few, sequence_ready}
use Rattle.rvs_solver.proofs.Search.{Each}
use Rattle.rvs_solver.proofs.Operands.{all_from_each}
use Rattle.rvs_test.proofs.Ranges.{range_below}
use Rattle.rvs_test.proofs.Loops.{numbered_length}

-- ---- what solves a point

-- a point of the label, and the first choice that hits it
pub record IsFirst (isa : Isa) (l : Label) (k : ℕ) (s : Solved) : Type 0 where
  pub point : groups.Point
  pub choice : ChoiceValue
  pub at : slice_get l.points k ≡ Some point
  pub single : IsSingle point.meaning
  pub found : first_choice isa l.ops point.kind point.meaning ≡ Some choice
  pub is : One choice ≡ s

-- a cross point of the label, and the first instructions that match it
pub record IsFirstWindow (isa : Isa) (l : Label) (k : ℕ) (s : Solved) : Type 0 where
  pub point : groups.Point
  pub places : List Place
  pub insns : List Fields
  pub at : slice_get l.points k ≡ Some point
  pub means : point.meaning ≡ window places
  pub found : first_sequence isa places ≡ Some insns
  pub is : Many insns ≡ s

chosen : (isa : Isa) (l : Label) (k : ℕ) (s : Solved) (p : groups.Point) (o : Option ChoiceValue)
    → slice_get l.points k ≡ Some p → IsSingle p.meaning
    → first_choice isa l.ops p.kind p.meaning ≡ o → option_map One o ≡ Some s → IsFirst isa l k s
chosen isa l k s p o at single found h = grind arith

matched : (isa : Isa) (l : Label) (k : ℕ) (s : Solved) (p : groups.Point) (ps : List Place)
    (o : Option (List Fields)) → slice_get l.points k ≡ Some p → p.meaning ≡ window ps
    → first_sequence isa ps ≡ o → option_map Many o ≡ Some s → IsFirstWindow isa l k s
matched isa l k s p ps o at means found h = grind arith

alone : (isa : Isa) (l : Label) (k : ℕ) (s : Solved) (p : groups.Point) (m : Meaning)
    → slice_get l.points k ≡ Some p → p.meaning ≡ m → IsSingle m
    → option_map One (first_choice isa l.ops p.kind m) ≡ Some s → IsFirst isa l k s
alone isa l k s p m at means single h = grind (arith, chosen)

pointed : (isa : Isa) (l : Label) (k : ℕ) (s : Solved) (o : Option groups.Point)
    → slice_get l.points k ≡ o → option_and_then (first_of_point isa l) o ≡ Some s
    → IsFirst isa l k s ⊎ IsFirstWindow isa l k s
pointed isa l k s o at h = grind arith

pub first_is : (isa : Isa) (l : Label) (k : ℕ) (s : Solved) → first_at isa l k ≡ Some s
    → IsFirst isa l k s ⊎ IsFirstWindow isa l k s
first_is isa l k s h = pointed isa l k s (slice_get l.points k) refl h

meant_at : (isa : Isa) (l : Label) (k : ℕ) (p : groups.Point) → IsValid isa l
    → slice_get l.points k ≡ Some p → IsMeant p
meant_at isa l k p v at =
    let low : k < length l.points = slice_get_within l.points k p at in
    let is : get_or l.points k p ≡ p = get_or_from_slice_get l.points k p p at in
    subst IsMeant is (v.meant k p low)

window_ready : (isa : Isa) (l : Label) (k : ℕ) (s : Solved) → IsValid isa l
    → IsFirstWindow isa l k s → IsReady isa s
window_ready isa l k s v f =
    let few = places_few f.point f.places (meant_at isa l k f.point v f.at) f.means in
    subst (IsReady isa) f.is (sequence_ready isa f.places f.insns few.0 few.1 f.found)

choice_ready : (isa : Isa) → HasRoom isa.memory → (l : Label) (k : ℕ) (s : Solved) → IsValid isa l
    → IsFirst isa l k s → IsReady isa s
choice_ready isa room l k s v f = grind (arith, first_ready)

pub solved_ready : (isa : Isa) → HasRoom isa.memory → (l : Label) (k : ℕ) (s : Solved)
    → IsValid isa l
    → first_at isa l k ≡ Some s → IsReady isa s
solved_ready isa room l k s v h =
    elim (first_is isa l k s h) [
      | inl f ↦ choice_ready isa room l k s v f
      | inr f ↦ window_ready isa l k s v f
    ]

-- ---- all cases

some_more : (o : Option Solved) (rest : List Solved) (P : List Solved → Type 0)
    → ((s : Solved) → o ≡ Some s → P (s ∷ rest)) → (o ≡ None → P rest)
    → P (option_to_list o ++ rest)
some_more o rest P h k = grind arith

pub among_ready : (isa : Isa) → HasRoom isa.memory → (l : Label) (ks : List ℕ) → IsValid isa l
    → AreReady isa (cases_among isa l ks)
among_ready isa room l [] v = tt
among_ready isa room l (k ∷ ks) v =
    grind (arith, some_more, solved_ready, (among_ready isa room l ks v))

one_long : (o : Option Solved) → length (option_to_list o) ≤ 1
one_long o = grind arith

among_few : (isa : Isa) (l : Label) (ks : List ℕ) → length (cases_among isa l ks) ≤ length ks
among_few isa l [] = omega arith
among_few isa l (k ∷ ks) = grind (arith, length-append, one_long, (among_few isa l ks))

as_many : (o : Option Solved) (k : ℕ) (cs : List Solved) (ks : List ℕ) → length ks ≡ length cs
    → length (cond (is_some o) (k ∷ ks) ks) ≡ length (option_to_list o ++ cs)
as_many o k cs ks h = grind arith

among_same : (isa : Isa) (l : Label) (ks : List ℕ)
    → length (solved_among isa l ks) ≡ length (cases_among isa l ks)
among_same isa l [] = refl
among_same isa l (k ∷ ks) = grind (arith, as_many, (among_same isa l ks))

pub cases_ready : (isa : Isa) → HasRoom isa.memory → (l : Label) → IsValid isa l
    → AreReady isa (cases_of isa l)
unfolding cases_of
cases_ready isa room l v = among_ready isa room l (places l) v

-- no more than there are points
pub cases_within : (isa : Isa) (l : Label) → length (cases_of isa l) ≤ length l.points
unfolding cases_of
cases_within isa l =
    omega (arith, among_few isa l (places l), length-range_with_len 0 (length l.points))

pub cases_few : (isa : Isa) (l : Label) → IsValid isa l → length (cases_of isa l) ≤ 2048
cases_few isa l v = omega (arith, cases_within isa l, v.few)

pub claims_same : (isa : Isa) (l : Label) → length (claims_of isa l) ≡ length (cases_of isa l)
unfolding claims_of cases_of
claims_same isa l = numbered_length 0 (solved_among isa l (places l)) ∙ among_same isa l (places l)

-- ---- the lines of the claims

lines_of_numbered : (f : ℕ → Point) (j : ℕ) (ks : List ℕ)
    → claim_lines j (map (λ (c : Claim). f c.point) (numbered j ks))
    ≡ map (line_of_claim f) (numbered j ks)
lines_of_numbered f j [] = refl
lines_of_numbered f j (k ∷ ks) = simp (lines_of_numbered f (j + 1) ks)

pub lines_of_claims : (isa : Isa) (l : Label) (f : ℕ → Point)
    → claim_lines 0 (map (λ (c : Claim). f c.point) (claims_of isa l))
    ≡ map (line_of_claim f) (claims_of isa l)
unfolding claims_of
lines_of_claims isa l f = lines_of_numbered f 0 (solved_among isa l (places l))

-- ---- what the header names is text

weaker : (p q : ℕ → Bool) → ((c : ℕ) → p c ≡ true → q c ≡ true) → (cs : List ℕ)
    → list_all p cs ≡ true → list_all q cs ≡ true
weaker p q h cs a = untested q cs (all_map p q cs h (tested p cs a))

name_byte : (c : ℕ) → is_name_byte c ≡ true → is_text_byte c ≡ true
name_byte c h = grind (arith, nat_tests)

key_byte : (c : ℕ) → (nat_le 32 c && nat_le c 126) ≡ true → is_text_byte c ≡ true
key_byte c h = grind (arith, nat_tests)

pub name_text : (name : List ℕ) → is_label_name name ≡ true → list_all is_text_byte name ≡ true
name_text name h = search (rules, both, length, weaker, name_byte)

kind_text : (k : Kind) → list_all is_text_byte (kind_name k) ≡ true
kind_text k = grind arith

abbrev pub IsPrintablePoint : Point → Type 0
IsPrintablePoint p = (list_all is_text_byte p.kind ≡ true) × (list_all is_text_byte p.key ≡ true)

point_text : (isa : Isa) (l : Label) (k : ℕ) (o : Option groups.Point) → IsValid isa l
    → slice_get l.points k ≡ o → IsPrintablePoint (named_or_none o)
point_text isa l k None v h = (refl, refl)
point_text isa l k (Some p) v h =
    let low : k < length l.points = slice_get_within l.points k p h in
    let is : get_or l.points k p ≡ p = get_or_from_slice_get l.points k p p h in
    let m : IsMeant p = subst IsMeant is (v.meant k p low) in (
      kind_text p.kind,
      weaker (λ c. nat_le 32 c && nat_le c 126) is_text_byte key_byte p.key
          m.printable,
    )

named_text : (isa : Isa) (l : Label) (ds : List Claim) → IsValid isa l
    → ArePrintable (map (λ (c : Claim). named_at l c.point) ds)
named_text isa l [] v = tt
named_text isa l (d ∷ ds) v =
    let h = point_text isa l d.point (slice_get l.points d.point) v refl in
    (h.0, h.1, named_text isa l ds v)

pub points_text : (isa : Isa) (l : Label) → IsValid isa l
    → ArePrintable (map (λ (c : Claim). named_at l c.point) (claims_of isa l))
points_text isa l v = named_text isa l (claims_of isa l) v

-- ---- the places of the claims

filtered : (p : ℕ → Bool) (n : ℕ) (ks : List ℕ) → Each (λ k. k < n) ks
    → Each (λ k. k < n) (filter p ks)
filtered p n [] a = tt
filtered p n (k ∷ ks) a = grind (arith, nat_tests, (filtered p n ks a.1))

below : (j n : ℕ) (ks : List ℕ) → Each (λ k. k < n) ks
    → Each (λ (c : Claim). c.point < n) (numbered j ks)
below j n [] h = tt
below j n (k ∷ ks) h = (h.0, below (j + 1) n ks h.1)

range_to : (n : ℕ) → Each (λ k. k < n) (range_with_len 0 n)
range_to n =
    let P : ℕ → Type 0 = λ m. Each (λ k. k < m) (range_with_len 0 n) in
    let e : 0 + n ≡ n = omega arith in subst P e (range_below 0 n)

pub claims_below : (isa : Isa) (l : Label)
    → All (λ (c : Claim). c.point < length l.points) (claims_of isa l)
unfolding claims_of
claims_below isa l =
    all_from_each (λ (c : Claim). c.point < length l.points)
    (numbered 0 (solved_among isa l (places l)))
    (below 0 (length l.points) (solved_among isa l (places l))
    (filtered (is_solved isa l) (length l.points) (places l) (range_to (length l.points))))
