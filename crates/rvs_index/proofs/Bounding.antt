-- Lists whose points ask for one of two values.
use Rattle.std.proofs.Common.{◌≡◌, ℕ, suc, ℤ, ◌+◌, ◌<◌, Bool, true, false}
use Rattle.std.proofs.Common.{◌||◌, List, [], ◌∷◌, Option, Some, refl, sym, ap, ◌∙◌}
use Rattle.std.proofs.Common.{arith, length, get_or}
use Rattle.std.proofs.lemmas.Bool.Decides.{nat_tests}
use Rattle.std.proofs.lemmas.Bool.{and_left, and_right}
use Rattle.std.specs.Ordering.{int_eq}
use Rattle.std.specs.Prelude.{◌==◌, IfSome}
use Rattle.rvs_points.proofs.Distinct.{both-ways}
use Rattle.rvs_points.specs.PointView.{point_view}
use Rattle.rvs_points.specs.Hits.{holds}
use Rattle.rvs_expr.specs.Equated.{is_value}
use Rattle.rvs_expr.specs.Meaning.{Table}
use Rattle.rvs_expr_text.specs.declared.lexeme.NumName.{NumName}
use Rattle.rvs_insn.specs.declared.op.Op.{Op}
use Rattle.rvs_index.specs.Cells.{fact, never, AreBound, AsksValue, Covers, IsCell}
use Rattle.rvs_index.specs.Cells.{SaysValue}
use Rattle.rvs_index.specs.Index.{places, raised, raised_all}
use Rattle.rvs_index.specs.Shortcuts.{says}
use Rattle.rvs_index.specs.declared.asked.Asked.{Asked}
use Rattle.rvs_index.specs.declared.cell.Cell.{Cell}
use Rattle.rvs_index.specs.declared.shortcut.Shortcut.{Shortcut}
use Rattle.rvs_index.specs.declared.shortcut.Shortcut.TheVariants.{Valued, Values}
use Rattle.rvs_index.specs.declared.slot.Slot.{Slot}
use Rattle.rvs_index.proofs.Cells.{int_turned, not_never}
use Rattle.rvs_index.proofs.Marks.{any_default}

-- ---- what a point asks
not_value : (q : Asked) (t : Table) (name : NumName) (z v : ℤ) → fact q t ≡ t.num name
    → fact q t ≡ Some v → int_eq z v ≡ false → is_value z (t.num name) ≡ false
not_value q t name z v named f n = grind (arith, int_turned)

pub valued_asks : (q : Asked) (mask : ℕ) (name : NumName) (z : ℤ)
    → ((t : Table) → fact q t ≡ t.num name) → (op : Op) (t : Table) (v : ℤ) → fact q t ≡ Some v
    → int_eq z v ≡ false → says (Valued mask name z) op t ≡ false
valued_asks q mask name z named op t v f n = grind (arith, and_left, not_value)

pub first_asks : (q : Asked) (mask : ℕ) (name other : NumName) (z y : ℤ)
    → ((t : Table) → fact q t ≡ t.num name) → (op : Op) (t : Table) (v : ℤ) → fact q t ≡ Some v
    → int_eq z v ≡ false → says (Values mask name other z y) op t ≡ false
first_asks q mask name other z y named op t v f n = grind (arith, and_left, not_value)

pub second_asks : (q : Asked) (mask : ℕ) (name other : NumName) (z y : ℤ)
    → ((t : Table) → fact q t ≡ t.num other) → (op : Op) (t : Table) (v : ℤ) → fact q t ≡ Some v
    → int_eq y v ≡ false → says (Values mask name other z y) op t ≡ false
second_asks q mask name other z y named op t v f n = grind (arith, and_left, and_right, not_value)

-- one that says a value
pub saying_asks : (q : Asked) (s : Slot) (z : ℤ) → SaysValue q s z → AsksValue q s z
saying_asks q s z is op t v f n = is op t v f ∙ n

-- one that says what asks for a value
pub slot_asks : (q : Asked) (s : Slot) (short : Shortcut) (o : Option ℤ)
    → s.shortcut ≡ Some short
    → IfSome o (λ z. (op : Op) (t : Table) (v : ℤ) → fact q t ≡ Some v → int_eq z v ≡ false
    → says short op t ≡ false)
    → IfSome o (AsksValue q s)
slot_asks q s short o e h = grind (arith, nat_tests)

-- ---- two values
apart_from : (x z v : ℤ) → x ≡ z → int_eq x v ≡ false → int_eq z v ≡ false
apart_from x z v e n = ap (λ x. int_eq x v) (sym e) ∙ n

pub covers_first : (z x y : ℤ) → z ≡ x → Covers z x y x y
covers_first z x y e v s n m = (apart_from x z v (sym e) n, (n, m))

pub covers_second : (z x y : ℤ) → z ≡ y → Covers z x y x y
covers_second z x y e v s n m = (apart_from y z v (sym e) m, (n, m))

pub covers_new : (z x y : ℤ) → x ≡ never → Covers z x y z y
covers_new z x y e v s n m = (n, (apart_from never x v (sym e) (not_never v s), m))

pub covers_other : (z x y : ℤ) → y ≡ never → Covers z x y x z
covers_other z x y e v s n m = (m, (n, apart_from never y v (sym e) (not_never v s)))

-- ---- the points of a list
pub bound_none : (q : Asked) (slots : List Slot) (y z : ℤ) → AreBound 0 q slots y z
bound_none q slots y z k d op t v h = absurd (omega (arith, h))

pub bound_more : (q : Asked) (slots : List Slot) (n : ℕ) (s : Slot) (z x y x' y' : ℤ)
    → AreBound n q slots x y → n < length slots → s ≡ get_or slots n s → AsksValue q s z
    → Covers z x y x' y' → AreBound (n + 1) q slots x' y'
bound_more q slots n s z x y x' y' was low at asks covers k d op t v h f small a b =
    turn (k == n) refl
  where
    wider : (int_eq z v ≡ false) × ((int_eq x v ≡ false) × (int_eq y v ≡ false))
    wider = covers v small a b

    equal : (a b : ℕ) → (a == b) ≡ true → a ≡ b
    equal a b h = grind (arith, nat_tests)

    less : (k == n) ≡ false → k < n
    less e = grind (arith, nat_tests)

    turn : (e : Bool) → (k == n) ≡ e → holds (point_view (get_or slots k d).point.now) op t ≡ false
    turn true e =
        ap (λ (s : Slot). holds (point_view s.point.now) op t)
        (ap (λ k. get_or slots k d) (equal k n e) ∙ any_default slots n d s low ∙ sym at)
        ∙ asks op t v f wider.0
    turn false e = was k d op t v (less e) f small wider.1.0 wider.1.1

-- none is raised
none_raised : (op : Op) (t : Table) (slots : List Slot) (cs : List ℕ)
    → ((k : ℕ) (d : Slot) → k < length slots
    → holds (point_view (get_or slots k d).point.now) op t ≡ false)
    → cs ≡ raised_all (λ p. holds p op t) (places slots) cs
none_raised op t [] cs none = refl
none_raised op t (s ∷ slots) cs none =
    none_raised op t slots cs (λ k d h. none (suc k) d (omega arith))
    ∙ ap (raised_all (λ p. holds p op t) (places slots))
    (sym (ap (λ b. raised b s.at cs) (none 0 s (omega arith))))

first_not : (a b c : Bool) → ((a || b) || c) ≡ false → a ≡ false
first_not a b c h = grind arith

second_not : (a b c : Bool) → ((a || b) || c) ≡ false → b ≡ false
second_not a b c h = grind arith

pub bound_adds : (q : Asked) (slots : List Slot) (c : Cell) → c.more ≡ true
    → AreBound (length slots) q slots c.first c.second → IsCell q slots c
bound_adds q slots c h bound = record {
  adds = λ m op t z cs f s. both-ways c.more h m;
  low = λ m n some low. both-ways c.more h m;
  spared = λ m op t z cs f s n.
      none_raised op t slots cs (λ k d l. bound k d op t z l f s
      (first_not (int_eq c.first z) (int_eq c.second z) (int_eq c.first never) n)
      (second_not (int_eq c.first z) (int_eq c.second z) (int_eq c.first never) n));
}
