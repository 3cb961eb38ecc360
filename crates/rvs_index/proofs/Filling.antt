-- Blank marks change nothing.
use Rattle.std.proofs.Common.{◌≡◌, ℕ, suc, ◌+◌, ◌^◌, ◌<◌, ◌≤◌, Bool, true, false, List}
use Rattle.std.proofs.Common.{[], ◌∷◌, ◌++◌, refl, sym, ap, subst, ◌∙◌, All, arith, length}
use Rattle.std.proofs.lemmas.List.{length_push}
use Rattle.std.proofs.lemmas.Nat.{and_le_l}
use Rattle.std.proofs.Math.Nat.{pow-succ'}
use Rattle.rvs_points.proofs.Distinct.{both-ways}
use Rattle.rvs_expr.specs.Meaning.{Table}
use Rattle.rvs_index.specs.Index.{raised}
use Rattle.rvs_index.specs.Marks.{raised_marks, AreFilled, HasMarks, IsHead}
use Rattle.rvs_index.specs.Signs.{bit, has_all, signs_of, signs_word}
use Rattle.rvs_index.specs.declared.mark.Audience.{Audience}
use Rattle.rvs_index.specs.declared.mark.Head.{Head}
use Rattle.rvs_index.specs.declared.mark.Mark.{Mark}
use Rattle.rvs_index.specs.declared.slot.Slot.{Slot}
use Rattle.rvs_index.proofs.Marks.{marks_add, marks_low, pushed_each}
use Rattle.rvs_index.proofs.Places.{raised_low}

-- ---- the word of the signs
bit_low : (b : Bool) → bit b ≤ 1
bit_low b = grind arith

word_low : (bs : List Bool) → signs_word bs < 2 ^ length bs
word_low [] = omega arith
word_low (b ∷ bs) = grind (arith, pow-succ', bit_low, (word_low bs))

pub signs_low : (t : Table) → signs_word (signs_of t) < 2 ^ 31
unfolding signs_of
signs_low t = word_low (signs_of t)

-- ---- marks behind others
pub marks_join : (w : ℕ) (ms ms' : List Mark) (cs : List ℕ)
    → raised_marks w (ms ++ ms') cs ≡ raised_marks w ms' (raised_marks w ms cs)
marks_join w [] ms' cs = refl
marks_join w (m ∷ ms) ms' cs = marks_join w ms ms' (raised (has_all w m.mask) m.at cs)

pub marks_raise : (w k : ℕ) (ms : List Mark) (cs : List ℕ) → All (λ n. n ≤ k) cs
    → All (λ n. n ≤ k + length ms) (raised_marks w ms cs)
marks_raise w k [] cs low i d h = omega (arith, low i d h)
marks_raise w k (m ∷ ms) cs low i d h =
    omega (
      arith,
      marks_raise w (k + 1) ms (raised (has_all w m.mask) m.at cs)
          (raised_low (has_all w m.mask) cs m.at k low) i d h,
    )

-- ---- blank ones
blank_free : (w : ℕ) → w < 2 ^ 31 → has_all w 2147483648 ≡ false
blank_free w h = grind (arith, and_le_l)

abbrev pub blank : Mark
blank = record { at = 0; mask = 2147483648 }

pub filled_none : (ms : List Mark) → AreFilled ms ms
filled_none ms = grind arith

pub filled_more : (ms ms' ms'' : List Mark) → AreFilled ms ms' → length ms' < length ms + 16
    → ms'' ≡ ms' ++ blank ∷ [] → AreFilled ms ms''
filled_more ms ms' ms'' was short e =
    subst (AreFilled ms) (sym e) (record {
      adds = λ w cs h.
          marks_join w ms' (blank ∷ []) cs
          ∙ ap (λ b. raised b 0 (raised_marks w ms' cs)) (blank_free w h)
          ∙ was.adds w cs h;
      low = λ n some low k d l.
          pushed_each (λ k (m : Mark). m.at < n) ms' blank (λ k d l. was.low n some low k d l) some
          k d l;
      few = omega (arith, length_push ms' blank, short);
    })

-- ---- a head
pub head_more : (a : Audience) (slots : List Slot) (h : Head) → h.more ≡ true → IsHead a slots h
head_more a slots h more = grind (arith, both-ways)

pub head_filled : (a : Audience) (slots : List Slot) (ms ms' : List Mark) (h : Head)
    → HasMarks a slots ms → length ms ≡ length slots → AreFilled ms ms' → h.marks ≡ ms'
    → IsHead a slots h
head_filled a slots ms ms' h has len filled e = record {
  adds = λ m op t cs o.
      ap (λ l. raised_marks (signs_word (signs_of t)) l cs) e
      ∙ filled.adds (signs_word (signs_of t)) cs (signs_low t)
      ∙ marks_add a op t slots ms cs o len has;
  low = λ m k some low.
      subst (All (λ (m : Mark). m.at < k)) (sym e)
      (filled.low k some (marks_low a k slots ms len has low));
  few = λ m. omega (arith, filled.few, ap (λ (l : List Mark). length l) e, len);
}

-- ---- what is so of all of a list is so of its back
pub all_back : {X : Type 0} (P : X → Type 0) (xs ys : List X) → All P (xs ++ ys) → All P ys
all_back P [] ys all = all
all_back P (x ∷ xs) ys all = all_back P xs ys (λ k d h. all (suc k) d (omega arith))
