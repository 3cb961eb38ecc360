-- Marks add what the points of their list add.
use Rattle.std.proofs.Common.{◌≡◌, ℕ, ℤ, zero, suc, pos, ◌+◌, ◌*◌, ◌/◌, ◌%◌, ◌<◌, ◌≤◌, true, false}
use Rattle.std.proofs.Common.{◌&&◌, List, []}
use Rattle.std.proofs.Common.{◌∷◌, ◌++◌, Some, refl, sym, ap, subst, ◌∙◌, All, arith, length, drop}
use Rattle.std.proofs.Common.{get_or, take}
use Rattle.std.proofs.Math.Seq.{take-append_seam}
use Rattle.std.proofs.lemmas.Bool.Decides.{Decides-int_eq}
use Rattle.rvs_points.specs.Hits.{holds}
use Rattle.rvs_points.specs.declared.group.Label.{Label}
use Rattle.rvs_expr.specs.Equated.{is_value}
use Rattle.rvs_expr.specs.Meaning.{Table}
use Rattle.rvs_expr_text.specs.declared.lexeme.NumName.TheVariants.{EaAlign}
use Rattle.rvs_facts.specs.Facts.{facts_of}
use Rattle.rvs_facts.specs.Mnemonics.{number}
use Rattle.rvs_insn.specs.Fields.{Fields}
use Rattle.rvs_insn.specs.declared.op.Op.{Op}
use Rattle.rvs_index.specs.Buckets.{is_seen, bucket_count, number_bucket}
use Rattle.rvs_index.specs.Counting.{aims_in, hits_insn}
use Rattle.rvs_index.specs.Index.{insns_key, is_for, places, places_for, raised}
use Rattle.rvs_index.specs.Index.{raised_all, IsIndex}
use Rattle.rvs_index.specs.Marks.{raised_marks, ComesTo, HasHeads, HasMarks, HasPlaceHeads, IsHead}
use Rattle.rvs_index.specs.Marks.{place_key, IsMark, SaysSigns}
use Rattle.rvs_index.specs.Signs.{has_all, has_signs, signs_of, signs_word}
use Rattle.rvs_index.specs.State.{added}
use Rattle.rvs_index.specs.declared.mark.Audience.{Audience}
use Rattle.rvs_index.specs.declared.mark.Audience.TheVariants as audience
use Rattle.rvs_index.specs.declared.mark.Head.{Head}
use Rattle.rvs_index.specs.declared.mark.Mark.{Mark}
use Rattle.rvs_index.specs.declared.shortcut.Shortcut.{Shortcut}
use Rattle.rvs_index.specs.declared.shortcut.Shortcut.TheVariants as shortcut
use Rattle.rvs_index.specs.declared.slot.Slot.{Slot}
use Rattle.rvs_index.proofs.Cells.{number_says}
use Rattle.rvs_index.proofs.Masks.{first_always}
use Rattle.rvs_index.proofs.Places.{added_bucket, raised_length, slots_few, slots_low}

-- ---- lists that grow
-- what is so of each of a list, and of one more
pub pushed_each : {Y : Type 0} (P : ℕ → Y → Type 0) (ys : List Y) (y : Y)
    → ((k : ℕ) (e : Y) → k < length ys → P k (get_or ys k e)) → P (length ys) y
    → (k : ℕ) (e : Y) → k < length (ys ++ y ∷ []) → P k (get_or (ys ++ y ∷ []) k e)
pushed_each P [] y has p zero e h = p
pushed_each P [] y has p (suc k) e h = absurd (omega arith)
pushed_each P (z ∷ ys) y has p zero e h = has 0 e (omega arith)
pushed_each P (z ∷ ys) y has p (suc k) e h =
    pushed_each (λ k. P (suc k)) ys y (λ k e h. has (suc k) e (omega arith)) p k e (omega arith)

-- an element for any default
pub any_default : {X : Type 0} (xs : List X) (k : ℕ) (d e : X) → k < length xs
    → get_or xs k d ≡ get_or xs k e
any_default [] k d e h = absurd (omega arith)
any_default (x ∷ xs) zero d e h = refl
any_default (x ∷ xs) (suc k) d e h = any_default xs k d e (omega arith)

pub more_marks : (a : Audience) (slots : List Slot) (ms ms' : List Mark) (k : ℕ) (s : Slot)
    (m : Mark)
    → HasMarks a slots ms → length ms ≡ k → k < length slots → s ≡ get_or slots k s
    → IsMark a s m → ms' ≡ ms ++ m ∷ [] → HasMarks a slots ms'
more_marks a slots ms ms' k s m has len low at is e =
    subst (HasMarks a slots) (sym e) (record {
      each = λ i d e h. pushed_each (λ i m. IsMark a (get_or slots i d) m) ms m
          (λ i e h. has.each i d e h)
          (subst (λ s. IsMark a s m) (at ∙ any_default slots k s d low
          ∙ ap (λ k. get_or slots k d) (sym len)) is) i e h;
    })

pub more_heads : (who : ℕ → Audience) (key : ℕ → ℕ) (lists : List (List Slot)) (hs hs' : List Head)
    (n : ℕ) (slots : List Slot) (h : Head)
    → HasHeads who key lists hs → length hs ≡ n → key n < length lists
    → slots ≡ get_or lists (key n) slots → IsHead (who n) slots h → hs' ≡ hs ++ h ∷ []
    → HasHeads who key lists hs'
more_heads who key lists hs hs' n slots h has len low at is e =
    subst (HasHeads who key lists) (sym e) (record {
      each = λ i d e l. pushed_each (λ i h. IsHead (who i) (get_or lists (key i) d) h) hs h
          (λ i e l. has.each i d e l)
          (subst (λ i. IsHead (who i) (get_or lists (key i) d) h) (sym len)
          (subst (λ s. IsHead (who n) s h) (at ∙ any_default lists (key n) slots d low) is)) i e l;
    })

-- ---- marks
-- the mnemonic of a list is that of the instructions that it is for
pub always_so : (n : ℕ) (mnemonic : Op) → number mnemonic ≡ n
    → SaysSigns (audience.Mnemonic n) (shortcut.Mnemonic mnemonic) 1
always_so n mnemonic m op t o = grind (arith, first_always)

-- so is the place of an address
is_there : (y z : ℤ) (t : Table) → y ≡ z → t.num EaAlign ≡ Some y
    → is_value z (t.num EaAlign) ≡ true
is_there y z t e o = number_says z (t.num EaAlign) y o ∙ (Decides-int_eq z y).1 (sym e)

pub place_says : (y z : ℤ) → y ≡ z → SaysSigns (audience.Aligned y) (shortcut.Number EaAlign z) 1
place_says y z e op t o = is_there y z t e o ∙ first_always t

pub placed_says : (y z : ℤ) (mask : ℕ) → y ≡ z
    → SaysSigns (audience.Aligned y) (shortcut.Valued mask EaAlign z) mask
placed_says y z mask e op t o = ap (λ b. b && has_signs mask t) (is_there y z t e o)

pub marked : (a : Audience) (s : Slot) (k : Shortcut) (m : Mark) → s.shortcut ≡ Some k
    → m.at ≡ s.at → SaysSigns a k m.mask → IsMark a s m
marked a s k m is at said = grind arith

tail_marks : {a : Audience} {s : Slot} {slots : List Slot} {m : Mark} {ms : List Mark}
    → HasMarks a (s ∷ slots) (m ∷ ms) → HasMarks a slots ms
tail_marks has = record { each = λ k d e h. has.each (suc k) d e (omega arith) }

pub marks_add : (a : Audience) (op : Op) (t : Table) (slots : List Slot) (ms : List Mark)
    (cs : List ℕ)
    → ComesTo a op t → length ms ≡ length slots → HasMarks a slots ms
    → raised_marks (signs_word (signs_of t)) ms cs
    ≡ raised_all (λ p. holds p op t) (places slots) cs
marks_add a op t [] [] cs o l has = refl
marks_add a op t [] (m ∷ ms) cs o l has = absurd (omega arith)
marks_add a op t (s ∷ slots) [] cs o l has = absurd (omega arith)
marks_add a op t (s ∷ slots) (m ∷ ms) cs o l has =
    let is : IsMark a s m = has.each 0 s m (omega arith) in
    marks_add a op t slots ms (raised
    (has_all (signs_word (signs_of t)) m.mask) m.at cs) o (omega arith)
    (tail_marks has)
    ∙ ap (λ k. raised_all (λ p. holds p op t) (places slots)
    (raised (has_all (signs_word (signs_of t)) m.mask) k cs))
    is.place
    ∙ ap (λ b. raised_all (λ p. holds p op t) (places slots) (raised b s.at cs))
    (sym (is.says op t o))

pub marks_low : (a : Audience) (k : ℕ) (slots : List Slot) (ms : List Mark)
    → length ms ≡ length slots → HasMarks a slots ms → All (λ (s : Slot). s.at < k) slots
    → All (λ (m : Mark). m.at < k) ms
marks_low a k [] ms l has low i d h = absurd (omega arith)
marks_low a k (s ∷ slots) ms l has low i d h =
    let is : IsMark a (get_or (s ∷ slots) i s) (get_or ms i d) = has.each i s d h in
    omega (arith, is.place, low i s (omega arith))

pub marks_length : (word : ℕ) (ms : List Mark) (cs : List ℕ)
    → length (raised_marks word ms cs) ≡ length cs
marks_length word [] cs = refl
marks_length word (m ∷ ms) cs =
    simp (raised_length, (marks_length word ms (raised (has_all word m.mask) m.at cs)))

-- counts that were lent come back
pub lent_back : (n : ℕ) (new rest : List ℕ) → length new ≡ n → take n (new ++ rest) ≡ new
lent_back n new rest e = ap (λ n. take n (new ++ rest)) (sym e) ∙ take-append_seam new rest

-- going over the marks
pub marks_next : (signs : ℕ) (ms : List Mark) (k : ℕ) (d : Mark) (cs : List ℕ)
    → k < length ms
    → raised_marks signs (drop k ms) cs
    ≡ raised_marks signs (drop (k + 1) ms)
    (raised (has_all signs (get_or ms k d).mask) (get_or ms k d).at cs)
marks_next signs [] k d cs h = absurd (omega arith)
marks_next signs (m ∷ ms) zero d cs h = refl
marks_next signs (m ∷ ms) (suc k) d cs h = grind (arith, (marks_next signs ms k d cs (omega arith)))

-- ---- the marks of a list of the index
pub added_marks : (labels : List Label) (lists : List (List Slot)) (i : Fields) (v1 v2 n b : ℕ)
    (a : Audience) (key : ℕ) (h : Head) (cs cs' : List ℕ)
    → IsIndex insns_key labels lists → key < length lists → key ≡ n * bucket_count + b
    → b < bucket_count → n ≡ number i.op → ComesTo a i.op (facts_of i v1 v2)
    → length cs ≡ length (aims_in labels) → IsHead a (get_or lists key []) h
    → h.more ≡ false → cs' ≡ raised_marks (signs_word (signs_of (facts_of i v1 v2))) h.marks cs
    → cs' ≡ added (λ a. is_seen (Some b) a.point && hits_insn a (Some i) v1 v2) (aims_in labels) cs
added_marks labels lists i v1 v2 n b a key h cs cs' index l at low same comes len is m e =
    added_bucket labels i v1 v2 n b (get_or lists key []) cs cs' same low
    (index.each key [] l ∙ ap (λ k. places_for (is_for (insns_key k)) 0 (aims_in labels)) at)
    len (e ∙ is.adds m i.op (facts_of i v1 v2) cs comes)

pub low_marks : (labels : List Label) (lists : List (List Slot)) (a : Audience) (key : ℕ) (h : Head)
    (k : ℕ)
    → IsIndex insns_key labels lists → key < length lists → length (aims_in labels) ≡ k
    → 0 < k → IsHead a (get_or lists key []) h → h.more ≡ false
    → All (λ (m : Mark). m.at < k) h.marks
low_marks labels lists a key h k index l e some is m = grind (arith, slots_low)

pub few_marks : (labels : List Label) (lists : List (List Slot)) (a : Audience) (key : ℕ) (h : Head)
    → IsIndex insns_key labels lists → key < length lists
    → IsHead a (get_or lists key []) h → h.more ≡ false
    → length h.marks ≤ length (aims_in labels) + 16
few_marks labels lists a key h index l is m = grind (arith, slots_few)

-- the head of a list at a number
pub head_at : (who : ℕ → Audience) (key : ℕ → ℕ) (lists : List (List Slot)) (heads got : List Head)
    (n : ℕ) (h : Head)
    → HasHeads who key lists heads → got ≡ heads → h ≡ get_or got n h → n < length heads
    → IsHead (who n) (get_or lists (key n) []) h
head_at who key lists heads got n h has same at l = grind arith

-- the head of the list of an address's place
pub place_head_at : (lists : List (List Slot)) (heads got : List Head) (n place : ℕ) (h : Head)
    → HasPlaceHeads lists heads → got ≡ heads → h ≡ get_or got (4 * n + place) h
    → 4 * n + place < length heads → place < 4
    → IsHead (audience.Aligned (pos place))
    (get_or lists (n * bucket_count + number_bucket EaAlign (pos place)) []) h
place_head_at lists heads got n place h has same at l low =
    let row : (4 * n + place) / 4 ≡ n = omega arith in
    let column : (4 * n + place) % 4 ≡ place = omega arith in
    subst (λ m. IsHead (audience.Aligned (pos place))
    (get_or lists (m * bucket_count + number_bucket EaAlign (pos place)) []) h) row
    (subst (λ k. IsHead (audience.Aligned (pos k))
    (get_or lists ((4 * n + place) / 4 * bucket_count + number_bucket EaAlign (pos k)) []) h) column
    (head_at (λ (n : ℕ). audience.Aligned (pos (n % 4))) place_key lists heads got (4 * n + place) h
    has same at l))
