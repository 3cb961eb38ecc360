-- A cell adds what the points of its list add.
use Rattle.std.proofs.Common.{◌≡◌, ℕ, ℤ, pos, ◌+◌, ◌*◌, ◌%◌, ◌<◌, ◌≤◌}
use Rattle.std.proofs.Common.{◌^◌, Bool, true}
use Rattle.std.proofs.Common.{false, ◌&&◌, List, [], ◌∷◌, Option, Some, None, refl}
use Rattle.std.proofs.Common.{sym, ap}
use Rattle.std.proofs.Common.{subst}
use Rattle.std.proofs.Common.{◌∙◌, All, arith, length, get_or, rules}
use Rattle.std.proofs.lemmas.Bool.Decides.{nat_tests}
use Rattle.std.specs.Ordering.{int_eq}
use Rattle.std.specs.Prelude.{IfSome, option_map, unsigned_abs}
use Rattle.rvs_points.proofs.Distinct.{both-ways}
use Rattle.rvs_points.specs.PointView.{point_view}
use Rattle.rvs_points.specs.Hits.{holds, is_register}
use Rattle.rvs_points.specs.declared.group.Kind.TheVariants as kind
use Rattle.rvs_points.specs.declared.group.Label.{Label}
use Rattle.rvs_expr.specs.Equated.{is_value}
use Rattle.rvs_expr.specs.Meaning.{Table}
use Rattle.rvs_expr_text.specs.declared.lexeme.NumName.{NumName}
use Rattle.rvs_facts.specs.Facts.{facts_of}
use Rattle.rvs_facts.specs.Mnemonics.{number}
use Rattle.rvs_insn.specs.Fields.{Fields}
use Rattle.rvs_insn.specs.declared.op.Op.{Op}
use Rattle.rvs_index.specs.Buckets.{is_seen, register_bucket, visited, bucket_count}
use Rattle.rvs_index.specs.Cells.{asked_at, asked_bucket, fact, may_hit, never, pair, raised_cell}
use Rattle.rvs_index.specs.Cells.{sight}
use Rattle.rvs_index.specs.Cells.{Fits, HasCells, IsCell, IsCellFor, SaysValue}
use Rattle.rvs_index.specs.Counting.{Aim, aims_in, hits_insn}
use Rattle.rvs_index.specs.Index.{added_all, insns_key, is_for, raised}
use Rattle.rvs_index.specs.Index.{IsIndex}
use Rattle.rvs_index.specs.Shortcuts.{says}
use Rattle.rvs_index.specs.State.{added}
use Rattle.rvs_index.specs.declared.asked.Asked.{Asked}
use Rattle.rvs_index.specs.declared.asked.Asked.TheVariants.{Rd, Rs1, Rs2, Rs1Val, Rs2Val, ImmVal}
use Rattle.rvs_index.specs.declared.asked.Asked.TheVariants.{EaAlign}
use Rattle.rvs_index.specs.declared.cell.Cell.{Cell}
use Rattle.rvs_index.specs.declared.shortcut.Shortcut.{Shortcut}
use Rattle.rvs_index.specs.declared.shortcut.Shortcut.TheVariants.{Number}
use Rattle.rvs_index.specs.declared.slot.Slot.{Slot}
use Rattle.rvs_index.proofs.Hitting.{added_length, added_low}
use Rattle.rvs_index.proofs.Places.{added_bucket, none_added, slots_low}

-- ---- what a point says
same_bool : (a b : Bool) → (a ≡ true → b ≡ true) → (b ≡ true → a ≡ true) → a ≡ b
same_bool a b f g = grind arith

pub int_turned : (x y : ℤ) → int_eq x y ≡ int_eq y x
int_turned x y = grind (arith, same_bool)

-- a register is there and is this one
pub register_says : (n : ℕ) (o : Option ℕ) (v : ℤ) → option_map (λ n. pos n) o ≡ Some v
    → is_register n o ≡ int_eq (pos n) v
register_says n o v h = grind arith

-- a number is
pub number_says : (z : ℤ) (o : Option ℤ) (v : ℤ) → o ≡ Some v → is_value z o ≡ int_eq z v
number_says z o v h = ap (λ o. is_value z o) h ∙ int_turned v z

pub named_says : (q : Asked) (s : Slot) (name : NumName) (z : ℤ) → s.shortcut ≡ Some (Number name z)
    → ((t : Table) → fact q t ≡ t.num name) → SaysValue q s z
named_says q s name z is named op t v f =
    subst (λ (o : Option Shortcut). IfSome o (λ k. (op : Op) (t : Table)
    → holds (point_view s.point.now) op t ≡ says k op t)) is s.same op t
    ∙ number_says z (t.num name) v (sym (named t) ∙ f)

-- ---- what a cell adds
pub not_never : (z : ℤ) → unsigned_abs z ≤ 2 ^ 32 → int_eq never z ≡ false
not_never z h = grind arith

never_adds : (z : ℤ) (at : ℕ) (cs : List ℕ) → unsigned_abs z ≤ 2 ^ 32
    → raised (int_eq never z) at cs ≡ cs
never_adds z at cs h = ap (λ b. raised b at cs) (not_never z h)

-- one that says to look at the points
pub many_adds : (q : Asked) (slots : List Slot) (c : Cell) → c.more ≡ true → c.first ≡ never
    → IsCell q slots c
many_adds q slots c h wide = grind (arith, both-ways)

pub none_adds : (q : Asked) (c : Cell) → c ≡ pair never 0 never 0 → IsCell q [] c
none_adds q c e = grind (arith, never_adds, both-ways)

pub one_adds : (q : Asked) (s : Slot) (y : ℤ) (c : Cell) → SaysValue q s y
    → c ≡ pair y s.at never 0 → IsCell q (s ∷ []) c
one_adds q s y c says e = grind (arith, nat_tests)

pub two_add : (q : Asked) (s s' : Slot) (y y' : ℤ) (c : Cell) → SaysValue q s y
    → SaysValue q s' y' → c ≡ pair y s.at y' s'.at → IsCell q (s ∷ s' ∷ []) c
two_add q s s' y y' c says says' e = subst (IsCell q (s ∷ s' ∷ [])) (sym e) is
  where
    is : IsCell q (s ∷ s' ∷ []) (pair y s.at y' s'.at)
    is = record {
      adds = λ m op t z cs f small.
          ap (λ b. raised b s'.at (raised (int_eq y z) s.at cs)) (sym (says' op t z f))
          ∙ ap (λ b. raised (holds (point_view s'.point.now) op t) s'.at (raised b s.at cs))
          (sym (says op t z f));
      low = λ m n some low. (low 0 s (omega arith), low 1 s (omega arith));
      spared = λ m op t z cs f small n. both-ways false m refl;
    }

-- ---- the list of a fact's value
-- it is for the fact
pub asked_there : (q : Asked) (z : ℤ) → asked_at (asked_bucket q z) ≡ Some q
asked_there q z = search rules

-- the lists that an instruction is held against are those of its facts
rd_sight : (o : Option ℕ)
    → option_map (asked_bucket Rd) (option_map (λ n. pos n) o)
    ≡ option_map (register_bucket kind.Rd) o
rd_sight o = grind arith

rs1_sight : (o : Option ℕ)
    → option_map (asked_bucket Rs1) (option_map (λ n. pos n) o)
    ≡ option_map (register_bucket kind.Rs1) o
rs1_sight o = grind arith

rs2_sight : (o : Option ℕ)
    → option_map (asked_bucket Rs2) (option_map (λ n. pos n) o)
    ≡ option_map (register_bucket kind.Rs2) o
rs2_sight o = grind arith

abbrev pub sights : Table → List (Option ℕ)
sights t =
    Some 0 ∷ sight Rd t ∷ sight Rs1 t ∷ sight Rs2 t ∷ sight Rs1Val t ∷ sight Rs2Val t
    ∷ sight ImmVal t ∷ sight EaAlign t ∷ []

pub sights_visited : (t : Table) → sights t ≡ visited t
sights_visited t = simp (rd_sight, rs1_sight, rs2_sight)

-- ---- list by list
pub fits_more : {aims : List Aim} {m : ℕ} {cs : List ℕ} (passes : Aim → Bool) (cs' : List ℕ)
    → Fits aims m cs → cs' ≡ added passes aims cs → Fits aims (m + 1) cs'
fits_more {aims} {m} {cs} passes cs' fits e =
    let l = ap (λ l. length l) e ∙ added_length passes aims cs fits.count in
    record {
      some = omega (arith, l, fits.some, fits.count);
      count = l;
      low = subst (All (λ n. n ≤ m + 1)) (sym e) (added_low passes aims cs m fits.low);
    }

pub fits_weaker : {aims : List Aim} {m : ℕ} {cs : List ℕ} (k : ℕ) → m ≤ k → Fits aims m cs
    → Fits aims k cs
fits_weaker {aims} {m} {cs} k h fits = grind arith

-- one list, and the others
pub then_all : (hit : Aim → Bool) (aims : List Aim) (o : Option ℕ) (os : List (Option ℕ))
    (cs cs' cs'' : List ℕ)
    → cs' ≡ added (λ a. is_seen o a.point && hit a) aims cs → cs'' ≡ added_all hit os aims cs'
    → cs'' ≡ added_all hit (o ∷ os) aims cs
then_all hit aims o os cs cs' cs'' e rest = rest ∙ ap (λ l. added_all hit os aims l) e

pub sight_none : (q : Asked) (t : Table) → fact q t ≡ None → sight q t ≡ None
sight_none q t e = ap (λ o. option_map (asked_bucket q) o) e

-- a fact that isn't there adds nothing
pub absent_adds : (labels : List Label) (i : Fields) (v1 v2 : ℕ) (q : Asked) (cs : List ℕ)
    → length cs ≡ length (aims_in labels) → fact q (facts_of i v1 v2) ≡ None
    → cs ≡ added (λ a. is_seen (sight q (facts_of i v1 v2)) a.point && hits_insn a (Some i) v1 v2)
    (aims_in labels) cs
absent_adds labels i v1 v2 q cs long none =
    let hit : Aim → Bool = λ a. hits_insn a (Some i) v1 v2 in
    none_added (aims_in labels) hit cs long
    ∙ ap (λ (o : Option ℕ). added (λ a. is_seen o a.point && hit a) (aims_in labels) cs)
    (sym (sight_none q (facts_of i v1 v2) none))

-- ---- the cell of a list
pub cell_in : (lists : List (List Slot)) (cells got : List Cell) (key b : ℕ) (q : Asked) (z : ℤ)
    (d : Cell)
    → HasCells lists cells → got ≡ cells → key % bucket_count ≡ b → b ≡ asked_bucket q z
    → key < length cells
    → IsCell q (get_or lists key []) (get_or got key d)
cell_in lists cells got key b q z d has same r e h =
    let for : asked_at (key % bucket_count) ≡ Some q = ap asked_at (r ∙ e) ∙ asked_there q z in
    let is : IsCell q (get_or lists key []) (get_or cells key d) =
    subst (λ o. IsCellFor o (get_or lists key []) (get_or cells key d)) for (has.each key [] d h) in
    subst (λ l. IsCell q (get_or lists key []) (get_or l key d)) (sym same) is

pub low_cell : (labels : List Label) (lists : List (List Slot)) (key : ℕ) (q : Asked) (c : Cell)
    (n : ℕ)
    → IsIndex insns_key labels lists → key < length lists → length (aims_in labels) ≡ n → 0 < n
    → IsCell q (get_or lists key []) c → c.more ≡ false
    → (c.first_at < n) × (c.second_at < n)
low_cell labels lists key q c n index h e some is m =
    is.low m n some (slots_low (is_for (insns_key key)) (aims_in labels) (get_or lists key []) n
    (index.each key [] h) e)

pub added_cell : (labels : List Label) (lists : List (List Slot)) (i : Fields) (v1 v2 n b : ℕ)
    (q : Asked) (z : ℤ) (c : Cell) (cs cs' : List ℕ)
    → IsIndex insns_key labels lists → n * bucket_count + b < length lists → n ≡ number i.op
    → b < bucket_count
    → b ≡ asked_bucket q z → length cs ≡ length (aims_in labels)
    → IsCell q (get_or lists (n * bucket_count + b) []) c → c.more ≡ false
    → fact q (facts_of i v1 v2) ≡ Some z → unsigned_abs z ≤ 2 ^ 32 → cs' ≡ raised_cell c z cs
    → cs' ≡ added (λ a. is_seen (Some (asked_bucket q z)) a.point && hits_insn a (Some i) v1 v2)
    (aims_in labels) cs
added_cell labels lists i v1 v2 n b q z c cs cs' index h same low at l is m f small e =
    added_bucket labels i v1 v2 n b (get_or lists (n * bucket_count + b) []) cs cs' same low
    (index.each (n * bucket_count + b) [] h) l (e ∙ is.adds m i.op (facts_of i v1 v2) z cs f small)
    ∙ ap (λ b. added (λ a. is_seen (Some b) a.point && hits_insn a (Some i) v1 v2)
    (aims_in labels) cs) at

-- a cell with more points, none of which may be hit
pub spared_cell : (labels : List Label) (lists : List (List Slot)) (i : Fields) (v1 v2 n b : ℕ)
    (q : Asked) (z : ℤ) (c : Cell) (cs : List ℕ)
    → IsIndex insns_key labels lists → n * bucket_count + b < length lists → n ≡ number i.op
    → b < bucket_count
    → b ≡ asked_bucket q z → length cs ≡ length (aims_in labels)
    → IsCell q (get_or lists (n * bucket_count + b) []) c → c.more ≡ true
    → fact q (facts_of i v1 v2) ≡ Some z → unsigned_abs z ≤ 2 ^ 32 → may_hit c z ≡ false
    → cs ≡ added (λ a. is_seen (Some (asked_bucket q z)) a.point && hits_insn a (Some i) v1 v2)
    (aims_in labels) cs
spared_cell labels lists i v1 v2 n b q z c cs index h same low at l is m f small none =
    added_bucket labels i v1 v2 n b (get_or lists (n * bucket_count + b) []) cs cs same low
    (index.each (n * bucket_count + b) [] h) l
    (is.spared m i.op (facts_of i v1 v2) z cs f small none)
    ∙ ap (λ b. added (λ a. is_seen (Some b) a.point && hits_insn a (Some i) v1 v2)
    (aims_in labels) cs) at
