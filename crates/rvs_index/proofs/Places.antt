-- The lists give the points that an instruction may hit, and no others count.
use Rattle.std.proofs.Common.{◌≡◌, ◌≢◌, ℕ, zero, suc, ◌+◌, ◌-◌, ◌*◌, ◌/◌, ◌%◌, ◌<◌, ◌≤◌, Bool, true}
use Rattle.std.proofs.Common.{false, cond, ◌&&◌, List, [], ◌∷◌, ◌++◌, Option, Some, None}
use Rattle.std.proofs.Common.{refl, sym, ap, ◌∙◌, length, drop, get_or, set, arith, append_assoc}
use Rattle.std.proofs.Common.{All, rules}
use Rattle.std.proofs.lemmas.List.{get_or_at, set_at, length-map, length_push}
use Rattle.std.proofs.lemmas.Bool.Decides.{nat_tests}
use Rattle.std.proofs.lemmas.Bool.{and_from}
use Rattle.std.specs.List.{list_any}
use Rattle.std.specs.Prelude.{◌==◌, map}
use Rattle.rvs_points.specs.Points.{Point, Meaning, op_is, reg_is, regs, nums, window}
use Rattle.rvs_points.specs.Hits.{has_op, holds, is_meant}
use Rattle.rvs_points.specs.declared.group.Kind.{Kind}
use Rattle.rvs_points.specs.declared.group.Label.{Label}
use Rattle.rvs_expr.specs.Meaning.{Table}
use Rattle.rvs_facts.specs.Facts.{facts_of}
use Rattle.rvs_facts.specs.Mnemonics.{is_same, number}
use Rattle.rvs_cross.specs.Cross as cross
use Rattle.rvs_cross.specs.First.{first_ops}
use Rattle.rvs_cross.specs.Windows.{is_listed, matches}
use Rattle.rvs_insn.specs.Fields.{Fields}
use Rattle.rvs_insn.specs.declared.op.Op.{Op}
use Rattle.rvs_insn.specs.Table.{op_count}
use Rattle.rvs_index.specs.Buckets.{bucket_of, is_seen, bucket_count}
use Rattle.rvs_index.specs.Counting.{Aim, aims_in, hits_insn}
use Rattle.rvs_index.specs.Index.{PlacedPoint, place_of, places, has_number, insns_key, is_for}
use Rattle.rvs_index.specs.Index.{is_matched, lists_number, meaning_fits, places_for, window_fits}
use Rattle.rvs_index.specs.Index.{windows_key, IsIndex, raised, raised_all}
use Rattle.rvs_index.specs.State.{added}
use Rattle.rvs_index.specs.declared.key.ListKey.{ListKey}
use Rattle.rvs_index.specs.declared.slot.Slot.{Slot}
use Rattle.rvs_index.proofs.Matching.{first_matches, length_matches}

raised_at : (h : Bool) (front cs : List ℕ) (c k : ℕ) → length front ≡ k
    → raised h k (front ++ c ∷ cs) ≡ front ++ (c + cond h 1 0) ∷ cs
raised_at h front cs c k e = search (rules, set, get_or_at, set_at)

-- of the points of a list those are hit that pass
abbrev hit_by : (Aim → Bool) → (Point → Bool) → Aim → Bool
hit_by passes hit a = passes a && hit a.point

-- the counts after the places of a list
raised_from : (passes : Aim → Bool) (hit : Point → Bool) (aims : List Aim) (front cs : List ℕ)
    (k : ℕ)
    → length front ≡ k → length cs ≡ length aims
    → raised_all hit (places_for passes k aims) (front ++ cs)
    ≡ front ++ added (hit_by passes hit) aims cs
raised_from passes hit [] front [] k f l = refl
raised_from passes hit [] front (c ∷ cs) k f l = absurd (omega arith)
raised_from passes hit (a ∷ aims) front [] k f l = absurd (omega arith)
raised_from passes hit (a ∷ aims) front (c ∷ cs) k f l =
    turn (passes a) (λ h.
    raised_from passes hit aims (front ++ (c + cond h 1 0) ∷ []) cs (k + 1)
    (length_push front (c + cond h 1 0) ∙ ap (λ n. n + 1) f) (omega arith))
  where
    after : List ℕ → List ℕ
    after cs = raised_all hit (places_for passes (k + 1) aims) cs

    rest : (h : Bool)
        → raised_all hit (places_for passes (k + 1) aims) ((front ++ (c + cond h 1 0) ∷ []) ++ cs)
        ≡ (front ++ (c + cond h 1 0) ∷ []) ++ added (hit_by passes hit) aims cs
        → raised_all hit (places_for passes (k + 1) aims) (front ++ (c + cond h 1 0) ∷ cs)
        ≡ front ++ (c + cond h 1 0) ∷ added (hit_by passes hit) aims cs
    rest h p =
        ap (λ l. raised_all hit (places_for passes (k + 1) aims) l)
        (sym (append_assoc front ((c + cond h 1 0) ∷ []) cs))
        ∙ p
        ∙ append_assoc front ((c + cond h 1 0) ∷ []) (added (hit_by passes hit) aims cs)

    turn : (b : Bool)
        → ((h : Bool)
        → raised_all hit (places_for passes (k + 1) aims) ((front ++ (c + cond h 1 0) ∷ []) ++ cs)
        ≡ (front ++ (c + cond h 1 0) ∷ []) ++ added (hit_by passes hit) aims cs)
        → raised_all hit (elim b as (λ _. List PlacedPoint) [
          | true ↦ (a.point, k) ∷ places_for passes (k + 1) aims
          | false ↦ places_for passes (k + 1) aims
        ]) (front ++ c ∷ cs)
        ≡ front ++ (c + cond (b && hit a.point) 1 0) ∷ added (hit_by passes hit) aims cs
    turn true p =
        let h = hit a.point in
        ap (λ l. raised_all hit (places_for passes (k + 1) aims) l) (raised_at h front cs c k f)
        ∙ rest h (p h)
    turn false p =
        let z : c ≡ c + 0 = omega arith in
        ap (λ n. raised_all hit (places_for passes (k + 1) aims) (front ++ n ∷ cs)) z
        ∙ rest false (p false)

-- the list at a number
pub slots_at : (key_of : ℕ → ListKey) (labels : List Label) (lists got : List (List Slot)) (key : ℕ)
    (d slots : List Slot)
    → IsIndex key_of labels lists → key < length lists → got ≡ lists → slots ≡ d
    → d ≡ get_or got key d
    → places slots ≡ places_for (is_for (key_of key)) 0 (aims_in labels)
slots_at key_of labels lists got key d slots index h all s at = grind arith

-- what the points of a bucket add
fits_hit : (m : Meaning) (k : Kind) (op : Op) (t : Table) → is_meant k m op t ≡ true
    → meaning_fits (number op) m ≡ true
fits_hit m k op t h = grind arith

same_hit : (n b : ℕ) (i : Fields) (v1 v2 : ℕ) (a : Aim) → n ≡ number i.op → b < bucket_count
    → hit_by (is_for (insns_key (n * bucket_count + b))) (λ p. holds p i.op (facts_of i v1 v2)) a
    ≡ (is_seen (Some b) a.point && hits_insn a (Some i) v1 v2)
same_hit n b i v1 v2 a same low =
    let h = holds a.point i.op (facts_of i v1 v2) in
    let mnemonic : (n * bucket_count + b) / bucket_count ≡ number i.op = omega (arith, same, low) in
    let bucket : (n * bucket_count + b) % bucket_count ≡ b = omega (arith, low) in
    ap (λ m. (has_number m a.ops
    && (bucket_of a.point ==
    (n * bucket_count + b) % bucket_count && meaning_fits m a.point.meaning)) && h)
    mnemonic
    ∙ ap (λ m. (has_number (number i.op) a.ops
    && (bucket_of a.point == m && meaning_fits (number i.op) a.point.meaning)) && h) bucket
    ∙ turned (has_op a.ops i.op) (bucket_of a.point == b)
    (meaning_fits (number i.op) a.point.meaning) h
    (fits_hit a.point.meaning a.point.kind i.op (facts_of i v1 v2))
  where
    turned : (p q f r : Bool) → (r ≡ true → f ≡ true) → ((p && (q && f)) && r) ≡ (q && (p && r))
    turned true true true r h = refl
    turned true true false true h = h refl
    turned true true false false h = refl
    turned true false f r h = refl
    turned false true f r h = refl
    turned false false f r h = refl

added_same : (p q : Aim → Bool) (aims : List Aim) (cs : List ℕ) → ((a : Aim) → p a ≡ q a)
    → added p aims cs ≡ added q aims cs
added_same p q [] cs h = refl
added_same p q (a ∷ aims) [] h = refl
added_same p q (a ∷ aims) (c ∷ cs) h = grind (arith, (added_same p q aims cs h))

pub added_bucket : (labels : List Label) (i : Fields) (v1 v2 n b : ℕ) (slots : List Slot)
    (cs cs' : List ℕ)
    → n ≡ number i.op → b < bucket_count
    → places slots ≡ places_for (is_for (insns_key (n * bucket_count + b))) 0 (aims_in labels)
    → length cs ≡ length (aims_in labels)
    → cs' ≡ raised_all (λ p. holds p i.op (facts_of i v1 v2)) (places slots) cs
    → cs' ≡ added (λ a. is_seen (Some b) a.point && hits_insn a (Some i) v1 v2) (aims_in labels) cs
added_bucket labels i v1 v2 n b slots cs cs' same low p l e =
    e
    ∙ ap (λ ps. raised_all (λ p. holds p i.op (facts_of i v1 v2)) ps cs) p
    ∙ raised_from (is_for (insns_key (n * bucket_count + b))) (λ p. holds p i.op (facts_of i v1 v2))
    (aims_in labels) [] cs 0 refl l
    ∙ added_same _ _ (aims_in labels) cs (λ a. same_hit n b i v1 v2 a same low)

-- what the cross points of a list add
turned_number : (op : Op) (ops : List Op)
    → list_any (λ o. is_same o op) ops ≡ has_number (number op) ops
turned_number op [] = refl
turned_number op (o ∷ ops) = grind (arith, (turned_number op ops))

listed_number : (op : Op) (ops : Option (List Op))
    → is_listed ops op ≡ true → lists_number (number op) ops ≡ true
listed_number op ops h = search (rules, turned_number)

differ : (a b : ℕ) → (a == b) ≡ false → a ≢ b
differ a b h = λ e. grind (arith, nat_tests)

-- those that match are as many as the places
count_fits : (ps : List cross.Place) (is : List (Option Fields)) (count : ℕ) → count ≡ length is
    → matches ps is ≡ true → (length ps == count) ≡ true
count_fits ps is count c h = grind (arith, differ, length_matches)

window_fit : (m : Meaning) (i : Fields) (is : List Fields) (count n : ℕ) → count ≡ length (i ∷ is)
    → n ≡ number i.op → is_matched m (i ∷ is) ≡ true → window_fits count n m ≡ true
window_fit (op_is op) i is count n c e h = cc
window_fit (reg_is r) i is count n c e h = cc
window_fit (regs f) i is count n c e h = cc
window_fit (nums f) i is count n c e h = cc
window_fit (window ps) i is count n c e h =
    let some : Fields → Option Fields = λ i. Some i in
    and_from (length ps == count) (lists_number n (first_ops ps))
    (count_fits ps (map some (i ∷ is)) count (c ∙ sym (length-map (i ∷ is) some)) h)
    (ap (λ n. lists_number n (first_ops ps)) e
    ∙ listed_number i.op (first_ops ps) (first_matches ps i (map some is) h))

same_match : (i : Fields) (is : List Fields) (key : ℕ) (a : Aim) → length (i ∷ is) ≤ 6
    → key ≡ length is * op_count + number i.op → number i.op < op_count
    → hit_by (is_for (windows_key key)) (λ p. is_matched p.meaning (i ∷ is)) a
    ≡ is_matched a.point.meaning (i ∷ is)
same_match i is key a few e low = grind (arith, window_fit)

pub added_window : (labels : List Label) (run : List Fields) (i d : Fields) (key : ℕ)
    (slots : List Slot) (cs cs' : List ℕ)
    → 0 < length run → length run ≤ 6 → i ≡ get_or run 0 d
    → key ≡ (length run - 1) * op_count + number i.op → number i.op < op_count
    → places slots ≡ places_for (is_for (windows_key key)) 0 (aims_in labels)
    → length cs ≡ length (aims_in labels)
    → cs' ≡ raised_all (λ p. is_matched p.meaning run) (places slots) cs
    → cs' ≡ added (λ a. is_matched a.point.meaning run) (aims_in labels) cs
added_window labels [] i d key slots cs cs' some few first at low p l e = absurd (omega arith)
added_window labels (j ∷ is) i d key slots cs cs' some few first at low p l e =
    let from : key ≡ length is * op_count + number j.op =
    omega (arith, at, ap (λ (i : Fields). number i.op) first) in
    let small : number j.op < op_count = omega (
      arith,
      low,
      ap (λ
          (i : Fields). number i.op) first,
    ) in
    e
    ∙ ap (λ ps. raised_all (λ p. is_matched p.meaning (j ∷ is)) ps cs) p
    ∙ raised_from (is_for (windows_key key)) (λ p. is_matched p.meaning (j ∷ is)) (aims_in labels)
    [] cs 0 refl l
    ∙ added_same _ _ (aims_in labels) cs (λ a. same_match j is key a few from small)

pub none_added : (aims : List Aim) (hit : Aim → Bool) (cs : List ℕ) → length cs ≡ length aims
    → cs ≡ added (λ a. is_seen None a.point && hit a) aims cs
none_added [] hit [] l = refl
none_added [] hit (c ∷ cs) l = absurd (omega arith)
none_added (a ∷ aims) hit [] l = absurd (omega arith)
none_added (a ∷ aims) hit (c ∷ cs) l = grind (arith, (none_added aims hit cs (omega arith)))

-- ---- bounds
-- no place is past the counts
low_places : (passes : Aim → Bool) (at n : ℕ) (aims : List Aim) (slots : List Slot)
    → places slots ≡ places_for passes at aims → at + length aims ≡ n
    → All (λ (s : Slot). s.at < n) slots
low_places passes at n [] [] p e k d l = absurd (omega arith)
low_places passes at n [] (s ∷ slots) p e k d l = cc
low_places passes at n (a ∷ aims) slots p e k d l =
    turn (passes a) slots p k l (λ slots p. low_places passes (at + 1) n aims slots p (omega arith))
  where
    at_of : PlacedPoint → ℕ
    at_of p = p.1

    turn : (b : Bool) (slots : List Slot)
        → places slots ≡ (elim b as (λ _. List PlacedPoint) [
          | true ↦ (a.point, at) ∷ places_for passes (at + 1) aims
          | false ↦ places_for passes (at + 1) aims
        ])
        → (k : ℕ) → k < length slots
        → ((slots : List Slot) → places slots ≡ places_for passes (at + 1) aims
        → All (λ (s : Slot). s.at < n) slots)
        → (get_or slots k d).at < n
    turn false slots p k l next = next slots p k d l
    turn true [] p k l next = absurd (omega arith)
    turn true (s ∷ slots) p zero l next =
        let q : s.at
        ≡ at =
        ap (λ (ps : List PlacedPoint). (get_or {A = PlacedPoint} ps 0
        (a.point, at)).1) p in omega arith
    turn true (s ∷ slots) p (suc k) l next = next slots (ap (λ ps. drop 1 ps) p) k d (omega arith)

few_places : (passes : Aim → Bool) (at : ℕ) (aims : List Aim)
    → length (places_for passes at aims) ≤ length aims
few_places passes at [] = omega arith
few_places passes at (a ∷ aims) = grind (arith, (few_places passes (at + 1) aims))

pub slots_low : (passes : Aim → Bool) (aims : List Aim) (slots : List Slot) (n : ℕ)
    → places slots ≡ places_for passes 0 aims → length aims ≡ n → All (λ (s : Slot). s.at < n) slots
slots_low passes aims slots n p e = low_places passes 0 n aims slots p (omega arith)

pub slots_few : (passes : Aim → Bool) (aims : List Aim) (slots : List Slot)
    → places slots ≡ places_for passes 0 aims → length slots ≤ length aims
slots_few passes aims slots p = grind (arith, length-map, few_places)

-- ---- going over the slots of an instruction
pub slots_next : (slots : List Slot) (k : ℕ) (d : Slot) → k < length slots
    → places (drop k slots) ≡ place_of (get_or slots k d) ∷ places (drop (k + 1) slots)
slots_next [] k d h = absurd (omega arith)
slots_next (s ∷ slots) zero d h = refl
slots_next (s ∷ slots) (suc k) d h = grind (arith, (slots_next slots k d (omega arith)))

pub raised_low : (b : Bool) (cs : List ℕ) (at m : ℕ) → All (λ n. n ≤ m) cs
    → All (λ n. n ≤ m + 1) (raised b at cs)
raised_low b cs at m h = search rules

pub raised_length : (b : Bool) (cs : List ℕ) (at : ℕ) → length (raised b at cs) ≡ length cs
raised_length b cs at = search rules
