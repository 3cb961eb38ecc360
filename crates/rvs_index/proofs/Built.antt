-- The lists are built label by label.
use Rattle.std.proofs.Common.{◌≡◌, ℕ, zero, suc, ◌+◌, ◌<◌, Bool, true, false, List, []}
use Rattle.std.proofs.Common.{◌∷◌, ◌++◌, refl, sym, ap, ◌∙◌, length, drop, get_or, replicate, arith}
use Rattle.std.proofs.Common.{append_assoc, length-append}
use Rattle.std.proofs.lemmas.List.{length-map}
use Rattle.std.specs.Prelude.{map}
use Rattle.rvs_points.specs.Points as group
use Rattle.rvs_points.specs.PointView.{label_view, point_view}
use Rattle.rvs_points.specs.declared.group.Label.{Label}
use Rattle.rvs_insn.specs.declared.op.Op.{Op}
use Rattle.rvs_index.specs.Counting.{Aim, count, aims_in, aims_of_label, aims_of_points}
use Rattle.rvs_index.specs.Index.{places, admits, is_for, places_for}
use Rattle.rvs_index.specs.Index.{places_in}
use Rattle.rvs_index.specs.State.{tally_of}
use Rattle.rvs_index.proofs.Following.{followed_nil}
use Rattle.rvs_index.specs.declared.key.ListKey.{ListKey}
use Rattle.rvs_index.specs.declared.slot.Slot.{Slot}
use Rattle.rvs_base.specs.declared.asked.Window.{Window}
use Rattle.rvs_index.proofs.Counts.{none_counted}
use Rattle.rvs_insn.specs.Fields.{Fields}
use Rattle.rvs_log.specs.Registers.{zeros}

-- the next label
pub aims_more : (labels : List Label) (k : ℕ) (d : Label) → k < length labels
    → aims_in (drop k labels)
    ≡ aims_of_label (label_view (get_or labels k d)) ++ aims_in (drop (k + 1) labels)
aims_more [] k d h = absurd (omega arith)
aims_more (l ∷ labels) zero d h = refl
aims_more (l ∷ labels) (suc k) d h = grind (arith, (aims_more labels k d (omega arith)))

zeros-append : (m n z : ℕ) → replicate m z ++ replicate n z ≡ replicate (m + n) z
zeros-append zero n z = let e : 0 + n ≡ n = omega arith in ap (λ k. replicate k z) (sym e)
zeros-append (suc m) n z =
    let e : suc m + n ≡ suc (m + n) = omega arith in
    ap (λ l. z ∷ l) (zeros-append m n z) ∙ ap (λ k. replicate k z) (sym e)

-- counts of one more label
pub zeros_more : (labels : List Label) (counts counts' : List ℕ) (k : ℕ) (d : Label)
    → k < length labels
    → counts'
    ≡ counts ++ replicate {A = ℕ} (length (aims_of_label (label_view (get_or labels k d)))) 0
    → counts' ++ replicate {A = ℕ} (length (aims_in (drop (k + 1) labels))) 0
    ≡ counts ++ replicate {A = ℕ} (length (aims_in (drop k labels))) 0
zeros_more labels counts counts' k d h e =
    let here = aims_of_label (label_view (get_or labels k d)) in
    let rest = aims_in (drop (k + 1) labels) in
    ap (λ l. l ++ replicate (length rest) 0) e
    ∙ append_assoc counts (replicate (length here) 0) (replicate (length rest) 0)
    ∙ ap (λ l. counts ++ l) (zeros-append (length here) (length rest) 0)
    ∙ ap (λ n. counts ++ replicate n 0)
    (sym (ap (λ l. length l) (aims_more labels k d h) ∙ length-append here rest))

-- the points of a label, where it has the mnemonic and where it doesn't
places_has : (key : ListKey) (ops : List Op) (at : ℕ) (points : List group.Point)
    → admits key ops ≡ true
    → places_for (is_for key) at (aims_of_points ops points) ≡ places_in key at points
places_has key ops at [] h = refl
places_has key ops at (p ∷ ps) h = grind (arith, (places_has key ops (at + 1) ps h))

places_lacks : (key : ListKey) (ops : List Op) (at : ℕ) (points : List group.Point)
    → admits key ops ≡ false
    → places_for (is_for key) at (aims_of_points ops points) ≡ []
places_lacks key ops at [] h = refl
places_lacks key ops at (p ∷ ps) h = grind (arith, (places_lacks key ops (at + 1) ps h))

places-append : (passes : Aim → Bool) (at m : ℕ) (xs ys : List Aim) → m ≡ at + length xs
    → places_for passes at (xs ++ ys) ≡ places_for passes at xs ++ places_for passes m ys
places-append passes at m [] ys e = grind arith
places-append passes at m (x ∷ xs) ys e =
    grind (arith, (places-append passes (at + 1) m xs ys (omega arith)))

-- slots of one more label
pub slots_more : (passes : Aim → Bool) (labels : List Label) (slots slots' : List Slot)
    (k first next : ℕ) (d : Label)
    → k < length labels
    → places slots'
    ≡ places slots ++ places_for passes first (aims_of_label (label_view (get_or labels k d)))
    → next ≡ first + length (aims_of_label (label_view (get_or labels k d)))
    → places slots' ++ places_for passes next (aims_in (drop (k + 1) labels))
    ≡ places slots ++ places_for passes first (aims_in (drop k labels))
slots_more passes labels slots slots' k first next d h e n =
    grind (arith, append_assoc, places-append, aims_more)

-- the points of one label by its mnemonics
pub places_admitted : (key : ListKey) (label : Label) (first : ℕ) → label.selected ≡ true
    → admits key label.ops ≡ true
    → places_in key first (map point_view label.points)
    ≡ places_for (is_for key) first (aims_of_label (label_view label))
places_admitted key label first s h = grind (arith, places_has)

pub places_barred : (key : ListKey) (label : Label) (first : ℕ) → label.selected ≡ true
    → admits key label.ops ≡ false
    → places_for (is_for key) first (aims_of_label (label_view label)) ≡ []
places_barred key label first s h = grind (arith, places_lacks)

-- how many points a label has
pub label_length : (label : Label) → label.selected ≡ true
    → length (aims_of_label (label_view label)) ≡ length label.points
label_length label s = grind (arith, length-map)

-- before the first line
pub zero_counts : (aims : List Aim) → replicate {A = ℕ} (length aims) 0 ≡ map (count []) aims
zero_counts [] = refl
zero_counts (a ∷ aims) = grind (arith, replicate, none_counted, (zero_counts aims))

-- a new tally
pub new_tally : (labels index : List Label) (windows : List Window) (counts words : List ℕ)
    (run : List Fields)
    → index ≡ labels
    → counts ≡ replicate {A = ℕ} (length (aims_in labels)) 0 → words ≡ zeros → run ≡ []
    → record {
      labels =
          index;
      windows =
          windows;
      counts = counts;
      instructions = 0;
      run = run;
      heard = record { words = words; started = false };
    }
    ≡ tally_of labels windows []
new_tally labels index windows counts words run i n w r = grind (arith, zero_counts, followed_nil)
