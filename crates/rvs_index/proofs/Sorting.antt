-- The points of a mnemonic, bucket by bucket.
use Rattle.std.proofs.Common.{◌≡◌, ℕ, zero, suc, ◌+◌, ◌*◌, ◌/◌, ◌%◌, ◌<◌}
use Rattle.std.proofs.Common.{List, [], ◌∷◌, ◌++◌, refl, sym, ap, subst, ◌∙◌, arith, length, drop}
use Rattle.std.proofs.Common.{get_or}
use Rattle.std.proofs.lemmas.List.{append_assoc}
use Rattle.rvs_index.proofs.Marks.{pushed_each}
use Rattle.rvs_points.specs.declared.group.Label.{Label}
use Rattle.rvs_index.specs.Buckets.{bucket_count}
use Rattle.rvs_index.specs.Counting.{Aim, aims_in}
use Rattle.rvs_index.specs.Index.{place_of, places, places_for, in_bucket, insns_key}
use Rattle.rvs_index.specs.Index.{is_for}
use Rattle.rvs_index.specs.Index.{IsIndex}
use Rattle.rvs_index.specs.declared.key.ListKey.{ListKey}
use Rattle.rvs_index.specs.declared.key.ListKey.TheVariants.{Any, Insns}
use Rattle.rvs_index.specs.declared.slot.Slot.{Slot}

-- the next slot
next_slot : (bucket : ℕ) (slots : List Slot) (k : ℕ) (d : Slot) → k < length slots
    → in_bucket bucket (places (drop k slots))
    ≡ in_bucket bucket (place_of (get_or slots k d) ∷ [])
    ++ in_bucket bucket (places (drop (k + 1) slots))
next_slot bucket [] k d h = absurd (omega arith)
next_slot bucket (s ∷ slots) zero d h = grind arith
next_slot bucket (s ∷ slots) (suc k) d h = grind (arith, (next_slot bucket slots k d (omega arith)))

pub slot_more : (bucket : ℕ) (slots list list' : List Slot) (k : ℕ) (d : Slot) → k < length slots
    → places list' ≡ places list ++ in_bucket bucket (place_of (get_or slots k d) ∷ [])
    → places list' ++ in_bucket bucket (places (drop (k + 1) slots))
    ≡ places list ++ in_bucket bucket (places (drop k slots))
slot_more bucket slots list list' k d h e = grind (arith, append_assoc, next_slot)

-- those of a bucket among those of a mnemonic
bucket_for : (n bucket at : ℕ) (aims : List Aim)
    → in_bucket bucket (places_for (is_for (Any n)) at aims)
    ≡ places_for (is_for (Insns n bucket)) at aims
bucket_for n bucket at [] = refl
bucket_for n bucket at (a ∷ aims) = grind (arith, (bucket_for n bucket (at + 1) aims))

-- the list of one more bucket
pub more_index : (labels : List Label) (lists lists' : List (List Slot)) (all list : List Slot)
    (n bucket : ℕ)
    → IsIndex insns_key labels lists → length lists ≡ n * bucket_count + bucket
    → bucket < bucket_count
    → places all ≡ places_for (is_for (Any n)) 0 (aims_in labels)
    → places list ≡ in_bucket bucket (places all) → lists' ≡ lists ++ list ∷ []
    → IsIndex insns_key labels lists'
more_index labels lists lists' all list n bucket index len low whole part e =
    let q : (n * bucket_count + bucket) / bucket_count ≡ n = omega (arith, low) in
    let r : (n * bucket_count + bucket) % bucket_count ≡ bucket = omega (arith, low) in
    let mine : places list ≡ places_for (is_for (Insns n bucket)) 0 (aims_in labels) =
    part ∙ ap (in_bucket bucket) whole ∙ bucket_for n bucket 0 (aims_in labels) in
    let key : places list
    ≡ places_for (is_for (insns_key (n * bucket_count + bucket))) 0 (aims_in labels) =
    mine
    ∙ ap (λ k. places_for (is_for (Insns k bucket)) 0 (aims_in labels)) (sym q)
    ∙ ap (λ b. places_for (is_for (Insns ((n * bucket_count + bucket) / bucket_count) b)) 0
    (aims_in labels))
    (sym r) in
    subst (IsIndex insns_key labels) (sym e) (record {
      each = λ k d h. pushed_each
          (λ k slots. places slots ≡ places_for (is_for (insns_key k)) 0 (aims_in labels)) lists
          list index.each
          (subst (λ k. places list ≡ places_for (is_for (insns_key k)) 0 (aims_in labels)) (sym len)
          key) k d h;
    })

-- one more list, of any keys
pub more_lists : (key : ℕ → ListKey) (labels : List Label) (lists lists' : List (List Slot))
    (list : List Slot) (n : ℕ)
    → IsIndex key labels lists → length lists ≡ n
    → places list ≡ places_for (is_for (key n)) 0 (aims_in labels) → lists' ≡ lists ++ list ∷ []
    → IsIndex key labels lists'
more_lists key labels lists lists' list n index len mine e =
    subst (IsIndex key labels) (sym e) (record {
      each = λ k d h. pushed_each
          (λ k slots. places slots ≡ places_for (is_for (key k)) 0 (aims_in labels)) lists list
          index.each
          (subst (λ k. places list ≡ places_for (is_for (key k)) 0 (aims_in labels)) (sym len)
          mine) k d h;
    })
