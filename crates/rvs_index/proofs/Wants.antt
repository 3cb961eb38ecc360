-- Facts that no point of a mnemonic says a value of.
use Rattle.std.proofs.Common.{◌≡◌, ℕ, ℤ, ◌+◌, ◌*◌, ◌<◌, ◌≤◌, Bool, false, ◌&&◌, List, [], ◌∷◌}
use Rattle.std.proofs.Common.{◌++◌, Option, Some, None, refl, sym, ap, subst, ◌∙◌, arith, length}
use Rattle.std.proofs.Common.{get_or}
use Rattle.std.specs.Prelude.{option_map}
use Rattle.rvs_points.specs.declared.group.Label.{Label}
use Rattle.rvs_facts.specs.Facts.{facts_of}
use Rattle.rvs_facts.specs.Mnemonics.{number}
use Rattle.rvs_insn.specs.Fields.{Fields}
use Rattle.rvs_index.specs.Buckets.{is_seen, bucket_count}
use Rattle.rvs_index.specs.Cells.{asked_bucket, fact, sight}
use Rattle.rvs_index.specs.Counting.{Aim, aims_in, hits_insn}
use Rattle.rvs_index.specs.Index.{insns_key, is_for, places, places_for, IsIndex}
use Rattle.rvs_index.specs.State.{added}
use Rattle.rvs_index.specs.Wanted.{from_of, to_of, wants, AreEmpty, HasWanted, IsWanted}
use Rattle.rvs_index.specs.declared.asked.Asked.{Asked}
use Rattle.rvs_index.specs.declared.slot.Slot.{Slot}
use Rattle.rvs_index.specs.declared.wanted.Wanted.{Wanted}
use Rattle.rvs_index.proofs.Marks.{pushed_each}
use Rattle.rvs_index.proofs.Cells.{sight_none}
use Rattle.rvs_index.proofs.Places.{added_bucket, none_added}

-- what seven tests say
pub wanted_is : (lists : List (List Slot)) (m : ℕ) (a b c d e f g : Bool)
    → (a ≡ false → AreEmpty lists (m * bucket_count + 1) (m * bucket_count + 33))
    → (b ≡ false → AreEmpty lists (m * bucket_count + 33) (m * bucket_count + 65))
    → (c ≡ false → AreEmpty lists (m * bucket_count + 65) (m * bucket_count + 97))
    → (d ≡ false → AreEmpty lists (m * bucket_count + 97) (m * bucket_count + 164))
    → (e ≡ false → AreEmpty lists (m * bucket_count + 164) (m * bucket_count + 231))
    → (f ≡ false → AreEmpty lists (m * bucket_count + 231) (m * bucket_count + 298))
    → (g ≡ false → AreEmpty lists (m * bucket_count + 298) (m * bucket_count + bucket_count))
    → IsWanted lists m (record {
      rd = a;
      rs1 = b;
      rs2 = c;
      rs1_val = d;
      rs2_val = e;
      imm_val = f;
      ea_align = g;
    })
wanted_is lists m a b c d e f g at bt ct dt et ft gt = grind arith

-- one more mnemonic
pub more_wanted : (lists : List (List Slot)) (ws ws' : List Wanted) (n : ℕ) (w : Wanted)
    → HasWanted lists ws → length ws ≡ n → IsWanted lists n w → ws' ≡ ws ++ w ∷ []
    → HasWanted lists ws'
more_wanted lists ws ws' n w has len is e =
    subst (HasWanted lists) (sym e) (record {
      each = λ m d h. pushed_each (IsWanted lists) ws w (λ m d h. has.each m d h)
          (subst (λ m. IsWanted lists m w) (sym len) is) m d h;
    })

-- a value's list is among those for its fact
in_range : (q : Asked) (z : ℤ) → (from_of q ≤ asked_bucket q z) × (asked_bucket q z < to_of q)
in_range q z = grind arith

top : (q : Asked) → to_of q ≤ bucket_count
top q = grind arith

-- what isn't wanted adds nothing
pub unwanted : (labels : List Label) (lists : List (List Slot)) (i : Fields) (v1 v2 n : ℕ)
    (q : Asked) (w : Wanted) (cs : List ℕ)
    → IsIndex insns_key labels lists → n * bucket_count + bucket_count ≤ length lists → n
    ≡ number i.op
    → length cs ≡ length (aims_in labels) → IsWanted lists n w → wants w q ≡ false
    → cs ≡ added (λ a. is_seen (sight q (facts_of i v1 v2)) a.point && hits_insn a (Some i) v1 v2)
    (aims_in labels) cs
unwanted labels lists i v1 v2 n q w cs index all same l is un =
    turn (fact q (facts_of i v1 v2)) refl
  where
    hit : Aim → Bool
    hit a = hits_insn a (Some i) v1 v2

    seen : Option ℕ → List ℕ
    seen o = added (λ a. is_seen o a.point && hit a) (aims_in labels) cs

    turn : (o : Option ℤ) → fact q (facts_of i v1 v2) ≡ o
        → cs ≡ seen (sight q (facts_of i v1 v2))
    turn None e =
        none_added (aims_in labels) hit cs l
        ∙ ap seen (sym (sight_none q (facts_of i v1 v2) e))
    turn (Some z) e =
        let b = asked_bucket q z in
        let range = in_range q z in
        let low : b < bucket_count = omega (arith, range, top q) in
        let empty : get_or lists (n * bucket_count + b) [] ≡ [] =
        (is.each q un).each (n * bucket_count + b) (omega (arith, range)) (omega (arith, range)) in
        let mine : places []
        ≡ places_for (is_for (insns_key (n * bucket_count + b))) 0 (aims_in labels) =
        ap places (sym empty) ∙ index.each (n * bucket_count + b) [] (omega (arith, low, all)) in
        added_bucket labels i v1 v2 n b [] cs cs same low mine l refl
        ∙ ap seen (sym (sight_some e))
      where
        sight_some : {z : ℤ} → fact q (facts_of i v1 v2) ≡ Some z
            → sight q (facts_of i v1 v2) ≡ Some (asked_bucket q z)
        sight_some e = ap (option_map (asked_bucket q)) e
