-- What all the lists that are looked at add together.
use Rattle.std.proofs.Common.{◌≡◌, ℕ, ◌+◌, Bool, true, false, ◌&&◌, List, []}
use Rattle.std.proofs.Common.{◌∷◌, Option, Some, refl, sym, ◌∙◌, length}
use Rattle.std.proofs.Common.{arith, rules}
use Rattle.rvs_points.proofs.Distinct.{and-right}
use Rattle.rvs_points.specs.Points.{Point}
use Rattle.rvs_points.specs.Hits.{has_op, holds}
use Rattle.rvs_facts.specs.Facts.{facts_of}
use Rattle.rvs_insn.specs.Fields.{Fields}
use Rattle.rvs_index.specs.Buckets.{bucket_of, is_seen, visited}
use Rattle.rvs_index.specs.Counting.{Aim, hits_insn}
use Rattle.rvs_index.specs.Index.{added_all}
use Rattle.rvs_index.specs.State.{added}
use Rattle.rvs_index.proofs.Seen.{bit, sees, seen, seen_once}

-- numbers added to the counts
abbrev plus : (Aim → ℕ) → List Aim → List ℕ → List ℕ
plus f [] cs = cs
plus f (a ∷ aims) [] = []
plus f (a ∷ aims) (c ∷ cs) = (c + f a) ∷ plus f aims cs

abbrev total : (Aim → Bool) → List (Option ℕ) → Aim → ℕ
total hit [] a = 0
total hit (o ∷ os) a = bit (is_seen o a.point && hit a) + total hit os a

plus_none : (aims : List Aim) (cs : List ℕ) → plus (λ a. 0) aims cs ≡ cs
plus_none [] cs = refl
plus_none (a ∷ aims) [] = refl
plus_none (a ∷ aims) (c ∷ cs) = grind (arith, (plus_none aims cs))

plus_after : (p : Aim → Bool) (f : Aim → ℕ) (aims : List Aim) (cs : List ℕ)
    → plus f aims (added p aims cs) ≡ plus (λ a. bit (p a) + f a) aims cs
plus_after p f [] cs = refl
plus_after p f (a ∷ aims) [] = refl
plus_after p f (a ∷ aims) (c ∷ cs) = grind (arith, bit, (plus_after p f aims cs))

plus_is : (f : Aim → ℕ) (p : Aim → Bool) (aims : List Aim) (cs : List ℕ)
    → ((a : Aim) → f a ≡ bit (p a)) → plus f aims cs ≡ added p aims cs
plus_is f p [] cs h = refl
plus_is f p (a ∷ aims) [] h = refl
plus_is f p (a ∷ aims) (c ∷ cs) h = grind (arith, bit, (plus_is f p aims cs h))

all_total : (hit : Aim → Bool) (os : List (Option ℕ)) (aims : List Aim) (cs : List ℕ)
    → added_all hit os aims cs ≡ plus (total hit os) aims cs
all_total hit [] aims cs = sym (plus_none aims cs)
all_total hit (o ∷ os) aims cs =
    simp (plus_after, (all_total hit os aims (added (λ a. is_seen o a.point && hit a) aims cs)))

-- a point is in one list
seen_bit : (o : Option ℕ) (p : Point) → bit (is_seen o p && true) ≡ bit (sees (bucket_of p) o)
seen_bit o p = grind arith

unseen_bit : (o : Option ℕ) (p : Point) → bit (is_seen o p && false) ≡ 0
unseen_bit o p = grind (arith, bit)

total_hit : (hit : Aim → Bool) (os : List (Option ℕ)) (a : Aim) → hit a ≡ true
    → total hit os a ≡ seen (bucket_of a.point) os
total_hit hit [] a h = refl
total_hit hit (o ∷ os) a h = grind (arith, bit, seen_bit, sees, (total_hit hit os a h))

total_missed : (hit : Aim → Bool) (os : List (Option ℕ)) (a : Aim) → hit a ≡ false
    → total hit os a ≡ 0
total_missed hit [] a h = refl
total_missed hit (o ∷ os) a h = grind (arith, bit, unseen_bit, (total_missed hit os a h))

total_one : (i : Fields) (v1 v2 : ℕ) (a : Aim)
    → total (λ a. hits_insn a (Some i) v1 v2) (visited (facts_of i v1 v2)) a
    ≡ bit (hits_insn a (Some i) v1 v2)
total_one i v1 v2 a = turn (hits_insn a (Some i) v1 v2) refl
  where
    turn : (b : Bool) → hits_insn a (Some i) v1 v2 ≡ b
        → total (λ a. hits_insn a (Some i) v1 v2) (visited (facts_of i v1 v2)) a ≡ bit b
    turn true h =
        total_hit (λ a. hits_insn a (Some i) v1 v2) (visited (facts_of i v1 v2)) a h
        ∙ seen_once a.point i.op (facts_of i v1 v2)
        (and-right (has_op a.ops i.op) (holds a.point i.op (facts_of i v1 v2)) h)
    turn false h = total_missed (λ a. hits_insn a (Some i) v1 v2) (visited (facts_of i v1 v2)) a h

-- all lists together add what the instruction hits
pub all_added : (i : Fields) (v1 v2 : ℕ) (aims : List Aim) (cs : List ℕ)
    → added_all (λ a. hits_insn a (Some i) v1 v2) (visited (facts_of i v1 v2)) aims cs
    ≡ added (λ a. hits_insn a (Some i) v1 v2) aims cs
all_added i v1 v2 aims cs = search (rules, all_total, plus_is, total_one)

-- where there are no counts
pub none_to_add : (passes : Aim → Bool) (aims : List Aim) (cs : List ℕ) → length cs ≡ 0
    → cs ≡ added passes aims cs
none_to_add passes [] cs h = refl
none_to_add passes (a ∷ aims) [] h = refl
none_to_add passes (a ∷ aims) (c ∷ cs) h = absurd (omega arith)
