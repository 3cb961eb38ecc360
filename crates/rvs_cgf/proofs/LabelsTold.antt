-- Labels that are read, and written out, one after another.
use Rattle.std.proofs.Common.{◌≡◌, ℕ, ◌+◌, List, [], drop, Some, Ok, Err, refl, sym, ap, ◌∙◌, false}
use Rattle.std.specs.Prelude.{slice_get, IsTrue}
use Rattle.rvs_insn.specs.Isa.{Isa}
use Rattle.rvs_tree.specs.Data.{Data, own_pairs, keys_of, members_of, is_map}
use Rattle.rvs_abstract.specs.declared.families.Families.{Families}
use Rattle.rvs_cgf.specs.Groups.{Found, Refusal, Listed, label_step, nothing_listed, for_each}
use Rattle.rvs_cgf.specs.Groups.{at_label, groups_of, is_empty_scalar, ◌>>=◌}
use Rattle.rvs_cgf.specs.Print.{normal_text}
use Rattle.rvs_cgf.specs.Writing.{Told, told, told_of, nothing_told, normal_of}
use Rattle.rvs_cgf.proofs.Loops.{each-more, each-fails, entries-are}

-- the groups of a tree that is a map
pub groups-are : (isa : Isa) (families : Families) (d : Data) → is_empty_scalar d ≡ false
    → IsTrue (is_map d) → groups_of isa families d
    ≡ (for_each (label_step isa families) (own_pairs d) nothing_listed
    >>= (λ listed. Ok listed.labels))
unfolding groups_of
groups-are isa families d e m =
    ap (λ r. r >>= (λ es. for_each (label_step isa families) es nothing_listed
    >>= (λ listed. Ok listed.labels))) (entries-are (at_label []) d e m)

-- their normal text
pub normal-is : (isa : Isa) (families : Families) (d : Data) → is_empty_scalar d ≡ false
    → IsTrue (is_map d) → normal_of isa families d
    ≡ (told_of (for_each (label_step isa families) (own_pairs d) nothing_listed)
    >>= (λ t. Ok t.text))
normal-is isa families d e m =
    ap (λ g. g >>= (λ groups. Ok (normal_text groups))) (groups-are isa families d e m)
    ∙ by-answer (for_each (label_step isa families) (own_pairs d) nothing_listed)
  where
    by-answer : (r : Found Listed)
        → ((r >>= (λ listed. Ok listed.labels)) >>= (λ groups. Ok (normal_text groups)))
        ≡ (told_of r >>= (λ t. Ok t.text))
    by-answer (Ok listed) = refl
    by-answer (Err why) = refl

-- the labels that were written are those before an entry
pub record Stands (isa : Isa) (families : Families) (d : Data) (i : ℕ) (t : Told) : Type 0 where
  pub listed : Listed
  pub is : t ≡ told listed
  pub same : for_each (label_step isa families) (drop i (own_pairs d)) listed
      ≡ for_each (label_step isa families) (own_pairs d) nothing_listed

pub stands-first : (isa : Isa) (families : Families) (d : Data)
    → Stands isa families d 0 nothing_told
stands-first isa families d = record { listed = nothing_listed; is = refl; same = refl }

pub stands-more : (isa : Isa) (families : Families) (d : Data) (i : ℕ) (k : List ℕ) (v : Data)
    (t u : Told)
    (s : Stands isa families d i t)
    → IsTrue (is_map d) → slice_get (keys_of d) i ≡ Some k → slice_get (members_of d) i ≡ Some v
    → told_of (label_step isa families k v s.listed) ≡ Ok u → Stands isa families d (i + 1) u
stands-more isa families d i k v t u s m e g h =
    by-step (label_step isa families k v s.listed) refl h
  where
    by-step : (r : Found Listed) → label_step isa families k v s.listed ≡ r → told_of r ≡ Ok u
        → Stands isa families d (i + 1) u
    by-step (Ok next) same h = record {
      listed = next;
      is = cc;
      same = each-more (label_step isa families) d i k v s.listed next m e g same ∙ s.same;
    }
    by-step (Err why) same h = cc

pub stands-fails : (isa : Isa) (families : Families) (d : Data) (i : ℕ) (k : List ℕ) (v : Data)
    (t : Told) (why : Refusal)
    (s : Stands isa families d i t)
    → IsTrue (is_map d) → slice_get (keys_of d) i ≡ Some k → slice_get (members_of d) i ≡ Some v
    → told_of (label_step isa families k v s.listed) ≡ Err why
    → told_of (for_each (label_step isa families) (own_pairs d) nothing_listed) ≡ Err why
stands-fails isa families d i k v t why s m e g h =
    by-step (label_step isa families k v s.listed) refl h
  where
    by-step : (r : Found Listed) → label_step isa families k v s.listed ≡ r → told_of r ≡ Err why
        → told_of (for_each (label_step isa families) (own_pairs d) nothing_listed) ≡ Err why
    by-step (Ok next) same h = cc
    by-step (Err other) same h =
        ap told_of (sym s.same ∙ each-fails (label_step isa families) d i k v s.listed other m e g
        same) ∙ h

pub stands-done : (isa : Isa) (families : Families) (d : Data) (i : ℕ) (t : Told)
    (s : Stands isa families d i t)
    → drop i (own_pairs d) ≡ []
    → told_of (for_each (label_step isa families) (own_pairs d) nothing_listed) ≡ Ok t
stands-done isa families d i t s none =
    ap told_of (sym s.same ∙ ap (λ es. for_each (label_step isa families) es s.listed) none)
    ∙ ap (λ x. Ok x) (sym s.is)
