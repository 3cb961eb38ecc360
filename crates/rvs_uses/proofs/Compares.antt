-- What every call of `compare` promises, in the words of its files.
use Rattle.std.proofs.Common.{◌≡◌, ◌≢◌, ◌≤◌, inl, inr, ℕ, List, length, Result, Ok, Err, None}
use Rattle.std.proofs.Common.{refl, sym, ap, subst, ◌∙◌}
use Rattle.rvs_base.specs.Host.{Files}
use Rattle.rvs_plan.specs.Inputs.{part_end}
use Rattle.rvs_plan.specs.Refusing.{input_text}
use Rattle.rvs_plan.specs.declared.stop.Stop.{Stop}
use Rattle.rvs_plan.specs.declared.stop.Stop.TheVariants.{Refused, NoFile}
use Rattle.rvs_plan.proofs.FoundInputs.{found-none, found-whole}
use Rattle.rvs_sig.specs.Printed.{refusal_text}
use Rattle.rvs_sig.specs.Verdicts.{verdict_of}
use Rattle.rvs_sig.specs.Words.{words_of}
use Rattle.rvs_sig.specs.declared.words.SigRefusal.{SigRefusal}
use Rattle.rvs_promises.specs.Call.{Call}
use Rattle.rvs_device.specs.Judged.{signature_limit}
use Rattle.rvs_plain.specs.Compare.{words_end}
use Rattle.rvs_promises.specs.Comparing as suite
use Rattle.rvs_promises.specs.Comparing.{Both, words_in, both_in}
use Rattle.rvs_inputs.specs.GroupFiles.{and_then}
use Rattle.rvs_plain.specs.Texts.{same_line, verdict_line}
use Rattle.rvs_promises.proofs.Meanings.{then-ok, then-err, whole-of}
use Rattle.rvs_uses.specs.Comparing as comparing
use Rattle.rvs_uses.specs.Laws.{ComparesFiles, PassesTheSame}
use Rattle.rvs_uses.specs.Spells.{Spells, SpellsNone, IsRefused, BothSpell, FirstRefused}
use Rattle.rvs_uses.specs.Spells.{FirstMissing}
use Rattle.rvs_uses.proofs.Files.{long-of, none-of, long-in}
use Rattle.rvs_words.specs.declared.command.CompareArguments.{CompareArguments}

-- ---- one file
words-ok : (name : List ℕ) (r : Result (List ℕ) SigRefusal) (spelt : List ℕ)
    → words_end name r ≡ Ok spelt → r ≡ Ok spelt
words-ok name (Ok w) spelt is = let same : w ≡ spelt = cc in ap (λ (x : List ℕ). Ok x) same
words-ok name (Err refusal) spelt is = absurd cc

pub spells-of : (files : Files) (name spelt : List ℕ) → words_in files name ≡ Ok spelt
    → Spells files name spelt
spells-of files name spelt is =
    let t = then-ok (part_end signature_limit name name signature_limit (files name))
    (λ bytes. words_end name (words_of bytes)) spelt is in
    let p = whole-of signature_limit name (files name) t.0 t.1 in
    record {
      bytes = t.0;
      there = p.0;
      within = p.1;
      spelt = words-ok name (words_of t.0) spelt t.2;
    }

pub spells-in : (files : Files) (name spelt : List ℕ) → Spells files name spelt
    → words_in files name ≡ Ok spelt
spells-in files name spelt s =
    ap (λ (r : Result (List ℕ) Stop). and_then r (λ bytes. words_end name (words_of bytes)))
    (found-whole signature_limit files name s.bytes s.there s.within)
    ∙ ap (words_end name) s.spelt

none-by : (name bytes text : List ℕ) (r : Result (List ℕ) SigRefusal)
    → length bytes ≤ signature_limit → words_of bytes ≡ r → words_end name r ≡ Err (Refused text)
    → SpellsNone name bytes text
none-by name bytes text (Ok w) within spelt is = absurd cc
none-by name bytes text (Err refusal) within spelt is =
    let e : Err (Refused (input_text name (refusal_text refusal))) ≡ Err (Refused text) = is in
    let same : input_text name (refusal_text refusal) ≡ text = cc in
    record { within = within; refusal = refusal; spelt = spelt; text_is = sym same }

refused-of : (files : Files) (name text : List ℕ) → words_in files name ≡ Err (Refused text)
    → IsRefused files name text
refused-of files name text is =
    elim (then-err (part_end signature_limit name name signature_limit (files name))
    (λ bytes. words_end name (words_of bytes)) (Refused text) is) [
      | inl e ↦
          (let l = long-of signature_limit name (files name) text e in
          record { bytes = l.bytes; there = l.there; reason = inl l.long })
      | inr t ↦
          (let p = whole-of signature_limit name (files name) t.0 t.1 in
          record {
            bytes = t.0;
            there = p.0;
            reason = inr (none-by name t.0 text (words_of t.0) p.1 refl t.2);
          })
    ]

refused-in : (files : Files) (name text : List ℕ) → IsRefused files name text
    → words_in files name ≡ Err (Refused text)
refused-in files name text r = elim r.reason [
  | inl long ↦ ap (λ (e : Result (List ℕ) Stop). and_then e
      (λ bytes. words_end name (words_of bytes)))
      (long-in signature_limit files name r.bytes text r.there long)
  | inr none ↦ ap (λ (e : Result (List ℕ) Stop). and_then e
      (λ bytes. words_end name (words_of bytes)))
      (found-whole signature_limit files name r.bytes r.there none.within)
      ∙ ap (words_end name) none.spelt ∙ ap (λ (t : List ℕ). Err (Refused t)) (sym none.text_is)
]

never-words : (name n : List ℕ) (r : Result (List ℕ) SigRefusal)
    → words_end name r ≡ Err (NoFile n) → ⊥
never-words name n (Ok w) is = cc
never-words name n (Err refusal) is = cc

absent-of : (files : Files) (name n : List ℕ) → words_in files name ≡ Err (NoFile n)
    → (n ≡ name) × (files name ≡ None)
absent-of files name n is =
    elim (then-err (part_end signature_limit name name signature_limit (files name))
    (λ bytes. words_end name (words_of bytes)) (NoFile n) is) [
      | inl e ↦ none-of signature_limit name (files name) n e
      | inr t ↦ absurd (never-words name n (words_of t.0) t.2)
    ]

absent-in : (files : Files) (name : List ℕ) → files name ≡ None
    → words_in files name ≡ Err (NoFile name)
absent-in files name none =
    ap (λ (e : Result (List ℕ) Stop). and_then e (λ bytes. words_end name (words_of bytes)))
    (found-none signature_limit files name none)

-- ---- both
abbrev as_both : List ℕ → List ℕ → Both
as_both l r = record { left = l; right = r }

abbrev with_left : List ℕ → List ℕ → Result Both Stop
with_left l r = Ok (as_both l r)

abbrev with_right : Files → List ℕ → List ℕ → Result Both Stop
with_right files right l = and_then (words_in files right) (with_left l)

pub both-of : (files : Files) (asked : CompareArguments) (both : Both)
    → both_in files asked ≡ Ok both
    → BothSpell files asked.left asked.right both.left both.right
both-of files asked both is =
    let l = then-ok (words_in files asked.left) (with_right files asked.right) both is in
    let r = then-ok (words_in files asked.right) (with_left l.0) both l.2 in
    let e : Ok (as_both l.0 r.0) ≡ Ok both = r.2 in
    let same : as_both l.0 r.0 ≡ both = cc in
    subst (λ (b : Both). BothSpell files asked.left asked.right b.left b.right) same (record {
      by_left = spells-of files asked.left l.0 l.1;
      by_right = spells-of files asked.right r.0 r.1;
    })

both-in : (files : Files) (asked : CompareArguments) (l r : List ℕ)
    → BothSpell files asked.left asked.right l r
    → both_in files asked ≡ Ok (as_both l r)
both-in files asked l r b =
    ap (λ (e : Result (List ℕ) Stop). and_then e (with_right files asked.right))
    (spells-in files asked.left l b.by_left)
    ∙ ap (λ (e : Result (List ℕ) Stop). and_then e (with_left l))
    (spells-in files asked.right r b.by_right)

first-refused-of : (files : Files) (asked : CompareArguments) (text : List ℕ)
    → both_in files asked ≡ Err (Refused text) → FirstRefused files asked.left asked.right text
first-refused-of files asked text is =
    elim (then-err (words_in files asked.left) (with_right files asked.right) (Refused text) is) [
      | inl e ↦ inl (refused-of files asked.left text e)
      | inr l ↦ elim (then-err (words_in files asked.right) (with_left l.0) (Refused text) l.2) [
        | inl e ↦ inr (l.0, spells-of files asked.left l.0 l.1, refused-of files asked.right text e)
        | inr r ↦
            (let no : Ok (as_both l.0 r.0) ≡ Err (Refused text) = r.2 in absurd cc)
      ]
    ]

first-refused-in : (files : Files) (asked : CompareArguments) (text : List ℕ)
    → FirstRefused files asked.left asked.right text
    → both_in files asked ≡ Err (Refused text)
first-refused-in files asked text (inl r) =
    ap (λ (e : Result (List ℕ) Stop). and_then e (with_right files asked.right))
    (refused-in files asked.left text r)
first-refused-in files asked text (inr r) =
    ap (λ (e : Result (List ℕ) Stop). and_then e (with_right files asked.right))
    (spells-in files asked.left r.0 r.1)
    ∙ ap (λ (e : Result (List ℕ) Stop). and_then e (with_left r.0))
    (refused-in files asked.right text r.2)

first-missing-of : (files : Files) (asked : CompareArguments) (name : List ℕ)
    → both_in files asked ≡ Err (NoFile name) → FirstMissing files asked.left asked.right name
first-missing-of files asked name is =
    elim (then-err (words_in files asked.left) (with_right files asked.right) (NoFile name) is) [
      | inl e ↦ inl (absent-of files asked.left name e)
      | inr l ↦ elim (then-err (words_in files asked.right) (with_left l.0) (NoFile name) l.2) [
        | inl e ↦
            (let a = absent-of files asked.right name e in
            inr (l.0, spells-of files asked.left l.0 l.1, a.0, a.1))
        | inr r ↦ (let no : Ok (as_both l.0 r.0) ≡ Err (NoFile name) = r.2 in absurd cc)
      ]
    ]

first-missing-in : (files : Files) (asked : CompareArguments) (name : List ℕ)
    → FirstMissing files asked.left asked.right name
    → both_in files asked ≡ Err (NoFile name)
first-missing-in files asked name (inl m) =
    ap (λ (e : Result (List ℕ) Stop). and_then e (with_right files asked.right))
    (absent-in files asked.left m.1)
    ∙ ap (λ (n : List ℕ). Err (NoFile n)) (sym m.0)
first-missing-in files asked name (inr m) =
    ap (λ (e : Result (List ℕ) Stop). and_then e (with_right files asked.right))
    (spells-in files asked.left m.0 m.1)
    ∙ ap (λ (e : Result (List ℕ) Stop). and_then e (with_left m.0))
    (absent-in files asked.right m.3)
    ∙ ap (λ (n : List ℕ). Err (NoFile n)) (sym m.2)

-- ---- the promise
compares-of : (call : Call) (files : Files) (asked : CompareArguments)
    → suite.Compares call files asked → comparing.Compares call files asked
compares-of call files asked n = record {
  done = λ is.
      let h = n.answered.done is in
      let put : (h.given.left ≡ h.given.right) × suite.HasPut call
      (same_line (length h.given.left)) = h.left in
      record {
        words = h.given.left;
        both = subst (λ (w : List ℕ). BothSpell files asked.left asked.right h.given.left w)
            (sym put.0)
            (both-of files asked h.given h.accepted);
        printed = put.1;
      };
  not_passed = λ is.
      let h = n.answered.not_passed is in
      let put : (h.given.left ≢ h.given.right) × suite.HasPut call
      (verdict_line (length h.given.left) (verdict_of h.given.left h.given.right)) = h.left in
      record {
        left_words = h.given.left;
        right_words = h.given.right;
        both = both-of files asked h.given h.accepted;
        differ = put.0;
        printed = put.1;
      };
  by_inputs = λ l r both none.
      n.answered.by_inputs (as_both l r) (both-in files asked l r both) none;
  refused = λ is.
      let h = n.answered.refused is in
      record {
        text = h.text;
        reason = first-refused-of files asked h.text h.refused;
        line = h.line;
      };
  by_refusal = λ text first none.
      n.answered.by_refusal text (first-refused-in files asked text first) none;
  absent = λ is. elim (n.answered.absent is) [
    | inl m ↦ inl (record {
      name = m.name;
      absent = first-missing-of files asked m.name m.absent;
      line = m.line;
    })
    | inr rose ↦ inr rose
  ];
  by_absence = λ name first none.
      n.answered.by_absence name (first-missing-in files asked name first) none;
  files_kept = n.files_kept;
}

pub compares-files : ComparesFiles
compares-files call p files asked told asks =
    compares-of call files asked (p.compare files asked told asks)

pub passes-the-same : PassesTheSame
passes-the-same call files asked p told asks done =
    let same = (compares-files call p files asked told asks).done done in
    (same.words, same.both)
