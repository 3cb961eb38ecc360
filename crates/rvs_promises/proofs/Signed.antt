-- That each test that is made is what the headline says.
use Rattle.std.proofs.Common.{◌≡◌, ◌*◌, inl, inr, ℕ, zero, suc, true, false, true≢false, List, []}
use Rattle.std.proofs.Common.{◌∷◌, ◌++◌, map, Contains, Option, Some, cond, is_some, option_to_list}
use Rattle.std.proofs.Common.{None, IsTrue, bytes_eq, slice_get, refl, sym, ap, subst, ◌∙◌, arith}
use Rattle.std.proofs.lemmas.Bool.{and_from, or_parts, and_parts}
use Rattle.std.specs.Prelude.{not}
use Rattle.std.proofs.lemmas.List.{length-map}
use Rattle.std.proofs.lemmas.List.Elements.{All-map, All-weaker, All-contains, All-contains_itself}
use Rattle.std.proofs.lemmas.Option.{slice_get_within}
use Rattle.std.proofs.lemmas.Slice.Eq.{bytes_eq-Decides}
use Rattle.rvs_insn.specs.Isa.{Isa}
use Rattle.rvs_machine.specs.Image.{ImageValue}
use Rattle.rvs_machine.specs.Run.{Outcome}
use Rattle.rvs_asm.proofs.Stands.{image_answered}
use Rattle.rvs_cgf.specs.Groups.{Label, Point, same_kind, is_point, has}
use Rattle.rvs_points.specs.Kinds.{kind_name}
use Rattle.rvs_points.specs.Valid.{are_distinct}
use Rattle.rvs_points.specs.declared.group.Kind.{Kind}
use Rattle.rvs_normal.proofs.Truths.{not-true}
use Rattle.rvs_solver.specs.Solving.{first_at, IsSolvableAt}
use Rattle.rvs_choice.specs.declared.solved.Solved.{Solved}
use Rattle.rvs_test_text.specs.declared.claim.Claim.{Claim}
use Rattle.rvs_test_text.specs.TestText.{step_limit}
use Rattle.rvs_test.specs.Made.{claims_of, cases_of, text_for, text_of_label}
use Rattle.rvs_test.specs.Made.{cases_among, solved_among, numbered, places}
use Rattle.rvs_test.specs.Claimed.{IsClaimed, words_of_case}
use Rattle.rvs_test.specs.Named.{Named, named_claim}
use Rattle.rvs_test.proofs.Joined.{accounted}
use Rattle.rvs_inputs.specs.GroupFiles.{Inputs}
use Rattle.rvs_generate.specs.Tests.{run_on}
use Rattle.rvs_promises.specs.Tested.{AreTested}
use Rattle.rvs_promises.specs.Headline.{Names, IsKept, IsProved}
use Rattle.rvs_promises.proofs.Counted.{counted-claim}
use Rattle.rvs_promises.proofs.ImageRegions.{stands-map}
use Rattle.rvs_promises.proofs.PointLines.{claim-solved, unsolved-at}

-- ---- points are told apart by the names of their kinds and their keys
same-names : (j k : Kind) → bytes_eq (kind_name j) (kind_name k) ≡ true → same_kind j k ≡ true
same-names j k h = grind arith

clash : (ps : List Point) (k : ℕ) (p q : Point) → slice_get ps k ≡ Some q
    → has p.kind p.key ps ≡ false → kind_name q.kind ≡ kind_name p.kind → q.key ≡ p.key → ⊥
clash [] k p q there none kind key = cc
clash (x ∷ xs) zero p q there none kind key =
    let same : x ≡ q = cc in
    let k = same-names x.kind p.kind ((bytes_eq-Decides (kind_name x.kind) (kind_name p.kind)).1
    (ap (λ (y : Point). kind_name y.kind) same ∙ kind)) in
    let t = (bytes_eq-Decides x.key p.key).1 (ap (λ (y : Point). y.key) same ∙ key) in
    let none' = (or_parts (is_point p.kind p.key x) (has p.kind p.key xs) none).0 in
    true≢false (sym (and_from (same_kind x.kind p.kind) (bytes_eq x.key p.key) k t) ∙ none')
clash (x ∷ xs) (suc k) p q there none kind key =
    clash xs k p q there (or_parts (is_point p.kind p.key x) (has p.kind p.key xs) none).1 kind key

unique : (ps : List Point) (i k : ℕ) (p q : Point) → slice_get ps i ≡ Some p
    → slice_get ps k ≡ Some q → are_distinct ps ≡ true → kind_name q.kind ≡ kind_name p.kind
    → q.key ≡ p.key → k ≡ i
unique [] i k p q here there own kind key = absurd cc
unique (x ∷ xs) zero zero p q here there own kind key = refl
unique (x ∷ xs) zero (suc k) p q here there own kind key = grind (arith, and_parts, clash, not-true)
unique (x ∷ xs) (suc i) zero p q here there own kind key = grind (arith, and_parts, clash, not-true)
unique (x ∷ xs) (suc i) (suc k) p q here there own kind key =
    let o = and_parts (not (has x.kind x.key xs)) (are_distinct xs) own in
    ap (λ (n : ℕ). suc n) (unique xs i k p q here there o.1 kind key)

-- ---- claims and their names
names-it : (l : Label) (c : Claim) (p : Point) → slice_get l.points c.point ≡ Some p
    → Names (named_claim l c) p
names-it l c p is = grind arith

contains-map : {A B : Type 0} (f : A → B) (xs : List A) (x : A) → Contains xs x
    → Contains (map f xs) (f x)
contains-map f [] x (i, h, at) = absurd (omega arith)
contains-map f (y ∷ ys) x (zero, h, at) = (0, omega arith, ap f at)
contains-map f (y ∷ ys) x (suc i, h, at) =
    let r = contains-map f ys x (i, omega arith, at) in
    (suc r.0, omega (arith, r.1), r.2)

claim-solvable : (isa : Isa) (l : Label) (c : Claim) (p : Point) → Contains (claims_of isa l) c
    → slice_get l.points c.point ≡ Some p → IsSolvableAt isa l c.point
claim-solvable isa l c p there is =
    let within = slice_get_within l.points c.point p is in
    elim (accounted isa l c.point within) [
      | inl left ↦ absurd (true≢false (sym (claim-solved isa l c there)
          ∙ unsolved-at isa l c.point within left.1))
      | inr claimed ↦ claimed.3
    ]

kept-claim : (isa : Isa) (l : Label) (image : ImageValue) (o : Outcome) (c : Claim)
    → are_distinct l.points ≡ true → Contains (claims_of isa l) c → IsClaimed isa l image o c
    → IsKept isa l image o (named_claim l c)
kept-claim isa l image o c own there h =
    let n = names-it l c h.point h.is in
    record {
      place = c.point;
      point = h.point;
      is = h.is;
      named = n;
      no_other = λ k p is m. unique l.points c.point k h.point p h.is is own
          (m.kind ∙ sym n.kind) (m.key ∙ sym n.key);
      solvable = claim-solvable isa l c h.point there h.is;
      at = h.at;
      symbol = h.symbol;
      entry = h.entry;
      more = h.more;
      only = h.only;
      hit = h.hit;
      counted = counted-claim isa.memory l h.point h.at h.entry h.more o.trace
          (words_of_case image isa o c.case) h.only h.hit;
    }

-- ---- the whole
named-claim : (isa : Isa) (l : Label) (k : ℕ) (p : Point) → slice_get l.points k ≡ Some p
    → IsSolvableAt isa l k
    → (n : Named) × Contains (map (named_claim l) (claims_of isa l)) n × Names n p
named-claim isa l k p is solvable =
    elim (accounted isa l k (slice_get_within l.points k p is)) [
      | inl left ↦ absurd (left.1 solvable)
      | inr claimed ↦ (
        named_claim l claimed.0,
        contains-map (named_claim l) (claims_of isa l) claimed.0 claimed.1,
        names-it l claimed.0 p (ap (slice_get l.points) claimed.2 ∙ is),
      )
    ]

pub proved : (inputs : Inputs) (l : Label) (text : List ℕ) → AreTested inputs
    → Contains inputs.groups l → IsTrue l.selected → text_of_label inputs.isa l ≡ Some text
    → IsProved inputs.isa l text
proved inputs l text t there selected is =
    let isa = inputs.isa in
    let claims = claims_of isa l in
    let steps = step_limit (cases_of isa l) in
    let runs = t.runs l text there selected is in
    let run = runs.runs steps (omega arith) in
    let o = run_on isa runs.image steps in
    let own = (t.valid l there selected).distinct in
    record {
      steps = steps;
      header = runs.header;
      names = map (named_claim l) claims;
      read = t.read l text there selected is;
      image = runs.image;
      stands = runs.assembles;
      alone = image_answered text isa runs.image runs.assembles;
      placed = stands-map text isa runs.image runs.assembles;
      halts = run.halts;
      within = run.steps;
      kept = All-map (IsKept isa l runs.image o) (named_claim l) claims
          (All-weaker (Contains claims) (λ (c : Claim). IsKept isa l runs.image o (named_claim l c))
          (λ c inside. kept-claim isa l runs.image o c own inside
          (All-contains (IsClaimed isa l runs.image o) claims c run.claimed inside)) claims
          (All-contains_itself claims));
      words = run.words ∙ ap (λ (n : ℕ). 2 * n) (sym (length-map claims (named_claim l)));
      others = λ k p at solvable. named-claim isa l k p at solvable;
    }

-- ---- a label without a test
none-solved : (isa : Isa) (l : Label) (ks : List ℕ) → cases_among isa l ks ≡ []
    → solved_among isa l ks ≡ []
none-solved isa l [] none = refl
none-solved isa l (k ∷ ks) none =
    by-first (first_at isa l k) refl (λ later. none-solved isa l ks later)
  where
    by-first : (first : Option Solved) → first_at isa l k ≡ first
        → (cases_among isa l ks ≡ [] → solved_among isa l ks ≡ [])
        → solved_among isa l (k ∷ ks) ≡ []
    by-first None is rest =
        ap (λ (o : Option Solved). cond (is_some o) (k ∷ solved_among isa l ks)
        (solved_among isa l ks)) is
        ∙ rest (sym (ap (λ (o : Option Solved). option_to_list o ++ cases_among isa l ks) is)
        ∙ none)
    by-first (Some s) is rest =
        let more : s ∷ cases_among isa l ks ≡ [] =
        sym (ap (λ (o : Option Solved). option_to_list o ++ cases_among isa l ks) is) ∙ none in
        absurd cc

no-cases : (isa : Isa) (l : Label) (cs : List Solved) → text_for isa l cs ≡ None → cs ≡ []
no-cases isa l cs none = grind arith

no-claims : (isa : Isa) (l : Label) → text_of_label isa l ≡ None → claims_of isa l ≡ []
unfolding claims_of cases_of
no-claims isa l none =
    ap (numbered 0) (none-solved isa l (places l) (no-cases isa l (cases_of isa l) none))

-- no point of it is solvable
pub untested : (isa : Isa) (l : Label) (k : ℕ) → text_of_label isa l ≡ None
    → IsSolvableAt isa l k → ⊥
untested isa l k none solvable =
    elim (accounted isa l k
    (slice_get_within l.points k solvable.point solvable.is)) [
      | inl left ↦ left.1 solvable
      | inr claimed ↦ let there : Contains [] claimed.0 =
          subst (λ (cs : List Claim). Contains cs claimed.0) (no-claims isa l none) claimed.1 in
          omega (arith, there.1)
    ]

-- a label with a solvable point has a test
pub has-test : (isa : Isa) (l : Label) (k : ℕ) → IsSolvableAt isa l k
    → (text : List ℕ) × (text_of_label isa l ≡ Some text)
has-test isa l k solvable = by-text (text_of_label isa l) refl
  where
    by-text : (t : Option (List ℕ)) → text_of_label isa l ≡ t
        → (text : List ℕ) × (text_of_label isa l ≡ Some text)
    by-text (Some text) is = (text, is)
    by-text None is = absurd (untested isa l k is solvable)
