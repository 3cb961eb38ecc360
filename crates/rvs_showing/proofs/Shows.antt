-- What a page shows of a label, one point, one entry and one case after another.
use Rattle.std.proofs.Common.{◌≡◌, ℕ, zero, suc, ◌+◌, ◌<◌, Bool, true, false, List, []}
use Rattle.std.proofs.Common.{◌∷◌, ◌++◌, if◌then◌else◌}
use Rattle.std.proofs.Common.{length, map, drop, get_or, Option, Some, None, slice_get}
use Rattle.std.proofs.Common.{Bor, option_map, refl, sym, ap, ◌∙◌, arith, append_assoc, append-nil}
use Rattle.std.proofs.lemmas.Bool.{ne_eqb}
use Rattle.std.proofs.lemmas.Option.{slice_get-map, slice_get_past, slice_get_read}
use Rattle.std.specs.Option.{option_copied}
use Rattle.std.specs.Slice.{IsItemAt}
use Rattle.std.proofs.lemmas.List.{drop_more}
use Rattle.rvs_points.specs.PointView.{point_view, skipped_view}
use Rattle.rvs_points.specs.declared.group.Point.{Point}
use Rattle.rvs_points.specs.declared.group.Skipped.{Skipped}
use Rattle.rvs_page.specs.declared.shown.Case.{Case}
use Rattle.rvs_page.specs.declared.shown.Point.{Point as ShownPoint}
use Rattle.rvs_page.specs.declared.shown.Skipped.{Skipped as ShownSkipped}
use Rattle.rvs_test_text.specs.declared.claim.Claim.{Claim}
use Rattle.rvs_test_text.specs.Claims.{case_at, claims_after}
use Rattle.rvs_showing.specs.Showing.{word_at, shown_point, shown_points, shown_skipped}
use Rattle.rvs_showing.specs.Showing.{without_indent, begun, code_of, differs, symbol_of, behind}
use Rattle.rvs_showing.specs.Showing.{shown_case, shown_cases}
use Rattle.rvs_showing.specs.declared.found.Found.{Found}

drop-whole : {A : Type 0} (xs : List A) → drop (length xs) xs ≡ []
drop-whole [] = refl
drop-whole (x ∷ xs) = drop-whole xs

-- ---- points
pub points_more : (found : Found) (counts : List ℕ) (shown : List ShownPoint) (one : ShownPoint)
    (cs : List Claim) (ps : List Point) (i : ℕ) (d : Point) → i < length ps
    → one ≡ shown_point found (case_at cs i) (word_at counts i) (point_view (get_or ps i d))
    → (shown ++ one ∷ [])
    ++ shown_points found counts (claims_after cs i) (i + 1) (map point_view (drop (i + 1) ps))
    ≡ shown ++ shown_points found counts cs i (map point_view (drop i ps))
points_more found counts shown one cs ps i d h is =
    append_assoc shown (one ∷ [])
    (shown_points found counts (claims_after cs i) (i + 1) (map point_view (drop (i + 1) ps)))
    ∙ ap (λ (x : ShownPoint). shown ++ x
    ∷ shown_points found counts (claims_after cs i) (i + 1) (map point_view (drop (i + 1) ps))) is
    ∙ sym (ap (λ xs. shown ++ shown_points found counts cs i (map point_view xs))
    (drop_more ps i d h))

pub points_all : (found : Found) (counts : List ℕ) (shown : List ShownPoint) (cs : List Claim)
    (ps : List Point) (n : ℕ)
    → shown ++ shown_points found counts cs n (map point_view (drop (length ps) ps)) ≡ shown
points_all found counts shown cs ps n =
    ap (λ xs. shown ++ shown_points found counts cs n (map point_view xs)) (drop-whole ps)
    ∙ append-nil shown

pub point_got : (ps : List Point) (k : ℕ) (r : Option (Bor Point)) → IsItemAt ps k r
    → slice_get ps k ≡ option_copied r
point_got ps k None h = slice_get_past ps k h.3
point_got ps k (Some p) h = slice_get_read ps (length ps) k p.now refl h.3.0 h.1

-- ---- entries that aren't counted
pub entries_more : (shown : List ShownSkipped) (one : ShownSkipped) (ss : List Skipped) (i : ℕ)
    (d : Skipped) → i < length ss → one ≡ shown_skipped (skipped_view (get_or ss i d))
    → (shown ++ one ∷ []) ++ map shown_skipped (map skipped_view (drop (i + 1) ss))
    ≡ shown ++ map shown_skipped (map skipped_view (drop i ss))
entries_more shown one ss i d h is =
    append_assoc shown (one ∷ []) (map shown_skipped (map skipped_view (drop (i + 1) ss)))
    ∙ ap (λ (x : ShownSkipped). shown ++ x
    ∷ map shown_skipped (map skipped_view (drop (i + 1) ss))) is
    ∙ sym (ap (λ xs. shown ++ map shown_skipped (map skipped_view xs)) (drop_more ss i d h))

-- ---- the lines of a case
code_more : (k : ℕ) (lines : List (List ℕ)) (line : List ℕ) (more : List (List ℕ))
    → drop (suc k) lines ≡ line ∷ more
    → code_of (suc (suc k)) lines ≡ (code_of (suc k) lines ++ 10 ∷ []) ++ without_indent line
code_more k [] line more e = absurd cc
code_more zero (x ∷ xs) line more e =
    ap (λ (ls : List (List ℕ)). code_of 2 (x ∷ ls)) e
    ∙ sym (append_assoc (without_indent x) (10 ∷ []) (without_indent line))
code_more (suc k) (x ∷ []) line more e = absurd cc
code_more (suc k) (x ∷ y ∷ xs) line more e =
    ap (λ (t : List ℕ). without_indent x ++ 10 ∷ t) (code_more k (y ∷ xs) line more e)
    ∙ sym (append_assoc (without_indent x) (10 ∷ code_of (suc k) (y ∷ xs) ++ 10 ∷ [])
    (without_indent line))
    ∙ ap (λ (t : List ℕ). t ++ without_indent line)
    (sym (append_assoc (without_indent x) (10 ∷ code_of (suc k) (y ∷ xs)) (10 ∷ [])))

pub code_step : (k : ℕ) (lines : List (List ℕ)) (line : List ℕ) (more : List (List ℕ))
    → drop k lines ≡ line ∷ more
    → code_of (suc k) lines ≡ begun k (code_of k lines) ++ without_indent line
code_step zero lines line more e = ap (code_of 1) e
code_step (suc k) lines line more e =
    code_more k lines line more e
    ∙ sym (ap (λ (b : Bool). (if b then code_of (suc k) lines else code_of (suc k) lines ++ 10 ∷ [])
    ++ without_indent line) (ne_eqb (suc k) 0 (λ z. omega arith)))

-- where no line is left
pub code_none : (k : ℕ) (lines : List (List ℕ)) → drop k lines ≡ []
    → code_of (suc k) lines ≡ code_of k lines
code_none zero [] e = refl
code_none (suc k) [] e = refl
code_none zero (x ∷ xs) e = absurd cc
code_none (suc zero) (x ∷ []) e = refl
code_none (suc (suc k)) (x ∷ []) e = refl
code_none (suc zero) (x ∷ y ∷ xs) e = absurd cc
code_none (suc (suc k)) (x ∷ y ∷ xs) e =
    ap (λ (t : List ℕ). without_indent x ++ 10 ∷ t) (code_none (suc k) (y ∷ xs) e)

pub drop_none : (k : ℕ) (lines : List (List ℕ)) → drop k lines ≡ [] → drop (suc k) lines ≡ []
drop_none zero [] e = refl
drop_none (suc k) [] e = refl
drop_none zero (x ∷ xs) e = absurd cc
drop_none (suc k) (x ∷ xs) e = drop_none k xs e

pub drop_one : (k : ℕ) (lines : List (List ℕ)) (line : List ℕ) (more : List (List ℕ))
    → drop k lines ≡ line ∷ more → drop (suc k) lines ≡ more
drop_one zero [] line more e = absurd cc
drop_one (suc k) [] line more e = absurd cc
drop_one zero (x ∷ xs) line more e = cc
drop_one (suc k) (x ∷ xs) line more e = drop_one k xs line more e

-- ---- cases
-- a case of which no word differs
pub cases_same : (found : Found) (ps : List Point) (lines : List (List ℕ)) (cs : List Claim)
    (i : ℕ) (d : Claim) → i < length cs → differs found (get_or cs i d).case ≡ false
    → shown_cases found (map point_view ps) lines (drop (i + 1) cs)
    ≡ shown_cases found (map point_view ps) lines (drop i cs)
cases_same found ps lines cs i d h same =
    let c = get_or cs i d in
    sym (ap (shown_cases found (map point_view ps) lines) (drop_more cs i d h)
    ∙ ap (λ (b : Bool). if b
    then shown_case found c.case (behind (symbol_of c.case) lines)
    (slice_get (map point_view ps) c.point)
    ++ shown_cases found (map point_view ps) (behind (symbol_of c.case) lines) (drop (i + 1) cs)
    else shown_cases found (map point_view ps) lines (drop (i + 1) cs)) same)

-- one of which a word does
pub cases_differ : (found : Found) (ps : List Point) (lines after : List (List ℕ))
    (cs : List Claim) (i : ℕ) (d : Claim) (o : Option Point) → i < length cs
    → differs found (get_or cs i d).case ≡ true → slice_get ps (get_or cs i d).point ≡ o
    → after ≡ behind (symbol_of (get_or cs i d).case) lines
    → shown_case found (get_or cs i d).case after (option_map point_view o)
    ++ shown_cases found (map point_view ps) after (drop (i + 1) cs)
    ≡ shown_cases found (map point_view ps) lines (drop i cs)
cases_differ found ps lines after cs i d o h other at behind_it =
    let c = get_or cs i d in
    let P = map point_view ps in
    let more = drop (i + 1) cs in
    let there : slice_get P c.point ≡ option_map point_view o =
    slice_get-map point_view ps c.point ∙ ap (option_map point_view) at in
    sym (ap (shown_cases found P lines) (drop_more cs i d h)
    ∙ ap (λ (b : Bool). if b
    then shown_case found c.case (behind (symbol_of c.case) lines) (slice_get P c.point)
    ++ shown_cases found P (behind (symbol_of c.case) lines) more
    else shown_cases found P lines more) other
    ∙ ap (λ (p : Option _). shown_case found c.case (behind (symbol_of c.case) lines) p
    ++ shown_cases found P (behind (symbol_of c.case) lines) more) there
    ∙ ap (λ (t : List (List ℕ)). shown_case found c.case t (option_map point_view o)
    ++ shown_cases found P t more) (sym behind_it))

pub cases_more : (found : Found) (ps : List Point) (lines after : List (List ℕ))
    (cs : List Claim) (i : ℕ) (d : Claim) (shown : List Case) → i < length cs
    → differs found (get_or cs i d).case ≡ true
    → after ≡ behind (symbol_of (get_or cs i d).case) lines
    → (shown ++ shown_case found (get_or cs i d).case after
    (option_map point_view (slice_get ps (get_or cs i d).point)))
    ++ shown_cases found (map point_view ps) after (drop (i + 1) cs)
    ≡ shown ++ shown_cases found (map point_view ps) lines (drop i cs)
cases_more found ps lines after cs i d shown h other behind_it =
    append_assoc shown (shown_case found (get_or cs i d).case after
    (option_map point_view (slice_get ps (get_or cs i d).point)))
    (shown_cases found (map point_view ps) after (drop (i + 1) cs))
    ∙ ap (λ (t : List Case). shown ++ t) (cases_differ found ps lines after cs i d
    (slice_get ps (get_or cs i d).point) h other refl behind_it)
