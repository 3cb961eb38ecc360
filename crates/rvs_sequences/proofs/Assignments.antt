-- The values that the search goes over, and how many there are.
use Rattle.std.proofs.Common.{◌≡◌, ℕ, ◌+◌, ◌*◌, ◌≤◌, Bool, List, map, length, Option}
use Rattle.std.proofs.Common.{sym, ap, ◌∙◌, subst, arith}
use Rattle.std.specs.Prelude.{flat_map, IfOk}
use Rattle.std.specs.List.{list_any}
use Rattle.std.proofs.lemmas.List.{length-map}
use Rattle.std.proofs.lemmas.List.Concat.{length-flat_map}
use Rattle.rvs_insn.specs.Isa.{Isa}
use Rattle.rvs_cross.specs.declared.cross.Variable.{Variable}
use Rattle.rvs_cross.specs.declared.cross.Variable.TheVariants.{First, Second, Third}
use Rattle.rvs_cross.specs.declared.cross.Place as code
use Rattle.rvs_cross.specs.Cross.{Place}
use Rattle.rvs_cross.specs.CrossView.{place_view}
use Rattle.rvs_cross.specs.Windows.{says_of, is_used, choices_for, with_second}
use Rattle.rvs_cross.specs.Windows.{values_among}
use Rattle.rvs_sequences.specs.Sequences.{middle_registers, assignments, bound, count_of}
use Rattle.rvs_sequences.specs.Sequences.{first_solutions, first_sequence}
use Rattle.rvs_cross.proofs.Uses.{used_map}
use Rattle.rvs_sequences.proofs.Choices.{sum_same}
use Rattle.rvs_sequences.proofs.Solved.{SolveResult}

-- what a variable may stand for, as the code asks for it
pub choices_are : (x : Variable) (ps : List code.Place) (used : Bool) (choices : List (Option ℕ))
    → used ≡ list_any (λ p. says_of x (place_view p)) ps
    → choices ≡ choices_for middle_registers used
    → choices ≡ choices_for middle_registers (is_used (map place_view ps) x)
choices_are x ps used choices u c = c ∙ ap (choices_for middle_registers) (u ∙ used_map x ps)

pub assignments_are : (ps : List Place) (a b c : List (Option ℕ))
    → a ≡ choices_for middle_registers (is_used ps First)
    → b ≡ choices_for middle_registers (is_used ps Second)
    → c ≡ choices_for middle_registers (is_used ps Third)
    → flat_map (with_second b c) a ≡ assignments ps
unfolding values_among
assignments_are ps a b c one two three =
    ap (flat_map (with_second b c)) one
    ∙ ap (λ l. flat_map (with_second l c) (choices_for middle_registers (is_used ps First))) two
    ∙ ap (λ l. flat_map (with_second (choices_for middle_registers (is_used ps Second)) l)
    (choices_for middle_registers (is_used ps First))) three

pub sequence_is : (s : Isa) (ps : List Place) (a b c : List (Option ℕ)) (r : SolveResult)
    → flat_map (with_second b c) a ≡ assignments ps
    → IfOk r (λ found. found ≡ first_solutions s ps (flat_map (with_second b c) a))
    → IfOk r (λ found. found ≡ first_sequence s ps)
unfolding first_sequence
sequence_is s ps a b c r e h =
    subst (λ vs. IfOk r (λ found. found ≡ first_solutions s ps vs)) e h

count_values : (a b c : List (Option ℕ))
    → length (flat_map (with_second b c) a) ≡ length a * (length b * length c)
count_values a b c = grind (arith, length-flat_map, sum_same, length-map)

regrouped : (a b c n : ℕ) → a * (b * (c * n)) ≡ a * (b * c) * n
regrouped a b c n = omega arith

pub within_bound : (s : Isa) (ps : List Place) (a b c : List (Option ℕ)) (new old : ℕ)
    → flat_map (with_second b c) a ≡ assignments ps
    → new ≤ old + length a * (length b * (length c * count_of s ps)) → new ≤ old + bound s ps
unfolding bound
within_bound s ps a b c new old e h =
    subst (λ n. new ≤ old + n)
    (regrouped (length a) (length b) (length c) (count_of s ps)
    ∙ ap (λ n. n * count_of s ps) (sym (count_values a b c) ∙ ap length e)) h
