-- Something that goes on line by line, over bytes that come in pieces.
use Rattle.std.proofs.Common.{◌≡◌, ℕ, ◌+◌, ◌≤◌, Bool, true, false, List, [], ◌∷◌, ◌++◌}
use Rattle.std.proofs.Common.{Option, Some, None, refl, sym, ap, ◌∙◌, length, take, drop, arith}
use Rattle.std.proofs.Common.{append_assoc, append-nil, length-append, rules}
use Rattle.std.proofs.Math.Seq.{take-length}
use Rattle.std.proofs.lemmas.List.{map-append}
use Rattle.std.specs.Prelude.{◌==◌, map}
use Rattle.rvs_log.specs.Grammar.{Reading, Nothing, reading_of}
use Rattle.rvs_log.specs.Cutting.{held_after, last_of, lines_after, lines_held}
use Rattle.rvs_log.specs.Lines.{whole_lines, tail_of, lines_of, line_says, held}
use Rattle.rvs_log.specs.Lines.{held_more, held_says}
use Rattle.rvs_log.specs.Taken.{IsTold, Taken, ended, ended_by, state_for, taken, waiting_len}
use Rattle.rvs_log.specs.Taken.{with_end}
use Rattle.rvs_log.specs.Streams.{told_all}
use Rattle.rvs_log.proofs.Pieces.{cut_at, ended_if, held_more_held, held_reads, lines_shrink}
use Rattle.rvs_log.proofs.Pieces.{no_line, tail_if, tail_snoc, whole_snoc}

-- a line that says nothing changes nothing
abbrev pub IsQuiet : {T : Type 0} → (T → Reading → T) → Type 0
IsQuiet {T = T} step = (t : T) → step t Nothing ≡ t

abbrev with_lines : {T : Type 0} → (T → Reading → T) → T → List (List ℕ) → T
with_lines step t [] = t
with_lines step t (l ∷ ls) = with_lines step (step t (reading_of l)) ls

lines_held_more : {T : Type 0} (step : T → Reading → T) → IsQuiet step
    → (t : T) (w : Option (List ℕ)) (ls : List (List ℕ))
    → with_lines step t (lines_held w ++ ls) ≡ with_lines step (step t (held_says w)) ls
lines_held_more step h t w = grind arith

-- bytes are taken line by line
all_lines : {T : Type 0} (step : T → Reading → T) → IsQuiet step
    → (t : T) (w : Option (List ℕ)) (p : List ℕ)
    → told_all step t w p ≡ with_lines step t (lines_after w p)
all_lines step quiet t w [] = refl
all_lines {T = T} step quiet t w (b ∷ bs) =
    turn (b == 10)
    (all_lines step quiet (step t (held_says w)) (Some []) bs
    ∙ sym (lines_held_more step quiet t w (lines_after (Some []) bs)))
    (all_lines step quiet t (held_more w (b ∷ [])) bs)
  where
    turn : (c : Bool)
        → told_all step (step t (held_says w)) (Some []) bs
        ≡ with_lines step t (lines_held w ++ lines_after (Some []) bs)
        → told_all step t (held_more w (b ∷ [])) bs
        ≡ with_lines step t (lines_after (held_more w (b ∷ [])) bs)
        → (elim c as (λ _. T) [
          | true ↦ told_all step (step t (held_says w)) (Some []) bs
          | false ↦ told_all step t (held_more w (b ∷ [])) bs
        ])
        ≡ with_lines step t (elim c as (λ _. List (List ℕ)) [
          | true ↦ lines_held w ++ lines_after (Some []) bs
          | false ↦ lines_after (held_more w (b ∷ [])) bs
        ])
    turn true p q = p
    turn false p q = q

all_join : {T : Type 0} (step : T → Reading → T) (t : T) (w : Option (List ℕ)) (a b : List ℕ)
    → told_all step t w (a ++ b) ≡ told_all step (told_all step t w a) (held_after w a) b
all_join step t w [] b = refl
all_join {T = T} step t w (x ∷ a) b =
    turn (x == 10) (all_join step (step t (held_says w)) (Some []) a b)
    (all_join step t (held_more w (x ∷ [])) a b)
  where
    turn : (c : Bool)
        → told_all step (step t (held_says w)) (Some []) (a ++ b)
        ≡ told_all step (told_all step (step t (held_says w)) (Some []) a) (held_after (Some []) a)
        b
        → told_all step t (held_more w (x ∷ [])) (a ++ b)
        ≡ told_all step (told_all step t (held_more w (x ∷ [])) a)
        (held_after (held_more w (x ∷ [])) a) b
        → (elim c as (λ _. T) [
          | true ↦ told_all step (step t (held_says w)) (Some []) (a ++ b)
          | false ↦ told_all step t (held_more w (x ∷ [])) (a ++ b)
        ])
        ≡ told_all step (elim c as (λ _. T) [
          | true ↦ told_all step (step t (held_says w)) (Some []) a
          | false ↦ told_all step t (held_more w (x ∷ [])) a
        ]) (elim c as (λ _. Option (List ℕ)) [
          | true ↦ held_after (Some []) a
          | false ↦ held_after (held_more w (x ∷ [])) a
        ]) b
    turn true p q = p
    turn false p q = q

held_join : (w : Option (List ℕ)) (a b : List ℕ)
    → held_after w (a ++ b) ≡ held_after (held_after w a) b
held_join w [] b = refl
held_join w (x ∷ a) b =
    grind (arith, (held_join (Some []) a b), (held_join (held_more w (x ∷ [])) a b))

-- ---- one line more
pub told_line : {T : Type 0} (step : T → Reading → T) → IsQuiet step
    → (t : T) (w w' : Option (List ℕ)) (rest line : List ℕ) (used : ℕ)
    → lines_after w (take used rest) ≡ line ∷ [] → w' ≡ held_after w (take used rest)
    → told_all step t w rest ≡ told_all step (step t (reading_of line)) w' (drop used rest)
told_line step quiet t w w' rest line used l h =
    ap (λ p. told_all step t w p) (sym (cut_at used rest))
    ∙ all_join step t w (take used rest) (drop used rest)
    ∙ ap (λ t. told_all step t (held_after w (take used rest)) (drop used rest))
    (all_lines step quiet t w (take used rest))
    ∙ ap (λ ls. told_all step (with_lines step t ls) (held_after w (take used rest))
    (drop used rest)) l
    ∙ ap (λ v. told_all step (step t (reading_of line)) v (drop used rest)) (sym h)

pub held_line : (w w' : Option (List ℕ)) (rest : List ℕ) (used : ℕ)
    → w' ≡ held_after w (take used rest) → held_after w rest ≡ held_after w' (drop used rest)
held_line w w' rest used h =
    ap (λ p. held_after w p) (sym (cut_at used rest))
    ∙ held_join w (take used rest) (drop used rest)
    ∙ ap (λ v. held_after v (drop used rest)) (sym h)

-- ---- no line more
pub told_rest : {T : Type 0} (step : T → Reading → T) → IsQuiet step
    → (t : T) (w : Option (List ℕ)) (rest : List ℕ) (used : ℕ)
    → used ≡ length rest → lines_after w (take used rest) ≡ []
    → told_all step t w rest ≡ t
told_rest step quiet t w rest used u l = grind (arith, take-length, all_lines)

pub held_rest : (w w' : Option (List ℕ)) (rest : List ℕ) (used : ℕ)
    → used ≡ length rest → w' ≡ held_after w (take used rest) → held_after w rest ≡ w'
held_rest w w' rest used u h = grind (arith, take-length)

-- ---- what some lines lead to
abbrev pub told_of : {T : Type 0} → (List Reading → T) → List ℕ → T
told_of told bytes = told (map line_says (whole_lines bytes))

end_told : {T : Type 0} (step : T → Reading → T) (told : List Reading → T) → IsTold step told
    → (lines : List (List ℕ)) (tail : List ℕ)
    → step (told (map line_says lines)) (held_says (held tail))
    ≡ told (map line_says (lines ++ tail ∷ []))
end_told step told is lines tail = grind (arith, held_reads, map-append)

one_held : (b : List ℕ) (c : ℕ)
    → held_after (held (tail_of b)) (c ∷ []) ≡ held (tail_of (b ++ c ∷ []))
one_held b c = turn (c == 10) ∙ ap held (sym (tail_snoc [] b c))
  where
    turn : (t : Bool)
        → (elim t as (λ _. Option (List ℕ)) [
          | true ↦ Some []
          | false ↦ held_more (held (tail_of b)) (c ∷ [])
        ])
        ≡ held (tail_if t (tail_of b) c)
    turn true = refl
    turn false = held_more_held (tail_of b) (c ∷ [])

one_told : {T : Type 0} (step : T → Reading → T) (told : List Reading → T) → IsTold step told
    → (b : List ℕ) (c : ℕ)
    → told_all step (told_of told b) (held (tail_of b)) (c ∷ []) ≡ told_of told (b ++ c ∷ [])
one_told {T = T} step told is b c =
    turn (c == 10) ∙ ap (λ ls. told (map line_says ls)) (sym (whole_snoc [] b c))
  where
    turn : (t : Bool)
        → (elim t as (λ _. T) [
          | true ↦ step (told_of told b) (held_says (held (tail_of b)))
          | false ↦ told_of told b
        ])
        ≡ told (map line_says (whole_lines b ++ ended_if t (tail_of b)))
    turn true = end_told step told is (whole_lines b) (tail_of b)
    turn false = ap (λ ls. told (map line_says ls)) (sym (append-nil (whole_lines b)))

pub held_all : (b p : List ℕ) → held_after (held (tail_of b)) p ≡ held (tail_of (b ++ p))
held_all b [] = ap (λ l. held (tail_of l)) (sym (append-nil b))
held_all b (c ∷ cs) =
    held_join (held (tail_of b)) (c ∷ []) cs
    ∙ ap (λ w. held_after w cs) (one_held b c)
    ∙ held_all (b ++ c ∷ []) cs
    ∙ ap (λ l. held (tail_of l)) (append_assoc b (c ∷ []) cs)

-- more bytes, whatever came before
pub told_more : {T : Type 0} (step : T → Reading → T) (told : List Reading → T) → IsTold step told
    → (b p : List ℕ)
    → told_all step (told_of told b) (held (tail_of b)) p ≡ told_of told (b ++ p)
told_more step told is b [] = ap (λ l. told_of told l) (sym (append-nil b))
told_more step told is b (c ∷ cs) =
    all_join step (told_of told b) (held (tail_of b)) (c ∷ []) cs
    ∙ ap (λ t. told_all step t (held_after (held (tail_of b)) (c ∷ [])) cs)
    (one_told step told is b c)
    ∙ ap (λ w. told_all step (told_of told (b ++ c ∷ [])) w cs) (one_held b c)
    ∙ told_more step told is (b ++ c ∷ []) cs
    ∙ ap (λ l. told_of told l) (append_assoc b (c ∷ []) cs)

-- ---- the end
pub last_none : {T : Type 0} (step : T → Reading → T) → IsQuiet step
    → (t : T) (w : Option (List ℕ)) → last_of w ≡ None → t ≡ step t (held_says w)
last_none step h t w = search (rules, no_line)

pub last_some : {T : Type 0} (step : T → Reading → T)
    → (t : T) (w : Option (List ℕ)) (line : List ℕ) → last_of w ≡ Some line
    → step t (reading_of line) ≡ step t (held_says w)
last_some step t w line = grind arith

-- what ends the bytes ends what they lead to
pub end_held : (b : List ℕ) → Some [] ≡ held (tail_of (ended b))
end_held b = grind (arith, tail_snoc)

pub end_all : {T : Type 0} (step : T → Reading → T) → IsQuiet step
    → (told : List Reading → T) → IsTold step told
    → (b : List ℕ)
    → step (told_of told b) (held_says (held (tail_of b))) ≡ told_of told (ended b)
end_all step quiet told is b = turn (tail_of b) refl
  where
    turn : (t : List ℕ) → tail_of b ≡ t
        → step (told_of told b) (held_says (held (tail_of b))) ≡ told_of told (ended_by t b)
    turn [] e =
        ap (λ l. step (told_of told b) (held_says (held l))) e
        ∙ ap (λ r. step (told_of told b) r) no_line
        ∙ quiet (told_of told b)
    turn (x ∷ xs) e =
        end_told step told is (whole_lines b) (tail_of b)
        ∙ ap (λ ls. told (map line_says ls)) (sym (whole_snoc [] b 10))

-- where nothing waits the end changes nothing
pub end_again : {T : Type 0} (step : T → Reading → T) → IsQuiet step
    → (t : T) (w : Option (List ℕ)) → w ≡ Some [] → step t (held_says w) ≡ t
end_again step quiet t w h = grind (arith, no_line)

pub whole_ended : (bytes : List ℕ) → whole_lines (ended bytes) ≡ lines_of bytes
whole_ended bytes = grind (arith, append-nil, whole_snoc)

-- ---- bounds
pub line_low : (n n' : ℕ) (w w' : Option (List ℕ)) (rest rest' line : List ℕ) (used most : ℕ)
    → lines_after w (take used rest) ≡ line ∷ [] → w' ≡ held_after w (take used rest)
    → n' ≤ n + 1 → rest' ≡ drop used rest
    → n + waiting_len w + length rest ≤ most
    → n' + waiting_len w' + length rest' ≤ most
line_low n n' w w' rest rest' line used most l h few r low =
    omega (
      arith,
      low,
      few,
      ap waiting_len h,
      ap (λ ls. length ls) l,
      lines_shrink w (take used rest),
      ap (λ p. length p) r,
      ap (λ p. length p) (cut_at used rest),
      length-append (take used rest) (drop used rest),
    )

-- ---- states
pub fed_of : {T : Type 0} (told : List Reading → T) (bytes : List ℕ) (n : ℕ)
    → (state_for told bytes n).fed ≡ n
unfolding state_for
fed_of told bytes n = refl

pub begun_is : {T : Type 0} (told : List Reading → T)
    → taken (told []) (Some []) 0 ≡ state_for told [] 0
unfolding state_for
begun_is told = refl

-- no line is open in a log that hasn't begun
pub none_waits : {T : Type 0} (told : List Reading → T) → (state_for told [] 0).waiting ≡ Some []
unfolding state_for
none_waits told = refl

-- what the lines of a whole log lead to
pub told_whole : {T : Type 0} (told : List Reading → T) (log : List ℕ) (n : ℕ)
    → (state_for told (ended log) n).told ≡ told (map line_says (lines_of log))
unfolding state_for
told_whole told log n = ap (λ ls. told (map line_says ls)) (whole_ended log)

-- after more bytes
pub state_fed : {T : Type 0} (step : T → Reading → T) (told : List Reading → T) → IsTold step told
    → (b p : List ℕ) (n : ℕ) (s : Taken T) (t : T) (w : Option (List ℕ))
    → s ≡ state_for told b n → told_all step s.told s.waiting p ≡ t → held_after s.waiting p ≡ w
    → taken t w (s.fed + length p) ≡ state_for told (b ++ p) (n + length p)
unfolding state_for
state_fed {T} step told is b p n s t w e line rest =
    let all : t ≡ told_of told (b ++ p) =
    sym line ∙ ap (λ (s : Taken T). told_all step s.told s.waiting p) e
    ∙ told_more step told is b p in
    let wait : w ≡ held (tail_of (b ++ p)) =
    sym rest ∙ ap (λ (s : Taken T). held_after s.waiting p) e ∙ held_all b p in
    let fed : s.fed ≡ n = ap (λ (s : Taken T). s.fed) e in
    λ i. taken (all i) (wait i) (fed i + length p)

-- after the end
pub finished : {T : Type 0} (step : T → Reading → T) → IsQuiet step
    → (told : List Reading → T) → IsTold step told
    → (b : List ℕ) (n : ℕ) (s : Taken T) → s ≡ state_for told b n
    → with_end step s ≡ state_for told (ended b) n
unfolding state_for
finished step quiet told is b n s e =
    ap (with_end step) e
    ∙ λ i. taken (end_all step quiet told is b i) (end_held b i) n

-- where nothing waits the end changes nothing
pub ended_again : {T : Type 0} (step : T → Reading → T) → IsQuiet step
    → (s : Taken T) → s.waiting ≡ Some [] → with_end step s ≡ s
ended_again step quiet s h =
    λ i. taken (end_again step quiet s.told s.waiting h i) (sym h i) s.fed

-- a line adds at most one to this count
abbrev pub AddsOne : {T : Type 0} → (T → Reading → T) → (T → ℕ) → Type 0
AddsOne {T = T} step count = (t : T) (r : Reading) → count (step t r) ≤ count t + 1

-- an instruction has a byte of its own
pub last_adds : {T : Type 0} (step : T → Reading → T) (count : T → ℕ) → IsQuiet step
    → AddsOne step count
    → (t : T) (w : Option (List ℕ)) → count (step t (held_says w)) ≤ count t + waiting_len w
last_adds step count quiet adds t None = omega (arith, ap count (quiet t))
last_adds step count quiet adds t (Some []) = grind (arith, no_line)
last_adds step count quiet adds t (Some (b ∷ bs)) = grind arith
