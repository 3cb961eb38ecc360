-- A window of instructions that ends with the newest is seen in what a counter keeps of them.
use Rattle.std.proofs.Common.{◌≡◌, ◌≢◌, ℕ, zero, suc, ◌+◌, ◌-◌, ◌<◌, ◌≤◌, ◌⊎◌, inl, inr, Bool}
use Rattle.std.proofs.Common.{false, cond, List, [], ◌∷◌, ◌++◌, Option, Some, None, refl, sym, ap}
use Rattle.std.proofs.Common.{◌∙◌, length, take, drop, arith, append_assoc, append-nil}
use Rattle.std.proofs.Common.{length-append, rules}
use Rattle.std.proofs.Math.Seq.{drop-append-add}
use Rattle.std.proofs.lemmas.Bool.{cases_lt}
use Rattle.std.proofs.lemmas.List.{drop-append-le, drop-map, length-drop, length-map, map-append}
use Rattle.std.proofs.lemmas.List.{take-append-drop, take-append-le, length_push}
use Rattle.std.proofs.lemmas.List.Sums.{fold-append, sum_by-cons}
use Rattle.std.specs.Prelude.{count_by, fold, map}
use Rattle.rvs_index.specs.Runs.{last, suffixes, run_of, run_with}

-- ---- the last of a list
drop_zero : {X : Type 0} (xs : List X) → drop 0 xs ≡ xs
drop_zero = grind arith

pub last_all : {X : Type 0} (n : ℕ) (xs : List X) → length xs ≤ n → last n xs ≡ xs
last_all n xs h = grind (arith, drop_zero)

last_back : {X : Type 0} (n : ℕ) (xs ys : List X) → n ≤ length ys
    → last n (xs ++ ys) ≡ last n ys
last_back n xs ys h = grind (arith, length-append, drop-append-add)

last_front : {X : Type 0} (n k : ℕ) (xs ys : List X) → n ≡ k + length ys
    → last n (xs ++ ys) ≡ last k xs ++ ys
last_front n k xs ys h = grind (arith, length-append, drop-append-le)

last-map : {X Y : Type 0} (f : X → Y) (n : ℕ) (xs : List X) → last n (map f xs) ≡ map f (last n xs)
last-map f n xs = simp (length-map, drop-map)

-- the last six see what the last n of them see
last_twice : {X : Type 0} (n m : ℕ) (xs ys : List X) → n ≤ m
    → last n (last m xs ++ ys) ≡ last n (xs ++ ys)
last_twice n m xs ys h = cases (cases_lt (length xs) m)
  where
    cases : (length xs < m) ⊎ (m ≤ length xs) → last n (last m xs ++ ys) ≡ last n (xs ++ ys)
    cases (inl few) = ap (λ l. last n (l ++ ys)) (last_all m xs (omega arith))
    cases (inr many) =
        let k = length xs - m in
        let size : n ≤ length (last m xs ++ ys) =
        omega (arith, length-append (last m xs) ys, length-drop k xs) in
        sym (last_back n (take k xs) (last m xs ++ ys) size)
        ∙ ap (λ l. last n l) (sym (append_assoc (take k xs) (last m xs) ys))
        ∙ ap (λ l. last n (l ++ ys)) (take-append-drop k xs)

-- ---- windows that a test passes, which passes no list of another length
abbrev bit : Bool → ℕ
bit b = cond b 1 0

abbrev Fits : {X : Type 0} → ℕ → (List X → Bool) → Type 0
Fits {X = X} n passes = (xs : List X) → length xs ≢ n → passes xs ≡ false

abbrev windows : {X : Type 0} → ℕ → (List X → Bool) → List X → ℕ
windows n passes xs = count_by (λ s. passes (take n s)) (suffixes xs)

windows-cons : {X : Type 0} (n : ℕ) (passes : List X → Bool) (x : X) (xs : List X)
    → windows n passes (x ∷ xs) ≡ cond (passes (take n (x ∷ xs))) 1 0 + windows n passes xs
windows-cons n passes x xs = simp sum_by-cons

take_all : {X : Type 0} (n : ℕ) (xs : List X) → length xs ≤ n → take n xs ≡ xs
take_all zero [] h = refl
take_all (suc n) [] h = refl
take_all zero (x ∷ xs) h = absurd (omega arith)
take_all (suc n) (x ∷ xs) h = ap (λ l. x ∷ l) (take_all n xs (omega arith))

-- a list of one is its own front and its own end
one_window : {X : Type 0} (n : ℕ) (x : X) → take n (x ∷ []) ≡ last n (x ∷ [])
one_window = search (rules, take_all, last_all)

abbrev Pushes : {X : Type 0} → ℕ → (List X → Bool) → List X → X → Type 0
Pushes n passes xs x =
    windows n passes (xs ++ x ∷ [])
    ≡ windows n passes xs + cond (passes (last n (xs ++ x ∷ []))) 1 0

-- the window that begins here ended before, or it ends with the newest
push_more : {X : Type 0} (n : ℕ) (passes : List X → Bool) → Fits n passes
    → (y : X) (ys : List X) (x : X)
    → Pushes n passes ys x → Pushes n passes (y ∷ ys) x
push_more {X = X} n passes fits y ys x ih = cases (cases_lt (length ys + 1) n)
  where
    size : length (ys ++ x ∷ []) ≡ length ys + 1
    size = length_push ys x

    cases : ((length ys + 1) < n) ⊎ (n ≤ (length ys + 1)) → Pushes n passes (y ∷ ys) x
    cases (inr within) =
        let front : take n (y ∷ (ys ++ x ∷ [])) ≡ take n (y ∷ ys) =
        take-append-le n (y ∷ ys) (x ∷ []) (omega arith) in
        let back : last n (y ∷ (ys ++ x ∷ [])) ≡ last n (ys ++ x ∷ []) =
        last_back n (y ∷ []) (ys ++ x ∷ []) (omega (arith, size)) in
        omega (
          arith,
          ih,
          windows-cons n passes y (ys ++ x ∷ []),
          windows-cons n passes y ys,
          ap (λ l. bit (passes l)) front,
          ap (λ l. bit (passes l)) back,
        )
    cases (inl over) =
        let whole : List X = y ∷ (ys ++ x ∷ []) in
        let longer : length (y ∷ ys) ≢ n = omega arith in
        let shorter : length (ys ++ x ∷ []) ≢ n = omega (arith, size) in
        let front : take n whole ≡ whole = take_all n whole (omega (arith, size)) in
        let back : last n whole ≡ whole = last_all n whole (omega (arith, size)) in
        let none : passes (take n (y ∷ ys)) ≡ false =
        ap passes (take_all n (y ∷ ys) (omega arith)) ∙ fits (y ∷ ys) longer in
        let later : passes (last n (ys ++ x ∷ [])) ≡ false =
        ap passes (last_all n (ys ++ x ∷ []) (omega (arith, size))) ∙ fits (ys ++ x ∷ []) shorter in
        omega (
          arith,
          ih,
          windows-cons n passes y (ys ++ x ∷ []),
          windows-cons n passes y ys,
          ap (λ l. bit (passes l)) (front ∙ sym back),
          ap bit none,
          ap bit later,
        )

-- one instruction more: the windows that were there, and the one that ends with it
pub windows_push : {X : Type 0} (n : ℕ) (passes : List X → Bool)
    → ((xs : List X) → length xs ≢ n → passes xs ≡ false) → (xs : List X) (x : X)
    → count_by (λ s. passes (take n s)) (suffixes (xs ++ x ∷ []))
    ≡ count_by (λ s. passes (take n s)) (suffixes xs) + cond (passes (last n (xs ++ x ∷ []))) 1 0
windows_push n passes fits [] x = simp (windows-cons, one_window)
windows_push n passes fits (y ∷ ys) x = grind (arith, push_more, (windows_push n passes fits ys x))

-- ---- what a counter keeps
abbrev Decoded : {X : Type 0} → (List (Option X) → Bool) → Type 0
Decoded {X = X} passes = (xs ys : List (Option X)) → passes (xs ++ None ∷ ys) ≡ false

-- a window that ends some way on sees the run as it sees all that was there
abbrev Sees : {X : Type 0} → ℕ → (List (Option X) → Bool) → List (Option X) → List X → Type 0
Sees {X = X} n passes front run =
    (ys : List (Option X))
    → passes (last n (front ++ ys)) ≡ passes (last n (map (λ x. Some x) run ++ ys))

sees_none : {X : Type 0} (n : ℕ) (passes : List (Option X) → Bool) → Fits n passes
    → Decoded passes → (front : List (Option X)) → Sees n passes (front ++ None ∷ []) []
sees_none {X = X} n passes fits decoded front ys =
    ap (λ l. passes (last n l)) (append_assoc front (None ∷ []) ys) ∙ cases (cases_lt (length ys) n)
  where
    cases : (length ys < n) ⊎ (n ≤ length ys)
        → passes (last n (front ++ None ∷ ys)) ≡ passes (last n ys)
    cases (inr within) =
        let back : last n (None ∷ ys) ≡ last n ys = last_back n (None ∷ []) ys within in
        ap passes (last_back n front (None ∷ ys) (omega arith) ∙ back)
    cases (inl over) =
        let k = n - length {A = Option X} (None ∷ ys) in
        let other : length ys ≢ n = omega arith in
        ap passes (last_front n k front (None ∷ ys) (omega arith))
        ∙ decoded (last k front) ys
        ∙ sym (ap passes (last_all n ys (omega arith)) ∙ fits ys other)

sees_some : {X : Type 0} (n : ℕ) (passes : List (Option X) → Bool) → n ≤ 6
    → (front : List (Option X)) (run : List X) (x : X) → Sees n passes front run
    → Sees n passes (front ++ Some x ∷ []) (last 6 (run ++ x ∷ []))
sees_some {X = X} n passes few front run x sees ys =
    let some : X → Option X = λ x. Some x in
    ap (λ l. passes (last n l)) (append_assoc front (Some x ∷ []) ys)
    ∙ sees (Some x ∷ ys)
    ∙ ap (λ l. passes (last n l)) (sym (append_assoc (map some run) (Some x ∷ []) ys))
    ∙ ap (λ l. passes (last n (l ++ ys))) (sym (map-append some run (x ∷ [])))
    ∙ sym (ap passes (last_twice n 6 (map some (run ++ x ∷ [])) ys few))
    ∙ ap (λ l. passes (last n (l ++ ys))) (last-map some 6 (run ++ x ∷ []))

sees_more : {X : Type 0} (n : ℕ) (passes : List (Option X) → Bool) → n ≤ 6 → Fits n passes
    → Decoded passes → (front : List (Option X)) (run : List X) (x : Option X)
    → Sees n passes front run → Sees n passes (front ++ x ∷ []) (run_with run x)
sees_more n passes few fits decoded front run None sees = search (rules, sees_none)
sees_more n passes few fits decoded front run (Some x) sees = search (rules, sees_some)

sees_all : {X : Type 0} (n : ℕ) (passes : List (Option X) → Bool) → n ≤ 6 → Fits n passes
    → Decoded passes → (front : List (Option X)) (run : List X) (xs : List (Option X))
    → Sees n passes front run → Sees n passes (front ++ xs) (fold run_with run xs)
sees_all n passes few fits decoded front run [] sees ys = grind (arith, append-nil)
sees_all n passes few fits decoded front run (x ∷ xs) sees ys =
    ap (λ l. passes (last n (l ++ ys))) (sym (append_assoc front (x ∷ []) xs))
    ∙ sees_all n passes few fits decoded (front ++ x ∷ []) (run_with run x) xs
    (sees_more n passes few fits decoded front run x sees) ys

-- a window that ends with the newest is seen in the run
pub run_sees : {X : Type 0} (n : ℕ) (passes : List (Option X) → Bool) → n ≤ 6
    → ((xs : List (Option X)) → length xs ≢ n → passes xs ≡ false)
    → ((xs ys : List (Option X)) → passes (xs ++ None ∷ ys) ≡ false) → (xs : List (Option X))
    → passes (last n xs) ≡ passes (last n (map (λ x. Some x) (run_of xs)))
run_sees n passes few fits decoded xs =
    ap (λ l. passes (last n l)) (sym (append-nil xs))
    ∙ sees_all n passes few fits decoded [] [] xs (λ ys. refl) []
    ∙ ap (λ l. passes (last n l)) (append-nil (map (λ x. Some x) (run_of xs)))

-- a run goes on from what was kept
pub run_push : {X : Type 0} (xs : List (Option X)) (x : Option X)
    → run_with (run_of xs) x ≡ run_of (xs ++ x ∷ [])
run_push xs x = sym (fold-append run_with [] xs (x ∷ []))
