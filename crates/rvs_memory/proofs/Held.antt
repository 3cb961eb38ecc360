-- Looking up a file in memory, and changing it.
use Rattle.std.proofs.Common.{◌≡◌, ℕ, ◌<◌, ◌≤◌, suc, zero, Bool, true, false, cond, List, [], ◌∷◌}
use Rattle.std.proofs.Common.{◌++◌, length, set, get_or, Option, Some, None, refl}
use Rattle.std.proofs.Common.{arith, nat_lt, bytes_eq, if◌then◌else◌, rules}
use Rattle.std.specs.List.{position, position_or_len}
use Rattle.std.proofs.lemmas.List.Sums.{fails_before_first}
use Rattle.std.proofs.lemmas.List.Quantifiers.{position-Some}
use Rattle.std.proofs.lemmas.Bool.Decides.{nat_tests, same_from_decides}
use Rattle.std.proofs.lemmas.Slice.Eq.{bytes_eq-Decides}
use Rattle.std.specs.Prelude.{not}
use Rattle.rvs_base.specs.Host.{with_file, with_left}
use Rattle.rvs_memory.specs.Memory.{held, without}

abbrev pub File : Type 0
File = List ℕ × List ℕ

abbrev pub is_named : List ℕ → File → Bool
is_named name file = bytes_eq file.0 name

none_below : (i n : ℕ) → cond (nat_lt i n) (Some i) None ≡ None → n ≤ i
none_below i n none = grind (arith, nat_tests)

no_both : {b : Bool} → b ≡ false → b ≡ true → ⊥
no_both p q = cc

-- where no file has the name
missing : (files : List File) (name : List ℕ) (d : File)
    → ((k : ℕ) → k < length files → is_named name (get_or files k d) ≡ false)
    → held files name ≡ None
missing [] name d none = refl
missing (file ∷ files) name d none =
    let first : is_named name file ≡ false = none 0 (omega arith) in
    rw first (missing files name d (λ k below. none (suc k) (omega (arith, below))))

pub held-None : (files : List File) (name : List ℕ) → position (is_named name) files ≡ None
    → held files name ≡ None
held-None files name none =
    let past = none_below (position_or_len (is_named name) files) (length files) none in
    missing files name ([], []) (λ k below. fails_before_first (is_named name) files k ([], [])
    (omega (arith, below, past)))

-- where the file at place i is the first that has the name
held_at : (files : List File) (name : List ℕ) (i : ℕ) (d : File) → i < length files
    → is_named name (get_or files i d) ≡ true
    → ((k : ℕ) → k < i → is_named name (get_or files k d) ≡ false)
    → held files name ≡ Some (get_or files i d).1
held_at [] name i d within here before = absurd (omega (arith, within))
held_at (file ∷ files) name zero d within here before = rw here refl
held_at (file ∷ files) name (suc i) d within here before =
    let first : is_named name file ≡ false = before 0 (omega arith) in
    rw first (held_at files name i d (omega (arith, within)) here
    (λ k below. before (suc k) (omega (arith, below))))

pub held-Some : (files : List File) (name : List ℕ) (i : ℕ)
    → position (is_named name) files ≡ Some i → held files name ≡ Some (get_or files i ([], [])).1
held-Some files name i found = grind (arith, position-Some, held_at)

bytes_eq-turned : (xs ys : List ℕ) → bytes_eq xs ys ≡ bytes_eq ys xs
bytes_eq-turned xs ys = grind (arith, same_from_decides, bytes_eq, bytes_eq-Decides)

same_choice : (t u v : Bool) (a b c : Option (List ℕ)) → u ≡ t → v ≡ t
    → (if u then a else c) ≡ (if t then a else if v then b else c)
same_choice t u v a b c p q = grind arith

-- a file of the name is replaced
replaced : (files : List File) (file : File) (name bytes other : List ℕ) → is_named name file ≡ true
    → held ((name, bytes) ∷ files) other ≡ with_file name bytes (held (file ∷ files)) other
replaced files file name bytes other here =
    grind (arith, bytes_eq-Decides, bytes_eq-turned, same_choice, bytes_eq)

later_choice : (t v : Bool) (a b c s : Option (List ℕ)) → (v ≡ true → t ≡ true → ⊥)
    → s ≡ (if t then a else c) → (if v then b else s) ≡ (if t then a else if v then b else c)
later_choice t v a b c s apart p = grind arith

-- a file of another name stands before the change
behind : (files changed : List File) (file : File) (name bytes other : List ℕ)
    → is_named name file ≡ false → held changed other ≡ with_file name bytes (held files) other
    → held (file ∷ changed) other ≡ with_file name bytes (held (file ∷ files)) other
behind files changed file name bytes other differs so_far =
    grind (arith, bytes_eq, no_both, bytes_eq-Decides, later_choice)

-- the file at place i, the first that has the name, is replaced
set_at : (files : List File) (name bytes : List ℕ) (i : ℕ) (d : File) → i < length files
    → is_named name (get_or files i d) ≡ true
    → ((k : ℕ) → k < i → is_named name (get_or files k d) ≡ false)
    → (other : List ℕ)
    → held (set files i (name, bytes)) other ≡ with_file name bytes (held files) other
set_at [] name bytes i d within here before other = absurd (omega (arith, within))
set_at (file ∷ files) name bytes zero d within here before other = grind (arith, replaced)
set_at (file ∷ files) name bytes (suc i) d within here before other =
    behind files (set files i (name, bytes)) file name bytes other (before 0 (omega arith)) (set_at
    files name bytes i d (omega (arith, within)) here
    (λ k below. before (suc k) (omega (arith, below))) other)

pub held-set : (files : List File) (name bytes : List ℕ) (i : ℕ)
    → position (is_named name) files ≡ Some i → (other : List ℕ)
    → held (set files i (name, bytes)) other ≡ with_file name bytes (held files) other
held-set files name bytes i found other =
    let (within, here, before) = position-Some (is_named name) files i ([], []) found in
    set_at files name bytes i ([], []) within here before other

-- a file is added, of a name that no other has
push_at : (files : List File) (name bytes : List ℕ) (d : File)
    → ((k : ℕ) → k < length files → is_named name (get_or files k d) ≡ false)
    → (other : List ℕ)
    → held (files ++ (name, bytes) ∷ []) other ≡ with_file name bytes (held files) other
push_at [] name bytes d none other = rw (bytes_eq-turned name other) refl
push_at (file ∷ files) name bytes d none other =
    behind files (files ++ (name, bytes) ∷ []) file name bytes other (none 0 (omega arith))
    (push_at files name bytes d (λ k below. none (suc k) (omega (arith, below))) other)

pub held-push : (files : List File) (name bytes : List ℕ) → position (is_named name) files ≡ None
    → (other : List ℕ)
    → held (files ++ (name, bytes) ∷ []) other ≡ with_file name bytes (held files) other
held-push files name bytes none other =
    let past = none_below (position_or_len (is_named name) files) (length files) none in
    push_at files name bytes ([], []) (λ k below. fails_before_first (is_named name) files k
    ([], []) (omega (arith, below, past))) other

abbrev nothing : Option (List ℕ)
nothing = None

none_left : (t : Bool) → nothing ≡ (if t then nothing else nothing)
none_left t = grind arith

-- the files of the name are taken away
without_head : (file : File) (files : List File) (name other : List ℕ) (b : Bool)
    → is_named name file ≡ b
    → held (without name files) other ≡ with_left name None (held files) other
    → held (cond (not b) (file ∷ without name files) (without name files)) other
    ≡ with_left name None (held (file ∷ files)) other
without_head file files name other b here so_far = search rules

pub held-without : (files : List File) (name other : List ℕ)
    → held (without name files) other ≡ with_left name None (held files) other
held-without [] name other = none_left (bytes_eq other name)
held-without (file ∷ files) name other =
    without_head file files name other (is_named name file) refl (held-without files name other)
