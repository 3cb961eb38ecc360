-- A plan: what a piece of work is to do, step by step, and its end.
use Rattle.std.specs.Prelude.{◌≡◌, ℕ, ℤ, List, [], ◌∷◌, Option, Result, Ok, Err}
use Rattle.rvs_plan.specs.Effect.{Answer, Deed, Write, Out, Effect, Read, Device, Did}
use Rattle.rvs_plan.specs.declared.stop.Stop.{Stop}

pub data Plan (A : Type 0) : Type 0 where
  -- nothing is left to do
  Ends : Result A Stop → Plan A
  -- a deed, and then the rest
  Does : Deed → Plan A → Plan A
  -- the named file is read, at most this many of its bytes, and then comes what follows from what
  -- is found
  Asks : List ℕ → ℕ → (Option (List ℕ) → Plan A) → Plan A
  -- a device is run, with these words, test file and signature file, and then comes what follows
  -- from its answer
  Runs : List (List ℕ) → List ℕ → List ℕ → (Answer → Plan A) → Plan A

-- no effect, and this value
abbrev pub gives : {A : Type 0} → A → Plan A
gives a = Ends (Ok a)

-- no effect, and this end
abbrev pub ends : {A : Type 0} → Stop → Plan A
ends stop = Ends (Err stop)

-- what follows where a piece has ended
abbrev pub followed : {A B : Type 0} → Result A Stop → (A → Plan B) → Plan B
followed (Ok a) next = next a
followed (Err stop) next = Ends (Err stop)

infixl 10 ◌>>=◌
-- the first piece, and where it gives a value the next
abbrev pub ◌>>=◌ : {A B : Type 0} → Plan A → (A → Plan B) → Plan B
Ends end >>= next = followed end next
Does deed plan >>= next = Does deed (plan >>= next)
Asks name bound rest >>= next = Asks name bound (λ found. rest found >>= next)
Runs words test signature rest >>= next = Runs words test signature (λ answer. rest answer >>= next)

-- puts these bytes to the output
abbrev pub prints : List ℕ → Plan (Unit {0})
prints bytes = Does (Out bytes) (Ends (Ok tt))

-- makes the named file hold these bytes
abbrev pub writes : List ℕ → List ℕ → Plan (Unit {0})
writes name bytes = Does (Write name bytes) (Ends (Ok tt))

-- runs a device, and gives its exit status
abbrev pub device : List (List ℕ) → List ℕ → List ℕ → Plan ℤ
device words test signature = Runs words test signature (λ answer. gives answer.status)

-- the plan has these effects first, and then the rest
abbrev pub Goes : {A : Type 0} → Plan A → List Effect → Plan A → Type 0
Goes plan [] rest = plan ≡ rest
Goes (Ends end) (effect ∷ effects) rest = ⊥
Goes (Does deed plan) (Did d ∷ effects) rest = (deed ≡ d) × Goes plan effects rest
Goes (Does deed plan) (Read name found ∷ effects) rest = ⊥
Goes (Does deed plan) (Device words test signature answer ∷ effects) rest = ⊥
Goes (Asks name bound next) (Read n found ∷ effects) rest =
    (name ≡ n) × Goes (next found) effects rest
Goes (Asks name bound next) (Device words test signature answer ∷ effects) rest = ⊥
Goes (Asks name bound next) (Did d ∷ effects) rest = ⊥
Goes (Runs words test signature next) (Device w t s answer ∷ effects) rest =
    (words ≡ w) × (test ≡ t) × (signature ≡ s) × Goes (next answer) effects rest
Goes (Runs words test signature next) (Read name found ∷ effects) rest = ⊥
Goes (Runs words test signature next) (Did d ∷ effects) rest = ⊥
