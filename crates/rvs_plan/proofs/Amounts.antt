-- What is read on ways through plans that follow one another.
use Rattle.std.proofs.Common.{◌≡◌, List, [], ◌∷◌, ◌++◌, Option, Some, None, Result, Ok, Err, refl}
use Rattle.std.proofs.Common.{sym, ap, subst, ◌∙◌, ℕ, arith}
use Rattle.rvs_base.specs.Host.{Files, HostState, Tells, IsUnread}
use Rattle.rvs_base.specs.File.{ReadsAtMost}
use Rattle.rvs_plan.specs.World.{World, contents}
use Rattle.rvs_plan.specs.Effect.{Effect, Read, Device, Did, after, Saw}
use Rattle.rvs_plan.specs.Plan.{Plan, Ends, Does, Asks, Runs, ◌>>=◌, gives, Goes}
use Rattle.rvs_plan.specs.Reads.{TakesOn, ReadsOnWay, ReadsThrough, ReadsFor}
use Rattle.rvs_plan.proofs.Reaching.{Goes-append, Goes-then, Saw-append, after-append}
use Rattle.rvs_plan.specs.declared.stop.Stop.{Stop}

pub IsUnread-same : {h : HostState} → IsUnread h h
IsUnread-same = record { openings = refl; taken = refl }

IsUnread-trans : {a b c : HostState} → IsUnread a b → IsUnread b c → IsUnread a c
IsUnread-trans u v = grind arith

-- nothing was read before it
TakesOn-behind : {A : Type 0} (plan : Plan A) (es : List Effect) (a b c : HostState)
    → IsUnread a b → TakesOn plan es b c → TakesOn plan es a c
TakesOn-behind plan [] a b c u t = IsUnread-trans u t
TakesOn-behind (Ends end) (e ∷ es) a b c u t = absurd t
TakesOn-behind (Does deed plan) (Did d ∷ es) a b c u t = TakesOn-behind plan es a b c u t
TakesOn-behind (Does deed plan) (Read n found ∷ es) a b c u t = absurd t
TakesOn-behind (Does deed plan) (Device w g s answer ∷ es) a b c u t = absurd t
TakesOn-behind (Asks name bound next) (Did d ∷ es) a b c u t = absurd t
TakesOn-behind (Asks name bound next) (Read n found ∷ es) a b c u t = grind arith
TakesOn-behind (Asks name bound next) (Device w g s answer ∷ es) a b c u t = absurd t
TakesOn-behind (Runs words test signature next) (Did d ∷ es) a b c u t = absurd t
TakesOn-behind (Runs words test signature next) (Read n found ∷ es) a b c u t = absurd t
TakesOn-behind (Runs words test signature next) (Device w g s answer ∷ es) a b c u t =
    TakesOn-behind (next answer) es a b c u t

-- one way, and then another
TakesOn-append : {A : Type 0} (plan mid rest : Plan A) (es es' : List Effect) (a b c : HostState)
    → Goes plan es mid → TakesOn plan es a b → TakesOn mid es' b c → TakesOn plan (es ++ es') a c
TakesOn-append plan mid rest [] es' a b c g t v = grind (arith, TakesOn-behind)
TakesOn-append (Ends end) mid rest (e ∷ es) es' a b c g t v = absurd g
TakesOn-append (Does deed plan) mid rest (Did d ∷ es) es' a b c g t v =
    TakesOn-append plan mid rest es es' a b c g.1 t v
TakesOn-append (Does deed plan) mid rest (Read n found ∷ es) es' a b c g t v = absurd g
TakesOn-append (Does deed plan) mid rest (Device w x s answer ∷ es) es' a b c g t v = absurd g
TakesOn-append (Asks name bound next) mid rest (Did d ∷ es) es' a b c g t v = absurd g
TakesOn-append (Asks name bound next) mid rest (Read n found ∷ es) es' a b c g t v =
    (t.0, t.1, TakesOn-append (next found) mid rest es es' t.0 b c g.1 t.2 v)
TakesOn-append (Asks name bound next) mid rest (Device w x s answer ∷ es) es' a b c g t v = absurd g
TakesOn-append (Runs words test signature next) mid rest (Did d ∷ es) es' a b c g t v = absurd g
TakesOn-append (Runs words test signature next) mid rest (Read n found ∷ es) es' a b c g t v =
    absurd g
TakesOn-append (Runs words test signature next) mid rest
    (Device w x s answer ∷ es) es' a b c g t v =
    TakesOn-append (next answer) mid rest es es' a b c g.3 t v

-- a way of a first piece is one of the whole
TakesOn-then : {A B : Type 0} (next : A → Plan B) (p q : Plan A) (es : List Effect)
    (a b : HostState) → Goes p es q → TakesOn p es a b → TakesOn (p >>= next) es a b
TakesOn-then next p q [] a b g t = t
TakesOn-then next (Ends end) q (e ∷ es) a b g t = absurd g
TakesOn-then next (Does deed p) q (Did d ∷ es) a b g t = TakesOn-then next p q es a b g.1 t
TakesOn-then next (Does deed p) q (Read n found ∷ es) a b g t = absurd g
TakesOn-then next (Does deed p) q (Device w x s answer ∷ es) a b g t = absurd g
TakesOn-then next (Asks name bound rest) q (Did d ∷ es) a b g t = absurd g
TakesOn-then next (Asks name bound rest) q (Read n found ∷ es) a b g t =
    (t.0, t.1, TakesOn-then next (rest found) q es t.0 b g.1 t.2)
TakesOn-then next (Asks name bound rest) q (Device w x s answer ∷ es) a b g t = absurd g
TakesOn-then next (Runs words test signature rest) q (Did d ∷ es) a b g t = absurd g
TakesOn-then next (Runs words test signature rest) q (Read n found ∷ es) a b g t = absurd g
TakesOn-then next (Runs words test signature rest) q (Device w x s answer ∷ es) a b g t =
    TakesOn-then next (rest answer) q es a b g.3 t

-- no way was gone
pub ReadsOnWay-start : {A : Type 0} (plan : Plan A) {old new : World}
    → IsUnread old.host new.host → ReadsOnWay plan plan old new
ReadsOnWay-start plan unread =
    record { effects = []; goes = refl; saw = λ files t. tt; reads = unread }

pub ReadsThrough-start : {A : Type 0} (a : A) (w : World) → ReadsThrough (gives a) a w w
unfolding ReadsOnWay-start
ReadsThrough-start a w =
    record { way = ReadsOnWay-start (gives a) IsUnread-same; did = λ files t. refl }

-- what a file holds, where that is told
abbrev pub held : Option Files → List ℕ → Option (List ℕ)
held None name = None
held (Some files) name = files name

pub held-there : (told : Option Files) (name : List ℕ) (files : Files) → told ≡ Some files
    → files name ≡ held told name
held-there told name files is = grind arith

-- a file was read, and this follows
pub ReadsOnWay-ask : {A : Type 0} {name : List ℕ} {bound : ℕ} {next : Option (List ℕ) → Plan A}
    {rest : Plan A} {old new : World} (found : Option (List ℕ)) → next found ≡ rest
    → ((files : Files) → Tells old.host files → files name ≡ found)
    → ReadsAtMost 1 bound old.host new.host → ReadsOnWay (Asks name bound next) rest old new
ReadsOnWay-ask {name = name} {old = old} {new = new} found e is reads = record {
  effects = Read name found ∷ [];
  goes = (refl, e);
  saw = λ files t. (
    (λ files' told'. is files' (record { files = told'; rest = t.rest; runs = t.runs })),
    tt,
  );
  reads = (new.host, reads, IsUnread-same);
}

pub ReadsThrough-ask : {A : Type 0} {name : List ℕ} {bound : ℕ}
    {next : Option (List ℕ) → Plan A} {a : A} {old new : World} (found : Option (List ℕ))
    → next found ≡ gives a → ((files : Files) → Tells old.host files → files name ≡ found)
    → ReadsAtMost 1 bound old.host new.host → contents new ≡ contents old
    → ReadsThrough (Asks name bound next) a old new
unfolding ReadsOnWay-ask
ReadsThrough-ask found e is reads same =
    record { way = ReadsOnWay-ask found e is reads; did = λ files t. same }

-- one way, all of whose effects were done, and then another
ReadsOnWay-trans : {A : Type 0} {plan mid rest : Plan A} {old between new : World}
    → ((files : Files) → Tells old.host files
    → (files' : Files) × Tells between.host files')
    → (first : ReadsOnWay plan mid old between)
    → ((files : Files) → Tells old.host files
    → contents between ≡ after first.effects (contents old))
    → ReadsOnWay mid rest between new → ReadsOnWay plan rest old new
ReadsOnWay-trans {A} {plan} {mid} {rest} {old} {between} {new} tells first did next = record {
  effects = first.effects ++ next.effects;
  goes = Goes-append plan mid rest first.effects next.effects first.goes next.goes;
  saw = λ files t.
      let later = tells files t in
      Saw-append first.effects next.effects (contents old) (first.saw files t)
      (subst (λ c. Saw next.effects c) (did files t) (next.saw later.0 later.1));
  reads =
      TakesOn-append plan mid rest first.effects next.effects old.host between.host new.host
      first.goes first.reads next.reads;
}

-- a way of a first piece is one of the whole
ReadsOnWay-then : {A B : Type 0} (next : A → Plan B) {p q : Plan A} {old new : World}
    → ReadsOnWay p q old new → ReadsOnWay (p >>= next) (q >>= next) old new
ReadsOnWay-then next {p} {q} {old} {new} way = record {
  effects = way.effects;
  goes = Goes-then next p q way.effects way.goes;
  saw = way.saw;
  reads = TakesOn-then next p q way.effects old.host new.host way.goes way.reads;
}

-- a first piece that gave a value, and what follows it
pub ReadsFor-then : {A B : Type 0} (next : A → Plan B) {p : Plan A} {a : A}
    {old mid : World} (new : World) (result : Result B Stop)
    → ((files : Files) → Tells old.host files → (files' : Files) × Tells mid.host files')
    → ReadsFor p old mid (Ok a) → ReadsFor (next a) mid new result
    → ReadsFor (p >>= next) old new result
unfolding ReadsOnWay-then ReadsOnWay-trans
ReadsFor-then next {old = old} new (Ok b) tells first then = record {
  way = ReadsOnWay-trans tells (ReadsOnWay-then next first.way) first.did then.way;
  did = λ files t.
      let later = tells files t in
      then.did later.0 later.1 ∙ ap (after then.way.effects) (first.did files t)
      ∙ sym (after-append first.way.effects then.way.effects (contents old));
}
ReadsFor-then next new (Err stop) tells first then =
    (then.0, ReadsOnWay-trans tells (ReadsOnWay-then next first.way) first.did then.1)

-- a first piece that stopped
pub ReadsFor-stop : {A B : Type 0} (next : A → Plan B) {p : Plan A} (stop : Stop)
    {old new : World} → ReadsFor p old new (Err stop)
    → ReadsFor {A = B} (p >>= next) old new (Err stop)
ReadsFor-stop next stop first = (first.0 >>= next, ReadsOnWay-then next first.1)

-- by any result, this way was gone
pub ReadsFor-way : {A : Type 0} {plan : Plan A} {old new : World} (result : Result A Stop)
    → ReadsFor plan old new result → (rest : Plan A) × ReadsOnWay plan rest old new
ReadsFor-way h = grind arith
