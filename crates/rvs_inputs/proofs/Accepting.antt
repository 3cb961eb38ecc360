-- What comes of pieces of work that have no effects.
use Rattle.std.proofs.Common.{◌≡◌, ℕ, List, Result, Ok, Err, refl, sym, subst, inl, inr}
use Rattle.rvs_base.specs.Answers.{Answers, AnswersAs, seen}
use Rattle.rvs_base.specs.declared.fault.Fault.{Fault}
use Rattle.rvs_base.specs.declared.fault.Fault.TheVariants as fault
use Rattle.rvs_plan.specs.World.{World, contents}
use Rattle.rvs_plan.specs.Plan.{Ends}
use Rattle.rvs_plan.specs.Meets.{Meets}
use Rattle.rvs_plan.specs.Refusing.{end_at, Stops}
use Rattle.rvs_plan.specs.declared.stop.Stop.{Stop}
use Rattle.rvs_plan.specs.declared.stop.Stop.TheVariants.{Refused}
use Rattle.rvs_plan.proofs.Reaching.{Reaches-start}
use Rattle.rvs_plan.proofs.Amounts.{IsUnread-same, ReadsOnWay-start}
use Rattle.rvs_plan.proofs.Sequence.{Later-start, Unfaulted-start, Meets-gives, Meets-no_memory}

pub Meets-refused : {A : Type 0} (text : List ℕ) (w : World)
    → Meets {A = A} (Ends (Err (Refused text))) w w (Err (Refused text))
Meets-refused text w = record {
  later = Later-start w;
  cause = tt;
  unfaulted = Unfaulted-start w;
  told = λ files t. Reaches-start (Ends (Err (Refused text))) (contents w);
  reading = (Ends (Err (Refused text)), ReadsOnWay-start (Ends (Err (Refused text))) IsUnread-same);
}

-- an end that comes to a value
pub Meets-accepted_by : {A : Type 0} (end : Result A Stop) (a : A) (w : World) → end ≡ Ok a
    → Meets (Ends end) w w (Ok a)
Meets-accepted_by {A} end a w e =
    subst (λ (r : Result A Stop). Meets (Ends r) w w (Ok a)) (sym e) (Meets-gives a w)

-- the same of an end that comes to a refusal
pub Meets-refused_by : {A : Type 0} (end : Result A Stop) (text : List ℕ) (w : World)
    → end ≡ Err (Refused text) → Meets (Ends end) w w (Err (Refused text))
Meets-refused_by {A} end text w e =
    subst (λ (r : Result A Stop). Meets (Ends r) w w (Err (Refused text))) (sym e)
    (Meets-refused text w)

-- what comes of an input, as the plan that ends so
pub Meets-stops : {A R : Type 0} (said : R → List ℕ) (name : List ℕ) (found : Result A R)
    (answer : Result A (Fault R)) (result : Result A Stop) (w : World) → Answers answer found
    → Stops said name answer result → Meets (Ends (end_at said name found)) w w result
Meets-stops said name found (Ok a) result w is stops = rw (is, stops) (Meets-gives a w)
Meets-stops said name found (Err (fault.Refused r)) result w is (inl none) =
    rw none (Meets-no_memory _ w)
Meets-stops said name found (Err (fault.Refused r)) result w is (inr told) =
    rw (is r refl, told) (Meets-refused _ w)
Meets-stops said name found (Err fault.NoMemory) result w is none = rw none (Meets-no_memory _ w)

-- the same where value and refusal are seen as what they stand for
pub Meets-stops_as : {A B Q R : Type 0} (see : A → B) (look : Q → R) (said : R → List ℕ)
    (name : List ℕ) (found : Result B R) (answer : Result A (Fault Q)) (result : Result A Stop)
    (w : World) → AnswersAs see look answer found
    → Stops (λ q. said (look q)) name answer result
    → Meets (Ends (end_at said name found)) w w (seen see result)
Meets-stops_as see look said name found (Ok a) result w is stops =
    rw (is, stops) (Meets-gives (see a) w)
Meets-stops_as see look said name found (Err (fault.Refused q)) result w is (inl none) =
    rw none (Meets-no_memory _ w)
Meets-stops_as see look said name found (Err (fault.Refused q)) result w is (inr told) =
    rw (is q refl, told) (Meets-refused _ w)
Meets-stops_as see look said name found (Err fault.NoMemory) result w is none =
    rw none (Meets-no_memory _ w)
