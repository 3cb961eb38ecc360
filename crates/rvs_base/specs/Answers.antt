-- What a call that reads an input answers.
use Rattle.std.specs.Prelude.{◌≡◌, Result, Ok, Err}
use Rattle.rvs_base.specs.declared.fault.Fault.{Fault}
use Rattle.rvs_base.specs.declared.fault.Fault.TheVariants.{Refused}

-- an answer whose value is seen so
abbrev pub seen : {A B R : Type 0} → (A → B) → Result A R → Result B R
seen see (Ok a) = Ok (see a)
seen see (Err refusal) = Err refusal

-- a fault has this refusal, or it is want of memory
abbrev pub IfRefused : {R : Type 0} → Fault R → (R → Type 0) → Type 0
IfRefused {R} fault P = (refusal : R) → fault ≡ Refused refusal → P refusal

-- an answer, of which value and refusal are seen so, is what is said of the input, or the call
-- wants memory
abbrev pub AnswersAs : {A B Q R : Type 0} → (A → B) → (Q → R) → Result A (Fault Q) → Result B R
    → Type 0
AnswersAs see look (Ok a) found = found ≡ Ok (see a)
AnswersAs see look (Err fault) found = IfRefused fault (λ refusal. found ≡ Err (look refusal))

abbrev pub AnswersWith : {A B R : Type 0} → (A → B) → Result A (Fault R) → Result B R → Type 0
AnswersWith see result found = AnswersAs see (λ refusal. refusal) result found

abbrev pub Answers : {A R : Type 0} → Result A (Fault R) → Result A R → Type 0
Answers result found = AnswersWith (λ a. a) result found
