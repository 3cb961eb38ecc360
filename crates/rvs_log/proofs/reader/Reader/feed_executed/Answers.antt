use Rattle.std.proofs.Common.{◌≡◌, ◌≤◌, ◌+◌, ℕ, [], ◌∷◌, ◌++◌, Some, length, sym, ap, ◌∙◌, arith}
use Rattle.std.proofs.lemmas.List.{length_push}
use Rattle.rvs_machine.specs.declared.event.Executed.{Executed}
use Rattle.rvs_log.specs.Grammar.{reading_of}
use Rattle.rvs_log.specs.Written.{line_of, HasWords}
use Rattle.rvs_log.proofs.Logs.{line_short}
use Rattle.rvs_log.specs.Cutting.{held_after}
use Rattle.rvs_log.specs.Streams.{told_all}
use Rattle.rvs_log.specs.Taken.{taken}
use Rattle.rvs_log.proofs.ExecutedLines.{executed_held, executed_line}
use Rattle.rvs_log.proofs.Streams.{state_fed}
use Rattle.rvs_log.proofs.reader.Reader.feed_executed.Goals as goal

-- how long a line is, by what the code says
short : (e : Executed) (size : ℕ) → HasWords e → size ≡ length (line_of e) → size ≤ 50
short e size words is = omega (arith, is, line_short e words.commit)

pub overflow_add-self : goal.overflow_add-self
overflow_add-self g c = omega (
  arith,
  short c.args.executed.now c.log_line_length.result
      c.take_executed.ensures.words c.log_line_length.ensures,
)

pub overflow_add-self-2 : goal.overflow_add-self-2
overflow_add-self-2 g c =
    omega (
      arith,
      short c.args.executed.now c.log_line_length.result c.take_executed.ensures.words
          c.log_line_length.ensures,
      c.self.invariant.1,
    )

pub invariant_of-self : goal.invariant_of-self
invariant_of-self g c =
    let size = short c.args.executed.now c.log_line_length.result c.take_executed.ensures.words
    c.log_line_length.ensures in
    let number = ap g.C.Consumer.count c.take_executed.ensures.said in
    let fed = ap (λ s. s.fed) c.self.view_is in (
      omega (
        arith,
        number,
        g.met.C.Consumer.adds c.self.inside.told (reading_of (line_of c.args.executed.now)),
        c.self.invariant.0,
      ),
      omega (arith, size, fed, c.requires.few),
    )

pub returns-clause-fed : goal.returns-clause-fed
returns-clause-fed g c =
    let step = g.C.Consumer.step in
    let told = c.self.inside.told in
    let follow = c.self.inside.follow in
    let fed = c.self.inside.fed in
    let line = line_of c.args.executed.now in
    let piece = line ++ 10 ∷ [] in
    let size : length piece ≡ c.log_line_length.result + 1 =
    length_push line 10 ∙ ap (λ (n : ℕ). n + 1) (sym c.log_line_length.ensures) in
    let none : follow ≡ Some [] = ap (λ s. s.waiting) c.self.view_is ∙ c.requires.begun in
    let words = c.take_executed.ensures.words in
    let all : told_all step told follow piece ≡ c.take_executed.new.self =
    ap (λ w. told_all step told w piece) none
    ∙ executed_line step told c.args.executed.now words ∙ sym c.take_executed.ensures.said in
    let waits : held_after follow piece ≡ follow =
    ap (λ w. held_after w piece) none ∙ executed_held c.args.executed.now words ∙ sym none in
    record {
      state = λ at is before n e.
          ap (λ m. taken c.take_executed.new.self follow (fed + m)) (sym size)
          ∙ state_fed step at is before piece n (taken told follow fed)
          c.take_executed.new.self follow (c.self.view_is ∙ e) all waits;
      fed = ap (λ (m : ℕ). fed + m) (sym size)
          ∙ ap (λ s. s.fed + length piece) c.self.view_is;
    }

pub returns-clause-low : goal.returns-clause-low
returns-clause-low g c =
    omega (
      arith,
      short c.args.executed.now c.log_line_length.result c.take_executed.ensures.words
          c.log_line_length.ensures,
      ap (λ s. s.fed) c.self.view_is,
    )
