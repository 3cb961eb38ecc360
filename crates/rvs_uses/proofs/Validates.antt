-- What every call of `validate` promises, in the words of its file.
use Rattle.std.proofs.Common.{inl, inr}
use Rattle.rvs_base.specs.Host.{Files}
use Rattle.rvs_promises.specs.Call.{Call}
use Rattle.rvs_promises.specs.Validating as suite
use Rattle.rvs_promises.proofs.Meanings.{says-of}
use Rattle.rvs_uses.specs.Laws.{ValidatesFile}
use Rattle.rvs_uses.specs.Validating as validating
use Rattle.rvs_uses.proofs.Files.{says-in, isa-refused-in, isa-refused-of, isa-absent-in}
use Rattle.rvs_uses.proofs.Files.{isa-absent-of, only-done}
use Rattle.rvs_words.specs.declared.command.ValidateArguments.{ValidateArguments}

checks-of : (call : Call) (files : Files) (asked : ValidateArguments)
    → suite.Checks call files asked
    → validating.Checks call files asked
checks-of call files asked n = record {
  done = λ is.
      let h = n.answered.done is in
      record {
        said = h.given;
        says = says-of files asked.isa h.given h.accepted;
        printed = h.left;
      };
  no_verdict = λ is. (n.answered.not_passed is).left;
  by_inputs = λ said says none.
      only-done (n.answered.by_inputs said (says-in files asked.isa said says) none)
      (λ is. (n.answered.not_passed is).left);
  refused = λ is.
      let h = n.answered.refused is in
      record {
        text = h.text;
        reason = isa-refused-of files asked.isa h.text h.refused;
        line = h.line;
      };
  by_refusal = λ text refused none.
      n.answered.by_refusal text (isa-refused-in files asked.isa text refused) none;
  absent = λ is. elim (n.answered.absent is) [
    | inl m ↦ inl (record {
      name = m.name;
      absent = isa-absent-of files asked.isa m.name m.absent;
      line = m.line;
    })
    | inr rose ↦ inr rose
  ];
  by_absence = λ none. n.answered.by_absence asked.isa (isa-absent-in files asked.isa none);
  files_kept = n.files_kept;
}

pub validates-file : ValidatesFile
validates-file call p files asked told asks =
    checks-of call files asked (p.validate files asked told asks)
