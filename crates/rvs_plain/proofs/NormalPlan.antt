-- The plan of `normalize`, cut where the normal text is there.
use Rattle.std.proofs.Common.{◌≡◌, ℕ, List, None, Result, Ok, Err, refl, sym, ◌∙◌}
use Rattle.rvs_abstract.specs.declared.families.Families.{Families}
use Rattle.rvs_base.specs.Answers.{seen}
use Rattle.rvs_plan.specs.Plan.{Plan, Ends, gives, ◌>>=◌}
use Rattle.rvs_plan.specs.declared.stop.Stop.{Stop}
use Rattle.rvs_cgf.specs.Print.{normal_text}
use Rattle.rvs_inputs.specs.Specification.{specification}
use Rattle.rvs_inputs.specs.GroupFiles.{joins_all, groups_found, group_files}
use Rattle.rvs_inputs.specs.Printing.{print_text}
use Rattle.rvs_plain.specs.Normalize.{print_normal, normal_files, normal_inputs, normalize}
use Rattle.rvs_words.specs.declared.command.NormalizeArguments.{NormalizeArguments}
use Rattle.rvs_inputs.proofs.Chains.{then-then, then-same}

then-seen : {A B C : Type 0} (see : A → B) (r : Result A Stop) (next : B → Plan C)
    → (Ends r >>= (λ a. next (see a))) ≡ (Ends (seen see r) >>= next)
then-seen see (Ok a) next = refl
then-seen see (Err stop) next = refl

files-plan : (isa : _) (families : Families) (names : List (List ℕ))
    → (group_files isa families names >>= (λ groups. print_text (normal_text groups)))
    ≡ (normal_files isa families names >>= print_text)
files-plan isa families names =
    then-then (joins_all None names) (λ text. Ends (groups_found isa families text))
    (λ groups. print_text (normal_text groups))
    ∙ then-same (joins_all None names)
    (λ text. Ends (groups_found isa families text) >>= (λ groups. print_text (normal_text groups)))
    (λ text. Ends (seen normal_text (groups_found isa families text)) >>= print_text)
    (λ text. then-seen normal_text (groups_found isa families text) print_text)
    ∙ sym (then-then (joins_all None names)
    (λ text. Ends (seen normal_text (groups_found isa families text))) print_text)

-- the normal text is made, and then it is put
pub normal-plan : (asked : NormalizeArguments)
    → normalize asked ≡ (normal_inputs asked >>= print_text)
normal-plan asked =
    then-then (specification asked.isa)
    (λ said. group_files said.spec asked.families asked.groups >>= (λ groups. gives (record {
      isa = said.spec;
      groups = groups;
    }))) print_normal
    ∙ then-same (specification asked.isa)
    (λ said. (group_files said.spec asked.families asked.groups >>= (λ groups. gives (record {
      isa = said.spec;
      groups = groups;
    }))) >>= print_normal)
    (λ said. normal_files said.spec asked.families asked.groups >>= print_text) (λ said.
    then-then (group_files said.spec asked.families asked.groups) (λ groups. gives (record {
      isa = said.spec;
      groups = groups;
    })) print_normal
    ∙ files-plan said.spec asked.families asked.groups)
    ∙ sym (then-then (specification asked.isa)
    (λ said. normal_files said.spec asked.families asked.groups) print_text)
