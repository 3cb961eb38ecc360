-- What `normalize` puts is read again.
use Rattle.std.proofs.Common.{◌≡◌, ℕ, ◌≤◌, List, [], ◌∷◌, length, map}
use Rattle.std.proofs.Common.{Some, None, Ok, Err, Result, refl, sym, ap, ◌∙◌, arith}
use Rattle.rvs_base.specs.Host.{Files}
use Rattle.rvs_abstract.specs.declared.families.Families.{Families}
use Rattle.rvs_plan.specs.declared.stop.Stop.{Stop}
use Rattle.rvs_tree.specs.Data.{Data}
use Rattle.rvs_yaml.specs.Parsed.{Parsed, answer}
use Rattle.rvs_insn.specs.Isa.{Isa}
use Rattle.rvs_cgf.specs.Groups.{Label, Refusal, groups_of}
use Rattle.rvs_cgf.specs.Print.{normal_text}
use Rattle.rvs_cgf.specs.Spelled.{bare, selected}
use Rattle.rvs_normal.proofs.ReadAgain.{read-again, short-keeps, own-admitted}
use Rattle.rvs_inputs.specs.GroupFiles.{groups_limit, text_in, checked_groups}
use Rattle.rvs_inputs.specs.GroupFiles.{tree_groups, groups_found, Inputs, inputs_of, inputs_in}

-- the groups again, where these are those of a text
again-of : (isa : Isa) (families other : Families) (text : List ℕ) (inputs : Inputs)
    → inputs_of isa (groups_found isa families text) ≡ Ok inputs
    → length (normal_text inputs.groups) ≤ groups_limit
    → (inputs.isa ≡ isa)
    × (groups_found isa other (normal_text inputs.groups) ≡ Ok (map bare (selected inputs.groups)))
again-of isa families other text inputs e short = by-answer (answer text) refl e
  where
    same : (groups : List Label)
        → ◌≡◌ {A = Result Inputs Stop} (Ok (record { isa = isa; groups = groups })) (Ok inputs)
        → record { isa = isa; groups = groups } ≡ inputs
    same groups e = cc

    by-groups : (tree : Data) (r : Result (List Label) Refusal) → answer text ≡ Ok tree
        → groups_of isa families tree ≡ r → inputs_of isa (checked_groups r) ≡ Ok inputs
        → (inputs.isa ≡ isa)
        × (groups_found isa other (normal_text inputs.groups)
        ≡ Ok (map bare (selected inputs.groups)))
    by-groups tree (Err refusal) a g e = cc
    by-groups tree (Ok groups) a g e =
        let is = same groups e in
        let listed : groups ≡ inputs.groups = ap (λ (i : Inputs). i.groups) is in
        let g' : groups_of isa families tree ≡ Ok inputs.groups = g ∙ ap (λ ls. Ok ls) listed in
        let keeps = short-keeps isa families text tree inputs.groups a g' short in
        let r = read-again isa isa families text tree inputs.groups a g' keeps
        (own-admitted isa families text tree inputs.groups a g') in (
          sym (ap (λ (i : Inputs). i.isa) is),
          ap (tree_groups isa other) r.is
              ∙ ap checked_groups (r.groups_are other),
        )

    by-answer : (r : Parsed) → answer text ≡ r → inputs_of isa (tree_groups isa families r)
        ≡ Ok inputs
        → (inputs.isa ≡ isa)
        × (groups_found isa other (normal_text inputs.groups)
        ≡ Ok (map bare (selected inputs.groups)))
    by-answer (Err fault) a e = cc
    by-answer (Ok tree) a e = by-groups tree (groups_of isa families tree) a refl e

kept-text : (after : Files) (name text : List ℕ) → after name ≡ Some text
    → length text ≤ groups_limit → text_in after None (name ∷ []) ≡ Ok text
kept-text after name text there short = grind arith

-- what was put, kept in a file, gives the selected labels again
pub normal-again : (files after : Files) (isa : List ℕ) (families other : Families)
    (names : List (List ℕ)) (name : List ℕ)
    (inputs : Inputs) → inputs_in files isa families names ≡ Ok inputs
    → length (normal_text inputs.groups)
    ≤ groups_limit
    → after isa ≡ files isa → after name ≡ Some (normal_text inputs.groups)
    → inputs_in after isa other (name ∷ [])
    ≡ Ok (record { isa = inputs.isa; groups = map bare (selected inputs.groups) })
normal-again files after isa families other names name inputs e short same there =
    grind (arith, again-of, kept-text)
