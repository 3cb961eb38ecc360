use Rattle.std.proofs.Common.{◌≡◌, Bool, true, false, List, ℕ, [], ◌∷◌, bytes_eq, refl, sym, ◌∙◌}
use Rattle.std.proofs.lemmas.Slice.Eq.{bytes_eq-Decides}
use Rattle.std.specs.List.{list_any}
use Rattle.std.specs.Prelude.{◌||◌}
use Rattle.rvs_words.proofs.words.is_one_of.Goals as goal

both-hold : (p q : Bool) → (p ≡ true → q ≡ true) → (q ≡ true → p ≡ true) → p ≡ q
both-hold true q f g = sym (f refl)
both-hold false true f g = g refl
both-hold false false f g = refl

either-way : (a b : List ℕ) → bytes_eq a b ≡ bytes_eq b a
either-way a b = both-hold (bytes_eq a b) (bytes_eq b a)
    (λ e. (bytes_eq-Decides b a).1 (sym ((bytes_eq-Decides a b).0 e)))
    (λ e. (bytes_eq-Decides a b).1 (sym ((bytes_eq-Decides b a).0 e)))

any-way : {X : Type 0} (f : X → List ℕ) (word : List ℕ) (xs : List X)
    → list_any (λ x. bytes_eq (f x) word) xs ≡ list_any (λ x. bytes_eq word (f x)) xs
any-way f word [] = refl
any-way f word (x ∷ xs) =
    let first = either-way (f x) word in
    let rest = any-way f word xs in
    (λ k. first k || rest k)

pub returns : goal.returns
returns c =
    c.contains.ensures.value ∙ any-way (λ name. name.now) c.args.word.now c.args.names.now
