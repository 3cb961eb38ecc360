-- Quoted scalars, piece by piece.
use Rattle.std.proofs.Common.{◌≡◌, ℕ, ◌+◌, ◌<◌, Bool, true, false, List, [], ◌∷◌, ◌++◌, length}
use Rattle.std.proofs.Common.{take, drop, get_or, Some, None, refl, sym, ap}
use Rattle.std.proofs.Common.{◌∙◌, append-nil, append_assoc, arith, rules}
use Rattle.std.proofs.lemmas.Bool.Decides.{nat_tests}
use Rattle.std.specs.Prelude.{◌==◌, ◌||◌}
use Rattle.rvs_yaml_text.specs.Scalar.{Split, onto, single, behind_quote, double, behind_backslash}
use Rattle.rvs_yaml_text.specs.Scalar.{starts_with}
use Rattle.rvs_yaml_text.specs.Quotes.{at_byte, at_stop, escape}
use Rattle.rvs_yaml_text.proofs.Scans.{onto_all, onto_all-onto, drop-at}

byte-here : (c b : ℕ) (bs : List ℕ) → (b == c) ≡ true → at_byte c (b ∷ bs) ≡ Some ([], bs)
byte-here c b bs e = rw (e, at_byte) refl

pub byte-found : (c : ℕ) (bs : List ℕ) (i : ℕ) → i < length bs → (get_or bs i 0 == c) ≡ true
    → onto_all (take i bs) (at_byte c (drop i bs)) ≡ Some (take i bs, drop (i + 1) bs)
byte-found c bs i h e = simp (onto_all, drop-at, byte-here, append-nil)

stop-here : (b : ℕ) (bs : List ℕ) → (b == 34 || b == 92) ≡ true
    → at_stop (b ∷ bs) ≡ Some ([], b ∷ bs)
stop-here b bs e = rw (e, at_stop) refl

pub stop-found : (bs : List ℕ) (i : ℕ) → i < length bs
    → (get_or bs i 0 == 34 || get_or bs i 0 == 92) ≡ true
    → onto_all (take i bs) (at_stop (drop i bs)) ≡ Some (take i bs, drop i bs)
stop-found bs i h e = simp (onto_all, drop-at, stop-here, append-nil)

-- what a split becomes
abbrev then_quote : Split → Split
then_quote None = None
then_quote (Some p) = onto_all p.0 (behind_quote p.1)

onto_all-onto_all : (xs ys : List ℕ) (o : Split)
    → onto_all xs (onto_all ys o) ≡ onto_all (xs ++ ys) o
onto_all-onto_all xs ys o = search (rules, append_assoc)

single-by : (t : Bool) (b : ℕ) (bs : List ℕ) → single bs ≡ then_quote (at_byte 39 bs) →
    (elim t as (λ _. Split) [ true ↦ behind_quote bs | false ↦ onto b (single bs) ])
    ≡ then_quote (elim t as (λ _. Split) [
      | true ↦ Some ([], bs)
      | false ↦ onto b (at_byte 39 bs)
    ])
single-by t b bs ih = grind arith

single-split : (bs : List ℕ) → single bs ≡ then_quote (at_byte 39 bs)
single-split [] = refl
single-split (b ∷ bs) = single-by (b == 39) b bs (single-split bs)

pub quote-end : (bs : List ℕ) → starts_with 39 bs ≡ false → behind_quote bs ≡ Some ([], bs)
quote-end bs e = grind arith

quote-more : (bs : List ℕ) → starts_with 39 bs ≡ true
    → behind_quote bs ≡ onto 39 (single (drop 1 bs))
quote-more bs e = grind arith

single-piece : (rest piece behind : List ℕ) → Some (piece, behind) ≡ at_byte 39 rest
    → single rest ≡ onto_all piece (behind_quote behind)
single-piece rest piece behind e = single-split rest ∙ ap then_quote (sym e)

pub single-found : (done text rest piece behind : List ℕ)
    → onto_all done (single rest) ≡ single text → Some (piece, behind) ≡ at_byte 39 rest
    → starts_with 39 behind ≡ false → Some (done ++ piece, behind) ≡ single text
single-found done text rest piece behind inv e q =
    ap (λ ys. Some (done ++ ys, behind)) (sym (append-nil piece))
    ∙ sym (ap (λ o. onto_all done (onto_all piece o)) (quote-end behind q))
    ∙ sym (ap (onto_all done) (single-piece rest piece behind e)) ∙ inv

pub single-more : (done text rest piece behind : List ℕ) → onto_all done (single rest) ≡ single text
    → Some (piece, behind) ≡ at_byte 39 rest → starts_with 39 behind ≡ true
    → onto_all ((done ++ piece) ++ 39 ∷ []) (single (drop 1 behind)) ≡ single text
single-more done text rest piece behind inv e q =
    sym (onto_all-onto (done ++ piece) 39 (single (drop 1 behind)))
    ∙ sym (ap (onto_all (done ++ piece)) (quote-more behind q))
    ∙ sym (onto_all-onto_all done piece (behind_quote behind))
    ∙ sym (ap (onto_all done) (single-piece rest piece behind e)) ∙ inv

pub single-none : (done text rest : List ℕ) → onto_all done (single rest) ≡ single text
    → None ≡ at_byte 39 rest → None ≡ single text
single-none done text rest inv e = grind (arith, onto_all, single-split)

-- the same in double quotes
abbrev then_stop : Split → Split
then_stop None = None
then_stop (Some p) = onto_all p.0 (double p.1)

or_parts : (x y : Bool) → (x || y) ≡ false → (x ≡ false) × (y ≡ false)
or_parts x y h = grind arith

double-split : (bs : List ℕ) → double bs ≡ then_stop (at_stop bs)
double-split [] = refl
double-split (b ∷ bs) = grind (arith, nat_tests, (double-split bs))

double-quote : (bs : List ℕ) → starts_with 34 bs ≡ true → double bs ≡ Some ([], drop 1 bs)
double-quote bs e = grind arith

double-escape : (bs : List ℕ) → starts_with 34 bs ≡ false
    → (starts_with 34 bs || starts_with 92 bs) ≡ true → double bs ≡ behind_backslash (drop 1 bs)
double-escape bs e m = grind arith

double-piece : (rest piece behind : List ℕ) → Some (piece, behind) ≡ at_stop rest
    → double rest ≡ onto_all piece (double behind)
double-piece rest piece behind e = double-split rest ∙ ap then_stop (sym e)

pub double-found : (done text rest piece behind : List ℕ)
    → onto_all done (double rest) ≡ double text → Some (piece, behind) ≡ at_stop rest
    → starts_with 34 behind ≡ true → Some (done ++ piece, drop 1 behind) ≡ double text
double-found done text rest piece behind inv e q =
    ap (λ ys. Some (done ++ ys, drop 1 behind)) (sym (append-nil piece))
    ∙ sym (ap (λ o. onto_all done (onto_all piece o)) (double-quote behind q))
    ∙ sym (ap (onto_all done) (double-piece rest piece behind e)) ∙ inv

backslash-text : (bs xs : List ℕ) → Some xs ≡ escape bs
    → behind_backslash bs ≡ onto_all xs (double (drop 1 bs))
backslash-text bs xs e = grind arith

backslash-none : (bs : List ℕ) → None ≡ escape bs → behind_backslash bs ≡ None
backslash-none bs e = grind arith

pub double-more_text : (done text rest piece behind xs : List ℕ)
    → onto_all done (double rest) ≡ double text → Some (piece, behind) ≡ at_stop rest
    → starts_with 34 behind ≡ false → (starts_with 34 behind || starts_with 92 behind) ≡ true
    → Some xs ≡ escape (drop 1 behind)
    → onto_all ((done ++ piece) ++ xs) (double (drop 1 (drop 1 behind))) ≡ double text
double-more_text done text rest piece behind xs inv e q m x =
    sym (onto_all-onto_all (done ++ piece) xs (double (drop 1 (drop 1 behind))))
    ∙ sym (ap (onto_all (done ++ piece))
    (double-escape behind q m ∙ backslash-text (drop 1 behind) xs x))
    ∙ sym (onto_all-onto_all done piece (double behind))
    ∙ sym (ap (onto_all done) (double-piece rest piece behind e)) ∙ inv

pub double-bad : (done text rest piece behind : List ℕ) → onto_all done (double rest) ≡ double text
    → Some (piece, behind) ≡ at_stop rest → starts_with 34 behind ≡ false
    → (starts_with 34 behind || starts_with 92 behind) ≡ true → None ≡ escape (drop 1 behind)
    → None ≡ double text
double-bad done text rest piece behind inv e q m x =
    sym (ap (λ o. onto_all done (onto_all piece o))
    (double-escape behind q m ∙ backslash-none (drop 1 behind) x)) ∙ sym (ap (onto_all done)
    (double-piece rest piece behind e)) ∙ inv

pub double-none : (done text rest : List ℕ) → onto_all done (double rest) ≡ double text
    → None ≡ at_stop rest → None ≡ double text
double-none done text rest inv e = grind (arith, onto_all, double-split)

pub eq_test : (a b : ℕ) → a ≡ b → (a == b) ≡ true
eq_test a b h = grind (arith, nat_tests)
