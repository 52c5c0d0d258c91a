-- Numbers read one after another are the numbers of all parts.
use Rattle.std.specs.Prelude.{Option, Some, None}
use Rattle.std.specs.List.{slice_split, onto_first}
use mathlib.Core.Path.{◌≡◌, refl, sym, ◌∙◌, ap}
use mathlib.Core.Bool.{Bool, true, false, cond}
use mathlib.Core.List.{List, [], ◌∷◌, ◌++◌, append-nil, append_assoc}
use Prim.Native.Nat.{ℕ, suc, ◌<◌}
use native.Mathlib.Omega.{arith}
use lib.Ieee.{Float}
use lib.Dec.{eqb}
use lib.ListN.{length, get_or, drop, drop_of_length-le}
use lib.Seq.{drop-cons}
use Rattle.words.specs.Table.{before}
use Rattle.value.specs.declared.value.Value.TheVariants.{Undefined}
use Rattle.text.specs.Parts.{parted}
use Rattle.text.proofs.Law.Parts.{parts_from, parts_all, parts-on}
use Rattle.feature.specs.Field.{numeral_of, Numbers, wrong, all, alongside, numbers_in, made, numbers_of}
use Rattle.feature.specs.Inner.{longer}
use Rattle.value.specs.declared.value.Value.{Value}

-- a value with the number of one part more
abbrev extended : Option Value → Option Float → Option Value
extended None n = None
extended (Some v) None = None
extended (Some v) (Some x) = longer v x

-- what is read already, and then some parts
abbrev pub continued : Option Value → List (List ℕ) → Option Value
continued f [] = f
continued f (p ∷ ps) = continued (extended f (numeral_of p)) ps

-- ---- numbers that are read already

-- what they make; while there are none it is the loop's first value
abbrev grown : List Float → Option Value
grown [] = Some Undefined
grown (x ∷ xs) = made (all (x ∷ xs))

one_more : (xs : List Float) (x : Float) → extended (grown xs) (Some x) ≡ grown (xs ++ x ∷ [])
one_more [] x = refl
one_more (a ∷ []) x = refl
one_more (a ∷ b ∷ []) x = refl
one_more (a ∷ b ∷ c ∷ []) x = refl
one_more (a ∷ b ∷ c ∷ d ∷ []) x = refl
one_more (a ∷ b ∷ c ∷ d ∷ e ∷ us) x = refl

no_more : (f : Option Value) → extended f None ≡ None
no_more None = refl
no_more (Some v) = refl

unread : (ps : List (List ℕ)) → continued None ps ≡ None
unread [] = refl
unread (p ∷ ps) = unread ps

-- they, and then those of the parts
abbrev together : List Float → Numbers → Option Value
together xs wrong = None
together xs (all ys) = grown (xs ++ ys)

together-more : (xs : List Float) (x : Float) (ns : Numbers) → together (xs ++ x ∷ []) ns ≡ together xs (alongside (Some x) ns)
together-more xs x wrong = refl
together-more xs x (all ys) = ap grown (append_assoc xs (x ∷ []) ys)

reads_on : (xs : List Float) (ps : List (List ℕ)) → continued (grown xs) ps ≡ together xs (numbers_in ps)
reads_on xs [] = ap grown (sym (append-nil xs))
reads_on xs (p ∷ ps) = go (numeral_of p) (λ x. reads_on (xs ++ x ∷ []) ps)
  where
    go : (n : Option Float) → ((x : Float) → continued (grown (xs ++ x ∷ [])) ps ≡ together (xs ++ x ∷ []) (numbers_in ps)) →
        continued (extended (grown xs) n) ps ≡ together xs (alongside n (numbers_in ps))
    go None more = ap (λ (f : Option Value). continued f ps) (no_more (grown xs)) ∙ unread ps
    go (Some x) more = ap (λ (f : Option Value). continued f ps) (one_more xs x) ∙ more x ∙ together-more xs x (numbers_in ps)

-- of at least one part
some-made : (n : Option Float) (ns : Numbers) → made (alongside n ns) ≡ together [] (alongside n ns)
some-made None ns = refl
some-made (Some x) wrong = refl
some-made (Some x) (all xs) = refl

all_read : {p : List ℕ} {ps : List (List ℕ)} (qs : List (List ℕ)) → qs ≡ p ∷ ps → made (numbers_in qs) ≡ continued (Some Undefined) qs
all_read {p} {ps} qs e = rw e (some-made (numeral_of p) (numbers_in ps) ∙ sym (reads_on [] (p ∷ ps)))

-- ---- the loop

-- the parts as the library gives them
split-parts : (b : ℕ) (s : List ℕ) → slice_split (λ x. eqb x b) s ≡ parted b s
split-parts b [] = refl
split-parts b (x ∷ xs) = go (eqb x b) refl (split-parts b xs)
  where
    onto : (ps : List (List ℕ)) → onto_first x ps ≡ before x ps
    onto [] = refl
    onto (p ∷ ps) = refl

    by_left : Bool → List (List ℕ)
    by_left t = cond t ([] ∷ slice_split (λ x. eqb x b) xs) (onto_first x (slice_split (λ x. eqb x b) xs))

    by_right : Bool → List (List ℕ)
    by_right t = elim t [ true ↦ [] ∷ parted b xs | false ↦ before x (parted b xs) ]

    go : (t : Bool) → eqb x b ≡ t → slice_split (λ x. eqb x b) xs ≡ parted b xs → slice_split (λ x. eqb x b) (x ∷ xs) ≡ parted b (x ∷ xs)
    go true e rest = ap by_left e ∙ ap (λ (ps : List (List ℕ)). [] ∷ ps) rest ∙ sym (ap by_right e)
    go false e rest = ap by_left e ∙ ap (onto_first x) rest ∙ onto (parted b xs) ∙ sym (ap by_right e)

module _ (text : List ℕ) where
  -- What is read already, and then the parts that are left, give the whole.
  abbrev pub Sofar : Value → ℕ → Type 0
  Sofar v n = numbers_of text ≡ continued (Some v) (drop n (slice_split (λ x. eqb x 32) text))

  pub numbers-start : Sofar Undefined 0
  unfolding numbers_of
  numbers-start = rw (split-parts 32 text) (rw (← parts_all 32 text) (all_read (parts_from 32 text 0) (parts-on 32 text 0 (omega arith))))

  module _ (v : Value) (n : ℕ) (sofar : Sofar v n) where
    module _ (part : List ℕ) (t : (n < length (slice_split (λ x. eqb x 32) text)) × (part ≡ get_or (slice_split (λ x. eqb x 32) text) n part)) where
      numbers-on : numbers_of text ≡ continued (extended (Some v) (numeral_of part)) (drop (suc n) (slice_split (λ x. eqb x 32) text))
      numbers-on = sofar ∙ rw (drop-cons (slice_split (λ x. eqb x 32) text) n part t.0, ← t.1)

      pub no-number : None ≡ numeral_of part → None ≡ numbers_of text
      no-number e = sym (rw (← e) at numbers-on ∙ unread (drop (suc n) (slice_split (λ x. eqb x 32) text)))

      module _ (x : Float) (e : Some x ≡ numeral_of part) where
        pub too-many : None ≡ longer v x → None ≡ numbers_of text
        too-many k = sym (rw (← e, ← k) at numbers-on ∙ unread (drop (suc n) (slice_split (λ x. eqb x 32) text)))

        pub one-on : (v' : Value) → Some v' ≡ longer v x → Sofar v' (suc n)
        one-on v' k = rw (← e, ← k) at numbers-on

    pub numbers-end : n ≡ length (slice_split (λ x. eqb x 32) text) → Some v ≡ numbers_of text
    numbers-end e = sym (sofar ∙ ap (continued (Some v)) (drop_of_length-le (slice_split (λ x. eqb x 32) text) {i = n} (omega arith)))
