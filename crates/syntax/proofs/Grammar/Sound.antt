-- What the parser takes the grammar derives, and what it took before a refusal begins something right.
use mathlib.Core.Path.{◌≡◌, refl}
use mathlib.Core.Bool.{Bool, true, false}
use mathlib.Core.List.{List, [], ◌∷◌, ◌++◌, append_assoc, append-nil, map-append}
use Prim.Native.Nat.{ℕ, zero, suc}
use Rattle.lexer.specs.Tokens.{Placed, placed}
use Rattle.lexer.specs.declared.token.Token.{Token}
use Rattle.lexer.specs.declared.token.Token.TheVariants.{Number, Word, Punctuator}
use Rattle.tree.specs.Tree.{Tree, Arguments}
use Rattle.tree.specs.Tree as tree
use Rattle.syntax.specs.Symbol.{question, colon, open_round, close_round, open_square, close_square, comma, dot, word, seen, is, is_literal, is_index, is_word, is_prefix, levels, has_precedence, function_of}
use Rattle.syntax.specs.Symbol as symbol
use Rattle.syntax.specs.Grammar.{expression, binary, unary, postfix, primary, arguments, ‹◌›, Derives, expression-binary}
use Rattle.syntax.specs.Grammar.{conditional, binary-unary, binary-lower, binary-operation, unary-postfix, unary-operation}
use Rattle.syntax.specs.Grammar.{postfix-primary, member, index, literal, variable, bare, call, brackets, last, next}
use Rattle.syntax.specs.Place.{symbols_of}
use Rattle.syntax.specs.Parser.{Parse, part, refused, spent, nothing, on_part, and_then, tested, ask, expect, at_end, Branches}
use Rattle.syntax.specs.Parser.{branches, chosen, expression_from, branches_from, level_from, tail_from, unary_from, postfix_from}
use Rattle.syntax.specs.Parser.{picks_from, primary_from, call_from, arguments_from}
use Rattle.syntax.specs.declared.symbol.Symbol.{Symbol}
use Rattle.syntax.proofs.Grammar.Lists.{Parser, uncons}

-- ---- what is said

-- there are tokens with which these are something of the language P
pub record Opens {A : Type 0} (P : List Symbol → A → Type 0) (xs : List Symbol) : Type 0 where
  pub more : List Placed
  pub value : A
  pub right : P (xs ++ symbols_of more) value

-- what may be answered of the symbols s
abbrev pub Fair : {A : Type 0} → (List Symbol → A → Type 0) → List Symbol → Parse (List Symbol) A → Type 0
Fair P s (part a r) = (xs : List Symbol) × (s ≡ xs ++ r) × P xs a
Fair P s (refused r) = (xs : List Symbol) × (s ≡ xs ++ r) × Opens P xs
Fair P s spent = Unit {0}

-- m goes on with something of the language P of which p has been taken
pub record Sound {A : Type 0} (P : List Symbol → A → Type 0) (p : List Symbol) (m : Parser A) : Type 0 where
  pub opens : Opens P p
  pub fair : (s : List Symbol) → Fair P (p ++ s) (m s)

-- ---- the pieces

module _ {A : Type 0} {P : List Symbol → A → Type 0} where
  shorter : (p : List Symbol) (ts : List Placed) → Opens P (p ++ symbols_of ts) → Opens P p
  shorter p ts o = record { more = ts ++ o.more; value = o.value; right = rw (map-append, ← append_assoc) o.right }

  whole_of : {p : List Symbol} (a : A) → P p a → Opens P p
  whole_of a d = record { more = []; value = a; right = rw append-nil d }

  sound-part : {p : List Symbol} {a : A} → P p a → Sound P p (part a)
  sound-part {p} {a} d = record { opens = whole_of a d; fair = λ s. (p, refl, d) }

  sound-refused : {p : List Symbol} → Opens P p → Sound P p refused
  sound-refused {p} o = record { opens = o; fair = λ s. (p, refl, o) }

  sound-nothing : {p : List Symbol} → Opens P p → Sound P p nothing
  sound-nothing o = record { opens = o; fair = λ s. tt }

  pub sound-end : {p : List Symbol} (a : A) → P p a → Sound P p (at_end uncons a)
  unfolding at_end
  sound-end {p} a d = record { opens = whole_of a d; fair = go }
    where
      go : (s : List Symbol) → Fair P (p ++ s) (at_end uncons a s)
      go [] = (p, refl, d)
      go (x ∷ s) = (p, refl, whole_of a d)

  module _ {p : List Symbol} {y : Symbol → Parser A} {n : Parser A} where
    sound-ask : (test : Symbol → Bool) → ((x : Symbol) → test x ≡ true → Sound P (p ++ ‹ x ›) (y x)) → Sound P p n → Sound P p (ask uncons test y n)
    unfolding ask
    sound-ask test a b = record { opens = b.opens; fair = go }
      where
        asked : (x : Symbol) (s : List Symbol) (w : Bool) → test x ≡ w → Fair P (p ++ (x ∷ s)) (tested w (λ _. y x s) (λ _. n (x ∷ s)))
        asked x s true e = rw (← append_assoc p ‹ x › s) ((a x e).fair s)
        asked x s false e = b.fair (x ∷ s)

        go : (s : List Symbol) → Fair P (p ++ s) (ask uncons test y n s)
        go [] = b.fair []
        go (x ∷ s) = asked x s (test x) refl

  module _ {p : List Symbol} {y : Symbol → Parser A} where
    -- some token passes the test, so that what was taken before can be completed
    sound-expect : (test : Symbol → Bool) (t : Token) → test (seen t 0 0) ≡ true → ((x : Symbol) → test x ≡ true → Sound P (p ++ ‹ x ›) (y x)) → Sound P p (expect uncons test y)
    sound-expect test t h a = sound-ask test a (sound-refused (shorter p (placed t 0 0 ∷ []) (a (seen t 0 0) h).opens))

module _ {A B : Type 0} (P : List Symbol → A → Type 0) (Q : List Symbol → B → Type 0) (p : List Symbol) (k : A → Parser B) (on : (q : List Symbol) (a : A) → P q a → Sound Q (p ++ q) (k a)) where
  then-fair : (s : List Symbol) (r : Parse (List Symbol) A) → Fair P s r → Fair Q (p ++ s) (on_part r k)
  then-fair s (part a r) h = rw (h.1, ← append_assoc) ((on h.0 a h.2).fair r)
  then-fair s (refused r) h =
      let o = h.2 in
      (p ++ h.0, rw (h.1, append_assoc), shorter (p ++ h.0) o.more (rw append_assoc (on (h.0 ++ symbols_of o.more) o.value o.right).opens))
  then-fair s spent h = tt

module _ {A B : Type 0} {P : List Symbol → A → Type 0} {Q : List Symbol → B → Type 0} {p : List Symbol} {m : Parser A} {k : A → Parser B} where
  pub sound-then : Sound P [] m → ((q : List Symbol) (a : A) → P q a → Sound Q (p ++ q) (k a)) → Sound Q p (and_then m k)
  unfolding and_then
  sound-then h on = record {
    opens = let o = h.opens in shorter p o.more (on (symbols_of o.more) o.value o.right).opens;
    fair = λ s. then-fair P Q p k on s (m s) (h.fair s);
  }

-- a language that lies in another
module _ {A : Type 0} {P Q : List Symbol → A → Type 0} (up : (q : List Symbol) (a : A) → P q a → Q q a) where
  up-opens : {p : List Symbol} → Opens P p → Opens Q p
  up-opens o = record { more = o.more; value = o.value; right = up _ _ o.right }

  up-fair : (s : List Symbol) (r : Parse (List Symbol) A) → Fair P s r → Fair Q s r
  up-fair s (part a r) h = (h.0, h.1, up _ _ h.2)
  up-fair s (refused r) h = (h.0, h.1, up-opens h.2)
  up-fair s spent h = tt

  sound-up : {p : List Symbol} {m : Parser A} → Sound P p m → Sound Q p m
  sound-up {p} {m} h = record { opens = up-opens h.opens; fair = λ s. up-fair (p ++ s) (m s) (h.fair s) }

-- ---- the levels

module _ (text : List ℕ) where
  -- the branches of a conditional, with the `:` between them
  data Branched : List Symbol → Branches → Type 0 where
    branched : {xs ys : List Symbol} {a b : Tree} (y : Symbol) → is colon y ≡ true → Derives text expression xs a → Derives text expression ys b → Branched (xs ++ ‹ y › ++ ys) (branches y.at a b)

  with-branches : (cs : List Symbol) (c : Tree) (x : Symbol) (q : List Symbol) (b : Branches) → is question x ≡ true → Derives text (binary levels) cs c → Branched q b → Derives text expression (cs ++ ‹ x › ++ q) (chosen x.at c b)
  with-branches cs c x _ _ h d (branched {xs} {ys} {a} {b} y i d₁ d₂) =
      let same : cs ++ ‹ x › ++ (xs ++ ‹ y › ++ ys) ≡ cs ++ ‹ x › ++ xs ++ ‹ y › ++ ys = simp append_assoc in
      rw same (conditional x y h i d d₁ d₂)

  -- arguments, with the bracket that closes
  data Closes : List Symbol → Arguments → Type 0 where
    closes : {xs : List Symbol} {args : Arguments} (z : Symbol) → is close_round z ≡ true → Derives text arguments xs args → Closes (xs ++ ‹ z ›) args

  called : (x y : Symbol) (q : List Symbol) (args : Arguments) → is word x ≡ true → is open_round y ≡ true → Closes q args → Derives text primary (‹ x › ++ ‹ y › ++ q) (tree.call x.at (function_of text x) args)
  called x y _ _ h i (closes z j d) = call x y z h i j d

  -- a literal, `true`, is of every level
  abbrev literal-symbol : Symbol
  literal-symbol = seen (Word 0) 0 0

  abbrev leaf : Tree
  leaf = tree.literal 0 2

  leaf-primary : Derives text primary ‹ literal-symbol › leaf
  leaf-primary = literal literal-symbol refl

  leaf-binary : (k : ℕ) → Derives text (binary k) ‹ literal-symbol › leaf
  leaf-binary zero = binary-unary (unary-postfix (postfix-primary leaf-primary))
  leaf-binary (suc k) = binary-lower (leaf-binary k)

  leaf-expression : Derives text expression ‹ literal-symbol › leaf
  leaf-expression = expression-binary (leaf-binary levels)

  -- so it opens whatever it belongs to
  opened : {A : Type 0} {P : List Symbol → A → Type 0} (a : A) → P ‹ literal-symbol › a → Opens P []
  opened a d = record { more = placed (Word 0) 0 0 ∷ []; value = a; right = d }

  mutual
    unfolding expression_from

    pub expression-sound : (f : ℕ) → Sound (Derives text expression) [] (expression_from text uncons f)
    expression-sound zero = sound-nothing (opened leaf leaf-expression)
    expression-sound (suc f) =
        sound-then (level-sound f levels) (λ cs c d. sound-ask (is question) (λ x h. sound-then (branches-sound f) (λ q b d'. sound-part (with-branches cs c x q b h d d'))) (sound-part (expression-binary d)))

    branches-sound : (f : ℕ) → Sound Branched [] (branches_from text uncons f)
    branches-sound zero = sound-nothing (record { more = placed (Word 0) 0 0 ∷ placed (Punctuator 1) 0 0 ∷ placed (Word 0) 0 0 ∷ []; value = branches 0 leaf leaf; right = branched (seen (Punctuator 1) 0 0) refl leaf-expression leaf-expression })
    branches-sound (suc f) = sound-then (expression-sound f) (λ _ _ d. sound-expect (is colon) (Punctuator 1) refl (λ y i. sound-then (expression-sound f) (λ _ _ d'. sound-part (branched y i d d'))))

    level-sound : (f k : ℕ) → Sound (Derives text (binary k)) [] (level_from text uncons f k)
    level-sound zero k = sound-nothing (opened leaf (leaf-binary k))
    level-sound (suc f) zero = sound-up (λ _ _ d. binary-unary d) (unary-sound f)
    level-sound (suc f) (suc k) = sound-then (level-sound f k) (λ _ _ d. tail-sound f k (binary-lower d))

    tail-sound : (f k : ℕ) {p : List Symbol} {e : Tree} → Derives text (binary (suc k)) p e → Sound (Derives text (binary (suc k))) p (tail_from text uncons f k e)
    tail-sound zero k {p} {e} d = sound-nothing (whole_of e d)
    tail-sound (suc f) k d = sound-ask (has_precedence (suc k)) (λ x h. sound-then (level-sound f k) (λ _ _ d'. tail-sound f k (binary-operation x h d d'))) (sound-part d)

    unary-sound : (f : ℕ) → Sound (Derives text unary) [] (unary_from text uncons f)
    unary-sound zero = sound-nothing (opened leaf (unary-postfix (postfix-primary leaf-primary)))
    unary-sound (suc f) = sound-ask is_prefix (λ x h. sound-then (unary-sound f) (λ _ _ d. sound-part (unary-operation x h d))) (sound-up (λ _ _ d. unary-postfix d) (postfix-sound f))

    postfix-sound : (f : ℕ) → Sound (Derives text postfix) [] (postfix_from text uncons f)
    postfix-sound zero = sound-nothing (opened leaf (postfix-primary leaf-primary))
    postfix-sound (suc f) = sound-then (primary-sound f) (λ _ _ d. picks-sound f (postfix-primary d))

    picks-sound : (f : ℕ) {p : List Symbol} {e : Tree} → Derives text postfix p e → Sound (Derives text postfix) p (picks_from text uncons f e)
    picks-sound zero {p} {e} d = sound-nothing (whole_of e d)
    picks-sound (suc f) d =
        sound-ask (is dot) (λ x h. sound-expect is_word (Word 0) refl (λ y i. picks-sound f (member x y h i d)))
        (sound-ask (is open_square) (λ x h. sound-expect is_index (Number 0 0) refl (λ y i. sound-expect (is close_square) (Punctuator 19) refl (λ z j. picks-sound f (index x y z h i j d))))
        (sound-part d))

    primary-sound : (f : ℕ) → Sound (Derives text primary) [] (primary_from text uncons f)
    primary-sound zero = sound-nothing (opened leaf leaf-primary)
    primary-sound (suc f) =
        sound-ask is_literal (λ x h. sound-part (literal x h))
        (sound-ask (is symbol.variable) (λ x h. sound-part (variable x h))
        (sound-ask (is open_round) (λ x h. sound-then (expression-sound f) (λ _ _ d. sound-expect (is close_round) (Punctuator 17) refl (λ y i. sound-part (brackets x y h i d))))
        (sound-ask (is word) (λ x h. call-sound f x h) (sound-refused (opened leaf leaf-primary)))))

    call-sound : (f : ℕ) (x : Symbol) → is word x ≡ true → Sound (Derives text primary) ‹ x › (call_from text uncons f x)
    call-sound zero x h = sound-nothing (record { more = placed (Punctuator 16) 0 0 ∷ placed (Punctuator 17) 0 0 ∷ []; value = _; right = bare x (seen (Punctuator 16) 0 0) (seen (Punctuator 17) 0 0) h refl refl })
    call-sound (suc f) x h =
        sound-expect (is open_round) (Punctuator 16) refl (λ y i.
        sound-ask (is close_round) (λ z j. sound-part (bare x y z h i j))
        (sound-then (sound-then (arguments_sound f) (λ _ _ d. sound-expect (is close_round) (Punctuator 17) refl (λ z j. sound-part (closes z j d)))) (λ q args d. sound-part (called x y q args h i d))))

    arguments_sound : (f : ℕ) → Sound (Derives text arguments) [] (arguments_from text uncons f)
    arguments_sound zero = sound-nothing (opened (tree.last leaf) (last leaf-expression))
    arguments_sound (suc f) = sound-then (expression-sound f) (λ _ _ d. sound-ask (is comma) (λ x h. sound-then (arguments_sound f) (λ _ _ d'. sound-part (next x h d d'))) (sound-part (last d)))
