-- Each node of a derived tree is read from its own tokens, which stand among the text's and are found again at their places.
use mathlib.Core.Path.{◌≡◌, refl, ap, sym, subst, ◌∙◌}
use mathlib.Core.Bool.{Bool, true, false, cond, ◌&&◌, and-eq-true_iff}
use mathlib.Core.List.{List, [], ◌∷◌, ◌++◌, append_assoc, append-nil}
use Prim.Native.Nat.{ℕ, zero, suc, ◌+◌, ◌-◌, ◌<◌, ◌≤◌}
use native.Mathlib.Omega.{arith}
use borrow.Author.Tests.{eqb-true, ltb-true, ltb-false, leb-true}
use lib.Dec.{eqb, ltb, leb}
use lib.ListN.{length}
use Rattle.lexer.specs.Punctuator.{punctuators}
use Rattle.lexer.specs.Refusal.{fine}
use Rattle.lexer.specs.Token.{literal_words, lexeme_at, string_meaning}
use Rattle.lexer.specs.Tokens.{Placed, placed, Lexed, tokens, bad_at, after, onward, tokens_in, tokens_from, tokens_of}
use Rattle.lexer.specs.declared.token.Token.{Token}
use Rattle.lexer.specs.declared.token.Token.TheVariants.{Number, String, Variable, Word, Punctuator}
use Rattle.lexer.specs.declared.token.Lexeme.{Lexeme}
use Rattle.lexer.specs.declared.token.Lexeme.TheVariants.{Found, Bad, End}
use Rattle.lexer.proofs.Found.{found-again}
use Rattle.tree.specs.Tree.{Tree, Arguments}
use Rattle.tree.specs.Tree as tree
use Rattle.syntax.specs.Symbol.{question, colon, open_round, close_round, open_square, close_square, comma, dot, indices, number_of, symbol_at}
use Rattle.syntax.specs.Symbol.{is, is_literal, form_of, is_index, index_of, is_word, precedence_of, levels, has_precedence, function_of, member_of}
use Rattle.syntax.specs.Symbol as symbol
use Rattle.syntax.specs.Grammar.{Nonterminal, expression, binary, unary, postfix, primary, arguments, TreeOf, ‹◌›, Derives}
use Rattle.syntax.specs.Grammar.{expression-binary, conditional, binary-unary, binary-lower, binary-operation, unary-postfix}
use Rattle.syntax.specs.Grammar.{unary-operation, postfix-primary, member, index, literal, variable, bare, call, brackets, last}
use Rattle.syntax.specs.Grammar.{next}
use Rattle.syntax.specs.Place.{symbol_in, symbols_of}
use Rattle.syntax.specs.Names.{string_at}
use Rattle.syntax.specs.Judge.{judged_of}
use Rattle.syntax.specs.Anchored.{Among, ReadFrom, Read, IsLiteral, At, Called, Picked, Anchored, AnchoredAll}
use Rattle.syntax.specs.Anchored as anchored
use Rattle.syntax.specs.declared.symbol.Symbol.{Symbol}
use Rattle.syntax.proofs.Law.Levels.{operator-number, prefix-operator}
use Rattle.syntax.proofs.Grammar.Judged.{judged-fine}
use Rattle.syntax.proofs.Grammar.Lists.{Each, each_none, each_more, Cut, cut, cutting, Joined, joined, joining}

-- ---- the token of a symbol, by its number

in-range : (n m k : ℕ) → leb n k && leb k m ≡ true → (n ≤ k) × (k ≤ m)
in-range n m k e = let h = (and-eq-true_iff (leb n k) (leb k m)).0 e in (leb-true n k h.0, leb-true k m h.1)

-- Each form of token, by its number: an index or another number, a literal word or another, a punctuator or nothing that is listed.
data Form : Token → ℕ → Type 0 where
  an-index : (d : ℕ) → d < indices → Form (Number d 0) (22 + d)
  a-number : (d k : ℕ) → Form (Number d k) 26
  a-string : Form String 27
  a-literal : (k : ℕ) → k < length literal_words → Form (Word k) (28 + k)
  a_word : (k : ℕ) → length literal_words ≤ k → Form (Word k) 34
  a-variable : Form Variable 35
  a-sign : (k : ℕ) → k < length punctuators → Form (Punctuator k) k
  unlisted : (k : ℕ) → Form (Punctuator k) 37

form-of : (t : Token) → Form t (number_of t)
form-of (Number d k) = go (eqb k 0) (ltb d indices) refl refl
  where
    go : (b c : Bool) → eqb k 0 ≡ b → ltb d indices ≡ c → Form (Number d k) (cond (b && c) (22 + d) 26)
    go true true e f = subst (λ (k : ℕ). Form (Number d k) (22 + d)) (sym (eqb-true k 0 e)) (an-index d (ltb-true d indices f))
    go true false e f = a-number d k
    go false c e f = a-number d k
form-of String = a-string
form-of Variable = a-variable
form-of (Word k) = go (ltb k 6) refl
  where
    go : (b : Bool) → ltb k 6 ≡ b → Form (Word k) (cond b (28 + k) 34)
    go true e = a-literal k (ltb-true k 6 e)
    go false e = a_word k (ltb-false k 6 e)
form-of (Punctuator k) = go (ltb k 22) refl
  where
    go : (b : Bool) → ltb k 22 ≡ b → Form (Punctuator k) (cond b k 37)
    go true e = a-sign k (ltb-true k 22 e)
    go false e = unlisted k

sign-token : {t : Token} {n : ℕ} → Form t n → n < 22 → t ≡ Punctuator n
sign-token (an-index d l) h = absurd (omega arith)
sign-token (a-number d k) h = absurd (omega arith)
sign-token a-string h = absurd (omega arith)
sign-token (a-literal k l) h = absurd (omega arith)
sign-token (a_word k l) h = absurd (omega arith)
sign-token a-variable h = absurd (omega arith)
sign-token (a-sign k l) h = refl
sign-token (unlisted k) h = absurd (omega arith)

-- a punctuator of a number that the grammar names
mark-token : (n : ℕ) (t : Token) → number_of t ≡ n → n < 22 → t ≡ Punctuator n
mark-token n t e small = sign-token (form-of t) (omega arith) ∙ ap Punctuator e

literal-token : {t : Token} {n : ℕ} → Form t n → 22 ≤ n → n ≤ 33 → IsLiteral t (n - 26)
literal-token (an-index d l) h i = let small : d < 4 = l in subst (λ (k : ℕ). IsLiteral (Number d 0) k) (omega arith) (anchored.number d 0)
literal-token (a-number d k) h i = anchored.number d k
literal-token a-string h i = anchored.string
literal-token (a-literal k l) h i = subst (λ (n : ℕ). IsLiteral (Word k) n) (omega arith) (anchored.word k l)
literal-token (a_word k l) h i = absurd (omega arith)
literal-token a-variable h i = absurd (omega arith)
literal-token (a-sign k l) h i = let small : k < 22 = l in absurd (omega arith)
literal-token (unlisted k) h i = absurd (omega arith)

index-token : {t : Token} {n : ℕ} → Form t n → 22 ≤ n → n ≤ 25 → (t ≡ Number (n - 22) 0) × (n - 22 < indices)
index-token (an-index d l) h i = let e : d ≡ 22 + d - 22 = omega arith in (ap (λ (d : ℕ). Number d 0) e, subst (λ (d : ℕ). d < indices) e l)
index-token (a-number d k) h i = absurd (omega arith)
index-token a-string h i = absurd (omega arith)
index-token (a-literal k l) h i = absurd (omega arith)
index-token (a_word k l) h i = absurd (omega arith)
index-token a-variable h i = absurd (omega arith)
index-token (a-sign k l) h i = let small : k < 22 = l in absurd (omega arith)
index-token (unlisted k) h i = absurd (omega arith)

-- a literal word or another
word-token : {t : Token} {n : ℕ} → Form t n → 28 ≤ n → n ≤ 34 → (k : ℕ) × (t ≡ Word k) × (n ≡ 34 → length literal_words ≤ k)
word-token (an-index d l) h i = let small : d < 4 = l in absurd (omega arith)
word-token (a-number d k) h i = absurd (omega arith)
word-token a-string h i = absurd (omega arith)
word-token (a-literal k l) h i = let small : k < 6 = l in (k, refl, λ e. absurd (omega arith))
word-token (a_word k l) h i = (k, refl, λ e. l)
word-token a-variable h i = absurd (omega arith)
word-token (a-sign k l) h i = let small : k < 22 = l in absurd (omega arith)
word-token (unlisted k) h i = absurd (omega arith)

variable-token : {t : Token} {n : ℕ} → Form t n → n ≡ 35 → t ≡ Variable
variable-token (an-index d l) h = let small : d < 4 = l in absurd (omega arith)
variable-token (a-number d k) h = absurd (omega arith)
variable-token a-string h = absurd (omega arith)
variable-token (a-literal k l) h = let small : k < 6 = l in absurd (omega arith)
variable-token (a_word k l) h = absurd (omega arith)
variable-token a-variable h = refl
variable-token (a-sign k l) h = let small : k < 22 = l in absurd (omega arith)
variable-token (unlisted k) h = absurd (omega arith)

-- ---- tokens that are seen as symbols

abbrev Sees : Symbol → Placed → Type 0
Sees x u = symbol_in u ≡ x

abbrev Seen : List Symbol → List Placed → Type 0
Seen xs us = Each Sees xs us

seen_of : (us : List Placed) → Seen (symbols_of us) us
seen_of [] = each_none
seen_of (u ∷ us) = each_more refl (seen_of us)

module _ {ts : List Placed} where
  front : (us vs : List Placed) → Among ts (us ++ vs) → Among ts us
  front us vs (b, a, e) = (b, vs ++ a, e ∙ ap (λ l. l ++ a) (sym (append_assoc b us vs)) ∙ append_assoc (b ++ us) vs a)

  back : (us vs : List Placed) → Among ts (us ++ vs) → Among ts vs
  back us vs (b, a, e) = (b ++ us, a, e ∙ ap (λ l. l ++ a) (sym (append_assoc b us vs)))

  -- the last two of three
  behind : (us vs ws : List Placed) → Among ts (us ++ vs ++ ws) → Among ts (vs ++ ws)
  behind us vs ws a = back us (vs ++ ws) (subst (Among ts) (append_assoc us vs ws) a)

-- ---- nodes

module _ (text : List ℕ) (Stand : List Placed → Type 0) where
  sign_at : (n : ℕ) (u : Placed) {x : Symbol} → symbol_in u ≡ x → x.number ≡ n → n < 22 → Stand (u ∷ []) →
      At text Stand (Punctuator n) x.at
  sign_at n (placed t at until) e h small s =
      let token = mark-token n t (ap (λ (x : Symbol). x.number) e ∙ h) small in
      subst (λ (x : Symbol). At text Stand (Punctuator n) x.at) e (until, subst (λ (t : Token). Stand (placed t at until ∷ [])) token s)

  variable-at : (u : Placed) {x : Symbol} → symbol_in u ≡ x → is symbol.variable x ≡ true → Stand (u ∷ []) → At text Stand Variable x.at
  variable-at (placed t at until) {x} e h s =
      let number : number_of t ≡ 35 = ap (λ (x : Symbol). x.number) e ∙ eqb-true x.number 35 h in
      subst (λ (x : Symbol). At text Stand Variable x.at) e (until, subst (λ (t : Token). Stand (placed t at until ∷ [])) (variable-token (form-of t) number) s)

  literal-at : (u : Placed) {x : Symbol} → symbol_in u ≡ x → is_literal x ≡ true → Stand (u ∷ []) →
      (t : Token) × IsLiteral t (form_of x) × At text Stand t x.at
  literal-at (placed t at until) {x} e h s =
      let r = in-range 22 33 (number_of t) (subst (λ (x : Symbol). is_literal x ≡ true) (sym e) h) in
      subst (λ (x : Symbol). (t : Token) × IsLiteral t (form_of x) × At text Stand t x.at) e (t, literal-token (form-of t) r.0 r.1, (until, s))

  called_at : (u v : Placed) {x y : Symbol} → symbol_in u ≡ x → symbol_in v ≡ y → is symbol.word x ≡ true → is open_round y ≡ true →
      Stand (u ∷ v ∷ []) →
      Called text Stand x.at (function_of text x)
  called_at (placed t at until) (placed t' at' until') {x} {y} e f h i s =
      let number : number_of t ≡ 34 = ap (λ (x : Symbol). x.number) e ∙ eqb-true x.number 34 h in
      let w = word-token (form-of t) (omega arith) (omega arith) in
      let bracket = mark-token open_round t' (ap (λ (x : Symbol). x.number) f ∙ eqb-true y.number open_round i) (omega arith) in
      let stand = subst (λ (t : Token). Stand (placed t at until ∷ placed t' at' until' ∷ [])) w.1 s in
      subst (λ (x : Symbol). Called text Stand x.at (function_of text x)) e (record {
        number = w.0;
        until = until;
        bracket = at';
        end = until';
        stand = subst (λ (t : Token). Stand (placed (Word w.0) at until ∷ placed t at' until' ∷ [])) bracket stand;
        named = refl;
        other = w.2 number;
      })

  member-at : (u v : Placed) {x y : Symbol} → symbol_in u ≡ x → symbol_in v ≡ y → is dot x ≡ true → is_word y ≡ true → Stand (u ∷ v ∷ []) →
      Picked text Stand x.at (member_of text y)
  member-at (placed t at until) (placed t' at' until') {x} {y} e f h i s =
      let sign = mark-token dot t (ap (λ (x : Symbol). x.number) e ∙ eqb-true x.number dot h) (omega arith) in
      let r = in-range 28 34 (number_of t') (subst (λ (x : Symbol). is_word x ≡ true) (sym f) i) in
      let w = word-token (form-of t') r.0 r.1 in
      let stand = subst (λ (t : Token). Stand (placed t at until ∷ placed t' at' until' ∷ [])) sign s in
      let own = anchored.member w.0 until at' until' (subst (λ (t : Token). Stand (placed (Punctuator dot) at until ∷ placed t at' until' ∷ [])) w.1 stand) in
      subst (λ (x : Symbol). Picked text Stand x.at (member_of text y)) e (subst (λ (y : Symbol). Picked text Stand at (member_of text y)) f own)

  index_at : (u v w : Placed) {x y z : Symbol} → symbol_in u ≡ x → symbol_in v ≡ y → symbol_in w ≡ z → is open_square x ≡ true →
      is_index y ≡ true → is close_square z ≡ true →
      Stand (u ∷ v ∷ w ∷ []) → Picked text Stand x.at (index_of y)
  index_at (placed t at until) (placed t' at' until') (placed t'' at'' until'') {x} {y} {z} e f g h i j s =
      let sign = mark-token open_square t (ap (λ (x : Symbol). x.number) e ∙ eqb-true x.number open_square h) (omega arith) in
      let sign'' = mark-token close_square t'' (ap (λ (x : Symbol). x.number) g ∙ eqb-true z.number close_square j) (omega arith) in
      let r = in-range 22 25 (number_of t') (subst (λ (x : Symbol). is_index x ≡ true) (sym f) i) in
      let d = index-token (form-of t') r.0 r.1 in
      let one = subst (λ (t : Token). Stand (placed t at until ∷ placed t' at' until' ∷ placed t'' at'' until'' ∷ [])) sign s in
      let two = subst (λ (t : Token). Stand (placed (Punctuator open_square) at until ∷ placed t at' until' ∷ placed t'' at'' until'' ∷ [])) d.0 one in
      let all = subst (λ (t : Token). Stand (placed (Punctuator open_square) at until ∷ placed (Number (number_of t' - 22) 0) at' until' ∷ placed t at'' until'' ∷ [])) sign'' two in
      let own = anchored.index (number_of t' - 22) until at' until' at'' until'' d.1 all in
      subst (λ (x : Symbol). Picked text Stand x.at (index_of y)) e (subst (λ (y : Symbol). Picked text Stand at (index_of y)) f own)

-- ---- trees

module _ (text : List ℕ) (Stand : List Placed → Type 0) (ts : List Placed) (stand : (us : List Placed) → Among ts us → Stand us) where
  abbrev Holds : (N : Nonterminal) → TreeOf N → Type 0
  Holds expression e = Anchored text Stand e
  Holds (binary k) e = Anchored text Stand e
  Holds unary e = Anchored text Stand e
  Holds postfix e = Anchored text Stand e
  Holds primary e = Anchored text Stand e
  Holds arguments xs = AnchoredAll text Stand xs

  -- wherever its symbols are seen
  abbrev Held : (N : Nonterminal) → List Symbol → TreeOf N → Type 0
  Held N xs e = (us : List Placed) → Seen xs us → Among ts us → Holds N e

  one_at : (n : ℕ) (u : Placed) {x : Symbol} → symbol_in u ≡ x → is n x ≡ true → n < 22 → Among ts (u ∷ []) →
      At text Stand (Punctuator n) x.at
  one_at n u {x} e h small a = sign_at text Stand n u e (eqb-true x.number n h) small (stand (u ∷ []) a)

  module _ {xs ys : List Symbol} (x : Symbol) where
    conditional-held : {zs : List Symbol} (c a b : Tree) (y : Symbol) → is question x ≡ true → is colon y ≡ true →
        Held (binary levels) xs c → Held expression ys a → Held expression zs b →
        Held expression (xs ++ ‹ x › ++ ys ++ ‹ y › ++ zs) (tree.conditional x.at y.at c a b)
    unfolding Anchored
    conditional-held {zs} c a b y h i hc ha hb us s m = go us (joining Sees (xs ++ ‹ x › ++ ys) y zs s) m
      where
        inner : (vs ws : List Placed) (v : Placed) → symbol_in v ≡ y → Seen zs ws → Joined Sees xs x ys vs →
            Among ts (vs ++ (v ∷ []) ++ ws) → Anchored text Stand (tree.conditional x.at y.at c a b)
        inner _ ws v f sb (joined {us = cs} {vs = bs} u e sc sa) m =
            let first = front (cs ++ (u ∷ []) ++ bs) (v ∷ []) (front (cs ++ (u ∷ []) ++ bs ++ (v ∷ [])) ws m) in (
              one_at question u e h (omega arith) (back cs (u ∷ []) (front (cs ++ (u ∷ [])) bs first)),
              one_at colon v f i (omega arith) (back (cs ++ (u ∷ []) ++ bs) (v ∷ []) (front (cs ++ (u ∷ []) ++ bs ++ (v ∷ [])) ws m)),
              hc cs sc (front cs (u ∷ []) (front (cs ++ (u ∷ [])) bs first)),
              ha bs sa (back (cs ++ (u ∷ [])) bs first),
              hb ws sb (back (cs ++ (u ∷ []) ++ bs ++ (v ∷ [])) ws m),
            )

        go : (us : List Placed) → Joined Sees (xs ++ ‹ x › ++ ys) y zs us → Among ts us →
            Anchored text Stand (tree.conditional x.at y.at c a b)
        go _ (joined {us = vs} {vs = ws} v f l sb) m = inner vs ws v f sb (joining Sees xs x ys l) m

    binary-held : (l r : Tree) (k : ℕ) → has_precedence (suc k) x ≡ true → Held (binary (suc k)) xs l → Held (binary k) ys r →
        Held (binary (suc k)) (xs ++ ‹ x › ++ ys) (tree.binary x.at x.number l r)
    unfolding Anchored
    binary-held l r k h hl hr us s m = go us (joining Sees xs x ys s) m
      where
        go : (us : List Placed) → Joined Sees xs x ys us → Among ts us → Anchored text Stand (tree.binary x.at x.number l r)
        go _ (joined {us = ls} {vs = bs} u e sl sr) m =
            let o = operator-number x.number k (eqb-true (precedence_of x.number) (suc k) h) in
            let left = front (ls ++ (u ∷ [])) bs m in
            (sign_at text Stand x.number u e refl (omega (arith, o)) (stand (u ∷ []) (back ls (u ∷ []) left)), hl ls sl (front ls (u ∷ []) left), hr bs sr (back (ls ++ (u ∷ [])) bs m))

    next-held : (e : Tree) (args : Arguments) → is comma x ≡ true → Held expression xs e → Held arguments ys args →
        Held arguments (xs ++ ‹ x › ++ ys) (tree.next e x.at args)
    unfolding Anchored
    next-held e args h he hs us s m = go us (joining Sees xs x ys s) m
      where
        go : (us : List Placed) → Joined Sees xs x ys us → Among ts us → AnchoredAll text Stand (tree.next e x.at args)
        go _ (joined {us = ls} {vs = bs} u f sl sr) m =
            let left = front (ls ++ (u ∷ [])) bs m in
            (he ls sl (front ls (u ∷ []) left), one_at comma u f h (omega arith) (back ls (u ∷ []) left), hs bs sr (back (ls ++ (u ∷ [])) bs m))

  module _ {xs : List Symbol} (e : Tree) (x y : Symbol) where
    member-held : is dot x ≡ true → is_word y ≡ true → Held postfix xs e →
        Held postfix (xs ++ ‹ x › ++ ‹ y ›) (tree.pick x.at (member_of text y) e)
    unfolding Anchored
    member-held h i he us s m = go us (joining Sees xs x ‹ y › s) m
      where
        go : (us : List Placed) → Joined Sees xs x ‹ y › us → Among ts us → Anchored text Stand (tree.pick x.at (member_of text y) e)
        go _ (joined {us = ls} u f sl (each_more {y = v} g each_none)) m =
            (member-at text Stand u v f g h i (stand (u ∷ v ∷ []) (behind ls (u ∷ []) (v ∷ []) m)), he ls sl (front ls (u ∷ []) (front (ls ++ (u ∷ [])) (v ∷ []) m)))

    index-held : (z : Symbol) → is open_square x ≡ true → is_index y ≡ true → is close_square z ≡ true → Held postfix xs e →
        Held postfix (xs ++ ‹ x › ++ ‹ y › ++ ‹ z ›) (tree.pick x.at (index_of y) e)
    unfolding Anchored
    index-held z h i j he us s m = go us (joining Sees (xs ++ ‹ x ›) y ‹ z › s) m
      where
        inner : (vs : List Placed) (v w : Placed) → symbol_in v ≡ y → symbol_in w ≡ z → Cut Sees xs ‹ x › vs →
            Among ts (vs ++ (v ∷ []) ++ (w ∷ [])) → Anchored text Stand (tree.pick x.at (index_of y) e)
        inner _ v w g g' (cut {us = ls} sl (each_more {y = u} f each_none)) m =
            let all = back ls (u ∷ v ∷ w ∷ []) (subst (Among ts) (append_assoc ls (u ∷ v ∷ []) (w ∷ [])) (subst (λ l. Among ts (l ++ (w ∷ []))) (append_assoc ls (u ∷ []) (v ∷ [])) m)) in
            (index_at text Stand u v w f g g' h i j (stand (u ∷ v ∷ w ∷ []) all), he ls sl (front ls (u ∷ []) (front (ls ++ (u ∷ [])) (v ∷ []) (front (ls ++ (u ∷ []) ++ (v ∷ [])) (w ∷ []) m))))

        go : (us : List Placed) → Joined Sees (xs ++ ‹ x ›) y ‹ z › us → Among ts us → Anchored text Stand (tree.pick x.at (index_of y) e)
        go _ (joined {us = vs} v g l (each_more {y = w} g' each_none)) m = inner vs v w g g' (cutting Sees xs ‹ x › l) m

    brackets-held : is open_round x ≡ true → is close_round y ≡ true → Held expression xs e → Held primary (‹ x › ++ xs ++ ‹ y ›) e
    brackets-held h i he _ (each_more {y = u} f s) m = go _ (cutting Sees xs ‹ y › s) m
      where
        go : (vs : List Placed) → Cut Sees xs ‹ y › vs → Among ts (u ∷ vs) → Anchored text Stand e
        go _ (cut {us = ls} sl (each_more {y = v} g each_none)) m = he ls sl (back (u ∷ []) ls (front (u ∷ ls) (v ∷ []) m))

  call-held : {xs : List Symbol} (args : Arguments) (x y z : Symbol) → is symbol.word x ≡ true → is open_round y ≡ true →
      is close_round z ≡ true → Held arguments xs args →
      Held primary (‹ x › ++ ‹ y › ++ xs ++ ‹ z ›) (tree.call x.at (function_of text x) args)
  unfolding Anchored
  call-held {xs} args x y z h i j hs _ (each_more {y = u} e (each_more {y = v} f s)) m = go _ (cutting Sees xs ‹ z › s) m
    where
      go : (vs : List Placed) → Cut Sees xs ‹ z › vs → Among ts (u ∷ v ∷ vs) →
          Anchored text Stand (tree.call x.at (function_of text x) args)
      go _ (cut {us = ls} sl (each_more {y = w} g each_none)) m =
          let most = front (u ∷ v ∷ ls) (w ∷ []) m in
          (called_at text Stand u v e f h i (stand (u ∷ v ∷ []) (front (u ∷ v ∷ []) ls most)), hs ls sl (back (u ∷ v ∷ []) ls most))

  held : {N : Nonterminal} {xs : List Symbol} {e : TreeOf N} → Derives text N xs e → Held N xs e
  unfolding Anchored
  held (expression-binary d) us s m = held d us s m
  held (conditional {c = c} {a = a} {b = b} x y h i d d₁ d₂) us s m = conditional-held x c a b y h i (λ us s m. held d us s m) (λ us s m. held d₁ us s m) (λ us s m. held d₂ us s m) us s m
  held (binary-unary d) us s m = held d us s m
  held (binary-lower d) us s m = held d us s m
  held (binary-operation {k} {a = a} {b = b} x h d d₁) us s m = binary-held x a b k h (λ us s m. held d us s m) (λ us s m. held d₁ us s m) us s m
  held (unary-postfix d) us s m = held d us s m
  held (unary-operation x h d) _ (each_more {y = u} {ys = us} e s) m =
      (sign_at text Stand x.number u e refl (omega (arith, prefix-operator x h)) (stand (u ∷ []) (front (u ∷ []) us m)), held d us s (back (u ∷ []) us m))
  held (postfix-primary d) us s m = held d us s m
  held (member {e = e} x y h i d) us s m = member-held e x y h i (λ us s m. held d us s m) us s m
  held (index {e = e} x y z h i j d) us s m = index-held e x y z h i j (λ us s m. held d us s m) us s m
  held (literal x h) _ (each_more {y = u} e each_none) m = literal-at text Stand u e h (stand (u ∷ []) m)
  held (variable x h) _ (each_more {y = u} e each_none) m = variable-at text Stand u e h (stand (u ∷ []) m)
  held (bare x y z h i j) _ (each_more {y = u} e (each_more {y = v} f (each_more {y = w} g each_none))) m = called_at text Stand u v e f h i (stand (u ∷ v ∷ []) (front (u ∷ v ∷ []) (w ∷ []) m))
  held (call {args = args} x y z h i j d) us s m = call-held args x y z h i j (λ us s m. held d us s m) us s m
  held (brackets {e = e} x y h i d) us s m = brackets-held e x y h i (λ us s m. held d us s m) us s m
  held (last d) us s m = held d us s m
  held (next {e = e} {args = args} x h d d₁) us s m = next-held x e args h (λ us s m. held d us s m) (λ us s m. held d₁ us s m) us s m

-- ---- the tree of some tokens

-- Each node of a derived tree has its own tokens among those that the tree is derived of.
pub anchored-among : (text : List ℕ) (ts : List Placed) (e : Tree) → Derives text expression (symbols_of ts) e → Anchored text (Among ts) e
anchored-among text ts e d = held text (Among ts) ts (λ us a. a) d ts (seen_of ts) ([], [], sym (append-nil ts))

-- ---- the tree of a text

module _ (text : List ℕ) where
  abbrev Reading : ℕ → Lexed → Type 0
  Reading from (tokens ts) = ReadFrom text from ts
  Reading from (bad_at p) = Unit {0}

  reading-after : (from : ℕ) (t : Token) (at until : ℕ) (l : Lexed) → lexeme_at text from ≡ Found t at until → Reading until l →
      Reading from (after (placed t at until) l)
  reading-after from t at until (tokens ts) e h = (e, h)
  reading-after from t at until (bad_at p) e h = tt

  -- the tokens of a text are read one after another
  reading : (f from : ℕ) → Reading from (tokens_in f text from)
  unfolding tokens_in
  reading zero from = tt
  reading (suc f) from = go (lexeme_at text from) refl (reading f)
    where
      go : (x : Lexeme) → lexeme_at text from ≡ x → ((until : ℕ) → Reading until (tokens_in f text until)) →
          Reading from (onward x (tokens_in f text))
      go (Found t at until) e rest = reading-after from t at until (tokens_in f text until) e (rest until)
      go (Bad at until) e rest = tt
      go End e rest = tt

  read-front : (from : ℕ) (us vs : List Placed) → ReadFrom text from (us ++ vs) → ReadFrom text from us
  read-front from [] vs h = tt
  read-front from (placed t at until ∷ us) vs h = (h.0, read-front until us vs h.1)

  read_back : (from : ℕ) (us vs : List Placed) → ReadFrom text from (us ++ vs) → (place : ℕ) × ReadFrom text place vs
  read_back from [] vs h = (from, h)
  read_back from (placed t at until ∷ us) vs h = read_back until us vs h.1

  own-place : (from : ℕ) (us : List Placed) → ReadFrom text from us → Read text us
  own-place from [] h = tt
  own-place from (placed t at until ∷ us) h = (found-again text from t at until h.0, h.1)

  read-among : (ts : List Placed) → tokens_of text ≡ tokens ts → (us : List Placed) → Among ts us → Read text us
  unfolding tokens_from
  read-among ts e us (b, a, f) =
      let all = subst (Reading 0) e (reading (suc (length text)) 0) in
      let (from, h) = read_back 0 b us (read-front 0 (b ++ us) a (subst (ReadFrom text 0) f all)) in
      own-place from us h

  -- Each node of the tree of a text finds its own tokens again at its place.
  pub anchored-read : (ts : List Placed) (e : Tree) → tokens_of text ≡ tokens ts → Derives text expression (symbols_of ts) e →
      Anchored text (Read text) e
  anchored-read ts e lexed d = held text (Read text) ts (read-among ts lexed) d ts (seen_of ts) ([], [], sym (append-nil ts))

  -- So does each of the tree that is judged fine.
  pub judged-anchored : (e : Tree) → judged_of text ≡ fine e → Anchored text (Read text) e
  judged-anchored e h = let (ts, s, d) = judged-fine text e h in anchored-read ts e s.lexed d

  -- What `Names.antt` reads again is there: the word behind a dot, and what a string means.
  pub word-again : (p k end at until : ℕ) → Read text (placed (Punctuator dot) p end ∷ placed (Word k) at until ∷ []) →
      (symbol_at text (symbol_at text p).end).at ≡ at
  unfolding symbol_at
  word-again p k end at until h = rw (h.0, h.1.0)

  pub string-again : (q until : ℕ) → Read text (placed String q until ∷ []) → string_at text q ≡ string_meaning text q until
  unfolding symbol_at
  string-again q until h = rw h.0
