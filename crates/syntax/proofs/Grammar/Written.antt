-- A right list of tokens can be written, so what begins a right expression begins one that is a text.
use mathlib.Core.Path.{◌≡◌, refl, ap, sym, subst, ◌∙◌}
use mathlib.Core.Bool.{Bool, true, ◌&&◌, and-eq-true_iff}
use mathlib.Core.List.{List, [], ◌∷◌, ◌++◌, map, map-map, map-append}
use Prim.Native.Nat.{ℕ, zero, suc, ◌+◌, ◌<◌}
use native.Mathlib.Nat.{zero-add, add-zero}
use native.Mathlib.Omega.{arith}
use lib.Dec.{eqb}
use lib.ListN.{length, get_or, take}
use lib.Seq.{slice, take-length}
use borrow.Author.Tests.{eqb-true}
use Rattle.lexer.specs.Bytes.{ascii}
use Rattle.lexer.specs.Punctuator.{punctuators}
use Rattle.lexer.specs.Spelling.{Spells, Munch}
use Rattle.lexer.specs.Token.{literal_words, lexeme_at}
use Rattle.lexer.specs.Tokens.{Placed, placed, token_of}
use Rattle.lexer.specs.declared.token.Token.{Token}
use Rattle.lexer.specs.declared.token.Lexeme.{Lexeme}
use Rattle.lexer.specs.declared.token.Lexeme.TheVariants.{Found, Bad, End}
use Rattle.lexer.proofs.Munch.{munch}
use Rattle.lexer.proofs.Parted.{Spelled, done, more, parted}
use Rattle.syntax.specs.Symbol.{question, colon, open_round, close_round, open_square, close_square, comma, dot, word, number_of, symbol_of, symbol_at}
use Rattle.syntax.specs.Symbol as symbol
use Rattle.syntax.specs.Grammar.{Nonterminal, TreeOf, ‹◌›, Derives, expression-binary, conditional, binary-unary, binary-lower}
use Rattle.syntax.specs.Grammar.{binary-operation, unary-postfix, unary-operation, postfix-primary, member, index, literal}
use Rattle.syntax.specs.Grammar.{variable, bare, call, brackets, last, next}
use Rattle.syntax.specs.Place.{symbols_of, numbers_of, Right, Begins, RightText}
use Rattle.syntax.specs.declared.symbol.Symbol.{Symbol}
use Rattle.syntax.proofs.Laid.{low-is, low-literal, low-index, low_word, low-prefix, low-operator}
use Rattle.syntax.proofs.Grammar.Places.{places-free}

-- ---- the numbers of right symbols

-- each is the number of a token
abbrev Low : List Symbol → Type 0
Low [] = Unit {0}
Low (x ∷ xs) = (x.number < 36) × Low xs

low-append : (xs ys : List Symbol) → Low xs → Low ys → Low (xs ++ ys)
low-append [] ys h k = k
low-append (x ∷ xs) ys h k = (h.0, low-append xs ys h.1 k)

-- with a symbol between them
low-between : (xs : List Symbol) (x : Symbol) (ys : List Symbol) → Low xs → x.number < 36 → Low ys → Low (xs ++ ‹ x › ++ ys)
low-between xs x ys h l k = low-append (xs ++ ‹ x ›) ys (low-append xs ‹ x › h (l, tt)) k

module _ (text : List ℕ) where
  low_of : {N : Nonterminal} {xs : List Symbol} {e : TreeOf N} → Derives text N xs e → Low xs
  low_of (expression-binary d) = low_of d
  low_of (conditional {xs} {ys} {zs} x y h i d d₁ d₂) = low-between (xs ++ ‹ x › ++ ys) y zs (low-between xs x ys (low_of d) (low-is question (omega arith) x h) (low_of d₁)) (low-is colon (omega arith) y i) (low_of d₂)
  low_of (binary-unary d) = low_of d
  low_of (binary-lower d) = low_of d
  low_of (binary-operation {k} {xs} {ys} x h d d₁) = low-between xs x ys (low_of d) (low-operator k x h) (low_of d₁)
  low_of (unary-postfix d) = low_of d
  low_of (unary-operation x h d) = (low-prefix x h, low_of d)
  low_of (postfix-primary d) = low_of d
  low_of (member {xs} x y h i d) = low-between xs x ‹ y › (low_of d) (low-is dot (omega arith) x h) (low_word y i, tt)
  low_of (index {xs} x y z h i j d) = low-between (xs ++ ‹ x ›) y ‹ z › (low-append xs ‹ x › (low_of d) (low-is open_square (omega arith) x h, tt)) (low-index y i) (low-is close_square (omega arith) z j, tt)
  low_of (literal x h) = (low-literal x h, tt)
  low_of (variable x h) = (low-is symbol.variable (omega arith) x h, tt)
  low_of (bare x y z h i j) = (low-is word (omega arith) x h, (low-is open_round (omega arith) y i, (low-is close_round (omega arith) z j, tt)))
  low_of (call {xs} x y z h i j d) = (low-is word (omega arith) x h, (low-is open_round (omega arith) y i, low-append xs ‹ z › (low_of d) (low-is close_round (omega arith) z j, tt)))
  low_of (brackets {xs} x y h i d) = (low-is open_round (omega arith) x h, low-append xs ‹ y › (low_of d) (low-is close_round (omega arith) y i, tt))
  low_of (last d) = low_of d
  low_of (next {xs} {ys} x h d d₁) = low-between xs x ys (low_of d) (low-is comma (omega arith) x h) (low_of d₁)

-- ---- a spelling for each number

abbrev spellings : List (List ℕ)
spellings = punctuators ++ map ascii ("0" ∷ "1" ∷ "2" ∷ "3" ∷ "4" ∷ "''" ∷ []) ++ literal_words ++ map ascii ("a" ∷ "${a}" ∷ [])

-- a text is one symbol, of the number n
abbrev is_one : List ℕ → ℕ → Bool
is_one s n = eqb (symbol_at s 0).number n && (eqb (symbol_at s 0).at 0 && eqb (symbol_at s 0).end (length s))

abbrev are_numbered : List (List ℕ) → ℕ → Bool
are_numbered [] n = true
are_numbered (s ∷ ss) n = is_one s n && are_numbered ss (suc n)

numbered : are_numbered spellings 0 ≡ true
unfolding symbol_at
numbered = refl

numbered-at : (ss : List (List ℕ)) (m k : ℕ) → are_numbered ss m ≡ true → k < length ss → is_one (get_or ss k []) (m + k) ≡ true
numbered-at [] m k h l = absurd (omega arith)
numbered-at (s ∷ ss) m zero h l = rw add-zero ((and-eq-true_iff (is_one s m) (are_numbered ss (suc m))).0 h).0
numbered-at (s ∷ ss) m (suc k) h l =
    let i : suc m + k ≡ m + suc k = omega arith in
    subst (λ n. is_one (get_or ss k []) n ≡ true) i (numbered-at ss (suc m) k ((and-eq-true_iff (is_one s m) (are_numbered ss (suc m))).0 h).1 (omega arith))

-- bytes that spell a token of the number n
record SpelledFor (n : ℕ) : Type 0 where
  bytes : List ℕ
  token : Token
  spells : Spells bytes token
  number : number_of token ≡ n

of-lexeme : (s : List ℕ) (n : ℕ) → n < 36 → (x : Lexeme) → Munch s 0 x → (symbol_of s x).number ≡ n → (symbol_of s x).at ≡ 0 → (symbol_of s x).end ≡ length s → SpelledFor n
of-lexeme s n l (Found t at until) m e i j = record { bytes = s; token = t; spells = subst (λ r. Spells r t) (ap (λ a. slice a until s) i ∙ ap (λ u. take u s) j ∙ take-length s) m.2; number = e }
of-lexeme s n l (Bad at until) m e i j = absurd (omega arith)
of-lexeme s n l End m e i j = absurd (omega arith)

spelled-for : (n : ℕ) → n < 36 → SpelledFor n
unfolding symbol_at
spelled-for n l =
    let s = get_or spellings n [] in
    let h : is_one s n ≡ true = subst (λ m. is_one s m ≡ true) (zero-add n) (numbered-at spellings 0 n numbered l) in
    let (a, b) = (and-eq-true_iff (eqb (symbol_at s 0).number n) (eqb (symbol_at s 0).at 0 && eqb (symbol_at s 0).end (length s))).0 h in
    let (c, d) = (and-eq-true_iff (eqb (symbol_at s 0).at 0) (eqb (symbol_at s 0).end (length s))).0 b in
    of-lexeme s n l (lexeme_at s 0) (munch s 0) (eqb-true (symbol_at s 0).number n a) (eqb-true (symbol_at s 0).at 0 c) (eqb-true (symbol_at s 0).end (length s) d)

-- ---- the text

-- a text that spells tokens of these numbers
record TextOf (ns : List ℕ) : Type 0 where
  bytes : List ℕ
  kinds : List Token
  spelled : Spelled bytes kinds
  numbers : map number_of kinds ≡ ns

text_of : (ts : List Placed) → Low (symbols_of ts) → TextOf (numbers_of ts)
text_of [] h = record { bytes = []; kinds = []; spelled = done; numbers = refl }
text_of (placed t at until ∷ ts) (l, h) =
    let s = spelled-for (number_of t) l in
    let r = text_of ts h in
    record {
      bytes = s.bytes ++ 32 ∷ r.bytes;
      kinds = s.token ∷ r.kinds;
      spelled = more s.spells r.spelled;
      numbers = ap (λ m. m ∷ map number_of r.kinds) s.number ∙ ap (λ ns. number_of t ∷ ns) r.numbers;
    }

-- Right tokens can be written: some text has tokens with their numbers, and is a right expression.
pub right-text : (text : List ℕ) (ts : List Placed) → Right text ts → RightText (numbers_of ts)
right-text text ts r =
    let w = text_of ts (low_of text r.1) in
    let (us, lexed, same) = parted w.spelled in
    let n : numbers_of us ≡ numbers_of ts = sym (map-map number_of token_of us) ∙ ap (map number_of) same ∙ w.numbers in
    record { text = w.bytes; ts = us; lexed = lexed; numbered = n; right = places-free text w.bytes ts us (sym n) r }

-- So what begins a right expression begins one that is a text.
pub begins-text : (text : List ℕ) (ts : List Placed) → Begins text ts → (ns : List ℕ) × RightText (numbers_of ts ++ ns)
begins-text text ts (us, r) = (numbers_of us, subst RightText (map-append _ ts us) (right-text text (ts ++ us) r))
