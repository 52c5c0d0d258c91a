-- A computed test of all kinds: two rules that give the same for each kind are the same.
use Rattle.std.specs.Prelude.{Option, Some, None}
use mathlib.Core.Path.{◌≡◌, refl, sym, ◌∙◌, ap}
use mathlib.Core.Bool.{Bool, true, false, false≢true, and-eq-true_iff}
use mathlib.Core.List.{List, [], ◌∷◌}
use Prim.Native.Nat.{ℕ}
use borrow.Author.Tests.{eqb-true}
use lib.ListN.{get_or}
use Rattle.kind.specs.Kind.{kinds, number_of, eq_kind}
use Rattle.kind.specs.Set.{every_of}
use Rattle.kind.specs.declared.kind.Kind.{Kind}
use Rattle.kind.specs.declared.kind.Kind.TheVariants.{Undefined, Null, Boolean, Number, String, Vec2, Vec3, Vec4}

-- ---- every kind of a test

abbrev Each : (Kind → Bool) → List Kind → Type 0
Each p [] = Unit
Each p (k ∷ ks) = (p k ≡ true) × Each p ks

each : (p : Kind → Bool) (ks : List Kind) → every_of ks p ≡ true → Each p ks
each p [] e = tt
each p (k ∷ ks) e = let h = (and-eq-true_iff (p k) (every_of ks p)).0 e in (h.0, each p ks h.1)

pub every-kind : (p : Kind → Bool) → every_of kinds p ≡ true → (k : Kind) → p k ≡ true
every-kind p e k = go k (each p kinds e)
  where
    go : (k : Kind) → Each p kinds → p k ≡ true
    go Undefined h = h.0
    go Null h = h.1.0
    go Boolean h = h.1.1.0
    go Number h = h.1.1.1.0
    go String h = h.1.1.1.1.0
    go Vec2 h = h.1.1.1.1.1.0
    go Vec3 h = h.1.1.1.1.1.1.0
    go Vec4 h = h.1.1.1.1.1.1.1.0

-- ---- equal kinds, equal answers of a rule

kind_at : (k : Kind) → get_or kinds (number_of k) Undefined ≡ k
kind_at Undefined = refl
kind_at Null = refl
kind_at Boolean = refl
kind_at Number = refl
kind_at String = refl
kind_at Vec2 = refl
kind_at Vec3 = refl
kind_at Vec4 = refl

pub same_kind : (k l : Kind) → eq_kind k l ≡ true → k ≡ l
same_kind k l e = sym (kind_at k) ∙ ap (λ (n : ℕ). get_or kinds n Undefined) (eqb-true (number_of k) (number_of l) e) ∙ kind_at l

abbrev pub eq_ruled : Option Kind → Option Kind → Bool
eq_ruled None None = true
eq_ruled None (Some l) = false
eq_ruled (Some k) None = false
eq_ruled (Some k) (Some l) = eq_kind k l

same-ruled : (a b : Option Kind) → eq_ruled a b ≡ true → a ≡ b
same-ruled None None e = refl
same-ruled None (Some l) e = absurd (false≢true e)
same-ruled (Some k) None e = absurd (false≢true e)
same-ruled (Some k) (Some l) e = ap Some (same_kind k l e)

-- ---- rules of one operand, of two and of three

pub by-test1 : (f g : Kind → (Option Kind)) → every_of kinds (λ k. eq_ruled (f k) (g k)) ≡ true → (k : Kind) → f k ≡ g k
by-test1 f g e k = same-ruled (f k) (g k) (every-kind (λ k. eq_ruled (f k) (g k)) e k)

pub by-test2 : (f g : Kind → Kind → (Option Kind)) → every_of kinds (λ k. every_of kinds (λ l. eq_ruled (f k l) (g k l))) ≡ true →
    (k l : Kind) → f k l ≡ g k l
by-test2 f g e k = by-test1 (f k) (g k) (every-kind (λ k. every_of kinds (λ l. eq_ruled (f k l) (g k l))) e k)

pub by-test3 : (f g : Kind → Kind → Kind → (Option Kind)) →
    every_of kinds (λ k. every_of kinds (λ l. every_of kinds (λ m. eq_ruled (f k l m) (g k l m)))) ≡ true → (k l m : Kind) → f k l m ≡ g k l m
by-test3 f g e k = by-test2 (f k) (g k) (every-kind (λ k. every_of kinds (λ l. every_of kinds (λ m. eq_ruled (f k l m) (g k l m)))) e k)
