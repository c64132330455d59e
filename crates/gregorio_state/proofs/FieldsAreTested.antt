-- What tests of single characters and alterations say of all of them.
use Rattle.std.proofs.Common.{◌≡◌, ℕ, zero, suc, ◌==◌, Bool, true, false, not, List, [], ◌∷◌, length, replicate, IsUtf8, All, refl, ap, arith}
use Rattle.std.specs.List.{list_all, AllByRecursion}
use Rattle.std.specs.Str.{chars}
use Rattle.std.proofs.lemmas.Bool.{eqb-false, ne_eqb, and_parts, not-true}
use Rattle.std.proofs.lemmas.List.Elements.{All-from_recursion}
use Rattle.gabc_neumes.specs.declared.sound.Alter.{Alter}
use Rattle.gabc_neumes.specs.declared.sound.Alter.TheVariants as alter
use Rattle.gabc_places.specs.TextOfAnInput.{IsPlain, IsText}
use Rattle.gregorio_state.specs.machine.Tests.{is_plain, is_none}

plain_is : (c : ℕ) → is_plain c ≡ true → IsPlain c
plain_is c e = let p = and_parts (not (c == 13)) (not (c == 0xFEFF)) e in (eqb-false c 13 (not-true (c == 13) p.0), eqb-false c 0xFEFF (not-true (c == 0xFEFF) p.1))

plain_test : (c : ℕ) → IsPlain c → is_plain c ≡ true
plain_test c p = rw (ne_eqb c 13 p.0, ne_eqb c 0xFEFF p.1) refl

each_plain : (cs : List ℕ) → list_all is_plain cs ≡ true → AllByRecursion IsPlain cs
each_plain [] e = tt
each_plain (c ∷ cs) e = let p = and_parts (is_plain c) (list_all is_plain cs) e in (plain_is c p.0, each_plain cs p.1)

all_tested : (cs : List ℕ) → All IsPlain cs → list_all is_plain cs ≡ true
all_tested [] h = refl
all_tested (c ∷ cs) h = rw (plain_test c (h 0 0 (omega arith)), all_tested cs (λ k d lt. h (suc k) d (omega (arith, lt)))) refl

-- a text is one of an input exactly where each of its characters is plain
pub text_tested : (bytes : List ℕ) → IsUtf8 bytes → (list_all is_plain (chars bytes) ≡ true → IsText bytes) × (IsText bytes → list_all is_plain (chars bytes) ≡ true)
text_tested bytes u = (
  λ e. record { utf8 = u; plain = All-from_recursion IsPlain (chars bytes) (each_plain (chars bytes) e) },
  λ t. all_tested (chars bytes) t.plain,
)

none_is : (a : Alter) → is_none a ≡ true → a ≡ alter.None
none_is a e = grind arith

each_none : (alters : List Alter) → list_all is_none alters ≡ true → alters ≡ replicate (length alters) alter.None
each_none [] e = refl
each_none (a ∷ alters) e = let p = and_parts (is_none a) (list_all is_none alters) e in rw (none_is a p.0) (ap (λ (all : List Alter). alter.None ∷ all) (each_none alters p.1))

none_tested : (n : ℕ) → list_all is_none (replicate n alter.None) ≡ true
none_tested zero = refl
none_tested (suc n) = none_tested n

-- of n, none is in force exactly where each is none
pub alters_tested : (alters : List Alter) (n : ℕ) → length alters ≡ n → (list_all is_none alters ≡ true → alters ≡ replicate n alter.None) × (alters ≡ replicate n alter.None → list_all is_none alters ≡ true)
alters_tested alters n len = (λ e. rw (← len) (each_none alters e), λ e. rw e (none_tested n))

pub not_both : (b : Bool) → b ≡ true → b ≡ false → ⊥
not_both b t f = absurd (cc (t, f))
