-- Sorts and kinds of the tokens that a character ends, and what of a token that goes on is kept.
use Rattle.std.proofs.Common.{arith, ◌≡◌, ℕ, ◌==◌, List, [], Bool, true, false, cond, refl, Some}
use Rattle.gabc_text.specs.declared.text_facts.TextFacts.{TextFacts}
use Rattle.gabc_text.specs.declared.token.TokenKind.{TokenKind}
use Rattle.gabc_text.specs.declared.token.TokenKind.TheVariants as kind
use Rattle.gabc_text.specs.declared.token.TagEffect.{TagEffect}
use Rattle.gabc_text.specs.declared.token.TagEffect.TheVariants.{Other}
use Rattle.gabc_text.specs.declared.token_state.TokenState.{TokenState}
use Rattle.gabc_text.specs.declared.token_state.TokenState.TheVariants.{Plain, Comment}
use Rattle.gabc_text.specs.declared.token_state.Step.{Step}
use Rattle.gabc_text.specs.declared.token_state.Step.TheVariants.{Stays, Ends}
use Rattle.gabc_text.specs.Token.{Token, single}
use Rattle.gabc_text.specs.View.{is_open_kind, effect}
use Rattle.gabc_text.specs.machine.TokenState.{settled_kind, next_step, first_step, keep, step_at_tag_end}
use Rattle.gabc_text.proofs.tokens.CasesOfCharacters.{by_case, single_kind}

-- what is kept of a token that goes on
abbrev pub kept_held : TokenState → List ℕ → List ℕ
kept_held Plain held = []
kept_held Comment held = []
kept_held _ held = held

pub sort_settled : (state : TokenState) (c : ℕ) (k : Token) → settled_kind state c ≡ Some k.kind → effect k ≡ Other
sort_settled state c k e = grind arith

pub settled_uncut : (state : TokenState) (c : ℕ) (k : TokenKind) → settled_kind state c ≡ Some k → is_open_kind k ≡ false
settled_uncut state c k e = grind arith

-- all of it is kept
abbrev pub is_kept_whole : TokenKind → Bool
is_kept_whole kind.Letter = true
is_kept_whole kind.Tag = true
is_kept_whole kind.Raw = true
is_kept_whole kind.Translation = true
is_kept_whole _ = false

abbrev pub is_within : TokenState → Bool
is_within Plain = false
is_within Comment = false
is_within _ = true

pub held_within : (state : TokenState) (held : List ℕ) → is_within state ≡ true → kept_held state held ≡ held
held_within state held e = grind arith

-- a token goes on that is kept, or one ends
abbrev pub IsKept : Step → Type 0
IsKept (Stays state) = is_within state ≡ true
IsKept (Ends k s) = is_kept_whole k ≡ true

either_kept : (b : Bool) (x y : Step) → IsKept x → IsKept y → IsKept (cond b x y)
either_kept b x y f g = grind arith

tag_kept : (s : TagEffect) → IsKept (step_at_tag_end s)
tag_kept s = grind arith

pub within_kept : (state : TokenState) (c : ℕ) → is_within state ≡ true → IsKept (next_step state c)
within_kept state c e = grind (arith, either_kept, tag_kept)

pub keep_within : (facts : TextFacts) (state : TokenState) (c : ℕ) → is_within state ≡ true → keep facts state c ≡ Some c
keep_within facts state c e = grind arith

abbrev pub Single : ℕ → Type 0
Single c = (k : TokenKind) (so : TagEffect) → first_step c ≡ Ends k so → (k ≡ single c) × (c == 37 ≡ false)

pub begin_ends : (c : ℕ) → Single c
begin_ends c =
    by_case 36 c Single (λ k so e. absurd (cc)) (λ e36.
    by_case 37 c Single (λ k so e. absurd (cc)) (λ e37.
    by_case 60 c Single (λ k so e. absurd (cc)) (λ e60.
    by_case 91 c Single (λ k so e. absurd (cc)) (λ e91.
    λ k so e. let f = rw (e36, e37, e60, e91) at e in ((let g : k ≡ single c = cc in g), e37)))))

pub single_uncut : (c : ℕ) → is_open_kind (single c) ≡ false
single_uncut c = single_kind (λ k. is_open_kind k ≡ false) refl refl refl refl refl c

whole_uncut : (k : TokenKind) → is_kept_whole k ≡ true → is_open_kind k ≡ false
whole_uncut k e = grind arith

pub ends_uncut : (state : TokenState) (c : ℕ) (k : TokenKind) (so : TagEffect) → next_step state c ≡ Ends k so → is_open_kind k ≡ false
ends_uncut state c k so e = grind (arith, begin_ends, single_uncut, whole_uncut, within_kept)
