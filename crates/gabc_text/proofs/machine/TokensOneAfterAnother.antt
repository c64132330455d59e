-- Tokens one after another, lists of events, and where they end.
use Rattle.std.proofs.Common.{◌≡◌, ℕ, ◌+◌, List, [], ◌∷◌, ◌++◌, true, refl, ap, ◌∙◌, append-nil, length, length-append, drop, Some, arith}
use Rattle.gabc_text.specs.declared.token.TokenKind.{TokenKind}
use Rattle.gabc_text.specs.declared.token.TagEffect.TheVariants.{Other}
use Rattle.gabc_text.specs.declared.token_state.TokenState.{TokenState}
use Rattle.gabc_text.specs.declared.stage.TextStage.{TextStage}
use Rattle.gabc_text.specs.declared.text_event.TextEvent.{TextEvent}
use Rattle.gabc_text.specs.Token.{Token, spelling, tokens}
use Rattle.gabc_text.specs.View.{effect, text_of}
use Rattle.gabc_text.specs.Events.{with_last, no_events_each, after_tokens}
use Rattle.gabc_text.proofs.machine.EventsStepByStep.{stepwise}
use Rattle.gabc_text.specs.machine.TokenState.{kind_at_end}

-- ---- the whole, from some token on

-- the tokens before, and then those of ks, the nearest first
abbrev pub onto : List Token → List Token → List Token
onto [] before = before
onto (k ∷ ks) before = onto ks (k ∷ before)

abbrev pub size : List Token → ℕ
size [] = 0
size (k ∷ ks) = length (spelling k) + size ks

length_onto : (ks before : List Token) → length (text_of (onto ks before)) ≡ length (text_of before) + size ks
length_onto [] before = omega arith
length_onto (k ∷ ks) before = omega (arith, length_onto ks (k ∷ before), length-append (text_of before) (spelling k))

pub after_is : (t : List ℕ) → after_tokens t ≡ drop (size (tokens t)) t
after_is t = ap (λ (n : ℕ). drop n t) (length_onto (tokens t) [] ∙ (let e : 0 + size (tokens t) ≡ size (tokens t) = omega arith in e))

pub rest_done : (s : TextStage) (t : List ℕ) → s.ended ≡ true → stepwise s t ≡ [] ∷ no_events_each t
rest_done s [] e = rw e refl
rest_done s (c ∷ t) e = rw e (ap (λ (x : List (List TextEvent)). [] ∷ x) (rest_done (record s { ended = true }) t refl))

-- ---- what the last character leaves

pub with_none : (lists : List (List TextEvent)) → with_last [] lists ≡ lists
with_none [] = refl
with_none (xs ∷ []) = ap (λ (x : List TextEvent). x ∷ []) (append-nil xs)
with_none (xs ∷ ys ∷ lists) = ap (λ (x : List (List TextEvent)). xs ∷ x) (with_none (ys ∷ lists))

pub with_more : (zs : List TextEvent) (lists : List (List TextEvent)) (xs : List TextEvent) → with_last zs (lists ++ xs ∷ []) ≡ lists ++ (xs ++ zs) ∷ []
with_more zs (ys ∷ ws ∷ lists) xs = ap (λ (x : List (List TextEvent)). ys ∷ x) (with_more zs (ws ∷ lists) xs)
with_more zs _ xs = refl

-- ---- a token that the end of the text ends

pub end_other : (state : TokenState) (k : Token) (d : TokenKind) → kind_at_end state ≡ Some d → k.kind ≡ d → effect k ≡ Other
end_other state k d e f = grind arith
