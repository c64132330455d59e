-- The findings of a text are in the order of their places, each once.
use Rattle.std.proofs.Common.{◌≡◌, ℕ, ◌<◌, List, [], ◌∷◌, ◌++◌, refl, append_assoc, arith, inl, inr, ◌⊎◌}
use Rattle.gabc_places.specs.Place.{next_place, place_past}
use Rattle.gabc_places.specs.Findings.{ComeAfter, AreInOrder}
use Rattle.gabc_places.specs.declared.place.Place.{Place}
use Rattle.gabc_places.specs.declared.code.Code.{Code}
use Rattle.gabc_places.specs.declared.code.Finding.{Finding}
use Rattle.gabc_text.specs.declared.token.TokenKind.{TokenKind}
use Rattle.gabc_text.specs.declared.token.TagEffect.{TagEffect}
use Rattle.gabc_text.specs.Token.{Token, tokens}
use Rattle.gabc_text.specs.View.{along, early_codes, late_codes, findings_at, findings_at_end, findings, place_of}
use Rattle.gabc_places.proofs.PlacesOfAText.{place_append}
use Rattle.gabc_text.proofs.machine.TokensOneAfterAnother.{onto}

-- p stands before q
abbrev Earlier : Place → Place → Type 0
Earlier p q = (p.line < q.line) ⊎ ((p.line ≡ q.line) × (p.column < q.column))

abbrev NotAfter : Place → Place → Type 0
NotAfter p q = (p ≡ q) ⊎ Earlier p q

earlier_or : (p q r : Place) → Earlier p q → NotAfter q r → Earlier p r
earlier_or p q r h h2 = grind arith

next_later : (p : Place) (c : ℕ) → Earlier p (next_place p c)
next_later p c = grind arith

past_not_before : (p : Place) (t : List ℕ) → NotAfter p (place_past p t)
past_not_before p [] = inl refl
past_not_before p (c ∷ t) = inr (earlier_or p (next_place p c) (place_past (next_place p c) t) (next_later p c) (past_not_before (next_place p c) t))

token_later : (at : Place) (before : List Token) (k : Token) → Earlier (place_of at before) (place_of at (k ∷ before))
token_later at before k = grind (arith, place_append, earlier_or, next_later, past_not_before)

-- ---- lists of findings

abbrev AllFrom : Place → List Finding → Type 0
AllFrom p [] = Unit {0}
AllFrom p (f ∷ fs) = NotAfter p f.place × AllFrom p fs

from_earlier : (p q : Place) (fs : List Finding) → Earlier p q → AllFrom q fs → AllFrom p fs
from_earlier p q [] h g = tt
from_earlier p q (f ∷ fs) h g = (inr (earlier_or p q f.place h g.0), from_earlier p q fs h g.1)

after : (f : Finding) (q : Place) (fs : List Finding) → Earlier f.place q → AllFrom q fs → AreInOrder fs → ComeAfter f fs
after f q fs h g o = grind arith

-- ---- what a token gives

abbrev AtMostOne : List Code → Type 0
AtMostOne cs = (cs ≡ []) ⊎ ((c : Code) × (cs ≡ c ∷ []))

one_code : (bs : List Token) (d : TokenKind) (s : TagEffect) → AtMostOne (early_codes bs d ++ late_codes bs d s)
one_code bs d s = grind arith

-- ---- the whole

module _ (at : Place) where
  record Fine (p : Place) (fs : List Finding) : Type 0 where
    order : AreInOrder fs
    from : AllFrom p fs

  fine_end : (bs : List Token) → Fine (place_of at bs) (findings_at_end at bs)
  fine_end bs = grind arith

  fine_more : (before : List Token) (k : Token) (fs : List Finding) → Fine (place_of at (k ∷ before)) fs → Fine (place_of at before) (findings_at at before k ++ fs)
  fine_more before k fs h = grind (arith, one_code, from_earlier, token_later, after)

  fine_along : (ks before : List Token) → Fine (place_of at before) (along (findings_at at) before ks ++ findings_at_end at (onto ks before))
  fine_along [] before = fine_end before
  fine_along (k ∷ ks) before = grind (arith, append_assoc, fine_more, fine_along ks (k ∷ before))

  pub findings_ordered : (t : List ℕ) → AreInOrder (findings at t)
  findings_ordered t = (fine_along (tokens t) []).order
