-- What a score is given of a text is what a stage of headers gives of it.
use Rattle.std.proofs.Common.{◌≡◌, ℕ, zero, suc, ◌+◌, Bool, List, [], ◌∷◌, ◌++◌, map, take, drop, Result, Ok, Err, refl, sym, ap, ◌∙◌, append_assoc, append-nil, arith}
use Rattle.gabc_places.specs.Place.{placed_characters_after}
use Rattle.gabc_places.specs.declared.limits.Limits.{Limits}
use Rattle.gabc_headers.specs.declared.heads.Heads.{Heads}
use Rattle.gabc_headers.specs.declared.heads.HeadFault.{HeadFault}
use Rattle.gabc_headers.specs.declared.head_event.HeadEvent.TheVariants as head_event
use Rattle.gabc_headers.specs.Heads.{heads_of, head_len}
use Rattle.gabc_headers.specs.declared.head_event.HeadEvent.{HeadEvent}
use Rattle.gabc_headers.specs.HeadEvents.{events_of_heads, events_of_broken, events_of_stopped, body_characters as characters_after}
use Rattle.gabc_body.specs.declared.ending.InputEnding.{InputEnding}
use Rattle.gabc_body.specs.declared.ending.InputEnding.TheVariants.{Whole, Broken, At}
use Rattle.gabc_body.specs.Score.{head_fault_by}
use Rattle.gabc_body.specs.ScoreEvents.{stop_events, head_events_by, head_events}
use Rattle.gabc_body.specs.SyllablesOfUnits.{body_characters}

-- the characters from some point on stand after those before it
placed_on : (n : ℕ) (prefix t : List ℕ) → drop n (placed_characters_after prefix t) ≡ placed_characters_after (prefix ++ take n t) (drop n t)
placed_on zero prefix t = ap (λ p. placed_characters_after p t) (sym (append-nil prefix))
placed_on (suc n) prefix [] = refl
placed_on (suc n) prefix (c ∷ cs) = placed_on n (prefix ++ c ∷ []) cs ∙ ap (λ p. placed_characters_after p (drop n cs)) (append_assoc prefix (c ∷ []) (take n cs))

-- what a stage of headers gives of a text that ended so
abbrev pub given_of : InputEnding → List ℕ → Result Heads HeadFault → List HeadEvent
given_of Whole t r = events_of_heads t r
given_of Broken t r = events_of_broken t r
given_of (At fault) t r = events_of_stopped fault t r

module _ (t : List ℕ) where
  -- the characters of the body, from the text's first character or from the body's
  same_body : body_characters t ≡ characters_after t
  same_body = sym (placed_on (head_len t + 2) [] t)

  heads_given : (ending : InputEnding) (heads : Heads) → head_events_by ending t (Ok heads) ≡ given_of ending t (Ok heads)
  heads_given ending heads = grind (arith, same_body, append-nil)

  stop_given : (ending : InputEnding) (stop : HeadFault) (at_end : Bool)
      → map (λ f. head_event.Found f) stop.findings ++ stop_events (head_fault_by ending at_end stop.fault) ≡ given_of ending t (Err (record stop { at_end = at_end }))
  stop_given ending stop at_end = grind arith

  given_by : (ending : InputEnding) (r : Result Heads HeadFault) → head_events_by ending t r ≡ given_of ending t r
  given_by ending r = grind (arith, heads_given, stop_given)

pub given_is : (limits : Limits) (ending : InputEnding) (t : List ℕ) → head_events limits ending t ≡ given_of ending t (heads_of limits t)
given_is limits ending t = given_by t ending (heads_of limits t)
