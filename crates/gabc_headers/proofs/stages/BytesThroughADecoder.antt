-- What a decoder and a stage of headers give in a row.
use Rattle.std.proofs.Common.{◌≡◌, ℕ, List, [], ◌∷◌, true, refl, sym, ap, ◌∙◌, append-nil, None, Result, Ok, arith}
use Rattle.gabc_places.specs.declared.code.Fault.{Fault}
use Rattle.gabc_places.specs.declared.limits.Limits.{Limits}
use Rattle.gabc_places.specs.declared.place.Char.{Char}
use Rattle.gabc_places.specs.Chain.{chain_events}
use Rattle.gabc_places.specs.Decoder.{known_at_end}
use Rattle.gabc_places.specs.StageLaw.{concat_of, Pushes}
use Rattle.gabc_places.specs.BoundedList.{BoundedList, extended_by}
use Rattle.gabc_places.specs.Text.{decoded_of}
use Rattle.gabc_places.proofs.ChainKeepsEvents.{joined-regrouped}
use Rattle.gabc_places.proofs.texts.TextsAreScalars.{text_scalars}
use Rattle.gabc_places.proofs.decoding.PlainTextsAreReadAgain.{all_scalars}
use Rattle.gabc_headers.specs.declared.head_event.HeadEvent.{HeadEvent}
use Rattle.gabc_headers.specs.declared.head_event.HeadEvent.TheVariants.{Body}
use Rattle.gabc_headers.specs.Heads.{heads_of}
use Rattle.gabc_headers.specs.HeadEvents.{events_of_heads}
use Rattle.gabc_headers.specs.witness.HeadEvents.{HeadProgress, reading, after_headers, over, IsAfterHeaders, events_left, events_of_input}
use Rattle.gabc_headers.proofs.prefixes.EventsMakeHeads.{events_make_heads}

-- ---- both stages

-- what the headers give of what a decoder gives
pub chained : (limits : Limits) (first : List ℕ → List (List (Result Char Fault))) (bytes : List ℕ) (known : List (Result Char Fault)) → concat_of (first bytes) ≡ known
    → concat_of (chain_events first (events_left limits (reading [])) bytes) ≡ concat_of (events_left limits (reading []) known)
chained limits first bytes known e = grind (arith, joined-regrouped)

-- without a fault these are the headers of the text
pub known_text : (limits : Limits) (bytes : List ℕ) → (decoded_of limits true bytes).fault ≡ None → let t = (decoded_of limits true bytes).text in
    concat_of (events_left limits (reading []) (known_at_end limits bytes)) ≡ events_of_heads t (heads_of limits t)
known_text limits bytes e = grind (arith, append-nil, events_make_heads, all_scalars, text_scalars)

-- ---- one input

abbrev first_of : {T : Type 0} → List (List T) → List T
first_of [] = []
first_of (x ∷ xs) = x

pub push_gives : (limits : Limits) (progress : HeadProgress) (after : List (Result Char Fault) → List (List HeadEvent)) (x : Result Char Fault) (most : ℕ) (old new : BoundedList HeadEvent)
    → Pushes (events_left limits progress) after x most old new → new ≡ extended_by old (events_of_input limits progress x)
push_gives limits progress after x most old new p = p.out ∙ ap (extended_by old) (sym (ap first_of (p.law [])))

-- after the headers
pub body_given : (limits : Limits) (progress : HeadProgress) (c : Char) → IsAfterHeaders progress → events_of_input limits progress (Ok c) ≡ Body c ∷ []
body_given limits (reading t) c h = absurd h
body_given limits (after_headers book) c h = refl
body_given limits over c h = absurd h
