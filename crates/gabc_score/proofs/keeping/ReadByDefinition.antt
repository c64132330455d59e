-- A text that is read by itself, as the definition says and as its stages do.
use Rattle.std.proofs.Common.{◌≡◌, ◌+◌, ◌<◌, ◌^◌, ℕ, suc, Bool, true, false, cond, if◌then◌else◌, List, [], ◌∷◌, ◌++◌, length, drop, Option, Some, encode_utf8_all, refl, sym, ap, ◌∙◌, arith, append-nil, length-append}
use lib.Utf8.{encode}
use Rattle.std.proofs.lemmas.Str.{encodes-append, length-le-encodes}
use Rattle.std.proofs.Math.Seq.{take-append_seam, take-append-add, drop-append_seam}
use Rattle.std.specs.List.{list_any}
use Rattle.gabc_places.specs.Place.{place_past, placed_characters_from}
use Rattle.gabc_places.specs.StageLaw.{concat_of}
use Rattle.gabc_places.specs.declared.place.Char.{Char}
use Rattle.gabc_places.specs.declared.place.Place.{Place}
use Rattle.gabc_places.proofs.PlacesOfAText.{length_placed, placed_append}
use Rattle.gabc_places.proofs.PushesAreOne.{joined-append}
use Rattle.gabc_text.specs.Events.{CountsFit}
use Rattle.gabc_text.specs.TextStage.{fresh_stage}
use Rattle.gabc_score.specs.declared.body_stage.BodyPart.{BodyPart}
use Rattle.gabc_score.specs.declared.body_stage.BodyPart.TheVariants as part
use Rattle.gabc_body.specs.declared.events.BodyEvent.{BodyEvent}
use Rattle.gabc_body.specs.Body.{events_onto}
use Rattle.gabc_body.specs.Events.{events_at_end, events_from, text_from, texts_by_definition}
use Rattle.gabc_score.specs.witness.EmittedAgain.{emitted, lists, notes_at, opens, placed}
use Rattle.gabc_body.specs.ScoreEvents.{first_place}
use Rattle.gabc_body.specs.Syllable.{UnplacedSyllable, all_syllables, closes, since_close, syllable_by, is_eu, is_nlba}
use Rattle.gabc_score.specs.witness.BodyStage.{BodyStageState, part_with, running_events_left, texts_by_stage}
use Rattle.gabc_body.proofs.emitted.EventsOfSyllableParts.{onto_append}
use Rattle.gabc_score.proofs.keeping.PartsTakeCharacters.{TakesOne}
use Rattle.gabc_score.proofs.keeping.ReadByItself.{Emits}
use Rattle.gabc_score.specs.machine.StageLaws.{Steps}
use Rattle.gabc_body.proofs.texts_of_body.BodyFits.{bytes_encodes}

-- ---- where no syllable is whole, all events are those of the one that is read

pub since_all : (ts : List BodyEvent) → all_syllables ts ≡ [] → since_close ts ≡ ts
since_all [] e = refl
since_all (t ∷ ts) e = by (closes t) e (since_all ts)
  where
    by : (b : Bool) → cond b (all_syllables ts ++ syllable_by (t ∷ since_close ts) (is_eu ts) (is_nlba ts) ∷ []) (all_syllables ts) ≡ [] → (all_syllables ts ≡ [] → since_close ts ≡ ts) → cond b [] (t ∷ since_close ts) ≡ t ∷ ts
    by true h later = absurd (let n = ap (λ (ms : List UnplacedSyllable). length ms) h in omega (arith, n, length-append (all_syllables ts) (syllable_by (t ∷ since_close ts) (is_eu ts) (is_nlba ts) ∷ [])))
    by false h later = ap (λ (us : List BodyEvent). t ∷ us) (later h)

-- lists of other characters say nothing of where these open notes
pub notes_more : (xs : List Char) (ls more : List (List BodyEvent)) → length ls ≡ length xs → notes_at xs (ls ++ more) ≡ notes_at xs ls
notes_more [] ls more e = refl
notes_more (x ∷ xs) [] more e = absurd (let l : 0 ≡ suc (length xs) = e in omega (arith, l))
notes_more (x ∷ xs) (l ∷ ls) more e = ap (λ (o : Option Place). if list_any opens l then Some x.place else o) (notes_more xs ls more (let h : suc (length ls) ≡ suc (length xs) = e in omega (arith, h)))

-- few characters have few bytes
pub counts_fit : (t : List ℕ) → length (encode_utf8_all t) + 1 < 2 ^ 64 → CountsFit first_place t
counts_fit t few = let less = length-le-encodes t in let bytes = bytes_encodes t in record { line = omega (arith, few, less); column = omega (arith, few, less); bytes = omega (arith, few, bytes) }

-- a stage over a body that begins a text
abbrev pub FromBeginning : Type 0
FromBeginning = (r : BodyStageState) (at : Place) (t : List ℕ) → r.part ≡ part.Text (fresh_stage at) → CountsFit at t
    → (let xs = placed_characters_from at t in running_events_left r xs ≡ events_from texts_by_definition r.nabc_lines r.macros (text_from texts_by_definition at xs) xs)

-- a text that begins at the first place
abbrev pub begun_text : BodyPart
begun_text = part.Text (fresh_stage first_place)

module _ (reads : FromBeginning) (steps : Steps) (lines macros : ℕ) where
  -- what is emitted by definition is what the machine emits
  pub lists_by : (t : List ℕ) → CountsFit first_place t → lists lines macros t ≡ events_from texts_by_stage lines macros (part_with begun_text (placed lines macros t)) (placed lines macros t)
  lists_by t fits = sym (reads (record { nabc_lines = lines; macros = macros; part = begun_text; ended = false; events = [] }) first_place t refl fits)

  module _ (t : List ℕ) (few : length (encode_utf8_all t) < 2 ^ 63) (r : Emits steps lines macros first_place begun_text t) where
    xs : List Char
    xs = placed_characters_from first_place t

    pub lists_are : lists lines macros t ≡ r.lists ++ events_at_end (part_with r.after []) ∷ []
    unfolding xs
    lists_are =
        lists_by t (counts_fit t (omega (arith, few)))
        ∙ ap (λ (ys : List Char). events_from texts_by_stage lines macros (part_with begun_text ys) ys) (sym (append-nil xs))
        ∙ r.emits []

    pub emitted_plain : emitted lines macros t ≡ events_onto (concat_of r.lists) []
    emitted_plain = grind (arith, lists_are, take-append_seam)

    pub notes_all : notes_at (placed lines macros t) (lists lines macros t) ≡ notes_at (placed_characters_from first_place t) r.lists
    notes_all = grind (arith, lists_are, notes_more, length_placed)

    pub end_is : concat_of (drop (length t) (lists lines macros t)) ≡ events_at_end (part_with r.after []) ++ []
    end_is = grind (arith, lists_are, drop-append_seam)

    -- with a `%` after it
    abbrev pub percent : Char
    percent = record { c = 37; place = place_past first_place t }

    module _ (one : TakesOne lines macros r.after percent) where
      lists_with : lists lines macros (t ++ 37 ∷ []) ≡ r.lists ++ one.now ∷ events_from texts_by_stage lines macros (part_with one.after []) []
      unfolding xs encode
      lists_with =
          lists_by (t ++ 37 ∷ [])
          (counts_fit (t ++ 37 ∷ []) (let all = ap length (encodes-append t (37 ∷ [])) in let both = length-append (encode_utf8_all t) (encode_utf8_all (37 ∷ [])) in let l : length (encode_utf8_all (37 ∷ [])) ≡ 1 = refl in omega (arith, few, all, both, l)))
          ∙ ap (λ (ys : List Char). events_from texts_by_stage lines macros (part_with begun_text ys) ys) (placed_append first_place t (37 ∷ []))
          ∙ r.emits (percent ∷ [])
          ∙ ap (λ (ls : List (List BodyEvent)). r.lists ++ ls) (one.emits [])

      pub emitted_with : emitted lines macros (t ++ 37 ∷ []) ≡ events_onto one.now (events_onto (concat_of r.lists) [])
      emitted_with = grind (arith, lists_with, length-append, take-append-add, joined-append, append-nil, onto_append)
