-- A text of which all is kept when it is read by itself.
use Rattle.std.proofs.Common.{◌≡◌, ℕ, Bool, true, false, cond, List, [], ◌∷◌, ◌++◌, length, encode_utf8_all, refl, sym, ap, ◌∙◌, length-append, arith}
use Rattle.std.specs.Prelude.{◌↔◌}
use Rattle.std.proofs.lemmas.Str.{encodes_same}
use Rattle.gabc_score.specs.witness.EmittedAgain.{emitted}
use Rattle.gabc_body.specs.ReadAlone.{no_spans, read_first}
use Rattle.gabc_body.specs.ScoreEvents.{first_place}
use Rattle.gabc_body.specs.Syllable.{UnplacedSyllable, closes, since_close, kept_of, all_syllables, syllable_by, is_eu, is_nlba}
use Rattle.gabc_body.specs.declared.events.BodyEvent.{BodyEvent}
use Rattle.gabc_body.specs.witness.TextsByKept.{TextsGoByKept}
use Rattle.gabc_body.proofs.by_kept.PrefixesAreRead.{prefix_is_read}
use Rattle.gabc_body.proofs.by_kept.ReadingAgreesWithEvents.{Fits}

some_made : (ms : List UnplacedSyllable) (m : UnplacedSyllable) → ms ++ m ∷ [] ≡ [] → ⊥
some_made ms m e = let n = ap (λ (ns : List UnplacedSyllable). length ns) e in omega (arith, n, length-append ms (m ∷ []))

-- if no syllable was made, all events are those of the first
pub none_closes : (before : List BodyEvent) → all_syllables before ≡ [] → since_close before ≡ before
none_closes [] h = refl
none_closes (t ∷ before) h = by (closes t) (syllable_by (t ∷ since_close before) (is_eu before) (is_nlba before)) h (none_closes before)
  where
    by : (o : Bool) (m : UnplacedSyllable) → cond o (all_syllables before ++ m ∷ []) (all_syllables before) ≡ [] → (all_syllables before ≡ [] → since_close before ≡ before) → cond o [] (t ∷ since_close before) ≡ t ∷ before
    by true m e k = absurd (some_made (all_syllables before) m e)
    by false m e k = ap (λ (es : List BodyEvent). t ∷ es) (k e)

pub all_is_kept : TextsGoByKept → (lines macros : ℕ) (t : List ℕ) → Fits first_place t 0
    → let read = read_first lines macros no_spans t (length t) in
    ((kept_of (emitted lines macros t) ≡ encode_utf8_all t) × (all_syllables (emitted lines macros t) ≡ [])) ↔ ((read.reading.before ++ read.reading.kept ≡ t) × (read.made ≡ []))
all_is_kept alike lines macros t fits =
    let read = read_first lines macros no_spans t (length t) in
    let same = prefix_is_read alike lines macros first_place t [] fits refl refl (length t) (omega arith) in (
      λ h. (
        encodes_same (read.reading.before ++ read.reading.kept) t (sym same.1 ∙ ap kept_of (none_closes (emitted lines macros t) h.1) ∙ h.0),
        sym same.0 ∙ h.1,
      ),
      λ h. (
        ap kept_of (sym (none_closes (emitted lines macros t) (same.0 ∙ h.1))) ∙ same.1 ∙ ap encode_utf8_all h.0,
        same.0 ∙ h.1,
      ),
    )
