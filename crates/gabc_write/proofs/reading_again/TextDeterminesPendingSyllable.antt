-- A syllable may be pending again by its text, after what stands before it, and what may be pending
-- by this text is equivalent to that syllable.
use Rattle.std.proofs.Common.{◌≡◌, ℕ, ◌+◌, ◌<◌, ◌≤◌, ◌==◌, ◌||◌, ◌&&◌, Bool, List, [], ◌∷◌, ◌++◌, length, get_or, map, is_some, encode_utf8_all, Option, Some, None, IfSome, refl, sym, ap, ap₂, subst, ◌∙◌, arith}
use Rattle.std.specs.Char.{IsScalar}
use Rattle.std.specs.List.{All, list_any}
use Rattle.std.specs.Prelude.{IsUtf8, ◌↔◌}
use Rattle.std.proofs.lemmas.List.{append_cancel_left}
use Rattle.std.proofs.lemmas.List.Elements.{All-head, All-tail}
use Rattle.gabc_write.proofs.DumpOfWhatIsSaid.{said_by, IsWhole}
use Rattle.gabc_places.specs.declared.limits.Limits.{Limits}
use Rattle.gabc_notes.specs.FirstNoteOrClef.{first_note_or_clef}
use Rattle.gabc_notes.specs.Items.{items_of}
use Rattle.gabc_body.specs.declared.before.Before.{Before}
use Rattle.gabc_body.specs.declared.snippets.Snippet.{Snippet}
use Rattle.gabc_body.specs.declared.syllable.Position.TheVariants.{One}
use Rattle.gabc_score.specs.Before.{preceding_of, sounds, sounds_in}
use Rattle.gabc_body.specs.Canonical.{canonical}
use Rattle.gabc_score.specs.HeldAgain.{MayBeHeld}
use Rattle.gabc_body.specs.OneSyllable.{IsOneSyllable}
use Rattle.gabc_body.specs.OpenSpans.{CanBeOpen}
use Rattle.gabc_body.specs.ReadAlone.{IsReadAsSyllable}
use Rattle.gabc_body.specs.declared.before.Spans.{Spans}
use Rattle.gabc_body.proofs.units.CanonicalTextIsText.{scalars_of}
use Rattle.gabc_score.proofs.texts_of_body.BodyAfterHeads.{are_scalars}
use Rattle.gabc_text.specs.Events.{CountsFit}
use Rattle.gabc_score.specs.HeldAside.{IsEquivalentSyllable}
use Rattle.gabc_body.specs.Holding.{HasWholeSnippets}
use Rattle.gabc_body.specs.ScoreEvents.{first_place}
use Rattle.gabc_body.specs.SpansPast.{FollowsSpans, eu_past, nlba_past}
use Rattle.gabc_body.specs.Syllable.{UnplacedSyllable, all_syllables}
use Rattle.gabc_score.specs.ReportedWithin.{IsHeldWithin, written_after}
use Rattle.gabc_body.specs.UnitRead.{HoldsSomeUnit}
use Rattle.gabc_write.specs.SetDown.{MayBeHeldByItsText, SayTheSame}
use Rattle.gabc_write.specs.SyllableMeaning.{SyllableMeaning, meaning_of}
use Rattle.gabc_write.proofs.reading_again.PendingSyllableRoundTrips.{fits_first}
use Rattle.gabc_write.specs.SyllableRead.{as_it_stands, SaysTheSame, IsReadByItself, IsReadFromItsText, IsReadWhereItStands}

-- ---- whether it sounds is said

abbrev sounds_said : ℕ × List ℕ → Bool
sounds_said s = (s.0 == 0) && is_some (first_note_or_clef (items_of s.1))

sound_is_said : (kept : List ℕ) (ss : List Snippet) → All (IsWhole kept) ss → sounds_in kept ss ≡ list_any sounds_said (map (said_by kept) ss)
sound_is_said kept [] h = refl
sound_is_said kept (s ∷ ss) h = grind (arith, sound_is_said kept ss (All-tail (IsWhole kept) s ss h), All-head, All-tail)

same_sound : (n m : UnplacedSyllable) → HasWholeSnippets n → HasWholeSnippets m → SaysTheSame n m → sounds m ≡ sounds n
same_sound n m whole_n whole_m says =
    sound_is_said m.kept m.snippets whole_m
    ∙ ap (λ (s : SyllableMeaning). list_any sounds_said s.snippets) (sym (says One))
    ∙ sym (sound_is_said n.kept n.snippets whole_n)

last_one : {A : Type 0} → (xs : List A) (x y : A) → xs ++ x ∷ [] ≡ xs ++ y ∷ [] → x ≡ y
last_one xs x y e = ap (λ l. get_or l 0 x) (append_cancel_left xs (x ∷ []) (y ∷ []) e)

-- ---- after what stands before it

-- A text is one syllable by all that it emits exactly if it is one by what is kept of it.
abbrev pub SyllablesByKept : Type 0
SyllablesByKept = (lines macros : ℕ) (t : List ℕ) (spans : Spans) (limit : ℕ) (m : UnplacedSyllable) → All IsScalar t → CountsFit first_place t → IsOneSyllable lines macros first_place t spans limit m ↔ IsReadAsSyllable lines macros t spans limit m

starts_again : (first : Bool) (m n : UnplacedSyllable) → n.text.word_start ≡ (first || m.text.word_start) → (first || n.text.word_start) ≡ n.text.word_start
starts_again first m n e = grind arith

module _ (limits : Limits) (before : Before) (m : UnplacedSyllable) (own : IsReadFromItsText before.nabc_lines before.macros (as_it_stands (before.syllables == 0) m)) where
  abbrev first : Bool
  first = before.syllables == 0

  starts_are : (n : UnplacedSyllable) → SaysTheSame n (as_it_stands first m) → (first || n.text.word_start) ≡ n.text.word_start
  starts_are n says = starts_again first m n (ap (λ (s : SyllableMeaning). s.word_start) (says One))

  -- one that says the same, with the same text, has the same canonical text there
  after_is : (n : UnplacedSyllable) → SaysTheSame n (as_it_stands first m) → canonical n.text.word_start n ≡ written_after (preceding_of before) m → written_after (preceding_of before) n ≡ written_after (preceding_of before) m
  after_is n says e = ap (λ (b : Bool). canonical b n) (starts_are n says) ∙ e

  pub bytes_after : written_after (preceding_of before) m ≡ encode_utf8_all own.text
  bytes_after = own.bytes

  module _ (by_kept : SyllablesByKept) (utf8 : IsUtf8 (written_after (preceding_of before) m)) (short : length (written_after (preceding_of before) m) ≤ limits.syllable) where
    few : length (encode_utf8_all own.text) ≤ limits.syllable
    few = subst (λ (t : List ℕ). length t ≤ limits.syllable) bytes_after short

    -- by all that its text emits it is one syllable exactly if it is one by what is kept of it
    both : (n : UnplacedSyllable)
        → IsOneSyllable before.nabc_lines before.macros first_place own.text before.spans limits.syllable n ↔ IsReadAsSyllable before.nabc_lines before.macros own.text before.spans limits.syllable n
    both n =
        let most = limits.in_range.syllable_most in
        by_kept before.nabc_lines before.macros own.text before.spans limits.syllable n
        (are_scalars own.text (scalars_of own.text (subst IsUtf8 bytes_after utf8))) (fits_first own.text (omega (arith, few, most)))

    module _ (opened : CanBeOpen before.spans) (file : before.canonical + length (written_after (preceding_of before) m) < limits.input) where
      read : IsReadByItself before.nabc_lines before.macros (as_it_stands first m) own.text first_place opened.before
      read = own.read first_place opened.before opened.leaves.nothing

      again_after : written_after (preceding_of before) read.again ≡ written_after (preceding_of before) m
      again_after = after_is read.again read.says read.same_text

      emitted_again : IsOneSyllable before.nabc_lines before.macros first_place own.text before.spans limits.syllable read.again
      emitted_again = grind (arith, read, few)

      again_may_be_held : MayBeHeld limits before own.text read.again
      again_may_be_held =
          let small = few in
          let size = ap length again_after in
          record {
            read = (both read.again).0 emitted_again;
            kept = omega (arith, read.few, small);
            short = omega (arith, size, short);
            file = omega (arith, size, file);
          }

      pub may_be_held : (n : UnplacedSyllable) × MayBeHeld limits before own.text n
      may_be_held = (read.again, again_may_be_held)

      pub by_its_text : MayBeHeldByItsText limits before m
      by_its_text = record { text = own.text; bytes = bytes_after; again = read.again; may = again_may_be_held; same_text = again_after }

    module _ (spans : FollowsSpans before.spans m) (holds : HoldsSomeUnit before.nabc_lines m)
        (whole : (lines : ℕ) (n : UnplacedSyllable) → HoldsSomeUnit lines n → HasWholeSnippets n) (n : UnplacedSyllable) (h : MayBeHeld limits before own.text n) where
      emitted : IsOneSyllable before.nabc_lines before.macros first_place own.text before.spans limits.syllable n
      emitted = (both n).1 h.read

      one : IsReadByItself before.nabc_lines before.macros (as_it_stands first m) own.text first_place emitted.before
      one = own.read first_place emitted.before emitted.leaves.nothing

      one_stands : IsEquivalentSyllable first m one.again
      one_stands =
          record {
            starts = sym (starts_are one.again one.says ∙ ap (λ (s : SyllableMeaning). s.word_start) (one.says One));
            canonical = sym (after_is one.again one.says one.same_text);
            eu = spans.eu ∙ sym (one.eu_is ∙ ap (eu_past m) emitted.leaves.eu);
            nlba = spans.nlba ∙ sym (one.nlba_is ∙ ap (nlba_past m) emitted.leaves.nlba);
            sounds = same_sound one.again (as_it_stands first m) (whole before.nabc_lines one.again one.holds) (whole before.nabc_lines m holds) one.says;
          }

      one_is : one.again ≡ n
      one_is = last_one (all_syllables emitted.before) one.again n (sym one.one ∙ emitted.one)

      pub stands_for : IsEquivalentSyllable first m n
      stands_for = subst (IsEquivalentSyllable first m) one_is one_stands

      pub says_again : SayTheSame first (Some m) (Some n)
      says_again position =
          ap₂ (λ (eu nlba : Bool). meaning_of (record { made = record (as_it_stands first m) { eu = eu; nlba = nlba }; position = position })) one_stands.eu one_stands.nlba
          ∙ sym (one.says position)
          ∙ ap (λ (b : Bool). meaning_of (record { made = record one.again { text = record one.again.text { word_start = b } }; position = position })) (sym (starts_are one.again one.says))
          ∙ ap (λ (s : UnplacedSyllable). meaning_of (record { made = as_it_stands first s; position = position })) one_is

pub held_by_its_text : SyllablesByKept → (limits : Limits) (before : Before) (o : Option UnplacedSyllable) → CanBeOpen before.spans → IfSome o (IsReadWhereItStands before.nabc_lines before.macros)
    → IfSome o (λ m. (starts : Bool) → IsUtf8 (canonical starts m)) → IfSome o (IsHeldWithin limits (preceding_of before)) → IfSome o (MayBeHeldByItsText limits before)
held_by_its_text by_kept limits before None opened own utf8 within = tt
held_by_its_text by_kept limits before (Some m) opened own utf8 within =
    by_its_text limits before m (own (before.syllables == 0)) by_kept (utf8 ((before.syllables == 0) || m.text.word_start)) within.short opened within.file
