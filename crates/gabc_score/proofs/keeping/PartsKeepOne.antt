-- Of a character a part of a body keeps no more bytes than it has, and none where a comment is open
-- then.
use Rattle.std.proofs.Math.Bool.{and-false}
use Rattle.std.proofs.Common.{◌≡◌, ◌⊎◌, ◌≤◌, ◌+◌, ℕ, true, false, List, [], ◌∷◌, ◌++◌, length, encode_utf8, encode_utf8_all, inl, inr, refl, sym, ap, ◌∙◌, subst, arith, append-nil, length-append}
use Rattle.std.proofs.lemmas.Bool.{false≢true}
use Rattle.std.proofs.lemmas.List.{append_cancel_left}
use Rattle.std.proofs.lemmas.List.Elements.{All-head}
use Rattle.std.proofs.lemmas.Str.{encodes_same, length-encode, len_utf8_bounds}
use Rattle.std.specs.Char.{len_utf8}
use Rattle.std.specs.List.{All, list_any}
use Rattle.gabc_places.specs.declared.place.Char.{Char}
use Rattle.gabc_places.specs.declared.place.Place.{Place}
use Rattle.gabc_text.specs.BuiltText.{kept_in}
use Rattle.gabc_text.specs.declared.stage.TextStage.{TextStage}
use Rattle.gabc_text.specs.declared.text_event.TextEvent.{TextEvent}
use Rattle.gabc_text.specs.witness.Keeps as text
use Rattle.gabc_notes.specs.SnippetRead.{ends_of, kept_of}
use Rattle.gabc_notes.specs.declared.stage.NoteEnd.TheVariants as note_end
use Rattle.gabc_notes.specs.declared.stage.NoteEvent.{NoteEvent}
use Rattle.gabc_notes.specs.declared.stage.NoteEvent.TheVariants as note
use Rattle.gabc_score.specs.declared.body_stage.BodyPart.{BodyPart}
use Rattle.gabc_score.specs.declared.body_stage.BodyPart.TheVariants as part
use Rattle.gabc_body.specs.declared.events.BodyEvent.{BodyEvent}
use Rattle.gabc_body.specs.declared.events.BodyEvent.TheVariants as event
use Rattle.gabc_body.specs.Events.{is_close, is_next, is_text_end}
use Rattle.gabc_score.specs.ScoreReports.{is_in_comment}
use Rattle.gabc_body.specs.Syllable.{prefix_of}
use Rattle.gabc_body.specs.witness.BodyBuilder.{with_all}
use Rattle.gabc_body.specs.witness.Gatherer.{Gathered, with_event}
use Rattle.gabc_score.specs.machine.PartKeeps.{KeptParts, PartKeeps}
use Rattle.gabc_body.specs.witness.TextEvents.{text_events}
use Rattle.gabc_score.proofs.building.SnippetsTakeCharacters.{close_ends, ending_close, ending_next, going, next_ends}
use Rattle.gabc_score.specs.machine.PartSteps.{SnippetSteps}
use Rattle.gabc_score.proofs.building.PartsOfKeptText.{Grows, IsMarked, end_marks, ends_text, notes_ended, notes_said, of_notes, said_gathered, snippet_grows, text_goes_on, text_grows, text_of}
use Rattle.gabc_body.proofs.within_limits.KeptSoFar.{prefix_few}

-- What is kept with a character, after whatever was gathered.
pub record KeepsOne (lines macros : ℕ) (x : Char) (before after : BodyPart) (now : List BodyEvent) : Type 0 where
  pub few : (p : KeptParts) → PartKeeps lines macros before p → (g : Gathered) → length (with_all g now).builder.kept ≤ length g.builder.kept + len_utf8 x.c
  pub none : (p : KeptParts) → PartKeeps lines macros before p → is_in_comment after ≡ true → (g : Gathered) → (with_all g now).builder.kept ≡ g.builder.kept
  pub made : (p : KeptParts) → PartKeeps lines macros before p → x.c ≡ 37 → (g : Gathered) → (with_all g now).made ≡ g.made
  pub percent : (p : KeptParts) → PartKeeps lines macros before p → x.c ≡ 37 → (g : Gathered) → (with_all g now).builder.kept ≡ g.builder.kept → is_in_comment after ≡ true

-- ---- bytes

one_byte : (d : ℕ) → length (encode_utf8_all (d ∷ [])) ≡ len_utf8 d
one_byte d = length-append (encode_utf8 d) [] ∙ (let e = length-encode d in omega (arith, e))

few_of : (ds : List ℕ) (c : ℕ) → length ds ≤ 1 → All (text.IsKeptOf c) ds → length (encode_utf8_all ds) ≤ len_utf8 c
few_of [] c h a = omega arith
few_of (d ∷ []) c h a = elim (All-head (text.IsKeptOf c) d [] a) [
  | inl e ↦ omega (arith, one_byte d, ap len_utf8 e)
  | inr e ↦ (let k : len_utf8 d ≡ 1 = ap len_utf8 e in omega (arith, one_byte d, k, (len_utf8_bounds c).0))
]
few_of (d ∷ e ∷ ds) c h a = absurd (omega (arith, h))

-- where nothing more was kept
same_bytes : (before after more : List ℕ) → after ≡ before ++ encode_utf8_all more → after ≡ before → more ≡ []
same_bytes before after more grown same = encodes_same more [] (append_cancel_left before (encode_utf8_all more) [] (sym grown ∙ same ∙ sym (append-nil before)))

grown_few : (g h : Gathered) (more : List ℕ) (c : ℕ) → Grows g h more → length (encode_utf8_all more) ≤ len_utf8 c → length h.builder.kept ≤ length g.builder.kept + len_utf8 c
grown_few g h more c r few = let l = ap length r.kept in let k = length-append g.builder.kept (encode_utf8_all more) in omega (arith, l, k, few)

grown_none : (g h : Gathered) (more : List ℕ) → Grows g h more → more ≡ [] → h.builder.kept ≡ g.builder.kept
grown_none g h more r e = r.kept ∙ ap (λ (m : List ℕ). g.builder.kept ++ encode_utf8_all m) e ∙ append-nil g.builder.kept

mark_few : (kept cut : List ℕ) (mark c : ℕ) → length cut ≤ length kept → len_utf8 mark ≡ 1 → length (cut ++ encode_utf8 mark) ≤ length kept + len_utf8 c
mark_few kept cut mark c h one = let l = length-append cut (encode_utf8 mark) in let k = length-encode mark in omega (arith, l, k, one, (len_utf8_bounds c).0, h)

module _ (lines macros : ℕ) where
  -- ---- a text

  module _ (s : TextStage) (x : Char) (t : text.Takes s x.c) where
    module _ (e : list_any is_text_end t.events ≡ false) where
      grown : (k : List ℕ) → text.Keeps s k → (g : Gathered) → Grows g (with_all g (text_events t.events)) (kept_in t.events)
      grown k keeps g = text_grows t.events g (text_goes_on s t.after x.c t.events k t.keeps keeps e)

      pub text_one : KeepsOne lines macros x (part.Text s) (part.Text t.after) (text_events t.events)
      text_one = record {
        few = λ p keeps g. let h = text_of lines macros s p keeps in grown_few g (with_all g (text_events t.events)) (kept_in t.events) x.c (grown h.k h.keeps g) (few_of (kept_in t.events) x.c (t.one h.k h.keeps) (t.keeps.only h.k h.keeps));
        none = λ p keeps opened g. let h = text_of lines macros s p keeps in grown_none g (with_all g (text_events t.events)) (kept_in t.events) (grown h.k h.keeps g) (t.none h.k h.keeps opened);
        made = λ p keeps is g. let h = text_of lines macros s p keeps in (grown h.k h.keeps g).made;
        percent = λ p keeps is g same. let h = text_of lines macros s p keeps in t.percent h.k h.keeps is (same_bytes g.builder.kept (with_all g (text_events t.events)).builder.kept (kept_in t.events) (grown h.k h.keeps g).kept same);
      }

    module _ (e : list_any is_text_end t.events ≡ true) (after : BodyPart) (outside : is_in_comment after ≡ false) where
      marked : (k : List ℕ) → text.Keeps s k → (g : Gathered) → IsMarked g (with_all g (text_events t.events)) 40
      marked k keeps g =
          let ends = t.keeps.ends k keeps (ends_text t.events e) in
          subst (λ (i : Gathered). IsMarked g i 40) (sym (said_gathered g t.events ∙ ap (λ (os : List TextEvent). with_all g (text_events os)) ends.said)) (end_marks g (text.said_at_end k) ends.notes)

      -- a `%` does not end it
      no_percent : {A : Type 0} (k : List ℕ) → text.Keeps s k → x.c ≡ 37 → A
      no_percent k keeps is = grind (arith, ends_text, and-false)

      pub text_end_one : KeepsOne lines macros x (part.Text s) after (text_events t.events)
      text_end_one = record {
        few = λ p keeps g. let h = text_of lines macros s p keeps in
            subst (λ (bytes : List ℕ). length bytes ≤ length g.builder.kept + len_utf8 x.c) (sym (marked h.k h.keeps g).kept) (mark_few g.builder.kept g.builder.kept 40 x.c (omega arith) refl);
        none = λ p keeps opened g. absurd (false≢true (sym outside ∙ opened));
        made = λ p keeps is g. let h = text_of lines macros s p keeps in no_percent h.k h.keeps is;
        percent = λ p keeps is g same. let h = text_of lines macros s p keeps in no_percent h.k h.keeps is;
      }

  -- ---- a snippet

  module _ {x : Char} {line : ℕ} {opened : Place} {before same : BodyPart} {es : List NoteEvent} (s : SnippetSteps x line opened before es same) where
    notes_grow : (g : Gathered) → ends_of es ≡ [] → Grows g (with_all g (of_notes line opened es)) (kept_of es)
    notes_grow g none = subst (λ (h : Gathered). Grows g h (kept_of es)) (sym (notes_said line opened es g none)) (snippet_grows line (kept_of es) g)

    few_kept : (kept_of es ≡ []) ⊎ (kept_of es ≡ x.c ∷ []) → length (encode_utf8_all (kept_of es)) ≤ len_utf8 x.c
    few_kept h = grind (arith, one_byte)

    pub goes_one : list_any is_next es ≡ false → list_any is_close es ≡ false → ((p : KeptParts) → PartKeeps lines macros before p → x.c ≡ 37 → kept_of es ≡ [] → is_in_comment same ≡ true)
        → KeepsOne lines macros x before same (of_notes line opened es)
    goes_one next close percent = record {
      few = λ p keeps g. let h = going lines macros s p keeps next close in grown_few g (with_all g (of_notes line opened es)) (kept_of es) x.c (notes_grow g h.no_end) (few_kept h.kept);
      none = λ p keeps comment g. let h = going lines macros s p keeps next close in grown_none g (with_all g (of_notes line opened es)) (kept_of es) (notes_grow g h.no_end) (h.none comment);
      made = λ p keeps is g. (notes_grow g (going lines macros s p keeps next close).no_end).made;
      percent = λ p keeps is g same_kept. let h = going lines macros s p keeps next close in
          percent p keeps is (same_bytes g.builder.kept (with_all g (of_notes line opened es)).builder.kept (kept_of es) (notes_grow g h.no_end).kept same_kept);
    }

    -- a `%` is no mark
    not_percent : {A : Type 0} → (x.c ≡ 124) ⊎ (x.c ≡ 41) → x.c ≡ 37 → A
    not_percent h is = grind arith

    next_few : (g : Gathered) (n : ℕ) → length (with_event g (event.Notes line (note.Ended note_end.Next n))).builder.kept ≤ length g.builder.kept + len_utf8 x.c
    next_few g n = mark_few g.builder.kept (prefix_of (g.builder.from + n) g.builder.kept) 124 x.c (prefix_few (g.builder.from + n) g.builder.kept) refl

    pub next_one : (after : BodyPart) → is_in_comment after ≡ false → list_any is_next es ≡ true → KeepsOne lines macros x before after (of_notes line opened es)
    next_one after outside next = record {
      few = λ p keeps g. let h = ending_next lines macros s p keeps next in
          subst (λ (i : Gathered). length i.builder.kept ≤ length g.builder.kept + len_utf8 x.c) (sym (notes_ended line opened es g note_end.Next _ h.none_kept (next_ends es x.c _ h.end next))) (next_few g _);
      none = λ p keeps comment g. absurd (false≢true (sym outside ∙ comment));
      made = λ p keeps is g. not_percent (ending_next lines macros s p keeps next).mark is;
      percent = λ p keeps is g same_kept. not_percent (ending_next lines macros s p keeps next).mark is;
    }

    pub close_one : (after : BodyPart) → is_in_comment after ≡ false → list_any is_close es ≡ true → KeepsOne lines macros x before after (of_notes line opened es)
    close_one after outside close = record {
      few = λ p keeps g. let h = ending_close lines macros s p keeps close in
          subst (λ (i : Gathered). length i.builder.kept ≤ length g.builder.kept + len_utf8 x.c) (sym (notes_ended line opened es g note_end.Close _ h.none_kept (close_ends es x.c _ h.end close))) (omega arith);
      none = λ p keeps comment g. absurd (false≢true (sym outside ∙ comment));
      made = λ p keeps is g. not_percent (ending_close lines macros s p keeps close).mark is;
      percent = λ p keeps is g same_kept. not_percent (ending_close lines macros s p keeps close).mark is;
    }
