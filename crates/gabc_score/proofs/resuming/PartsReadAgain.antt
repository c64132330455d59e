-- A part reads the next character of a kept text again, by what its stage does.
use Rattle.std.proofs.lemmas.Bool.{false_from_ne_true, true≢false}
use Rattle.std.proofs.Common.{◌≡◌, ◌≢◌, ◌⊎◌, inl, inr, ◌==◌, ◌&&◌, ◌||◌, not, ℕ, zero, suc, ◌+◌, ◌-◌, ◌^◌, ◌<◌, min, nat_lt, Bool, true, false, List, [], ◌∷◌, ◌++◌, length, Some, None, encode_utf8, encode_utf8_all, refl, sym, ap, subst, ◌∙◌, append-nil, arith, if◌then◌else◌}
use Rattle.std.proofs.Math.Bool.{and-false}
use Rattle.std.proofs.lemmas.List.{append_cancel_left}
use Rattle.std.specs.List.{list_any}
use Rattle.gabc_places.specs.declared.place.Char.{Char}
use Rattle.gabc_places.specs.declared.place.Place.{Place}
use Rattle.gabc_patterns.specs.Derivative.{is_viable}
use Rattle.gabc_patterns.specs.LongestItems.{IsSnippet}
use Rattle.gabc_patterns.proofs.FunctionsMeetRelations.{trim_snippet}
use Rattle.gabc_text.specs.BuiltText.{kept_in}
use Rattle.gabc_text.specs.StageReports as text_tells
use Rattle.gabc_text.specs.witness.Keeps as text
use Rattle.gabc_text.specs.declared.stage.TextStage.{TextStage}
use Rattle.gabc_text.specs.declared.text_event.TextEvent.{TextEvent}
use Rattle.gabc_notes.specs.Events.{end_by_mark, in_raw}
use Rattle.gabc_notes.specs.SnippetRead.{kept_of, ends_of}
use Rattle.gabc_notes.specs.StageReports as tells
use Rattle.gabc_notes.specs.Table.{gabc}
use Rattle.gabc_notes.specs.witness.Keeps as notes
use Rattle.gabc_notes.specs.declared.stage.NoteEnd.TheVariants as note_end
use Rattle.gabc_notes.specs.declared.stage.NoteEvent.{NoteEvent}
use Rattle.gabc_notes.specs.declared.stage.NoteStage.{NoteStage}
use Rattle.gabc_nabc.specs.Table.{nabc as nabc_table}
use Rattle.gabc_nabc.specs.witness.DescriptorMachine.{comment_in}
use Rattle.gabc_nabc.specs.witness.Keeps as nabc
use Rattle.gabc_nabc.specs.declared.stage.NabcStage.{NabcStage}
use Rattle.gabc_score.specs.declared.body_stage.BodyPart.{BodyPart}
use Rattle.gabc_score.specs.declared.body_stage.BodyPart.TheVariants as part
use Rattle.gabc_score.specs.declared.body_tells.Openers.{Openers}
use Rattle.gabc_body.specs.Events.{after_mark, is_close, is_next, is_text_end}
use Rattle.gabc_score.specs.ScoreReports.{is_in_comment, is_in_front, openers_of}
use Rattle.gabc_body.specs.Syllable.{prefix_of}
use Rattle.gabc_body.specs.witness.BodyBuilder.{with_all}
use Rattle.gabc_body.specs.witness.Gatherer.{Gathered}
use Rattle.gabc_score.specs.machine.PartKeeps.{KeptParts, in_text, in_notes, text_before, snippet_events, PartKeeps}
use Rattle.gabc_body.specs.witness.TextEvents.{text_events}
use Rattle.gabc_score.specs.machine.ReadAgain.{Adds, BeginsComment, BeginsIn, IsNext, IsNextIn, OpensNotes, Reads, ReadsAgain}
use Rattle.gabc_score.proofs.building.SnippetsTakeCharacters.{in_snippet, next_ends, none_next, not_next, one_ends, stays_in_notes}
use Rattle.gabc_body.proofs.emitted.EndsOfSnippets.{none_close}
use Rattle.gabc_score.proofs.building.PartsOfKeptText.{Grows, end_marks, ends_text, notes_ended, notes_said, of_notes, said_gathered, snippet_grows, text_goes_on, text_grows}
use Rattle.gabc_score.proofs.resuming.PartsAreOne.{outside}
use Rattle.gabc_body.proofs.texts_of_body.SeamsOfCharacters.{cut_is, size, size_append, size_is_sum}
use Rattle.gabc_body.specs.declared.events.BodyEvent.{BodyEvent}
use Rattle.gabc_text.specs.TextStage.{fresh_stage}
use Rattle.gabc_score.specs.machine.PartSteps.{PartSteps, SnippetSteps}
use Rattle.gabc_score.specs.machine.PartSteps as step

-- ---- a part that is in notes

not_in_front : (opened : Place) (after : BodyPart) → openers_of after ≡ record { notes = Some opened; inner = None } → is_in_front after ≡ false
not_in_front opened part.Comment is = absurd (cc (ap (λ (k : Openers). k.notes) is))
not_in_front opened (part.Text s) is = refl
not_in_front opened _ is = refl

-- one character more
one_more : (kept : List ℕ) (c : ℕ) → kept ++ encode_utf8 c ≡ kept ++ encode_utf8_all (c ∷ [])
one_more kept c = ap (λ (b : List ℕ). kept ++ b) (sym (append-nil (encode_utf8 c)))

-- ---- a text

module _ (lines macros : ℕ) (x : Char) (s t : TextStage) (es : List TextEvent) (on : text.KeepsOn s x.c es t) where
  -- what keeps something does not end the text
  kept_goes_on : (k : List ℕ) → text.Keeps s k → text_tells.is_in_comment s ≡ false → text.kept_with k x.c ≡ x.c ∷ [] → text.end_text es ≡ false
  kept_goes_on k keeps plain kept = false_from_ne_true (text.end_text es) (λ e. let none : x.c ∷ [] ≡ [] = sym kept ∙ sym (on.kept k keeps plain) ∙ (on.ends k keeps e).kept in cc)

  percent_goes_on : (k : List ℕ) → text.Keeps s k → x.c ≡ 37 → text.end_text es ≡ false
  percent_goes_on k keeps is = on.end k keeps ∙ ap (λ (c : ℕ). not (text_tells.is_in_comment s) && (c == 40 && text.ends_after_it k)) is ∙ and-false (not (text_tells.is_in_comment s))

  text_goes : (k more : List ℕ) (comment : Bool) → text.Keeps s k → text.end_text es ≡ false → kept_in es ≡ more → text.comment_with k (text_tells.is_in_comment s) x.c ≡ comment
      → Reads (part.Text s) (in_text k) x more comment (part.Text t) (text_events es)
  text_goes k more comment keeps goes_on kept is = record {
    adds = λ g here from fits. let h = text_grows es g goes_on in record { kept = h.kept ∙ ap (λ (m : List ℕ). g.builder.kept ++ encode_utf8_all m) kept; made = h.made };
    comment_is = goes.comment ∙ is;
    front = refl;
  }
    where
      goes : text.GoesOn s k x.c es t
      goes = on.goes k keeps goes_on

  pub text_reads : list_any is_text_end es ≡ false → ReadsAgain lines macros x (part.Text s) (part.Text t) (text_events es)
  text_reads goes_on = record { next = next; comment = comment }
    where
      next : (p : KeptParts) → PartKeeps lines macros (part.Text s) p → text_tells.is_in_comment s ≡ false → IsNext lines p x.c → Reads (part.Text s) p x (x.c ∷ []) false (part.Text t) (text_events es)
      next (in_notes u earlier k) keeps plain is = absurd keeps
      next (in_text k) keeps plain (inl is) =
          text_goes k (x.c ∷ []) false keeps (kept_goes_on k keeps plain is.0) (on.kept k keeps plain ∙ is.0) (ap (λ (b : Bool). text.comment_with k b x.c) plain ∙ is.1)
      next (in_text k) keeps plain (inr is) = absurd (true≢false (sym ended ∙ text_goes_on s t x.c es k on keeps goes_on))
        where
          ended : text.end_text es ≡ true
          ended = on.end k keeps ∙ ap (λ (b : Bool). not b && (x.c == 40 && text.ends_after_it k)) plain ∙ ap (λ (c : ℕ). c == 40 && text.ends_after_it k) is.0 ∙ is.1

      comment : (p : KeptParts) → PartKeeps lines macros (part.Text s) p → text_tells.is_in_comment s ≡ false → x.c ≡ 37 → BeginsComment lines p → Reads (part.Text s) p x [] true (part.Text t) (text_events es)
      comment (in_notes u earlier k) keeps plain is begins = absurd keeps
      comment (in_text k) keeps plain is begins =
          text_goes k [] true keeps (percent_goes_on k keeps is) (on.kept k keeps plain ∙ ap (text.kept_with k) is ∙ begins.1)
          (ap (λ (b : Bool). text.comment_with k b x.c) plain ∙ ap (λ (c : ℕ). c == 37 && text.begins_comment k) is ∙ begins.0)

  -- the `(` after it
  pub text_end_reads : (after : BodyPart) → list_any is_text_end es ≡ true → openers_of after ≡ record { notes = Some x.place; inner = None } → is_in_comment after ≡ false
      → ReadsAgain lines macros x (part.Text s) after (text_events es)
  text_end_reads after over openers closed = grind (arith, ends_text, kept_goes_on, one_more, not_in_front, said_gathered, end_marks, percent_goes_on)

-- ---- a snippet

-- A snippet goes on after a character with this kept more, and a comment is open after it or not.
record GoesWith (es : List NoteEvent) (after : BodyPart) (more : List ℕ) (comment : Bool) : Type 0 where
  no_end : ends_of es ≡ []
  kept : kept_of es ≡ more
  comment_is : is_in_comment after ≡ comment

-- It ends at its mark c, and all of it stays kept.
record EndsWhole (es : List NoteEvent) (c : ℕ) (k : List ℕ) : Type 0 where
  none_kept : kept_of es ≡ []
  end : ends_of es ≡ (end_by_mark c, min (size k) (2 ^ 64 - 1)) ∷ []

-- It goes on with the next character of a kept text, or ends whole at its `|`; and a `%` begins a
-- comment.
record ReadsNext (lines line : ℕ) (x : Char) (after : BodyPart) (es : List NoteEvent) (k : List ℕ) : Type 0 where
  next : IsNextIn lines line k x.c → GoesWith es after (x.c ∷ []) false ⊎ ((x.c ≡ 124) × EndsWhole es x.c k)
  comment : x.c ≡ 37 → BeginsIn line k → GoesWith es after [] true

module _ (line : ℕ) (opened : Place) (es : List NoteEvent) where
  goes_adds : (more : List ℕ) → ends_of es ≡ [] → kept_of es ≡ more → (g : Gathered) → Adds g (with_all g (of_notes line opened es)) more
  goes_adds more none kept g =
      subst (λ (i : Gathered). Adds g i more) (sym (notes_said line opened es g none))
      (record { kept = grown.kept ∙ ap (λ (m : List ℕ). g.builder.kept ++ encode_utf8_all m) kept; made = grown.made })
    where
      grown : Grows g (with_all g (snippet_events line (kept_of es))) (kept_of es)
      grown = snippet_grows line (kept_of es) g

  ends_adds : (c : ℕ) (before k : List ℕ) → EndsWhole es c k → list_any is_next es ≡ true → (g : Gathered) → g.builder.kept ≡ encode_utf8_all (before ++ k) → g.builder.from ≡ size before → length g.builder.kept < 2 ^ 64
      → Adds g (with_all g (of_notes line opened es)) (124 ∷ [])
  ends_adds c before k h next g here from fits =
      subst (λ (i : Gathered). Adds g i (124 ∷ [])) (sym (notes_ended line opened es g note_end.Next n h.none_kept (next_ends es c n h.end next)))
      (record { kept = ap (λ (b : List ℕ). b ++ encode_utf8 124) cut ∙ one_more g.builder.kept 124; made = refl })
    where
      n : ℕ
      n = min (size k) (2 ^ 64 - 1)

      count : n ≡ size k
      count = let all : length g.builder.kept ≡ size before + size k = ap length here ∙ size_append before k in omega (arith, fits, all)

      cut : prefix_of (g.builder.from + n) g.builder.kept ≡ g.builder.kept
      cut =
          cut_is g.builder.from n g.builder.kept before k [] (here ∙ ap (λ (t : List ℕ). encode_utf8_all (before ++ t)) (sym (append-nil k))) from count
          ∙ sym here

-- ---- a snippet of GABC

module _ (lines macros : ℕ) (opened : Place) (s t : NoteStage) (x : Char) (es : List NoteEvent) (on : notes.KeepsOn s x es t) where
  abbrev split : Bool
  split = nat_lt 0 lines

  abbrev Keep : List ℕ → Type 0
  Keep k = notes.Keeps split macros s k

  abbrev GoesOn : List ℕ → Bool → Type 0
  GoesOn more comment = GoesWith es (part.Notes opened t) more comment

  gabc_goes : (k more : List ℕ) (comment : Bool) → Keep k → notes.is_end_after split k (tells.comment_of s) x.c ≡ false → notes.kept_after k (tells.comment_of s) x.c ≡ k ++ more
      → notes.is_comment_after k (tells.comment_of s) x.c ≡ comment → GoesOn more comment
  gabc_goes k more comment keeps goes_on kept is =
      let g = on.goes split macros k keeps goes_on in
      record {
        no_end = g.no_end;
        kept = append_cancel_left k (kept_of es) more (g.kept ∙ kept);
        comment_is = g.comment ∙ is;
      }

  gabc_again : (k : List ℕ) → Keep k → tells.comment_of s ≡ false → notes.IsKeptAgain split k x.c → GoesOn (x.c ∷ []) false
  gabc_again k keeps plain is =
      gabc_goes k (x.c ∷ []) false keeps (ap (λ (b : Bool). notes.is_end_after split k b x.c) plain ∙ is.goes_on) (ap (λ (b : Bool). notes.kept_after k b x.c) plain ∙ is.kept)
      (ap (λ (b : Bool). notes.is_comment_after k b x.c) plain ∙ is.no_comment)

  gabc_percent : (k : List ℕ) → Keep k → tells.comment_of s ≡ false → x.c ≡ 37 → in_raw k ≡ false → GoesOn [] true
  gabc_percent k keeps plain is raw =
      gabc_goes k [] true keeps
      (ap (λ (b : Bool). not b && (not (in_raw k) && ((x.c == 41) || (split && (x.c == 124))))) begins)
      (ap (λ (b : Bool). if not b && is_viable gabc (k ++ x.c ∷ []) then k ++ x.c ∷ [] else k) begins ∙ sym (append-nil k)) begins
    where
      begins : notes.is_comment_after k (tells.comment_of s) x.c ≡ true
      begins =
          ap (λ (b : Bool). notes.is_comment_after k b x.c) plain
          ∙ ap (λ (c : ℕ). not (c == 10) && (false || (not (in_raw k) && (c == 37)))) is
          ∙ ap (λ (r : Bool). not (37 == 10) && (false || (not r && (37 == 37)))) raw

  gabc_bar : (k : List ℕ) → Keep k → tells.comment_of s ≡ false → x.c ≡ 124 → split ≡ true → IsSnippet gabc k → notes.EndsAfter k x.c es
  gabc_bar k keeps plain is splits snippet = grind (arith, outside)

  gabc_next : (k : List ℕ) → Keep k → tells.comment_of s ≡ false → ReadsNext lines 0 x (part.Notes opened t) es k
  gabc_next k keeps plain = grind (arith, gabc_percent, gabc_again, gabc_bar, size_is_sum, trim_snippet)

-- ---- a snippet of NABC

module _ (lines macros line : ℕ) (opened : Place) (s t : NabcStage) (x : Char) (es : List NoteEvent) (on : nabc.KeepsOn s x es t) where
  abbrev NabcGoesOn : List ℕ → Bool → Type 0
  NabcGoesOn more comment = GoesWith es (part.Nabc line opened t) more comment

  nabc_goes : (k more : List ℕ) (comment : Bool) → nabc.Keeps s k → nabc.is_end_after (nabc.comment_of s) x.c ≡ false → nabc.kept_after k (nabc.comment_of s) x.c ≡ k ++ more
      → comment_in (nabc.comment_of s) x.c ≡ comment → NabcGoesOn more comment
  nabc_goes k more comment keeps goes_on kept is =
      let g = on.goes k keeps goes_on in
      record {
        no_end = g.no_end;
        kept = append_cancel_left k (kept_of es) more (g.kept ∙ kept);
        comment_is = g.comment ∙ is;
      }

  nabc_again : (k : List ℕ) → nabc.Keeps s k → nabc.comment_of s ≡ false → nabc.IsKeptAgain k x.c → NabcGoesOn (x.c ∷ []) false
  nabc_again k keeps plain is = grind (arith, nabc_goes)

  nabc_percent : (k : List ℕ) → nabc.Keeps s k → nabc.comment_of s ≡ false → x.c ≡ 37 → NabcGoesOn [] true
  nabc_percent k keeps plain is =
      nabc_goes k [] true keeps (ap (λ (b : Bool). nabc.is_end_after b x.c) plain ∙ ap (λ (c : ℕ). nabc.is_end_after false c) is)
      (ap (λ (b : Bool). nabc.kept_after k b x.c) plain ∙ ap (λ (c : ℕ). nabc.kept_after k false c) is ∙ sym (append-nil k))
      (ap (λ (b : Bool). comment_in b x.c) plain ∙ ap (λ (c : ℕ). comment_in false c) is)

  nabc_bar : (k : List ℕ) → nabc.Keeps s k → nabc.comment_of s ≡ false → x.c ≡ 124 → nabc.EndsAfter k x.c es
  nabc_bar k keeps plain is = on.ends k keeps (ap (λ (b : Bool). nabc.is_end_after b x.c) plain ∙ ap (λ (c : ℕ). nabc.is_end_after false c) is)

  nabc_next : (l : ℕ) (k : List ℕ) → l ≢ 0 → nabc.Keeps s k → nabc.comment_of s ≡ false → ReadsNext lines l x (part.Nabc line opened t) es k
  nabc_next zero k some keeps plain = absurd (some refl)
  nabc_next (suc l) k some keeps plain = record { next = next; comment = λ is begins. nabc_percent k keeps plain is }
    where
      next : IsNextIn lines (suc l) k x.c → NabcGoesOn (x.c ∷ []) false ⊎ ((x.c ≡ 124) × EndsWhole es x.c k)
      next (inl is) = inl (nabc_again k keeps plain is)
      next (inr is) =
          let e = nabc_bar k keeps plain is.0 in
          inr (is.0, record { none_kept = e.none_kept; end = e.end ∙ ap (λ (n : ℕ). (end_by_mark x.c, min n (2 ^ 64 - 1)) ∷ []) (ap size (trim_snippet nabc_table refl k is.1)) })

-- ---- either

reads_next : (lines macros : ℕ) {x : Char} {line : ℕ} {opened : Place} {before after : BodyPart} {es : List NoteEvent} → SnippetSteps x line opened before es after → (u : List ℕ) (earlier : List (List ℕ)) (k : List ℕ)
    → PartKeeps lines macros before (in_notes u earlier k) → is_in_comment before ≡ false → ReadsNext lines line x after es k
reads_next lines macros {x} (step.in_gabc {opened} {s} {t} {es} h) u earlier k keeps plain = gabc_next lines macros opened s t x es h.keeps k keeps.1 plain
reads_next lines macros {x} (step.in_nabc {line} {opened} {s} {t} {es} h) u earlier k keeps plain = nabc_next lines macros line opened s t x es h.keeps line k keeps.1.0 keeps.1.1 plain

module _ (lines macros : ℕ) {x : Char} {line : ℕ} {opened : Place} {before same : BodyPart} {es : List NoteEvent} (s : SnippetSteps x line opened before es same) where
  abbrev ReadsIn : BodyPart → KeptParts → List ℕ → Bool → Type 0
  ReadsIn after p more comment = Reads before p x more comment after (of_notes line opened es)

  -- by which of the two comes next
  snippet_reads : (after : BodyPart) → ((u : List ℕ) (earlier : List (List ℕ)) (k more : List ℕ) (comment : Bool) → GoesWith es same more comment → ReadsIn after (in_notes u earlier k) more comment)
      → ((u : List ℕ) (earlier : List (List ℕ)) (k : List ℕ) → x.c ≡ 124 → EndsWhole es x.c k → ReadsIn after (in_notes u earlier k) (x.c ∷ []) false) → ReadsAgain lines macros x before after (of_notes line opened es)
  snippet_reads after goes ends = record {
    next = λ p keeps plain is. in_snippet lines macros s (λ (p : KeptParts). IsNext lines p x.c → ReadsIn after p (x.c ∷ []) false)
        (λ u earlier k later here is. elim ((reads_next lines macros s u earlier k here plain).next (subst (λ (l : ℕ). IsNextIn lines l k x.c) later.line_is is)) [
          | inl h ↦ goes u earlier k (x.c ∷ []) false h
          | inr h ↦ ends u earlier k h.0 h.1
        ]) p keeps is;
    comment = λ p keeps plain is begins. in_snippet lines macros s (λ (p : KeptParts). BeginsComment lines p → ReadsIn after p [] true)
        (λ u earlier k later here begins. goes u earlier k [] true ((reads_next lines macros s u earlier k here plain).comment is (subst (λ (l : ℕ). BeginsIn l k) later.line_is begins))) p keeps begins;
  }

  goes_reads : list_any is_next es ≡ false → list_any is_close es ≡ false → ReadsAgain lines macros x before same (of_notes line opened es)
  goes_reads next close = snippet_reads same
      (λ u earlier k more comment h. record {
        adds = λ g here from fits. goes_adds line opened es more h.no_end h.kept g;
        comment_is = h.comment_is;
        front = (stays_in_notes s).front;
      })
      (λ u earlier k is e. absurd (one_ends es x.c _ e.end next close))

  next_reads : (after : BodyPart) → list_any is_next es ≡ true → OpensNotes opened after → ReadsAgain lines macros x before after (of_notes line opened es)
  next_reads after next opens = snippet_reads after
      (λ u earlier k more comment h. absurd (true≢false (sym next ∙ none_next es x.c 0 h.no_end)))
      (λ u earlier k is h. record {
        adds = λ g here from fits. subst (λ (c : ℕ). Adds g (with_all g (of_notes line opened es)) (c ∷ [])) (sym is) (ends_adds line opened es x.c (text_before (in_notes u earlier k)) k h next g here from fits);
        comment_is = opens.1;
        front = not_in_front opened after opens.0;
      })

  close_reads : (after : BodyPart) → list_any is_close es ≡ true → ReadsAgain lines macros x before after (of_notes line opened es)
  close_reads after close = snippet_reads after
      (λ u earlier k more comment h. absurd (true≢false (sym close ∙ none_close es h.no_end)))
      (λ u earlier k is e. absurd (true≢false (sym (ap (λ (c : ℕ). c == 124) is) ∙ not_next es x.c _ e.end close)))

-- ---- a part takes a character

in_comment_reads : {lines macros : ℕ} {x : Char} {after : BodyPart} {now : List BodyEvent} → ReadsAgain lines macros x part.Comment after now
in_comment_reads = record { next = λ p keeps closed. absurd (true≢false closed); comment = λ p keeps closed. absurd (true≢false closed) }

pub reads_again : {lines macros : ℕ} {x : Char} {before after : BodyPart} {now : List BodyEvent} → PartSteps lines macros x before now after → ReadsAgain lines macros x before after now
reads_again (step.in_front h) = in_comment_reads
reads_again (step.leaves_front h s) = in_comment_reads
reads_again {lines} {macros} {x} (step.text_goes {s} {t} {es} h e) = text_reads lines macros x s t es h.keeps e
reads_again {lines} {macros} {x} (step.text_ends {s} {t} {es} {after} h e b) = text_end_reads lines macros x s t es h.keeps after e b.tells.0 b.tells.1
reads_again {lines} {macros} (step.snippet_goes s n c) = goes_reads lines macros s n c
reads_again {lines} {macros} (step.snippet_next {after = after} s n b) = next_reads lines macros s after n b.tells
reads_again {lines} {macros} {x} (step.snippet_closes s n c) = close_reads lines macros s (part.Text (fresh_stage (after_mark x.place))) c
