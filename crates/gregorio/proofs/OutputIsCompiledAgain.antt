-- An output whose headers are whole is compiled again as itself.
use Rattle.std.proofs.Common.{◌≡◌, ◌≢◌, ℕ, ◌≤◌, ◌<◌, ◌^◌, List, [], ◌∷◌, length, true, false, ◌||◌, Option, Some, None, IsSome, refl, sym, ap, subst, ◌∙◌, arith}
use Rattle.std.specs.Char.{IsScalar}
use Rattle.std.specs.List.{All, list_any}
use Rattle.std.proofs.lemmas.List.Elements.{All-head, All-tail}
use Rattle.std.proofs.lemmas.List.{length-map}
use lib.Utf8.{encodes}
use Rattle.gabc_places.specs.declared.limits.Limits.{Limits}
use Rattle.gabc_places.specs.LargerLimits.{AreNoLess}
use Rattle.gabc_places.specs.declared.code.Finding.{Finding}
use Rattle.gabc_places.specs.declared.decoded.Decoded.{Decoded}
use Rattle.gabc_places.specs.Code.{severity_of}
use Rattle.gabc_places.specs.Text.{text_of_bytes, decoded_of}
use Rattle.gabc_places.specs.declared.severity.Severity.TheVariants.{Warning}
use Rattle.gabc_body.specs.declared.ending.InputEnding as score
use Rattle.gabc_body.specs.declared.ending.InputEnding.TheVariants.{Whole as WholeInput}
use Rattle.gabc_body.specs.Holding.{HasWholeSnippets}
use Rattle.gabc_body.specs.witness.EmittedScore.{emitted_score}
use Rattle.gabc_body.specs.Syllable.{PlacedSyllable}
use Rattle.gabc_write.specs.CanonicalFile.{score_text}
use Rattle.gabc_neumes.specs.InForce.{InForce, nothing_in_force}
use Rattle.gabc_write.specs.DumpOfSyllables.{lines_of_syllables, dump_text}
use Rattle.gabc_write.specs.FileAgain.{printed_file}
use Rattle.gabc_write.specs.SyllableMeaning.{AreSame}
use Rattle.gabc_write.specs.PlainText.{IsText}
use Rattle.gabc_write.specs.ScoreAgain.{IsScoreAgain}
use Rattle.gregorio_jobs.specs.declared.job.Format.TheVariants.{Gabc, Dump}
use Rattle.gregorio_jobs.specs.declared.job.Status.TheVariants.{Whole}
use Rattle.gregorio.specs.declared.outcome.Outcome.{Outcome}
use Rattle.gregorio.specs.declared.source_ending.SourceEnding.{SourceEnding}
use Rattle.gregorio.specs.declared.source_ending.SourceEnding.TheVariants.{Whole as Ended}
use Rattle.gregorio.specs.CanonicalAgain.{IsOutcomeAgain}
use Rattle.gregorio.specs.Outcome.{is_whole, ending_by, is_cut_short, outcome_of, output_by, output_of, is_read_whole, is_error, is_error_finding, status_by, status_of}
use Rattle.gregorio.specs.witness.EmittedOutcome.{emitted_outcome}
use Rattle.gregorio.proofs.OutcomeIsEmitted.{ScoresAreRead, outcome_is}

abbrev IsWarning : Finding → Type 0
IsWarning f = severity_of f.code ≡ Warning

no_errors : (fs : List Finding) → All IsWarning fs → list_any is_error_finding fs ≡ false
no_errors [] h = refl
no_errors (f ∷ fs) h = ap (λ b. b || list_any is_error_finding fs) (ap is_error (All-head IsWarning f fs h)) ∙ no_errors fs (All-tail IsWarning f fs h)

-- what is made of an input that ended, by its text
abbrev pub made_of : Limits → Decoded → Outcome
made_of limits decoded =
    let score = emitted_score limits (ending_by Ended decoded.fault) decoded.text in
    record { score = score; broken = is_cut_short Ended score.fault }

-- an outcome that is whole
whole_status : (m : Outcome) → m.score.fault ≡ None → m.broken ≡ false → list_any is_error_finding m.score.findings ≡ false → status_of m ≡ Whole
whole_status m f b e = ap (λ o. status_by o m.broken (list_any is_error_finding m.score.findings)) f ∙ ap (λ x. status_by None x (list_any is_error_finding m.score.findings)) b ∙ ap (λ x. status_by None false x) e

-- the dump of an outcome that is whole
dump_is : (m : Outcome) (syllables : List PlacedSyllable) (book : List (List ℕ × List ℕ)) → m.score.fault ≡ None → m.broken ≡ false → m.score.book ≡ Some book
    → lines_of_syllables 1 nothing_in_force m.score.syllables ≡ lines_of_syllables 1 nothing_in_force syllables → AreSame m.score.syllables syllables → output_of Dump m ≡ dump_text true book syllables
dump_is m syllables book f b h lines same = grind (arith, length-map)

module _ (plain : (limit : ℕ) (bytes : List ℕ) → All (λ c. (c ≢ 13) × (c ≢ 0xFEFF)) (text_of_bytes limit bytes)) (scalars : (limit : ℕ) (bytes : List ℕ) → All IsScalar (text_of_bytes limit bytes))
    (short : (limit : ℕ) (bytes : List ℕ) → length (encodes (text_of_bytes limit bytes)) ≤ limit)
    (read_again : (limits larger : Limits) (ending : score.InputEnding) (t : List ℕ) (book : List (List ℕ × List ℕ)) → AreNoLess limits larger → length (encodes t) < 2 ^ 63 → IsText t
    → (emitted_score limits ending t).book ≡ Some book → IsScoreAgain larger t book (emitted_score limits ending t).syllables)
    (between : (limits : Limits) (ending : score.InputEnding) (t : List ℕ) → length (encodes t) < 2 ^ 63 → All (λ (s : PlacedSyllable). HasWholeSnippets s.made) (emitted_score limits ending t).syllables)
    (one_dump : (number : ℕ) (outset : InForce) (ss ts : List PlacedSyllable) → All (λ (s : PlacedSyllable). HasWholeSnippets s.made) ss → All (λ (s : PlacedSyllable). HasWholeSnippets s.made) ts
    → AreSame ss ts → lines_of_syllables number outset ss ≡ lines_of_syllables number outset ts)
    (read : ScoresAreRead) (limits larger : Limits) (ending : SourceEnding) (bytes : List ℕ) (no_less : AreNoLess limits larger) where
  abbrev first : Outcome
  first = emitted_outcome limits ending bytes

  abbrev text : List ℕ
  text = text_of_bytes limits.input bytes

  with_book : (book : List (List ℕ × List ℕ)) → first.score.book ≡ Some book → IsOutcomeAgain first (emitted_outcome larger Ended (output_of Gabc first))
  with_book book h =
      let small : length (encodes text) < 2 ^ 63 = omega (arith, short limits.input bytes, limits.in_range.input_most) in
      let s = read_again limits larger (ending_by ending (decoded_of limits (is_whole ending) bytes).fault) text book no_less small (record { scalars = scalars limits.input bytes; plain = plain limits.input bytes }) h in
      let file = printed_file book s.printed.facts in
      let output : output_of Gabc first ≡ score_text book first.score.syllables = ap (λ b. output_by Gabc (is_read_whole first) b first.score.syllables) h in
      let made : emitted_outcome larger Ended (output_of Gabc first) ≡ made_of larger (record { text = file; fault = None }) = ap (λ c. emitted_outcome larger Ended c) output ∙ ap (made_of larger) (s.decoded true) in
      let again = made_of larger (record { text = file; fault = None }) in
      let file_small : length (encodes file) < 2 ^ 63 = omega (arith, ap (length {A = ℕ}) s.printed.bytes, larger.in_range.input_most) in
      let how = ending_by ending (decoded_of limits (is_whole ending) bytes).fault in
      subst (IsOutcomeAgain first) (sym made) (record {
        fault = s.no_fault;
        errors = no_errors again.score.findings s.warnings;
        status = whole_status again s.no_fault refl (no_errors again.score.findings s.warnings);
        book = s.same.book_is ∙ sym h;
        syllables = s.same_meaning;
        output = ap (λ b. output_by Gabc (is_read_whole again) b again.score.syllables) s.same.book_is ∙ s.same_file ∙ sym output;
        dump = λ other e. dump_is again first.score.syllables other s.no_fault refl (s.same.book_is ∙ sym h ∙ e)
            (one_dump 1 nothing_in_force again.score.syllables first.score.syllables (between larger WholeInput file file_small) (between limits how text small) s.same_meaning) s.same_meaning;
      })

  compiled_emitted : IsSome first.score.book → IsOutcomeAgain first (emitted_outcome larger Ended (output_of Gabc first))
  compiled_emitted h = by first.score.book refl h
    where
      by : (o : Option (List (List ℕ × List ℕ))) → first.score.book ≡ o → IsSome o → IsOutcomeAgain first (emitted_outcome larger Ended (output_of Gabc first))
      by None e k = absurd (cc)
      by (Some book) e k = with_book book e

  emitted_short : length (output_of Gabc first) ≤ larger.input
  emitted_short = by first.score.book refl
    where
      by : (o : Option (List (List ℕ × List ℕ))) → first.score.book ≡ o → length (output_of Gabc first) ≤ larger.input
      by None e = let size : length (output_of Gabc first) ≡ 0 = ap (λ b. length (output_by Gabc (is_read_whole first) b first.score.syllables)) e in omega arith
      by (Some book) e =
          let small : length (encodes text) < 2 ^ 63 = omega (arith, short limits.input bytes, limits.in_range.input_most) in
          let s = read_again limits larger (ending_by ending (decoded_of limits (is_whole ending) bytes).fault) text book no_less small (record { scalars = scalars limits.input bytes; plain = plain limits.input bytes }) e in
          let size : length (output_of Gabc first) ≡ length (score_text book first.score.syllables) = ap (λ b. length (output_by Gabc (is_read_whole first) b first.score.syllables)) e in
          omega (arith, s.fits)

  pub compiled_again : (let o = outcome_of limits ending bytes in IsSome o.score.book → IsOutcomeAgain o (outcome_of larger Ended (output_of Gabc o)))
  compiled_again =
      subst (λ (o : Outcome). IsSome o.score.book → IsOutcomeAgain o (outcome_of larger Ended (output_of Gabc o))) (sym (outcome_is read limits ending bytes))
      (λ h. subst (IsOutcomeAgain first) (sym (outcome_is read larger Ended (output_of Gabc first))) (compiled_emitted h))

  pub output_short : length (output_of Gabc (outcome_of limits ending bytes)) ≤ larger.input
  output_short = subst (λ (o : Outcome). length (output_of Gabc o) ≤ larger.input) (sym (outcome_is read limits ending bytes)) emitted_short
