-- A run that is stopped after its headers has the book and the syllables of a prefix of its bytes.
use Rattle.std.proofs.Common.{◌≡◌, ℕ, ◌≤◌, ◌<◌, ◌^◌, ◌||◌, not, Bool, true, false, List, ◌++◌, length, take, Option, Some, None, is_some, refl, sym, ap, subst, ◌∙◌, arith, append-nil, append_assoc}
use lib.Utf8.{encodes}
use Rattle.gabc_places.specs.declared.code.Fault.{Fault}
use Rattle.gabc_places.specs.declared.decoded.Decoded.{Decoded}
use Rattle.gabc_places.specs.declared.limits.Limits.{Limits}
use Rattle.gabc_places.specs.declared.place.Char.{Char}
use Rattle.gabc_places.specs.Text.{decoded_of, text_of_bytes}
use Rattle.gabc_body.specs.declared.ending.InputEnding.{InputEnding}
use Rattle.gabc_body.specs.declared.ending.InputEnding.TheVariants.{Whole as WholeInput}
use Rattle.gabc_headers.specs.Book.{nabc_lines_of, macros_of}
use Rattle.gabc_body.specs.Events.{Texts, texts_by_definition}
use Rattle.gabc_body.specs.witness.EmittedScore.{emitted_score}
use Rattle.gabc_body.specs.SyllablesOfUnits.{body_characters, whole_prefix, IsBodyCut, AreBeforeBodyStop}
use Rattle.gabc_body.specs.Syllable.{PlacedSyllable}
use Rattle.gabc_body.specs.Units.{BodyCutting, IsCut}
use Rattle.gabc_write.specs.DumpLines.{end_line}
use Rattle.gregorio_jobs.specs.declared.job.Format.TheVariants.{Gabc, Dump}
use Rattle.gregorio.specs.declared.outcome.Outcome.{Outcome}
use Rattle.gregorio.specs.declared.source_ending.SourceEnding.{SourceEnding}
use Rattle.gregorio.specs.declared.source_ending.SourceEnding.TheVariants.{Whole as Ended}
use Rattle.gregorio.specs.PrefixOfAStop.{IsPrefixBeforeStop, IsOutcomeOfPrefix}
use Rattle.gregorio.specs.Outcome.{ending_by, is_cut_short, is_read_whole, is_whole, outcome_of, output_by}
use Rattle.gregorio.specs.witness.EmittedOutcome.{emitted_outcome}
use Rattle.gregorio.proofs.OutcomeIsEmitted.{ScoresAreRead, outcome_is}
use Rattle.gregorio.proofs.OutputIsCompiledAgain.{made_of}

-- ---- a stopped run

whole_where_ended : (ending : SourceEnding) (decoded fault : Option Fault) → ending_by ending decoded ≡ WholeInput → fault ≡ None → not (is_some fault || is_cut_short ending fault) ≡ true
whole_where_ended ending decoded fault e none = grind arith

-- ---- what is written

canonical_alike : (a b : Bool) (one other : Option (List (List ℕ × List ℕ))) (ss ts : List PlacedSyllable) (book : List (List ℕ × List ℕ)) → one ≡ Some book → other ≡ Some book → ss ≡ ts
    → output_by Gabc a one ss ≡ output_by Gabc b other ts
canonical_alike a b one other ss ts book h k same = grind arith

dump_alike : (a b : Bool) (one other : Option (List (List ℕ × List ℕ))) (ss ts : List PlacedSyllable) (book : List (List ℕ × List ℕ)) → a ≡ true → b ≡ false → one ≡ Some book → other ≡ Some book → ss ≡ ts
    → output_by Dump a one ss ≡ output_by Dump b other ts ++ end_line (length ts)
dump_alike a b one other ss ts book whole stopped h k same = grind (arith, stopped, append-nil, append_assoc)

module _ (prefixes : (limits : Limits) (ended whole : Bool) (bytes : List ℕ) (n : ℕ) → (count : ℕ) × (decoded_of limits whole (take count bytes) ≡ record { text = take n (decoded_of limits ended bytes).text; fault = None }))
    (short : (limit : ℕ) (bytes : List ℕ) → length (encodes (text_of_bytes limit bytes)) ≤ limit)
    (one_cutting : (texts : Texts) (lines macros : ℕ) (xs : List Char) → (cut : BodyCutting) × IsCut texts lines macros xs cut)
    (is_front : (book : List (List ℕ × List ℕ)) (t : List ℕ) (cut : BodyCutting) (n : ℕ) → IsBodyCut book t cut → (m : ℕ) × (whole_prefix t cut n ≡ take m t))
    (stop : (limits : Limits) (book : List (List ℕ × List ℕ)) (t : List ℕ) → (n : ℕ) × AreBeforeBodyStop limits book t n)
    (prefix : (limits : Limits) (ending : InputEnding) (t : List ℕ) (book : List (List ℕ × List ℕ)) (cut : BodyCutting) (n : ℕ) → length (encodes t) < 2 ^ 63
    → (let score = emitted_score limits ending t in let again = emitted_score limits WholeInput (whole_prefix t cut n) in
    score.book ≡ Some book → IsBodyCut book t cut → AreBeforeBodyStop limits book t n → ¬ ((ending ≡ WholeInput) × (score.fault ≡ None))
    → (again.book ≡ score.book) × ((again.syllables ≡ score.syllables) × (again.fault ≡ None))))
    (read : ScoresAreRead) (limits : Limits) (ending : SourceEnding) (bytes : List ℕ) where
  abbrev first : Outcome
  first = emitted_outcome limits ending bytes

  abbrev text : List ℕ
  text = text_of_bytes limits.input bytes

  abbrev how : InputEnding
  how = ending_by ending (decoded_of limits (is_whole ending) bytes).fault

  stopped : is_read_whole first ≡ false → ¬ ((how ≡ WholeInput) × (first.score.fault ≡ None))
  stopped h = grind (arith, whole_where_ended)

  front_of : (book : List (List ℕ × List ℕ)) → is_read_whole first ≡ false → first.score.book ≡ Some book → (count : ℕ) × IsPrefixBeforeStop limits ending bytes book count
  front_of book cut_short h =
      let cut = one_cutting texts_by_definition (nabc_lines_of book) (macros_of book) (body_characters text) in
      let before = stop limits book text in
      let small : length (encodes text) < 2 ^ 63 = omega (arith, short limits.input bytes, limits.in_range.input_most) in
      let a = prefix limits how text book cut.0 before.0 small h cut.1 before.1 (stopped cut_short) in
      let taken = is_front book text cut.0 before.0 cut.1 in
      let f = prefixes limits (is_whole ending) true bytes taken.0 in
      let prefix = whole_prefix text cut.0 before.0 in
      let decoded : decoded_of limits true (take f.0 bytes) ≡ record { text = prefix; fault = None } = f.1 ∙ ap (λ (t : List ℕ). record { text = t; fault = None }) (sym taken.1) in
      let again = made_of limits (record { text = prefix; fault = None }) in
      let whole : is_read_whole again ≡ true = whole_where_ended Ended None again.score.fault refl a.1.1 in
      let same : IsOutcomeOfPrefix first again = record {
        fault = a.1.1;
        book = a.0;
        syllables = a.1.0;
        output = canonical_alike (is_read_whole again) (is_read_whole first) again.score.book first.score.book again.score.syllables first.score.syllables book (a.0 ∙ h) h a.1.0;
        dump = dump_alike (is_read_whole again) (is_read_whole first) again.score.book first.score.book again.score.syllables first.score.syllables book whole cut_short (a.0 ∙ h) h a.1.0;
      } in (
        f.0,
        record {
          cut = cut.0;
          before = before.0;
          is_cut = cut.1;
          stand = before.1;
          text = decoded;
          outcome = subst (λ (o : Outcome). IsOutcomeOfPrefix o (outcome_of limits Ended (take f.0 bytes))) (sym (outcome_is read limits ending bytes))
              (subst (IsOutcomeOfPrefix first) (sym (outcome_is read limits Ended (take f.0 bytes))) (subst (λ (d : Decoded). IsOutcomeOfPrefix first (made_of limits d)) (sym decoded) same));
        },
      )

  pub has_front : (let o = outcome_of limits ending bytes in (book : List (List ℕ × List ℕ)) → is_read_whole o ≡ false → o.score.book ≡ Some book → (count : ℕ) × IsPrefixBeforeStop limits ending bytes book count)
  has_front book cut_short h =
      let is = outcome_is read limits ending bytes in
      front_of book (sym (ap is_read_whole is) ∙ cut_short) (sym (ap (λ (o : Outcome). o.score.book) is) ∙ h)
