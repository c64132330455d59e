-- The reading up to the end, and what it keeps.
use Rattle.std.proofs.Common.{◌≡◌, ℕ, Bool, true, false, true≢false, cond, not, ◌&&◌, List, [], ◌∷◌, ◌++◌, encode_utf8_all, Option, Some, None, is_some, refl, sym, ap, subst, ◌∙◌, append-nil}
use Rattle.std.specs.Str.{chars}
use Rattle.std.proofs.lemmas.Bool.{and_parts}
use Rattle.std.proofs.lemmas.Str.{chars-encodes}
use lib.Utf8.{scalar, scalars}
use Rattle.gabc_places.specs.Place.{next_place, placed_characters_from}
use Rattle.gabc_places.specs.declared.code.Code.{Code}
use Rattle.gabc_places.specs.declared.code.Fault.{Fault}
use Rattle.gabc_places.specs.declared.code.Finding.{Finding}
use Rattle.gabc_places.specs.declared.limits.Limits.{Limits}
use Rattle.gabc_places.specs.declared.place.Char.{Char}
use Rattle.gabc_places.specs.declared.place.Place.{Place}
use Rattle.gabc_text.specs.KeptText.{view_of_kept}
use Rattle.gabc_body.specs.Body.{code_by, fault_at, has_text, empty_snippet}
use Rattle.gabc_body.specs.Canonical.{with_positions}
use Rattle.gabc_body.specs.Reading.{Part, InText, InNotes, BodyRead, kept_bytes, past, code_now, stops_by, read_on, open_by, ended, result_of, result_by_code, result_by_open, result_by}
use Rattle.gabc_body.specs.Syllable.{UnplacedSyllable}
use Rattle.gabc_body.specs.declared.body_result.BodyResult.{BodyResult}
use Rattle.gabc_body.specs.declared.ending.InputEnding.{InputEnding}
use Rattle.gabc_body.specs.declared.ending.InputEnding.TheVariants.{Whole, Broken, At}
use Rattle.gabc_tree.specs.Fates.{fate_at, kept_at_end}
use Rattle.gabc_tree.proofs.fates.Steps.{step, syllable_of}
use Rattle.gabc_tree.proofs.fates.Coming.{is_whole, with_next, makes_last, read_to_end, coming, kept_in, kept_both, from_syllable, front_by, IsWell, BeginsWith, stays_well, goes}

module _ (limits : Limits) (head lines macros : ℕ) (found : List Finding) (here : Place) (ending : InputEnding) where
  -- ---- the result

  pub record IsResult (b : BodyRead) (result : BodyResult) : Type 0 where
    pub syllables_are : result.syllables ≡ with_positions b.made
    pub findings_are : result.findings ≡ found ++ b.found

  of_read : (b : BodyRead) (fault : Option Fault) → IsResult b (result_of found b fault)
  of_read b fault = record { syllables_are = refl; findings_are = refl }

  end_is : (ending : InputEnding) (b : BodyRead) → IsResult (read_to_end limits head lines macros here ending b []) (result_by limits head found here ending (b, None))
  end_is Whole b = by (open_by b.reading.part b.reading)
    where
      by : (o : Option Place) → IsResult (cond (cond (is_some o) false (not (is_some (code_by limits head (ended here b).made (kept_bytes b.reading))))) (ended here b) b) (result_by_open limits head found here b o)
      by (Some opened) = of_read b _
      by None = coded (code_by limits head (ended here b).made (kept_bytes b.reading))
        where
          coded : (code : Option Code) → IsResult (cond (not (is_some code)) (ended here b) b) (result_by_code found here b (ended here b) code)
          coded (Some code) = of_read b _
          coded None = of_read (ended here b) None
  end_is Broken b = of_read b None
  end_is (At fault) b = of_read b (Some fault)

  pub result_is : (b : BodyRead) (xs : List Char) → IsResult (read_to_end limits head lines macros here ending b xs) (result_by limits head found here ending (read_on limits head lines macros b xs))
  result_is b [] = end_is ending b
  result_is b (x ∷ xs) = by (code_now limits head (past lines macros b x)) (result_is (past lines macros b x) xs)
    where
      by : (code : Option Code) → IsResult (read_to_end limits head lines macros here ending (past lines macros b x) xs) (result_by limits head found here ending (read_on limits head lines macros (past lines macros b x) xs))
          → IsResult (cond (is_some code) b (read_to_end limits head lines macros here ending (past lines macros b x) xs)) (result_by limits head found here ending (stops_by code x.place b (read_on limits head lines macros (past lines macros b x) xs)))
      by (Some code) h = of_read b (Some (fault_at x.place code))
      by None h = h

  -- ---- what is kept

  abbrev last_syllable : BodyRead → UnplacedSyllable
  last_syllable b = syllable_of (kept_bytes b.reading) b.reading.kept (empty_snippet (kept_bytes b.reading) ∷ []) b

  last_kept : (b : BodyRead) → IsWell b.reading → (part : Part) → b.reading.part ≡ part → is_some (open_by b.reading.part b.reading) ≡ false
      → kept_in (ended here b).made ≡ kept_in b.made ++ from_syllable b.reading b.reading.kept (cond (has_text (view_of_kept b.reading.kept)) (Some []) None)
  last_kept b w (InNotes line) p n = absurd (true≢false (ap (λ (q : Part). is_some (open_by q b.reading)) (sym p) ∙ n))
  last_kept b w InText p n = by (has_text (view_of_kept b.reading.kept)) refl
    where
      none_before : b.reading.before ≡ []
      none_before = subst (λ (q : Part). BeginsWith q b.reading.before) p w.first

      bytes_are : chars (kept_bytes b.reading) ≡ b.reading.kept
      bytes_are = ap (λ (u : List ℕ). chars (encode_utf8_all (u ++ b.reading.kept))) none_before ∙ chars-encodes b.reading.kept w.kept_scalar

      by : (o : Bool) → has_text (view_of_kept b.reading.kept) ≡ o → kept_in (ended here b).made ≡ kept_in b.made ++ from_syllable b.reading b.reading.kept (cond o (Some []) None)
      by true e =
          rw e
          (kept_both b.made (last_syllable b ∷ [])
          ∙ ap (λ (u : List ℕ). kept_in b.made ++ u)
          (append-nil (chars (kept_bytes b.reading)) ∙ (bytes_are
          ∙ (sym (append-nil b.reading.kept) ∙ (ap (λ (u : List ℕ). u ++ (b.reading.kept ++ [])) (sym none_before) ∙ ap (λ (q : Part). b.reading.before ++ (front_by q b.reading.kept b.reading.kept ++ [])) (sym p))))))
      by false e = rw e (sym (append-nil (kept_in b.made)))

  end_kept : (ending : InputEnding) (b : BodyRead) → IsWell b.reading
      → kept_in (cond (is_whole limits head here ending b) (ended here b) b).made ≡ kept_in b.made ++ from_syllable b.reading b.reading.kept (cond (makes_last limits head here ending b) (Some []) None)
  end_kept Whole b w = by (is_some (open_by b.reading.part b.reading)) refl (is_some (code_by limits head (ended here b).made (kept_bytes b.reading)))
    where
      by : (o : Bool) → is_some (open_by b.reading.part b.reading) ≡ o → (code : Bool)
          → kept_in (cond (cond o false (not code)) (ended here b) b).made ≡ kept_in b.made ++ from_syllable b.reading b.reading.kept (cond (cond o false (not code) && has_text (view_of_kept b.reading.kept)) (Some []) None)
      by true e code = sym (append-nil (kept_in b.made))
      by false e true = sym (append-nil (kept_in b.made))
      by false e false = last_kept b w b.reading.part refl e
  end_kept Broken b w = sym (append-nil (kept_in b.made))
  end_kept (At fault) b w = sym (append-nil (kept_in b.made))

  -- what is kept of the syllables that are made to the end
  pub kept_to_end : (t : List ℕ) (p : Place) (b : BodyRead) → IsWell b.reading → scalars t ≡ true
      → let xs = placed_characters_from p t in
      kept_in (read_to_end limits head lines macros here ending b xs).made
      ≡ kept_in b.made ++ from_syllable b.reading (kept_at_end lines macros b xs) (coming limits head lines macros here ending b xs)
  kept_to_end [] p b w s = end_kept ending b w
  kept_to_end (c ∷ t) p b w s =
      let x : Char = record { c = c; place = p } in
      let xs = placed_characters_from (next_place p c) t in
      let next = past lines macros b x in
      let both = and_parts (scalar c) (scalars t) s in
      by_stop b x xs (is_some (code_now limits head next))
      (kept_to_end t (next_place p c) next (stays_well lines b x next (step lines macros b x) both.0 w) both.1
      ∙ goes lines b x next (kept_at_end lines macros next xs) w both.0 (coming limits head lines macros here ending next xs) (step lines macros b x))
    where
      by_stop : (b : BodyRead) (x : Char) (xs : List Char) (o : Bool)
          → let next = past lines macros b x in
          let all = kept_at_end lines macros b (x ∷ xs) in
          let ks = with_next b.reading.part b.reading.kept all x.c (fate_at lines b x) (coming limits head lines macros here ending next xs) in
          kept_in (read_to_end limits head lines macros here ending next xs).made ≡ kept_in b.made ++ from_syllable b.reading all ks
          → kept_in (cond o b (read_to_end limits head lines macros here ending next xs)).made ≡ kept_in b.made ++ from_syllable b.reading all (cond o None ks)
      by_stop b x xs true h = sym (append-nil (kept_in b.made))
      by_stop b x xs false h = h
