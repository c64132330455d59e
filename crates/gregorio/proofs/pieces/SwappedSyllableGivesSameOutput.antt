-- What two scores say is written alike, if one syllable stands in the place of another that is
-- written alike.
use Rattle.std.proofs.Common.{◌≡◌, ℕ, List, [], ◌∷◌, ◌++◌, drop, if◌then◌else◌, inl, inr, Option, refl, ap, sym, ◌∙◌, arith}
use Rattle.gabc_places.specs.StageLaw.{concat_of}
use Rattle.gabc_headers.specs.declared.head_event.HeadEvent.{HeadEvent}
use Rattle.gabc_neumes.specs.InForce.{InForce}
use Rattle.gabc_score.specs.HeldAside.{AreSameLists, AreSameOutputs, GiveTheSame, IsSameOutput}
use Rattle.gabc_body.specs.ScoreEvents.{ScoreOutput, Found, Stop, Syllable, End}
use Rattle.gabc_body.specs.Syllable.{PlacedSyllable, UnplacedSyllable}
use Rattle.gabc_body.specs.declared.syllable.Position.{Position}
use Rattle.gabc_write.specs.SetDown.{AreWrittenAlike, IsWrittenAlike}
use Rattle.gregorio_jobs.specs.declared.job.Format.{Format}
use Rattle.gregorio.specs.Streams.{after_bytes, force_after, next_number, syllable_text}
use Rattle.gregorio.specs.witness.Engine.{Written, after_heads, after_output, after_outputs, ceased, first_list, if_headed, lines_of_output, lines_of_outputs, streams_from, text_of_heads, text_of_output, texts_of_outputs, writes_heads}

-- a text, lines, and what is written after them
abbrev Wrote : Type 0
Wrote = List ℕ × List ℕ × Written

-- what an output brings
abbrev wrote_one : Written → ScoreOutput → Wrote
wrote_one w o = (text_of_output w o, lines_of_output w o, after_output w o)

-- and what outputs bring
abbrev wrote : Written → List ScoreOutput → Wrote
wrote w outputs = (texts_of_outputs w outputs, lines_of_outputs w outputs, after_outputs w outputs)

module _ (m n : UnplacedSyllable) (alike : (position : Position) → IsWrittenAlike m n position) where
  placed_text : (position : Position) (format : Format) (number : ℕ) (force : InForce) → syllable_text format number force (record { made = m; position = position }) ≡ syllable_text format number force (record { made = n; position = position })
  placed_text position format number force = grind arith

  placed_force : (position : Position) (format : Format) (force : InForce) → force_after format force (record { made = m; position = position }) ≡ force_after format force (record { made = n; position = position })
  placed_force position format force = grind arith

  one_text : (position : Position) (w : Written) → wrote_one w (Syllable (record { made = m; position = position })) ≡ wrote_one w (Syllable (record { made = n; position = position }))
  one_text position w = λ i. (
    if_headed w (placed_text position w.format (next_number w.count) w.force i),
    [],
    record (after_output w (Syllable (record { made = m; position = position }))) { force = if w.headed then placed_force position w.format w.force i else w.force },
  )

  in_place : (s t : PlacedSyllable) → s.made ≡ m → t.made ≡ n → s.position ≡ t.position → (w : Written) → wrote_one w (Syllable s) ≡ wrote_one w (Syllable t)
  in_place s t first second position w =
      ap (λ (a : UnplacedSyllable). wrote_one w (Syllable (record { made = a; position = s.position }))) first
      ∙ (one_text s.position w ∙ (λ i. wrote_one w (Syllable (record { made = sym second i; position = position i }))))

  same_output : (o p : ScoreOutput) → IsSameOutput m n o p → (w : Written) → wrote_one w o ≡ wrote_one w p
  same_output (Found f) (Found g) h w = ap (λ x. wrote_one w (Found x)) h
  same_output (Stop f) (Stop g) h w = ap (λ x. wrote_one w (Stop x)) h
  same_output (Syllable s) (Syllable t) (inl h) w = ap (λ x. wrote_one w (Syllable x)) h
  same_output (Syllable s) (Syllable t) (inr h) w = in_place s t h.0 h.1.0 h.1.1 w
  same_output End End h w = refl
  same_output _ _ h w = absurd h

  same_outputs : (os ps : List ScoreOutput) → AreSameOutputs m n os ps → (w : Written) → wrote w os ≡ wrote w ps
  same_outputs [] [] h w = refl
  same_outputs (o ∷ os) (p ∷ ps) h w = λ i.
      let first : Wrote = same_output o p h.0 w i in
      let rest : Wrote = same_outputs os ps h.1 first.2 i in
      (first.0 ++ rest.0, first.1 ++ rest.1, rest.2)
  same_outputs _ _ h w = absurd h

  same_in_both : (os ps more others : List ScoreOutput) → AreSameOutputs m n os ps → AreSameOutputs m n more others → AreSameOutputs m n (os ++ more) (ps ++ others)
  same_in_both [] [] more others h k = k
  same_in_both (o ∷ os) (p ∷ ps) more others h k = (h.0, same_in_both os ps more others h.1 k)
  same_in_both _ _ more others h k = absurd h

  same_joined : (lists others : List (List ScoreOutput)) → AreSameLists m n lists others → AreSameOutputs m n (concat_of lists) (concat_of others)
  same_joined [] [] h = tt
  same_joined (os ∷ lists) (ps ∷ others) h = same_in_both os ps (concat_of lists) (concat_of others) h.0 (same_joined lists others h.1)
  same_joined _ _ h = absurd h

  same_first : (lists others : List (List ScoreOutput)) → AreSameLists m n lists others → AreSameOutputs m n (first_list lists) (first_list others)
  same_first lists others h = grind arith

  same_rest : (lists others : List (List ScoreOutput)) → AreSameLists m n lists others → AreSameLists m n (drop 1 lists) (drop 1 others)
  same_rest lists others h = grind arith

  lists_are_written_alike : (w : Written) (book : List (List ℕ × List ℕ)) (from_heads : List HeadEvent) (lists others : List (List ScoreOutput)) → AreSameLists m n lists others
      → streams_from w book from_heads lists ≡ streams_from w book from_heads others
  lists_are_written_alike w book [] lists others h = λ i.
      let all : Wrote = same_outputs (concat_of lists) (concat_of others) (same_joined lists others h) w i in
      after_bytes all.0 all.1 (ceased all.2)
  lists_are_written_alike w book (x ∷ from_heads) lists others h = λ i.
      let heads = text_of_heads w book (writes_heads w x) in
      let first : Wrote = same_outputs (first_list lists) (first_list others) (same_first lists others h) (after_heads w (writes_heads w x)) i in
      after_bytes (heads ++ first.0) first.1 (lists_are_written_alike first.2 book from_heads (drop 1 lists) (drop 1 others) (same_rest lists others h) i)

-- What is given is written alike, if the held syllables are.
pub given_is_written_alike : (held other : Option UnplacedSyllable) → AreWrittenAlike held other → (w : Written) (book : List (List ℕ × List ℕ)) (from_heads : List HeadEvent)
    (lists others : List (List ScoreOutput)) → GiveTheSame held other lists others → streams_from w book from_heads lists ≡ streams_from w book from_heads others
given_is_written_alike held other alike w book from_heads lists others h = grind (arith, lists_are_written_alike)
