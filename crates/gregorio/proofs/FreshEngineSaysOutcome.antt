-- An engine that has taken nothing will write what a run writes of its whole input.
use Rattle.std.proofs.Common.{◌≡◌, ℕ, ◌*◌, ◌≤◌, ◌<◌, ◌^◌, List, [], ◌∷◌, ◌++◌, length, take, Bool, true, false, Option, is_some, Result, Ok, Err, IfSome, refl, sym, ap, ◌∙◌, arith, append-nil, encode_utf8_all}
use Rattle.std.specs.Char.{IsScalar}
use Rattle.std.specs.List.{All}
use Rattle.std.specs.declared.hash.DefaultHasher.{DefaultHasher}
use Rattle.gabc_places.specs.Decoder.{fault_items, items_of, known_of, known_at_end}
use Rattle.gabc_places.specs.DecoderMachine.{DecoderState}
use Rattle.gabc_places.specs.witness.DecoderEvents as decoder
use Rattle.gabc_places.specs.StageLaw.{concat_of}
use Rattle.gabc_places.specs.Text.{decoded_of, text_of_bytes}
use Rattle.gabc_places.specs.declared.code.Fault.{Fault}
use Rattle.gabc_places.specs.declared.decoded.Decoded.{Decoded}
use Rattle.gabc_places.specs.declared.limits.Limits.{Limits}
use Rattle.gabc_places.specs.declared.place.Char.{Char}
use Rattle.gabc_headers.specs.declared.head_event.HeadEvent.{HeadEvent}
use Rattle.gabc_headers.specs.declared.heads.Heads.{Heads}
use Rattle.gabc_headers.specs.declared.heads.HeadFault.{HeadFault}
use Rattle.gabc_headers.specs.Heads.{heads_of}
use Rattle.gabc_headers.specs.HeadEvents.{emitted_by, inputs_after}
use Rattle.gabc_headers.specs.witness.HeadEvents.{events_left, fresh_stage, reading, stage_past}
use Rattle.gabc_score.specs.witness.BodyStage.{texts_by_stage}
use Rattle.gabc_body.specs.Events.{texts_by_definition}
use Rattle.gabc_body.specs.declared.ending.InputEnding.{InputEnding}
use Rattle.gabc_body.specs.declared.ending.InputEnding.TheVariants as score_ending
use Rattle.gabc_body.specs.declared.score.Score.{Score}
use Rattle.gabc_body.specs.Score.{score_of}
use Rattle.gabc_body.specs.witness.EmittedScore.{emitted_score, emitted_score_by}
use Rattle.gabc_body.specs.ScoreEvents.{ScoreOutput, findings_in, syllables_in, fault_in, has_end, head_events, outputs_of_text, score_outputs, is_whole as is_whole_score}
use Rattle.gabc_score.specs.ScoreStage.{AreCountsBelow}
use Rattle.gabc_score.specs.witness.ScoreStage.{ScoreStageState, left_of}
use Rattle.gregorio_jobs.specs.declared.job.Job.{Job}
use Rattle.gregorio.specs.declared.source_ending.SourceEnding.{SourceEnding}
use Rattle.gregorio.specs.declared.source_ending.SourceEnding.TheVariants.{Whole as Ended, Broken}
use Rattle.gregorio.specs.Outcome.{is_whole, is_cut_short, ending_by, outcome_of}
use Rattle.gregorio.specs.witness.Engine.{head_events_left, streams_from, text_of_heads}
use Rattle.gregorio.specs.Streams.{Streams, after_bytes, streams_of_outcome}
use Rattle.gregorio.specs.machine.ScoreWriter.{fresh_writer}
use Rattle.gregorio.proofs.OutcomeIsEmitted.{outcome_is}
use Rattle.gregorio.proofs.HeadersComeFirst.{NothingAfter, heads_first, nothing_after}
use Rattle.gregorio.proofs.StreamsOfAFreshEngine.{SaysScore, stops_at, streams_same}
use Rattle.gregorio.proofs.StreamsOfOutputs.{EndsAtLast, outputs_are_said}

-- what the decoder gives, whether the input has ended or its source failed
pub items_are : (d : DecoderState) (limits : Limits) → ((bytes more : List ℕ) → concat_of (take (length bytes) (decoder.events_left d (bytes ++ more))) ≡ known_of limits bytes)
    → ((bytes : List ℕ) → concat_of (decoder.events_left d bytes) ≡ known_at_end limits bytes)
    → (ending : SourceEnding) (bytes : List ℕ) → emitted_by (is_whole ending) bytes (decoder.events_left d bytes) ≡ items_of (decoded_of limits (is_whole ending) bytes)
items_are d limits known at_end Ended bytes = at_end bytes
items_are d limits known at_end Broken bytes = ap (λ (xs : List ℕ). concat_of (take (length bytes) (decoder.events_left d xs))) (sym (append-nil bytes)) ∙ known bytes []

-- what a stage of headers gives of a text, by how its input ended
pub record GivesHeads (limits : Limits) (t : List ℕ) : Type 0 where
  pub whole : head_events limits score_ending.Whole t ≡ emitted_by true (inputs_after [] t) (events_left limits (reading []) (inputs_after [] t))
  pub broken : head_events limits score_ending.Broken t ≡ emitted_by false (inputs_after [] t) (events_left limits (reading []) (inputs_after [] t))
  pub stopped : (fault : Fault) (ended : Bool) → head_events limits (score_ending.At fault) t ≡ emitted_by ended (inputs_after [] t ++ Err fault ∷ []) (events_left limits (reading []) (inputs_after [] t ++ Err fault ∷ []))

pub given_are : (limits : Limits) (hasher : DefaultHasher) (ending : SourceEnding) (t : List ℕ) (stop : Option Fault) → GivesHeads limits t
    → head_events_left (fresh_stage limits hasher) ending (inputs_after [] t ++ fault_items stop) ≡ head_events limits (ending_by ending stop) t
given_are limits hasher ending t stop g = grind (arith, append-nil)

-- the book is that of the headers
book_by : (limits : Limits) (e : InputEnding) (t : List ℕ) (r : Result Heads HeadFault) (read : List (List ℕ × List ℕ)) → ((heads : Heads) → r ≡ Ok heads → read ≡ heads.book)
    → IfSome (emitted_score_by limits e t r).book (λ book. read ≡ book)
book_by limits e t r read is = grind arith

-- what holds of a text and a stage of scores that has taken nothing
pub record ReadsText (limits : Limits) (score : ScoreStageState) (e : InputEnding) (t : List ℕ) : Type 0 where
  pub fresh : (xs : List HeadEvent) → AreCountsBelow xs → left_of score xs ≡ score_outputs texts_by_stage limits xs
  pub counts : AreCountsBelow (head_events limits e t)
  pub outputs : score_outputs texts_by_stage limits (head_events limits e t) ≡ score_outputs texts_by_definition limits (head_events limits e t)
  pub score_is : SaysScore e (outputs_of_text limits e t) (emitted_score limits e t)
  pub ends : EndsAtLast (Unit {0}) (outputs_of_text limits e t)
  pub few : length (emitted_score limits e t).syllables < 2 ^ 64

module _ (job : Job) (limits : Limits) (score : ScoreStageState) (ending : SourceEnding) (decoded : Decoded) (r : ReadsText limits score (ending_by ending decoded.fault) decoded.text)
    (read : List (List ℕ × List ℕ)) (book : (heads : Heads) → heads_of limits decoded.text ≡ Ok heads → read ≡ heads.book) where
  abbrev e : InputEnding
  e = ending_by ending decoded.fault

  abbrev from_heads : List HeadEvent
  from_heads = head_events limits e decoded.text

  abbrev made : Score
  made = emitted_score limits e decoded.text

  pub says_outcome : streams_from (fresh_writer job) read from_heads (left_of score from_heads) ≡ streams_of_outcome job (record { score = made; broken = is_cut_short ending made.fault })
  says_outcome =
      let w = fresh_writer job in
      let r_heads = heads_of limits decoded.text in
      let headed = is_some made.book in
      ap (λ (lists : List (List ScoreOutput)). streams_from w read from_heads lists) (r.fresh from_heads r.counts ∙ r.outputs)
      ∙ (heads_first texts_by_definition limits read w e decoded.text r_heads
      ∙ (ap (λ (s : Streams). after_bytes (text_of_heads w read headed) [] s) (outputs_are_said (Unit {0}) (record w { headed = headed }) (outputs_of_text limits e decoded.text) refl r.ends)
      ∙ streams_same w refl refl refl ending decoded.fault (outputs_of_text limits e decoded.text) made r.score_is (stops_at limits e decoded.text r_heads) r.few made.book read (book_by limits e decoded.text r_heads read book)))

-- ---- by the laws of the crates below

pub record LawsBelow : Type 0 where
  pub scalars : (limit : ℕ) (bytes : List ℕ) → All IsScalar (text_of_bytes limit bytes)
  pub short : (limit : ℕ) (bytes : List ℕ) → length (encode_utf8_all (text_of_bytes limit bytes)) ≤ limit
  pub book : (limits : Limits) (hasher : DefaultHasher) (t : List ℕ) (heads : Heads) (fault : Option Fault) → All IsScalar t → heads_of limits t ≡ Ok heads → (stage_past (fresh_stage limits hasher) (inputs_after [] t ++ fault_items fault)).book ≡ heads.book
  pub whole : (limits : Limits) (t : List ℕ) → All IsScalar t → let xs = inputs_after [] t in head_events limits score_ending.Whole t ≡ emitted_by true xs (events_left limits (reading []) xs)
  pub broken : (limits : Limits) (t : List ℕ) → All IsScalar t → let xs = inputs_after [] t in head_events limits score_ending.Broken t ≡ emitted_by false xs (events_left limits (reading []) xs)
  pub stopped : (limits : Limits) (t : List ℕ) (fault : Fault) (ended : Bool) → All IsScalar t → let xs = inputs_after [] t ++ Err fault ∷ [] in head_events limits (score_ending.At fault) t ≡ emitted_by ended xs (events_left limits (reading []) xs)
  pub counts : (limits : Limits) (e : InputEnding) (t : List ℕ) → length (encode_utf8_all t) < 2 ^ 63 → AreCountsBelow (head_events limits e t)
  pub outputs : (limits : Limits) (e : InputEnding) (t : List ℕ) → length (encode_utf8_all t) < 2 ^ 63
      → score_outputs texts_by_stage limits (head_events limits e t) ≡ score_outputs texts_by_definition limits (head_events limits e t)
  pub findings : (limits : Limits) (e : InputEnding) (t : List ℕ) → findings_in (outputs_of_text limits e t) ≡ (emitted_score limits e t).findings
  pub syllables : (limits : Limits) (e : InputEnding) (t : List ℕ) → syllables_in (outputs_of_text limits e t) ≡ (emitted_score limits e t).syllables
  pub fault : (limits : Limits) (e : InputEnding) (t : List ℕ) → fault_in (outputs_of_text limits e t) ≡ (emitted_score limits e t).fault
  pub nothing_after : (limits : Limits) (xs : List HeadEvent) → NothingAfter (concat_of (score_outputs texts_by_definition limits xs))
  pub end : (limits : Limits) (e : InputEnding) (t : List ℕ) → has_end (outputs_of_text limits e t) ≡ is_whole_score e (emitted_score limits e t).fault
  pub emitted : (limits : Limits) (e : InputEnding) (t : List ℕ) → All IsScalar t → length (encode_utf8_all t) < 2 ^ 63 → score_of limits e t ≡ emitted_score limits e t
  pub few : (limits : Limits) (e : InputEnding) (t : List ℕ) → 2 * length (emitted_score limits e t).syllables ≤ limits.input

module _ (below : LawsBelow) (job : Job) (limits : Limits) (hasher : DefaultHasher) (d : DecoderState) (score : ScoreStageState)
    (known : (bytes more : List ℕ) → concat_of (take (length bytes) (decoder.events_left d (bytes ++ more))) ≡ known_of limits bytes)
    (at_end : (bytes : List ℕ) → concat_of (decoder.events_left d bytes) ≡ known_at_end limits bytes)
    (fresh : (xs : List HeadEvent) → AreCountsBelow xs → left_of score xs ≡ score_outputs texts_by_stage limits xs) where
  reads : (e : InputEnding) (bytes : List ℕ) → ReadsText limits score e (text_of_bytes limits.input bytes)
  reads e bytes = grind (arith, nothing_after)

  pub streams_are : (bytes : List ℕ) (ending : SourceEnding)
      → (let items = emitted_by (is_whole ending) bytes (decoder.events_left d bytes) in
      let from_heads = head_events_left (fresh_stage limits hasher) ending items in
      streams_from (fresh_writer job) (stage_past (fresh_stage limits hasher) items).book from_heads (left_of score from_heads))
      ≡ streams_of_outcome job (outcome_of limits ending bytes)
  streams_are bytes ending =
      let decoded = decoded_of limits (is_whole ending) bytes in
      let t = decoded.text in
      let xs = inputs_after [] t ++ fault_items decoded.fault in
      let scalars : All IsScalar t = below.scalars limits.input bytes in
      let step : GivesHeads limits t = record { whole = below.whole limits t scalars; broken = below.broken limits t scalars; stopped = λ fault ended. below.stopped limits t fault ended scalars } in
      ap (λ (items : List (Result Char Fault)). let from_heads = head_events_left (fresh_stage limits hasher) ending items in
      streams_from (fresh_writer job) (stage_past (fresh_stage limits hasher) items).book from_heads (left_of score from_heads)) (items_are d limits known at_end ending bytes)
      ∙ (ap (λ (from_heads : List HeadEvent). streams_from (fresh_writer job) (stage_past (fresh_stage limits hasher) xs).book from_heads (left_of score from_heads)) (given_are limits hasher ending t decoded.fault step)
      ∙ says_outcome job limits score ending decoded (reads (ending_by ending decoded.fault) bytes) (stage_past (fresh_stage limits hasher) xs).book (λ heads h. below.book limits hasher t heads decoded.fault scalars h)
      ∙ ap (streams_of_outcome job) (sym (outcome_is (record { scalars = below.scalars; short = below.short; emitted = below.emitted }) limits ending bytes)))
