-- Any text that is read by itself: some part stands after it, which keeps what was gathered.
use Rattle.std.proofs.Common.{◌≡◌, ◌+◌, ◌<◌, ◌≤◌, ◌^◌, ℕ, Bool, true, false, List, [], ◌∷◌, ◌++◌, length, encode_utf8, encode_utf8_all, sym, ap, ◌∙◌, subst, arith, length-append}
use Rattle.std.proofs.lemmas.Str.{length-encode, len_utf8_bounds}
use Rattle.std.specs.Char.{len_utf8}
use Rattle.gabc_places.specs.Place.{next_place}
use Rattle.gabc_places.specs.StageLaw.{concat_of}
use Rattle.gabc_places.specs.declared.place.Place.{Place}
use Rattle.gabc_body.specs.declared.before.Spans.{Spans}
use Rattle.gabc_score.specs.declared.body_stage.BodyPart.{BodyPart}
use Rattle.gabc_body.specs.declared.events.BodyEvent.{BodyEvent}
use Rattle.gabc_body.specs.Body.{events_onto}
use Rattle.gabc_score.specs.ScoreReports.{is_in_comment, is_in_front}
use Rattle.gabc_body.specs.witness.BodyBuilder.{with_all}
use Rattle.gabc_body.specs.witness.Gatherer.{Gathered}
use Rattle.gabc_score.specs.machine.PartKeeps.{IsReading, spans_past}
use Rattle.gabc_body.proofs.gathering.EventsOfOnePoint.{gathered_all}
use Rattle.gabc_body.proofs.emitted.EventsOfSyllableParts.{onto_append}
use Rattle.gabc_score.proofs.keeping.PartsTakeCharacters.{TakesOne, takes_one}
use Rattle.gabc_score.proofs.keeping.ReadByItself.{Emits, emits_none, emits_one, gathered_of}
use Rattle.gabc_score.specs.machine.StageLaws.{Steps}

-- how many bytes were kept of these events, the nearest first
abbrev pub kept_bytes : List BodyEvent → ℕ
kept_bytes before = length (gathered_of before).builder.kept

abbrev bytes_of : List ℕ → ℕ
bytes_of t = length (encode_utf8_all t)

bytes_more : (c : ℕ) (t : List ℕ) → bytes_of (c ∷ t) ≡ len_utf8 c + bytes_of t
bytes_more c t = let l = length-append (encode_utf8 c) (encode_utf8_all t) in let k = length-encode c in omega (arith, l, k)

module _ (steps : Steps) (lines macros : ℕ) where
  -- The part after these characters reads what was gathered: no more bytes than they have. Where it
  -- is as many, no comment is open after them if none was before.
  pub record Reaches (at : Place) (b : BodyPart) (before : List BodyEvent) (rest : List ℕ) : Type 0 where
    pub read : Emits steps lines macros at b rest
    pub spans : Spans
    pub reading : IsReading lines macros read.after spans (gathered_of (events_onto (concat_of read.lists) before))
    pub front : is_in_front read.after ≡ false
    pub few : kept_bytes (events_onto (concat_of read.lists) before) ≤ kept_bytes before + length (encode_utf8_all rest)
    pub outside : is_in_comment b ≡ false → kept_bytes (events_onto (concat_of read.lists) before) ≡ kept_bytes before + length (encode_utf8_all rest) → is_in_comment read.after ≡ false

  module _ (at : Place) (b : BodyPart) (before : List BodyEvent) (spans : Spans) (h : IsReading lines macros b spans (gathered_of before)) (front : is_in_front b ≡ false) (c : ℕ) where
    pub one : TakesOne lines macros b (record { c = c; place = at })
    one = takes_one steps lines macros b h.parts h.keeps front (record { c = c; place = at })

    pub all : with_all (gathered_of before) one.now ≡ gathered_of (events_onto one.now before)
    all = gathered_all 0 0 before (omega arith) one.now

    pub reads_one : kept_bytes before < 2 ^ 64 → IsReading lines macros one.after (spans_past spans (gathered_of before) (with_all (gathered_of before) one.now)) (gathered_of (events_onto one.now before))
    reads_one fits = subst (IsReading lines macros one.after (spans_past spans (gathered_of before) (with_all (gathered_of before) one.now))) all (one.keeps spans (gathered_of before) fits h)

    pub few_one : kept_bytes (events_onto one.now before) ≤ kept_bytes before + len_utf8 c
    few_one = let e = ap (λ (g : Gathered). length g.builder.kept) all in let k = one.keeps_one.few h.parts h.keeps (gathered_of before) in omega (arith, e, k)

    pub none_one : is_in_comment one.after ≡ true → kept_bytes (events_onto one.now before) ≡ kept_bytes before
    none_one comment = ap (λ (g : Gathered). length g.builder.kept) (sym all) ∙ ap length (one.keeps_one.none h.parts h.keeps comment (gathered_of before))

  -- where something is kept, no comment is open
  plain_after : (m : Bool) (now before : ℕ) → (m ≡ true → now ≡ before) → before < now → m ≡ false
  plain_after m now before none more = grind (arith, none, more)

  pub reaches : (rest : List ℕ) (at : Place) (b : BodyPart) (before : List BodyEvent) (spans : Spans) → IsReading lines macros b spans (gathered_of before) → is_in_front b ≡ false
      → kept_bytes before + length (encode_utf8_all rest) < 2 ^ 64 → Reaches at b before rest
  unfolding emits_none emits_one
  reaches [] at b before spans h front fits = record {
    read = emits_none steps lines macros at b;
    spans = spans;
    reading = h;
    front = front;
    few = omega arith;
    outside = λ plain same. plain;
  }
  reaches (c ∷ rest) at b before spans h front fits =
      let t = one at b before spans h front c in
      let some = (len_utf8_bounds c).0 in
      let more = bytes_more c rest in
      let few = few_one at b before spans h front c in
      let reading = reads_one at b before spans h front c (omega (arith, fits)) in
      let r = reaches rest (next_place at c) t.after (events_onto t.now before) (spans_past spans (gathered_of before) (with_all (gathered_of before) t.now)) reading t.front (omega (arith, fits, more, few)) in
      let joined : events_onto (concat_of r.read.lists) (events_onto t.now before) ≡ events_onto (t.now ++ concat_of r.read.lists) before = sym (onto_append t.now (concat_of r.read.lists) before) in
      let size = ap kept_bytes joined in
      record {
        read = emits_one steps lines macros at b c rest t r.read;
        spans = r.spans;
        reading = subst (λ (es : List BodyEvent). IsReading lines macros r.read.after r.spans (gathered_of es)) joined r.reading;
        front = r.front;
        few = omega (arith, size, r.few, few, more);
        outside = λ plain same. r.outside
            (plain_after (is_in_comment t.after) (kept_bytes (events_onto t.now before)) (kept_bytes before) (none_one at b before spans h front c) (omega (arith, size, same, more, r.few, some)))
            (omega (arith, size, same, more, r.few, few));
      }
