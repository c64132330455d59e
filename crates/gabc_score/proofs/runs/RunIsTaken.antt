-- A run that a machine takes from a text.
use Rattle.std.proofs.Common.{◌≡◌, ℕ, ◌+◌, ◌-◌, ◌<◌, ◌≤◌, ◌^◌, ◌||◌, not, nat_lt, Bool, true, false, List, [], ◌∷◌, ◌++◌, length, take, refl, sym, ap, subst, ◌∙◌, arith, append_assoc, length-append}
use Rattle.std.specs.List.{All}
use Rattle.std.specs.Str.{IsCharBoundary, IsUtf8, chars}
use Rattle.std.specs.String.Boundary.{IsSplitPoint}
use Rattle.std.proofs.Math.Seq.{take-append_seam}
use Rattle.std.proofs.lemmas.List.Elements.{All-append, All-nil}
use Rattle.std.proofs.lemmas.Str.{IsCharBoundary-from_take, IsUtf8-append, IsUtf8-nil, chars-append, chars-nil, scalars-chars}
use Rattle.gabc_text.specs.TextStage.{fresh_stage}
use Rattle.gabc_places.specs.Place.{place_past}
use Rattle.gabc_places.specs.TextOfAnInput.{IsPlain, IsText}
use Rattle.gabc_places.specs.declared.place.Place.{Place}
use Rattle.gabc_places.proofs.PlacesOfAText.{place_append}
use Rattle.gabc_score.specs.declared.body_stage.BodyPart.TheVariants.{Text}
use Rattle.gabc_score.specs.declared.preceding.Preceding.{Preceding}
use Rattle.gabc_score.specs.declared.reading_again.SyllableRead.{SyllableRead}
use Rattle.gabc_score.specs.declared.reading_again.SyllableRead.TheVariants.{Open, Whole}
use Rattle.gabc_score.specs.declared.run.Found.{Found}
use Rattle.gabc_score.specs.declared.run.Reached.{Reached}
use Rattle.gabc_score.specs.declared.score_machine.ScoreMachine.{ScoreMachine}
use Rattle.gabc_body.specs.Canonical.{position_by}
use Rattle.gabc_score.specs.GivesSyllables.{GivesSyllables}
use Rattle.gabc_score.specs.ScoreStage.{IsWithin}
use Rattle.gabc_body.specs.Syllable.{UnplacedSyllable, PlacedSyllable}
use Rattle.gabc_score.specs.witness.BodyStage.{BodyStageState}
use Rattle.gabc_score.specs.witness.ScoreStage.{ScoreStageState}
use Rattle.gabc_body.specs.witness.Gatherer.{Gathered}
use Rattle.gabc_score.specs.machine.PartCounts.{CountsHold}
use Rattle.gabc_score.specs.machine.PartKeeps.{in_text, PartKeeps}
use Rattle.gabc_score.specs.machine.PartOnly.{HoldsTexts}
use Rattle.gabc_score.specs.machine.Preceded.{Contexts}
use Rattle.gabc_score.specs.machine.ReadsSilently.{ReadsTextSilently}
use Rattle.gabc_score.specs.machine.ReadAlone.{is_alone, lists_from}
use Rattle.gabc_score.specs.machine.ReadsChar.{StandsInBody}
use Rattle.gabc_score.specs.machine.Run.{GoesBefore, IsFound, IsSamePair, KeepsFirstSound, IsBetweenSyllables, RunsBefore, RunsTo, before_in}
use Rattle.gabc_score.specs.machine.ScoreMachine.{has_given, shown, IsInBody, IsScoreAt}
use Rattle.gabc_score.specs.machine.SlotPair.{SlotPairState, is_made}
use Rattle.gabc_body.specs.witness.SyllableBuilder.{nothing_open}
use Rattle.gabc_body.proofs.units.CanonicalTextIsText.{characters}
use Rattle.gabc_score.proofs.keeping.ReadByItself.{HasRoom}
use Rattle.gabc_score.proofs.resuming.ReadOneByOne.{HasRead, HasReadAlone, reads_alone, whole_left_is}
use Rattle.gabc_score.proofs.runs.FoundSyllable.{plain_is, utf8_is}
use Rattle.gabc_score.proofs.runs.LastSyllableBecomesPending.{rests_there, is_alone_there, rests_then, holds_then}
use Rattle.gabc_score.proofs.runs.RunBegins.{held_of, run_begins}
use Rattle.gabc_score.proofs.runs.RunEnds.{EndsWith, run_ends}
use Rattle.gabc_score.proofs.runs.RunGives.{run_gives}
use Rattle.gabc_score.proofs.runs.RunTakesOneMoreSyllable.{MakeSyllables, few_characters, low_there}
use Rattle.gabc_score.proofs.runs.MachineStaysBetween.{moved_stands}

-- ---- what is borrowed does not count

-- at no characters nothing is given
pub gives_none : (s : ScoreStageState) (at : Place) (first second : PlacedSyllable) → GivesSyllables s at [] [] (record s { first = first; second = second })
gives_none s at first second = record {
  limits = refl;
  part = refl;
  before_held = refl;
  next = refl;
  stands = λ here was. was;
  whole = omega arith;
  told = λ here was old body. let t = old body in record { counts = t.counts; next = t.next; openers = t.openers; reading = t.reading; held = t.held };
  holds = λ was. was;
  counts = λ was. was;
  within = All-nil (IsWithin s.limits);
  points = [];
  one_each = refl;
  given_are = refl;
  law = λ xs. refl;
  none = λ e. refl;
  in_heads = λ heads. refl;
}

-- what a machine shows whose slots are used otherwise
pub shown_same : (old new : ScoreMachine) → IsSamePair old new → (first second : PlacedSyllable) → record (shown new) { first = first; second = second } ≡ record (shown old) { first = first; second = second }
shown_same old new same first second = grind arith

-- ---- the first syllable

-- the held syllable, before one that begins a word or not
abbrev pub placed_first : ScoreMachine → UnplacedSyllable → Bool → PlacedSyllable
placed_first m x starts = record { made = x; position = position_by (not (has_given m) || x.text.word_start) starts }

module _ (m : ScoreMachine) (at : Place) (text : List ℕ) (first : Found) (stands : IsBetweenSyllables m at)
    (found : IsFound m.body.nabc_lines m.limits m.pair.contexts.after.canonical first) (steady : KeepsFirstSound m.body.nabc_lines m.pair.gathered.first_kind found.is.syllable) (is : text ≡ first.spelled.now ++ first.rest.now)
    (line : at.line + length text < 2 ^ 63) (column : at.column + length text < 2 ^ 63) where
  abbrev pub reached_first : Reached
  reached_first = record { last = first; count = 0; canonical = m.pair.contexts.after.canonical; spans = m.pair.contexts.after.spans }

  -- the held syllable
  abbrev held_first : (x : UnplacedSyllable) × (m.pair.gathered.made ≡ x ∷ [])
  held_first = held_of m.pair.gathered.made stands.one

  abbrev pub given_first : List PlacedSyllable
  given_first = placed_first m held_first.0 (nat_lt 0 first.gap) ∷ []

  run_from : (slots : SlotPairState) → slots.gathered ≡ m.pair.gathered → is_made slots.used ≡ false → RunsTo (record m { pair = record slots { contexts = m.pair.contexts } }) at text given_first reached_first
  run_from slots gathered used =
      let pair = record slots { contexts = m.pair.contexts } in
      let there = moved_stands m pair gathered refl used at stands in
      let begins = run_begins (record m { pair = pair }) at held_first.0 there (ap (λ (g : Gathered). g.made) gathered ∙ held_first.1) (nat_lt 0 first.gap) in
      let first_before : before_in m reached_first ≡ m.pair.contexts.after =
      ap (λ n. record { syllables = n; canonical = m.pair.contexts.after.canonical; spans = m.pair.contexts.after.spans; sounded = m.pair.contexts.after.sounded })
      (let e = ap (λ (p : Preceding). p.syllables) begins.before in omega (arith, e)) in
      record {
        stands = there;
        bytes = [];
        utf8 = IsUtf8-nil;
        runs = subst (λ (p : Preceding). RunsBefore (record m { pair = pair }) at (chars []) given_first (nat_lt 0 first.gap) p (place_past at (chars []))) (sym first_before)
            (subst (λ (t : List ℕ). RunsBefore (record m { pair = pair }) at t given_first (nat_lt 0 first.gap) m.pair.contexts.after (place_past at t)) (sym chars-nil) begins);
        found = found;
        steady = subst (λ (g : Gathered). KeepsFirstSound m.body.nabc_lines g.first_kind found.is.syllable) (sym gathered) steady;
        text_is = is;
        line = line;
        column = column;
      }

  -- a run has given the syllable held before, and has reached the first one that was found
  pub run_to_first : (new : ScoreMachine) → IsSamePair m new → RunsTo new at text given_first reached_first
  run_to_first new same = subst (λ (n : ScoreMachine). RunsTo n at text given_first reached_first) (sym (same.is ∙ ap (λ (k : Contexts). record m { pair = record new.pair { contexts = k } }) same.contexts)) (run_from new.pair same.gathered (ap is_made same.used))

-- ---- the text of a run

module _ (m : ScoreMachine) (at : Place) (text : List ℕ) (given : List PlacedSyllable) (reached : Reached) (to : RunsTo m at text given reached) where
  abbrev f : Found
  f = reached.last

  -- the bytes that are taken
  abbrev pub taken_bytes : ℕ
  taken_bytes = length text - length f.rest.now

  text_is : text ≡ (to.bytes ++ f.spelled.now) ++ f.rest.now
  text_is = to.text_is ∙ sym (append_assoc to.bytes f.spelled.now f.rest.now)

  len_is : taken_bytes ≡ length (to.bytes ++ f.spelled.now)
  len_is = let n = ap (λ (l : List ℕ). length l) text_is ∙ length-append (to.bytes ++ f.spelled.now) f.rest.now in omega (arith, n)

  take_is : take taken_bytes text ≡ to.bytes ++ f.spelled.now
  take_is = ap (λ n. take n text) len_is ∙ ap (take (length (to.bytes ++ f.spelled.now))) text_is ∙ take-append_seam (to.bytes ++ f.spelled.now) f.rest.now

  spelled_utf8 : IsUtf8 f.spelled.now
  spelled_utf8 = utf8_is f m.body.nabc_lines to.found.is

  pub chars_are : chars (take taken_bytes text) ≡ chars to.bytes ++ chars f.spelled.now
  chars_are = ap chars take_is ∙ chars-append to.bytes f.spelled.now to.utf8

  pub within_is : IsUtf8 text → IsSplitPoint text taken_bytes
  within_is utf8 =
      let le : taken_bytes ≤ length text = omega arith in
      let cut = IsCharBoundary-from_take text taken_bytes utf8 le (subst IsUtf8 (sym take_is) (IsUtf8-append to.bytes f.spelled.now to.utf8 spelled_utf8)) in
      (cut.0, λ some. cut.1)

  pub plain_there : All IsPlain (chars (take taken_bytes text))
  plain_there = subst (All IsPlain) (sym chars_are) (All-append IsPlain (chars to.bytes) (chars f.spelled.now) to.runs.plain (plain_is f m.body.nabc_lines reached.canonical m.limits to.found))

  before_is : take (taken_bytes - length f.spelled.now) text ≡ to.bytes
  before_is =
      let n = len_is ∙ length-append to.bytes f.spelled.now in
      let e : taken_bytes - length f.spelled.now ≡ length to.bytes = omega (arith, n) in
      ap (λ n. take n text) e ∙ ap (take (length to.bytes)) to.text_is ∙ take-append_seam to.bytes (f.spelled.now ++ f.rest.now)

  -- the text may be cut before the last syllable
  pub cut_before : IsUtf8 text → IsCharBoundary text (taken_bytes - length f.spelled.now)
  cut_before utf8 = IsCharBoundary-from_take text (taken_bytes - length f.spelled.now) utf8 (omega arith) (subst IsUtf8 (sym before_is) to.utf8)

  -- where the last syllable begins
  pub start_is : (before : List ℕ) (from : Place) → from ≡ place_past at (chars before) → before ≡ take (taken_bytes - length f.spelled.now) text → from ≡ place_past at (chars to.bytes)
  start_is before from e cut = e ∙ ap (λ (b : List ℕ). place_past at (chars b)) (cut ∙ before_is)

  module _ (from : Place) (from_is : from ≡ place_past at (chars to.bytes)) where
    runs_from : RunsBefore m at (chars to.bytes) given (nat_lt 0 f.gap) (before_in m reached) from
    runs_from = subst (RunsBefore m at (chars to.bytes) given (nat_lt 0 f.gap) (before_in m reached)) (sym from_is) to.runs

    -- where it ends
    abbrev pub past : Place
    past = place_past from (chars f.spelled.now)

    pub next_there : past ≡ place_past at (chars (take taken_bytes text))
    next_there = grind (arith, place_append, chars_are)

    low : (from.line + length f.spelled.now < 2 ^ 63) × (from.column + length f.spelled.now < 2 ^ 63)
    low = low_there at from to.bytes f.spelled.now f.rest.now text to.utf8 to.text_is from_is to.line to.column

    -- ---- the last syllable

    module _ (law : MakeSyllables) (on : ScoreMachine) (goes : GoesBefore m (before_in m reached) from on) where
      ends : EndsWith m at (chars to.bytes) given (before_in m reached) f from
      ends = run_ends m at (chars to.bytes) given (nat_lt 0 f.gap) (before_in m reached) from runs_from to.stands f to.found refl to.steady law low.0 low.1

      pub rests_on : IsInBody on
      rests_on = rests_there m at (chars to.bytes) given (nat_lt 0 f.gap) (before_in m reached) from runs_from to.stands f on goes

      pub alone_on : is_alone on.limits on.pair.gathered (lists_from on from (chars f.spelled.now)) ≡ true
      alone_on = is_alone_there m at (chars to.bytes) given (nat_lt 0 f.gap) (before_in m reached) from runs_from to.stands f on goes ends

      at_from : on.next ≡ from
      at_from = ap (λ (n : ScoreMachine). n.next) goes.is

      pub stands_on : StandsInBody on
      stands_on = record { part = ap (λ (n : ScoreMachine). n.part) goes.is ∙ to.stands.part; rests = rests_on }

      none_on : on.pair.gathered.made ≡ []
      none_on = ap (λ (g : Gathered). g.made) goes.gathered

      room_on : HasRoom on.next (length (chars f.spelled.now))
      room_on = let few = few_characters f.spelled.now spelled_utf8 in subst (λ (p : Place). HasRoom p (length (chars f.spelled.now))) (sym at_from) (record { line = omega (arith, low, few); column = omega (arith, low, few) })

      module _ (left : SyllableRead) (read : ScoreMachine) (steps : ReadsTextSilently true Open on (chars f.spelled.now) left read) (body : BodyStageState) (counts : CountsHold body.part nothing_open)
          (keeps : (lines macros : ℕ) → PartKeeps lines macros body.part (in_text [])) where
        -- its characters are one syllable
        read_so : HasReadAlone on from (chars f.spelled.now) left read
        read_so = subst (λ (p : Place). HasReadAlone on p (chars f.spelled.now) left read) at_from (reads_alone (chars f.spelled.now) on read left stands_on room_on none_on steps)

        whole : left ≡ Whole
        whole = whole_left_is left (sym read_so.alone ∙ alone_on)

        has : HasRead on read (lists_from on from (chars f.spelled.now))
        has = read_so.goes whole

        texts : IsText f.spelled.now → HoldsTexts on.pair.gathered → HoldsTexts read.pair.gathered
        texts text = read_so.texts whole (characters (chars f.spelled.now) (scalars-chars f.spelled.now text.utf8) text.plain)

        -- it rests after it
        pub rests_after : (q : Place) → q ≡ past → body ≡ record read.body { part = Text (fresh_stage q) } → IsScoreAt read.part (record read { body = body; next = q })
        rests_after q e = subst (λ (q : Place). body ≡ record read.body { part = Text (fresh_stage q) } → IsScoreAt read.part (record read { body = body; next = q })) (sym e) (λ begins.
            subst (λ p. IsScoreAt p (record read { body = body; next = past })) (sym has.stands.part)
            (rests_then m at (chars to.bytes) given (nat_lt 0 f.gap) (before_in m reached) from runs_from to.stands f on goes ends to.found read has texts body begins counts keeps))

        gives_by : body ≡ record read.body { part = Text (fresh_stage past) } → GivesSyllables (shown m) at (chars to.bytes ++ chars f.spelled.now) given (shown (record read { body = body; next = past }))
        gives_by begins = run_gives m at (chars to.bytes) given (nat_lt 0 f.gap) (before_in m reached) from runs_from to.stands f to.found low.1 ends (record read { body = body; next = past })
            (holds_then m at (chars to.bytes) given (nat_lt 0 f.gap) (before_in m reached) from runs_from to.stands f on goes ends to.found read has texts body begins counts keeps) m.pair.first m.pair.second

        -- what the run gives
        pub gives_after : (q : Place) → q ≡ past → body ≡ record read.body { part = Text (fresh_stage q) } → GivesSyllables (shown m) at (chars (take taken_bytes text)) given (shown (record read { body = body; next = q }))
        gives_after q e = grind (arith, chars_are, gives_by)

-- what is given from a machine whose slots are used otherwise
pub gives_same : (old m : ScoreMachine) (at : Place) (t : List ℕ) (given : List PlacedSyllable) (after : ScoreStageState) → IsSamePair old m → GivesSyllables (shown m) at t given after → GivesSyllables (shown old) at t given after
gives_same old m at t given after same gives = subst (λ (s : ScoreStageState). GivesSyllables s at t given after) (shown_same old m same old.pair.first old.pair.second) (record {
  limits = gives.limits;
  part = gives.part;
  before_held = gives.before_held;
  next = gives.next;
  stands = gives.stands;
  whole = gives.whole;
  told = λ here was told. gives.told here was (λ body. let t = told body in record { counts = t.counts; next = t.next; openers = t.openers; reading = t.reading; held = t.held });
  holds = gives.holds;
  counts = gives.counts;
  within = gives.within;
  points = gives.points;
  one_each = gives.one_each;
  given_are = gives.given_are;
  law = gives.law;
  none = gives.none;
  in_heads = gives.in_heads;
})
