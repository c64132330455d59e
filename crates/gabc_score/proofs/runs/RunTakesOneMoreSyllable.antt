-- A run goes on with one more regular syllable.
use Rattle.gabc_text.proofs.tokens.CountsOfTexts.{place_small}
use Rattle.std.proofs.Math.Bool.{or-true}
use Rattle.std.proofs.Common.{◌≡◌, ℕ, ◌+◌, ◌<◌, ◌≤◌, ◌^◌, ◌==◌, ◌||◌, not, min, nat_lt, Bool, true, false, List, [], ◌∷◌, ◌++◌, length, encode_utf8_all, Option, is_some, refl, sym, ap, ap₂, subst, ◌∙◌, arith, length-append}
use Rattle.std.proofs.lemmas.Bool.Decides.{nat_tests}
use Rattle.std.proofs.lemmas.List.Elements.{All-nil, All-cons, All-append}
use Rattle.std.specs.Str.{IsUtf8, chars}
use Rattle.std.proofs.lemmas.Str.{encodes-chars, length-le-encodes}
use Rattle.std.proofs.lemmas.List.{map-append}
use Rattle.gabc_places.specs.TextOfAnInput.{IsPlain}
use Rattle.gabc_places.specs.Place.{place_past}
use Rattle.gabc_places.specs.declared.place.Place.{Place}
use Rattle.gabc_places.proofs.PlacesOfAText.{place_append}
use Rattle.gabc_notes.specs.declared.item.ItemKind.{ItemKind}
use Rattle.gabc_text.specs.Events.{CountsFit}
use Rattle.gabc_score.specs.declared.preceding.Preceding.{Preceding}
use Rattle.gabc_body.specs.declared.before.Spans.{Spans}
use Rattle.gabc_score.specs.declared.run.Found.{Found}
use Rattle.gabc_score.specs.declared.score_machine.ScoreMachine.{ScoreMachine}
use Rattle.gabc_score.specs.Before.{most, with_one, with_placed, sounds}
use Rattle.gabc_body.specs.Canonical.{canonical, position_by}
use Rattle.gabc_score.specs.RegularSyllable.{SyllableParts, IsRegularSyllable, spelled}
use Rattle.gabc_score.specs.ScoreStage.{IsWithin}
use Rattle.gabc_body.specs.Syllable.{UnplacedSyllable, PlacedSyllable}
use Rattle.gabc_score.specs.machine.Between.{IsBetween, LeavesRoomFor, StepsOver, ReadsAlike, SoundsNoMore, with_one as gathered_with, after_one, given_before}
use Rattle.gabc_body.specs.witness.Gatherer.{Gathered}
use Rattle.gabc_score.specs.machine.Preceded.{spans_of}
use Rattle.gabc_score.specs.machine.Run.{IsFound, KeepsFirstSound, SpellsFound, IsBetweenSyllables, RunsBefore, canonical_length, past_found}
use Rattle.gabc_score.specs.machine.ScoreMachine.{held_score}
use Rattle.gabc_score.specs.machine.ScoreStage.{HeldScore}
use Rattle.gabc_score.proofs.score_events.FewAndShortAreLent.{short_within}
use Rattle.gabc_score.proofs.score_events.WhatPrecedes.{each_then}
use Rattle.gabc_body.proofs.texts_of_body.BodyFits.{bytes_encodes}
use Rattle.gabc_score.proofs.runs.FoundSyllable.{gathered_one, parts, characters_are, bytes_are, plain_is, some_are, length_is, word_is, size_is, kept_length, is_short, eu_after, nlba_after, sounds_no_more, spelled_there}
use Rattle.gabc_score.proofs.runs.Throughs.{through_both}

-- ---- the place

pub few_characters : (bytes : List ℕ) → IsUtf8 bytes → length (chars bytes) ≤ length bytes
few_characters bytes u = let l = length-le-encodes (chars bytes) in let e = ap (λ (b : List ℕ). length b) (encodes-chars bytes u) in omega (arith, l, e)

pub low_there : (at next : Place) (bytes spelled rest text : List ℕ) → IsUtf8 bytes → text ≡ bytes ++ (spelled ++ rest) → next ≡ place_past at (chars bytes)
    → at.line + length text < 2 ^ 63 → at.column + length text < 2 ^ 63 → (next.line + length spelled < 2 ^ 63) × (next.column + length spelled < 2 ^ 63)
low_there at next bytes spelled rest text u e place line column = grind (arith, length-append, bytes, few_characters, place_small)

-- ---- one syllable more

-- that every regular syllable makes one, wherever it begins
abbrev pub MakeSyllables : Type 0
MakeSyllables =
    (lines macros : ℕ) (at : Place) (r : SyllableParts) (spans : Spans) → IsRegularSyllable lines r → CountsFit at (spelled r) → length (encode_utf8_all (spelled r)) < 2 ^ 63
    → (m : UnplacedSyllable) × ReadsAlike lines macros at r spans m

-- It has read the syllable that was found too, which is placed before one that begins a word or
-- not.
pub record GoesOnWith (m : ScoreMachine) (at : Place) (t : List ℕ) (given : List PlacedSyllable) (p : Preceding) (f : Found) (r : SyllableParts) (begins : Bool) : Type 0 where
  pub placed : PlacedSyllable
  pub spells : SpellsFound m.body.nabc_lines (past_found p f).spans begins f r placed
  pub runs : RunsBefore m at (t ++ chars f.spelled.now) (given ++ placed ∷ []) begins (past_found p f) (place_past at (t ++ chars f.spelled.now))

module _ (m : ScoreMachine) (at : Place) (t : List ℕ) (given : List PlacedSyllable) (starts : Bool) (p : Preceding) (next : Place) (runs : RunsBefore m at t given starts p next)
    (stands : IsBetweenSyllables m at) (f : Found) (found : IsFound m.body.nabc_lines m.limits p.canonical f) (start : nat_lt 0 f.gap ≡ starts)
    (steady : KeepsFirstSound m.body.nabc_lines m.pair.gathered.first_kind found.is.syllable) where
  abbrev pub r : SyllableParts
  r = parts f m.body.nabc_lines p.canonical m.limits found

  abbrev pub spans : Spans
  spans = p.spans

  bytes : encode_utf8_all (spelled r) ≡ f.spelled.now
  bytes = bytes_are f m.body.nabc_lines p.canonical m.limits found

  -- the place after it
  abbrev pub past : Place
  past = place_past next (chars f.spelled.now)

  pub past_is : past ≡ place_past at (t ++ chars f.spelled.now)
  past_is = ap (λ (q : Place). place_past q (chars f.spelled.now)) runs.place ∙ sym (place_append at t (chars f.spelled.now))

  module _ (one : UnplacedSyllable) (makes : ReadsAlike m.body.nabc_lines m.body.macros next r spans one) where
    pub between : (s : HeldScore) (made : List UnplacedSyllable) → length made ≤ 1 → s.gathered ≡ record m.pair.gathered { made = made; total = p.canonical; eu = p.spans.eu; nlba = p.spans.nlba } → IsBetween m.limits s
    between s made few is = grind arith

    pub leaves : (g : Gathered) → g.total ≡ p.canonical → LeavesRoomFor m.limits g r
    leaves g total = grind (arith, bytes)

    -- no note and no clef comes with it, or one has come
    pub steady_one : (g : Gathered) → g.first_kind ≡ m.pair.gathered.first_kind → SoundsNoMore (is_some g.first_kind) (sounds one)
    steady_one g e = subst (λ (k : Option ItemKind). SoundsNoMore (is_some k) (sounds one)) (sym e)
        (sounds_no_more f m.body.nabc_lines p.canonical m.limits found spans one makes.made m.pair.gathered.first_kind steady)

    through_one : StepsOver m.limits m.body.nabc_lines m.body.macros next runs.s (chars f.spelled.now) (given_before runs.s one) past (after_one runs.s past one)
    through_one =
        subst (λ (u : List ℕ). StepsOver m.limits m.body.nabc_lines m.body.macros next runs.s u (given_before runs.s one) (place_past next u) (after_one runs.s (place_past next u) one))
        (sym (characters_are f m.body.nabc_lines p.canonical m.limits found))
        (makes.through m.limits runs.s (between runs.s (runs.held ∷ []) (omega arith) runs.gathered) (steady_one runs.s.gathered (ap (λ (g : Gathered). g.first_kind) runs.gathered)) (ap spans_of runs.gathered)
        (leaves runs.s.gathered (ap (λ (g : Gathered). g.total) runs.gathered)))

    word : one.text.word_start ≡ starts
    word = word_is f m.body.nabc_lines p.canonical m.limits found spans one makes.made ∙ start

    given_is : runs.earlier ++ given_before runs.s one ≡ given
    given_is = grind (arith, word)

    -- through the syllable the one held before is given
    pub through_all : StepsOver m.limits m.body.nabc_lines m.body.macros at (held_score m) (t ++ chars f.spelled.now) given past (after_one runs.s past one)
    through_all = grind (arith, given_is, through_both, through_one)

    eu_is : one.eu ≡ (past_found p f).spans.eu
    eu_is = eu_after f m.body.nabc_lines p.canonical m.limits found spans one makes.made

    nlba_is : one.nlba ≡ (past_found p f).spans.nlba
    nlba_is = nlba_after f m.body.nabc_lines p.canonical m.limits found spans one makes.made

    size : length (canonical one.text.word_start one) ≡ canonical_length f
    size = size_is f m.body.nabc_lines p.canonical m.limits found spans one makes.made

    few_bytes : canonical_length f ≤ length f.spelled.now
    few_bytes = length_is f m.body.nabc_lines p.canonical m.limits found

    -- no more of what is gathered changes than the held syllable, the bytes before and the open
    -- spans
    pub gathered_is : gathered_with runs.s.gathered one
        ≡ record m.pair.gathered { made = one ∷ []; total = (past_found p f).canonical; eu = (past_found p f).spans.eu; nlba = (past_found p f).spans.nlba }
    gathered_is =
        gathered_one m.pair.gathered one p.canonical (canonical_length f) stands.between.nothing stands.between.follows stands.between.over size
        (let l = stands.between.limit in let s = found.syllable in omega (arith, few_bytes, l, s))
        (let l = stands.between.limit in let s = found.syllable in let k = kept_length f m.body.nabc_lines p.canonical m.limits found spans one makes.made in omega (arith, few_bytes, k, l, s))
        (let i = found.input in let top = m.limits.in_range.input_most in omega (arith, few_bytes, i, top))
        runs.s.gathered (runs.held ∷ []) p.spans.eu p.spans.nlba runs.gathered
        ∙ ap₂ (λ a b. record m.pair.gathered { made = one ∷ []; total = (past_found p f).canonical; eu = a; nlba = b }) eu_is nlba_is

    pub lent_is : (runs.s.is_preceded || nat_lt 0 (length runs.s.gathered.made)) ≡ true
    lent_is = ap (λ (g : Gathered). runs.s.is_preceded || nat_lt 0 (length g.made)) runs.gathered ∙ or-true runs.s.is_preceded

    preceding_is : with_one p one ≡ past_found p f
    preceding_is =
        let none_first : (p.syllables == 0) ≡ false = let some = runs.some in grind (arith, nat_tests, some) in
        let low : min (p.canonical + min (canonical_length f) most) most ≡ p.canonical + canonical_length f = omega (arith, few_bytes, found.input, m.limits.in_range.input_most) in
        let sounded : (p.sounded || sounds one) ≡ p.sounded = subst (λ b. SoundsNoMore b (sounds one)) runs.sounded (steady_one m.pair.gathered refl) in
        rw (none_first, size, low, eu_is, nlba_is, sounded) refl

    before_is : (placed : PlacedSyllable) → placed.made ≡ one → past_found p f ≡ with_placed m.pair.contexts.before (given ++ placed ∷ [])
    before_is placed is = grind (arith, preceding_is, each_then, map-append)

    goes_on_by : (begins : Bool) → GoesOnWith m at t given p f r begins
    goes_on_by begins = let placed : PlacedSyllable = record { made = one; position = position_by one.text.word_start begins } in record {
      placed = placed;
      spells = spelled_there f m.body.nabc_lines p.canonical m.limits found spans one makes.made begins;
      runs = record {
        held = one;
        s = after_one runs.s past one;
        earlier = given;
        through = subst (λ (q : Place). StepsOver m.limits m.body.nabc_lines m.body.macros at (held_score m) (t ++ chars f.spelled.now) given q (after_one runs.s past one)) past_is through_all;
        gathered = gathered_is;
        given_are = ap (λ b. given ++ record { made = one; position = position_by (not b || one.text.word_start) begins } ∷ []) (sym lent_is);
        before = before_is placed refl;
        place = refl;
        within = All-append (IsWithin m.limits) given (placed ∷ []) runs.within
            (All-cons (IsWithin m.limits) placed [] (short_within m.limits placed.position one (is_short f m.body.nabc_lines p.canonical m.limits found spans one makes.made)) (All-nil (IsWithin m.limits)));
        plain = All-append IsPlain t (chars f.spelled.now) runs.plain (plain_is f m.body.nabc_lines p.canonical m.limits found);
        few = few_given;
        some = omega arith;
        sounded = runs.sounded;
        input = (let i = found.input in omega (arith, few_bytes, i));
      };
    }
      where
        few_given : length given ≤ length (t ++ chars f.spelled.now)
        few_given =
            let l = length-append runs.earlier (record { made = runs.held; position = position_by (not runs.s.is_preceded || runs.held.text.word_start) starts } ∷ []) in
            let n = length-append t (chars f.spelled.now) in
            let some = some_are f m.body.nabc_lines p.canonical m.limits found in
            omega (arith, ap (λ (ss : List PlacedSyllable). length ss) runs.given_are, l, n, runs.few, some)

  module _ (law : MakeSyllables) (line : next.line + length f.spelled.now < 2 ^ 63) (column : next.column + length f.spelled.now < 2 ^ 63) where
    small : length (encode_utf8_all (spelled r)) < 2 ^ 63
    small = let e = ap (λ (b : List ℕ). length b) bytes in omega (arith, e, line)

    fits : CountsFit next (spelled r)
    fits =
        let e = ap (λ (b : List ℕ). length b) bytes in
        let few = length-le-encodes (spelled r) in
        record { line = omega (arith, e, few, line); column = omega (arith, e, few, column); bytes = (let n = bytes_encodes (spelled r) in omega (arith, n, e, line)) }

    -- what it makes
    pub found_one : (one : UnplacedSyllable) × ReadsAlike m.body.nabc_lines m.body.macros next r spans one
    found_one = law m.body.nabc_lines m.body.macros next r spans found.is.is_regular fits small

    pub goes_on : (begins : Bool) → GoesOnWith m at t given p f r begins
    goes_on = goes_on_by found_one.0 found_one.1
