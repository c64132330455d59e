-- A regular syllable that was found: its bytes, and what it makes.
use Rattle.std.proofs.Common.{◌≡◌, ℕ, ◌+◌, ◌-◌, ◌<◌, ◌≤◌, ◌^◌, ◌||◌, min, nat_lt, Bool, true, false, cond, if◌then◌else◌, List, [], ◌∷◌, ◌++◌, map, length, take, drop, encode_utf8_all, Option, is_some, refl, sym, ap, subst, ◌∙◌, arith, length-drop}
use Rattle.std.proofs.lemmas.Bool.Decides.{nat_tests}
use Rattle.std.specs.List.{All}
use Rattle.std.specs.Str.{IsUtf8, chars}
use Rattle.std.proofs.Math.Seq.{take-append_seam}
use Rattle.std.proofs.lemmas.Str.{encodes-chars}
use Rattle.gabc_text.specs.RegularText.{mark_at, tags_of}
use Rattle.gabc_notes.specs.declared.item.ItemKind.{ItemKind}
use Rattle.gabc_places.specs.TextOfAnInput.{IsPlain}
use Rattle.gabc_places.specs.declared.limits.Limits.{Limits}
use Rattle.gabc_body.specs.declared.before.Spans.{Spans}
use Rattle.gabc_score.specs.declared.run.Found.{Found}
use Rattle.gabc_body.specs.SpansPast.{eu_past, nlba_past}
use Rattle.gabc_body.specs.declared.snippets.Snippet.{Snippet}
use Rattle.gabc_score.specs.Before.{sounds, sounds_in, sounds_on}
use Rattle.gabc_body.specs.Body.{is_longer}
use Rattle.gabc_body.specs.Canonical.{canonical, canonical_in_place, position_by}
use Rattle.gabc_score.specs.GivesSyllables.{spelled_canonical}
use Rattle.gabc_score.specs.RegularSyllable.{SyllableParts, spelled, notes_spelled, canonical_spelled, has_gap, line_and_text, snippet_texts}
use Rattle.gabc_body.specs.Syllable.{UnplacedSyllable}
use Rattle.gabc_score.specs.machine.Between.{SpellsItself, SoundsNoMore, with_one as gathered_with}
use Rattle.gabc_body.specs.witness.Gatherer.{Gathered}
use Rattle.gabc_score.specs.machine.RegularLen.{past_mark, BeginsRegularly}
use Rattle.gabc_score.specs.machine.Run.{IsFound, KeepsFirstSound, SpellsFound, canonical_length, mark_of, sounds_among, len_of}
use Rattle.gabc_score.specs.machine.ScoreMachine.{IsShort}
use Rattle.gabc_body.specs.witness.SyllableBuilder.{nothing_open}
use Rattle.gabc_score.proofs.regular_syllables.MarkedSyllables.{gap_starts, spans_past}
use Rattle.gabc_body.proofs.within_limits.CodesOfLimits.{begins_there}

-- ---- what was gathered

-- a syllable within the limit
module _ (h : Gathered) (m : UnplacedSyllable) (total size : ℕ) (nothing : h.builder ≡ nothing_open) (follows : h.follows ≡ true) (over : h.over ≡ false)
    (len : length (canonical m.text.word_start m) ≡ size) (short : size ≤ h.limit) (kept : length m.kept ≤ h.limit) (low : total + size < 2 ^ 64 - 1) where
  pub gathered_one : (g : Gathered) (old : List UnplacedSyllable) (eu nlba : Bool) → g ≡ record h { made = old; total = total; eu = eu; nlba = nlba }
      → gathered_with g m ≡ record h { made = m ∷ []; total = total + size; eu = m.eu; nlba = m.nlba }
  gathered_one g old eu nlba is =
      let least : min (length (canonical m.text.word_start m)) (2 ^ 64 - 1) ≡ size = ap (λ n. min n (2 ^ 64 - 1)) len ∙ omega (arith, low) in
      let sum : min (total + size) (2 ^ 64 - 1) ≡ total + size = omega (arith, low) in
      let long : is_longer h.limit m.kept ≡ false = grind (arith, nat_tests, kept) in
      let wide : nat_lt h.limit size ≡ false = grind (arith, nat_tests, short) in
      rw (is, follows, nothing, over, least, sum, long, wide) refl

-- ---- what sounds

sound_as : (kept : List ℕ) (ss : List Snippet) → sounds_in kept ss ≡ sounds_among (map (line_and_text kept) ss)
sound_as kept [] = refl
sound_as kept (s ∷ ss) = ap (λ b. sounds_on kept s || b) (sound_as kept ss)

-- a syllable sounds as the texts of its snippets
pub sounds_as : (m : UnplacedSyllable) → sounds m ≡ sounds_among (snippet_texts m)
sounds_as m = sound_as m.kept m.snippets

-- ---- a syllable that was found

-- its bytes among those that it was found in
pub front_is : (f : Found) → take (length f.spelled.now) (f.spelled.now ++ f.rest.now) ≡ f.spelled.now
front_is f = take-append_seam f.spelled.now f.rest.now

pub utf8_is : (f : Found) (lines : ℕ) → BeginsRegularly lines (f.spelled.now ++ f.rest.now) (len_of f) → IsUtf8 f.spelled.now
utf8_is f lines b = subst IsUtf8 (front_is f) b.is_text.utf8

module _ (f : Found) (lines total : ℕ) (limits : Limits) (found : IsFound lines limits total f) where
  abbrev pub parts : SyllableParts
  parts = found.is.syllable

  pub characters_are : chars f.spelled.now ≡ spelled parts
  characters_are = ap chars (sym (front_is f)) ∙ found.is.characters_are

  pub bytes_are : encode_utf8_all (spelled parts) ≡ f.spelled.now
  bytes_are = ap encode_utf8_all (sym characters_are) ∙ encodes-chars f.spelled.now (utf8_is f lines found.is)

  pub plain_is : All IsPlain (chars f.spelled.now)
  plain_is = subst (λ (bytes : List ℕ). All IsPlain (chars bytes)) (front_is f) found.is.is_text.plain

  pub rest_is : drop f.gap f.spelled.now ≡ encode_utf8_all (canonical_spelled false parts)
  rest_is = ap (drop f.gap) (sym (front_is f)) ∙ found.is.rest_is

  pub starts_is : nat_lt 0 f.gap ≡ has_gap parts.gap
  starts_is = gap_starts parts f.gap found.is.gap_is

  -- it has some characters
  pub some_are : 1 ≤ length (chars f.spelled.now)
  some_are = by (chars f.spelled.now) (encodes-chars f.spelled.now (utf8_is f lines found.is))
    where
      by : (t : List ℕ) → encode_utf8_all t ≡ f.spelled.now → 1 ≤ length t
      by [] e = absurd (let n = ap (λ (l : List ℕ). length l) e in let some = found.is.some in omega (arith, n, some))
      by (c ∷ t) e = omega arith

  -- its canonical text is no longer
  pub length_is : canonical_length f ≤ length f.spelled.now
  length_is = grind (arith, nat_tests, length-drop f.gap f.spelled.now, found.is.some)

  module _ (spans : Spans) (m : UnplacedSyllable) (made : SpellsItself lines spans parts m) where
    pub word_is : m.text.word_start ≡ nat_lt 0 f.gap
    word_is = made.starts ∙ sym starts_is

    pub canonical_with : (starts : Bool) → canonical starts m ≡ spelled_canonical starts (drop f.gap f.spelled.now)
    unfolding lib.Utf8.encode
    canonical_with starts = grind (arith, rest_is)

    length_with : (starts : Bool) → length (spelled_canonical starts (drop f.gap f.spelled.now)) ≡ length (drop f.gap f.spelled.now) + (if starts then 1 else 0)
    length_with starts = grind arith

    pub size_is : length (canonical m.text.word_start m) ≡ canonical_length f
    size_is = ap (λ b. length (canonical b m)) word_is ∙ ap (λ (l : List ℕ). length l) (canonical_with (nat_lt 0 f.gap)) ∙ length_with (nat_lt 0 f.gap)

    kept_with : (b : Bool) → length (encode_utf8_all ((cond b (32 ∷ []) [] ++ parts.text) ++ 40 ∷ notes_spelled parts.nexts parts.final)) ≡ length (drop f.gap f.spelled.now) + (if b then 1 else 0)
    unfolding lib.Utf8.encode
    kept_with true = ap (λ (l : List ℕ). length (32 ∷ l)) (sym rest_is) ∙ omega arith
    kept_with false = ap (λ (l : List ℕ). length l) (sym rest_is) ∙ omega arith

    pub kept_length : length m.kept ≡ canonical_length f
    kept_length = ap (λ (l : List ℕ). length l) made.kept ∙ kept_with (has_gap parts.gap) ∙ ap (λ b. length (drop f.gap f.spelled.now) + (if b then 1 else 0)) (sym starts_is)

    pub is_short : IsShort limits.syllable m
    is_short = grind (arith, kept_length, length_is, canonical_with, length-drop)

    -- if it is steady, it sounds no more than what stands before it
    pub sounds_no_more : (first : Option ItemKind) → KeepsFirstSound lines first parts → SoundsNoMore (is_some first) (sounds m)
    sounds_no_more first steady = subst (SoundsNoMore (is_some first)) (sym (sounds_as m ∙ ap sounds_among made.snippets_are)) steady

    -- which spans are open after it its mark says
    spans_after : (eu_past m spans.eu ≡ (past_mark (mark_of f) spans).eu) × (nlba_past m spans.nlba ≡ (past_mark (mark_of f) spans).nlba)
    spans_after = spans_past lines made.unit.unit m made.unit.holds spans (mark_of f) (made.tags ∙ found.is.mark_is ∙ ap (λ (b : List ℕ). tags_of (mark_at (drop f.gap b))) (front_is f))

    pub eu_after : m.eu ≡ (past_mark (mark_of f) spans).eu
    eu_after = made.follows.eu ∙ spans_after.0

    pub nlba_after : m.nlba ≡ (past_mark (mark_of f) spans).nlba
    nlba_after = made.follows.nlba ∙ spans_after.1

    -- the canonical text where it stands
    canonical_there : (starts : Bool) → canonical_in_place (record { made = m; position = position_by m.text.word_start starts }) ≡ spelled_canonical (nat_lt 0 f.gap) (drop f.gap f.spelled.now)
    canonical_there starts = ap (λ b. canonical b m) (begins_there m.text.word_start starts ∙ word_is) ∙ canonical_with (nat_lt 0 f.gap)

    -- what its slices say of it
    pub spelled_there : (begins : Bool) → SpellsFound lines (past_mark (mark_of f) spans) begins f parts (record { made = m; position = position_by m.text.word_start begins })
    spelled_there begins = record {
      position = ap (λ b. position_by b begins) word_is;
      eu = eu_after;
      nlba = nlba_after;
      gap = starts_is;
      word_start = made.starts;
      kept = made.kept;
      canonical = canonical_there begins;
      text = made.text_is;
      snippets = made.snippets_are;
      spans_are = made.spans_are;
    }
