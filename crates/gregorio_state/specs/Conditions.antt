-- The conditions of the fields of a saved state by themselves. The engine that reads a state has
-- those of its texts: that the headers go on after their text, with this place and these errors;
-- that the pending text is a whole syllable, and again its canonical text when it is read; that the
-- kept text is kept again, has no whole syllable, and leaves the openers open; that no comment is
-- open after an unpaired `$`.
use Rattle.std.specs.Prelude.{◌≡◌, ◌↔◌, ℕ, ◌+◌, ◌<◌, ◌≤◌, List, [], ◌∷◌, length, Bool, true, false, None, IfSome}
use Rattle.gabc_places.specs.DecoderReports.{MayBeReported}
use Rattle.gabc_places.specs.Limits.{AreLimits}
use Rattle.gabc_places.specs.PlacesInOrder.{AreInOrder, LiesBefore}
use Rattle.gabc_places.specs.TextOfAnInput.{IsText}
use Rattle.gabc_headers.specs.HeldText.{IsWithinHeaders}
use Rattle.gabc_places.specs.declared.place.Place.{Place}
use Rattle.gabc_neumes.specs.InForce.{nothing_in_force}
use Rattle.gregorio_jobs.specs.declared.job.Format.{Format}
use Rattle.gregorio_jobs.specs.declared.job.Format.TheVariants as formats
use Rattle.gregorio_state.specs.Fields.{StateFields, ScoreFields, PhaseFields, InHeaders, InScore}

abbrev pub BeginsWithLf : List ℕ → Type 0
BeginsWithLf [] = ⊥
BeginsWithLf (b ∷ bs) = b ≡ 10

-- the counts, within the bytes taken and the limit of the input
pub record AreCounts (s : StateFields) (f : ScoreFields) : Type 0 where
  pub nabc_lines : f.nabc_lines ≤ 4
  pub macros : f.macros < 1024
  pub syllables : f.syllables ≤ s.taken
  pub canonical : 2 + length f.held ≤ f.canonical
  pub below : f.canonical < s.input_limit

-- nothing comes before the first syllable: no span is open, no note or clef has come, and nothing
-- is in force
pub record IsAtOutset (f : ScoreFields) : Type 0 where
  pub eu : f.in_eu ≡ false
  pub nlba : f.in_nlba ≡ false
  pub sounded : f.sounded ≡ false
  pub in_force : f.in_force ≡ nothing_in_force

-- The context of the pending syllable. The clef and the alterations in force are tracked for a dump
-- alone.
pub record AreBeforeHeld (format : Format) (f : ScoreFields) : Type 0 where
  pub line : IfSome f.in_force.clef (λ c. (1 ≤ c.line) × (c.line ≤ 5))
  pub heights : length f.in_force.alters ≡ 15
  pub sounded : f.sounded ≡ false → f.in_force.clef ≡ None
  pub outset : f.syllables ≤ 1 → IsAtOutset f
  pub untracked : format ≡ formats.Gabc → f.in_force ≡ nothing_in_force

-- the pending text is empty exactly if no syllable is whole; that of the first one begins with LF
pub record IsHeldWithin (limit : ℕ) (f : ScoreFields) : Type 0 where
  pub is_text : IsText f.held
  pub short : length f.held ≤ limit
  pub none : f.held ≡ [] ↔ f.syllables ≡ 0
  pub first : f.syllables ≡ 1 → BeginsWithLf f.held

-- each opener is a place before the next one, and the inner one comes after the `(`
pub record AreOpeners (next : Place) (f : ScoreFields) : Type 0 where
  pub notes : IfSome f.notes_opener (LiesBefore next)
  pub inner : IfSome f.inner_opener (LiesBefore next)
  pub in_order : AreInOrder f.notes_opener f.inner_opener

-- no comment is open directly after a CR, or inside an inner opener
pub record MayBeInComment (after_cr : Bool) (f : ScoreFields) : Type 0 where
  pub cr : after_cr ≡ true → f.in_comment ≡ false
  pub inner : f.in_comment ≡ true → f.inner_opener ≡ None

pub record AreScoreFields (s : StateFields) (f : ScoreFields) : Type 0 where
  pub counts : AreCounts s f
  pub before : AreBeforeHeld s.format f
  pub held : IsHeldWithin s.syllable_limit f
  pub openers : AreOpeners s.place f
  pub comment : MayBeInComment s.after_cr f
  pub kept : IsText f.kept
  pub kept_short : length f.kept ≤ s.syllable_limit

pub record AreHeaderFields (s : StateFields) (headers : List ℕ) : Type 0 where
  pub is_text : IsText headers
  pub within : IsWithinHeaders s.header_limit headers

abbrev pub ArePhaseFields : StateFields → PhaseFields → Type 0
ArePhaseFields s (InHeaders headers) = AreHeaderFields s headers
ArePhaseFields s (InScore f) = AreScoreFields s f

-- the fields may be those of a saved state; the decoder's are what a decoder may report
pub record AreStateFields (s : StateFields) : Type 0 where
  pub limits : AreLimits s.header_limit s.syllable_limit s.input_limit
  pub decoder : MayBeReported s.input_limit s.taken s.place s.pending s.after_cr
  pub phase : ArePhaseFields s s.phase
