-- The slices of a syllable from which its nodes are made.
use Rattle.std.specs.Prelude.{◌≡◌, ℕ, List, [], ◌∷◌, Bool, cond}
use Rattle.gabc_text.specs.BuiltText.{empty_view}
use Rattle.gabc_body.specs.Syllable.{PlacedSyllable}
use Rattle.gabc_tree.specs.declared.syllable_nodes.SyllableSlices.{SyllableSlices}

-- the syllable of these slices, without the pieces of its text
abbrev pub placed_by : SyllableSlices → PlacedSyllable
placed_by r = record {
  made = record { text = record empty_view { word_start = r.word_start }; kept = r.kept.now; snippets = r.snippets.now; eu = r.spans.eu; nlba = r.spans.nlba };
  position = r.position;
}

-- These are the slices of a syllable.
pub record Shows (r : SyllableSlices) (s : PlacedSyllable) : Type 0 where
  pub kept : s.made.kept ≡ r.kept.now
  pub snippets : s.made.snippets ≡ r.snippets.now
  pub position : s.position ≡ r.position
  pub eu : s.made.eu ≡ r.spans.eu
  pub nlba : s.made.nlba ≡ r.spans.nlba
  pub word_start : s.made.text.word_start ≡ r.word_start

-- the character kept for the blanks before a syllable, if it begins a word
abbrev pub gap_of : Bool → List ℕ
gap_of starts = cond starts (32 ∷ []) []
