-- The totals of the syllables before a syllable of a score: their number, the canonical bytes, the
-- open spans, and whether a note or a clef has come in GABC.
use Rattle.std.specs.Prelude.{ℕ, ◌+◌, ◌-◌, ◌^◌, ◌==◌, ◌||◌, ◌&&◌, min, List, [], ◌∷◌, map, Bool, false, length, is_some}
use Rattle.std.specs.List.{list_any}
use Rattle.gabc_notes.specs.FirstNoteOrClef.{first_note_or_clef}
use Rattle.gabc_notes.specs.Items.{items_of}
use Rattle.gabc_body.specs.declared.before.Before.{Before}
use Rattle.gabc_score.specs.declared.preceding.Preceding.{Preceding}
use Rattle.gabc_body.specs.declared.snippets.Snippet.{Snippet}
use Rattle.gabc_body.specs.Canonical.{canonical}
use Rattle.gabc_body.specs.Syllable.{UnplacedSyllable, PlacedSyllable, text_at}

-- the totals that are reported, without the numbers of the headers
abbrev pub preceding_of : Before → Preceding
preceding_of b = record { syllables = b.syllables; canonical = b.canonical; spans = b.spans; sounded = b.sounded }

-- before the first syllable: the canonical headers have n bytes
abbrev pub no_syllable : ℕ → Preceding
no_syllable head = record { syllables = 0; canonical = head; spans = record { eu = false; nlba = false }; sounded = false }

-- a snippet of GABC in this kept text has a note or a clef
abbrev pub sounds_on : List ℕ → Snippet → Bool
sounds_on kept s = (s.line == 0) && is_some (first_note_or_clef (items_of (text_at s.span kept)))

abbrev pub sounds_in : List ℕ → List Snippet → Bool
sounds_in kept snippets = list_any (sounds_on kept) snippets

-- a syllable has a note or a clef in GABC
abbrev pub sounds : UnplacedSyllable → Bool
sounds m = sounds_in m.kept m.snippets

-- counts stay at their last value
abbrev pub most : ℕ
most = 2 ^ 64 - 1

-- the totals before the syllable after this one
abbrev pub with_one : Preceding → UnplacedSyllable → Preceding
with_one p m = record {
  syllables = min (p.syllables + 1) most;
  canonical = min (p.canonical + min (length (canonical ((p.syllables == 0) || m.text.word_start) m)) most) most;
  spans = record { eu = m.eu; nlba = m.nlba };
  sounded = p.sounded || sounds m;
}

-- the totals before the syllable after these
abbrev pub with_each : Preceding → List UnplacedSyllable → Preceding
with_each p [] = p
with_each p (m ∷ ms) = with_each (with_one p m) ms

abbrev pub with_placed : Preceding → List PlacedSyllable → Preceding
with_placed p ss = with_each p (map (λ (s : PlacedSyllable). s.made) ss)
