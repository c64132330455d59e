-- The longest glyph that begins some notes.
use Rattle.std.specs.Prelude.{◌<◌, ◌≤◌, ◌+◌, ℕ, List, length, take, Option, Some}
use Rattle.std.specs.Option.{option_map}
use Rattle.gabc_notes.specs.declared.note.Note.{Note}
use Rattle.gabc_patterns.specs.LongestItems.{IsItem, IsItemOf}
use Rattle.gabc_neumes.specs.Letters.{letters}
use Rattle.gabc_neumes.specs.Table.{neumes}
use Rattle.gabc_patterns.specs.Function.{best_of}
use Rattle.gabc_neumes.specs.machine.GlyphMachine.{class_at, next_state, kind_at_end}
use Rattle.gabc_neumes.specs.declared.glyph.GlyphKind.{GlyphKind}
use Rattle.gabc_neumes.specs.declared.glyphs.GlyphSearch.{GlyphSearch}
use Rattle.gabc_neumes.specs.declared.state.GlyphState.{GlyphState}

-- The longest glyph that begins the notes is of this kind and has `count` notes.
pub record IsFirstGlyph (notes : List Note) (kind : GlyphKind) (count : ℕ) : Type 0 where
  pub some : 0 < count
  pub within : count ≤ length notes
  pub item : IsItemOf neumes kind (take count (letters notes))
  pub none : (m : ℕ) → count < m → m ≤ length (letters notes) → ¬ IsItem neumes (take m (letters notes))

-- a search after a note more, if a glyph may continue with it
abbrev pub search_with : GlyphSearch → Note → Option GlyphSearch
search_with s note =
    option_map
    (λ (after : GlyphState). record { state = after; before = Some note.height; read = s.read + 1; best = best_of (kind_at_end after) (s.read + 1) s.best })
    (next_state s.state (class_at s.before note))
