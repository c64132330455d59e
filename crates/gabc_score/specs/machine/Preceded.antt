-- The contexts of the pending syllable and of the current one, and the state gathered.
use Rattle.std.specs.Prelude.{◌≡◌, ◌||◌, ℕ, [], ◌+◌, ◌<◌, ◌≤◌, min, nat_lt, Bool, length, is_some, if◌then◌else◌}
use Rattle.std.specs.List.{All}
use Rattle.gabc_score.specs.declared.preceding.Preceding.{Preceding}
use Rattle.gabc_body.specs.declared.before.Spans.{Spans}
use Rattle.gabc_body.specs.declared.snippets.Snippet.{Snippet}
use Rattle.gabc_score.specs.Before.{most, no_syllable, sounds_in, with_each}
use Rattle.gabc_body.specs.witness.Gatherer.{Gathered}

-- the contexts of the pending syllable and of the current one; if none is pending, they are the
-- same
pub record Contexts : Type 0 where
  pub before : Preceding
  pub after : Preceding

-- the spans that are open
abbrev pub spans_of : Gathered → Spans
spans_of g = record { eu = g.eu; nlba = g.nlba }

-- the totals after all that was gathered; `syllables` is the number of those before the last one
abbrev pub after_gathered : ℕ → Gathered → Preceding
after_gathered syllables g = record { syllables = min (syllables + 1) most; canonical = g.total; spans = spans_of g; sounded = is_some g.first_kind }

-- the totals before the pending syllable, by whether a syllable has become whole, and whether the
-- one pending before was emitted
abbrev pub before_past : Bool → Bool → Contexts → Preceding
before_past whole gave b = if whole then (if gave then b.after else b.before) else b.before

-- the totals before and after it then
abbrev pub past_point : Bool → Bool → Contexts → Gathered → Contexts
past_point whole gave b g = record {
  before = before_past whole gave b;
  after = if whole then after_gathered (before_past whole gave b).syllables g else b.after;
}

-- both contexts, if none is pending
abbrev pub none_pending : Preceding → Contexts
none_pending p = record { before = p; after = p }

-- the contexts before the first syllable, after canonical headers of `head` bytes
abbrev pub after_headers : ℕ → Contexts
after_headers head = none_pending (no_syllable head)

-- the state gathered after these syllables, if none is pending
abbrev pub gathered_after : Preceding → Gathered → Gathered
gathered_after p g = record g { eu = p.spans.eu; nlba = p.spans.nlba; made = []; follows = nat_lt 0 p.syllables; total = p.canonical }

-- a snippet ends before byte `n`
abbrev pub EndsBefore : ℕ → Snippet → Type 0
EndsBefore n s = s.span.to < n

-- The totals of the state gathered are those of `before` with the syllables made and not emitted.
-- Whether a note or a clef has come is by these, and by the snippets of the current syllable that
-- have ended.
pub record IsPreceded (before : Preceding) (g : Gathered) : Type 0 where
  pub follows : g.follows ≡ nat_lt 0 (with_each before g.made).syllables
  pub total : g.total ≡ (with_each before g.made).canonical
  pub sounded : is_some g.first_kind ≡ ((with_each before g.made).sounded || sounds_in g.builder.kept g.builder.snippets)
  pub snippets : All (EndsBefore g.builder.from) g.builder.snippets
  pub from : g.builder.from ≤ length g.builder.kept
