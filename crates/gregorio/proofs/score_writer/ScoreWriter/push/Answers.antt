use Rattle.std.proofs.Common.{ℕ, ◌+◌, ◌≤◌, ◌||◌, not, Bool, List, [], ◌∷◌, length, encode_utf8_all, if◌then◌else◌, ◌∙◌, ap, sym, subst, length-append, arith}
use Rattle.gabc_headers.specs.Canonical.{canonical_heads}
use Rattle.gregorio.specs.witness.Engine.{is_before_heads, text_of_heads}
use Rattle.gabc_headers.specs.declared.head_event.HeadEvent.{HeadEvent}
use Rattle.gregorio.specs.machine.InStep.{TakesEvent}
use Rattle.gregorio.specs.machine.RunWriter.{RunWriterState, heads_at, heads_len, with_heads}
use Rattle.gregorio.specs.machine.ScoreWriter.{FitsEvents, IsShortBook, ScoreWriterState}
use Rattle.gregorio.proofs.pieces.WriterKeepsPaceWithScore.{no_heads, not_written}
use Rattle.gregorio.proofs.score_writer.ScoreWriter.push.Goals.{in-Heads, in_default}
use Rattle.gregorio.proofs.score_writer.ScoreWriter.push.Goals as goal

pub returns-clause-takes : goal.returns-clause-takes
returns-clause-takes c =
    let i = c.self.inside in
    let old = c.args.self.now in
    let x = c.args.event in
    let read = c.args.heads.now.book in
    let new = c.pass.new.self in
    elim c.match-event.branch [
      | in-Heads w ↦
          let passed = subst (λ (s : ScoreWriterState). TakesEvent s.score s.writer x new) w.self-is c.pass.ensures.takes in
          let after = subst (λ (v : RunWriterState). TakesEvent i.score v x new) (w.heads.ensures.writes ∙ ap (with_heads i.writer) w.book.ensures) passed in
          subst (λ (s : ScoreWriterState). TakesEvent s.score (heads_at s.writer x read) x new) c.self.view_is
          (subst (λ (y : HeadEvent). TakesEvent i.score (heads_at i.writer y read) y new) (sym w.in-Heads.is)
          (subst (λ (y : HeadEvent). TakesEvent i.score (with_heads i.writer read) y new) w.in-Heads.is after))
      | in_default w ↦
          subst (λ (v : RunWriterState). TakesEvent old.score v x new) (sym (not_written old.writer x read (no_heads x w.in_default.not-Heads)))
          (subst (λ (s : ScoreWriterState). TakesEvent s.score s.writer x new) w.self-is c.pass.ensures.takes)
    ]

-- what the headers take is kept for them
heads_fit : (headed done : Bool) (text : List ℕ) (room : ℕ) → length (if not (headed || done) then text else []) ≤ room
    → length (if not (headed || done) then text else []) + (if headed || not (headed || done) then 0 else room) ≤ (if headed then 0 else room)
heads_fit headed done text room short = grind arith

room_with_heads : (old : ScoreWriterState) (book : List (List ℕ × List ℕ)) (ends : Bool) (events : List HeadEvent) → IsShortBook old.score.limits book
    → length (text_of_heads old.writer.written book (is_before_heads old.writer.written)) ≤ heads_len old.writer.written.format (length (encode_utf8_all (canonical_heads book)))
    → FitsEvents old ends events → FitsEvents (record old { writer = with_heads old.writer book }) ends events
room_with_heads old book ends events few short room = grind (arith, heads_fit, length-append)

pub returns-clause-room : goal.returns-clause-room
returns-clause-room c = λ ends events room.
    let i = c.self.inside in
    let x = c.args.event in
    let read = c.args.heads.now.book in
    let here : FitsEvents (record { score = i.score; writer = i.writer }) ends (x ∷ events) = subst (λ (s : ScoreWriterState). FitsEvents s ends (x ∷ events)) (sym c.self.view_is) room in
    c.pass.ensures.room ends events (elim c.match-event.branch [
      | in-Heads w ↦
          let few : IsShortBook i.score.limits read = subst (λ (s : ScoreWriterState). IsShortBook s.score.limits read) (sym c.self.view_is) c.requires.book in
          let short = subst (λ (b : List (List ℕ × List ℕ)). length (text_of_heads i.writer.written b (is_before_heads i.writer.written)) ≤ heads_len i.writer.written.format (length (encode_utf8_all (canonical_heads b)))) w.book.ensures w.heads.ensures.short in
          subst (λ (s : ScoreWriterState). FitsEvents s ends (x ∷ events)) (sym w.self-is)
          (subst (λ (v : RunWriterState). FitsEvents (record { score = i.score; writer = v }) ends (x ∷ events)) (sym (w.heads.ensures.writes ∙ ap (with_heads i.writer) w.book.ensures))
          (room_with_heads (record { score = i.score; writer = i.writer }) read ends (x ∷ events) few short here))
      | in_default w ↦ subst (λ (s : ScoreWriterState). FitsEvents s ends (x ∷ events)) (sym w.self-is) room
    ])
