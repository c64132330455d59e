use Rattle.std.proofs.Common.{◌≡◌, ℕ, ◌+◌, ◌<◌, ◌≤◌, List, [], length, sym, subst, ap, ◌∙◌, refl, arith}
use Rattle.std.proofs.lemmas.Bool.Decides.{nat_tests}
use Rattle.std.proofs.lemmas.List.{nil_from_length}
use Rattle.std.proofs.lemmas.Str.{chars-nil}
use Rattle.std.specs.Str.{chars}
use Rattle.gabc_places.specs.declared.place.Place.{Place}
use Rattle.gabc_places.specs.Place.{place_past}
use Rattle.gabc_places.specs.Skip.{most_skipped}
use Rattle.gabc_places.specs.DecoderMachine.{DecoderState, IsReached}
use Rattle.gabc_places.specs.contracts.decoder.Decoder.{the_view}
use Rattle.gabc_places.proofs.decoding.TextsAreEmitted.{one_each, all_emitted}
use Rattle.gabc_places.proofs.decoding.TextsMoveADecoder.{text_moves}
use Rattle.gabc_places.proofs.decoding.TextsAreSkipped.{most_is_left, text_skipped, reached_past_text}
use Rattle.gabc_places.proofs.decoder.Decoder.skip_text.Goals as goal

next_is : (c : goal.After-self-then-not-is_empty-1) → place_past c.self.inside.place (chars c.args.text.now) ≡ c.args.next
next_is c = ap (λ (s : DecoderState). place_past s.place (chars c.args.text.now)) c.self.view_is ∙ sym c.requires.next

reached : (c : goal.After-self-then-not-is_empty-1) → IsReached c.args.next (length c.self.inside.pending.items) (c.self.inside.taken + length c.args.text.now)
reached c = subst (λ (p : Place). IsReached p (length c.self.inside.pending.items) (c.self.inside.taken + length c.args.text.now)) (next_is c)
    (reached_past_text c.args.text.now c.self.inside.place (length c.self.inside.pending.items) c.self.inside.taken c.utf8.text c.self.invariant.reached)

some : (c : goal.After-self-then-not-is_empty-1) → 0 < length c.args.text.now
some c = grind (arith, nat_tests, c.if-not-is_empty.ensures)

few : (c : goal.After-self-then-not-is_empty-1) → length c.args.text.now ≤ most_skipped (the_view c.self.inside)
few c = subst (λ (s : DecoderState). length c.args.text.now ≤ most_skipped s) (sym c.self.view_is) c.requires.few

pub invariant_of-self : goal.invariant_of-self
invariant_of-self c = grind (arith, some, few, most_is_left, reached)

pub returns-then-not-is_empty-clause-joined : goal.returns-then-not-is_empty-clause-joined
returns-then-not-is_empty-clause-joined c = grind (arith, text_skipped, some, few, next_is)

pub returns-then-not-is_empty-clause-one_each : goal.returns-then-not-is_empty-clause-one_each
returns-then-not-is_empty-clause-one_each c = one_each c.args.self.now.place c.args.text.now c.utf8.text

pub returns-then-not-is_empty-clause-all : goal.returns-then-not-is_empty-clause-all
returns-then-not-is_empty-clause-all c = all_emitted c.args.self.now.place (chars c.args.text.now)

pub returns-then-not-is_empty-clause-moves : goal.returns-then-not-is_empty-clause-moves
returns-then-not-is_empty-clause-moves c = grind (arith, next_is, text_moves, some)

pub returns-then-not-is_empty-clause-reached : goal.returns-then-not-is_empty-clause-reached
returns-then-not-is_empty-clause-reached c = reached c

nothing : (c : goal.Else-not-is_empty) → c.args.text.now ≡ []
nothing c = nil_from_length c.args.text.now (grind (arith, nat_tests, c.if-not-is_empty.ensures))

pub returns-else-not-is_empty-clause-joined : goal.returns-else-not-is_empty-clause-joined
returns-else-not-is_empty-clause-joined c = λ more. rw (nothing c, chars-nil) refl

same_place : (c : goal.Else-not-is_empty) → c.args.self.now.place ≡ c.args.next
same_place c = sym (c.requires.next ∙ ap (λ (bytes : List ℕ). place_past c.args.self.now.place (chars bytes)) (nothing c) ∙ ap (place_past c.args.self.now.place) chars-nil)

pub returns-else-not-is_empty-clause-one_each : goal.returns-else-not-is_empty-clause-one_each
returns-else-not-is_empty-clause-one_each c = one_each c.args.self.now.place c.args.text.now c.utf8.text

pub returns-else-not-is_empty-clause-all : goal.returns-else-not-is_empty-clause-all
returns-else-not-is_empty-clause-all c = all_emitted c.args.self.now.place (chars c.args.text.now)

pub returns-else-not-is_empty-clause-moves : goal.returns-else-not-is_empty-clause-moves
returns-else-not-is_empty-clause-moves c = rw (nothing c, chars-nil) refl

pub returns-else-not-is_empty-clause-place : goal.returns-else-not-is_empty-clause-place
returns-else-not-is_empty-clause-place c = same_place c

pub returns-else-not-is_empty-clause-reached : goal.returns-else-not-is_empty-clause-reached
returns-else-not-is_empty-clause-reached c =
    subst (λ (p : Place). IsReached p (length c.args.self.now.pending) c.args.self.now.taken) (same_place c)
    (subst (λ (s : DecoderState). IsReached s.place (length s.pending) s.taken) c.self.view_is c.self.invariant.reached)
