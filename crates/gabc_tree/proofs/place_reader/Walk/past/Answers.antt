use Rattle.std.proofs.Common.{◌≡◌, ◌+◌, ℕ, List, [], drop, refl, sym, ap, ◌∙◌, inl, inr, arith}
use Rattle.std.specs.Str.{chars}
use Rattle.std.specs.Str.Iter.{chars_rest}
use Rattle.gabc_places.proofs.texts.CharactersOfStrings.{chars-none}
use Rattle.gabc_text.proofs.tokens.PrefixBeforeTag.{first_boundary, first_chars}
use Rattle.gabc_tree.specs.machine.Walk.{here_past}
use Rattle.gabc_tree.proofs.places.Walks.{goes, stays}
use Rattle.std.proofs.lemmas.Str.{chars_past_char}
use Rattle.gabc_tree.specs.InputPlaces.{byte_from}
use Rattle.gabc_tree.specs.declared.place_reader.Walk.{Walk}
use Rattle.gabc_tree.proofs.place_reader.Walk.past.Goals as goal
use Rattle.gabc_tree.proofs.place_reader.Walk.past.Goals.{else-not-is_left_out-via-then-not-is_left_out+else-not-is_earlier, else-not-is_left_out-via-else-not-is_left_out}

pub returns-in_err-c-clause-there : goal.returns-in_err-c-clause-there
returns-in_err-c-clause-there c = λ e. ap (λ (t : List ℕ). byte_from c.args.place c.args.self.now.previous c.args.self.now.byte c.args.self.now.here t) none
  where
    none : chars c.args.self.now.rest.now ≡ []
    none = grind (arith, chars-none, chars_rest)

pub returns-then-not-is_earlier-clause-there : goal.returns-then-not-is_earlier-clause-there
returns-then-not-is_earlier-clause-there c = λ e. (
    let step = sym c.chars.ensures.rest ∙ c.in_ok-c.ensures.steps.0 in
    let first = chars_past_char c.args.self.now.rest.now (chars_rest c.next.new.self) c.in_ok-c.c c.requires.utf8 step in
    stays c.args.self.now c.in_ok-c.c (chars (chars_rest c.next.new.self)) c.args.place first (sym c.is_silent_after-is_left_out.ensures ∙ c.if-not-is_left_out.true) (sym c.is_earlier.ensures ∙ c.if-not-is_earlier.true))

pub range_from-requires : goal.range_from-requires
range_from-requires c = grind (arith, first_boundary, chars_rest)

pub returns-clause-past : goal.returns-clause-past
returns-clause-past c =
    let step = sym c.chars.ensures.rest ∙ c.in_ok-c.ensures.steps.0 in
    let next : Walk = record { rest = c.range_from.result; byte = c.args.self.now.byte + c.len_utf8-2.result; previous = c.in_ok-c.c; here = c.place_past.result } in
    let first = first_chars c.args.self.now.rest.now (chars_rest c.next.new.self) c.range_from.result.now c.in_ok-c.c c.requires.utf8 step
    (c.range_from.ensures.value ∙ ap (λ n. drop n c.args.self.now.rest.now) c.len_utf8.ensures.value) in
    goes c.args.self.now next c.in_ok-c.c first refl (ap (λ n. c.args.self.now.byte + n) c.len_utf8-2.ensures.value)
    (c.place_past.ensures ∙ ap (here_past c.args.self.now.here c.in_ok-c.c) c.is_silent_after-is_left_out.ensures) c.requires c.args.place
    (elim c.else-not-is_left_out.branch [
      | else-not-is_left_out-via-then-not-is_left_out+else-not-is_earlier w ↦ inr (sym w.is_earlier.ensures ∙ w.if-not-is_earlier.false)
      | else-not-is_left_out-via-else-not-is_left_out w ↦ inl (sym c.is_silent_after-is_left_out.ensures ∙ w.if-not-is_left_out.false)
    ])
