use Rattle.std.proofs.Common.{◌≡◌, ℕ, ◌-◌, ◌^◌, List, [], ◌∷◌, ◌++◌, length, true, IsUtf8, refl, sym, ap, subst, ◌∙◌, append_assoc, append-nil, arith}
use Rattle.std.proofs.lemmas.Bool.{and_parts}
use Rattle.std.specs.Char.{IsScalar}
use Rattle.std.specs.Str.{chars}
use Rattle.std.specs.Str.Iter.{chars_rest}
use Rattle.std.proofs.lemmas.Str.{chars_past_char, scalars-chars, IsUtf8-past_char}
use lib.Utf8.{scalars}
use Rattle.gabc_places.proofs.texts.CharactersOfStrings.{chars-none}
use Rattle.gabc_places.proofs.PlacesOfAText.{within_on, shorter}
use Rattle.gregorio.proofs.PushingRestoresPendingHeaders.{none_pushed, pushed_on}
use Rattle.gregorio.proofs.held_headers.push_text.Goals as goal

pub loop-c-init : goal.loop-c-init
loop-c-init c =
    let rest : chars_rest c.into_iter-c-iterator.result ≡ c.args.text.now = ap chars_rest c.into_iter-c-iterator.ensures.into_iter_gives ∙ c.chars-c-items.ensures.rest in
    let size = ap (λ (bytes : List ℕ). length bytes) rest in
    record {
      can = tt;
      ends = tt;
      utf8 = subst IsUtf8 (sym rest) c.utf8.text;
      room = refl;
      front = [];
      all = ap chars rest;
      place = refl;
      pushed = none_pushed c.args.heads.now.limits c.args.heads.now.hasher c.args.heads.now c.a_held_text_grows.ensures.begins c.requires.fresh;
      line = omega (arith, size);
      column = omega (arith, size);
    }

pub loop-c-preserved : goal.loop-c-preserved
loop-c-preserved c =
    let i = c.loop-c.invariant in
    let step = c.in-Some.ensures.steps.0 in
    let rest = chars_rest c.loop-c.c-iterator in
    let next = chars_rest c.next.new.self in
    let past = chars_past_char rest next c.in-Some.c i.utf8 step in
    let here = c.loop-c.given.place in
    let scalar : IsScalar c.in-Some.c = (and_parts _ _ (subst (λ (cs : List ℕ). scalars cs ≡ true) past (scalars-chars rest i.utf8))).0 in
    let fits = within_on here (length rest) (length next) (2 ^ 64 - 1) (2 ^ 64 - 1) (shorter rest next c.in-Some.c step) (omega (arith, i.line)) (omega (arith, i.column)) c.in-Some.c c.after.result c.after.ensures.next in
    record {
      can = tt;
      ends = tt;
      utf8 = IsUtf8-past_char rest next c.in-Some.c i.utf8 step;
      room = c.push_character-found.ensures.room ∙ i.room;
      front = i.front ++ c.in-Some.c ∷ [];
      all = append_assoc i.front (c.in-Some.c ∷ []) (chars next) ∙ (ap (λ (cs : List ℕ). i.front ++ cs) (sym past) ∙ i.all);
      place = c.after.ensures.follows i.front i.place;
      pushed = pushed_on c.a_held_text_grows.ensures.found c.args.heads.now.limits c.args.heads.now.hasher i.front (record { c = c.in-Some.c; place = here }) c.loop-c.heads c.push_character-found.new.heads
          c.loop-c.given.has_error c.push_character-found.result scalar i.pushed c.push_character-found.ensures.state c.push_character-found.ensures.error;
      line = omega (arith, fits.0);
      column = omega (arith, fits.1);
    }

pub returns-clause-place : goal.returns-clause-place
returns-clause-place c = grind (arith, chars-none, chars_rest, append-nil)

pub returns-clause-pushed : goal.returns-clause-pushed
returns-clause-pushed c = grind (arith, chars-none, chars_rest, append-nil)
