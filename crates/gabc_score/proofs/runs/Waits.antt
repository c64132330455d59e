-- Syllables that wait before one that was found, and the text that they stand in.
use Rattle.std.proofs.Common.{◌≡◌, ℕ, ◌+◌, ◌-◌, ◌<◌, nat_lt, true, false, List, [], ◌++◌, length, drop, refl, sym, ap, subst, ◌∙◌, arith, append_assoc, length-append}
use Rattle.std.proofs.lemmas.List.{drop-append-le}
use Rattle.std.proofs.Math.Seq.{drop-append_seam}
use Rattle.std.proofs.lemmas.Bool.Decides.{nat_tests}
use Rattle.std.proofs.lemmas.Str.{IsUtf8-append, IsUtf8-drop}
use Rattle.std.specs.Str.{IsUtf8}
use Rattle.gabc_score.specs.declared.run.Found.{Found}
use Rattle.gabc_score.specs.declared.run.Reached.{Reached}
use Rattle.gabc_score.specs.declared.waiting.Waiting.{Waiting}
use Rattle.gabc_score.specs.machine.RegularLen.{BeginsRegularly}
use Rattle.gabc_score.specs.machine.Run.{AreBefore, HasFront, len_of, unread}
use Rattle.gabc_score.proofs.regular_syllables.BytesOfRegularSyllables.{split_boundary}
use Rattle.gabc_score.proofs.runs.FoundSyllable.{utf8_is}

module _ (f : Found) (lines : ℕ) (b : BeginsRegularly lines (f.spelled.now ++ f.rest.now) (len_of f)) where
  pub unread_is : drop f.gap (f.spelled.now ++ f.rest.now) ≡ unread f
  unread_is = drop-append-le f.gap f.spelled.now f.rest.now (let some = b.some in omega (arith, some))

  pub rest_utf8 : IsUtf8 (f.spelled.now ++ f.rest.now) → IsUtf8 f.rest.now
  rest_utf8 u = subst IsUtf8 (drop-append_seam f.spelled.now f.rest.now) (IsUtf8-drop (f.spelled.now ++ f.rest.now) (length f.spelled.now) u (split_boundary (f.spelled.now ++ f.rest.now) (length f.spelled.now) u b.cut))

-- none waits
pub none_before : (w : Waiting) (r : Reached) (lines : ℕ) → BeginsRegularly lines (r.last.spelled.now ++ r.last.rest.now) (len_of r.last) → w.earlier ≡ r.count → w.starts ≡ nat_lt 0 r.last.gap
    → w.text.now ≡ drop r.last.gap (r.last.spelled.now ++ r.last.rest.now) → AreBefore w r []
none_before w r lines b earlier starts text = record {
  earlier = omega (arith, earlier);
  text = text ∙ unread_is r.last lines b;
  some = λ less. absurd (omega (arith, less, earlier));
  none = λ e. (refl, starts);
}

module _ (w : Waiting) (r : Reached) (front : List ℕ) (before : AreBefore w r front) where
  abbrev pub front_then : List ℕ
  front_then = front ++ drop r.last.gap r.last.spelled.now

  pub text_then : w.text.now ≡ front_then ++ r.last.rest.now
  text_then = before.text ∙ sym (append_assoc front (drop r.last.gap r.last.spelled.now) r.last.rest.now)

  -- what waits, with the syllable that was found
  pub then_front : IsUtf8 r.last.rest.now → HasFront w.text.now front_then (length r.last.rest.now)
  then_front u = record { back = r.last.rest.now; utf8 = u; is = text_then; left_is = refl }

  -- what waits alone
  pub some_front : (lines : ℕ) → BeginsRegularly lines (r.last.spelled.now ++ r.last.rest.now) (len_of r.last) → IsUtf8 r.last.rest.now → nat_lt w.earlier r.count ≡ true
      → HasFront w.text.now front (length r.last.spelled.now + length r.last.rest.now)
  some_front lines b u less = record {
    back = r.last.spelled.now ++ r.last.rest.now;
    utf8 = IsUtf8-append r.last.spelled.now r.last.rest.now (utf8_is r.last lines b) u;
    is = before.text ∙ ap (λ n. front ++ (drop n r.last.spelled.now ++ r.last.rest.now)) (before.some (grind (arith, nat_tests, less))).0;
    left_is = length-append r.last.spelled.now r.last.rest.now;
  }

  -- the syllable that was found waits too
  module _ (then : Reached) (count : then.count ≡ r.count + 1) (rest : r.last.rest.now ≡ then.last.spelled.now ++ then.last.rest.now) (no_gap : nat_lt 0 then.last.gap ≡ false)
      (fits : nat_lt (length w.text.now - length then.last.rest.now) w.most ≡ true) where
    pub gap_is : then.last.gap ≡ 0
    gap_is = grind (arith, nat_tests, no_gap)

    text_is : w.text.now ≡ front_then ++ (then.last.spelled.now ++ then.last.rest.now)
    text_is = text_then ∙ ap (λ (l : List ℕ). front_then ++ l) rest

    few : length front_then + length then.last.spelled.now < w.most
    few = grind (arith, text_is, length-append)

    pub then_before : AreBefore w then front_then
    then_before = grind (arith, text_is, gap_is, few)

  -- if what waits with it has no room, none waits
  pub none_where_full : nat_lt (length w.text.now - length r.last.rest.now) w.most ≡ false → w.earlier ≡ r.count
  none_where_full full = grind (arith, text_then, length-append)
