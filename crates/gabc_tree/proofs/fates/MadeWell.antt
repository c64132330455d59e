-- The kept texts of the syllables that are read are UTF-8, and not empty.
use Rattle.std.proofs.Common.{◌≡◌, ◌≤◌, ℕ, Bool, true, false, true≢false, cond, List, [], ◌∷◌, ◌++◌, length, length-append, encode_utf8_all, is_some, refl, sym, subst, arith, IsUtf8}
use Rattle.std.proofs.lemmas.Bool.{and_parts}
use lib.Utf8.{scalar, scalars}
use Rattle.gabc_places.specs.Place.{next_place, placed_characters_from}
use Rattle.gabc_places.specs.declared.limits.Limits.{Limits}
use Rattle.gabc_places.specs.declared.place.Char.{Char}
use Rattle.gabc_places.specs.declared.place.Place.{Place}
use Rattle.gabc_text.specs.KeptText.{view_of_kept}
use Rattle.gabc_body.specs.Body.{has_text}
use Rattle.gabc_body.specs.Reading.{BodyRead, whole_of, past, code_now, ended}
use Rattle.gabc_body.specs.Syllable.{UnplacedSyllable}
use Rattle.gabc_body.specs.declared.ending.InputEnding.{InputEnding}
use Rattle.gabc_tree.proofs.LongItems.{long_bytes}
use Rattle.gabc_tree.proofs.fates.Steps.{Step, comments, leaves, keeps, opens, splits, closes, step}
use Rattle.gabc_tree.proofs.fates.Coming.{is_whole, read_to_end, IsWell, stays_well, scalars_joined, ends_scalar, whole_scalar}

pub record IsMadeWell (m : UnplacedSyllable) : Type 0 where
  pub utf8 : IsUtf8 m.kept
  pub some : 1 ≤ length m.kept

abbrev pub AreMadeWell : List UnplacedSyllable → Type 0
AreMadeWell [] = Unit {0}
AreMadeWell (m ∷ ms) = IsMadeWell m × AreMadeWell ms

both_well : (ms ns : List UnplacedSyllable) → AreMadeWell ms → AreMadeWell ns → AreMadeWell (ms ++ ns)
both_well [] ns h i = i
both_well (m ∷ ms) ns h i = (h.0, both_well ms ns h.1 i)

-- of characters that are scalar values, and are some
of_text : (m : UnplacedSyllable) (t : List ℕ) → m.kept ≡ encode_utf8_all t → scalars t ≡ true → 1 ≤ length t → IsMadeWell m
of_text m t e s some = record { utf8 = (t, (s, sym e)); some = subst (λ (bytes : List ℕ). 1 ≤ length bytes) (sym e) (long_bytes t some) }

made_well : (lines : ℕ) (b : BodyRead) (x : Char) (next : BodyRead) → Step lines b x next → scalar x.c ≡ true → IsWell b.reading → AreMadeWell b.made → AreMadeWell next.made
made_well lines b x next (comments e s) h w m = subst AreMadeWell (sym s.made_is) m
made_well lines b x next (leaves code n e s) h w m = subst AreMadeWell (sym s.made_is) m
made_well lines b x next (keeps n e s) h w m = subst AreMadeWell (sym s.made_is) m
made_well lines b x next (opens n e p s) h w m = subst AreMadeWell (sym s.made_is) m
made_well lines b x next (splits line n e p q s) h w m = subst AreMadeWell (sym s.made_is) m
made_well lines b x next (closes line n e p q s) h w m =
    let whole = whole_of line b.reading.kept in
    let one = length-append b.reading.before (whole ++ x.c ∷ []) in
    let two = length-append whole (x.c ∷ []) in
    subst AreMadeWell (sym s.made_is)
    (both_well b.made (s.syllable ∷ []) m
    (of_text s.syllable (b.reading.before ++ (whole ++ x.c ∷ [])) s.all_is (ends_scalar b.reading.before whole x.c w.before_scalar (whole_scalar line b.reading.kept w.kept_scalar) h) (omega (arith, one, two)), tt))

some_text : (kept : List ℕ) → has_text (view_of_kept kept) ≡ true → 1 ≤ length kept
some_text [] h = absurd (true≢false (sym h))
some_text (c ∷ kept) h = omega arith

end_well : (here : Place) (b : BodyRead) → IsWell b.reading → AreMadeWell b.made → AreMadeWell (ended here b).made
end_well here b w m = by (has_text (view_of_kept b.reading.kept)) refl
  where
    by : (o : Bool) → has_text (view_of_kept b.reading.kept) ≡ o → AreMadeWell (ended here b).made
    by true e =
        let some = some_text b.reading.kept e in
        let long = length-append b.reading.before b.reading.kept in
        rw e (both_well b.made (_ ∷ []) m (of_text _ (b.reading.before ++ b.reading.kept) refl (scalars_joined b.reading.before b.reading.kept w.before_scalar w.kept_scalar) (omega (arith, some, long)), tt))
    by false e = rw e m

module _ (limits : Limits) (head lines macros : ℕ) (here : Place) (ending : InputEnding) where
  pub all_made_well : (t : List ℕ) (p : Place) (b : BodyRead) → IsWell b.reading → AreMadeWell b.made → scalars t ≡ true
      → AreMadeWell (read_to_end limits head lines macros here ending b (placed_characters_from p t)).made
  all_made_well [] p b w m s = by (is_whole limits head here ending b)
    where
      by : (o : Bool) → AreMadeWell (cond o (ended here b) b).made
      by true = end_well here b w m
      by false = m
  all_made_well (c ∷ t) p b w m s =
      let x : Char = record { c = c; place = p } in
      let next = past lines macros b x in
      let both = and_parts (scalar c) (scalars t) s in
      by_stop b m x (placed_characters_from (next_place p c) t) (is_some (code_now limits head next))
      (all_made_well t (next_place p c) next (stays_well lines b x next (step lines macros b x) both.0 w) (made_well lines b x next (step lines macros b x) both.0 w m) both.1)
    where
      by_stop : (b : BodyRead) → AreMadeWell b.made → (x : Char) (xs : List Char) (o : Bool) → AreMadeWell (read_to_end limits head lines macros here ending (past lines macros b x) xs).made
          → AreMadeWell (cond o b (read_to_end limits head lines macros here ending (past lines macros b x) xs)).made
      by_stop b m x xs true h = m
      by_stop b m x xs false h = h
