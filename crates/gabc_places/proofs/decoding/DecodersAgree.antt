-- Of the character before, a decoder needs to know no more than whether it is a CR directly before the next byte.
use Rattle.std.proofs.Common.{◌≡◌, ℕ, not, ◌&&◌, ◌||◌, ◌==◌, ◌+◌, ◌-◌, Bool, true, false, List, [], ◌∷◌, ◌++◌, length, take, refl, ap, sym, ◌∙◌, arith, length-append, Result, if◌then◌else◌}
use Rattle.std.proofs.lemmas.Bool.{eqb-true}
use Rattle.std.proofs.Math.Seq.{take-append_seam}
use Rattle.std.specs.Char.{len_utf8}
use Rattle.std.proofs.lemmas.Str.{length-encode}
use Rattle.std.proofs.Math.Bool.{and-false}
use Rattle.std.specs.Str.Lossy.{utf8_valid_len}
use lib.Utf8.{encode}
use Rattle.gabc_places.specs.declared.code.Code.TheVariants.{F1, F7}
use Rattle.gabc_places.specs.declared.code.Fault.{Fault}
use Rattle.gabc_places.specs.declared.decoded.Tail.{Tail}
use Rattle.gabc_places.specs.declared.decoded.Tail.TheVariants.{Nothing, Part, Wrong}
use Rattle.gabc_places.specs.declared.place.Char.{Char}
use Rattle.gabc_places.specs.declared.place.Place.{Place}
use Rattle.gabc_places.specs.Text.{utf8_prefix_of, tail_of, is_left_out, is_shown}
use Rattle.gabc_places.specs.DecoderMachine.{DecoderState, IsPartial}
use Rattle.gabc_places.specs.witness.DecoderEvents.{DecoderStep, stop_with, take_character, take_pending, take_end, events_left}
use Rattle.gabc_places.specs.DecoderReports.{ReportTheSame}
use Rattle.gabc_places.proofs.utf8.PartOfACharacter.{nothing_is_partial, part_is, character_is}

-- another character before is a CR as well, where that matters: directly before the next byte
abbrev pub AreBothCr : DecoderState → ℕ → Type 0
AreBothCr s q = s.ended ≡ false → s.pending ≡ [] → (s.previous == 13) ≡ (q == 13)

no : {A : Type 0} → true ≡ false → A
no e = absurd (cc)

not_none : {A : Type 0} (bs : List ℕ) (x : ℕ) → bs ++ x ∷ [] ≡ [] → A
not_none [] x e = absurd (cc)
not_none (b ∷ bs) x e = absurd (cc)

all_but_last : (bs : List ℕ) (x : ℕ) → take (length (bs ++ x ∷ []) - 1) (bs ++ x ∷ []) ≡ bs
all_but_last bs x = ap (λ (n : ℕ). take n (bs ++ x ∷ [])) (count bs x) ∙ take-append_seam bs (x ∷ [])
  where
    count : (bs : List ℕ) (x : ℕ) → length (bs ++ x ∷ []) - 1 ≡ length bs
    count bs x = omega (arith, length-append bs (x ∷ []))

-- a character of several bytes is no LF
no_feed : (b : ℕ) (bs : List ℕ) (x c : ℕ) (cs : List ℕ) → IsPartial (b ∷ bs) → utf8_prefix_of ((b ∷ bs) ++ x ∷ []) ≡ c ∷ cs → (c == 10) ≡ false
no_feed b bs x c cs partial e = by (c == 10) refl
  where
    spelled : (b ∷ bs) ++ x ∷ [] ≡ encode c
    spelled = (character_is ((b ∷ bs) ++ x ∷ []) (ap utf8_valid_len (all_but_last (b ∷ bs) x) ∙ partial.none) c cs e).0

    by : (t : Bool) → (c == 10) ≡ t → t ≡ false
    by true f = absurd (omega (arith, ap length spelled, length-append bs (x ∷ []), length-encode c, ap len_utf8 (eqb-true c 10 f)))
    by false f = refl

left_same : (s : DecoderState) (q x c : ℕ) (cs : List ℕ) → IsPartial s.pending → s.ended ≡ false → AreBothCr s q → utf8_prefix_of (s.pending ++ x ∷ []) ≡ c ∷ cs → is_left_out (s.previous, c) ≡ is_left_out (q, c)
left_same s q x c cs partial on same e = by s.pending partial (same on) e
  where
    by : (bs : List ℕ) → IsPartial bs → (bs ≡ [] → (s.previous == 13) ≡ (q == 13)) → utf8_prefix_of (bs ++ x ∷ []) ≡ c ∷ cs → is_left_out (s.previous, c) ≡ is_left_out (q, c)
    by [] p h f = ap (λ (t : Bool). (t && (c == 10)) || not (is_shown c)) (h refl)
    by (b ∷ bs) p h f =
        ap (λ (t : Bool). ((s.previous == 13) && t) || not (is_shown c)) (no_feed b bs x c cs p f)
        ∙ ap (λ (t : Bool). t || not (is_shown c)) (and-false (s.previous == 13) ∙ sym (and-false (q == 13)))
        ∙ sym (ap (λ (t : Bool). ((q == 13) && t) || not (is_shown c)) (no_feed b bs x c cs p f))

-- ---- what is emitted

abbrev with_previous : DecoderState → ℕ → DecoderState
with_previous s q = record s { previous = q }

abbrev taken : DecoderState → DecoderState
taken s = record s { taken = s.taken + 1; pending = [] }

abbrev lists_of : DecoderStep → List ℕ → List (List (Result Char Fault))
lists_of step xs = step.events ∷ events_left step.state xs

-- a character that is whole
character_same : (t : DecoderState) (q c : ℕ) → is_left_out (t.previous, c) ≡ is_left_out (q, c) → take_character c t ≡ take_character c (with_previous t q)
character_same t q c e = grind arith

end_same : (s : DecoderState) (q : ℕ) → (take_end s).events ≡ (take_end (with_previous s q)).events
end_same s q = grind arith

-- Decoders agree that differ in the character before alone, where that does not matter.
pub agree : (xs : List ℕ) (s : DecoderState) (q : ℕ) → IsPartial s.pending → AreBothCr s q → events_left s xs ≡ events_left (with_previous s q) xs
agree [] s q partial same = ap (λ (events : List (Result Char Fault)). events ∷ []) (end_same s q)
agree (x ∷ xs) s q partial same = by (agree xs) s.ended refl (s.taken == s.limit) (left_same s q x) same
  where
    pending_same : ((t : DecoderState) (p : ℕ) → IsPartial t.pending → AreBothCr t p → events_left t xs ≡ events_left (with_previous t p) xs)
        → (cs : List ℕ) (tail : Tail) → utf8_prefix_of (s.pending ++ x ∷ []) ≡ cs → tail_of (s.pending ++ x ∷ []) ≡ tail
        → ((c : ℕ) (ds : List ℕ) → utf8_prefix_of (s.pending ++ x ∷ []) ≡ c ∷ ds → is_left_out (s.previous, c) ≡ is_left_out (q, c))
        → lists_of (take_pending (s.pending ++ x ∷ []) cs tail (taken s)) xs ≡ lists_of (take_pending (s.pending ++ x ∷ []) cs tail (with_previous (taken s) q)) xs
    pending_same again (c ∷ cs) tail e f left = ap (λ (step : DecoderStep). lists_of step xs) (character_same (taken s) q c (left c cs e))
    pending_same again [] Wrong e f left = ap (λ (lists : List (List (Result Char Fault))). (stop_with F1 (taken s)).events ∷ lists) (again (stop_with F1 (taken s)).state q nothing_is_partial (λ o. no o))
    pending_same again [] Part e f left = ap (λ (lists : List (List (Result Char Fault))). [] ∷ lists) (again (record (taken s) { pending = s.pending ++ x ∷ [] }) q (part_is (s.pending ++ x ∷ []) Part e f (λ w. absurd (cc))) (λ o n. not_none s.pending x n))
    pending_same again [] Nothing e f left = ap (λ (lists : List (List (Result Char Fault))). [] ∷ lists) (again (record (taken s) { pending = s.pending ++ x ∷ [] }) q (part_is (s.pending ++ x ∷ []) Nothing e f (λ w. absurd (cc))) (λ o n. not_none s.pending x n))

    by : ((t : DecoderState) (p : ℕ) → IsPartial t.pending → AreBothCr t p → events_left t xs ≡ events_left (with_previous t p) xs)
        → (b : Bool) → s.ended ≡ b → (d : Bool)
        → ((c : ℕ) (ds : List ℕ) → IsPartial s.pending → s.ended ≡ false → AreBothCr s q → utf8_prefix_of (s.pending ++ x ∷ []) ≡ c ∷ ds → is_left_out (s.previous, c) ≡ is_left_out (q, c))
        → AreBothCr s q
        → lists_of (if b then record { events = []; state = s } else (if d then stop_with F7 s else take_pending (s.pending ++ x ∷ []) (utf8_prefix_of (s.pending ++ x ∷ [])) (tail_of (s.pending ++ x ∷ [])) (taken s))) xs
        ≡ lists_of (if b then record { events = []; state = with_previous s q } else (if d then stop_with F7 (with_previous s q) else take_pending (s.pending ++ x ∷ []) (utf8_prefix_of (s.pending ++ x ∷ [])) (tail_of (s.pending ++ x ∷ [])) (with_previous (taken s) q))) xs
    by again true o d left h = ap (λ (lists : List (List (Result Char Fault))). [] ∷ lists) (again s q partial h)
    by again false o true left h = ap (λ (lists : List (List (Result Char Fault))). (stop_with F7 s).events ∷ lists) (again (stop_with F7 s).state q partial (λ o. no o))
    by again false o false left h = pending_same again (utf8_prefix_of (s.pending ++ x ∷ [])) (tail_of (s.pending ++ x ∷ [])) refl refl (λ c ds e. left c ds partial o h e)

abbrev decoder_at : ℕ → ℕ → Place → List ℕ → ℕ → Bool → DecoderState
decoder_at l n p bs c r = record { limit = l; taken = n; place = p; pending = bs; previous = c; ended = r }

alike_by : (l n : ℕ) (p : Place) (bs : List ℕ) (r : Bool) (m k : ℕ) (q : Place) (cs : List ℕ) (u : Bool) (c : ℕ) → l ≡ m → n ≡ k → p ≡ q → bs ≡ cs → r ≡ u
    → decoder_at l n p bs c r ≡ decoder_at m k q cs c u
alike_by l n p bs r m k q cs u c e f g h i = cc

-- two that run and report the same differ in that character alone
pub same_told : (s t : DecoderState) → s.ended ≡ false → t.ended ≡ false → s.limit ≡ t.limit → IsPartial s.pending → ReportTheSame s t
    → (xs : List ℕ) → events_left s xs ≡ events_left t xs
same_told s t on too limit partial told xs = grind (arith, agree, alike_by)
