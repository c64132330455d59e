-- The kept texts that were gathered are texts of an input, if each character is one of it.
use Rattle.std.proofs.Common.{◌≡◌, ℕ, zero, suc, ◌+◌, ◌-◌, ◌≤◌, ◌<◌, nat_lt, Bool, true, false, List, [], ◌∷◌, take, drop, length, refl, sym, ap, subst, ◌∙◌, arith}
use Rattle.std.proofs.lemmas.Bool.Decides.{nat_tests}
use Rattle.std.specs.List.{All}
use Rattle.std.specs.Str.{IsUtf8, IsCharBoundary, chars}
use Rattle.std.proofs.lemmas.List.{take-append-drop, take_all, take_at}
use Rattle.std.proofs.lemmas.List.Elements.{All-nil, All-cons, All-head, All-tail, All-drop, All-push, All-take}
use Rattle.std.proofs.lemmas.Str.{IsUtf8-take, chars-append}
use Rattle.gabc_text.specs.declared.text_event.TextEnd.TheVariants as text_end
use Rattle.gabc_text.specs.declared.text_event.TextEvent.TheVariants as text
use Rattle.gabc_text.specs.declared.text_event.TextPart.TheVariants as part
use Rattle.gabc_notes.specs.declared.stage.NoteEnd.TheVariants as note_end
use Rattle.gabc_notes.specs.declared.stage.NoteEvent.TheVariants as note
use Rattle.gabc_body.specs.declared.events.BodyEvent.{BodyEvent}
use Rattle.gabc_body.specs.declared.events.BodyEvent.TheVariants as event
use Rattle.gabc_body.specs.Syllable.{is_seam, prefix_of}
use Rattle.gabc_places.specs.TextOfAnInput.{IsPlain, IsText, IsTextCharacter}
use Rattle.gabc_body.specs.witness.BodyBuilder.{with_all}
use Rattle.gabc_body.specs.witness.Gatherer.{Gathered, with_event, with_snippet}
use Rattle.gabc_score.specs.machine.PartOnly.{HasText, HoldsTexts, IsKeptOf, kept_codes}
use Rattle.gabc_score.specs.machine.ScoreStage.{with_held}
use Rattle.gabc_body.specs.witness.SyllableBuilder.{made_from}
use Rattle.std.proofs.lemmas.Bool.{cond_both}
use Rattle.gabc_body.proofs.units.CanonicalTextIsText.{nothing_plain, plain_more}

-- ---- bytes of a text

pub seam_boundary : (bytes : List ℕ) (n : ℕ) → n ≤ length bytes → is_seam (drop n bytes) ≡ true → IsCharBoundary bytes n
seam_boundary [] zero l h = (omega arith, λ x y. absurd (omega (arith, x)))
seam_boundary [] (suc n) l h = absurd (omega (arith, l))
seam_boundary (b ∷ bytes) zero l h = (omega arith, λ x y. grind (arith, nat_tests, h, y))
seam_boundary (b ∷ bytes) (suc n) l h = let k = seam_boundary bytes n (omega (arith, l)) h in (l, λ x y. k.1 (omega (arith, x)) y)

pub plain_take : (n : ℕ) (bytes : List ℕ) → is_seam (drop n bytes) ≡ true → IsText bytes → IsText (take n bytes)
plain_take n bytes seam h = by (nat_lt (length bytes) n) refl
  where
    by : (b : Bool) → nat_lt (length bytes) n ≡ b → IsText (take n bytes)
    by true e = subst IsText (sym (take_all n bytes (grind (arith, nat_tests, e)))) h
    by false e =
        let u : IsUtf8 (take n bytes) = IsUtf8-take bytes n h.utf8 (seam_boundary bytes n (grind (arith, nat_tests, e)) seam) in
        record {
          utf8 = u;
          plain = subst (All IsPlain) (take_at (chars (take n bytes)) (chars (drop n bytes)) _ refl)
              (All-take IsPlain (length (chars (take n bytes))) _ (subst (All IsPlain) (ap chars (sym (take-append-drop n bytes)) ∙ chars-append (take n bytes) (drop n bytes) u) h.plain));
        }

pub plain_prefix : (n : ℕ) (bytes : List ℕ) → IsText bytes → IsText (prefix_of n bytes)
plain_prefix n bytes h = cond_both (is_seam (drop n bytes)) (take n bytes) bytes IsText (λ e. plain_take n bytes e h) (λ e. h)

-- ---- what was gathered

ascii : (c : ℕ) → 32 ≤ c → c < 127 → IsTextCharacter c
ascii c l h = record { scalar = grind (arith, nat_tests, l, h); plain = (λ e. absurd (omega (arith, e, l)), λ e. absurd (omega (arith, e, h))) }

-- an event more
plain_one : (g : Gathered) (t : BodyEvent) (now : List BodyEvent) → All IsTextCharacter (kept_codes (t ∷ now)) → HoldsTexts g → HoldsTexts (with_event g t) × All IsTextCharacter (kept_codes now)
plain_one g (event.Text (text.Kept c)) now e h = ((plain_more g.builder.kept c.c (All-head IsTextCharacter c.c (kept_codes now) e) h.0, h.1), All-tail IsTextCharacter c.c (kept_codes now) e)
plain_one g (event.Text (text.Part part.WordStart)) now e h = (h, e)
plain_one g (event.Text (text.Ended text_end.Notes)) now e h = ((plain_more g.builder.kept 40 (ascii 40 (omega arith) (omega arith)) h.0, h.1), e)
plain_one g (event.Notes line (note.Kept c)) now e h = ((plain_more g.builder.kept c.c (All-head IsTextCharacter c.c (kept_codes now) e) h.0, h.1), All-tail IsTextCharacter c.c (kept_codes now) e)
plain_one g (event.Notes line (note.Ended note_end.Next n)) now e h =
    ((plain_more (prefix_of (g.builder.from + n) g.builder.kept) 124 (ascii 124 (omega arith) (omega arith)) (plain_prefix (g.builder.from + n) g.builder.kept h.0), h.1), e)
plain_one g (event.Notes line (note.Ended note_end.Close n)) now e h =
    let u = with_snippet g line n 41 in
    let kept : IsText u.builder.kept = plain_more (prefix_of (g.builder.from + n) g.builder.kept) 41 (ascii 41 (omega arith) (omega arith)) (plain_prefix (g.builder.from + n) g.builder.kept h.0) in
    ((nothing_plain, All-push HasText g.made (made_from u.builder u.eu u.nlba) h.1 kept), e)
plain_one g _ now e h = (h, e)

pub plain_all : (g : Gathered) (now : List BodyEvent) → All IsTextCharacter (kept_codes now) → HoldsTexts g → HoldsTexts (with_all g now)
plain_all g [] e h = h
plain_all g (t ∷ now) e h = let one = plain_one g t now e h in plain_all (with_event g t) now one.1 one.0

-- what is kept of a character of a text is one
pub of_character : (c : ℕ) (ds : List ℕ) → IsTextCharacter c → All (IsKeptOf c) ds → All IsTextCharacter ds
of_character c [] is h = All-nil IsTextCharacter
of_character c (d ∷ ds) is h = grind (arith, of_character c ds is (All-tail (IsKeptOf c) d ds h), All-cons, All-head, All-tail, ascii)

pub plain_held : (h : Gathered) → HoldsTexts h → HoldsTexts (with_held h)
plain_held h t = (t.0, All-drop HasText (length h.made - 1) h.made t.1)
