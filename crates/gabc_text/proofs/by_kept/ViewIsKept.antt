-- The view of a text is the view of its kept text.
use Rattle.std.proofs.Common.{◌≡◌, ℕ, List, [], ◌∷◌, length, refl, sym, ap, ◌∙◌, subst, append-nil}
use Rattle.std.specs.Prelude.{reverse}
use Rattle.gabc_text.specs.declared.text_facts.TextFacts.{TextFacts}
use Rattle.gabc_text.specs.Token.{Token, tokens}
use Rattle.gabc_text.specs.View.{along, kept, is_begin, is_end, centre_by, starts_word, begin_of, end_of}
use Rattle.gabc_text.specs.Events.{all_pieces_at}
use Rattle.gabc_text.specs.TextRead.{but_last_blank, translation_of, view_in}
use Rattle.gabc_text.proofs.machine.TokensOneAfterAnother.{onto}
use Rattle.gabc_text.proofs.printing.PrintedTextIsReadAgain.{reverse_push}
use Rattle.gabc_text.proofs.printing.KeptTextIsReadAgain.{kept_token}
use Rattle.gabc_text.specs.KeptText as by_kept
use Rattle.gabc_text.proofs.by_kept.ViewOfKept.{Alike, AreAlike, GoesOn, view_alike}
use Rattle.gabc_text.proofs.by_kept.CutTokens.{tokens_cut}
use Rattle.gabc_text.proofs.printing.TokensOfKeptText.{tokens_kept}

pub turned : (ks : List Token) → onto ks [] ≡ reverse ks
turned ks = sym (reverse_push ks []) ∙ append-nil (reverse ks)

begins : (ks : List Token) → (a : Alike [] []) → AreAlike [] [] ks → (b : List Token) → onto ks [] ≡ b → (c : List Token) → onto (along kept_token [] ks) [] ≡ c
    → by_kept.view_by (but_last_blank (by_kept.pieces_of (along kept_token [] ks))) c
    ≡ record { word_start = starts_word b; pieces = but_last_blank (along all_pieces_at [] ks); centre = centre_by (length (but_last_blank (along all_pieces_at [] ks))) (begin_of b) (end_of b); translation = translation_of b }
begins ks a r b e c f =
    let h = r.after in
    let p : but_last_blank (along all_pieces_at [] ks) ≡ but_last_blank (by_kept.pieces_of (along kept_token [] ks)) = ap but_last_blank r.pieces in
    let w : starts_word b ≡ starts_word c = ap starts_word (sym e) ∙ (ap (λ (g : TextFacts). g.starts) h.facts ∙ ap starts_word f) in
    let x : begin_of b ≡ by_kept.pieces_before is_begin c = ap begin_of (sym e) ∙ (h.begin ∙ ap (by_kept.pieces_before is_begin) f) in
    let y : end_of b ≡ by_kept.pieces_before is_end c = ap end_of (sym e) ∙ (h.end ∙ ap (by_kept.pieces_before is_end) f) in
    let z : translation_of b ≡ by_kept.translation_of c = ap translation_of (sym e) ∙ (h.translation ∙ ap by_kept.translation_of f) in
    rw (p, w, x, y, z) refl

first : Alike [] []
first = record { facts = refl; bytes = refl; count = refl; begin = refl; end = refl; translation = refl; blank = refl }

started : (ks : List Token) → GoesOn [] ks
started [] = tt
started (k ∷ ks) = λ e. absurd (cc)

pub view_is_kept : (t : List ℕ) → by_kept.view_of_kept (kept t) ≡ view_in t
view_is_kept t =
    let ks = tokens t in
    ap (λ (l : List Token). by_kept.view_by (but_last_blank (by_kept.pieces_of l)) (reverse l)) (tokens_kept t)
    ∙ begins (tokens t) first (view_alike (tokens t) [] [] first (tokens_cut t) (started (tokens t))) (reverse (tokens t)) (turned (tokens t)) (reverse (along kept_token [] (tokens t))) (turned (along kept_token [] (tokens t)))

-- the tokens of a text and of its kept text, the nearest first
pub tokens_alike : (t : List ℕ) → Alike (reverse (tokens t)) (reverse (tokens (kept t)))
tokens_alike t =
    subst (λ (b : List Token). Alike b (reverse (tokens (kept t)))) (turned (tokens t))
    (subst (Alike (onto (tokens t) [])) (turned (along kept_token [] (tokens t)) ∙ ap (λ (l : List Token). reverse l) (sym (tokens_kept t)))
    (view_alike (tokens t) [] [] first (tokens_cut t) (started (tokens t))).after)
