-- A run of pieces with the same styles, whose spans join: its text is one part of the kept bytes.
use Rattle.std.proofs.Common.{◌≡◌, ℕ, ◌-◌, ◌+◌, ◌<◌, ◌≤◌, zero, suc, List, [], ◌∷◌, ◌++◌, length, drop, get_or, refl, sym, ap, ◌∙◌, arith, add-one, drop-cons, append_assoc, slice_range, Option}
use Rattle.std.proofs.Math.Seq.{take-add}
use Rattle.std.proofs.lemmas.Grind.{common_steps}
use Rattle.gabc_places.specs.declared.place.Span.{Span}
use Rattle.gabc_text.specs.declared.styles.Style.{Style}
use Rattle.gabc_text.specs.declared.styles.Styles.{Styles}
use Rattle.gabc_text.specs.declared.view.Piece.{Piece}
use Rattle.gabc_text.specs.declared.view.TextView.{TextView}
use Rattle.gabc_text.specs.declared.canonical.Run.{Run}
use Rattle.gabc_text.specs.TextView.{content_of}
use Rattle.gabc_text.specs.machine.Runs.{text_after}
use Rattle.gabc_text.specs.Canonical.{span_bytes, boundary, braces, piece_text, text_from, listed_styles, canonical_text}
use Rattle.gabc_text.proofs.printing.ChangedStylesCloseFromTheFirst.{boundary_of_same}

-- a span that lies in the kept text stands for the bytes there
bytes_within : (kept : List ℕ) (s : Span) → s.from ≤ s.to → s.to ≤ length kept → span_bytes kept s ≡ slice_range kept s.from s.to
bytes_within kept s h k = grind (arith, common_steps)

-- a span that ends where it begins stands for nothing
no_bytes : (kept : List ℕ) (s : Span) → s.from ≡ s.to → span_bytes kept s ≡ []
no_bytes kept s h = grind (arith, common_steps)

-- what lies between a and c lies up to b or after it
slices_join : (xs : List ℕ) (a b c : ℕ) → a ≤ b → b ≤ c → slice_range xs a b ++ slice_range xs b c ≡ slice_range xs a c
slices_join xs zero b c h k =
    let first : b - 0 ≡ b = omega arith in
    let both : c - 0 ≡ b + (c - b) = omega arith in
    rw (first, both) (sym (take-add b (c - b) xs))
slices_join [] (suc a) b c h k = grind (arith, common_steps)
slices_join (x ∷ xs) (suc a) zero c h k = absurd (omega arith)
slices_join (x ∷ xs) (suc a) (suc b) zero h k = absurd (omega arith)
slices_join (x ∷ xs) (suc a) (suc b) (suc c) h k = grind (arith, slices_join xs a b c (omega arith) (omega arith))

-- a span that goes on where another ends
spans_join : (kept : List ℕ) (s t u : Span) → s.from ≤ s.to → s.to ≡ t.from → t.from ≤ t.to → t.to ≤ length kept
    → u.from ≡ s.from → u.to ≡ t.to → span_bytes kept s ++ span_bytes kept t ≡ span_bytes kept u
spans_join kept s t u o m p w f g = grind (arith, bytes_within, slices_join)

-- a piece that goes on where a run ends, after the same styles and no brace, with nothing but its kept bytes
run_goes_on : (kept : List ℕ) (run longer : Span) (old : Styles) (p : Piece) (middle rest : List ℕ)
    → run.from ≤ run.to → run.to ≡ p.span.from → p.span.from ≤ p.span.to → p.span.to ≤ length kept
    → longer.from ≡ run.from → longer.to ≡ p.span.to → old ≡ p.styles → middle ≡ [] → piece_text kept p ≡ span_bytes kept p.span
    → span_bytes kept run ++ (boundary (listed_styles old) (listed_styles p.styles) middle ++ (piece_text kept p ++ rest)) ≡ span_bytes kept longer ++ rest
run_goes_on kept run longer old p middle rest o m b w f g s n t =
    let none : boundary (listed_styles old) (listed_styles p.styles) middle ≡ [] = rw s (boundary_of_same (listed_styles p.styles) middle ∙ n) in
    rw (none, t) (sym (append_assoc (span_bytes kept run) (span_bytes kept p.span) rest) ∙ ap (λ (x : List ℕ). x ++ rest) (spans_join kept run p.span longer o m b w f g))

-- the text of the pieces from one on
pub text_from_next : (centre : Option Span) (kept : List ℕ) (i : ℕ) (old : List Style) (ps qs : List Piece) (d : Piece) → ps ≡ qs → i < length ps
    → text_from centre kept i old (drop i qs)
    ≡ boundary old (listed_styles (get_or ps i d).styles) (braces centre i)
    ++ (piece_text kept (get_or ps i d) ++ text_from centre kept (i + 1) (listed_styles (get_or ps i d).styles) (drop (i + 1) qs))
text_from_next centre kept i old ps qs d same h =
    let e : drop i ps ≡ get_or ps i d ∷ drop (i + 1) ps = rw add-one (drop-cons ps i d h) in
    rw (← same) (ap (text_from centre kept i old) e)

-- a step over the next piece, where the run goes on with it
pub next_goes_on : (centre : Option Span) (kept : List ℕ) (i : ℕ) (ps : List Piece) (d : Piece) (run longer : Span) (old new : Styles) → i < length ps
    → run.from ≤ run.to → run.to ≡ (get_or ps i d).span.from → (get_or ps i d).span.from ≤ (get_or ps i d).span.to
    → (get_or ps i d).span.to ≤ length kept → longer ≡ record { from = run.from; to = (get_or ps i d).span.to }
    → old ≡ (get_or ps i d).styles → new ≡ old → braces centre i ≡ [] → piece_text kept (get_or ps i d) ≡ span_bytes kept (get_or ps i d).span
    → span_bytes kept longer ++ text_from centre kept (i + 1) (listed_styles new) (drop (i + 1) ps)
    ≡ span_bytes kept run ++ text_from centre kept i (listed_styles old) (drop i ps)
next_goes_on centre kept i ps d run longer old new h o m b w l s n none t =
    let rest = text_from centre kept (i + 1) (listed_styles (get_or ps i d).styles) (drop (i + 1) ps) in
    let one = run_goes_on kept run longer old (get_or ps i d) (braces centre i) rest o m b w (ap (λ (x : Span). x.from) l) (ap (λ (x : Span). x.to) l) s none t in
    rw (n, s, text_from_next centre kept i (listed_styles (get_or ps i d).styles) ps ps d refl h) (sym (rw s at one))

-- what takes a boundary and the head of a piece, and then the bytes that the head leaves
pub taken_in_turn : {D : Type 0} (taken : D → List ℕ → D) (both : (s : D) (a b : List ℕ) → taken (taken s a) b ≡ taken s (a ++ b))
    (out after_boundary after_head : D) (middle text left rest : List ℕ)
    → after_boundary ≡ taken out middle → taken after_head left ≡ taken after_boundary text
    → taken after_head (left ++ rest) ≡ taken out (middle ++ (text ++ rest))
taken_in_turn taken both out o1 o2 middle text left rest e1 e2 = grind arith

-- before the first piece
pub first_after : (v : TextView) (kept : List ℕ) (old : Styles) (r : Run) → r.span.from ≡ r.span.to → r.next ≡ 0 → listed_styles old ≡ []
    → text_after v kept old r ≡ canonical_text (content_of v) kept
first_after v kept old r e n none = rw (no_bytes kept r.span e, n, none) refl
