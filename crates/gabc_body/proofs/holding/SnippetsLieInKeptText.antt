-- The snippets of notes, each held in its place.
use Rattle.std.proofs.Common.{◌≡◌, ℕ, suc, ◌+◌, ◌<◌, ◌%◌, nat_lt, Bool, true, false, if◌then◌else◌, List, [], ◌∷◌, ◌++◌, length, refl, sym, ap, subst, ◌∙◌, arith, append_assoc, append-nil, codes}
use Rattle.std.specs.List.{flat_map}
use Rattle.std.specs.Char.{len_utf8}
use Rattle.std.proofs.lemmas.Bool.{ltb-true, ltb-false}
use Rattle.std.proofs.Math.Nat.{suc-mod, mod-lt, mod-eq_of_lt, mod_self}
use Rattle.std.proofs.Math.Numerals.{add-one}
use Rattle.std.proofs.lemmas.Str.{encodes-append}
use Rattle.std.proofs.lemmas.List.{take_at, drop_at}
use Rattle.std.proofs.lemmas.Grind.{flat_map-append}
use Rattle.gabc_body.specs.Syllable.{slice}
use lib.Utf8.{encodes}
use Rattle.gabc_places.specs.declared.place.Span.{Span}
use Rattle.gabc_text.specs.View.{bytes_of}
use Rattle.gabc_text.specs.ViewFacts.{StandsFor}
use Rattle.gabc_body.specs.Events.{next_line}
use Rattle.gabc_body.specs.Holding.{ReadSnippet, IsSnippetOf, kept_on_line, bracket_with, in_brackets, IsHeld}
use Rattle.gabc_body.proofs.texts_of_body.SeamsOfCharacters.{size, size_append, size_of_one}

pub bytes_are_size : (t : List ℕ) → bytes_of t ≡ size t
bytes_are_size [] = refl
bytes_are_size (c ∷ t) = ap (λ n. len_utf8 c + n) (bytes_are_size t) ∙ ap (λ n. n + size t) (sym (size_of_one c)) ∙ sym (size_append (c ∷ []) t)

-- ---- whose turn it is

pub turn_by : (lines r : ℕ) (b : Bool) → nat_lt r lines ≡ b → r < lines + 1 → (if b then r + 1 else 0) ≡ suc r % (lines + 1)
turn_by lines r true h low = grind (arith, ltb-true, add-one, mod-eq_of_lt)
turn_by lines r false h low =
    let same : suc r ≡ lines + 1 = omega (arith, ltb-false r lines h) in
    sym (ap (λ n. n % (lines + 1)) same ∙ mod_self (lines + 1))

pub next_turn : (lines n : ℕ) → next_line lines (n % (lines + 1)) ≡ suc n % (lines + 1)
next_turn lines n = grind (arith, turn_by, mod-lt, suc-mod)

-- ---- in their places

-- a text with its notes
abbrev pub whole_of : List ℕ → List ReadSnippet → ReadSnippet → List ℕ
whole_of text earlier last = text ++ in_brackets (λ s. s.kept) earlier last

abbrev pub span_after : List ℕ → List ℕ → Span
span_after prefix part = record { from = size prefix; to = size (prefix ++ part) }

-- notes with one snippet more
pub bracket_more : (part : ReadSnippet → List ℕ) (reads : List ReadSnippet) (new : ReadSnippet) → bracket_with part reads ++ (part new ++ codes "|") ≡ bracket_with part (reads ++ new ∷ [])
bracket_more part reads new =
    ap (λ (t : List ℕ). codes "(" ++ t)
    (ap (λ (t : List ℕ). flat_map (λ (s : ReadSnippet). part s ++ codes "|") reads ++ t) (sym (append-nil (part new ++ codes "|")))
    ∙ sym (flat_map-append (λ (s : ReadSnippet). part s ++ codes "|") reads (new ∷ [])))

-- a snippet in its place, whatever follows
pub record Placed (lines : ℕ) (text : List ℕ) (before : List ReadSnippet) (s : ReadSnippet) : Type 0 where
  pub line_is : s.snippet.line ≡ length before % (lines + 1)
  pub kept_is : s.kept ≡ kept_on_line s.snippet.line s.characters
  pub is_snippet : IsSnippetOf s.snippet.line s.kept
  pub span_is : s.snippet.span ≡ span_after (text ++ bracket_with (λ b. b.kept) before) s.kept

-- what stands after those before: these, and the `)`
abbrev closing : List ReadSnippet → List ℕ
closing [] = codes ")"
closing (s ∷ []) = s.kept ++ codes ")"
closing (s ∷ t ∷ ss) = s.kept ++ (codes "|" ++ closing (t ∷ ss))

closing_begins : (s : ReadSnippet) (after : List ReadSnippet) → (back : List ℕ) × (closing (s ∷ after) ≡ s.kept ++ back)
closing_begins s [] = (codes ")", refl)
closing_begins s (t ∷ after) = (codes "|" ++ closing (t ∷ after), refl)

abbrev barred : List ReadSnippet → List ℕ
barred before = flat_map (λ s. s.kept ++ codes "|") before

closing_after : (before : List ReadSnippet) (s : ReadSnippet) (after : List ReadSnippet) → closing (before ++ s ∷ after) ≡ barred before ++ closing (s ∷ after)
closing_after [] s after = refl
closing_after (b ∷ []) s after = sym (ap (λ (t : List ℕ). t ++ closing (s ∷ after)) (append-nil (b.kept ++ codes "|")) ∙ append_assoc b.kept (codes "|") (closing (s ∷ after)))
closing_after (b ∷ d ∷ before) s after = grind (arith, closing_after (d ∷ before) s after, append_assoc)

module _ (lines : ℕ) (text : List ℕ) where
  abbrev pub PlacedFrom : List ReadSnippet → List ReadSnippet → Type 0
  PlacedFrom before [] = Unit {0}
  PlacedFrom before (s ∷ ss) = Placed lines text before s × PlacedFrom (before ++ s ∷ []) ss

  pub placed_push : (before ss : List ReadSnippet) (new : ReadSnippet) → PlacedFrom before ss → Placed lines text (before ++ ss) new → PlacedFrom before (ss ++ new ∷ [])
  placed_push before [] new h k = (subst (λ b. Placed lines text b new) (append-nil before) k, tt)
  placed_push before (s ∷ ss) new h k = (h.0, placed_push (before ++ s ∷ []) ss new h.1 (subst (λ b. Placed lines text b new) (sym (append_assoc before (s ∷ []) ss)) k))

  placed_at : (first before : List ReadSnippet) (s : ReadSnippet) (after : List ReadSnippet) → PlacedFrom first (before ++ s ∷ after) → Placed lines text (first ++ before) s
  placed_at first [] s after h = subst (λ b. Placed lines text b s) (sym (append-nil first)) h.0
  placed_at first (b ∷ before) s after h = subst (λ c. Placed lines text c s) (append_assoc first (b ∷ []) before) (placed_at (first ++ b ∷ []) before s after h.1)

  -- the snippets of notes that are ended are held in the kept text
  pub all_held : (earlier : List ReadSnippet) (last : ReadSnippet) → PlacedFrom [] (earlier ++ last ∷ []) → (before after : List ReadSnippet) (s : ReadSnippet) → earlier ++ last ∷ [] ≡ before ++ s ∷ after
      → IsHeld lines (whole_of text earlier last) text before s
  all_held earlier last h before after s e =
      let p = placed_at [] before s after (subst (PlacedFrom []) e h) in
      let prefix : List ℕ = text ++ bracket_with (λ b. b.kept) before in
      let begins = closing_begins s after in
      record {
        line_is = p.line_is;
        kept_is = p.kept_is;
        is_snippet = p.is_snippet;
        stands = record {
          prefix = prefix;
          back = begins.0;
          parts =
              ap (λ t. text ++ (codes "(" ++ t)) (sym (closing_after earlier last []) ∙ ap closing e ∙ closing_after before s after ∙ ap (λ t. barred before ++ t) begins.1)
              ∙ sym (append_assoc text (bracket_with (λ b. b.kept) before) (s.kept ++ begins.0));
          from_is = ap (λ (w : Span). w.from) p.span_is ∙ sym (bytes_are_size prefix);
          to_is = ap (λ (w : Span). w.to) p.span_is ∙ sym (bytes_are_size (prefix ++ s.kept));
        };
        after = refl;
      }

-- ---- bytes

-- a span that stands for a part of a text has that part's bytes
pub bytes_stand : (text : List ℕ) (span : Span) (part : List ℕ) → StandsFor text span part → slice span (encodes text) ≡ encodes part
unfolding slice
bytes_stand text span part h = grind (arith, bytes_are_size, size_append, encodes-append, drop_at, take_at)
