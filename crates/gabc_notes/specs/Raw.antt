-- Inside raw and in a comment, by positions.
use Rattle.std.specs.Prelude.{◌≡◌, ℕ, List, [], ◌∷◌, ◌++◌, ◌==◌, codes, false}
use Rattle.std.specs.List.{list_any}
use Rattle.gabc_places.specs.declared.place.Char.{Char}
use Rattle.gabc_patterns.specs.Pattern.{is_in}
use Rattle.gabc_patterns.specs.LongestItems.{IsReading, IsSnippet}
use Rattle.gabc_notes.specs.Table.{gabc}
use Rattle.gabc_notes.specs.Events.{in_raw, kept, opener, ItemText}
use Rattle.gabc_notes.specs.declared.item.ItemKind.TheVariants.{Fusion}

-- The text is a snippet whose last item is no `@`, a `[`, and no `]` from there on.
pub record IsOpen (t : List ℕ) : Type 0 where
  pub before : List ℕ
  pub after : List ℕ
  pub cut : t ≡ before ++ 91 ∷ after
  pub snippet : IsSnippet gabc before
  pub not_at : (items : List ItemText) → ¬ IsReading gabc (items ++ (Fusion, codes "@") ∷ []) before
  pub unclosed : is_in 93 after ≡ false

-- The characters, the nearest first, end with a `%` outside raw and what follows it, and there is
-- no LF from there on.
pub record InComment (back : List Char) : Type 0 where
  pub line : List Char
  pub mark : Char
  pub before : List Char
  pub cut : back ≡ line ++ mark ∷ before
  pub percent : mark.c ≡ 37
  pub outside : in_raw (kept before) ≡ false
  pub no_feed : list_any (λ (x : Char). x.c == 10) line ≡ false

-- The characters, the nearest first, end with a `[` at the opener's place and what follows it.
-- Before it the kept text lies outside raw; what is kept from it on is that `[` and no `]`.
pub record IsOpenedAt (back : List Char) : Type 0 where
  pub line : List Char
  pub mark : Char
  pub before : List Char
  pub cut : back ≡ line ++ mark ∷ before
  pub bracket : mark.c ≡ 91
  pub place : mark.place ≡ opener back
  pub outside : in_raw (kept before) ≡ false
  pub after : List ℕ
  pub kept_is : kept back ≡ kept before ++ 91 ∷ after
  pub unclosed : is_in 93 after ≡ false
