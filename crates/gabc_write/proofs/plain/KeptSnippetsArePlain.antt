-- What a snippet keeps of plain characters is plain.
use Rattle.std.proofs.Common.{◌≡◌, ℕ, List, [], ◌∷◌, ◌++◌, Bool, true, false, cond, if◌then◌else◌, refl, ap, ◌∙◌, reverse, arith}
use Rattle.std.proofs.lemmas.Grind.{reverse_onto}
use Rattle.std.proofs.lemmas.Bool.{and_parts, and_from}
use Rattle.gabc_body.proofs.texts_of_body.TextEmitsThroughEnd.{codes_append}
use Rattle.gabc_places.specs.declared.place.Char.{Char}
use Rattle.gabc_patterns.specs.LongestItems.{Table}
use Rattle.gabc_patterns.specs.Derivative.{is_snippet, is_viable}
use Rattle.gabc_patterns.specs.Function.{keep_from, trim_from}
use Rattle.gabc_text.specs.Events.{codes_of}
use Rattle.gabc_notes.specs.Events as notes
use Rattle.gabc_nabc.specs.Events as nabc
use Rattle.gabc_body.specs.Holding.{kept_on_line}
use Rattle.gabc_write.proofs.plain.PlainCharacters.{either, is_plain, plain, append}

module _ {K : Type 0} (rows : Table K) where
  with_last : (before : List ℕ) (c : ℕ) → plain before ≡ true → is_plain c ≡ true → plain (before ++ c ∷ []) ≡ true
  with_last before c h k = append is_plain before (c ∷ []) h (and_from (is_plain c) true k refl)

  pub keep_plain : (kept t : List ℕ) → plain kept ≡ true → plain t ≡ true → plain (keep_from rows kept t) ≡ true
  keep_plain kept [] h k = h
  keep_plain kept (c ∷ t) h k =
      let g = and_parts (is_plain c) (plain t) k in
      keep_plain (cond (is_viable rows (kept ++ c ∷ [])) (kept ++ c ∷ []) kept) t (either plain (is_viable rows (kept ++ c ∷ [])) (kept ++ c ∷ []) kept (with_last kept c h g.0) h) g.1

  pub trim_plain : (best before t : List ℕ) → plain best ≡ true → plain before ≡ true → plain t ≡ true → plain (trim_from rows best before t) ≡ true
  trim_plain best before [] h k m = h
  trim_plain best before (c ∷ t) h k m =
      let g = and_parts (is_plain c) (plain t) m in
      trim_plain (cond (is_snippet rows (before ++ c ∷ [])) (before ++ c ∷ []) best) (before ++ c ∷ []) t (either plain (is_snippet rows (before ++ c ∷ [])) (before ++ c ∷ []) best (with_last before c k g.0) h) (with_last before c k g.0) g.1

-- ---- the characters

reversed_plain : (xs : List Char) → plain (codes_of xs) ≡ true → plain (codes_of (reverse xs)) ≡ true
reversed_plain [] h = refl
reversed_plain (x ∷ xs) h =
    let g = and_parts (is_plain x.c) (plain (codes_of xs)) h in
    ap (λ (ys : List Char). plain (codes_of ys)) (reverse_onto xs x []) ∙ ap plain (codes_append (reverse xs) (x ∷ []))
    ∙ append is_plain (codes_of (reverse xs)) (x.c ∷ []) (reversed_plain xs g.1) (and_from (is_plain x.c) true g.0 refl)

outside_plain : (back : List Char) → plain (codes_of back) ≡ true → plain (notes.outside_comments (notes.with_comments back)) ≡ true
outside_plain [] h = refl
outside_plain (x ∷ back) h =
    let g = and_parts (is_plain x.c) (plain (codes_of back)) h in
    by (and_from (is_plain x.c) true g.0 refl) (outside_plain back g.1) (notes.goes_in_comment (notes.with_comments back) x.c)
  where
    by : plain (x.c ∷ []) ≡ true → plain (notes.outside_comments (notes.with_comments back)) ≡ true → (b : Bool) → plain (if b then notes.outside_comments (notes.with_comments back) else notes.outside_comments (notes.with_comments back) ++ x.c ∷ []) ≡ true
    by here earlier true = earlier
    by here earlier false = append is_plain (notes.outside_comments (notes.with_comments back)) (x.c ∷ []) earlier here

characters_plain : (t cs : List ℕ) → plain cs ≡ true → plain (nabc.characters_after t cs) ≡ true
characters_plain t [] h = refl
characters_plain t (c ∷ cs) h =
    let g = and_parts (is_plain c) (plain cs) h in
    by g.0 (characters_plain (t ++ c ∷ []) cs g.1) (nabc.is_character t c)
  where
    by : is_plain c ≡ true → plain (nabc.characters_after (t ++ c ∷ []) cs) ≡ true → (b : Bool) → plain (if b then c ∷ nabc.characters_after (t ++ c ∷ []) cs else nabc.characters_after (t ++ c ∷ []) cs) ≡ true
    by here later true = and_from (is_plain c) (plain (nabc.characters_after (t ++ c ∷ []) cs)) here later
    by here later false = later

pub kept_plain : (line : ℕ) (xs : List Char) → plain (codes_of xs) ≡ true → plain (kept_on_line line xs) ≡ true
kept_plain line xs h = grind (arith, trim_plain, keep_plain, outside_plain, reversed_plain, characters_plain)
