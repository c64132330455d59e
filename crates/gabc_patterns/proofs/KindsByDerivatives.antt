-- The kind of a text is that of the first row that may end after it.
use Rattle.std.proofs.Common.{◌≡◌, ℕ, List, [], ◌∷◌, Bool, true, false, cond, refl, ap, ◌∙◌, Option, Some}
use Rattle.std.proofs.lemmas.Bool.Decides.{same_from_decides}
use Rattle.gabc_patterns.specs.Pattern.{Pattern}
use Rattle.gabc_patterns.specs.LongestItems.{Table}
use Rattle.gabc_patterns.specs.Derivative.{may_end, derivative, possible, rows_after, rows_run, end_kind}
use Rattle.gabc_patterns.specs.Reads.{spells, kind_of}
use Rattle.gabc_patterns.proofs.DerivativesSpellWhatFollows.{after_to, after_from}
use Rattle.gabc_patterns.proofs.RowsAfterACharacter.{possible_to}
use Rattle.gabc_patterns.proofs.Spelled.{spells_from, spells_to, spells_decides}

-- a derivative spells what may follow
spelled_after : (p : Pattern) (c : ℕ) (t : List ℕ) → spells p (c ∷ t) ≡ spells (derivative c p) t
spelled_after p c t = same_from_decides (spells p (c ∷ t)) (spells (derivative c p) t) (spells_decides p (c ∷ t))
    (λ e. after_from p c t (spells_from (derivative c p) t e), λ h. spells_to (derivative c p) t (after_to p c t h))

-- a pattern that spells no text spells not this
none_spelled : (p : Pattern) (t : List ℕ) → possible p ≡ false → spells p t ≡ false
none_spelled p t e = go (spells p t) refl
  where
    go : (b : Bool) → spells p t ≡ b → b ≡ false
    go false f = refl
    go true f = absurd (let g = possible_to p t (spells_from p t f) in cc)

kind_after : {K : Type 0} (rows : Table K) (c : ℕ) (t : List ℕ) → kind_of rows (c ∷ t) ≡ kind_of (rows_after c rows) t
kind_after [] c t = refl
kind_after {K} (row ∷ rows) c t = go (possible (derivative c row.1)) refl (kind_after rows c t)
  where
    go : (b : Bool) → possible (derivative c row.1) ≡ b → kind_of rows (c ∷ t) ≡ kind_of (rows_after c rows) t
        → cond (spells row.1 (c ∷ t)) (Some row.0) (kind_of rows (c ∷ t)) ≡ kind_of (cond b ((row.0, derivative c row.1) ∷ rows_after c rows) (rows_after c rows)) t
    go true e h = ap (λ (s : Bool). cond s (Some row.0) (kind_of rows (c ∷ t))) (spelled_after row.1 c t) ∙ ap (λ (o : Option K). cond (spells (derivative c row.1) t) (Some row.0) o) h
    go false e h = ap (λ (s : Bool). cond s (Some row.0) (kind_of rows (c ∷ t))) (spelled_after row.1 c t ∙ none_spelled (derivative c row.1) t e) ∙ h

kind_at_end : {K : Type 0} (rows : Table K) → kind_of rows [] ≡ end_kind rows
kind_at_end [] = refl
kind_at_end {K} (row ∷ rows) = ap (λ (o : Option K). cond (may_end row.1) (Some row.0) o) (kind_at_end rows)

pub kind_is_end_kind : {K : Type 0} (rows : Table K) (t : List ℕ) → kind_of rows t ≡ end_kind (rows_run rows t)
kind_is_end_kind rows [] = kind_at_end rows
kind_is_end_kind rows (c ∷ t) = kind_after rows c t ∙ kind_is_end_kind (rows_after c rows) t
