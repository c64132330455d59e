-- The prefix of a text through a whole unit of its body is one of its fronts.
use Rattle.std.proofs.Common.{◌≡◌, ℕ, zero, suc, List, [], ◌∷◌, ◌++◌, length, take, Option, Some, None, refl, sym, ap, ◌∙◌, append-nil, append_assoc, arith}
use Rattle.std.specs.List.{flat_map}
use Rattle.std.proofs.lemmas.List.{take-append-drop}
use Rattle.std.proofs.Math.Seq.{take-append_seam}
use Rattle.gabc_places.specs.declared.place.Char.{Char}
use Rattle.gabc_text.specs.Events.{codes_of}
use Rattle.gabc_body.specs.Score.{after_heads, heads_text}
use Rattle.gabc_body.specs.SyllablesOfUnits.{body_characters, characters_from, characters_in, first_characters, through_unit, unit_characters, whole_count, whole_prefix}
use Rattle.gabc_body.specs.Units.{BodyCutting, BodyUnit, LastUnit, Units}
use Rattle.gabc_body.proofs.holding.ScoreHoldsParts.{codes_placed}
use Rattle.gabc_body.proofs.texts_of_body.TextEmitsThroughEnd.{codes_append}

units_first : (n : ℕ) (units : List BodyUnit) (last : LastUnit) → (after : List Char) × (characters_from units last ≡ flat_map characters_in (take n units) ++ after)
units_first zero units last = (characters_from units last, refl)
units_first (suc n) [] last = (characters_from [] last, refl)
units_first (suc n) (u ∷ units) last = grind (arith, units_first n units last, append_assoc)

through_first : (k : ℕ) (comment : List Char) (units : Option Units)
    → (after : List Char) × (comment ++ unit_characters units ≡ through_unit k (record { comment = comment; units = units }) ++ after)
through_first zero comment units = (comment ++ unit_characters units, refl)
through_first (suc k) comment None = ([], sym (append-nil (comment ++ [])))
through_first (suc k) comment (Some u) =
    let rest = units_first (suc k) u.closed u.last in
    (rest.0, ap (λ (l : List Char). comment ++ l) rest.1 ∙ sym (append_assoc comment (first_characters (suc k) (Some u)) rest.0))

-- a prefix of a text through a whole unit is one of its fronts
pub prefix_is_front : (t : List ℕ) (cut : BodyCutting) (n : ℕ) → body_characters t ≡ cut.comment ++ unit_characters cut.units → (m : ℕ) × (whole_prefix t cut n ≡ take m t)
prefix_is_front t cut n characters =
    let through = through_unit (whole_count n cut) cut in
    let rest = through_first (whole_count n cut) cut.comment cut.units in
    let after : after_heads t ≡ codes_of through ++ codes_of rest.0 =
    sym (codes_placed (heads_text t) (after_heads t)) ∙ (ap codes_of (characters ∙ rest.1) ∙ codes_append through rest.0) in
    let all : t ≡ whole_prefix t cut n ++ codes_of rest.0 =
    sym (take-append-drop _ t) ∙ (ap (λ (l : List ℕ). heads_text t ++ l) after ∙ sym (append_assoc (heads_text t) (codes_of through) (codes_of rest.0))) in
    let front = whole_prefix t cut n in
    (length front, sym (ap (λ (l : List ℕ). take (length front) l) all ∙ take-append_seam front (codes_of rest.0)))
